-- Names as a map keeps them.
use Rattle.std.proofs.Common.{◌≡◌, ℕ, Bool, true, false, cond, refl, ap, ◌∙◌, Option, Some, unwrap_or}
use Rattle.obj_linker.specs.declared.name.Name.{Name}
use Rattle.obj_linker.specs.Known.{unknown}

-- what is known of a name was set
pub unwrapped : (t : Bool) (known : Name) (o : Option Name) → unwrap_or (cond t (Some known) o) unknown ≡ cond t known (unwrap_or o unknown)
unwrapped true known o = refl
unwrapped false known o = refl
