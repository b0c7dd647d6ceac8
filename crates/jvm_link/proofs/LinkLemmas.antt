-- The first fault of classes.
use Rattle.std.proofs.Common.{◌≡◌, ◌≤◌, Bool, true, false, cond, ltb, List, [], length, Option, Some, None, refl, sym, ap, subst, ◌∙◌}
use Rattle.std.specs.Option.{option_or}
use Rattle.std.proofs.lemmas.Bool.{le-ltb}
use Rattle.class_definition.specs.declared.class.Class.{Class}
use Rattle.class_definition.specs.declared.link_fault.LinkFault.{LinkFault}
use Rattle.class_names.specs.declared.link_error.LinkError.{LinkError}
use Rattle.class_names.specs.declared.link_error.LinkError.TheVariants.{NoMemory}
use Rattle.class_definition.specs.LinkFault.{too_many, no_run, at_class, twice_fault, references_fault, has_run, run_fault, link_fault}
use Rattle.class_names.specs.Answer.{IsAnswer}
use Rattle.jvm_link.specs.Meant.{IsMeant}

few_fault : (cs : List Class) → length cs ≤ 1024 → link_fault cs ≡ option_or (twice_fault [] 0 cs) (option_or (references_fault cs 0 cs) (run_fault cs))
few_fault cs few = ap (λ b. cond b (at_class too_many 1024) (option_or (twice_fault [] 0 cs) (option_or (references_fault cs 0 cs) (run_fault cs)))) (le-ltb 1024 (length cs) few)

pub refused_there : (cs ds : List Class) (f : LinkFault) → length cs ≤ 1024 → ds ≡ cs → twice_fault [] 0 ds ≡ None → Some f ≡ references_fault ds 0 ds → link_fault cs ≡ Some f
refused_there cs ds f few same once found =
    few_fault cs few ∙ ap (λ o. option_or o (option_or (references_fault cs 0 cs) (run_fault cs))) (ap (twice_fault [] 0) (sym same) ∙ once)
    ∙ ap (λ o. option_or o (run_fault cs)) (ap (λ (xs : List Class). references_fault xs 0 xs) (sym same) ∙ sym found)

pub meant : (cs ds : List Class) → ds ≡ cs → twice_fault [] 0 ds ≡ None → references_fault ds 0 ds ≡ None → IsMeant cs
meant cs ds same once there = record {
  once = ap (twice_fault [] 0) (sym same) ∙ once;
  there = ap (λ (xs : List Class). references_fault xs 0 xs) (sym same) ∙ there;
}

pub no_memory : (found : Option LinkFault) (e : LinkError) → e ≡ NoMemory → IsAnswer found e
no_memory found e is = let P : LinkError → Type 0 = λ x. IsAnswer found x in subst P (sym is) tt

-- classes without a fault have a first method
pub run_there_if : (cs : List Class) → link_fault cs ≡ None → has_run cs ≡ true
run_there_if cs none = by (ltb 1024 (length cs)) (twice_fault [] 0 cs) (references_fault cs 0 cs) (has_run cs) none
  where
    by : (b : Bool) (o q : Option LinkFault) (h : Bool) → cond b (at_class too_many 1024) (option_or o (option_or q (cond h None (at_class no_run 0)))) ≡ None → h ≡ true
    by b o q true e = refl
    by true o q false e = absurd cc
    by false (Some f) q false e = absurd cc
    by false None (Some f) false e = absurd cc
    by false None None false e = absurd cc
