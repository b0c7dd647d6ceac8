-- The names of the other classes, and of what the main class calls of them.
use Rattle.std.proofs.Common.{◌≡◌, ◌∙◌, ℕ, ◌<◌, ◌^◌, true, List, ap, subst, sym}
use Rattle.nv_values.specs.Names.{IsClassName}
use Rattle.translate_classes.specs.Making.{nothing}
use Rattle.translate_classes.specs.declared.other_class.OtherClass.{OtherClass}
use Rattle.translate_classes.specs.declared.other_class.OtherClass.TheVariants.{Code, Data}
use Rattle.translate_classes.specs.Called.{class_name, method_name}
use Rattle.translate_classes.specs.Room.{can_name_method, is_own_name}
use Rattle.translate_classes.proofs.LawfulNames.CharacterLemmas.{code-own, data-own}
use Rattle.translate_classes.proofs.LawfulNames.MemberLemmas.{run-named, fill-named}

class-own : (kind : OtherClass) (main : List ℕ) (i : ℕ) → IsClassName main → i < 2 ^ 15 → is_own_name (class_name kind main i) ≡ true
class-own Code main i is low = code-own main i is low
class-own Data main i is low = data-own main i is low

pub other-own : (kind : OtherClass) (main text name : List ℕ) (i : ℕ) → IsClassName main → i < 2 ^ 15 → text ≡ main → name ≡ class_name kind text i
    → is_own_name name ≡ true
other-own kind main text name i is low same named =
    subst (λ n. is_own_name n ≡ true) (sym (named ∙ ap (λ m. class_name kind m i) same)) (class-own kind main i is low)

pub called-named : (kind : OtherClass) → can_name_method (method_name kind) nothing ≡ true
called-named Code = run-named
called-named Data = fill-named
