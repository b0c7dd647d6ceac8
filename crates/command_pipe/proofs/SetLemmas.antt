-- Sets that are accepted one after the other.
use Rattle.std.proofs.Common.{◌≡◌, List, [], ◌∷◌, ◌++◌, Result, Ok, Err, refl, sym, ap, subst, append_assoc}
use Rattle.std.proofs.lemmas.List.{append-nil}
use Rattle.nv_outside.specs.Files.{Files}
use Rattle.nv_outside.proofs.FilesLemmas.{agree_before}
use Rattle.command_words.specs.declared.named_class.NamedClass.{NamedClass}
use Rattle.class_definition.specs.declared.class.Class.{Class}
use Rattle.command_deeds.specs.Checks.{Check, shown}
use Rattle.command_deeds.specs.Ends.{CommandAnswer, GivesEnd, Over}
use Rattle.command_deeds.specs.World.{SameShelf, Seen}
use Rattle.command_deeds.specs.declared.stop.Stop.{Stop}
use Rattle.command_deeds.proofs.DeedLemmas.{over_any, same_shelf, same_then_load, same_then_shelf}
use Rattle.command_guest.specs.Classes.{IsAcceptedSet}
use Rattle.command_pipe.specs.Sets.{AreAccepted}

-- sets before what others come to
abbrev pub behind : List (List Class) → Check (List (List Class)) → Check (List (List Class))
behind sets check = shown (λ others. sets ++ others) check

none_before : (check : Check (List (List Class))) → check ≡ behind [] check
none_before (Ok others) = refl
none_before (Err answer) = refl

one_before : (sets : List (List Class)) (set : List Class) (check : Check (List (List Class)))
    → behind sets (shown (λ others. set ∷ others) check) ≡ behind (sets ++ set ∷ []) check
one_before sets set (Ok others) = ap (λ (all : List (List Class)). Ok all) (sym (append_assoc sets (set ∷ []) others))
one_before sets set (Err answer) = refl

-- Of the classes these are left, and those before them were accepted with these sets: whatever the others come to, all come to it behind these
-- sets.
pub record HasAccepted (old now : Seen Files) (classes rest : List NamedClass) (sets : List (List Class)) : Type 0 where
  pub same : SameShelf old now
  pub all : (check : Check (List (List Class))) → AreAccepted old.told rest check → AreAccepted old.told classes (behind sets check)

pub none_accepted : (shelf : Seen Files) (classes : List NamedClass) → HasAccepted shelf shelf classes classes []
none_accepted shelf classes = record {
  same = same_shelf shelf;
  all = λ check are. subst (AreAccepted shelf.told classes) (none_before check) are;
}

-- one more was
pub one_more : (a b c : Seen Files) (classes rest : List NamedClass) (class : NamedClass) (sets : List (List Class)) (set : List Class)
    → HasAccepted a b classes (class ∷ rest) sets → Over (λ files. IsAcceptedSet class files (Ok set)) b c
    → HasAccepted a c classes rest (sets ++ set ∷ [])
one_more a b c classes rest class sets set h o = record {
  same = same_then_shelf a b c h.same o.same;
  all = λ check are. subst (AreAccepted a.told classes) (one_before sets set check)
      (h.all (shown (λ others. set ∷ others) check)
      (o.files, agree_before a.told b.told o.files h.same.0 o.agree, (Ok set, o.is, (check, are, refl))));
}

-- one was refused, or not loaded
pub one_ends : (a b c : Seen Files) (classes rest : List NamedClass) (class : NamedClass) (sets : List (List Class)) (end : Result CommandAnswer Stop)
    → HasAccepted a b classes (class ∷ rest) sets → GivesEnd (λ files answer. IsAcceptedSet class files (Err answer)) b c end
    → GivesEnd (λ files answer. AreAccepted a.told classes (Err answer)) a c end
one_ends a b c classes rest class sets (Err stop) h q = same_then_load a b c stop h.same q
one_ends a b c classes rest class sets (Ok answer) h q =
    let agree = agree_before a.told b.told q.1.files h.same.0 q.1.agree in (
      q.0,
      record {
        files = q.1.files;
        agree = agree;
        same = same_then_shelf a b c h.same q.1.same;
        is = h.all (Err answer) (q.1.files, agree, (Err answer, q.1.is, refl));
      },
    )

-- all were
pub all_accepted : (a b : Seen Files) (classes : List NamedClass) (sets : List (List Class)) → HasAccepted a b classes [] sets
    → Over (λ files. AreAccepted a.told classes (Ok sets)) a b
all_accepted a b classes sets h =
    over_any (λ files. AreAccepted a.told classes (Ok sets)) a b h.same
    (λ files. subst (λ (s : List (List Class)). AreAccepted a.told classes (Ok s)) (append-nil sets) (h.all (Ok []) refl))
