-- The first fault.
use Rattle.std.proofs.Common.{◌≡◌, ◌<◌, ◌+◌, ℕ, List, length, get_or, drop, Option, Some, None, sym, ◌∙◌, subst}
use Rattle.std.specs.Option.{option_or}
use Rattle.std.proofs.lemmas.List.{at_drop_more}
use Rattle.elf_definition.specs.declared.obj_fault.ObjFault.{ObjFault}
use Rattle.obj_reader.specs.declared.obj_error.ObjError.{ObjError}
use Rattle.obj_reader.specs.declared.obj_error.ObjError.TheVariants.{Refused, NoMemory}
use Rattle.obj_reader.specs.Fault.{IsAnswer, object_fails_at, first_place}

-- a fault that comes first is the first
pub first_comes : (check later : Option ObjFault) (e : ObjError) → IsAnswer check e → IsAnswer (option_or check later) e
first_comes (Some f) later (Refused g) h = h
first_comes (Some f) later NoMemory h = tt
first_comes None later (Refused g) h = absurd (cc)
first_comes None later NoMemory h = tt

-- the place of an element is the first, where those before have none
pub first_place_here : {X : Type 0} (place : X → Option ℕ) (xs : List X) (i : ℕ) (d : X) (object kind : ℕ) (later : Option ObjFault) (e : ObjError)
    → i < length xs → first_place place (drop i xs) ≡ first_place place xs
    → IsAnswer (object_fails_at object kind (place (get_or xs i d))) e
    → IsAnswer (option_or (object_fails_at object kind (first_place place xs)) later) e
first_place_here place xs i d object kind later e lt same fault =
    let next = at_drop_more (first_place place) xs i d lt in
    let whole : option_or (place (get_or xs i d)) (first_place place (drop (i + 1) xs)) ≡ first_place place xs = sym next ∙ same in
    first_comes (object_fails_at object kind (first_place place xs)) later e
    (subst (λ o. IsAnswer (object_fails_at object kind o) e) whole (by (place (get_or xs i d)) (first_place place (drop (i + 1) xs)) e fault))
  where
    by : (o others : Option ℕ) (e : ObjError) → IsAnswer (object_fails_at object kind o) e → IsAnswer (object_fails_at object kind (option_or o others)) e
    by (Some at) others e h = h
    by None others (Refused g) h = absurd (cc)
    by None others NoMemory h = tt
