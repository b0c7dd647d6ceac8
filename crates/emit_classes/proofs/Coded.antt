-- A pool with the constants of code behind it.
use Rattle.std.proofs.Common.{◌≡◌, ℕ, zero, suc, ◌-◌, ◌≤◌, ◌&&◌, Bool, true, List, [], ◌∷◌, ◌++◌, length, Option, Some, None, inl, inr}
use Rattle.std.proofs.Common.{refl, sym, subst, ◌∙◌, arith}
use Rattle.std.specs.Prelude.{slice_get}
use Rattle.std.specs.Option.{option_and_then}
use Rattle.std.specs.List.{list_all, list_any}
use Rattle.std.proofs.lemmas.Bool.{and_parts, and_from, or_cases, eqb-true}
use Rattle.std.proofs.lemmas.Option.{same_Some}
use Rattle.class_definition.specs.declared.entry.Entry.{Entry}
use Rattle.class_definition.specs.declared.entry.Entry.TheVariants.{Utf8, Integer, Long, LongRest, ClassName, Text, FieldRef, MethodRef}
use Rattle.class_definition.specs.declared.entry.Entry.TheVariants.{NameAnd}
use Rattle.class_definition.specs.PoolEntries.{utf8_of}
use Rattle.constant_pool.specs.Slots.{IsAt}
use Rattle.class_definition.specs.PoolChecks.{entry_at, pool_entry_fault}
use Rattle.jvm_definition.specs.declared.constant.Constant.TheVariants as constants
use Rattle.jvm_definition.specs.declared.instruction.Instruction.TheVariants.{Push}
use Rattle.emit_steps.specs.declared.step.Step.{Step}
use Rattle.emit_steps.specs.declared.step.Step.TheVariants.{Does}
use Rattle.emit_assembly.specs.declared.references.References.{References}
use Rattle.emit_assembly.specs.Assembling.{Extends, Adds, can_stand, pushes_text, is_constant_of, can_be_assembled, is_method}
use Rattle.emit_classes.specs.declared.slot_kind.SlotKind.{SlotKind}
use Rattle.emit_classes.specs.declared.slot_kind.SlotKind.TheVariants.{Other}
use Rattle.emit_classes.specs.Lawful.{is_text, has_text}
use Rattle.emit_classes.specs.Code.{has_its_text, has_texts, is_code}
use Rattle.emit_classes.specs.Sound.{IsPool, kind_of, AreKinds, IsKeptBuilder}
use Rattle.emit_classes.proofs.Growing.{stays-behind}
use Rattle.emit_classes.proofs.Stays.{StaysSome, Stays, text-stays}
use Rattle.emit_classes.proofs.Sound.{pool-more, get-front, get-behind, at-index, index-at}

-- ---- texts that are pushed are there

pushed : (pool : List Entry) (slot : ℕ) (s : Step) → pushes_text slot s ≡ true → has_its_text pool s ≡ true → has_text pool slot ≡ true
pushed pool slot (Does (Push (constants.Text class text))) is known =
    let same : text ≡ slot = eqb-true text slot is in
    subst (λ (n : ℕ). has_text pool n ≡ true) same known
pushed pool slot _ is known = absurd cc

all-pushed : (pool : List Entry) (slot : ℕ) (code : List Step) → list_any (pushes_text slot) code ≡ true → has_texts pool code ≡ true
    → has_text pool slot ≡ true
all-pushed pool slot [] is known = absurd cc
all-pushed pool slot (s ∷ code) is known =
    let p = and_parts (has_its_text pool s) (has_texts pool code) known in
    elim (or_cases (pushes_text slot s) (list_any (pushes_text slot) code) is) [
      | inl here ↦ pushed pool slot s here p.0
      | inr later ↦ all-pushed pool slot code later p.1
    ]

text-there : (o : Option Entry) → is_text o ≡ true → (text : List ℕ) × (option_and_then utf8_of o ≡ Some text)
text-there None is = absurd cc
text-there (Some (Utf8 cs)) is = (cs, refl)
text-there (Some (Integer n)) is = absurd cc
text-there (Some (Long n)) is = absurd cc
text-there (Some LongRest) is = absurd cc
text-there (Some (ClassName n)) is = absurd cc
text-there (Some (Text n)) is = absurd cc
text-there (Some (FieldRef n m)) is = absurd cc
text-there (Some (MethodRef n m)) is = absurd cc
text-there (Some (NameAnd n m)) is = absurd cc

-- ---- constants are sound

constant-sound : (old new : List Entry) (code : List Step) (e : Entry) → Stays old new → has_texts old code ≡ true
    → is_constant_of code e ≡ true → pool_entry_fault new e ≡ None
unfolding pool_entry_fault
constant-sound old new code (Integer n) stays known is = refl
constant-sound old new code (Long n) stays known is = refl
constant-sound old new code LongRest stays known is = refl
constant-sound old new code (Text slot) stays known is =
    let there = text-there (entry_at old slot) (all-pushed old slot code is known) in
    rw (text-stays old new stays slot there.0 there.1) refl
constant-sound old new code (Utf8 cs) stays known is = absurd cc
constant-sound old new code (ClassName n) stays known is = absurd cc
constant-sound old new code (FieldRef n m) stays known is = absurd cc
constant-sound old new code (MethodRef n m) stays known is = absurd cc
constant-sound old new code (NameAnd n m) stays known is = absurd cc

all-at : (p : Entry → Bool) (es : List Entry) (i : ℕ) (e : Entry) → list_all p es ≡ true → slice_get es i ≡ Some e → p e ≡ true
all-at p [] i e all at = absurd cc
all-at p (x ∷ es) zero e all at = rw (← same_Some x e at) (and_parts (p x) (list_all p es) all).0
all-at p (x ∷ es) (suc i) e all at = all-at p es i e (and_parts (p x) (list_all p es) all).1 at

-- ---- what such a pool keeps

constant-kind : (code : List Step) (e : Entry) → is_constant_of code e ≡ true → kind_of (Some e) ≡ Other
constant-kind code (Integer n) is = refl
constant-kind code (Long n) is = refl
constant-kind code LongRest is = refl
constant-kind code (Text slot) is = refl
constant-kind code (Utf8 cs) is = absurd cc
constant-kind code (ClassName n) is = absurd cc
constant-kind code (FieldRef n m) is = refl
constant-kind code (MethodRef n m) is = refl
constant-kind code (NameAnd n m) is = refl

kind-kept : (o p : Option Entry) → StaysSome o p → ((e : Entry) → o ≡ None → p ≡ Some e → kind_of (Some e) ≡ Other) → kind_of o ≡ kind_of p
kind-kept (Some e) p stays new = rw (stays e refl) refl
kind-kept None None stays new = refl
kind-kept None (Some e) stays new = sym (new e refl refl)

module _ (code : List Step) (old behind : List Entry) (constants : list_all (is_constant_of code) behind ≡ true) where
  new-kind : (place : ℕ) (e : Entry) → entry_at old place ≡ None → entry_at (old ++ behind) place ≡ Some e → kind_of (Some e) ≡ Other
  new-kind zero e none is = absurd cc
  new-kind (suc i) e none is =
      let k : suc i - 1 ≡ i = omega arith in
      elim (get-behind old behind i e (rw k at (at-index (old ++ behind) (suc i) e is))) [
        | inl here ↦ let there : IsAt old (suc i) e = index-at old i e here in absurd cc
        | inr there ↦ constant-kind code e (all-at (is_constant_of code) behind there.0 e constants there.1)
      ]

  kinds-coded : (kinds : List SlotKind) → AreKinds old kinds → AreKinds (old ++ behind) kinds
  kinds-coded kinds are = record {
    count = are.count;
    kind = λ place. are.kind place ∙ kind-kept (entry_at old place) (entry_at (old ++ behind) place) (get-front old behind place)
        (λ e none is. new-kind place e none is);
  }

  sound-coded : IsPool old → has_texts old code ≡ true → can_stand behind ≡ true → length (old ++ behind) ≤ 65534 → IsPool (old ++ behind)
  sound-coded was known spelled few =
      let stays = get-front old behind in
      pool-more old behind was stays few spelled
      (λ i e at. constant-sound old (old ++ behind) code e stays known (all-at (is_constant_of code) behind i e constants at))

-- ---- what the constants of code leave of a pool that is kept

pub kept-coded : (code : List Step) (old new : List Entry) (kinds : List SlotKind) → Adds code old new → has_texts old code ≡ true
    → length new ≤ 65534 → IsKeptBuilder old kinds → IsKeptBuilder new kinds
kept-coded code old new kinds a known few kept =
    let few' : length (old ++ a.behind) ≤ 65534 = rw a.is at few in
    rw a.is (record {
      sound = sound-coded code old a.behind a.constants kept.sound known a.stand few';
      kinds_are = kinds-coded code old a.behind a.constants kinds kept.kinds_are;
    })

-- ---- which steps are code

pub known : (r : References) (pool : List Entry) (code : List Step) → is_code r pool code ≡ true → has_texts pool code ≡ true
known r pool code is = (and_parts (can_be_assembled r code && is_method code) (has_texts pool code) is).1

text-same : (o p : Option Entry) → StaysSome o p → is_text o ≡ true → is_text p ≡ true
text-same None p stays is = absurd cc
text-same (Some e) p stays is = rw (stays e refl) is

its_text-later : (old new : List Entry) (s : Step) → Stays old new → has_its_text old s ≡ true → has_its_text new s ≡ true
its_text-later old new (Does (Push (constants.Text class slot))) stays is = text-same (entry_at old slot) (entry_at new slot) (stays slot)
    is
its_text-later old new _ stays is = refl

texts-later : (old new : List Entry) (code : List Step) → Stays old new → has_texts old code ≡ true → has_texts new code ≡ true
texts-later old new [] stays is = refl
texts-later old new (s ∷ code) stays is =
    let p = and_parts (has_its_text old s) (has_texts old code) is in
    and_from (has_its_text new s) (has_texts new code) (its_text-later old new s stays p.0) (texts-later old new code stays p.1)

pub code-later : (r : References) (old new : List Entry) (code : List Step) → Extends old new → is_code r old code ≡ true
    → is_code r new code ≡ true
code-later r old new code x is =
    let p = and_parts (can_be_assembled r code && is_method code) (has_texts old code) is in
    and_from (can_be_assembled r code && is_method code) (has_texts new code) p.0 (texts-later old new code (stays-behind old new x) p.1)
