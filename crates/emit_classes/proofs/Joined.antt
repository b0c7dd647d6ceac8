-- A pool with one more entry.
use Rattle.std.proofs.Common.{◌≡◌, ◌↔◌, ℕ, zero, suc, ◌+◌, ◌-◌, ◌<◌, ◌≤◌, Bool, true, false, eqb, if◌then◌else◌, ◌==◌, List, [], ◌∷◌, ◌++◌}
use Rattle.std.proofs.Common.{length, get_or, replicate, Some, None, Result, Ok, Err, ◌⊎◌, inl, inr, refl, sym, ap, ◌∙◌, arith}
use Rattle.std.specs.Prelude.{slice_get, slice_index_or, slice_set, IsOk}
use Rattle.std.proofs.lemmas.Bool.{and_from, ne_eqb, cases_eq, cases_lt}
use Rattle.std.proofs.lemmas.Option.{same_Some, slice_get_within}
use Rattle.std.proofs.lemmas.List.{length-append, get_or-set_same, get_or-set_other, get_or-replicate, get_or_past, length-set}
use Rattle.std.proofs.lemmas.List.{length-replicate}
use Rattle.class_definition.specs.declared.entry.Entry.{Entry}
use Rattle.class_definition.specs.declared.entry.Entry.TheVariants.{Utf8, Integer, Long, LongRest, ClassName, Text, FieldRef, MethodRef}
use Rattle.class_definition.specs.declared.entry.Entry.TheVariants.{NameAnd}
use Rattle.constant_pool.specs.declared.error.PoolError.{PoolError}
use Rattle.constant_pool.specs.declared.error.PoolError.TheVariants.{Full}
use Rattle.class_definition.specs.PoolEntries.{entry, slot}
use Rattle.class_definition.specs.PoolChecks.{entry_at, pool_entry_fault}
use Rattle.constant_pool.specs.Slots.{IsAt, IsMissing, is_rest, slots_of_entry}
use Rattle.emit_classes.specs.declared.slot_kind.SlotKind.{SlotKind}
use Rattle.emit_classes.specs.declared.slot_kind.SlotKind.TheVariants.{Other}
use Rattle.emit_classes.specs.Sound.{IsPool, MayJoin, kind_of, AreKinds, IsKeptBuilder}
use Rattle.emit_classes.proofs.Stays.{Stays}
use Rattle.emit_classes.proofs.Sound.{pool-parts, pool-of-parts, pool-more, entry_fault-stays, at-index, get-front}

-- ---- an entry that may join takes one slot

pub no_rest : (e : Entry) → (slot false 0).fits e ≡ true → is_rest e ≡ false
unfolding entry
no_rest (Utf8 cs) fits = refl
no_rest (Integer n) fits = refl
no_rest (Long n) fits = refl
no_rest LongRest fits = absurd cc
no_rest (ClassName n) fits = refl
no_rest (Text n) fits = refl
no_rest (FieldRef n m) fits = refl
no_rest (MethodRef n m) fits = refl
no_rest (NameAnd n m) fits = refl

pub one_slot : (e : Entry) → (slot false 0).fits e ≡ true → slots_of_entry e ≡ e ∷ []
unfolding entry
one_slot (Utf8 cs) fits = refl
one_slot (Integer n) fits = refl
one_slot (Long n) fits = absurd cc
one_slot LongRest fits = refl
one_slot (ClassName n) fits = refl
one_slot (Text n) fits = refl
one_slot (FieldRef n m) fits = refl
one_slot (MethodRef n m) fits = refl
one_slot (NameAnd n m) fits = refl

-- ---- what adding it gives

pub record Joined (old new : List Entry) (slot : ℕ) (e : Entry) : Type 0 where
  pub there : IsAt new slot e
  pub grown : (new ≡ old) ⊎ (new ≡ old ++ e ∷ [])
  pub place : new ≡ old ++ e ∷ [] → slot ≡ suc (length old)
  pub few : length new ≤ 65534

longer : (old : List Entry) (e : Entry) → old ≡ old ++ e ∷ [] → ⊥
longer old e same =
    let k : length old ≡ length old + 1 = ap length same ∙ length-append old (e ∷ []) in
    omega arith

slice_get-push : (xs : List Entry) (y : Entry) (i : ℕ) → (i ≡ length xs → ⊥) → slice_get (xs ++ y ∷ []) i ≡ slice_get xs i
slice_get-push [] y zero other = absurd (other refl)
slice_get-push [] y (suc i) other = refl
slice_get-push (x ∷ xs) y zero other = refl
slice_get-push (x ∷ xs) y (suc i) other = slice_get-push xs y i (λ same. other (ap suc same))

entry_at-push : (xs : List Entry) (y : Entry) (n : ℕ) → (n ≡ suc (length xs) → ⊥) → entry_at (xs ++ y ∷ []) n ≡ entry_at xs n
entry_at-push xs y zero other = refl
entry_at-push xs y (suc i) other =
    let no : eqb (suc i) 0 ≡ false = ne_eqb (suc i) 0 (λ z. omega arith) in
    let k : suc i - 1 ≡ i = omega arith in
    rw (no, k) (slice_get-push xs y i (λ same. other (ap suc same)))

new_place : (old new : List Entry) (slot : ℕ) (e : Entry) → IsAt new slot e → ((s : ℕ) → IsAt old s e → new ≡ old) → new ≡ old ++ e ∷ []
    → slot ≡ suc (length old)
new_place old new slot e there present grown =
    elim (cases_eq slot (suc (length old))) [
      | inl same ↦ same
      | inr other ↦
          let at : IsAt old slot e = sym (entry_at-push old e slot other) ∙ sym (ap (λ xs. entry_at xs slot) grown) ∙ there in
          absurd (longer old e (sym (present slot at) ∙ grown))
    ]

few_places : (old new : List Entry) (r : Result ℕ PoolError) (place size : ℕ) (e : Entry) → r ≡ Ok place → size ≡ 1
    → ((s : ℕ) → IsAt old s e → new ≡ old)
    → ((r ≡ Err Full) ↔ (IsMissing old e × (65534 < length old + size))) → (new ≡ old) ⊎ (new ≡ old ++ e ∷ []) → length old ≤ 65534
    → length new ≤ 65534
few_places old new r place size e ok one present full (inl same) few = rw same few
few_places old new r place size e ok one present full (inr grown) few =
    let k : length new ≡ length old + 1 = ap length grown ∙ length-append old (e ∷ []) in
    elim (cases_lt 65534 (length old + 1)) [
      | inl many ↦
          let missing : IsMissing old e = λ s at. longer old e (sym (present s at) ∙ grown) in
          let err : r ≡ Err Full = full.1 (missing, omega arith) in
          absurd cc
      | inr fits ↦ omega arith
    ]

pub joined : (old new : List Entry) (place : ℕ) (e : Entry) → IsPool old → MayJoin old e → IsAt new place e
    → ((s : ℕ) → IsAt old s e → IsOk {E = PoolError} (Ok place) × (new ≡ old))
    → ((Ok place ≡ Err Full) ↔ (IsMissing old e × (65534 < length old + length (slots_of_entry e))))
    → (new ≡ old) ⊎ (new ≡ old ++ slots_of_entry e) → Joined old new place e
joined old new place e was may there present full grown =
    let one = one_slot e may.spelled in
    let grew : (new ≡ old) ⊎ (new ≡ old ++ e ∷ []) = rw one at grown in
    let few : length old ≤ 65534 = (pool-parts old was).few in
    let stays : (s : ℕ) → IsAt old s e → new ≡ old = λ s at. (present s at).1 in
    record {
      there = there;
      grown = grew;
      place = new_place old new place e there stays;
      few = few_places old new (Ok place) place (length (slots_of_entry e)) e refl (ap length one) stays full grew few;
    }

pub one_more : (pool old : List Entry) (e : Entry) → pool ≡ old → MayJoin old e → 65534 < length pool + length (slots_of_entry e)
    → 65534 < length old + 1
one_more pool old e is may many =
    let k : length pool ≡ length old = ap length is in
    let n : length (slots_of_entry e) ≡ 1 = ap length (one_slot e may.spelled) in
    omega arith

-- ---- what is kept

stays-front : (old behind : List Entry) → Stays old (old ++ behind)
stays-front old behind = get-front old behind

sound_only : (pool : List Entry) (e x : Entry) (i : ℕ) → slice_get (e ∷ []) i ≡ Some x → pool_entry_fault pool e ≡ None
    → pool_entry_fault pool x ≡ None
sound_only pool e x zero at sound = rw (← same_Some e x at) sound
sound_only pool e x (suc i) at sound = absurd cc

pool_grown : (old new : List Entry) (e : Entry) → IsPool old → MayJoin old e → length new ≤ 65534 → (new ≡ old) ⊎ (new ≡ old ++ e ∷ [])
    → IsPool new
pool_grown old new e was may few (inl same) = rw same was
pool_grown old new e was may few (inr grown) =
    let stays = stays-front old (e ∷ []) in
    let sound = entry_fault-stays old (old ++ e ∷ []) stays (pool-parts old was).sound e may.sound in
    rw grown (pool-more old (e ∷ []) was stays (rw grown at few) (and_from _ true may.spelled refl)
    (λ i x at. sound_only (old ++ e ∷ []) e x i at sound))

pub pool-joined : (old new : List Entry) (slot : ℕ) (e : Entry) → IsPool old → MayJoin old e → Joined old new slot e → IsPool new
pool-joined old new slot e was may j = pool_grown old new e was may j.few j.grown

kind-grown : (old new : List Entry) (slot n : ℕ) (e : Entry) → (n ≡ slot → ⊥) → (new ≡ old ++ e ∷ [] → slot ≡ suc (length old))
    → (new ≡ old) ⊎ (new ≡ old ++ e ∷ [])
    → entry_at new n ≡ entry_at old n
kind-grown old new slot n e other place (inl same) = ap (λ xs. entry_at xs n) same
kind-grown old new slot n e other place (inr grown) =
    ap (λ xs. entry_at xs n) grown ∙ entry_at-push old e n (λ is. other (is ∙ sym (place grown)))

kind-joined : (old new : List Entry) (kinds : List SlotKind) (slot n : ℕ) (e : Entry) → slot < 65536 → AreKinds old kinds
    → Joined old new slot e → (n ≡ slot) ⊎ (n ≡ slot → ⊥)
    → slice_index_or (slice_set kinds slot (kind_of (Some e))) n Other ≡ kind_of (entry_at new n)
kind-joined old new kinds slot n e small are j (inl here) =
    let count = are.count in
    let within : slot < length kinds = omega arith in
    rw here (get_or-set_same kinds slot (kind_of (Some e)) Other within ∙ sym (ap kind_of j.there))
kind-joined old new kinds slot n e small are j (inr other) =
    get_or-set_other kinds slot n (kind_of (Some e)) Other other ∙ are.kind n ∙ sym
    (ap kind_of (kind-grown old new slot n e other j.place j.grown))

pub kinds-joined : (old new : List Entry) (kinds : List SlotKind) (slot : ℕ) (e : Entry) → slot < 65536 → AreKinds old kinds
    → Joined old new slot e
    → AreKinds new (slice_set kinds slot (kind_of (Some e)))
kinds-joined old new kinds slot e small are j = record {
  count = length-set kinds slot (kind_of (Some e)) ∙ are.count;
  kind = λ n. kind-joined old new kinds slot n e small are j (cases_eq n slot);
}

pub kept-joined : (old new : List Entry) (kinds : List SlotKind) (slot : ℕ) (e : Entry) (kind : SlotKind) → kind ≡ kind_of (Some e)
    → IsKeptBuilder old kinds → MayJoin old e → Joined old new slot e → IsKeptBuilder new (slice_set kinds slot kind)
kept-joined old new kinds slot e kind is kept may j =
    let within = slice_get_within new (slot - 1) e (at-index new slot e j.there) in
    let few = j.few in
    let small : slot < 65536 = omega arith in
    rw is (record {
      sound = pool-joined old new slot e kept.sound may j;
      kinds_are = kinds-joined old new kinds slot e small
          kept.kinds_are j;
    })

-- ---- a pool without entries

no_entry : (place : ℕ) (e : Entry) → IsAt [] place e → ⊥
no_entry place e is = let there : None ≡ Some e = at-index [] place e is in cc

nothing-at : (b : Bool) → Other ≡ kind_of (if b then None else None)
nothing-at true = refl
nothing-at false = refl

others : (count place : ℕ) → get_or (replicate count Other) place Other ≡ Other
others count place =
    elim (cases_lt place count) [
      | inl within ↦ get_or-replicate count place Other Other within
      | inr past ↦ get_or_past (replicate count Other) place Other (omega (arith, length-replicate count Other))
    ]

pub empty-pool : IsPool []
empty-pool = pool-of-parts [] (record { few = omega arith; spelled = refl; sound = λ place e at. absurd (no_entry place e at) })

pub empty-kept : (pool : List Entry) (kinds : List SlotKind) (count : ℕ) → pool ≡ [] → kinds ≡ replicate count Other → count ≡ 65536
    → IsKeptBuilder pool kinds
empty-kept pool kinds count none is all = rw none (record {
  sound = empty-pool;
  kinds_are = record {
    count = ap length is ∙ length-replicate count Other ∙ all;
    kind = λ place. ap (λ xs. get_or xs place Other) is ∙ others count place ∙ nothing-at (place == 0);
  };
})
