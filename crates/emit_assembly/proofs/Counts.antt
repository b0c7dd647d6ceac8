-- How many slots the constants of code take.
use Rattle.std.proofs.Common.{◌≡◌, ℕ, ◌+◌, ◌≤◌, ◌<◌, Bool, true, false, ◌==◌, if◌then◌else◌, List, [], ◌∷◌, ◌++◌, length, All, IfSome, Option, Some, None, ◌⊎◌, inl, inr, refl, sym, ap, subst, ◌∙◌, arith}
use Rattle.std.specs.List.{list_any}
use Rattle.std.proofs.lemmas.Bool.{and_parts, or_cases, eqb-true, false≢true}
use Rattle.std.proofs.lemmas.List.Elements.{All-head, All-tail, All-cons, All-nil}
use Rattle.class_definition.specs.declared.entry.Entry.{Entry}
use Rattle.constant_pool.specs.Slots.{IsAt}
use Rattle.jvm_definition.specs.declared.constant.Constant.{Constant}
use Rattle.jvm_definition.specs.declared.constant.Constant.TheVariants as constants
use Rattle.emit_steps.specs.declared.step.Step.{Step}
use Rattle.emit_assembly.specs.Assembling.{Extends, constant_of, constant_slots, listed, pushed_by, same_constant, slots_beside}
use Rattle.emit_assembly.specs.Operations.{AddsConstants, Has, LacksSlots, entry_of}
use Rattle.emit_assembly.proofs.Pools.{entry-stays}

-- ---- constants that are the same

pub same-is : (c d : Constant) → same_constant c d ≡ true → c ≡ d
same-is constants.Null constants.Null h = refl
same-is (constants.Int n) (constants.Int m) h = ap constants.Int (eqb-true n m h)
same-is (constants.Long n) (constants.Long m) h = ap constants.Long (eqb-true n m h)
same-is (constants.Text class slot) (constants.Text other_class other_slot) h =
    let parts = and_parts (class == other_class) (slot == other_slot) h in
    ap (λ n. constants.Text n slot) (eqb-true class other_class parts.0) ∙ ap (constants.Text other_class) (eqb-true slot other_slot parts.1)
same-is constants.Null (constants.Int n) h = absurd (false≢true h)
same-is constants.Null (constants.Long n) h = absurd (false≢true h)
same-is constants.Null (constants.Text class slot) h = absurd (false≢true h)
same-is (constants.Int n) constants.Null h = absurd (false≢true h)
same-is (constants.Int n) (constants.Long m) h = absurd (false≢true h)
same-is (constants.Int n) (constants.Text class slot) h = absurd (false≢true h)
same-is (constants.Long n) constants.Null h = absurd (false≢true h)
same-is (constants.Long n) (constants.Int m) h = absurd (false≢true h)
same-is (constants.Long n) (constants.Text class slot) h = absurd (false≢true h)
same-is (constants.Text class slot) constants.Null h = absurd (false≢true h)
same-is (constants.Text class slot) (constants.Int n) h = absurd (false≢true h)
same-is (constants.Text class slot) (constants.Long n) h = absurd (false≢true h)

-- ---- what a pool has stays there

entry-kept : (entry : Option Entry) (old new : List Entry) → Extends old new → IfSome entry (λ e. (slot : ℕ) × IsAt old slot e) → IfSome entry (λ e. (slot : ℕ) × IsAt new slot e)
entry-kept None old new x h = tt
entry-kept (Some e) old new x (slot, at) = (slot, entry-stays old new slot e at x)

has-kept : (c : Constant) (old new : List Entry) → Extends old new → Has old c → Has new c
has-kept c old new x h = entry-kept (entry_of c) old new x h

pub all-kept : (cs : List Constant) (old new : List Entry) → Extends old new → All (Has old) cs → All (Has new) cs
all-kept [] old new x h = All-nil (Has new)
all-kept (c ∷ cs) old new x h =
    All-cons (Has new) c cs (has-kept c old new x (All-head (Has old) c cs h)) (all-kept cs old new x (All-tail (Has old) c cs h))

one-has : (pool : List Entry) (c : Constant) → Has pool c → All (Has pool) (c ∷ [])
one-has pool c h = All-cons (Has pool) c [] h (All-nil (Has pool))

-- a constant that is the same as one that a pool has
either-has : (pool : List Entry) (c d : Constant) (others : Bool) → Has pool d → (others ≡ true → Has pool c)
    → (same_constant c d ≡ true) ⊎ (others ≡ true) → Has pool c
either-has pool c d others h rest (inl here) = subst (Has pool) (sym (same-is c d here)) h
either-has pool c d others h rest (inr there) = rest there

seen-has : (pool : List Entry) (c : Constant) (seen : List Constant) → All (Has pool) seen → list_any (same_constant c) seen ≡ true → Has pool c
seen-has pool c [] h any = absurd (false≢true any)
seen-has pool c (d ∷ seen) h any =
    either-has pool c d (list_any (same_constant c) seen) (All-head (Has pool) d seen h) (seen-has pool c seen (All-tail (Has pool) d seen h))
    (or_cases (same_constant c d) (list_any (same_constant c) seen) any)

-- ---- a step more

one-more : (b : Bool) (pool new : List Entry) (c : Constant) (rest : ℕ) → (b ≡ true → new ≡ pool) → length new ≤ length pool + (constant_slots c + 0)
    → length new + rest ≤ length pool + ((if b then 0 else constant_slots c) + rest)
one-more true pool new c rest same few = let e = ap length (same refl) in omega (arith, e)
one-more false pool new c rest same few = omega (arith, few)

more-of : (pushed : Option Constant) (pool new : List Entry) (seen rest : List Constant) → All (Has pool) seen → AddsConstants pool new (listed pushed)
    → length new + slots_beside (listed pushed ++ seen) rest ≤ length pool + slots_beside seen (listed pushed ++ rest)
more-of None pool new seen rest has adds = let few = adds.few in omega (arith, few)
more-of (Some c) pool new seen rest has adds =
    one-more (list_any (same_constant c) seen) pool new c (slots_beside (c ∷ seen) rest) (λ any. adds.same (one-has pool c (seen-has pool c seen has any))) adds.few

pub adds-more : (s : Step) (pool new : List Entry) (seen rest : List Constant) → All (Has pool) seen → AddsConstants pool new (pushed_by s)
    → length new + slots_beside (pushed_by s ++ seen) rest ≤ length pool + slots_beside seen (pushed_by s ++ rest)
adds-more s pool new seen rest has adds = more-of (constant_of s) pool new seen rest has adds

-- ---- a step for which there is no room

one-lacks : (b : Bool) (pool : List Entry) (c : Constant) (rest : ℕ) → (b ≡ true → ⊥) → 65534 < length pool + (constant_slots c + 0)
    → 65534 < length pool + ((if b then 0 else constant_slots c) + rest)
one-lacks true pool c rest not few = absurd (not refl)
one-lacks false pool c rest not few = omega (arith, few)

lacks-of : (pushed : Option Constant) (pool : List Entry) (seen rest : List Constant) → All (Has pool) seen → LacksSlots pool (listed pushed)
    → 65534 < length pool + slots_beside seen (listed pushed ++ rest)
lacks-of None pool seen rest has lacks = absurd (lacks.lacks (All-nil (Has pool)))
lacks-of (Some c) pool seen rest has lacks =
    one-lacks (list_any (same_constant c) seen) pool c (slots_beside (c ∷ seen) rest) (λ any. lacks.lacks (one-has pool c (seen-has pool c seen has any))) lacks.few

pub lacks-more : (s : Step) (pool : List Entry) (seen rest : List Constant) → All (Has pool) seen → LacksSlots pool (pushed_by s)
    → 65534 < length pool + slots_beside seen (pushed_by s ++ rest)
lacks-more s pool seen rest has lacks = lacks-of (constant_of s) pool seen rest has lacks
