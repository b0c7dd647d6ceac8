-- Pools with entries behind those of others.
use Rattle.std.proofs.Common.{◌≡◌, ℕ, zero, suc, ◌-◌, ◌<◌, Bool, true, false, ◌||◌, if◌then◌else◌, ◌==◌, List, [], ◌∷◌, ◌++◌, length, get_or, slice_get, Some, None, ◌⊎◌, inl, inr, refl, sym, ap, subst, ◌∙◌, append-nil, append_assoc, arith}
use Rattle.std.specs.List.{list_all, list_any}
use Rattle.std.specs.Cmp.Derive.{both_true}
use Rattle.std.proofs.lemmas.Bool.{and_parts, or_cases, or_left, or_right, false≢true}
use Rattle.std.proofs.lemmas.Option.{none-some}
use Rattle.class_definition.specs.declared.entry.Entry.{Entry}
use Rattle.class_definition.specs.declared.entry.Entry.TheVariants as entries
use Rattle.class_definition.specs.PoolChecks.{entry_at}
use Rattle.constant_pool.specs.Slots.{IsAt, slots_of_entry}
use Rattle.emit_steps.specs.declared.step.Step.{Step}
use Rattle.emit_assembly.specs.Assembling.{Extends, Adds, can_stand, is_constant_of, pushes_text}
use Rattle.emit_assembly.proofs.Standing.{stand-more}

pub extends-itself : (pool : List Entry) → Extends pool pool
extends-itself pool = record { behind = []; is = sym (append-nil pool) }

pub extends-further : (old pool new : List Entry) → Extends old pool → Extends pool new → Extends old new
extends-further old pool new x y = record {
  behind = x.behind ++ y.behind;
  is = y.is ∙ ap (λ p. p ++ y.behind) x.is ∙ append_assoc old x.behind y.behind;
}

-- ---- which entries are added

all-append : (p : Entry → Bool) (xs ys : List Entry) → list_all p xs ≡ true → list_all p ys ≡ true → list_all p (xs ++ ys) ≡ true
all-append p [] ys f g = g
all-append p (x ∷ xs) ys f g =
    let parts = and_parts (p x) (list_all p xs) f in
    both_true parts.0 (all-append p xs ys parts.1 g)

pub adds-nothing : (code : List Step) (pool : List Entry) → Adds code pool pool
adds-nothing code pool = record { behind = []; is = sym (append-nil pool); constants = refl; stand = refl }

pub adds-further : (code : List Step) (old pool new : List Entry) → Adds code old pool → Adds code pool new → Adds code old new
adds-further code old pool new x y = record {
  behind = x.behind ++ y.behind;
  is = y.is ∙ ap (λ p. p ++ y.behind) x.is ∙ append_assoc old x.behind y.behind;
  constants = all-append (is_constant_of code) x.behind y.behind x.constants y.constants;
  stand = stand-more x.behind y.behind x.stand y.stand;
}

pub adds-entry : (code : List Step) (old new : List Entry) (e : Entry) → can_stand (slots_of_entry e) ≡ true → list_all (is_constant_of code) (slots_of_entry e) ≡ true → (new ≡ old) ⊎ (new ≡ old ++ slots_of_entry e) → Adds code old new
adds-entry code old new e stands constant (inl same) = subst (λ p. Adds code old p) (sym same) (adds-nothing code old)
adds-entry code old new e stands constant (inr more) = record { behind = slots_of_entry e; is = more; constants = constant; stand = stands }

-- what a step pushes, code with that step does
one-among : (p : Step → Bool) (code : List Step) (i : ℕ) (s : Step) → i < length code → s ≡ get_or code i s → (p s || false) ≡ true → list_any p code ≡ true
one-among p [] i s h is so = absurd (omega (arith, h))
one-among p (x ∷ code) zero s h is so = by (or_cases (p s) false so)
  where
    by : (p s ≡ true) ⊎ (false ≡ true) → list_any p (x ∷ code) ≡ true
    by (inl here) = or_left (p x) (list_any p code) (sym (ap p is) ∙ here)
    by (inr never) = absurd (false≢true never)
one-among p (x ∷ code) (suc i) s h is so =
    let less : i < length code = omega arith in
    or_right (p x) (list_any p code) (one-among p code i s less is so)

constant-among : (code : List Step) (i : ℕ) (s : Step) (e : Entry) → i < length code → s ≡ get_or code i s → is_constant_of (s ∷ []) e ≡ true → is_constant_of code e ≡ true
constant-among code i s (entries.Text slot) h is so = one-among (pushes_text slot) code i s h is so
constant-among code i s (entries.Integer n) h is so = refl
constant-among code i s (entries.Long n) h is so = refl
constant-among code i s entries.LongRest h is so = refl
constant-among code i s (entries.Utf8 text) h is so = absurd (false≢true so)
constant-among code i s (entries.ClassName name) h is so = absurd (false≢true so)
constant-among code i s (entries.FieldRef class name) h is so = absurd (false≢true so)
constant-among code i s (entries.MethodRef class name) h is so = absurd (false≢true so)
constant-among code i s (entries.NameAnd name descriptor) h is so = absurd (false≢true so)

all-among : (code : List Step) (i : ℕ) (s : Step) (es : List Entry) → i < length code → s ≡ get_or code i s → list_all (is_constant_of (s ∷ [])) es ≡ true → list_all (is_constant_of code) es ≡ true
all-among code i s [] h is all = refl
all-among code i s (e ∷ es) h is all =
    let parts = and_parts (is_constant_of (s ∷ []) e) (list_all (is_constant_of (s ∷ [])) es) all in
    both_true (constant-among code i s e h is parts.0) (all-among code i s es h is parts.1)

pub adds-among : (code : List Step) (i : ℕ) (s : Step) (old new : List Entry) → i < length code → s ≡ get_or code i s → Adds (s ∷ []) old new → Adds code old new
adds-among code i s old new h is x = record { behind = x.behind; is = x.is; constants = all-among code i s x.behind h is x.constants; stand = x.stand }

-- ---- what stands in a slot stays there

get_front : (pool behind : List Entry) (i : ℕ) (e : Entry) → slice_get pool i ≡ Some e → slice_get (pool ++ behind) i ≡ Some e
get_front [] behind i e is = absurd (none-some e is)
get_front (x ∷ pool) behind zero e is = is
get_front (x ∷ pool) behind (suc i) e is = get_front pool behind i e is

stays : (b : Bool) (pool behind : List Entry) (i : ℕ) (e : Entry) → (if b then None else slice_get pool i) ≡ Some e → (if b then None else slice_get (pool ++ behind) i) ≡ Some e
stays true pool behind i e is = is
stays false pool behind i e is = get_front pool behind i e is

pub entry-stays : (pool later : List Entry) (slot : ℕ) (e : Entry) → IsAt pool slot e → Extends pool later → entry_at later slot ≡ Some e
entry-stays pool later slot e at x =
    ap (λ p. entry_at p slot) x.is ∙ stays (slot == 0) pool x.behind (slot - 1) e at
