-- Upper and lower halves, from the last relocation to the first.
use Rattle.std.proofs.Common.{◌≡◌, ℕ, Bool, true, false, cond, ◌&&◌, ◌==◌, List, [], ◌∷◌, ◌++◌, length, drop, reverse, Option, Some, None, option_map, is_none, refl, sym, ap, ◌∙◌, append_assoc, BTreeMap}
use Rattle.std.specs.BTreeMap as tree
use Rattle.std.specs.Map.{lookup}
use Rattle.std.specs.declared.cmp.Ordering.{Ordering}
use Rattle.std.specs.declared.cmp.Ordering.TheVariants.{Less, Equal, Greater}
use Rattle.std.specs.Ordering.{is_eq, nat_cmp, ordering_then}
use Rattle.std.specs.List.{find}
use Rattle.std.proofs.lemmas.List.{drop_at, reverse-append}
use Rattle.std.proofs.lemmas.Map.Text.{is_eq-slice_cmp}
use Rattle.obj_reader.specs.declared.relocation.Relocation.{Relocation}
use Rattle.obj_linker.specs.Pairs.{LowList, first_alone, is_low_of, low_in, low_of, lows}
use Rattle.obj_reader.specs.Relocations.{is_high, relocation_offset}

-- the order of pairs of numbers
abbrev pub pair_cmp : ℕ × ℕ → ℕ × ℕ → Ordering
pair_cmp p q = ordering_then (nat_cmp p.0 q.0) (nat_cmp p.1 q.1)

then_equal : (o p : Ordering) → is_eq (ordering_then o p) ≡ is_eq (ordering_then o (ordering_then p Equal))
then_equal Less p = refl
then_equal Greater p = refl
then_equal Equal Less = refl
then_equal Equal Equal = refl
then_equal Equal Greater = refl

and_true : (a b : Bool) → (a && (b && true)) ≡ (a && b)
and_true true true = refl
and_true true false = refl
and_true false b = refl

is_eq-pair_cmp : (a b c d : ℕ) → is_eq (pair_cmp (a, b) (c, d)) ≡ (a == c && b == d)
is_eq-pair_cmp a b c d =
    then_equal (nat_cmp a c) (nat_cmp b d) ∙ is_eq-slice_cmp (a ∷ b ∷ []) (c ∷ d ∷ []) ∙ and_true (a == c) (b == d)

found : (es : LowList) (a b : ℕ) → lookup (λ k. is_eq (pair_cmp (a, b) k)) es ≡ low_in es a b
found [] a b = refl
found (e ∷ es) a b =
    ap (λ t. cond t (Some e.1) (lookup (λ k. is_eq (pair_cmp (a, b) k)) es)) (is_eq-pair_cmp a b e.0.0 e.0.1)
    ∙ ap (λ o. cond (a == e.0.0 && b == e.0.1) (Some e.1) o) (found es a b)

-- a look-up in the map finds the offset
pub found_in : (m : BTreeMap (ℕ × ℕ) ℕ) (a b : ℕ) → tree.get_by (λ k. pair_cmp (a, b) k) m ≡ low_in m.entries a b
found_in m a b = found m.entries a b

-- an offset was set
pub set_in : (section symbol : ℕ) (m n : BTreeMap (ℕ × ℕ) ℕ) (offset : ℕ) (lows : LowList)
    → tree.UpdatesBy pair_cmp (λ k. pair_cmp (section, symbol) k) m n (Some offset) → m.entries ≡ lows
    → (a b : ℕ) → low_in n.entries a b ≡ cond (section == a && symbol == b) (Some offset) (low_in lows a b)
set_in section symbol m n offset lows h e a b =
    sym (found_in n a b) ∙ h.0 (a, b) ∙ ap (λ t. cond t (Some offset) (tree.get pair_cmp m (a, b))) (is_eq-pair_cmp section symbol a b)
    ∙ ap (λ o. cond (section == a && symbol == b) (Some offset) o) (found_in m a b ∙ ap (λ l. low_in l a b) e)

-- ---- the loop
-- what is behind a place, with one relocation more
pub behind_more : {X : Type 0} (all rest before : List X) (r : X) → rest ++ drop (length rest) all ≡ all → rest ≡ before ++ r ∷ []
    → drop (length before) all ≡ r ∷ drop (length rest) all
behind_more all rest before r whole cut =
    let later = drop (length rest) all in
    let shape : before ++ (r ∷ later) ≡ all = sym (append_assoc before (r ∷ []) later) ∙ ap (λ l. l ++ later) (sym cut) ∙ whole in
    ap (drop (length before)) (sym shape) ∙ drop_at before (r ∷ later) (length before) refl

pub whole_more : {X : Type 0} (all rest before : List X) (r : X) → rest ++ drop (length rest) all ≡ all → rest ≡ before ++ r ∷ []
    → before ++ drop (length before) all ≡ all
whole_more all rest before r whole cut =
    let later = drop (length rest) all in
    ap (λ l. before ++ l) (behind_more all rest before r whole cut)
    ∙ sym (append_assoc before (r ∷ []) later) ∙ ap (λ l. l ++ later) (sym cut) ∙ whole

offset_found : (t : Bool) (r : Relocation) (o : Option Relocation)
    → cond t (Some r.r_offset) (option_map relocation_offset o) ≡ option_map relocation_offset (cond t (Some r) o)
offset_found true r o = refl
offset_found false r o = refl

pub found_more : (old new : LowList) (r : Relocation) (later more : List Relocation)
    → ((a b : ℕ) → low_in old a b ≡ option_map relocation_offset (find (is_low_of a b) later))
    → ((a b : ℕ) → low_in new a b ≡ cond (is_low_of a b r) (Some r.r_offset) (low_in old a b))
    → more ≡ r ∷ later
    → (a b : ℕ) → low_in new a b ≡ option_map relocation_offset (find (is_low_of a b) more)
found_more old new r later more was step is a b =
    step a b ∙ ap (λ o. cond (is_low_of a b r) (Some r.r_offset) o) (was a b) ∙ offset_found (is_low_of a b r) r (find (is_low_of a b) later)
    ∙ ap (λ l. option_map relocation_offset (find (is_low_of a b) l)) (sym is)

-- the lower half of a relocation
low_is : (old : LowList) (r : Relocation) (later : List Relocation) (low : Option ℕ)
    → ((a b : ℕ) → low_in old a b ≡ option_map relocation_offset (find (is_low_of a b) later))
    → low ≡ cond (is_high r) (low_in old r.section r.symbol) None → low ≡ low_of r later
low_is old r later low was is = is ∙ ap (λ o. cond (is_high r) o None) (was r.section r.symbol)

pub lows_more : (old : LowList) (r : Relocation) (later more : List Relocation) (low : Option ℕ) (xs ys : List (Option ℕ))
    → ((a b : ℕ) → low_in old a b ≡ option_map relocation_offset (find (is_low_of a b) later))
    → low ≡ cond (is_high r) (low_in old r.section r.symbol) None
    → reverse xs ≡ lows later → ys ≡ xs ++ low ∷ [] → more ≡ r ∷ later
    → reverse ys ≡ lows more
lows_more old r later more low xs ys was is before pushed all =
    ap (λ l. reverse l) pushed ∙ reverse-append xs (low ∷ []) ∙ ap (λ l. low ∷ l) before
    ∙ ap (λ o. o ∷ lows later) (low_is old r later low was is) ∙ ap lows (sym all)

pub alone_more : (old : LowList) (r : Relocation) (later more : List Relocation) (low : Option ℕ) (alone next : Option Relocation)
    → ((a b : ℕ) → low_in old a b ≡ option_map relocation_offset (find (is_low_of a b) later))
    → low ≡ cond (is_high r) (low_in old r.section r.symbol) None
    → alone ≡ first_alone later → next ≡ cond (is_high r && is_none low) (Some r) alone → more ≡ r ∷ later
    → next ≡ first_alone more
alone_more old r later more low alone next was is before step all =
    step ∙ ap (λ o. cond (is_high r && is_none o) (Some r) alone) (low_is old r later low was is)
    ∙ ap (λ o. cond (is_high r && is_none (low_of r later)) (Some r) o) before ∙ ap first_alone (sym all)
