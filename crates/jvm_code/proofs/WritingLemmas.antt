-- What is written.
use Rattle.std.proofs.Common.{◌≡◌, ℕ, ℤ, ◌^◌, ◌<◌, ◌&&◌, Bool, true, false, cond, ltb, eqb, List, ◌++◌, length, replicate, Option, Some, None, refl, append_assoc}
use Rattle.std.specs.Int.{Width, w32, byte_len, to_be_bytes, cast_signed, cast_unsigned}
use Rattle.std.proofs.lemmas.Bool.{and_parts, ltb-true}
use Rattle.jvm_definition.specs.declared.pair.Pair.{Pair}
use Rattle.jvm_definition.specs.declared.table_switch.TableSwitch.{TableSwitch}
use Rattle.jvm_definition.specs.declared.lookup_switch.LookupSwitch.{LookupSwitch}
use Rattle.class_definition.specs.Format.{number_format, repeated, tested, signed, spelled_by, fits_by, fits_signed, chain_spelling, fault_unless, is_sound}
use Rattle.class_format.proofs.FieldLaws.{IsWide}
use Rattle.class_format.proofs.Signed.{signed32}
use Rattle.class_definition.specs.Targets.{cut_instruction, switch_keys, wide}
use Rattle.class_definition.specs.Switches.{pad_of, is_padding, last_key, TableHead, table_head, table_count, LookupHead, lookup_head, pair, rises, table_switch, lookup_switch}

-- a number that was mapped has the bytes of its width
pub mapped_length : (cut : ℕ) (w : Width) → IsWide w → (o : Option ℕ) → fits_by (number_format cut w) o ≡ true → length (spelled_by (number_format cut w) o) ≡ byte_len w
mapped_length cut w wide None e = absurd cc
mapped_length cut w wide (Some n) e = wide.len n

-- ---- switches

fits_bits : (cut : ℕ) (w : Width) (b : Bool) (n : ℕ) → fits_by (number_format cut w) (cond b (Some n) None) ≡ true → b ≡ true
fits_bits cut w true n e = refl
fits_bits cut w false n e = absurd cc

signed_fits : (cut : ℕ) (w : Width) (z : ℤ) → (signed cut w).fits z ≡ true → fits_signed w z ≡ true
signed_fits cut w z e = fits_bits cut w (fits_signed w z) (cast_unsigned w z) e

abbrev targets_spelling : ℕ → List ℕ → List ℕ
targets_spelling at targets = chain_spelling {S = Unit {0}} (λ _ _. wide at) (λ s _. s) tt targets

abbrev pairs_spelling : ℕ → List Pair → List ℕ
pairs_spelling at pairs = chain_spelling {S = Unit {0}} (λ _ _. pair at) (λ s _. s) tt pairs

pub last_key_fits : (at : ℕ) (s : TableSwitch) → (table_switch at).fits s ≡ true → fits_signed w32 (last_key s) ≡ true
unfolding table_switch
last_key_fits at s e =
    let head : TableHead = (replicate (pad_of at) 0, (s.default, (s.low, last_key s))) in
    let p = and_parts ((table_head at).fits head) ((repeated (wide at) (table_count head)).fits s.targets) e in
    let q = and_parts _ (is_sound (fault_unless switch_keys (is_padding head.0 && ltb 0 (table_count head)))) p.0 in
    let r = and_parts (eqb (length head.0) (pad_of at)) _ q.0 in
    let t = and_parts ((wide at).fits s.default) _ r.1 in
    let u = and_parts ((signed cut_instruction w32).fits s.low) ((signed cut_instruction w32).fits (last_key s)) t.1 in
    signed_fits cut_instruction w32 (last_key s) u.1

few_pairs : (at : ℕ) (s : LookupSwitch) → (lookup_switch at).fits s ≡ true → length s.pairs < 2 ^ 32
unfolding lookup_switch
few_pairs at s e =
    let head : LookupHead = (replicate (pad_of at) 0, (s.default, length s.pairs)) in
    let p = and_parts ((lookup_head at).fits head) ((tested switch_keys rises (repeated (pair at) (length s.pairs))).fits s.pairs) e in
    let q = and_parts _ (is_sound (fault_unless switch_keys (is_padding head.0 && ltb (length s.pairs) (2 ^ 31)))) p.0 in
    let r = and_parts (eqb (length head.0) (pad_of at)) _ q.0 in
    let t = and_parts ((wide at).fits s.default) _ r.1 in
    ltb-true _ _ t.1

pub few_pairs_of : (at : ℕ) (s : LookupSwitch) (pairs : List Pair) → pairs ≡ s.pairs → (lookup_switch at).fits s ≡ true → length pairs < 2 ^ 32
few_pairs_of at s pairs is e = rw is (few_pairs at s e)

-- a field of a switch that is read
pub low_again : (at : ℕ) (s : TableSwitch) → (table_switch at).fits s ≡ true → cast_signed w32 (cast_unsigned w32 s.low) ≡ s.low
unfolding table_switch
low_again at s e =
    let head : TableHead = (replicate (pad_of at) 0, (s.default, (s.low, last_key s))) in
    let p = and_parts ((table_head at).fits head) ((repeated (wide at) (table_count head)).fits s.targets) e in
    let q = and_parts _ (is_sound (fault_unless switch_keys (is_padding head.0 && ltb 0 (table_count head)))) p.0 in
    let r = and_parts (eqb (length head.0) (pad_of at)) _ q.0 in
    let t = and_parts ((wide at).fits s.default) _ r.1 in
    let u = and_parts ((signed cut_instruction w32).fits s.low) ((signed cut_instruction w32).fits (last_key s)) t.1 in
    signed32.again s.low (signed_fits cut_instruction w32 s.low u.0)

-- a number that was computed is passed on
pub last_again : (at : ℕ) (s : TableSwitch) (last : ℤ) → last ≡ last_key s → (table_switch at).fits s ≡ true → cast_signed w32 (cast_unsigned w32 last) ≡ last_key s
last_again at s last is e = rw is (signed32.again (last_key s) (last_key_fits at s e))

pub table_spelled : (at : ℕ) (s : TableSwitch) (low last : ℤ) (old a b c d new : List ℕ) → low ≡ s.low → last ≡ last_key s → a ≡ old ++ replicate (pad_of at) 0 → b ≡ a ++ (wide at).spell s.default
    → c ≡ b ++ (signed cut_instruction w32).spell low → d ≡ c ++ (signed cut_instruction w32).spell last → new ≡ d ++ targets_spelling at s.targets → new ≡ old ++ (table_switch at).spell s
unfolding table_switch
table_spelled at s low last old a b c d new least is one two three four five = rw (five, four, three, two, one, least, is) (simp append_assoc refl)

pub lookup_spelled : (at : ℕ) (s : LookupSwitch) (pairs : List Pair) (old a b c new : List ℕ) → pairs ≡ s.pairs → a ≡ old ++ replicate (pad_of at) 0 → b ≡ a ++ (wide at).spell s.default
    → c ≡ b ++ to_be_bytes w32 (length pairs) → new ≡ c ++ pairs_spelling at pairs → new ≡ old ++ (lookup_switch at).spell s
unfolding lookup_switch
lookup_spelled at s pairs old a b c new is one two three four = rw (four, three, two, one, is) (simp append_assoc refl)
