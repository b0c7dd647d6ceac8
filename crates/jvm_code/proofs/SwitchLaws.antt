-- Switches are formats.
use Rattle.std.proofs.Common.{◌≡◌, ℕ, ℤ, pos, negsuc, ◌^◌, ◌<◌, ◌&&◌, true, ltb, eqb, List, [], ◌∷◌, length, replicate, Some, ◌+ℤ◌, ◌-ℤ◌, refl, sym, ap, arith}
use Rattle.std.specs.Int.{w32}
use Rattle.std.proofs.lemmas.Int.{ints}
use Rattle.std.proofs.lemmas.Bool.{and_parts, eqb-true, ltb-true}
use Rattle.std.proofs.lemmas.Option.{same_Some}
use Rattle.jvm_definition.specs.declared.pair.Pair.{Pair}
use Rattle.jvm_definition.specs.declared.table_switch.TableSwitch.{TableSwitch}
use Rattle.jvm_definition.specs.declared.lookup_switch.LookupSwitch.{LookupSwitch}
use Rattle.class_definition.specs.Format.{number_format, raw, both, repeated, tested, fault_unless, is_sound, signed}
use Rattle.class_definition.specs.Spelling.{IsFormat}
use Rattle.class_format.proofs.FieldLaws.{wide32, number_law, raw_law}
use Rattle.class_format.proofs.Signed.{signed32, signed_law}
use Rattle.class_format.proofs.Combined.{both_law, repeated_law, mapped_law, tested_law}
use Rattle.class_format.proofs.Parts.{passes}
use Rattle.class_definition.specs.Targets.{cut_instruction, switch_keys, wide}
use Rattle.class_definition.specs.Switches.{pad_of, is_padding, keys_in, TableHead, table_count, table_head, last_key, table_switch, LookupHead, lookup_head, pair, rises, lookup_switch}
use Rattle.jvm_code.proofs.TargetLaws.{wide_law}

-- padding is zeros
padding_is : (bytes : List ℕ) (n : ℕ) → is_padding bytes ≡ true → length bytes ≡ n → bytes ≡ replicate n 0
padding_is [] n e len = rw (← len) refl
padding_is (b ∷ bytes) n e len =
    let p = and_parts (eqb b 0) (is_padding bytes) e in
    rw (← len, eqb-true _ _ p.0) (ap (λ (xs : List ℕ). 0 ∷ xs) (padding_is bytes (length bytes) p.1 refl))

table_head_law : (at : ℕ) → at < 2 ^ 16 → IsFormat (table_head at)
table_head_law at low =
    tested_law switch_keys (λ head. is_padding head.0 && ltb 0 (table_count head))
    (both (raw cut_instruction (pad_of at)) (λ _. both (wide at) (λ _. both (signed cut_instruction w32) (λ _. signed cut_instruction w32))))
    (both_law (raw cut_instruction (pad_of at)) (λ _. both (wide at) (λ _. both (signed cut_instruction w32) (λ _. signed cut_instruction w32))) (raw_law cut_instruction (pad_of at))
    (λ _. both_law (wide at) (λ _. both (signed cut_instruction w32) (λ _. signed cut_instruction w32)) (wide_law at low)
    (λ _. both_law (signed cut_instruction w32) (λ _. signed cut_instruction w32) (signed_law cut_instruction w32 wide32 signed32) (λ _. signed_law cut_instruction w32 wide32 signed32))))

-- the greatest key is as far from the least as there are keys
last_from : (d low high : ℤ) (n : ℕ) → high -ℤ low ≡ d → n ≡ keys_in d → 0 < n → (low +ℤ pos n) -ℤ pos 1 ≡ high
last_from (pos m) low high n is count some = omega (arith, ints)
last_from (negsuc m) low high n is count some = absurd (omega arith)

-- ---- tableswitch

abbrev table_value : List ℕ → ℕ → ℤ → ℤ → List ℕ → TableHead × List ℕ
table_value padding default low high targets = ((padding, (default, (low, high))), targets)

abbrev table_made : TableHead × List ℕ → TableSwitch
table_made x = record { default = x.0.1.0; low = x.0.1.1.0; targets = x.1 }

table_again : (z p : List ℕ) (d : ℕ) (low l h : ℤ) (ts : List ℕ) → z ≡ p → l ≡ h → table_value z d low l ts ≡ table_value p d low h ts
table_again z p d low l h ts e g = rw (e, g) refl

table_back : (at : ℕ) (b : TableHead × List ℕ) → (both (table_head at) (λ head. repeated (wide at) (table_count head))).fits b ≡ true
    → table_value (replicate (pad_of at) 0) b.0.1.0 b.0.1.1.0 (last_key (table_made b)) b.1 ≡ b
table_back at b e =
    let p = and_parts ((table_head at).fits b.0) ((repeated (wide at) (table_count b.0)).fits b.1) e in
    let q = and_parts _ (is_sound (fault_unless switch_keys (is_padding b.0.0 && ltb 0 (table_count b.0)))) p.0 in
    let r = and_parts (eqb (length b.0.0) (pad_of at)) _ q.0 in
    let s = and_parts (is_padding b.0.0) (ltb 0 (table_count b.0)) (passes switch_keys (is_padding b.0.0 && ltb 0 (table_count b.0)) q.1) in
    let t = and_parts (eqb (length b.1) (table_count b.0)) _ p.1 in
    let count : length b.1 ≡ keys_in (b.0.1.1.1 -ℤ b.0.1.1.0) = eqb-true _ _ t.0 in
    let positive = ltb-true _ _ s.1 in
    let some : 0 < length b.1 = rw count positive in
    table_again (replicate (pad_of at) 0) b.0.0 b.0.1.0 b.0.1.1.0 (last_key (table_made b)) b.0.1.1.1 b.1
    (sym (padding_is b.0.0 (pad_of at) s.0 (eqb-true _ _ r.0)))
    (last_from (b.0.1.1.1 -ℤ b.0.1.1.0) b.0.1.1.0 b.0.1.1.1 (length b.1) refl count some)

pub table_law : (at : ℕ) → at < 2 ^ 16 → IsFormat (table_switch at)
unfolding table_switch
table_law at low =
    mapped_law table_made (λ s. Some (table_value (replicate (pad_of at) 0) s.default s.low (last_key s) s.targets))
    (both (table_head at) (λ head. repeated (wide at) (table_count head)))
    (both_law (table_head at) (λ head. repeated (wide at) (table_count head)) (table_head_law at low) (λ head. repeated_law (wide at) (table_count head) (wide_law at low)))
    (record {
      back_of = λ b e. ap (λ (x : TableHead × List ℕ). Some x) (table_back at b e);
      made_of = λ s b e. sym (ap table_made (same_Some (table_value (replicate (pad_of at) 0) s.default s.low (last_key s) s.targets) b e));
    })

-- ---- lookupswitch

lookup_head_law : (at : ℕ) → at < 2 ^ 16 → IsFormat (lookup_head at)
lookup_head_law at low =
    tested_law switch_keys (λ head. is_padding head.0 && ltb head.1.1 (2 ^ 31)) (both (raw cut_instruction (pad_of at)) (λ _. both (wide at) (λ _. number_format cut_instruction w32)))
    (both_law (raw cut_instruction (pad_of at)) (λ _. both (wide at) (λ _. number_format cut_instruction w32)) (raw_law cut_instruction (pad_of at))
    (λ _. both_law (wide at) (λ _. number_format cut_instruction w32) (wide_law at low) (λ _. number_law cut_instruction w32 wide32)))

abbrev pair_made : ℤ × ℕ → Pair
pair_made x = record { key = x.0; target = x.1 }

pair_law : (at : ℕ) → at < 2 ^ 16 → IsFormat (pair at)
pair_law at low =
    mapped_law (λ x. record { key = x.0; target = x.1 }) (λ p. Some (p.key, p.target)) (both (signed cut_instruction w32) (λ _. wide at))
    (both_law (signed cut_instruction w32) (λ _. wide at) (signed_law cut_instruction w32 wide32 signed32) (λ _. wide_law at low))
    (record { back_of = λ b e. refl; made_of = λ p b e. sym (ap pair_made (same_Some (p.key, p.target) b e)) })

abbrev lookup_value : List ℕ → ℕ → ℕ → List Pair → LookupHead × List Pair
lookup_value padding default count pairs = ((padding, (default, count)), pairs)

abbrev lookup_made : LookupHead × List Pair → LookupSwitch
lookup_made x = record { default = x.0.1.0; pairs = x.1 }

lookup_again : (z p : List ℕ) (d n m : ℕ) (ps : List Pair) → z ≡ p → n ≡ m → lookup_value z d n ps ≡ lookup_value p d m ps
lookup_again z p d n m ps e g = rw (e, g) refl

lookup_back : (at : ℕ) (b : LookupHead × List Pair) → (both (lookup_head at) (λ head. tested switch_keys rises (repeated (pair at) head.1.1))).fits b ≡ true
    → lookup_value (replicate (pad_of at) 0) b.0.1.0 (length b.1) b.1 ≡ b
lookup_back at b e =
    let p = and_parts ((lookup_head at).fits b.0) ((tested switch_keys rises (repeated (pair at) b.0.1.1)).fits b.1) e in
    let q = and_parts _ (is_sound (fault_unless switch_keys (is_padding b.0.0 && ltb b.0.1.1 (2 ^ 31)))) p.0 in
    let r = and_parts (eqb (length b.0.0) (pad_of at)) _ q.0 in
    let s = and_parts (is_padding b.0.0) (ltb b.0.1.1 (2 ^ 31)) (passes switch_keys (is_padding b.0.0 && ltb b.0.1.1 (2 ^ 31)) q.1) in
    let t = and_parts ((repeated (pair at) b.0.1.1).fits b.1) (is_sound (fault_unless switch_keys (rises b.1))) p.1 in
    let u = and_parts (eqb (length b.1) b.0.1.1) _ t.0 in
    lookup_again (replicate (pad_of at) 0) b.0.0 b.0.1.0 (length b.1) b.0.1.1 b.1 (sym (padding_is b.0.0 (pad_of at) s.0 (eqb-true _ _ r.0))) (eqb-true _ _ u.0)

pub lookup_law : (at : ℕ) → at < 2 ^ 16 → IsFormat (lookup_switch at)
unfolding lookup_switch
lookup_law at low =
    mapped_law lookup_made (λ s. Some (lookup_value (replicate (pad_of at) 0) s.default (length s.pairs) s.pairs))
    (both (lookup_head at) (λ head. tested switch_keys rises (repeated (pair at) head.1.1)))
    (both_law (lookup_head at) (λ head. tested switch_keys rises (repeated (pair at) head.1.1)) (lookup_head_law at low)
    (λ head. tested_law switch_keys rises (repeated (pair at) head.1.1) (repeated_law (pair at) head.1.1 (pair_law at low))))
    (record {
      back_of = λ b e. ap (λ (x : LookupHead × List Pair). Some x) (lookup_back at b e);
      made_of = λ s b e. sym (ap lookup_made (same_Some (lookup_value (replicate (pad_of at) 0) s.default (length s.pairs) s.pairs) b e));
    })
