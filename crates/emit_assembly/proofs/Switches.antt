-- Switches as operations: they can be spelled, and where they need no padding they are as long as their steps.
use Rattle.std.proofs.Common.{◌≡◌, ℕ, zero, suc, ◌+◌, ◌-◌, ◌*◌, ◌%◌, ◌^◌, ◌<◌, ◌&&◌, nat_lt, Bool, true, false, ℤ, pos, negsuc, ◌+ℤ◌, ◌-ℤ◌, List, [], ◌∷◌, length, replicate, get_or, refl, ap, sym, ◌∙◌, lt-ltb, le-ltb, ltb-true, SFits, arith}
use Rattle.std.specs.Int.{w32, cast_unsigned}
use Rattle.std.specs.List.{list_all}
use Rattle.std.specs.Cmp.Derive.{both_true}
use Rattle.std.proofs.lemmas.Bool.{and_parts, eqb-true, eq-eqb}
use Rattle.std.proofs.lemmas.List.{length-replicate}
use Rattle.std.proofs.lemmas.Int.{ints}
use Rattle.jvm_definition.specs.declared.table_switch.TableSwitch.{TableSwitch}
use Rattle.class_definition.specs.Format.{signed, chain_fits, fits_signed, fault_unless, is_sound}
use Rattle.class_definition.specs.declared.op.Op.TheVariants as ops
use Rattle.class_definition.specs.Targets.{cut_instruction, switch_keys, wide, offset_to}
use Rattle.class_definition.specs.Switches.{pad_of, is_padding, keys_in, key_count, last_key, table_switch}
use Rattle.class_definition.specs.Instructions.{operands_fit}
use Rattle.class_definition.specs.Sizes.{size_at}
use Rattle.emit_steps.specs.declared.step.Step.TheVariants.{Selects}
use Rattle.emit_steps.specs.Widths.{width}
use Rattle.emit_steps.specs.Switches.{needs_no_padding}
use Rattle.emit_assembly.specs.Assembling.{switch_has_operation}

pub wide-fits : (at target : ℕ) → target < 2 ^ 32 → (wide at).fits target ≡ true
wide-fits at target low =
    let f : nat_lt target (2 ^ 32) ≡ true = lt-ltb target (2 ^ 32) low in
    rw f (lt-ltb (offset_to at target) (2 ^ 32) (omega arith))

all-fit : (at : ℕ) (targets : List ℕ) → list_all (λ target. nat_lt target (2 ^ 32)) targets ≡ true → chain_fits {S = Unit {0}} (λ _ _. wide at) (λ s _. s) tt targets ≡ true
all-fit at [] low = refl
all-fit at (target ∷ targets) low =
    let p = and_parts (nat_lt target (2 ^ 32)) (list_all (λ target. nat_lt target (2 ^ 32)) targets) low in
    both_true (wide-fits at target (ltb-true target (2 ^ 32) p.0)) (all-fit at targets p.1)

bits-low : (z : ℤ) → fits_signed w32 z ≡ true → nat_lt (cast_unsigned w32 z) (2 ^ 32) ≡ true
bits-low (pos n) e = let lt = ltb-true _ _ e in grind arith
bits-low (negsuc n) e = let lt = ltb-true _ _ e in grind arith

key-fits : (z : ℤ) → fits_signed w32 z ≡ true → (signed cut_instruction w32).fits z ≡ true
key-fits z e = rw e (bits-low z e)

-- there are as many keys as targets
keys-are : (low : ℤ) (n : ℕ) → 0 < n → key_count low ((low +ℤ pos n) -ℤ pos 1) ≡ n
keys-are low zero some = absurd (omega (arith, some))
keys-are low (suc n) some =
    let e : ((low +ℤ pos (suc n)) -ℤ pos 1) -ℤ low ≡ pos n = omega (arith, ints) in
    ap keys_in e

zeros : (n : ℕ) → is_padding (replicate n 0) ≡ true
zeros zero = refl
zeros (suc n) = zeros n

pub switch-fits : (at : ℕ) (s : TableSwitch) → switch_has_operation s ≡ true → operands_fit at (ops.TableSwitch s) ≡ true
unfolding table_switch
switch-fits at s can =
    let n = length s.targets in
    let low : ℕ → Bool = λ target. nat_lt target (2 ^ 32) in
    let a = and_parts (nat_lt 0 n && fits_signed w32 s.low && fits_signed w32 (last_key s)) (list_all low (s.default ∷ s.targets)) can in
    let b = and_parts (nat_lt 0 n && fits_signed w32 s.low) (fits_signed w32 (last_key s)) a.0 in
    let c = and_parts (nat_lt 0 n) (fits_signed w32 s.low) b.0 in
    let d = and_parts (low s.default) (list_all low s.targets) a.1 in
    let count : key_count s.low (last_key s) ≡ n = keys-are s.low n (ltb-true 0 n c.0) in
    let padded = eq-eqb (length (replicate (pad_of at) 0)) (pad_of at) (length-replicate {A = ℕ} (pad_of at) 0) in
    let fields = both_true padded (both_true (wide-fits at s.default (ltb-true s.default (2 ^ 32) d.0)) (both_true (key-fits s.low c.1) (key-fits (last_key s) b.1))) in
    let sound = ap (λ b. is_sound (fault_unless switch_keys b)) (both_true (zeros (pad_of at)) (ap (nat_lt 0) count ∙ c.0)) in
    both_true (both_true fields sound) (both_true (eq-eqb n (key_count s.low (last_key s)) (sym count)) (all-fit at s.targets d.1))

pub switch-wide : (at : ℕ) (s : TableSwitch) → needs_no_padding at (Selects s) ≡ true → size_at at (ops.TableSwitch s) ≡ width (Selects s)
switch-wide at s placed = ap (λ n. (13 + (3 - n)) + 4 * length s.targets) (eqb-true (at % 4) 3 placed)

-- ---- which switches have operations

in-range : (z : ℤ) → SFits w32 z → fits_signed w32 z ≡ true
in-range (pos n) f = lt-ltb n (2 ^ 31) f.sfits
in-range (negsuc n) f = lt-ltb n (2 ^ 31) f.sfits

all-low : (targets : List ℕ) → ((i : ℕ) → get_or targets i 0 < 2 ^ 32) → list_all (λ target. nat_lt target (2 ^ 32)) targets ≡ true
all-low [] low = refl
all-low (target ∷ targets) low =
    let first : target < 2 ^ 32 = low 0 in
    both_true (lt-ltb target (2 ^ 32) first) (all-low targets (λ i. low (suc i)))

module _ (default : ℕ) (low : ℤ) (targets : List ℕ) where
  pub has-form : default < 2 ^ 32 → SFits w32 low → ((i : ℕ) → get_or targets i 0 < 2 ^ 32) → 0 < length targets → fits_signed w32 ((low +ℤ pos (length targets)) -ℤ pos 1) ≡ switch_has_operation (record { default = default; low = low; targets = targets })
  has-form small range all some =
      let first : nat_lt 0 (length targets) ≡ true = lt-ltb 0 (length targets) some in
      let second : fits_signed w32 low ≡ true = in-range low range in
      let third : nat_lt default (2 ^ 32) ≡ true = lt-ltb default (2 ^ 32) small in
      let fourth : list_all (λ target. nat_lt target (2 ^ 32)) targets ≡ true = all-low targets all in
      let last = fits_signed w32 ((low +ℤ pos (length targets)) -ℤ pos 1) in
      so last ∙ sym (λ i. ((first i && second i) && last) && (third i && fourth i))
    where
      so : (b : Bool) → b ≡ (b && true)
      so true = refl
      so false = refl

  pub has-no-form : length targets ≡ 0 → false ≡ switch_has_operation (record { default = default; low = low; targets = targets })
  has-no-form none =
      let last = fits_signed w32 ((low +ℤ pos (length targets)) -ℤ pos 1) in
      let first : nat_lt 0 (length targets) ≡ false = le-ltb 0 (length targets) (omega (arith, none)) in
      sym (ap (λ b. ((b && fits_signed w32 low) && last) && list_all (λ target. nat_lt target (2 ^ 32)) (default ∷ targets)) first)
