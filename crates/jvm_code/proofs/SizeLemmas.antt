-- How many bytes an instruction has.
use Rattle.std.proofs.Common.{◌≡◌, ℕ, ℤ, suc, ◌+◌, ◌*◌, ◌^◌, ◌&&◌, true, ltb, eqb, List, [], ◌∷◌, ◌++◌, length, replicate, refl, ap, ◌∙◌, arith}
use Rattle.std.specs.Int.{w8, w16, w32}
use Rattle.std.proofs.lemmas.Bool.{and_parts}
use Rattle.std.proofs.lemmas.List.{length-append, length-replicate}
use Rattle.jvm_definition.specs.declared.pair.Pair.{Pair}
use Rattle.jvm_definition.specs.declared.table_switch.TableSwitch.{TableSwitch}
use Rattle.jvm_definition.specs.declared.lookup_switch.LookupSwitch.{LookupSwitch}
use Rattle.class_definition.specs.Format.{Format, number_format, repeated, signed, chain_spelling, chain_fits, tested, fault_unless, is_sound}
use Rattle.class_format.proofs.FieldLaws.{wide8, wide16, wide32}
use Rattle.class_definition.specs.declared.op.Op.{Op}
use Rattle.class_definition.specs.declared.op.Op.TheVariants as ops
use Rattle.class_definition.specs.Targets.{cut_instruction, near, wide, switch_keys}
use Rattle.class_definition.specs.Switches.{pad_of, is_padding, last_key, TableHead, table_head, table_count, LookupHead, lookup_head, pair, rises, table_switch, lookup_switch}
use Rattle.class_definition.specs.Instructions.{instruction}
use Rattle.class_definition.specs.Sizes.{size_at}
use Rattle.jvm_code.proofs.WritingLemmas.{mapped_length}

-- values of one length, one after the other
chain_length : {A : Type 0} (f : Format A) (k : ℕ) → ((a : A) → f.fits a ≡ true → length (f.spell a) ≡ k)
    → (xs : List A) → chain_fits {S = Unit {0}} (λ _ _. f) (λ s _. s) tt xs ≡ true → length (chain_spelling {S = Unit {0}} (λ _ _. f) (λ s _. s) tt xs) ≡ k * length xs
chain_length f k each [] e = omega arith
chain_length f k each (x ∷ xs) e =
    let p = and_parts (f.fits x) (chain_fits {S = Unit {0}} (λ _ _. f) (λ s _. s) tt xs) e in
    let one : length (f.spell x) ≡ k = each x p.0 in
    let others : length (chain_spelling {S = Unit {0}} (λ _ _. f) (λ s _. s) tt xs) ≡ k * length xs = chain_length f k each xs p.1 in
    length-append (f.spell x) (chain_spelling {S = Unit {0}} (λ _ _. f) (λ s _. s) tt xs) ∙ rw (one, others) (grind arith)

near_length : (at target : ℕ) → (near at).fits target ≡ true → length ((near at).spell target) ≡ 2
near_length at target e = mapped_length cut_instruction w16 wide16 _ e

wide_length : (at target : ℕ) → (wide at).fits target ≡ true → length ((wide at).spell target) ≡ 4
wide_length at target e = mapped_length cut_instruction w32 wide32 _ e

signed_length : (z : ℤ) → (signed cut_instruction w32).fits z ≡ true → length ((signed cut_instruction w32).spell z) ≡ 4
signed_length z e = mapped_length cut_instruction w32 wide32 _ e

five_pieces : (a b c d e : List ℕ) → length ((a ++ (b ++ (c ++ d))) ++ e) ≡ (length a + (length b + (length c + length d))) + length e
five_pieces a b c d e = rw (length-append, length-append, length-append, length-append) refl

four_pieces : (a b c d : List ℕ) → length ((a ++ (b ++ c)) ++ d) ≡ (length a + (length b + length c)) + length d
four_pieces a b c d = rw (length-append, length-append, length-append) refl

abbrev targets_spelling : ℕ → List ℕ → List ℕ
targets_spelling at targets = chain_spelling {S = Unit {0}} (λ _ _. wide at) (λ s _. s) tt targets

abbrev pairs_spelling : ℕ → List Pair → List ℕ
pairs_spelling at pairs = chain_spelling {S = Unit {0}} (λ _ _. pair at) (λ s _. s) tt pairs

pair_length : (at : ℕ) (p : Pair) → (pair at).fits p ≡ true → length ((pair at).spell p) ≡ 8
pair_length at p e =
    let parts = and_parts ((signed cut_instruction w32).fits p.key) ((wide at).fits p.target) e in
    length-append ((signed cut_instruction w32).spell p.key) ((wide at).spell p.target) ∙ rw (signed_length p.key parts.0, wide_length at p.target parts.1) refl

table_length : (at : ℕ) (s : TableSwitch) → (table_switch at).fits s ≡ true → 1 + length ((table_switch at).spell s) ≡ (13 + pad_of at) + 4 * length s.targets
unfolding table_switch
table_length at s e =
    let head : TableHead = (replicate (pad_of at) 0, (s.default, (s.low, last_key s))) in
    let p = and_parts ((table_head at).fits head) ((repeated (wide at) (table_count head)).fits s.targets) e in
    let q = and_parts _ (is_sound (fault_unless switch_keys (is_padding head.0 && ltb 0 (table_count head)))) p.0 in
    let r = and_parts (eqb (length head.0) (pad_of at)) _ q.0 in
    let t = and_parts ((wide at).fits s.default) _ r.1 in
    let u = and_parts ((signed cut_instruction w32).fits s.low) ((signed cut_instruction w32).fits (last_key s)) t.1 in
    let v = and_parts (eqb (length s.targets) (table_count head)) _ p.1 in
    let pieces = five_pieces (replicate (pad_of at) 0) ((wide at).spell s.default) ((signed cut_instruction w32).spell s.low) ((signed cut_instruction w32).spell (last_key s)) (targets_spelling at s.targets) in
    omega (arith, pieces, length-replicate {A = ℕ} (pad_of at) 0, wide_length at s.default t.0, signed_length s.low u.0, signed_length (last_key s) u.1, chain_length (wide at) 4 (wide_length at) s.targets v.1)

lookup_length : (at : ℕ) (s : LookupSwitch) → (lookup_switch at).fits s ≡ true → 1 + length ((lookup_switch at).spell s) ≡ (9 + pad_of at) + 8 * length s.pairs
unfolding lookup_switch
lookup_length at s e =
    let head : LookupHead = (replicate (pad_of at) 0, (s.default, length s.pairs)) in
    let p = and_parts ((lookup_head at).fits head) ((tested switch_keys rises (repeated (pair at) (length s.pairs))).fits s.pairs) e in
    let q = and_parts _ (is_sound (fault_unless switch_keys (is_padding head.0 && ltb (length s.pairs) (2 ^ 31)))) p.0 in
    let r = and_parts (eqb (length head.0) (pad_of at)) _ q.0 in
    let t = and_parts ((wide at).fits s.default) _ r.1 in
    let u = and_parts ((repeated (pair at) (length s.pairs)).fits s.pairs) (is_sound (fault_unless switch_keys (rises s.pairs))) p.1 in
    let v = and_parts (eqb (length s.pairs) (length s.pairs)) _ u.0 in
    let pieces = four_pieces (replicate (pad_of at) 0) ((wide at).spell s.default) ((number_format cut_instruction w32).spell (length s.pairs)) (pairs_spelling at s.pairs) in
    omega (arith, pieces, length-replicate {A = ℕ} (pad_of at) 0, wide_length at s.default t.0, wide32.len (length s.pairs), chain_length (pair at) 8 (pair_length at) s.pairs v.1)

pub size_is : (at : ℕ) (op : Op) → (instruction at).fits op ≡ true → length ((instruction at).spell op) ≡ size_at at op
size_is at ops.Nop e = refl
size_is at ops.AconstNull e = refl
size_is at (ops.Iconst name) e = refl
size_is at (ops.Bipush n) e = ap suc (mapped_length cut_instruction w8 wide8 _ e)
size_is at (ops.Sipush n) e = ap suc (mapped_length cut_instruction w16 wide16 _ e)
size_is at (ops.Ldc slot) e = refl
size_is at (ops.Pool name slot) e = refl
size_is at (ops.Local name index) e = refl
size_is at (ops.ShortLocal name index) e = refl
size_is at (ops.Array name) e = refl
size_is at (ops.Stack name) e = refl
size_is at (ops.IntArithmetic name) e = refl
size_is at (ops.IntDivision name) e = refl
size_is at (ops.IntShift name) e = refl
size_is at (ops.LongArithmetic name) e = refl
size_is at (ops.LongDivision name) e = refl
size_is at (ops.LongShift name) e = refl
size_is at (ops.Iinc index n) e = ap (λ (k : ℕ). suc (suc k)) (mapped_length cut_instruction w8 wide8 _ (and_parts _ ((signed cut_instruction w8).fits n) e).1)
size_is at (ops.Convert name) e = refl
size_is at ops.Lcmp e = refl
size_is at (ops.Branch name target) e = ap suc (near_length at target e)
size_is at (ops.GotoW target) e = ap suc (wide_length at target e)
size_is at (ops.TableSwitch s) e = omega (arith, table_length at s e)
size_is at (ops.LookupSwitch s) e = omega (arith, lookup_length at s e)
size_is at (ops.Give name) e = refl
size_is at ops.Newarray e = refl
size_is at ops.Arraylength e = refl
