-- An instruction is a format.
use Rattle.std.proofs.Common.{◌≡◌, ℕ, ◌^◌, ◌%◌, ◌<◌, Bool, true, false, cond, eqb, List, [], ◌∷◌, ◌++◌, length, Option, Some, None, Ok, Err, refl, sym, ap, subst, ◌∙◌, arith, lit<}
use Rattle.std.specs.Int.{w8, w16, to_be_bytes}
use Rattle.std.proofs.lemmas.Bool.{eqb-true, lt-ltb, ltb-true}
use Rattle.jvm_definition.specs.declared.array_name.ArrayName.TheVariants.{Iaload, Aaload, Iastore, Aastore}
use Rattle.jvm_definition.specs.declared.stack_name.StackName.TheVariants.{Pop, Pop2, Dup, DupX1, DupX2, Dup2, Swap}
use Rattle.jvm_definition.specs.declared.int_arithmetic.IntArithmetic.TheVariants.{Iadd, Isub, Imul, Iand, Ior, Ixor}
use Rattle.jvm_definition.specs.declared.int_division.IntDivision.TheVariants.{Idiv, Irem}
use Rattle.jvm_definition.specs.declared.int_shift.IntShift.TheVariants.{Ishl, Ishr, Iushr}
use Rattle.jvm_definition.specs.declared.long_arithmetic.LongArithmetic.TheVariants.{Ladd, Lmul, Land}
use Rattle.jvm_definition.specs.declared.long_division.LongDivision.TheVariants.{Ldiv, Lrem}
use Rattle.jvm_definition.specs.declared.long_shift.LongShift.TheVariants.{Lshl, Lshr, Lushr}
use Rattle.jvm_definition.specs.declared.conversion.Conversion.TheVariants.{I2l, L2i, I2b, I2c, I2s}
use Rattle.jvm_definition.specs.declared.return_name.ReturnName.TheVariants.{Ireturn, Return}
use Rattle.jvm_definition.specs.declared.branch_name.BranchName.TheVariants.{Ifeq, Ifne, Iflt, Ifge, Ifgt, Ifle, IfIcmpeq, IfIcmpne, IfIcmplt, IfIcmpge, IfIcmpgt, IfIcmple, Goto, Ifnull, Ifnonnull}
use Rattle.class_definition.specs.declared.miss.Miss.{Miss}
use Rattle.class_definition.specs.Format.{Format, Reading, signed}
use Rattle.class_definition.specs.Spelling.{IsBytes, Begins, IsFormat}
use Rattle.class_format.proofs.Readings.{went_on, same_value, IsBytes-rest}
use Rattle.class_format.proofs.FieldLaws.{wide8, wide16, number_law}
use Rattle.class_format.proofs.Signed.{signed8, signed16, signed_law}
use Rattle.class_format.proofs.Combined.{both_law}
use Rattle.class_format.proofs.Parts.{exactly_law}
use Rattle.class_definition.specs.declared.op.Op.{Op}
use Rattle.class_definition.specs.declared.op.Op.TheVariants.{Nop, AconstNull, Iconst, Bipush, Sipush, Ldc, Pool, Local, ShortLocal, Array, Stack, IntArithmetic, IntDivision, IntShift, LongArithmetic, LongDivision, LongShift, Iinc, Convert, Lcmp, Branch, GotoW, TableSwitch, LookupSwitch, Give, Newarray, Arraylength}
use Rattle.class_definition.specs.declared.iconst.Iconst.TheVariants as iconsts
use Rattle.class_definition.specs.declared.local_name.LocalName.TheVariants.{Iload, Aload, Istore, Astore}
use Rattle.class_definition.specs.declared.pool_name.PoolName.TheVariants.{LdcW, Ldc2W, Getstatic, Putstatic, Invokevirtual, Invokestatic, Anewarray}
use Rattle.class_definition.specs.declared.short_index.ShortIndex.TheVariants.{Zero, One, Two, Three}
use Rattle.class_definition.specs.Opcodes.{row_of, plain_of, local_names, branch_names, pool_names}
use Rattle.class_definition.specs.Targets.{outside, cut_instruction, near, wide}
use Rattle.class_definition.specs.Switches.{table_switch, lookup_switch}
use Rattle.class_definition.specs.Instructions.{opcode, byte, half_field, byte_pair, ints, operand_bytes, operands_fit, made_from, chosen, single, operands, inner, as_one, instruction}
use Rattle.jvm_code.proofs.TargetLaws.{near_law, wide_law}
use Rattle.jvm_code.proofs.SwitchLaws.{table_law, lookup_law}
use Rattle.jvm_code.proofs.TableLaws.{IsPlain, plain_is, local_name_is, branch_name_is, pool_name_is}

byte_law : IsFormat byte
byte_law = number_law cut_instruction w8 wide8

half_law : IsFormat half_field
half_law = number_law cut_instruction w16 wide16

pair_law : IsFormat byte_pair
pair_law = both_law byte (λ _. signed cut_instruction w8) byte_law (λ _. signed_law cut_instruction w8 wide8 signed8)

ints_law : IsFormat ints
ints_law = exactly_law cut_instruction w8 outside 10 wide8

-- ---- what is read

pub record Taken (at n : ℕ) (bytes : List ℕ) (op : Op) (rest : List ℕ) : Type 0 where
  pub code : opcode op ≡ n
  pub fits : operands_fit at op ≡ true
  pub spelled : bytes ≡ operand_bytes at op ++ rest

made_taken : {B : Type 0} (make : B → Op) (f : Format B) (at n : ℕ) → IsFormat f → ((b : B) → opcode (make b) ≡ n) → ((b : B) → operands_fit at (make b) ≡ f.fits b)
    → ((b : B) → operand_bytes at (make b) ≡ f.spell b) → (bytes : List ℕ) (op : Op) (rest : List ℕ) → IsBytes bytes → made_from make f bytes ≡ Ok (op, rest) → Taken at n bytes op rest
made_taken make f at n law codes fit spell bytes op rest h e =
    let p = went_on (f.read bytes) (λ b. Ok (make b.0, b.1)) (op, rest) e in
    let t = law.taken bytes p.0.0 p.0.1 h p.1 in
    let P : Op × List ℕ → Type 0 = λ x. Taken at n bytes x.0 x.1 in
    subst P (same_value {E = Miss} (make p.0.0, p.0.1) (op, rest) p.2) (record { code = codes p.0.0; fits = fit p.0.0 ∙ t.fits; spelled = t.spelled ∙ ap (λ (xs : List ℕ). xs ++ p.0.1) (sym (spell p.0.0)) })

by_choice : {A : Type 0} (P : Type 0) (o : Option A) (f : A → Reading Op) (others r : Reading Op) → chosen o f others ≡ r → ((a : A) → o ≡ Some a → f a ≡ r → P) → (others ≡ r → P) → P
by_choice P None f others r e some none = none e
by_choice P (Some a) f others r e some none = some a refl e

by_test : (P : Type 0) (b : Bool) (x y r : Reading Op) → cond b x y ≡ r → (b ≡ true → x ≡ r → P) → (y ≡ r → P) → P
by_test P true x y r e one other = one refl e
by_test P false x y r e one other = other e

plain_taken : (at n : ℕ) (op' op : Op) (bytes rest : List ℕ) → IsPlain n op' → ◌≡◌ {A = Reading Op} (Ok (op', bytes)) (Ok (op, rest)) → Taken at n bytes op rest
plain_taken at n op' op bytes rest p e =
    let P : Op × List ℕ → Type 0 = λ x. Taken at n bytes x.0 x.1 in
    subst P (same_value {E = Miss} (op', bytes) (op, rest) e) (record { code = p.0; fits = p.1.1 at; spelled = rw (p.1.0 at) refl })

single_taken : (at : ℕ) → at < 2 ^ 16 → (n : ℕ) (bytes : List ℕ) (op : Op) (rest : List ℕ) → IsBytes bytes → single at n bytes ≡ Ok (op, rest) → Taken at n bytes op rest
unfolding single
single_taken at low n bytes op rest h e =
    by_test (Taken at n bytes op rest) (eqb n 16) _ _ (Ok (op, rest)) e (λ t r. made_taken Bipush (signed cut_instruction w8) at n (signed_law cut_instruction w8 wide8 signed8) (λ b. sym (eqb-true n 16 t)) (λ b. refl) (λ b. refl) bytes op rest h r) (λ e'.
    by_test (Taken at n bytes op rest) (eqb n 17) _ _ (Ok (op, rest)) e' (λ t r. made_taken Sipush (signed cut_instruction w16) at n (signed_law cut_instruction w16 wide16 signed16) (λ b. sym (eqb-true n 17 t)) (λ b. refl) (λ b. refl) bytes op rest h r) (λ e'.
    by_test (Taken at n bytes op rest) (eqb n 18) _ _ (Ok (op, rest)) e' (λ t r. made_taken Ldc (byte) at n (byte_law) (λ b. sym (eqb-true n 18 t)) (λ b. refl) (λ b. refl) bytes op rest h r) (λ e'.
    by_test (Taken at n bytes op rest) (eqb n 132) _ _ (Ok (op, rest)) e' (λ t r. made_taken (λ x. Iinc x.0 x.1) (byte_pair) at n (pair_law) (λ b. sym (eqb-true n 132 t)) (λ b. refl) (λ b. refl) bytes op rest h r) (λ e'.
    by_test (Taken at n bytes op rest) (eqb n 170) _ _ (Ok (op, rest)) e' (λ t r. made_taken TableSwitch (table_switch at) at n (table_law at low) (λ b. sym (eqb-true n 170 t)) (λ b. refl) (λ b. refl) bytes op rest h r) (λ e'.
    by_test (Taken at n bytes op rest) (eqb n 171) _ _ (Ok (op, rest)) e' (λ t r. made_taken LookupSwitch (lookup_switch at) at n (lookup_law at low) (λ b. sym (eqb-true n 171 t)) (λ b. refl) (λ b. refl) bytes op rest h r) (λ e'.
    by_test (Taken at n bytes op rest) (eqb n 188) _ _ (Ok (op, rest)) e' (λ t r. made_taken (λ _. Newarray) (ints) at n (ints_law) (λ b. sym (eqb-true n 188 t)) (λ b. refl) (λ b. refl) bytes op rest h r) (λ e'.
    by_test (Taken at n bytes op rest) (eqb n 200) _ _ (Ok (op, rest)) e' (λ t r. made_taken GotoW (wide at) at n (wide_law at low) (λ b. sym (eqb-true n 200 t)) (λ b. refl) (λ b. refl) bytes op rest h r) (λ e'.
    absurd cc))))))))

operands_taken : (at : ℕ) → at < 2 ^ 16 → (n : ℕ) (bytes : List ℕ) (op : Op) (rest : List ℕ) → IsBytes bytes → operands at n bytes ≡ Ok (op, rest) → Taken at n bytes op rest
unfolding operands
operands_taken at low n bytes op rest h e =
    by_choice (Taken at n bytes op rest) (plain_of n) _ _ (Ok (op, rest)) e (λ p is r. plain_taken at n p op bytes rest (plain_is n p is) r) (λ e1.
    by_choice (Taken at n bytes op rest) (row_of n local_names) _ _ (Ok (op, rest)) e1
    (λ name is r. made_taken (Local name) byte at n byte_law (λ b. local_name_is n name is) (λ b. refl) (λ b. refl) bytes op rest h r) (λ e2.
    by_choice (Taken at n bytes op rest) (row_of n branch_names) _ _ (Ok (op, rest)) e2
    (λ name is r. made_taken (Branch name) (near at) at n (near_law at low) (λ b. branch_name_is n name is) (λ b. refl) (λ b. refl) bytes op rest h r) (λ e3.
    by_choice (Taken at n bytes op rest) (row_of n pool_names) _ _ (Ok (op, rest)) e3
    (λ name is r. made_taken (Pool name) half_field at n half_law (λ b. pool_name_is n name is) (λ b. refl) (λ b. refl) bytes op rest h r)
    (λ e4. single_taken at low n bytes op rest h e4))))

one_ok : {A : Type 0} (size : ℕ) (r : Reading A) (x : A × List ℕ) → as_one size r ≡ Ok x → r ≡ Ok x
one_ok size (Ok y) x e = e
one_ok size (Err m) x e = absurd cc

instruction_taken : (at : ℕ) → at < 2 ^ 16 → (bytes : List ℕ) (op : Op) (rest : List ℕ) → IsBytes bytes → (instruction at).read bytes ≡ Ok (op, rest) → Begins (instruction at) bytes op rest
instruction_taken at low bytes op rest h e =
    let i = one_ok (length bytes) (inner at bytes) (op, rest) e in
    let p = went_on (byte.read bytes) (λ t. operands at t.0 t.1) (op, rest) i in
    let t = byte_law.taken bytes p.0.0 p.0.1 h p.1 in
    let o = operands_taken at low p.0.0 p.0.1 op rest (IsBytes-rest byte bytes p.0.0 p.0.1 h t) p.2 in
    let below = ltb-true _ _ t.fits in
    let small : p.0.0 % 2 ^ 8 ≡ p.0.0 = omega arith in
    let first : to_be_bytes w8 p.0.0 ≡ opcode op ∷ [] = ap (λ (n : ℕ). n ∷ []) (small ∙ sym o.code) in
    record { fits = o.fits; spelled = t.spelled ∙ ap (λ (xs : List ℕ). xs ++ p.0.1) first ∙ ap (λ (xs : List ℕ). opcode op ∷ xs) o.spelled }

-- ---- what is spelled

made_back : {B : Type 0} (make : B → Op) (f : Format B) → IsFormat f → (b : B) (rest : List ℕ) → f.fits b ≡ true → made_from make f (f.spell b ++ rest) ≡ Ok (make b, rest)
made_back make f law b rest e = rw (law.back b rest e) refl

operands_back : (at : ℕ) → at < 2 ^ 16 → (op : Op) (rest : List ℕ) → operands_fit at op ≡ true → operands at (opcode op) (operand_bytes at op ++ rest) ≡ Ok (op, rest)
unfolding operands single
operands_back at low Nop rest e = refl
operands_back at low AconstNull rest e = refl
operands_back at low Lcmp rest e = refl
operands_back at low Arraylength rest e = refl
operands_back at low (Iconst iconsts.M1) rest e = refl
operands_back at low (Iconst iconsts.Zero) rest e = refl
operands_back at low (Iconst iconsts.One) rest e = refl
operands_back at low (Iconst iconsts.Two) rest e = refl
operands_back at low (Iconst iconsts.Three) rest e = refl
operands_back at low (Iconst iconsts.Four) rest e = refl
operands_back at low (Iconst iconsts.Five) rest e = refl
operands_back at low (Array Iaload) rest e = refl
operands_back at low (Array Aaload) rest e = refl
operands_back at low (Array Iastore) rest e = refl
operands_back at low (Array Aastore) rest e = refl
operands_back at low (Stack Pop) rest e = refl
operands_back at low (Stack Pop2) rest e = refl
operands_back at low (Stack Dup) rest e = refl
operands_back at low (Stack DupX1) rest e = refl
operands_back at low (Stack DupX2) rest e = refl
operands_back at low (Stack Dup2) rest e = refl
operands_back at low (Stack Swap) rest e = refl
operands_back at low (IntArithmetic Iadd) rest e = refl
operands_back at low (IntArithmetic Isub) rest e = refl
operands_back at low (IntArithmetic Imul) rest e = refl
operands_back at low (IntArithmetic Iand) rest e = refl
operands_back at low (IntArithmetic Ior) rest e = refl
operands_back at low (IntArithmetic Ixor) rest e = refl
operands_back at low (IntDivision Idiv) rest e = refl
operands_back at low (IntDivision Irem) rest e = refl
operands_back at low (IntShift Ishl) rest e = refl
operands_back at low (IntShift Ishr) rest e = refl
operands_back at low (IntShift Iushr) rest e = refl
operands_back at low (LongArithmetic Ladd) rest e = refl
operands_back at low (LongArithmetic Lmul) rest e = refl
operands_back at low (LongArithmetic Land) rest e = refl
operands_back at low (LongDivision Ldiv) rest e = refl
operands_back at low (LongDivision Lrem) rest e = refl
operands_back at low (LongShift Lshl) rest e = refl
operands_back at low (LongShift Lshr) rest e = refl
operands_back at low (LongShift Lushr) rest e = refl
operands_back at low (Convert I2l) rest e = refl
operands_back at low (Convert L2i) rest e = refl
operands_back at low (Convert I2b) rest e = refl
operands_back at low (Convert I2c) rest e = refl
operands_back at low (Convert I2s) rest e = refl
operands_back at low (Give Ireturn) rest e = refl
operands_back at low (Give Return) rest e = refl
operands_back at low (ShortLocal Iload Zero) rest e = refl
operands_back at low (ShortLocal Iload One) rest e = refl
operands_back at low (ShortLocal Iload Two) rest e = refl
operands_back at low (ShortLocal Iload Three) rest e = refl
operands_back at low (ShortLocal Aload Zero) rest e = refl
operands_back at low (ShortLocal Aload One) rest e = refl
operands_back at low (ShortLocal Aload Two) rest e = refl
operands_back at low (ShortLocal Aload Three) rest e = refl
operands_back at low (ShortLocal Istore Zero) rest e = refl
operands_back at low (ShortLocal Istore One) rest e = refl
operands_back at low (ShortLocal Istore Two) rest e = refl
operands_back at low (ShortLocal Istore Three) rest e = refl
operands_back at low (ShortLocal Astore Zero) rest e = refl
operands_back at low (ShortLocal Astore One) rest e = refl
operands_back at low (ShortLocal Astore Two) rest e = refl
operands_back at low (ShortLocal Astore Three) rest e = refl
operands_back at low (Bipush n) rest e = made_back Bipush (signed cut_instruction w8) (signed_law cut_instruction w8 wide8 signed8) n rest e
operands_back at low (Sipush n) rest e = made_back Sipush (signed cut_instruction w16) (signed_law cut_instruction w16 wide16 signed16) n rest e
operands_back at low (Ldc slot) rest e = made_back Ldc byte byte_law slot rest e
operands_back at low (Pool LdcW slot) rest e = made_back (Pool LdcW) half_field half_law slot rest e
operands_back at low (Pool Ldc2W slot) rest e = made_back (Pool Ldc2W) half_field half_law slot rest e
operands_back at low (Pool Getstatic slot) rest e = made_back (Pool Getstatic) half_field half_law slot rest e
operands_back at low (Pool Putstatic slot) rest e = made_back (Pool Putstatic) half_field half_law slot rest e
operands_back at low (Pool Invokevirtual slot) rest e = made_back (Pool Invokevirtual) half_field half_law slot rest e
operands_back at low (Pool Invokestatic slot) rest e = made_back (Pool Invokestatic) half_field half_law slot rest e
operands_back at low (Pool Anewarray slot) rest e = made_back (Pool Anewarray) half_field half_law slot rest e
operands_back at low (Local Iload index) rest e = made_back (Local Iload) byte byte_law index rest e
operands_back at low (Local Aload index) rest e = made_back (Local Aload) byte byte_law index rest e
operands_back at low (Local Istore index) rest e = made_back (Local Istore) byte byte_law index rest e
operands_back at low (Local Astore index) rest e = made_back (Local Astore) byte byte_law index rest e
operands_back at low (Iinc index n) rest e = made_back (λ x. Iinc x.0 x.1) byte_pair pair_law (index, n) rest e
operands_back at low (Branch Ifeq target) rest e = made_back (Branch Ifeq) (near at) (near_law at low) target rest e
operands_back at low (Branch Ifne target) rest e = made_back (Branch Ifne) (near at) (near_law at low) target rest e
operands_back at low (Branch Iflt target) rest e = made_back (Branch Iflt) (near at) (near_law at low) target rest e
operands_back at low (Branch Ifge target) rest e = made_back (Branch Ifge) (near at) (near_law at low) target rest e
operands_back at low (Branch Ifgt target) rest e = made_back (Branch Ifgt) (near at) (near_law at low) target rest e
operands_back at low (Branch Ifle target) rest e = made_back (Branch Ifle) (near at) (near_law at low) target rest e
operands_back at low (Branch IfIcmpeq target) rest e = made_back (Branch IfIcmpeq) (near at) (near_law at low) target rest e
operands_back at low (Branch IfIcmpne target) rest e = made_back (Branch IfIcmpne) (near at) (near_law at low) target rest e
operands_back at low (Branch IfIcmplt target) rest e = made_back (Branch IfIcmplt) (near at) (near_law at low) target rest e
operands_back at low (Branch IfIcmpge target) rest e = made_back (Branch IfIcmpge) (near at) (near_law at low) target rest e
operands_back at low (Branch IfIcmpgt target) rest e = made_back (Branch IfIcmpgt) (near at) (near_law at low) target rest e
operands_back at low (Branch IfIcmple target) rest e = made_back (Branch IfIcmple) (near at) (near_law at low) target rest e
operands_back at low (Branch Goto target) rest e = made_back (Branch Goto) (near at) (near_law at low) target rest e
operands_back at low (Branch Ifnull target) rest e = made_back (Branch Ifnull) (near at) (near_law at low) target rest e
operands_back at low (Branch Ifnonnull target) rest e = made_back (Branch Ifnonnull) (near at) (near_law at low) target rest e
operands_back at low (GotoW target) rest e = made_back GotoW (wide at) (wide_law at low) target rest e
operands_back at low (TableSwitch s) rest e = made_back TableSwitch (table_switch at) (table_law at low) s rest e
operands_back at low (LookupSwitch s) rest e = made_back LookupSwitch (lookup_switch at) (lookup_law at low) s rest e
operands_back at low Newarray rest e = made_back (λ _. Newarray) ints ints_law tt rest e

below : (op : Op) → opcode op < 256
below Nop = lit< tt
below AconstNull = lit< tt
below Lcmp = lit< tt
below Arraylength = lit< tt
below (Iconst iconsts.M1) = lit< tt
below (Iconst iconsts.Zero) = lit< tt
below (Iconst iconsts.One) = lit< tt
below (Iconst iconsts.Two) = lit< tt
below (Iconst iconsts.Three) = lit< tt
below (Iconst iconsts.Four) = lit< tt
below (Iconst iconsts.Five) = lit< tt
below (Array Iaload) = lit< tt
below (Array Aaload) = lit< tt
below (Array Iastore) = lit< tt
below (Array Aastore) = lit< tt
below (Stack Pop) = lit< tt
below (Stack Pop2) = lit< tt
below (Stack Dup) = lit< tt
below (Stack DupX1) = lit< tt
below (Stack DupX2) = lit< tt
below (Stack Dup2) = lit< tt
below (Stack Swap) = lit< tt
below (IntArithmetic Iadd) = lit< tt
below (IntArithmetic Isub) = lit< tt
below (IntArithmetic Imul) = lit< tt
below (IntArithmetic Iand) = lit< tt
below (IntArithmetic Ior) = lit< tt
below (IntArithmetic Ixor) = lit< tt
below (IntDivision Idiv) = lit< tt
below (IntDivision Irem) = lit< tt
below (IntShift Ishl) = lit< tt
below (IntShift Ishr) = lit< tt
below (IntShift Iushr) = lit< tt
below (LongArithmetic Ladd) = lit< tt
below (LongArithmetic Lmul) = lit< tt
below (LongArithmetic Land) = lit< tt
below (LongDivision Ldiv) = lit< tt
below (LongDivision Lrem) = lit< tt
below (LongShift Lshl) = lit< tt
below (LongShift Lshr) = lit< tt
below (LongShift Lushr) = lit< tt
below (Convert I2l) = lit< tt
below (Convert L2i) = lit< tt
below (Convert I2b) = lit< tt
below (Convert I2c) = lit< tt
below (Convert I2s) = lit< tt
below (Give Ireturn) = lit< tt
below (Give Return) = lit< tt
below (ShortLocal Iload Zero) = lit< tt
below (ShortLocal Iload One) = lit< tt
below (ShortLocal Iload Two) = lit< tt
below (ShortLocal Iload Three) = lit< tt
below (ShortLocal Aload Zero) = lit< tt
below (ShortLocal Aload One) = lit< tt
below (ShortLocal Aload Two) = lit< tt
below (ShortLocal Aload Three) = lit< tt
below (ShortLocal Istore Zero) = lit< tt
below (ShortLocal Istore One) = lit< tt
below (ShortLocal Istore Two) = lit< tt
below (ShortLocal Istore Three) = lit< tt
below (ShortLocal Astore Zero) = lit< tt
below (ShortLocal Astore One) = lit< tt
below (ShortLocal Astore Two) = lit< tt
below (ShortLocal Astore Three) = lit< tt
below (Bipush n) = lit< tt
below (Sipush n) = lit< tt
below (Ldc slot) = lit< tt
below (Pool LdcW slot) = lit< tt
below (Pool Ldc2W slot) = lit< tt
below (Pool Getstatic slot) = lit< tt
below (Pool Putstatic slot) = lit< tt
below (Pool Invokevirtual slot) = lit< tt
below (Pool Invokestatic slot) = lit< tt
below (Pool Anewarray slot) = lit< tt
below (Local Iload index) = lit< tt
below (Local Aload index) = lit< tt
below (Local Istore index) = lit< tt
below (Local Astore index) = lit< tt
below (Iinc index n) = lit< tt
below (Branch Ifeq target) = lit< tt
below (Branch Ifne target) = lit< tt
below (Branch Iflt target) = lit< tt
below (Branch Ifge target) = lit< tt
below (Branch Ifgt target) = lit< tt
below (Branch Ifle target) = lit< tt
below (Branch IfIcmpeq target) = lit< tt
below (Branch IfIcmpne target) = lit< tt
below (Branch IfIcmplt target) = lit< tt
below (Branch IfIcmpge target) = lit< tt
below (Branch IfIcmpgt target) = lit< tt
below (Branch IfIcmple target) = lit< tt
below (Branch Goto target) = lit< tt
below (Branch Ifnull target) = lit< tt
below (Branch Ifnonnull target) = lit< tt
below (GotoW target) = lit< tt
below (TableSwitch s) = lit< tt
below (LookupSwitch s) = lit< tt
below Newarray = lit< tt

lead : (n : ℕ) (bytes : List ℕ) → n < 256 → byte.read (n ∷ bytes) ≡ Ok (n, bytes)
lead n bytes small =
    let e : to_be_bytes w8 n ≡ n ∷ [] = ap (λ (m : ℕ). m ∷ []) (omega arith) in
    let P : List ℕ → Type 0 = λ front. byte.read (front ++ bytes) ≡ Ok (n, bytes) in
    subst P e (byte_law.back n bytes (lt-ltb _ _ small))

instruction_back : (at : ℕ) → at < 2 ^ 16 → (op : Op) (rest : List ℕ) → operands_fit at op ≡ true
    → (instruction at).read ((opcode op ∷ operand_bytes at op) ++ rest) ≡ Ok (op, rest)
instruction_back at low op rest e =
    rw (lead (opcode op) (operand_bytes at op ++ rest) (below op), operands_back at low op rest e) refl

pub instruction_law : (at : ℕ) → at < 2 ^ 16 → IsFormat (instruction at)
instruction_law at low = record { back = instruction_back at low; taken = instruction_taken at low }
