-- The code of instructions, and of a link, moves operands as code does that may stand above others.
use Rattle.std.proofs.Common.{◌≡◌, ℕ, zero, suc, ◌+◌, ◌≤◌, Bool, true, false, if◌then◌else◌, List, [], ◌∷◌, ◌++◌, refl, subst, sym, ◌∙◌, arith}
use Rattle.std.specs.List.{flat_map, list_all, range_with_len}
use Rattle.std.proofs.lemmas.Bool.{and_from}
use Rattle.std.proofs.lemmas.List.Folds.{list_all-append}
use Rattle.mips_definition.specs.declared.names.arithmetic_name.ArithmeticName.TheVariants.{Add}
use Rattle.mips_definition.specs.declared.names.arithmetic_immediate_name.ArithmeticImmediateName.TheVariants.{Addi}
use Rattle.mips_definition.specs.declared.names.logical_immediate_name.LogicalImmediateName.TheVariants.{Andi}
use Rattle.mips_definition.specs.declared.names.load_name.LoadName.TheVariants.{Lwl}
use Rattle.mips_definition.specs.declared.names.trap_name.TrapName.TheVariants.{Tgeu}
use Rattle.mips_definition.specs.declared.names.trap_immediate_name.TrapImmediateName.TheVariants.{Tgeiu}
use Rattle.mips_definition.specs.declared.inst.Inst.{Inst}
use Rattle.mips_definition.specs.declared.inst.Inst.TheVariants as inst
use Rattle.emit_steps.specs.declared.step.Step.{Step}
use Rattle.emit_instructions.specs.Access.{push_word, put_register}
use Rattle.emit_instructions.specs.Units.{instruction_code}
use Rattle.emit_instructions.proofs.Forms.{Part, Acts, Reads, Word, Writes, Form, Straight, Weights, code_of, form-weighs, most, read-most, step_of, write-most}
use Rattle.emit_instructions.proofs.InstructionForms.{instruction_form, instruction-is}
use Rattle.word_emitter.specs.Pieces.{for_registers, put_back}
use Rattle.emit_types_laws.proofs.TypedSteps.Framed.{is_moving, is_moving_step}

-- ---- how many steps do not move operands so

abbrev stays : Bool → ℕ
stays moves = if moves then 0 else 1

abbrev stays_step : Step → ℕ
stays_step s = stays (is_moving_step s)

abbrev stay : List Step → ℕ
stay [] = 0
stay (s ∷ code) = stays_step s + stay code

abbrev part_stays : Part → ℕ
part_stays (Acts instruction) = stays (is_moving instruction)
part_stays p = 0

stay-append : (xs ys : List Step) → stay (xs ++ ys) ≡ stay xs + stay ys
stay-append [] ys = omega arith
stay-append (s ∷ xs) ys = let e : stay (xs ++ ys) ≡ stay xs + stay ys = stay-append xs ys in omega arith

part-weighs : (bank : ℕ) (p : Part) → stays_step (step_of bank p) ≤ part_stays p
part-weighs bank (Reads r) = read-most stays_step 0 bank r (omega arith) (omega arith) (omega arith)
part-weighs bank (Writes r) = write-most stays_step 0 bank r (omega arith) (omega arith) (omega arith)
part-weighs bank _ = omega arith

abbrev staying : Weights
staying = record {
  total = stay;
  part = part_stays;
  nothing = refl;
  next = λ bank p code. omega (arith, part-weighs bank p);
  behind = stay-append;
}

-- ---- code over a bank

one-moves : (moves : Bool) → stays moves ≤ 0 → moves ≡ true
one-moves true none = refl
one-moves false none = absurd (omega (arith, none))

all-move : (code : List Step) → stay code ≤ 0 → list_all is_moving_step code ≡ true
all-move [] none = refl
all-move (s ∷ code) none =
    and_from (is_moving_step s) (list_all is_moving_step code) (one-moves (is_moving_step s) (omega (arith, none)))
    (all-move code (omega (arith, none)))

form-moves : (bank : ℕ) (form : Form) → most staying form ≤ 0 → list_all is_moving_step (code_of bank form) ≡ true
form-moves bank form none = all-move (code_of bank form) (omega (arith, form-weighs staying bank form, none))

instruction-stays : (i : Inst) (at : ℕ) → most staying (instruction_form i at) ≤ 0
instruction-stays (inst.Arithmetic Add rs rt rd) at = omega arith
instruction-stays (inst.ArithmeticImmediate Addi rs rt imm) at = omega arith
instruction-stays (inst.LogicalImmediate Andi rs rt imm) at = omega arith
instruction-stays (inst.Load Lwl rs rt imm) at = omega arith
instruction-stays (inst.Trap Tgeu rs rt code) at = omega arith
instruction-stays (inst.TrapImmediate Tgeiu rs imm) at = omega arith
instruction-stays _ at = omega arith

pub instruction-moves : (bank : ℕ) (i : Inst) (at : ℕ) → list_all is_moving_step (instruction_code bank i at) ≡ true
instruction-moves bank i at =
    subst (λ code. list_all is_moving_step code ≡ true) (sym (instruction-is bank i at))
    (form-moves bank (instruction_form i at) (instruction-stays i at))

pub link-moves : (bank w r : ℕ) → list_all is_moving_step (push_word w ∷ put_register bank r ∷ []) ≡ true
link-moves bank w r = form-moves bank (Straight (Word w ∷ Writes r ∷ [])) (omega arith)

-- ---- registers that are put back

one-back : (b : Bool) (r : ℕ) → list_all is_moving_step (if b then put_back r else []) ≡ true
one-back true r = refl
one-back false r = refl

back-from : (test : ℕ → Bool) (a n : ℕ)
    → list_all is_moving_step (flat_map (λ r. if test r then put_back r else []) (range_with_len a n)) ≡ true
back-from test a zero = refl
back-from test a (suc n) =
    let first = if test a then put_back a else [] in
    let rest = flat_map (λ r. if test r then put_back r else []) (range_with_len (a + 1) n) in
    list_all-append is_moving_step first rest
    ∙ and_from (list_all is_moving_step first) (list_all is_moving_step rest) (one-back (test a) a) (back-from test (a + 1) n)

pub back-moves : (test : ℕ → Bool) → list_all is_moving_step (for_registers test put_back) ≡ true
back-moves test = back-from test 1 31
