-- The code of a branch or jump counts what the code of its slot does.
use Rattle.std.proofs.Common.{◌≡◌, ℕ, ◌+◌, Bool, true, false, List, [], ◌∷◌, ◌++◌, length, Option, Some, None, refl, ap, subst, sym, append_assoc, arith}
use Rattle.run_definition.specs.declared.order.Order.{Order}
use Rattle.mips_definition.specs.Targets.{branch_target}
use Rattle.mips_definition.specs.Branches.{equal_likely, zero_likely, sign_likely}
use Rattle.mips_definition.specs.declared.inst.Inst.{Inst}
use Rattle.mips_definition.specs.declared.inst.Inst.TheVariants as inst
use Rattle.jvm_definition.specs.declared.branch_name.BranchName.{BranchName}
use Rattle.jvm_definition.specs.declared.branch_name.BranchName.TheVariants.{Goto}
use Rattle.emit_steps.specs.declared.step.Step.{Step}
use Rattle.jvm_definition.specs.declared.instruction.Instruction.TheVariants.{Nop}
use Rattle.emit_steps.specs.declared.step.Step.TheVariants.{Does, Skips}
use Rattle.emit_instructions.specs.Access.{get_register}
use Rattle.emit_instructions.specs.Branching.{goes_to_code, behind_slot, link_code, equal_test, zero_test, sign_test, sign_link, jump_link, conditional_code, transfer_code}
use Rattle.emit_paths_laws.specs.Paths.{weigh}
use Rattle.emit_paths_laws.proofs.Weighing.{weigh-both}
use Rattle.emit_simulation_laws.specs.Sites.{whole_weight}
use Rattle.emit_instructions_laws.specs.Counting.{Counts}
use Rattle.emit_instructions_laws.proofs.UnitCounts.Weights.{loud, get-quiet, put-quiet, counts-behind}

-- Code is the code of a slot behind code that counts nothing.
pub record EndsWithSlot (code slot : List Step) : Type 0 where
  pub front : List Step
  pub is : code ≡ front ++ slot
  pub quiet : weigh loud front ≡ 0

link-quiet : (bank at : ℕ) (link : Option ℕ) → weigh loud (link_code bank link at) ≡ 0
link-quiet bank at None = refl
link-quiet bank at (Some r) = omega (arith, put-quiet bank r)

conditional-slot : (likely : Bool) (test : BranchName) (target behind : ℕ) (link slot : List Step) → weigh loud link ≡ 0 → EndsWithSlot (conditional_code likely test target behind link slot) slot
conditional-slot false test target behind link slot quiet = record {
  front = link;
  is = refl;
  quiet = quiet;
}
conditional-slot true test target behind link slot quiet =
    let over : ℕ = 4 + length link + length slot in
    let taken : List Step = Skips Goto over ∷ (goes_to_code target ++ link) in
    let both = weigh-both loud link taken in
    record {
      front = Skips test (5 + length link) ∷ (goes_to_code behind ++ (link ++ taken));
      is = ap (λ code. Skips test (5 + length link) ∷ (goes_to_code behind ++ code)) (sym (append_assoc link taken slot));
      quiet = omega (arith, both, quiet);
    }

pub transfer-slot : (bank at : ℕ) (i : Inst) (slot : List Step) → EndsWithSlot (transfer_code bank i at slot) slot
transfer-slot bank at (inst.BranchEqual name rs rt imm) slot =
    let c = conditional-slot (equal_likely name) (equal_test name) (branch_target at imm) (behind_slot at) [] slot refl in
    record {
      front = get_register bank rs ∷ get_register bank rt ∷ c.front;
      is = ap (λ code. get_register bank rs ∷ get_register bank rt ∷ code) c.is;
      quiet = omega (arith, c.quiet, get-quiet bank rs, get-quiet bank rt);
    }
transfer-slot bank at (inst.BranchZero name rs imm) slot =
    let c = conditional-slot (zero_likely name) (zero_test name) (branch_target at imm) (behind_slot at) [] slot refl in
    record {
      front = get_register bank rs ∷ c.front;
      is = ap (λ code. get_register bank rs ∷ code) c.is;
      quiet = omega (arith, c.quiet, get-quiet bank rs);
    }
transfer-slot bank at (inst.BranchSign name rs imm) slot =
    let link = link_code bank (sign_link name) at in
    let c = conditional-slot (sign_likely name) (sign_test name) (branch_target at imm) (behind_slot at) link slot (link-quiet bank at (sign_link name)) in
    record {
      front = get_register bank rs ∷ c.front;
      is = ap (λ code. get_register bank rs ∷ code) c.is;
      quiet = omega (arith, c.quiet, get-quiet bank rs);
    }
transfer-slot bank at (inst.Jump name index) slot = record {
  front = Does Nop ∷ link_code bank (jump_link name) at;
  is = refl;
  quiet = omega (arith, link-quiet bank at (jump_link name));
}
transfer-slot bank at (inst.JumpRegister rs) slot = record {
  front = get_register bank rs ∷ [];
  is = refl;
  quiet = omega (arith, get-quiet bank rs);
}
transfer-slot bank at (inst.JumpAndLinkRegister rs rd) slot = record {
  front = get_register bank rs ∷ link_code bank (Some rd) at;
  is = refl;
  quiet = omega (arith, get-quiet bank rs, put-quiet bank rd);
}
transfer-slot bank at _ slot = record { front = []; is = refl; quiet = refl }

pub transfer-counts : (is_span : ℕ → Bool) (order : Order) (n bank at : ℕ) (i : Inst) (slot : List Step) → Counts is_span n 0 (whole_weight order slot) → Counts is_span n 0 (whole_weight order (transfer_code bank i at slot))
transfer-counts is_span order n bank at i slot c =
    let f = transfer-slot bank at i slot in
    subst (λ code. Counts is_span n 0 (whole_weight order code)) (sym f.is)
    (counts-behind is_span order n f.front slot f.quiet c)
