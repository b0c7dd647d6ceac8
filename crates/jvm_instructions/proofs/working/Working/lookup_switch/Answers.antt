use Rattle.std.proofs.Common.{ap, sym, ◌∙◌, ◌-◌, length, arith, get_or, Some, to_z, of_z, rules}
use Rattle.std.specs.Int.{w32}
use Rattle.std.proofs.lemmas.Int.{to_z-of_z}
use Rattle.std.specs.Prelude.{List, pos, FitsSigned}
use Rattle.jvm_definition.specs.declared.pair.Pair.{Pair}
use Rattle.jvm_instructions.specs.Workings.{workspace}
use Rattle.jvm_instructions.proofs.Targets.{lookup_jumps, pair_behind}
use Rattle.jvm_instructions.proofs.working.Working.lookup_switch.Goals as goal

pub returns-else-number-eq0-clause-jumps : goal.returns-else-number-eq0-clause-jumps
returns-else-number-eq0-clause-jumps c = λ program.
    let fits : FitsSigned w32 c.signed.result = search rules in (
      c.target_number-number.result,
      lookup_jumps c.args.switch.now c.args.self.now.frames.current.operands.items c.pop_int.new.self.items c.pop_int.result (to_z w32 (of_z w32 c.signed.result)) c.target_number-number.result c.as_slice-pairs.result.now (workspace c.args.self.now) c.pop_int.ensures.popped (to_z-of_z w32 c.signed.result fits ∙ c.signed.ensures.value) c.as_slice-pairs.ensures c.target_number-number.ensures.number,
      (let size = ap length c.as_slice-pairs.ensures in
          pair_behind c.args.switch.now.default c.target_number-number.result c.args.switch.now.pairs (record { key = pos 0; target = 0 }) c.if-number-eq0.false (omega (arith, size, c.target_number-number.ensures.within)))
          ∙ ap (λ (ps : List Pair). Some (get_or ps (c.target_number-number.result - 1) (record { key = pos 0; target = 0 })).target) (sym c.as_slice-pairs.ensures),
    )
