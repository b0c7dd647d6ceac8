use Rattle.std.proofs.Common.{◌≡◌, length, arith, ap, sym, rules, slice_get, ◌∷◌, Some}
use Rattle.std.specs.Prelude.{FitsSigned}
use Rattle.std.specs.Int.{w32}
use Rattle.std.proofs.lemmas.Bool.Decides.{nat_tests}
use Rattle.std.proofs.lemmas.Int.{to_z-of_z}
use Rattle.jvm_instructions.specs.Workings.{workspace}
use Rattle.jvm_instructions.proofs.Targets.{table_within, default_target, target_behind}
use Rattle.jvm_instructions.proofs.working.Working.table_switch.Goals as goal

pub unreachable-requires : goal.unreachable-requires
unreachable-requires c =
    let fits : FitsSigned w32 c.args.switch.now.low = search rules in
    let jumps = c.table_switch-number.ensures.jumps c.args.switch.now (sym (to_z-of_z w32 c.args.switch.now.low fits)) (ap length (sym c.as_slice-targets.ensures)) in
    let within = table_within c.args.switch.now c.args.self.now.frames.current.operands.items c.table_switch-number.new.self.items c.table_switch-number.result c.requires jumps in
    let size = ap length c.as_slice-targets.ensures in
    grind (arith, nat_tests, within, size, c.if-number-eq0.false, c.in-None.ensures.lookup)

pub returns-then-number-eq0-clause-jumps : goal.returns-then-number-eq0-clause-jumps
returns-then-number-eq0-clause-jumps c = λ program.
    let fits : FitsSigned w32 c.args.switch.now.low = search rules in
    let jumps = c.table_switch-number.ensures.jumps c.args.switch.now (sym (to_z-of_z w32 c.args.switch.now.low fits)) (ap length (sym c.as_slice-targets.ensures)) in
    (c.table_switch-number.result, jumps program c.args.self.now.heap.region.size (workspace c.args.self.now), default_target c.args.switch.now.default c.table_switch-number.result c.args.switch.now.targets c.if-number-eq0.true)

found_target : (c : goal.After-row_known-1) → slice_get (c.args.switch.now.default ∷ c.args.switch.now.targets) c.table_switch-number.result ≡ Some c.in-Some.target.now
found_target c = target_behind c.args.switch.now.default c.table_switch-number.result c.in-Some.target.now c.args.switch.now.targets c.as_slice-targets.result.now c.if-number-eq0.false c.as_slice-targets.ensures c.in-Some.ensures.lookup.1 c.in-Some.ensures.lookup.0

pub returns-clause-jumps : goal.returns-clause-jumps
returns-clause-jumps c = λ program.
    let fits : FitsSigned w32 c.args.switch.now.low = search rules in
    let jumps = c.table_switch-number.ensures.jumps c.args.switch.now (sym (to_z-of_z w32 c.args.switch.now.low fits)) (ap length (sym c.as_slice-targets.ensures)) in
    (c.table_switch-number.result, jumps program c.args.self.now.heap.region.size (workspace c.args.self.now), found_target c)
