use Rattle.std.proofs.Common.{subst}
use Rattle.jvm_definition.specs.declared.table_switch.TableSwitch.{TableSwitch}
use Rattle.jvm_definition.specs.declared.lookup_switch.LookupSwitch.{LookupSwitch}
use Rattle.jvm_definition.specs.Values.{is_long_value}
use Rattle.jvm_definition.specs.Shuffles.{forms_of, shuffled}
use Rattle.jvm_definition.specs.declared.instruction.Instruction.{Instruction}
use Rattle.jvm_definition.specs.declared.instruction.Instruction.TheVariants as instructions
use Rattle.class_definition.specs.Linking.{program_of}
use Rattle.jvm_instructions.specs.Workings.{workspace}
use Rattle.jvm_instructions.specs.Executes.{Jumps}
use Rattle.jvm_instructions.specs.Ready.{IsReady}
use Rattle.jvm_instructions.proofs.Results.{trapped, room_left}
use Rattle.jvm_instructions.proofs.working.Working.execute.Goals as goal

pub returns-in-Push-clause-executes : goal.returns-in-Push-clause-executes
returns-in-Push-clause-executes c = rw c.in-Push.is (c.push_constant.ensures.does (program_of c.args.classes.now))

pub returns-in-Load-clause-executes : goal.returns-in-Load-clause-executes
returns-in-Load-clause-executes c = rw c.in-Load.is (c.load.ensures.does (program_of c.args.classes.now))

pub returns-in-Store-clause-executes : goal.returns-in-Store-clause-executes
returns-in-Store-clause-executes c = rw c.in-Store.is (c.store.ensures.does (program_of c.args.classes.now))

pub returns-in-Stack-clause-executes : goal.returns-in-Stack-clause-executes
returns-in-Stack-clause-executes c = rw c.in-Stack.is (c.shuffle.ensures.does (program_of c.args.classes.now))

pub returns-in-IntArithmetic-clause-executes : goal.returns-in-IntArithmetic-clause-executes
returns-in-IntArithmetic-clause-executes c = rw c.in-IntArithmetic.is (c.int_arithmetic.ensures.does (program_of c.args.classes.now))

pub returns-in-IntShift-clause-executes : goal.returns-in-IntShift-clause-executes
returns-in-IntShift-clause-executes c = rw c.in-IntShift.is (c.int_shift.ensures.does (program_of c.args.classes.now))

pub returns-in-LongArithmetic-clause-executes : goal.returns-in-LongArithmetic-clause-executes
returns-in-LongArithmetic-clause-executes c = rw c.in-LongArithmetic.is (c.long_arithmetic.ensures.does (program_of c.args.classes.now))

pub returns-in-LongShift-clause-executes : goal.returns-in-LongShift-clause-executes
returns-in-LongShift-clause-executes c = rw c.in-LongShift.is (c.long_shift.ensures.does (program_of c.args.classes.now))

pub returns-in-Increment-clause-executes : goal.returns-in-Increment-clause-executes
returns-in-Increment-clause-executes c = rw c.in-Increment.is (c.increment.ensures.does (program_of c.args.classes.now))

pub returns-in-Convert-clause-executes : goal.returns-in-Convert-clause-executes
returns-in-Convert-clause-executes c = rw c.in-Convert.is (c.convert.ensures.does (program_of c.args.classes.now))

pub returns-in-LongCompare-clause-executes : goal.returns-in-LongCompare-clause-executes
returns-in-LongCompare-clause-executes c = rw c.in-LongCompare.is (c.long_compare.ensures.does (program_of c.args.classes.now))

pub returns-in-Get-clause-executes : goal.returns-in-Get-clause-executes
returns-in-Get-clause-executes c = rw c.in-Get.is (c.get_field.ensures.does (program_of c.args.classes.now))

pub returns-in-Put-clause-executes : goal.returns-in-Put-clause-executes
returns-in-Put-clause-executes c = rw c.in-Put.is (c.put_field.ensures.does (program_of c.args.classes.now))

pub returns-in_ok-access-in-Array-clause-executes : goal.returns-in_ok-access-in-Array-clause-executes
returns-in_ok-access-in-Array-clause-executes c = rw c.in-Array.is (c.in_ok-access-in-Array.ensures.ok (program_of c.args.classes.now))

pub returns-in_err-access-in-Array-clause-executes : goal.returns-in_err-access-in-Array-clause-executes
returns-in_err-access-in-Array-clause-executes c = rw c.in-Array.is (trapped (program_of c.args.classes.now) (instructions.Array c.in-Array.name) c.args.self.now c.access.new.self c.from_residual.result c.in_err-access-in-Array.field-0.0 c.from_residual.ensures.1 (c.in_err-access-in-Array.ensures.err (program_of c.args.classes.now)) c.in_err-access-in-Array.ensures.unchanged)

pub returns-in_ok-int_division-in-IntDivision-clause-executes : goal.returns-in_ok-int_division-in-IntDivision-clause-executes
returns-in_ok-int_division-in-IntDivision-clause-executes c = rw c.in-IntDivision.is (c.in_ok-int_division-in-IntDivision.ensures.ok (program_of c.args.classes.now))

pub returns-in_err-int_division-in-IntDivision-clause-executes : goal.returns-in_err-int_division-in-IntDivision-clause-executes
returns-in_err-int_division-in-IntDivision-clause-executes c = rw c.in-IntDivision.is (trapped (program_of c.args.classes.now) (instructions.IntDivision c.in-IntDivision.name) c.args.self.now c.int_division.new.self c.from_residual-in_err-int_division-in-IntDivision.result c.in_err-int_division-in-IntDivision.field-0.0 c.from_residual-in_err-int_division-in-IntDivision.ensures.1 (c.in_err-int_division-in-IntDivision.ensures.err (program_of c.args.classes.now)) c.in_err-int_division-in-IntDivision.ensures.unchanged)

pub returns-in_ok-long_division-in-LongDivision-clause-executes : goal.returns-in_ok-long_division-in-LongDivision-clause-executes
returns-in_ok-long_division-in-LongDivision-clause-executes c = rw c.in-LongDivision.is (c.in_ok-long_division-in-LongDivision.ensures.ok (program_of c.args.classes.now))

pub returns-in_err-long_division-in-LongDivision-clause-executes : goal.returns-in_err-long_division-in-LongDivision-clause-executes
returns-in_err-long_division-in-LongDivision-clause-executes c = rw c.in-LongDivision.is (trapped (program_of c.args.classes.now) (instructions.LongDivision c.in-LongDivision.name) c.args.self.now c.long_division.new.self c.from_residual-in_err-long_division-in-LongDivision.result c.in_err-long_division-in-LongDivision.field-0.0 c.from_residual-in_err-long_division-in-LongDivision.ensures.1 (c.in_err-long_division-in-LongDivision.ensures.err (program_of c.args.classes.now)) c.in_err-long_division-in-LongDivision.ensures.unchanged)

pub returns-in_ok-new_array-in-NewArray-clause-executes : goal.returns-in_ok-new_array-in-NewArray-clause-executes
returns-in_ok-new_array-in-NewArray-clause-executes c = rw c.in-NewArray.is (c.in_ok-new_array-in-NewArray.ensures.ok (program_of c.args.classes.now))

pub returns-in_err-new_array-in-NewArray-clause-executes : goal.returns-in_err-new_array-in-NewArray-clause-executes
returns-in_err-new_array-in-NewArray-clause-executes c = rw c.in-NewArray.is (trapped (program_of c.args.classes.now) (instructions.NewArray c.in-NewArray.kind) c.args.self.now c.new_array.new.self c.from_residual-in_err-new_array-in-NewArray.result c.in_err-new_array-in-NewArray.field-0.0 c.from_residual-in_err-new_array-in-NewArray.ensures.1 (c.in_err-new_array-in-NewArray.ensures.err (program_of c.args.classes.now)) c.in_err-new_array-in-NewArray.ensures.unchanged)

pub returns-in_ok-measure-in-ArrayLength-clause-executes : goal.returns-in_ok-measure-in-ArrayLength-clause-executes
returns-in_ok-measure-in-ArrayLength-clause-executes c = rw c.in-ArrayLength.is (c.in_ok-measure-in-ArrayLength.ensures.ok (program_of c.args.classes.now))

pub returns-in_err-measure-in-ArrayLength-clause-executes : goal.returns-in_err-measure-in-ArrayLength-clause-executes
returns-in_err-measure-in-ArrayLength-clause-executes c = rw c.in-ArrayLength.is (trapped (program_of c.args.classes.now) instructions.ArrayLength c.args.self.now c.measure.new.self c.from_residual-in_err-measure-in-ArrayLength.result c.in_err-measure-in-ArrayLength.field-0.0 c.from_residual-in_err-measure-in-ArrayLength.ensures.1 (c.in_err-measure-in-ArrayLength.ensures.err (program_of c.args.classes.now)) c.in_err-measure-in-ArrayLength.ensures.unchanged)

pub returns-in-Branch-clause-executes : goal.returns-in-Branch-clause-executes
returns-in-Branch-clause-executes c = rw c.in-Branch.is (c.branch-self.ensures.comes (program_of c.args.classes.now))

pub returns-in-TableSwitch-clause-executes : goal.returns-in-TableSwitch-clause-executes
returns-in-TableSwitch-clause-executes c =
    rw c.in-TableSwitch.is (subst (λ (s : TableSwitch). Jumps (program_of c.args.classes.now) (instructions.TableSwitch s) c.args.self.now c.table_switch.new.self c.table_switch.result) c.get.ensures (c.table_switch.ensures.jumps (program_of c.args.classes.now)))

pub returns-in-LookupSwitch-clause-executes : goal.returns-in-LookupSwitch-clause-executes
returns-in-LookupSwitch-clause-executes c =
    rw c.in-LookupSwitch.is (subst (λ (s : LookupSwitch). Jumps (program_of c.args.classes.now) (instructions.LookupSwitch s) c.args.self.now c.lookup_switch.new.self c.lookup_switch.result) c.get-in-LookupSwitch.ensures (c.lookup_switch.ensures.jumps (program_of c.args.classes.now)))

pub shuffle-requires : goal.shuffle-requires
shuffle-requires c =
    let ready = subst (λ (i : Instruction). IsReady (program_of c.args.classes.now) i c.args.self.now) c.in-Stack.is c.requires.ready in
    room_left c.args.self.now.frames.current.operands.limit (workspace c.args.self.now) (shuffled is_long_value (forms_of c.in-Stack.name) c.args.self.now.frames.current.operands.items) ready.operands ready.room
