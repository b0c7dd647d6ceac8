-- What an answer says of the calls of the outside that failed.
use Rattle.std.specs.Prelude.{◌≡◌, ◌≢◌, ◌⊎◌, Bool, true, false}
use Rattle.nv_outside.specs.Faults.{CountsFailure}
use Rattle.command_deeds.specs.World.{World}
use Rattle.command_deeds.specs.declared.done.Done.{Done}
use Rattle.command_deeds.specs.declared.done.Done.TheVariants.{ReadFault, WriteFault, ShelfFault}

-- One call of each of these parts failed, and none of the others: a count rose by one, or stands at
-- its greatest value.
pub record Failed (shelf input out err : Bool) (w v : World) : Type 0 where
  pub shelf_count : CountsFailure shelf w.shelf.faults v.shelf.faults
  pub input_count : CountsFailure input w.input.faults v.input.faults
  pub out_count : CountsFailure out w.out.faults v.out.faults
  pub err_count : CountsFailure err w.err.faults v.err.faults

abbrev pub NoneFailed : World → World → Type 0
NoneFailed w v = Failed false false false false w v

abbrev pub ShelfFailed : World → World → Type 0
ShelfFailed w v = Failed true false false false w v

abbrev pub InputFailed : World → World → Type 0
InputFailed w v = Failed false true false false w v

abbrev pub OutFailed : World → World → Type 0
OutFailed w v = Failed false false true false w v

-- error output failed, alone or behind a failure of the shelf or of input
abbrev pub ErrFailed : World → World → Type 0
ErrFailed w v = Failed false false false true w v
    ⊎ (Failed true false false true w v ⊎ Failed false true false true w v)

-- One fault ends the call: an answer that is a fault says which part failed, and with any other
-- answer none did. Behind a fault only the answer's line may fail, and then the answer is a write
-- fault.
pub record Faults (w v : World) (said : Done) : Type 0 where
  pub read : said ≡ ReadFault → InputFailed w v
  pub write : said ≡ WriteFault → OutFailed w v ⊎ ErrFailed w v
  pub shelf : said ≡ ShelfFault → ShelfFailed w v
  pub none : said ≢ ReadFault → said ≢ WriteFault → said ≢ ShelfFault → NoneFailed w v
