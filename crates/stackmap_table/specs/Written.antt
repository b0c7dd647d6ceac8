-- What is written of the frames of a table. Where it keeps the rules it is the table's spelling.
use Rattle.std.specs.Prelude.{◌≡◌, ℕ, ◌<◌, ◌≤◌, List, [], ◌∷◌, ◌++◌, length, flat_map, Option, None}
use Rattle.std.specs.Int.{w8, w16, to_be_bytes}
use Rattle.stackmap_table.specs.declared.table_type.TableType.{TableType}
use Rattle.stackmap_table.specs.declared.table_type.TableType.TheVariants.{Top, Int, Long, Null, Object}
use Rattle.stackmap_table.specs.declared.table_frame.TableFrame.{TableFrame}
use Rattle.stackmap_table.specs.declared.table_frame.TableFrame.TheVariants.{Same, SameWithOperand, SameWithOperandExtended, Chop, SameExtended, Append, Full}
use Rattle.class_definition.specs.declared.entry.Entry.{Entry}
use Rattle.jvm_definition.specs.declared.kind.Kind.{Kind}
use Rattle.jvm_type_inference.specs.declared.frame.Frame.{Frame}
use Rattle.stackmap_table.specs.Tables.{frame_tag}
use Rattle.stackmap_table.specs.Meaning.{frame_offset}
use Rattle.stackmap_table.specs.Shortest.{GivesShortest, AreShortest}

abbrev pub half : ℕ → List ℕ
half n = to_be_bytes w16 n

abbrev pub type_bytes : TableType → List ℕ
type_bytes Top = 0 ∷ []
type_bytes Int = 1 ∷ []
type_bytes Long = 4 ∷ []
type_bytes Null = 5 ∷ []
type_bytes (Object slot) = 7 ∷ half slot

abbrev pub types_bytes : List TableType → List ℕ
types_bytes types = flat_map type_bytes types

-- what follows the tag
abbrev pub form_bytes : TableFrame → List ℕ
form_bytes (Same delta) = []
form_bytes (SameWithOperand delta type) = type_bytes type
form_bytes (SameWithOperandExtended delta type) = half delta ++ type_bytes type
form_bytes (Chop delta dropped) = half delta
form_bytes (SameExtended delta) = half delta
form_bytes (Append delta types) = half delta ++ types_bytes types
form_bytes (Full delta locals operands) =
    half delta ++ ((half (length locals) ++ types_bytes locals)
    ++ (half (length operands) ++ types_bytes operands))

abbrev pub frame_bytes : TableFrame → List ℕ
frame_bytes frame = to_be_bytes w8 (frame_tag frame) ++ form_bytes frame

abbrev pub table_bytes : List TableFrame → List ℕ
table_bytes frames = half (length frames) ++ flat_map frame_bytes frames

-- its numbers have room
abbrev pub IsShort : TableFrame → Type 0
IsShort (Same delta) = delta < 64
IsShort (SameWithOperand delta type) = delta < 64
IsShort (Chop delta dropped) = dropped ≤ 3
IsShort (Append delta types) = length types ≤ 3
IsShort (Full delta locals operands) = (length locals ≤ 65535) × (length operands ≤ 65535)
IsShort frame = Unit {0}

-- the shortest frame that gives one with these local variables was written behind other bytes
pub record AppendsNext (pool : List Entry) (before : List Kind) (last : Option ℕ) (next : ℕ × Frame)
    (locals : List Kind) (old new : List ℕ) : Type 0 where
  pub delta : ℕ
  pub frame : TableFrame
  pub gives : GivesShortest pool before delta locals next.1.stack frame
  pub offset : frame_offset last frame ≡ next.0
  pub written : new ≡ old ++ frame_bytes frame

-- the shortest frames that give those that are listed were written behind other bytes
pub record AppendsShortest (pool : List Entry) (parameters : List Kind) (listed : List (ℕ × Frame))
    (old new : List ℕ) : Type 0 where
  pub frames : List TableFrame
  pub shortest : AreShortest pool None parameters listed frames
  pub written : new ≡ old ++ flat_map frame_bytes frames
