-- Frames as the shortest ones of a table.
use Rattle.std.specs.Prelude.{◌≡◌, ℕ, suc, ◌-◌, ◌<◌, ◌≤◌, Bool, true, false, List, [], ◌∷◌, ◌++◌, length, take, Option, Some, None}
use Rattle.class_definition.specs.declared.entry.Entry.{Entry}
use Rattle.jvm_definition.specs.declared.kind.Kind.{Kind}
use Rattle.jvm_definition.specs.declared.kind.Kind.TheVariants as kinds
use Rattle.jvm_definition.specs.declared.linked_method.LinkedMethod.{LinkedMethod}
use Rattle.jvm_definition.specs.Typing.{no_top}
use Rattle.jvm_type_inference.specs.declared.frame.Frame.{Frame}
use Rattle.stackmap_table.specs.declared.reference_slots.ReferenceSlots.{ReferenceSlots}
use Rattle.stackmap_table.specs.declared.table_frame.TableFrame.{TableFrame}
use Rattle.stackmap_table.specs.declared.table_frame.TableFrame.TheVariants.{SameWithOperand, SameWithOperandExtended, Append, Full}
use Rattle.stackmap_table.specs.declared.table_type.TableType.{TableType}
use Rattle.stackmap_table.specs.declared.table_type.TableType.TheVariants as types
use Rattle.stackmap_table.specs.Meaning.{delta_of, frame_offset, locals_of, frame_operands, is_frame_within}
use Rattle.stackmap_table.specs.Tables.{kind_at, frame, frame_table}

-- a slot, which has two bytes, names a type of references, and no lower slot does
pub record NamesKind (pool : List Entry) (slot : ℕ) (kind : Kind) : Type 0 where
  pub near : slot ≤ 65535
  pub is : kind_at pool slot ≡ Some kind
  pub lowest : (other : ℕ) → kind_at pool other ≡ Some kind → slot ≤ other

-- the slots name the types of references
pub record AreReferences (pool : List Entry) (slots : ReferenceSlots) : Type 0 where
  pub ints : NamesKind pool slots.ints kinds.Ints
  pub pages : NamesKind pool slots.pages kinds.Pages
  pub text : NamesKind pool slots.text kinds.Text

-- a type as a table has it
abbrev pub written_type : ReferenceSlots → Kind → TableType
written_type slots kinds.Top = types.Top
written_type slots kinds.Int = types.Int
written_type slots kinds.Long = types.Long
written_type slots kinds.Null = types.Null
written_type slots kinds.Ints = types.Object slots.ints
written_type slots kinds.Pages = types.Object slots.pages
written_type slots kinds.Text = types.Object slots.text

-- no local variable is a long
abbrev pub has_no_long : List Kind → Bool
has_no_long [] = true
has_no_long (kinds.Long ∷ locals) = false
has_no_long (k ∷ locals) = has_no_long locals

-- ---- one frame

-- what a frame gives behind others: by how much the offset rises, local variables and operands
pub record Gives (pool : List Entry) (before : List Kind) (delta : ℕ) (locals stack : List Kind)
    (f : TableFrame) : Type 0 where
  pub fits : (frame pool).fits f ≡ true
  pub rises : delta_of f ≡ delta
  pub has_locals : locals_of pool before f ≡ Some locals
  pub has_operands : frame_operands pool f ≡ stack

-- the types of its local variables and operands
abbrev pub types_of : TableFrame → List TableType
types_of (SameWithOperand delta type) = type ∷ []
types_of (SameWithOperandExtended delta type) = type ∷ []
types_of (Append delta added) = added
types_of (Full delta locals operands) = locals ++ operands
types_of f = []

-- a type of references is named by the lowest slot that names it
abbrev pub IsLowest : List Entry → TableType → Type 0
IsLowest pool (types.Object slot) =
    (other : ℕ) → kind_at pool other ≡ kind_at pool slot → slot ≤ other
IsLowest pool type = Unit {0}

abbrev pub AreLowest : List Entry → List TableType → Type 0
AreLowest pool [] = Unit {0}
AreLowest pool (t ∷ others) = IsLowest pool t × AreLowest pool others

-- no frame that gives the same has fewer bytes, and of several slots with a type the lowest is named
pub record GivesShortest (pool : List Entry) (before : List Kind) (delta : ℕ)
    (locals stack : List Kind) (f : TableFrame) : Type 0 where
  pub gives : Gives pool before delta locals stack f
  pub lowest : AreLowest pool (types_of f)
  pub shortest : (g : TableFrame) → Gives pool before delta locals stack g
      → length ((frame pool).spell f) ≤ length ((frame pool).spell g)

-- No form gives local variables and operands but the one that names all of them.
pub record NoOther (before locals stack : List Kind) : Type 0 where
  pub same : locals ≡ before → 2 ≤ length stack
  pub chopped : (n : ℕ) → 1 ≤ n → n ≤ 3 → n ≤ length before
      → locals ≡ take (length before - n) before → 1 ≤ length stack
  pub appended : (added : List Kind) → 1 ≤ length added → length added ≤ 3
      → locals ≡ before ++ added → 1 ≤ length stack

-- ---- all of them

-- a local variable of which nothing is known, before others, or at the end
abbrev pub before_others : Kind → List Kind → List Kind
before_others kinds.Top [] = []
before_others kind others = kind ∷ others

-- local variables without those at the end of which nothing is known
abbrev pub trimmed_locals : List Kind → List Kind
trimmed_locals [] = []
trimmed_locals (k ∷ locals) = before_others k (trimmed_locals locals)

-- the frames of a table give those that are listed, each in its shortest form
abbrev pub AreShortest : List Entry → Option ℕ → List Kind → List (ℕ × Frame) → List TableFrame
    → Type 0
AreShortest pool last before [] [] = Unit {0}
AreShortest pool last before [] (f ∷ frames) = ⊥
AreShortest pool last before (l ∷ listed) [] = ⊥
AreShortest pool last before (l ∷ listed) (f ∷ frames) =
    GivesShortest pool before (delta_of f) (trimmed_locals l.1.locals) l.1.stack f
    × (frame_offset last f ≡ l.0)
    × AreShortest pool (Some l.0) (trimmed_locals l.1.locals) listed frames

-- ---- which frames have a table

-- a frame with its offset, which is one of a method's code, from one on: its types can be named and counted
pub record IsTabled (start : ℕ) (l : ℕ × Frame) : Type 0 where
  pub rises : start ≤ l.0
  pub near : l.0 < 65535
  pub locals : has_no_long l.1.locals ≡ true
  pub few_locals : length l.1.locals ≤ 65535
  pub operands : no_top l.1.stack ≡ true
  pub few_operands : length l.1.stack ≤ 65535

-- each of them; the offsets rise
abbrev pub AreTabled : ℕ → List (ℕ × Frame) → Type 0
AreTabled start [] = Unit {0}
AreTabled start (l ∷ listed) = IsTabled start l × AreTabled (suc l.0) listed

-- no bytes where there are no frames
abbrev pub spelling : List Entry → List TableFrame → List ℕ
spelling pool [] = []
spelling pool (f ∷ frames) = (frame_table pool).spell (f ∷ frames)

-- each has at most as many local variables as a method, and room for its operands
abbrev pub AllWithin : LinkedMethod → List (ℕ × Frame) → Type 0
AllWithin method [] = Unit {0}
AllWithin method (l ∷ listed) =
    (is_frame_within method.locals method.stack l.1.locals l.1.stack ≡ true) × AllWithin method listed

-- a frame without the local variables at its end of which nothing is known
abbrev pub trimmed_frame : ℕ × Frame → ℕ × Frame
trimmed_frame l = (l.0, record { locals = trimmed_locals l.1.locals; stack = l.1.stack })

-- bytes are the table of the frames that are listed, and none where there are no such frames
pub record IsTableOf (pool : List Entry) (parameters : List Kind) (listed : List (ℕ × Frame))
    (bytes : List ℕ) : Type 0 where
  pub frames : List TableFrame
  pub shortest : AreShortest pool None parameters listed frames
  pub spelled : bytes ≡ spelling pool frames
