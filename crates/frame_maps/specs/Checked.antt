-- Which linked classes pass with tables of frames, and which method is the first that does not.
use Rattle.std.specs.Prelude.{◌≡◌, ℕ, ◌+◌, ◌<◌, ◌⊎◌, List, [], length, slice_get, slice_index_or, Option, Some, None}
use Rattle.class_definition.specs.declared.frame_fault.FrameFault.{FrameFault}
use Rattle.class_definition.specs.declared.entry.Entry.{Entry}
use Rattle.class_definition.specs.declared.class.Class.{Class}
use Rattle.jvm_definition.specs.declared.linked_method.LinkedMethod.{LinkedMethod}
use Rattle.jvm_definition.specs.Program.{Program}
use Rattle.class_definition.specs.Linking.{program_of}
use Rattle.jvm_type_inference.specs.declared.frame.Frame.{Frame}
use Rattle.type_verifier.specs.Refusal.{methods_before}
use Rattle.type_verifier.specs.Typings.{listed_frames}
use Rattle.stackmap_table.specs.Meaning.{frames_of}
use Rattle.frame_maps.specs.Framed.{Framed}
use Rattle.frame_maps.specs.declared.frame_error.FrameError.{FrameError}
use Rattle.frame_maps.specs.declared.frame_error.FrameError.TheVariants.{Refused, TooLarge, NoMemory}

-- ---- a method

-- bytes are a table of a method, and it is typed by the frames that they list
pub record IsTyped (program : Program) (pool : List Entry) (method : LinkedMethod)
    (table : List ℕ) : Type 0 where
  pub listed : List (ℕ × Frame)
  pub is : frames_of pool method table ≡ Some listed
  pub framed : Framed program method (listed_frames listed)

-- they are a table of it, and it is not
pub record IsNotTyped (program : Program) (pool : List Entry) (method : LinkedMethod)
    (table : List ℕ) : Type 0 where
  pub listed : List (ℕ × Frame)
  pub is : frames_of pool method table ≡ Some listed
  pub fails : Framed program method (listed_frames listed) → ⊥

-- what is wrong with them: they are no table of it, or it is not typed by them
abbrev pub Fails : Program → List Entry → LinkedMethod → List ℕ → ℕ → Type 0
Fails program pool method table kind =
    ((kind ≡ 1) × (frames_of pool method table ≡ None))
    ⊎ ((kind ≡ 2) × IsNotTyped program pool method table)

-- they pass, or fail so
abbrev pub IsResult : Program → List Entry → LinkedMethod → List ℕ → Option ℕ → Type 0
IsResult program pool method table None = IsTyped program pool method table
IsResult program pool method table (Some kind) = Fails program pool method table kind

-- ---- the methods of a class, the first of which has a number in the program

abbrev pub table_at : List (List ℕ) → ℕ → List ℕ
table_at tables m = slice_index_or tables m []

abbrev pub IsTypedAt : Program → ℕ → List Entry → List (List ℕ) → ℕ → Type 0
IsTypedAt program first pool tables m =
    (method : LinkedMethod) → program.method (first + m) ≡ Some method
    → IsTyped program pool method (table_at tables m)

abbrev pub FailsFramesAt : Program → ℕ → List Entry → List (List ℕ) → ℕ → ℕ → Type 0
FailsFramesAt program first pool tables m kind =
    (method : LinkedMethod) → program.method (first + m) ≡ Some method
    → Fails program pool method (table_at tables m) kind

-- all of them pass, or there is a first one that does not
abbrev pub IsFirstOf : Program → ℕ → List Entry → List (List ℕ) → Option (ℕ × ℕ) → Type 0
IsFirstOf program first pool tables None =
    (m : ℕ) → m < length tables → IsTypedAt program first pool tables m
IsFirstOf program first pool tables (Some fault) =
    (fault.0 < length tables)
    × ((m : ℕ) → m < fault.0 → IsTypedAt program first pool tables m)
    × FailsFramesAt program first pool tables fault.0 fault.1

-- ---- all classes

-- a list of tables for each class, and in it one for each method
pub record HaveTables (classes : List Class) (tables : List (List (List ℕ))) : Type 0 where
  pub lists : length tables ≡ length classes
  pub each : (c : ℕ) (class : Class) → slice_get classes c ≡ Some class
      → length (slice_index_or tables c []) ≡ length class.methods

-- the methods of the class with a number pass
abbrev pub ClassIsTyped : List Class → List (List (List ℕ)) → ℕ → Type 0
ClassIsTyped classes tables c =
    (class : Class) → slice_get classes c ≡ Some class → (m : ℕ) → m < length class.methods
    → IsTypedAt (program_of classes) (methods_before classes c) class.pool
    (slice_index_or tables c []) m

-- each method of each class is typed by the frames that its table lists
abbrev pub AreTyped : List Class → List (List (List ℕ)) → Type 0
AreTyped classes tables = (c : ℕ) → ClassIsTyped classes tables c

-- A method of a class, both numbered from 0, is at fault; all before it pass.
pub record IsAtFrameFault (classes : List Class) (tables : List (List (List ℕ))) (fault : FrameFault)
    : Type 0 where
  pub class : Class
  pub class_is : slice_get classes fault.class ≡ Some class
  pub within : fault.method < length class.methods
  pub fails : FailsFramesAt (program_of classes) (methods_before classes fault.class) class.pool
      (slice_index_or tables fault.class []) fault.method fault.kind
  pub earlier_classes : (c : ℕ) → c < fault.class → ClassIsTyped classes tables c
  pub earlier_methods : (m : ℕ) → m < fault.method
      → IsTypedAt (program_of classes) (methods_before classes fault.class) class.pool
      (slice_index_or tables fault.class []) m

-- a refusal names the first method at fault, by class and then by method; want of memory may come anywhere
abbrev pub IsCheckRefusal : List Class → List (List (List ℕ)) → FrameError → Type 0
IsCheckRefusal classes tables (Refused fault) = IsAtFrameFault classes tables fault
IsCheckRefusal classes tables (TooLarge class bytes) = ⊥
IsCheckRefusal classes tables NoMemory = Unit {0}

-- a fault names this class, method and kind
abbrev pub IsFault : ℕ → ℕ → ℕ → FrameError → Type 0
IsFault class method kind (Refused fault) = (fault.class ≡ class) × (fault.method ≡ method)
    × (fault.kind ≡ kind)
IsFault class method kind (TooLarge number bytes) = ⊥
IsFault class method kind NoMemory = Unit {0}
