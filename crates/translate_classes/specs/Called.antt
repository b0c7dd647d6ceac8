-- The methods that the main class names. Their slots go by their numbers in the program.
use Rattle.std.specs.Prelude.{◌≡◌, ℕ, ◌<◌, List, ◌++◌, codes, length, slice_index_or}
use Rattle.class_definition.specs.declared.entry.Entry.{Entry}
use Rattle.emit_layout.specs.ClassNames.{code_class_name, data_class_name}
use Rattle.emit_layout.specs.Helpers.{helper_name, helper_descriptor}
use Rattle.emit_layout.specs.Numbers.{choose_number, pages_number, missing_number}
use Rattle.emit_classes.specs.Named.{IsClassAt, IsMethodAt}
use Rattle.translate_classes.specs.Making.{nothing}
use Rattle.translate_classes.specs.declared.content.MainClass.{MainClass}
use Rattle.translate_classes.specs.declared.other_class.OtherClass.{OtherClass}
use Rattle.translate_classes.specs.declared.other_class.OtherClass.TheVariants.{Code, Data}

abbrev pub slot_of : List ℕ → ℕ → ℕ
slot_of slots number = slice_index_or slots number 0

-- a list with more behind it
pub record BeginsWith (front all : List ℕ) : Type 0 where
  pub more : List ℕ
  pub joined : all ≡ front ++ more

-- ---- methods of the main class

abbrev pub pages_descriptor : List ℕ
pages_descriptor = codes "(Ljava/lang/String;)V"

-- the helper methods, and those that are called behind them, of the class in a slot
pub record AreOwnMethods (pool : List Entry) (own : ℕ) (slots : List ℕ) : Type 0 where
  pub helpers : (k : ℕ) → k < 20
      → IsMethodAt pool (slot_of slots k) own (helper_name k) (helper_descriptor k)
  pub choose : IsMethodAt pool (slot_of slots choose_number) own (codes "choose") nothing
  pub pages : IsMethodAt pool (slot_of slots pages_number) own (codes "pages") pages_descriptor
  pub missing : IsMethodAt pool (slot_of slots missing_number) own (codes "missing") nothing

-- ---- methods of the other classes

-- the name of a class of a kind, by its number
abbrev pub class_name : OtherClass → List ℕ → ℕ → List ℕ
class_name Code main i = code_class_name main i
class_name Data main i = data_class_name main i

-- the method that is called of each
abbrev pub method_name : OtherClass → List ℕ
method_name Code = codes "run"
method_name Data = codes "fill"

-- the method of one class, by its number in the program
pub record IsOther (pool : List Entry) (main : List ℕ) (kind : OtherClass) (i : ℕ) (slots : List ℕ)
    (number : ℕ) : Type 0 where
  pub within : number < length slots
  pub owner : ℕ
  pub owner_is : IsClassAt pool owner (class_name kind main i)
  pub method_is : IsMethodAt pool (slot_of slots number) owner (method_name kind) nothing

-- the methods of the first classes of a kind, by their numbers in the program
abbrev pub AreOthers : List Entry → List ℕ → OtherClass → List ℕ → List ℕ → ℕ → Type 0
AreOthers pool main kind numbers slots count = (i : ℕ) → i < count
    → IsOther pool main kind i slots (slice_index_or numbers i 0)

-- ---- all of them

pub record AreMainMethods (pool : List Entry) (name : List ℕ) (own : ℕ) (main : MainClass)
    (slots : List ℕ) : Type 0 where
  pub own_are : AreOwnMethods pool own slots
  pub code_are : AreOthers pool name Code main.code.now slots (length main.code.now)
  pub data_are : AreOthers pool name Data main.data.now slots (length main.data.now)
