-- What the code of a method may name: fields of the main class with their types, some methods, texts of its own class, and its own return.
use Rattle.std.specs.Prelude.{◌≡◌, ℕ, ◌<◌, All, Bool, true, false, ◌&&◌, ◌||◌, ◌==◌, nat_lt, List, Option, is_some}
use Rattle.std.specs.List.{list_all}
use Rattle.run_definition.specs.declared.order.Order.{Order}
use Rattle.delay_slots.specs.declared.unit.Unit.{Unit}
use Rattle.delay_slots.specs.Places.{Address, WordIndex}
use Rattle.jvm_definition.specs.declared.return_name.ReturnName.{ReturnName}
use Rattle.jvm_definition.specs.declared.return_name.ReturnName.TheVariants as returns
use Rattle.jvm_definition.specs.declared.constant.Constant.TheVariants.{Text}
use Rattle.jvm_definition.specs.declared.kind.Kind.{Kind}
use Rattle.jvm_definition.specs.declared.instruction.Instruction.{Instruction}
use Rattle.jvm_definition.specs.declared.instruction.Instruction.TheVariants.{Push, Increment, Get, Put, Call, Return, Wrong}
use Rattle.jvm_definition.specs.Typing.{same_kind}
use Rattle.class_definition.specs.Linking.{gives_int, descriptor_kind}
use Rattle.emit_steps.specs.declared.step.Step.{Step}
use Rattle.emit_steps.specs.declared.step.Step.TheVariants.{Does}
use Rattle.emit_layout.specs.Fields.{field_descriptor}
use Rattle.emit_layout.specs.Helpers.{helper_descriptor}
use Rattle.emit_instructions.specs.Units.{unit_code}
use Rattle.mem_helpers.specs.Methods.{helper_code}
use Rattle.emit_simulation_laws.specs.Lawful.{IsLawful}
use Rattle.emit_spans.specs.declared.span_words.SpanWords.{SpanWords}
use Rattle.emit_spans.specs.Parts.{cold_part, unit_part, warm_part}
use Rattle.emit_spans.specs.Laying.{span_code}
use Rattle.trampoline.specs.declared.start.Start.{Start}
use Rattle.emit_loading.specs.declared.beginning.Beginning.{Beginning}
use Rattle.emit_loading.specs.Starting.{run_code}
use Rattle.emit_assembly.specs.Assembling.{is_signed_byte}

-- the fields of the main class: 38, and with a meter one more
abbrev pub fields_of : Bool → ℕ
fields_of true = 39
fields_of false = 38

-- one of so many fields of the main class, with its type
abbrev pub is_field_of : ℕ → ℕ → Kind → Bool
is_field_of fields f kind = nat_lt f fields && same_kind kind (descriptor_kind (field_descriptor f))

abbrev pub is_field : ℕ → Kind → Bool
is_field f kind = is_field_of 38 f kind

-- one of the 20 helpers
abbrev pub is_helper : ℕ → Bool
is_helper m = nat_lt m 20

-- one of the two helpers that end the run for others
abbrev pub is_fault : ℕ → Bool
is_fault m = m == 18 || m == 19

-- the return of a method that gives an int, or of one that gives nothing
abbrev pub is_return : Bool → ReturnName → Bool
is_return true returns.Ireturn = true
is_return false returns.Return = true
is_return gives name = false

-- An instruction of a method names only what is there: a field with its type, a method that may be called, a text of the method's class, the
-- return that fits, and a byte that is added. The main class has so many fields, the class has a number, and the method gives an int or nothing.
abbrev pub names_well_of : ℕ → (ℕ → Bool) → ℕ → Bool → Instruction → Bool
names_well_of fields calls class gives (Increment i by) = is_signed_byte by
names_well_of fields calls class gives (Get f kind) = is_field_of fields f kind
names_well_of fields calls class gives (Put f kind) = is_field_of fields f kind
names_well_of fields calls class gives (Call m) = calls m
names_well_of fields calls class gives (Push (Text owner slot)) = owner == class
names_well_of fields calls class gives (Return name) = is_return gives name
names_well_of fields calls class gives Wrong = false
names_well_of fields calls class gives _ = true

abbrev pub step_names_well_of : ℕ → (ℕ → Bool) → ℕ → Bool → Step → Bool
step_names_well_of fields calls class gives (Does instruction) =
    names_well_of fields calls class gives instruction
step_names_well_of fields calls class gives _ = true

-- each step of code names only what is there
abbrev pub all_well_of : ℕ → (ℕ → Bool) → ℕ → Bool → List Step → Bool
all_well_of fields calls class gives code =
    list_all (step_names_well_of fields calls class gives) code

-- where the main class has 38 fields
abbrev pub names_well : (ℕ → Bool) → ℕ → Bool → Instruction → Bool
names_well calls class gives instruction = names_well_of 38 calls class gives instruction

abbrev pub step_names_well : (ℕ → Bool) → ℕ → Bool → Step → Bool
step_names_well calls class gives s = step_names_well_of 38 calls class gives s

abbrev pub all_well : (ℕ → Bool) → ℕ → Bool → List Step → Bool
all_well calls class gives code = all_well_of 38 calls class gives code

-- methods that may be called
abbrev pub MayCall : (ℕ → Bool) → List ℕ → Type 0
MayCall calls methods = All (λ m. calls m ≡ true) methods

-- so may the methods of these starts
abbrev pub MayCallStarts : (ℕ → Bool) → List Start → Type 0
MayCallStarts calls starts = All (λ (start : Start). calls start.method ≡ true) starts

-- ---- the laws

-- Helpers call none but the two that end the run for them, and return as their descriptors say.
abbrev pub HelpersNameWell : Type 0
HelpersNameWell =
    (order : Order) (class number : ℕ) → number < 20
    → all_well is_fault class (gives_int (helper_descriptor number)) (helper_code order number)
    ≡ true

-- The code of a lawful unit calls helpers alone and has no return.
abbrev pub UnitsNameWell : Type 0
UnitsNameWell =
    (class : ℕ) (gives : Bool) (bank : ℕ) (at : Address) (unit : Unit)
    → IsLawful unit
    → all_well is_helper class gives (unit_code bank unit at) ≡ true

-- The pieces in the method of a span of lawful units call helpers alone.
abbrev pub PiecesNameWell : Type 0
PiecesNameWell =
    (class : ℕ) (k : WordIndex) (units : List Unit) (leads : ℕ → Bool) (span : SpanWords)
    → All IsLawful units
    → all_well is_helper class false (warm_part units leads span k) ≡ true

-- So do the units of words alone.
abbrev pub UnitPartsNameWell : Type 0
UnitPartsNameWell =
    (class : ℕ) (k : WordIndex) (units : List Unit) (leads : ℕ → Bool) (span : SpanWords)
    → All IsLawful units
    → all_well is_helper class false (unit_part units leads span k) ≡ true

-- So do words alone; with a meter they name its field too.
abbrev pub WordsNameWell : Type 0
WordsNameWell =
    (class : ℕ) (k : WordIndex) (units : List Unit) (leads : ℕ → Bool) (span : SpanWords)
    → All IsLawful units
    → all_well_of (fields_of span.metered) is_helper class false (cold_part units leads span k)
    ≡ true

-- So does the whole method.
abbrev pub SpansNameWell : Type 0
SpansNameWell =
    (class : ℕ) (units : List Unit) (leads : ℕ → Bool) (span : SpanWords)
    → All IsLawful units
    → all_well_of (fields_of span.metered) is_helper class false (span_code units leads span)
    ≡ true

-- The method with which the program begins calls the methods that it is given, and pushes texts of
-- its own class; with a meter it names its field too.
abbrev pub RunsNameWell : Type 0
RunsNameWell =
    (calls : ℕ → Bool) (class pages choose : ℕ) (meter : Option ℕ) (b : Beginning)
    (page_texts fills : List ℕ)
    → calls pages ≡ true → MayCall calls fills → calls choose ≡ true
    → all_well_of (fields_of (is_some meter)) calls class false
    (run_code meter b page_texts class pages fills choose)
    ≡ true
