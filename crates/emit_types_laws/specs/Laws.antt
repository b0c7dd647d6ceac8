-- What holds of emitted code and of its methods: they are typed, in every program and whatever is owed at offsets.
use Rattle.std.specs.Prelude.{Bool, [], ◌∷◌, List}
use Rattle.run_definition.specs.declared.order.Order.{Order}
use Rattle.delay_slots.specs.declared.unit.Unit.{Unit}
use Rattle.jvm_definition.specs.declared.kind.Kind.TheVariants.{Ints, Text}
use Rattle.jvm_definition.specs.Program.{Program}
use Rattle.trampoline.specs.Choosers.{missing_method}
use Rattle.emit_loading.specs.Pages.{pages_code}
use Rattle.emit_loading.specs.Words.{words_code}
use Rattle.emit_types_laws.specs.Knowing.{ColdPartTyped, ExitTyped, GuardTyped, PieceTyped, UnitTyped, WarmPartTyped, WordTyped}
use Rattle.emit_types_laws.specs.Methods.{ClassChooserTyped, FillTyped, HelpersTyped, IsBody, MainChooserTyped, RunTyped, owes_nothing, owes_pages, owes_words}

-- ---- code

-- the code of each unit
abbrev pub UnitsAreTyped : Type 0
UnitsAreTyped = (unit : Unit) → UnitTyped unit

-- that of each piece, over local variables
abbrev pub PiecesAreTyped : Type 0
PiecesAreTyped = (units : List Unit) (last : Unit) → PieceTyped units last

-- that of each unit over fields alone
abbrev pub WordsAreTyped : Type 0
WordsAreTyped = (unit : Unit) → WordTyped unit

-- the guard that stands before each unit in a span with a meter
abbrev pub GuardsAreTyped : Type 0
GuardsAreTyped = (unit : Unit) → GuardTyped unit

-- the exit behind each unit
abbrev pub ExitsAreTyped : Type 0
ExitsAreTyped = (unit : Unit) → ExitTyped unit

-- each piece with the exit behind its last unit
abbrev pub WarmPartsAreTyped : Type 0
WarmPartsAreTyped = (units : List Unit) (last : Unit) → WarmPartTyped units last

-- each unit over fields alone with its exit
abbrev pub ColdPartsAreTyped : Type 0
ColdPartsAreTyped = (unit : Unit) → ColdPartTyped unit

-- ---- methods

-- the helpers, for either order of bytes
abbrev pub HelpersAreTyped : Type 0
HelpersAreTyped = (order : Order) → HelpersTyped order

-- the methods that choose among classes
abbrev pub MainChoosersAreTyped : Type 0
MainChoosersAreTyped = (program : Program) → MainChooserTyped program

-- those that choose among the spans of a class
abbrev pub ClassChoosersAreTyped : Type 0
ClassChoosersAreTyped = (program : Program) → ClassChooserTyped program

-- the method for addresses outside all code
abbrev pub MissingIsTyped : Type 0
MissingIsTyped =
    (program : Program) (metered : Bool)
    → IsBody program owes_nothing [] 1 (missing_method metered)

-- the method that puts words into a page
abbrev pub PuttingIsTyped : Type 0
PuttingIsTyped = (program : Program) → IsBody program owes_words (Ints ∷ Text ∷ []) 4 words_code

-- the method that makes pages
abbrev pub MakingIsTyped : Type 0
MakingIsTyped = (program : Program) → IsBody program owes_pages (Text ∷ []) 5 pages_code

-- the methods that fill pages
abbrev pub FillsAreTyped : Type 0
FillsAreTyped = (program : Program) → FillTyped program

-- the methods with which programs begin
abbrev pub RunsAreTyped : Type 0
RunsAreTyped = (program : Program) → RunTyped program
