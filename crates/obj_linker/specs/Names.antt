-- System V ABI, "Symbol Table": what the names of all objects mean.
use Rattle.std.specs.Prelude.{ℕ, ◌+◌, Bool, not, ◌&&◌, ◌==◌, if◌then◌else◌, List, [], ◌∷◌, ◌++◌, drop, Option, Some, None, bytes_eq, slice_get, is_some}
use Rattle.std.specs.List.{find, list_any, before_first}
use Rattle.std.specs.Option.{option_map_or, option_or}
use Rattle.obj_linker.specs.declared.meaning.Meaning.{Meaning}
use Rattle.obj_linker.specs.declared.meaning.Meaning.TheVariants.{InSection, Number, Nothing}
use Rattle.obj_reader.specs.declared.symbol.Symbol.{Symbol}
use Rattle.obj_reader.specs.Symbols.{binding, is_defined, is_local}

-- the text at a place of a file: the bytes up to a 00
abbrev pub text_in_file : List ℕ → ℕ → List ℕ
text_in_file file at = before_first (λ b. b == 0) (drop at file)

abbrev pub object_bytes : List (List ℕ) → ℕ → List ℕ
object_bytes files object = option_map_or (λ (file : List ℕ). file) (slice_get files object) []

-- the name of a symbol, in the string table of its object
unfoldable pub name_of_symbol : List (List ℕ) → Symbol → List ℕ
name_of_symbol files s = text_in_file (object_bytes files s.object) (s.strings + s.st_name)

-- STB_GLOBAL and STB_WEAK, of a name
abbrev pub is_global_of : List (List ℕ) → List ℕ → Symbol → Bool
is_global_of files name s = binding s == 1 && bytes_eq (name_of_symbol files s) name

abbrev pub is_weak_of : List (List ℕ) → List ℕ → Symbol → Bool
is_weak_of files name s = binding s == 2 && bytes_eq (name_of_symbol files s) name

abbrev pub defines : List (List ℕ) → List ℕ → Symbol → Bool
defines files name s = is_defined s && is_global_of files name s

abbrev pub defines_weakly : List (List ℕ) → List ℕ → Symbol → Bool
defines_weakly files name s = is_defined s && is_weak_of files name s

abbrev pub needs : List (List ℕ) → List ℕ → Symbol → Bool
needs files name s = not (is_defined s) && is_global_of files name s

-- the definition of a name: the global one, else the first weak one
abbrev pub definition_of : List (List ℕ) → List Symbol → List ℕ → Option Symbol
definition_of files symbols name =
    option_or (find (defines files name) symbols) (find (defines_weakly files name) symbols)

-- the first symbol that defines a name which one before it defines, both globally
abbrev pub defines_again : List (List ℕ) → List Symbol → Symbol → Bool
defines_again files before s =
    is_defined s && binding s == 1 && is_some (find (defines files (name_of_symbol files s)) before)

abbrev pub first_repeated : List (List ℕ) → List Symbol → List Symbol → Option Symbol
first_repeated files before [] = None
first_repeated files before (s ∷ later) =
    if defines_again files before s then Some s else first_repeated files (before ++ s ∷ []) later

-- what a symbol is by itself: SHN_UNDEF, SHN_ABS, or a section
abbrev pub own_meaning : Symbol → Meaning
own_meaning s =
    if s.st_shndx == 0 then Nothing
    else (if s.st_shndx == 0xFFF1 then Number s.st_value else InSection s.section s.st_value)

-- a name that nothing defines is 0, unless some object needs it by a global symbol
abbrev pub missing_meaning : Bool → Meaning
missing_meaning is_needed = if is_needed then Nothing else Number 0

abbrev pub named_meaning : List (List ℕ) → List Symbol → List ℕ → Meaning
named_meaning files symbols name =
    option_map_or own_meaning (definition_of files symbols name)
    (missing_meaning (list_any (needs files name) symbols))

-- what a symbol means: symbol 0 is 0, a local symbol is its own, any other what its name means
abbrev pub meaning_of : List (List ℕ) → List Symbol → Symbol → Meaning
meaning_of files symbols s =
    if s.number == 0 then Number 0
    else (if is_local s then own_meaning s else named_meaning files symbols (name_of_symbol files s))
