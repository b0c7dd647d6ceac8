-- Symbols by the numbers of their names.
use Rattle.std.specs.Prelude.{◌≡◌, ℕ, ◌+◌, if◌then◌else◌, List, [], map, Some, slice_get, All}
use Rattle.obj_linker.specs.declared.letter.Letter.{Letter}
use Rattle.obj_linker.specs.declared.named_symbol.NamedSymbol.{NamedSymbol}
use Rattle.obj_linker.specs.declared.named_symbols.NamedSymbols.{NamedSymbols}
use Rattle.obj_linker.specs.declared.stretch.Stretch.{Stretch}
use Rattle.obj_reader.specs.declared.symbol.Symbol.{Symbol}
use Rattle.obj_reader.specs.Files.{files_of}
use Rattle.obj_reader.specs.Symbols.{is_local}
use Rattle.obj_linker.specs.Known.{NameList, known_in, known_of}
use Rattle.obj_linker.specs.Names.{name_of_symbol, object_bytes, text_in_file}
use Rattle.obj_linker.specs.Texts.{AreApart, IsNumber}

-- the name of a symbol that others may have; a local one has none
abbrev pub shared_name : List (List ℕ) → Symbol → List ℕ
shared_name files s = if is_local s then [] else name_of_symbol files s

abbrev pub IsNamed : List (List ℕ) → List Letter → NamedSymbol → Type 0
IsNamed files letters s = IsNumber letters s.name (shared_name files s.symbol)

abbrev pub plain_symbols : List NamedSymbol → List Symbol
plain_symbols symbols = map (λ s. s.symbol) symbols

abbrev pub symbols_in : NamedSymbols → List Symbol
symbols_in named = plain_symbols named.symbols.items

-- each symbol has the number of its name
pub record AreNamed (named : NamedSymbols) : Type 0 where
  pub apart : AreApart named.texts.keys
  pub each : All (IsNamed (files_of named.objects.now) named.texts.keys) named.symbols.items

-- what is known of a name is what these symbols say
abbrev pub Knows : NamedSymbols → NameList → Type 0
Knows named names = (n : ℕ) (name : List ℕ) → IsNumber named.texts.keys n name
    → known_in names n ≡ known_of (files_of named.objects.now) (symbols_in named) name

-- the numbers of the texts at the places of a stretch of an object
abbrev pub IsStretch : List (List ℕ) → List Letter → Stretch → Type 0
IsStretch files letters s = (i n : ℕ) → slice_get s.numbers.items i ≡ Some n
    → IsNumber letters n (text_in_file (object_bytes files s.object) (s.first + i))
