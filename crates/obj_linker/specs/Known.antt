-- What is known of the names of the symbols so far.
use Rattle.std.specs.Prelude.{ℕ, Bool, false, not, ◌&&◌, ◌||◌, ◌==◌, if◌then◌else◌, List, Option, Some, None, nat_eq, unwrap_or, is_some}
use Rattle.std.specs.List.{find, list_any}
use Rattle.std.specs.Option.{option_map_or, option_or}
use Rattle.std.specs.Map.{lookup}
use Rattle.obj_linker.specs.declared.meaning.Meaning.{Meaning}
use Rattle.obj_linker.specs.declared.meaning.Meaning.TheVariants.{Number}
use Rattle.obj_linker.specs.declared.name.Name.{Name}
use Rattle.obj_linker.specs.declared.named_symbol.NamedSymbol.{NamedSymbol}
use Rattle.obj_reader.specs.declared.symbol.Symbol.{Symbol}
use Rattle.obj_reader.specs.Symbols.{binding, is_defined, is_local}
use Rattle.obj_linker.specs.Names.{defines, defines_weakly, needs, missing_meaning, own_meaning}

abbrev pub unknown : Name
unknown = record { global = None; weak = None; is_needed = false }

-- with one more symbol of the name
abbrev pub with_symbol : Name → Symbol → Name
with_symbol known s = record {
  global = option_or known.global (if is_defined s && binding s == 1 then Some s else None);
  weak = option_or known.weak (if is_defined s && binding s == 2 then Some s else None);
  is_needed = known.is_needed || not (is_defined s) && binding s == 1;
}

-- what these symbols say of a name
abbrev pub known_of : List (List ℕ) → List Symbol → List ℕ → Name
known_of files symbols name = record {
  global = find (defines files name) symbols;
  weak = find (defines_weakly files name) symbols;
  is_needed = list_any (needs files name) symbols;
}

-- the definition of a name, and what it means
abbrev pub name_definition : Name → Option Symbol
name_definition known = option_or known.global known.weak

abbrev pub name_meaning : Name → Meaning
name_meaning known =
    option_map_or own_meaning (name_definition known) (missing_meaning known.is_needed)

-- names by their numbers, each with what is known of it
abbrev pub NameList : Type 0
NameList = List (ℕ × Name)

abbrev pub known_in : NameList → ℕ → Name
known_in names name = unwrap_or (lookup (nat_eq name) names) unknown

-- a symbol defines a name that is defined already, both globally
abbrev pub again : NameList → NamedSymbol → Bool
again names s =
    is_defined s.symbol && binding s.symbol == 1 && is_some (known_in names s.name).global

-- what is known of a name with one more symbol, where a local one says nothing
abbrev pub known_with : NameList → NamedSymbol → ℕ → Name
known_with names s other =
    if not (is_local s.symbol) && s.name == other
    then with_symbol (known_in names s.name) s.symbol
    else known_in names other

-- what a symbol means, beside the names of all
abbrev pub meaning_by : NameList → NamedSymbol → Meaning
meaning_by names s =
    if s.symbol.number == 0 then Number 0
    else (if is_local s.symbol then own_meaning s.symbol
    else name_meaning (known_in names s.name))
