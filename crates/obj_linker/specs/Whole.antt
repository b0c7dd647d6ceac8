-- The checks that the objects are to pass together.
use Rattle.std.specs.Prelude.{ℕ, Option, option_map}
use Rattle.elf_definition.specs.declared.obj_fault.ObjFault.{ObjFault}
use Rattle.obj_reader.specs.declared.relocation.Relocation.{Relocation}
use Rattle.obj_reader.specs.declared.symbol.Symbol.{Symbol}

-- a check that names the first symbol, or the first relocation, at which it fails
abbrev pub symbol_fault_of : ℕ → Option Symbol → Option ObjFault
symbol_fault_of kind found =
    option_map (λ (s : Symbol). record { object = s.object; kind = kind; at = s.number }) found

abbrev pub relocation_fault_of : ℕ → Option Relocation → Option ObjFault
relocation_fault_of kind found =
    option_map (λ (r : Relocation). record { object = r.object; kind = kind; at = r.r_offset })
    found
