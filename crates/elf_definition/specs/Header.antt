-- System V ABI, "Object Files", "ELF Header"
use Rattle.std.specs.Prelude.{ℕ, ◌+◌, ◌*◌, Bool, not, ◌&&◌, ◌||◌, ◌==◌, nat_lt, if◌then◌else◌, List, [], ◌∷◌, length, slice_index, Option}
use Rattle.run_definition.specs.Words.{half_of_list, word_of_list}
use Rattle.run_definition.specs.declared.order.Order.{Order}
use Rattle.run_definition.specs.declared.order.Order.TheVariants.{Big, Little}
use Rattle.elf_definition.specs.declared.elf_fault.ElfFault.{ElfFault}
use Rattle.elf_definition.specs.declared.elf_header.ElfHeader.{ElfHeader}
use Rattle.elf_definition.specs.Check.{fails, first_fault}

-- e_ident[EI_MAG0] to e_ident[EI_MAG3]: 7F, then E, L, F
abbrev pub has_magic : List ℕ → Bool
has_magic file =
    slice_index file 0 == 0x7F && slice_index file 1 == 0x45 && slice_index file 2 == 0x4C
    && slice_index file 3 == 0x46

-- e_ident[EI_DATA] names the order of every number in the file: 1, ELFDATA2LSB, the least significant byte first, and 2,
-- ELFDATA2MSB, the most significant. A file with another byte there is refused.
unfoldable pub order_of : List ℕ → Order
order_of file = if slice_index file 5 == 1 then Little else Big

-- the numbers of 16 and of 32 bits that stand at a place; a byte past the end reads as 0
abbrev pub half : List ℕ → ℕ → ℕ
half file at = half_of_list (order_of file) file at

abbrev pub word : List ℕ → ℕ → ℕ
word file at = word_of_list (order_of file) file at

-- the fields of the header
unfoldable pub header_of : List ℕ → ElfHeader
header_of file = record {
  ei_class = slice_index file 4;
  ei_data = slice_index file 5;
  ei_version = slice_index file 6;
  e_type = half file 16;
  e_machine = half file 18;
  e_version = word file 20;
  e_entry = word file 24;
  e_phoff = word file 28;
  e_shoff = word file 32;
  e_phentsize = half file 42;
  e_phnum = half file 44;
  e_shentsize = half file 46;
  e_shnum = half file 48;
}

-- the program header table, whose entries take 32 bytes, runs past the end of the file
abbrev pub is_program_table_outside : List ℕ → ElfHeader → Bool
is_program_table_outside file header = nat_lt (length file) (header.e_phoff + 32 * header.e_phnum)

-- the checks of what kind of file it is: a 32-bit executable for MIPS, in one of the two orders of bytes
unfoldable pub identity_fault : List ℕ → Option ElfFault
identity_fault file =
    let header = header_of file in
    first_fault
    (fails 1 (nat_lt (length file) 52)
    ∷ fails 2 (not (has_magic file))
    ∷ fails 3 (not (header.ei_class == 1))
    ∷ fails 4 (not (header.ei_data == 1) && not (header.ei_data == 2))
    ∷ fails 5 (not (header.ei_version == 1) || not (header.e_version == 1))
    ∷ fails 6 (not (header.e_type == 2))
    ∷ fails 7 (not (header.e_machine == 8))
    ∷ [])

-- the checks of where the program header table stands
unfoldable pub program_table_fault : List ℕ → Option ElfFault
program_table_fault file =
    let header = header_of file in
    first_fault
    (fails 8 (header.e_phnum == 0)
    ∷ fails 9 (not (header.e_phentsize == 32))
    ∷ fails 10 (is_program_table_outside file header)
    ∷ [])
