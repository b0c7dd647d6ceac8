-- The definitions, computed for a program of three words and for one with data across two pages.
use Rattle.std.proofs.Common.{◌≡◌, ℕ, true, false, List, [], ◌∷◌, refl}
use Rattle.elf_definition.specs.declared.segment.Segment.{Segment}
use Rattle.elf_definition.specs.Pages.{heap_page, is_segment_page, is_data_page, is_shared, is_readable_page, is_writable_page}
use Rattle.elf_definition.specs.Content.{stored_byte, stored_word}
use Rattle.mips_definition.specs.Table.{is_float}

text : Segment
text = record { offset = 84; vaddr = 0x400000; filesz = 12; memsz = 12; flags = 5 }

-- four bytes of the file and 60 of zeros
variables : Segment
variables = record { offset = 0; vaddr = 0x10000ffe; filesz = 4; memsz = 64; flags = 6 }

bytes : List ℕ
bytes = 0x11 ∷ 0x22 ∷ 0x33 ∷ 0x44 ∷ []

heap_behind_text : heap_page (text ∷ []) ≡ 0x401
unfolding heap_page text
heap_behind_text = refl

heap_behind_data : heap_page (variables ∷ text ∷ []) ≡ 0x10002
unfolding heap_page text variables
heap_behind_data = refl

text_page : is_segment_page (text ∷ variables ∷ []) 0x400 ≡ true
unfolding is_segment_page text variables
text_page = refl

page_behind_text : is_segment_page (text ∷ variables ∷ []) 0x401 ≡ false
unfolding is_segment_page text variables
page_behind_text = refl

text_is_not_written : is_writable_page (text ∷ variables ∷ []) 256 64 0x400 ≡ false
unfolding is_writable_page is_data_page heap_page text variables
text_is_not_written = refl

data_is_written : is_writable_page (text ∷ variables ∷ []) 256 64 0x10001 ≡ true
unfolding is_writable_page is_data_page heap_page text variables
data_is_written = refl

lowest_stack_page : is_readable_page (text ∷ []) 256 64 0x7ffbf ≡ true
unfolding is_readable_page is_segment_page heap_page text
lowest_stack_page = refl

page_below_the_stack : is_readable_page (text ∷ []) 256 64 0x7ffbe ≡ false
unfolding is_readable_page is_segment_page heap_page text
page_below_the_stack = refl

argument_page_alone : is_shared (text ∷ []) 256 64 0x7ffff ≡ false
unfolding is_shared is_segment_page heap_page text
argument_page_alone = refl

last_byte_of_the_file : stored_byte bytes (variables ∷ []) 0x10001001 ≡ 0x44
unfolding stored_byte bytes variables
last_byte_of_the_file = refl

first_zero_behind : stored_byte bytes (variables ∷ []) 0x10001002 ≡ 0
unfolding stored_byte bytes variables
first_zero_behind = refl

word_across_pages : stored_word bytes (variables ∷ []) 0x10000ffe ≡ 0x11223344
unfolding stored_word stored_byte bytes variables
word_across_pages = refl

float_add : is_float 0x46000000 ≡ true
float_add = refl

opcode_35 : is_float 0xd4000000 ≡ false
opcode_35 = refl
