-- Each call's answer, with its tests in their order, and the state after it. docs/CALLS.md has them in words.
use Rattle.std.specs.Prelude.{ℕ, ◌+◌, ◌*◌, ◌==◌, min, true, ◌&&◌, ◌||◌, not, nat_lt, nat_le, ℤ, pos, negsuc, ◌+ℤ◌, List, [], ◌∷◌, ◌++◌, length, take, drop, Option, Some, None, is_some, if◌then◌else◌, bytes_eq}
use Rattle.run_definition.specs.Words.{signed_of}
use Rattle.run_definition.specs.Question.{AskedText, Room}
use Rattle.run_definition.specs.Answer.{Answer}
use Rattle.unix_definition.specs.Errors.{no_entry, bad_descriptor, no_memory, bad_address, present, invalid, too_many_open, too_large, no_space, no_seek}
use Rattle.unix_definition.specs.System.{System, system_with_tables, system_with_heap, with_console, with_order}
use Rattle.unix_definition.specs.declared.opened.Opened.{Opened}
use Rattle.unix_definition.specs.Files.{GuestFiles, blocks_for, bytes_at, node_named, free_node, with_bytes, with_name, has_blocks, resized, written}
use Rattle.unix_definition.specs.Opened.{free_places, number_at, description_of, free_descriptor, with_descriptor, with_description, node_of, without_unreferred, without_unused, numbered_at}
use Rattle.unix_definition.specs.Asked.{value_only, call_refused, with_path, with_bytes_of, has_room, access, reads, writes, appends, creates, truncates, is_exclusive, order_of_number, words_in_order, texts_with_zeros, addresses}
use Rattle.unix_definition.specs.declared.description.Description.{Description}
use Rattle.unix_definition.specs.declared.target.Target.{Target}
use Rattle.unix_definition.specs.declared.target.Target.TheVariants.{File, Input, Output, ErrorOutput}

-- begin: the order of bytes is 0 for big-endian and 1 for little-endian. The argument block is argc + 1 words, the addresses of the
-- texts and then 0, and then the texts, each followed by 00.
abbrev pub argument_block : System → ℕ → List ℕ
argument_block s place =
    words_in_order s.order (addresses (place + 4 * (length s.args + 1)) s.args ++ 0 ∷ [])
    ++ texts_with_zeros s.args

abbrev pub block_length : List (List ℕ) → ℕ
block_length args = 4 * (length args + 1) + length (texts_with_zeros args)

abbrev pub begun_with : System → ℕ → ℕ → ℕ → Answer × System
begun_with s place start size = (
  record { value = pos (length s.args); patch = argument_block s place },
  system_with_heap s (record { begun = true; start = start; end = start + size; program_break = start }),
)

abbrev pub begin : System → ℕ → ℕ → ℕ → ℕ → Room → Answer × System
begin s place start size order room =
    if s.heap.begun then call_refused s invalid
    else if nat_lt 0x7FFFFFFF (start + size) then call_refused s invalid
    else if nat_lt 1 order then call_refused s invalid
    else if not (has_room room 4096) then call_refused s bad_address
    else begun_with (with_order s (order_of_number order)) place start size

-- open: a descriptor for a file, at its start
abbrev pub description_for : ℕ → ℕ → Description
description_for n flags = record {
  target = File n;
  place = 0;
  may_read = reads flags;
  may_write = writes flags;
  appends = appends flags;
}

abbrev pub opened_as : System → GuestFiles → ℕ → ℕ → ℕ → ℕ → Answer × System
opened_as s files n flags fd d = (
  value_only (pos fd),
  system_with_tables s files
      (with_descriptor (with_description s.opened d (Some (description_for n flags))) fd
      (Some d)),
)

-- the lowest free descriptor, with a description of its own
abbrev pub with_free_descriptor : System → (ℕ → ℕ → Answer × System) → Answer × System
with_free_descriptor s go =
    elim (free_places s.opened) [ None ↦ call_refused s too_many_open | Some free ↦ go free.0 free.1 ]

abbrev pub create_file : System → List ℕ → ℕ → Answer × System
create_file s name flags =
    if not (creates flags) then call_refused s no_entry
    else with_free_descriptor s (λ fd d. elim (free_node s.files) [
      | None ↦ call_refused s no_space
      | Some n ↦ opened_as s (with_name s.files n (Some name)) n flags fd d
    ])

abbrev pub open_present : System → ℕ → ℕ → Answer × System
open_present s n flags =
    if creates flags && is_exclusive flags then call_refused s present
    else with_free_descriptor s (λ fd d. opened_as s (if truncates flags && writes flags
    then with_bytes s.files n [] else s.files) n flags fd d)

abbrev pub open_named : System → List ℕ → ℕ → Answer × System
open_named s name flags =
    if access flags == 3 then call_refused s invalid
    else elim (node_named s.files name)
    [ None ↦ create_file s name flags | Some n ↦ open_present s n flags ]

abbrev pub open_file : System → AskedText → ℕ → Answer × System
open_file s path flags = with_path s path (λ name. open_named s name flags)

-- what is left where a descriptor no longer stands for a description
abbrev pub files_without : GuestFiles → Opened → Option Description → GuestFiles
files_without files opened None = files
files_without files opened (Some description) =
    elim (node_of description.target) [ None ↦ files | Some n ↦ without_unused files opened n ]

-- close
abbrev pub closed : System → Opened → ℕ → Answer × System
closed s opened d = (
  value_only (pos 0),
  system_with_tables s (files_without s.files (without_unreferred opened d)
      (description_of opened d)) (without_unreferred opened d),
)

abbrev pub close : System → ℕ → Answer × System
close s fd = elim (number_at s.opened fd)
    [ None ↦ call_refused s bad_descriptor | Some d ↦ closed s (with_descriptor s.opened fd None) d ]

-- A call on a descriptor: it is refused, or goes on with the number of the description and the description.
abbrev pub with_open : System → ℕ → (ℕ → Description → Answer × System) → Answer × System
with_open s fd go =
    elim (numbered_at s.opened fd)
    [ None ↦ call_refused s bad_descriptor | Some found ↦ go found.0 found.1 ]

-- a description has this place
abbrev pub description_placed : Opened → ℕ → Description → ℕ → Opened
description_placed o d description place = with_description o d (Some (record description { place = place }))

-- read: at most n bytes of what stands in the file from the place on, or of the first line of the rest of input. The system may limit
-- further how many bytes a read of input gives.
abbrev pub first_line : List ℕ → List ℕ
first_line [] = []
first_line (b ∷ bs) = if b == 0x0A then b ∷ [] else b ∷ first_line bs

abbrev pub file_read : System → ℕ → Description → List ℕ → Answer × System
file_read s d description bs = (
  record { value = pos (length bs); patch = bs },
  system_with_tables s s.files (description_placed s.opened d description (description.place + length bs)),
)

abbrev pub input_read : System → List ℕ → Answer × System
input_read s bs = (
  record { value = pos (length bs); patch = bs },
  with_console s (record {
    rest = drop (length bs) s.console.rest;
    output = s.console.output;
    error_output = s.console.error_output;
  }),
)

abbrev pub read_target : System → ℕ → Description → ℕ → Target → Answer × System
read_target s d description n (File k) =
    file_read s d description (take n (drop description.place (bytes_at s.files k)))
read_target s d description n Input =
    input_read s (take (min n s.most) (first_line s.console.rest))
read_target s d description n Output = call_refused s bad_descriptor
read_target s d description n ErrorOutput = call_refused s bad_descriptor

abbrev pub read : System → ℕ → ℕ → Room → Answer × System
read s fd n room = with_open s fd (λ d description.
    if not description.may_read then call_refused s bad_descriptor
    else if nat_le 0x80000000 n then call_refused s invalid
    else if n == 0 then (value_only (pos 0), s)
    else if not (has_room room n) then call_refused s bad_address
    else read_target s d description n description.target)

-- write: to the file's place or its end, or to a side of the console
abbrev pub write_place : GuestFiles → ℕ → Description → ℕ
write_place files k description = if description.appends then length (bytes_at files k)
    else description.place

abbrev pub file_written : System → ℕ → Description → ℕ → List ℕ → ℕ → Answer × System
file_written s d description k bs place =
    if nat_lt 0x7FFFFFFF (place + length bs) then call_refused s too_large
    else if not (has_blocks s.files k (length (written (bytes_at s.files k) place bs)))
    then call_refused s no_space
    else (
      value_only (pos (length bs)),
      system_with_tables s (with_bytes s.files k (written (bytes_at s.files k) place bs))
          (description_placed s.opened d description (place + length bs)),
    )

abbrev pub with_output : System → List ℕ → List ℕ → System
with_output s output error_output =
    with_console s (record { rest = s.console.rest; output = output; error_output = error_output })

abbrev pub write_target : System → ℕ → Description → List ℕ → Target → Answer × System
write_target s d description bs (File k) =
    file_written s d description k bs (write_place s.files k description)
write_target s d description bs Input = call_refused s bad_descriptor
write_target s d description bs Output =
    (value_only (pos (length bs)), with_output s (s.console.output ++ bs) s.console.error_output)
write_target s d description bs ErrorOutput =
    (value_only (pos (length bs)), with_output s s.console.output (s.console.error_output ++ bs))

abbrev pub write : System → ℕ → ℕ → AskedText → Answer × System
write s fd n text = with_open s fd (λ d description.
    if not description.may_write then call_refused s bad_descriptor
    else if nat_le 0x80000000 n then call_refused s invalid
    else if n == 0 then (value_only (pos 0), s)
    else with_bytes_of s text (λ bs. write_target s d description bs description.target))

-- lseek: from the start, from the place or from the end
abbrev pub seek_base : GuestFiles → ℕ → Description → ℕ → ℕ
seek_base files k description whence = if whence == 0 then 0
    else if whence == 1 then description.place else length (bytes_at files k)

-- a place that a file may have
abbrev pub file_place : ℤ → Option ℕ
file_place (pos place) = if nat_lt 0x7FFFFFFF place then None else Some place
file_place (negsuc n) = None

abbrev pub seek_to : System → ℕ → Description → Option ℕ → Answer × System
seek_to s d description None = call_refused s invalid
seek_to s d description (Some place) =
    (value_only (pos place), system_with_tables s s.files (description_placed s.opened d description place))

abbrev pub file_sought : System → ℕ → Description → ℕ → ℕ → ℕ → Answer × System
file_sought s d description k offset whence =
    if nat_lt 2 whence then call_refused s invalid
    else seek_to s d description
    (file_place (pos (seek_base s.files k description whence) +ℤ signed_of offset))

abbrev pub lseek : System → ℕ → ℕ → ℕ → Answer × System
lseek s fd offset whence = with_open s fd (λ d description.
    elim (node_of description.target)
    [ None ↦ call_refused s no_seek | Some k ↦ file_sought s d description k offset whence ])

-- sbrk: the old break
abbrev pub break_at : System → ℤ → Answer × System
break_at s (pos place) =
    if nat_lt place s.heap.start || nat_lt s.heap.end place then call_refused s no_memory
    else (
      value_only (pos s.heap.program_break),
      system_with_heap s (record {
        begun = s.heap.begun;
        start = s.heap.start;
        end = s.heap.end;
        program_break = place;
      }),
    )
break_at s (negsuc n) = call_refused s no_memory

abbrev pub sbrk : System → ℕ → Answer × System
sbrk s delta = break_at s (pos s.heap.program_break +ℤ signed_of delta)

-- fstat: the kind, 1 for a file and 2 for the console, the length, the blocks, and the size of a block
abbrev pub file_words : GuestFiles → Option ℕ → List ℕ
file_words files None = 2 ∷ 0 ∷ 0 ∷ 4096 ∷ []
file_words files (Some k) =
    1 ∷ length (bytes_at files k) ∷ blocks_for (length (bytes_at files k)) ∷ 4096 ∷ []

abbrev pub fstat : System → ℕ → Room → Answer × System
fstat s fd room = with_open s fd (λ d description.
    if not (has_room room 16) then call_refused s bad_address
    else (
      record {
        value = pos 0;
        patch = words_in_order s.order
            (file_words s.files (node_of description.target));
      },
      s,
    ))

-- A file's name is taken away, and the file is dropped where it is not open.
abbrev pub without_name : GuestFiles → Opened → ℕ → GuestFiles
without_name files opened n = without_unused (with_name files n None) opened n

-- unlink
abbrev pub unlink_named : System → List ℕ → Answer × System
unlink_named s name = elim (node_named s.files name) [
  | None ↦ call_refused s no_entry
  | Some n ↦ (value_only (pos 0), system_with_tables s (without_name s.files s.opened n) s.opened)
]

abbrev pub unlink : System → AskedText → Answer × System
unlink s path = with_path s path (unlink_named s)

-- dup: a further descriptor for a description
abbrev pub dup : System → ℕ → Answer × System
dup s fd = elim (number_at s.opened fd) [
  | None ↦ call_refused s bad_descriptor
  | Some d ↦ elim (free_descriptor s.opened) [
    | None ↦ call_refused s too_many_open
    | Some lowest ↦ (
      value_only (pos lowest),
      system_with_tables s s.files (with_descriptor s.opened lowest (Some d)),
    )
  ]
]

-- ftruncate: the place stays
abbrev pub file_resized : System → ℕ → ℕ → Answer × System
file_resized s k size =
    if nat_le 0x80000000 size then call_refused s invalid
    else if not (has_blocks s.files k size) then call_refused s no_space
    else (
      value_only (pos 0),
      system_with_tables s (with_bytes s.files k (resized (bytes_at s.files k) size)) s.opened,
    )

abbrev pub ftruncate : System → ℕ → ℕ → Answer × System
ftruncate s fd size = with_open s fd (λ d description.
    if not description.may_write then call_refused s bad_descriptor
    else elim (node_of description.target)
    [ None ↦ call_refused s invalid | Some k ↦ file_resized s k size ])

-- rename: the file that had the new name loses it
abbrev pub without_named : GuestFiles → Opened → Option ℕ → GuestFiles
without_named files opened None = files
without_named files opened (Some n) = without_name files opened n

abbrev pub renamed : GuestFiles → Opened → ℕ → List ℕ → List ℕ → GuestFiles
renamed files opened n from to = if bytes_eq from to then files
    else with_name (without_named files opened (node_named files to)) n (Some to)

abbrev pub rename_named : System → List ℕ → List ℕ → Answer × System
rename_named s from to = elim (node_named s.files from) [
  | None ↦ call_refused s no_entry
  | Some n ↦ (value_only (pos 0), system_with_tables s (renamed s.files s.opened n from to) s.opened)
]

abbrev pub rename : System → AskedText → AskedText → Answer × System
rename s old new = with_path s old (λ from. with_path s new (λ to. rename_named s from to))

-- isatty
abbrev pub isatty : System → ℕ → Answer × System
isatty s fd =
    with_open s fd
    (λ d description. (
      value_only (pos (if is_some (node_of description.target) then 0 else 1)),
      s,
    ))
