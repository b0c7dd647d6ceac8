-- The definition's answers to some runs of calls.
use Rattle.std.proofs.Common.{◌≡◌, ℕ, ℤ, pos, negsuc, List, [], ◌∷◌, map, length, refl}
use Rattle.run_definition.specs.Question.{Question, AskedText, no_text, unreadable, too_long, bytes, no_room, there}
use Rattle.unix_definition.specs.System.{System}
use Rattle.unix_definition.specs.Files.{bytes_at}
use Rattle.unix_definition.specs.Unix.{unix, system_start}

abbrev ask : ℕ → ℕ → ℕ → ℕ → Question
ask number a0 a1 a2 = record { number = number; a0 = a0; a1 = a1; a2 = a2; a3 = 0; text = no_text; second = no_text; room = no_room }

abbrev with_text : Question → AskedText → Question
with_text q text = record { number = q.number; a0 = q.a0; a1 = q.a1; a2 = q.a2; a3 = 0; text = text; second = no_text; room = no_room }

abbrev with_room : Question → ℕ → ℕ → Question
with_room q place size = record { number = q.number; a0 = q.a0; a1 = q.a1; a2 = q.a2; a3 = 0; text = no_text; second = no_text; room = there place size }

-- the calls as a program makes them
abbrev a : List ℕ
a = 97 ∷ []

abbrev b : List ℕ
b = 98 ∷ []

abbrev open_for : ℕ → List ℕ → Question
open_for flags path = with_text (ask 2 0 flags 0) (bytes path)

abbrev close_of : ℕ → Question
close_of fd = ask 3 fd 0 0

abbrev read_of : ℕ → ℕ → Question
read_of fd n = with_room (ask 4 fd 0x1000 n) 0x1000 n

abbrev write_of : ℕ → List ℕ → Question
write_of fd bs = with_text (ask 5 fd 0 (length bs)) (bytes bs)

abbrev lseek_of : ℕ → ℕ → ℕ → Question
lseek_of fd offset whence = ask 6 fd offset whence

abbrev fstat_of : ℕ → Question
fstat_of fd = with_room (ask 8 fd 0x1000 0) 0x1000 16

abbrev unlink_of : List ℕ → Question
unlink_of path = with_text (ask 9 0 0 0) (bytes path)

abbrev rename_of : List ℕ → List ℕ → Question
rename_of old new = record { number = 14; a0 = 0; a1 = 0; a2 = 0; a3 = 0; text = bytes old; second = bytes new; room = no_room }

-- a run of calls: the values, the last patch, and the last state
abbrev after : System → List Question → System
after s [] = s
after s (q ∷ qs) = after (unix s q).1 qs

abbrev values : System → List Question → List ℤ
values s [] = []
values s (q ∷ qs) = (unix s q).0.value ∷ values (unix s q).1 qs

abbrev patches : System → List Question → List (List ℕ)
patches s [] = []
patches s (q ∷ qs) = (unix s q).0.patch ∷ patches (unix s q).1 qs

-- a system of four blocks with one file, `a` of the bytes 1 to 5, two arguments and two lines of input
abbrev small : System
small = system_start 4 7 ((a, 1 ∷ 2 ∷ 3 ∷ 4 ∷ 5 ∷ []) ∷ []) ((112 ∷ []) ∷ (120 ∷ 121 ∷ []) ∷ []) (104 ∷ 105 ∷ 10 ∷ 33 ∷ [])

pub one_block_is_in_use : small.files.free ≡ 3
one_block_is_in_use = refl

pub create_and_exclusive_refuse_a_present_file : values small (open_for 0xA01 a ∷ open_for 0xA01 b ∷ open_for 0xA01 b ∷ []) ≡ negsuc 16 ∷ pos 3 ∷ negsuc 16 ∷ []
create_and_exclusive_refuse_a_present_file = refl

pub open_finds_no_file : values small (open_for 0 b ∷ open_for 3 a ∷ open_for 3 [] ∷ []) ≡ negsuc 1 ∷ negsuc 21 ∷ negsuc 1 ∷ []
open_finds_no_file = refl

pub an_access_of_3_comes_after_the_path : values small (with_text (ask 2 0 3 0) unreadable ∷ with_text (ask 2 0 0 0) too_long ∷ []) ≡ negsuc 13 ∷ negsuc 21 ∷ []
an_access_of_3_comes_after_the_path = refl

pub append_goes_to_the_end : bytes_at (after small (open_for 0x9 a ∷ lseek_of 3 9 0 ∷ write_of 3 (7 ∷ []) ∷ [])).files 0 ≡ 1 ∷ 2 ∷ 3 ∷ 4 ∷ 5 ∷ 7 ∷ []
append_goes_to_the_end = refl

pub a_gap_is_zeros : bytes_at (after small (open_for 0x1 a ∷ lseek_of 3 7 0 ∷ write_of 3 (7 ∷ []) ∷ [])).files 0 ≡ 1 ∷ 2 ∷ 3 ∷ 4 ∷ 5 ∷ 0 ∷ 0 ∷ 7 ∷ []
a_gap_is_zeros = refl

pub a_write_goes_over_what_stands_there : bytes_at (after small (open_for 0x1 a ∷ lseek_of 3 1 0 ∷ write_of 3 (8 ∷ 9 ∷ []) ∷ [])).files 0 ≡ 1 ∷ 8 ∷ 9 ∷ 4 ∷ 5 ∷ []
a_write_goes_over_what_stands_there = refl

pub an_unlinked_open_file_keeps_its_bytes : patches small (open_for 0 a ∷ unlink_of a ∷ read_of 3 9 ∷ []) ≡ [] ∷ [] ∷ (1 ∷ 2 ∷ 3 ∷ 4 ∷ 5 ∷ []) ∷ []
an_unlinked_open_file_keeps_its_bytes = refl

pub an_unlinked_file_is_dropped_at_its_close : map (λ s. s.files.free) (after small (open_for 0 a ∷ unlink_of a ∷ []) ∷ after small (open_for 0 a ∷ unlink_of a ∷ close_of 3 ∷ []) ∷ []) ≡ 3 ∷ 4 ∷ []
an_unlinked_file_is_dropped_at_its_close = refl

pub dup_shares_the_place : patches small (open_for 0 a ∷ ask 10 3 0 0 ∷ read_of 3 2 ∷ read_of 4 2 ∷ []) ≡ [] ∷ [] ∷ (1 ∷ 2 ∷ []) ∷ (3 ∷ 4 ∷ []) ∷ []
dup_shares_the_place = refl

pub a_description_stays_until_its_last_close : values small (open_for 0 a ∷ ask 10 3 0 0 ∷ close_of 3 ∷ read_of 4 2 ∷ close_of 4 ∷ read_of 4 2 ∷ close_of 4 ∷ []) ≡ pos 3 ∷ pos 4 ∷ pos 0 ∷ pos 2 ∷ pos 0 ∷ negsuc 8 ∷ negsuc 8 ∷ []
a_description_stays_until_its_last_close = refl

pub rename_takes_a_present_name : (values small (open_for 0x201 b ∷ rename_of a b ∷ open_for 0 a ∷ open_for 0 b ∷ []) ≡ pos 3 ∷ pos 0 ∷ negsuc 1 ∷ pos 4 ∷ []) × (patches small (open_for 0x201 b ∷ rename_of a b ∷ open_for 0 b ∷ read_of 4 2 ∷ []) ≡ [] ∷ [] ∷ [] ∷ (1 ∷ 2 ∷ []) ∷ [])
rename_takes_a_present_name = (refl, refl)

pub rename_to_its_own_name_changes_nothing : (unix small (rename_of a a)).1 ≡ small
rename_to_its_own_name_changes_nothing = refl

pub rename_tests_both_paths_first : values small (record { number = 14; a0 = 0; a1 = 0; a2 = 0; a3 = 0; text = bytes b; second = unreadable; room = no_room } ∷ rename_of b a ∷ []) ≡ negsuc 13 ∷ negsuc 1 ∷ []
rename_tests_both_paths_first = refl

-- begin with a heap of 0x100 bytes at 0x2000, and then the break up, down, too far down and too far up
pub sbrk_moves_the_break : values small (ask 7 0 0 0 ∷ ask 7 1 0 0 ∷ with_room (ask 0 0x1000 0x2000 0x100) 0x1000 4096 ∷ ask 7 0x100 0 0 ∷ ask 7 0xFFFFFFF0 0 0 ∷ ask 7 0xFFFFFF0F 0 0 ∷ ask 7 0x11 0 0 ∷ ask 7 0 0 0 ∷ [])
    ≡ pos 0 ∷ negsuc 11 ∷ pos 2 ∷ pos 0x2000 ∷ pos 0x2100 ∷ negsuc 11 ∷ negsuc 11 ∷ pos 0x20F0 ∷ []
sbrk_moves_the_break = refl

pub begin_gives_the_arguments : patches small (with_room (ask 0 0x1000 0x2000 0x100) 0x1000 4096 ∷ []) ≡ (0 ∷ 0 ∷ 0x10 ∷ 0x0C ∷ 0 ∷ 0 ∷ 0x10 ∷ 0x0E ∷ 0 ∷ 0 ∷ 0 ∷ 0 ∷ 112 ∷ 0 ∷ 120 ∷ 121 ∷ 0 ∷ []) ∷ []
begin_gives_the_arguments = refl

pub begin_is_answered_once : values small (ask 0 0x1000 0x2000 0x100 ∷ with_room (ask 0 0x1000 0x7FFFFFFF 1) 0x1000 4096 ∷ with_room (ask 0 0x1000 0x7FFFFFFF 0) 0x1000 4096 ∷ ask 0 0 0 0 ∷ []) ≡ negsuc 13 ∷ negsuc 21 ∷ pos 2 ∷ negsuc 21 ∷ []
begin_is_answered_once = refl

pub ftruncate_cuts_and_adds_zeros : bytes_at (after small (open_for 0x1 a ∷ ask 11 3 2 0 ∷ ask 11 3 4 0 ∷ [])).files 0 ≡ 1 ∷ 2 ∷ 0 ∷ 0 ∷ []
ftruncate_cuts_and_adds_zeros = refl

pub ftruncate_leaves_the_place : patches small (open_for 0x2 a ∷ read_of 3 4 ∷ ask 11 3 2 0 ∷ write_of 3 (9 ∷ []) ∷ lseek_of 3 0 0 ∷ read_of 3 9 ∷ []) ≡ [] ∷ (1 ∷ 2 ∷ 3 ∷ 4 ∷ []) ∷ [] ∷ [] ∷ [] ∷ (1 ∷ 2 ∷ 0 ∷ 0 ∷ 9 ∷ []) ∷ []
ftruncate_leaves_the_place = refl

pub ftruncate_refuses_in_order : values small (open_for 0 a ∷ ask 11 3 0x80000000 0 ∷ ask 11 1 0x80000000 0 ∷ open_for 0x1 a ∷ ask 11 4 0x80000000 0 ∷ ask 11 4 16385 0 ∷ ask 11 4 16384 0 ∷ []) ≡ pos 3 ∷ negsuc 8 ∷ negsuc 21 ∷ pos 4 ∷ negsuc 21 ∷ negsuc 27 ∷ pos 0 ∷ []
ftruncate_refuses_in_order = refl

pub a_read_stops_at_the_end_of_a_line : patches small (read_of 0 9 ∷ read_of 0 9 ∷ read_of 0 9 ∷ []) ≡ (104 ∷ 105 ∷ 10 ∷ []) ∷ (33 ∷ []) ∷ [] ∷ []
a_read_stops_at_the_end_of_a_line = refl

pub a_read_stops_at_its_count : patches small (read_of 0 2 ∷ read_of 0 2 ∷ []) ≡ (104 ∷ 105 ∷ []) ∷ (10 ∷ []) ∷ []
a_read_stops_at_its_count = refl

pub a_read_refuses_in_order : values small (ask 4 9 0 0x80000000 ∷ ask 4 1 0 1 ∷ ask 4 0 0 0x80000000 ∷ ask 4 0 0 0 ∷ ask 4 0 0 1 ∷ []) ≡ negsuc 8 ∷ negsuc 8 ∷ negsuc 21 ∷ pos 0 ∷ negsuc 13 ∷ []
a_read_refuses_in_order = refl

pub a_write_refuses_in_order : values small (with_text (ask 5 0 0 1) unreadable ∷ with_text (ask 5 1 0 0x80000000) unreadable ∷ with_text (ask 5 1 0 0) unreadable ∷ with_text (ask 5 1 0 1) unreadable ∷ []) ≡ negsuc 8 ∷ negsuc 21 ∷ pos 0 ∷ negsuc 13 ∷ []
a_write_refuses_in_order = refl

pub a_write_past_the_end_is_refused : values small (open_for 0x1 a ∷ lseek_of 3 0x7FFFFFFF 0 ∷ write_of 3 (1 ∷ []) ∷ lseek_of 3 16384 0 ∷ write_of 3 (1 ∷ []) ∷ lseek_of 3 16383 0 ∷ write_of 3 (1 ∷ []) ∷ []) ≡ pos 3 ∷ pos 0x7FFFFFFF ∷ negsuc 26 ∷ pos 16384 ∷ negsuc 27 ∷ pos 16383 ∷ pos 1 ∷ []
a_write_past_the_end_is_refused = refl

pub a_write_of_nothing_changes_nothing : (unix (after small (open_for 0x9 a ∷ lseek_of 3 9 0 ∷ [])) (write_of 3 [])).1 ≡ after small (open_for 0x9 a ∷ lseek_of 3 9 0 ∷ [])
a_write_of_nothing_changes_nothing = refl

pub writes_go_to_their_side_of_the_console : (after small (write_of 1 (7 ∷ []) ∷ write_of 2 (8 ∷ []) ∷ write_of 1 (9 ∷ []) ∷ [])).console ≡ record { rest = 104 ∷ 105 ∷ 10 ∷ 33 ∷ []; output = 7 ∷ 9 ∷ []; error_output = 8 ∷ [] }
writes_go_to_their_side_of_the_console = refl

pub lseek_refuses_in_order : values small (lseek_of 9 0 3 ∷ lseek_of 0 0 3 ∷ open_for 0 a ∷ lseek_of 3 0 3 ∷ lseek_of 3 0xFFFFFFFF 0 ∷ lseek_of 3 0xFFFFFFFF 2 ∷ lseek_of 3 1 1 ∷ []) ≡ negsuc 8 ∷ negsuc 28 ∷ pos 3 ∷ negsuc 21 ∷ negsuc 21 ∷ pos 4 ∷ pos 5 ∷ []
lseek_refuses_in_order = refl

pub fstat_tells_files_from_the_console : patches small (fstat_of 0 ∷ open_for 0 a ∷ fstat_of 3 ∷ []) ≡ (0 ∷ 0 ∷ 0 ∷ 2 ∷ 0 ∷ 0 ∷ 0 ∷ 0 ∷ 0 ∷ 0 ∷ 0 ∷ 0 ∷ 0 ∷ 0 ∷ 16 ∷ 0 ∷ []) ∷ [] ∷ (0 ∷ 0 ∷ 0 ∷ 1 ∷ 0 ∷ 0 ∷ 0 ∷ 5 ∷ 0 ∷ 0 ∷ 0 ∷ 1 ∷ 0 ∷ 0 ∷ 16 ∷ 0 ∷ []) ∷ []
fstat_tells_files_from_the_console = refl

pub truncate_needs_an_access_that_writes : map (length {A = ℕ}) (bytes_at (after small (open_for 0x400 a ∷ [])).files 0 ∷ bytes_at (after small (open_for 0x401 a ∷ [])).files 0 ∷ []) ≡ 5 ∷ 0 ∷ []
truncate_needs_an_access_that_writes = refl

pub other_calls : values small (ask 12 0 0 0 ∷ ask 13 0 0 0 ∷ ask 15 0 0 0 ∷ open_for 0 a ∷ ask 15 3 0 0 ∷ ask 15 4 0 0 ∷ ask 16 0 0 0 ∷ []) ≡ pos 1 ∷ pos 7 ∷ pos 1 ∷ pos 3 ∷ pos 0 ∷ negsuc 8 ∷ negsuc 87 ∷ []
other_calls = refl
