-- The definitions compute as one expects.
use Rattle.std.proofs.Common.{◌≡◌, ℕ, zero, suc, ◌==◌, nat_lt, if◌then◌else◌, List, [], ◌∷◌, replicate, Some, slice_get, slice_set, pos, refl}
use Rattle.run_definition.specs.Memory.{Memory}
use Rattle.run_definition.specs.Question.{Question, asked, asked_text_at, room_at, no_text, unreadable, too_long, bytes, no_room, missing, there}
use Rattle.run_definition.specs.Answer.{Answer, next_answer, answered}
use Rattle.run_definition.specs.Turn.{Turn, moves, ends, leaves, asks, exit}
use Rattle.run_definition.specs.Run.{run_of, stops}
use Rattle.run_definition.specs.declared.text_place.TextPlace.TheVariants.{Zero, Counted}
use Rattle.run_definition.specs.declared.outcome.Outcome.TheVariants.{Exited, Waiting, Going}

-- the text `Hi`, a byte 0 and a `!`, of which the first two bytes may be written
abbrev small : Memory
small = record { byte = slice_get (72 ∷ 105 ∷ 0 ∷ 33 ∷ []); writable = λ a. nat_lt a 2 }

-- sevens everywhere, but for one 0
abbrev sevens : ℕ → Memory
sevens end = record { byte = λ a. Some (if a == end then 0 else 7); writable = λ a. nat_lt a 0 }

pub write_shows_its_text : asked (record { number = 5; a0 = 1; a1 = 0; a2 = 2; a3 = 9 }) small ≡ record { number = 5; a0 = 1; a1 = 0; a2 = 2; a3 = 9; text = bytes (72 ∷ 105 ∷ []); second = no_text; room = no_room }
write_shows_its_text = refl

pub read_shows_its_room : asked (record { number = 4; a0 = 0; a1 = 0; a2 = 2; a3 = 9 }) small ≡ record { number = 4; a0 = 0; a1 = 0; a2 = 2; a3 = 9; text = no_text; second = no_text; room = there 0 2 }
read_shows_its_room = refl

pub rename_shows_both_paths : asked (record { number = 14; a0 = 0; a1 = 1; a2 = 0; a3 = 0 }) small ≡ record { number = 14; a0 = 0; a1 = 1; a2 = 0; a3 = 0; text = bytes (72 ∷ 105 ∷ []); second = bytes (105 ∷ []); room = no_room }
rename_shows_both_paths = refl

pub a_path_ends_at_zero : asked_text_at small (Zero 0) ≡ bytes (72 ∷ 105 ∷ [])
a_path_ends_at_zero = refl

pub a_path_may_be_empty : asked_text_at small (Zero 2) ≡ bytes []
a_path_may_be_empty = refl

pub a_path_without_end_is_unreadable : asked_text_at small (Zero 3) ≡ unreadable
a_path_without_end_is_unreadable = refl

pub a_path_of_255_bytes_is_read : asked_text_at (sevens 255) (Zero 0) ≡ bytes (replicate 255 7)
a_path_of_255_bytes_is_read = refl

pub a_path_of_256_bytes_is_too_long : asked_text_at (sevens 256) (Zero 0) ≡ too_long
a_path_of_256_bytes_is_too_long = refl

pub a_count_past_the_end_is_unreadable : asked_text_at small (Counted 2 3) ≡ unreadable
a_count_past_the_end_is_unreadable = refl

pub a_count_goes_past_zero : asked_text_at small (Counted 1 3) ≡ bytes (105 ∷ 0 ∷ 33 ∷ [])
a_count_goes_past_zero = refl

pub half_a_room_is_missing : room_at small (Some (1, 2)) ≡ missing
half_a_room_is_missing = refl

pub an_empty_room_is_there : room_at small (Some (9, 0)) ≡ there 9 0
an_empty_room_is_there = refl

-- a machine that counts down
abbrev countdown : ℕ → Turn ℕ
countdown zero = ends (exit (pos 7))
countdown (suc n) = moves n

pub counts_to_its_bound : run_of countdown next_answer 2 2 [] ≡ stops [] Going 0 []
counts_to_its_bound = refl

pub counts_to_its_end : run_of countdown next_answer 3 2 [] ≡ stops [] (Exited (pos 7)) 0 []
counts_to_its_end = refl

-- a machine that reads two bytes once, and then leaves with what it asked before
abbrev read : Question
read = asked (record { number = 4; a0 = 0; a1 = 0; a2 = 2; a3 = 0 }) small

abbrev reader : (ℕ × List ℕ) → Turn (ℕ × List ℕ)
reader s = elim s.0 [
  | zero ↦ asks read (λ a. (1, answered slice_set s.1 read a.patch))
  | suc n ↦ leaves read (exit (pos 7))
]

abbrev answer : List ℕ → Answer
answer patch = record { value = pos 1; patch = patch }

pub uses_an_answer : run_of reader next_answer 9 (0, 5 ∷ 5 ∷ []) (answer (8 ∷ []) ∷ []) ≡ stops (read ∷ read ∷ []) (Exited (pos 7)) (1, 8 ∷ 5 ∷ []) []
uses_an_answer = refl

pub waits_without_an_answer : run_of reader next_answer 9 (0, 5 ∷ 5 ∷ []) [] ≡ stops (read ∷ []) Waiting (0, 5 ∷ 5 ∷ []) []
waits_without_an_answer = refl

pub waits_at_a_patch_too_long : run_of reader next_answer 9 (0, 5 ∷ 5 ∷ []) (answer (8 ∷ 8 ∷ 8 ∷ []) ∷ []) ≡ stops (read ∷ []) Waiting (0, 5 ∷ 5 ∷ []) (answer (8 ∷ 8 ∷ 8 ∷ []) ∷ [])
waits_at_a_patch_too_long = refl

pub waits_at_a_patch_of_no_bytes : run_of reader next_answer 9 (0, 5 ∷ 5 ∷ []) (answer (256 ∷ []) ∷ []) ≡ stops (read ∷ []) Waiting (0, 5 ∷ 5 ∷ []) (answer (256 ∷ []) ∷ [])
waits_at_a_patch_of_no_bytes = refl
