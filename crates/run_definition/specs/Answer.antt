-- What the system answers: a value, and bytes for the room of the question.
use Rattle.std.specs.Prelude.{ℕ, ℤ, Bool, true, false, ◌&&◌, nat_lt, nat_le, List, [], ◌∷◌, length, Option, Some, None, if◌then◌else◌}
use Rattle.std.specs.List.{list_all}
use Rattle.run_definition.specs.Question.{Question, Room, no_room, missing, there}
use Rattle.run_definition.specs.Memory.{patched}

pub record Answer : Type 0 where
  pub value : ℤ
  pub patch : List ℕ

-- a patch fits a room where it is empty, or the room is there and no shorter; its bytes are bytes
abbrev pub fits_room : List ℕ → Room → Bool
fits_room [] room = true
fits_room (b ∷ bs) no_room = false
fits_room (b ∷ bs) missing = false
fits_room (b ∷ bs) (there place size) =
    nat_le (length (b ∷ bs)) size && list_all (λ x. nat_lt x 256) (b ∷ bs)

abbrev pub answer_fits : Answer → Question → Bool
answer_fits answer question = fits_room answer.patch question.room

-- a memory after an answer: its bytes are put from the room's place upwards
abbrev pub room_place : Room → ℕ
room_place no_room = 0
room_place missing = 0
room_place (there place size) = place

abbrev pub answered : {C : Type 0} → (C → ℕ → ℕ → C) → C → Question → List ℕ → C
answered put_at c question patch = patched put_at c (room_place question.room) patch

-- A kind of system state: the answer to a question and the state after it, or nothing. Here the state is a list of answers, of
-- which the first is given where it fits.
abbrev pub next_answer : List Answer → Question → Option (Answer × List Answer)
next_answer [] question = None
next_answer (answer ∷ answers) question = if answer_fits answer question then Some (answer, answers)
    else None
