-- What a call of the code gave, beside what the definition gives.
use Rattle.std.specs.Prelude.{◌≡◌, ℕ, ℤ, IsTrue}
use Rattle.run_definition.specs.Memory.{patched}
use Rattle.run_definition.specs.Question.{Room}
use Rattle.run_definition.specs.Answer.{Answer, fits_room, room_place}
use Rattle.unix_definition.specs.System.{System}

-- The value, the memory with the bytes put into a room that they fit, and the state afterwards are those of an answer.
pub record Gives {C : Type 0} (put_at : C → ℕ → ℕ → C) (old new : C) (room : Room) (answer : ℤ)
    (last : System) (given : Answer × System) : Type 0 where
  pub value : given.0.value ≡ answer
  pub fits : IsTrue (fits_room given.0.patch room)
  pub patch : new ≡ patched put_at old (room_place room) given.0.patch
  pub after : given.1 ≡ last
