-- A small guest and small classes that follow it: a branch with its slot, a call of the system in the middle, a choice of the span
-- to enter, a loop and an end. They show what each part of the laws stands for, and that all can be met.
use Rattle.std.specs.Prelude.{◌≡◌, ℕ, pos, Bool, true, false, List, [], ◌∷◌, Option, Some, None}
use Rattle.run_definition.specs.Question.{Question, Room, no_room, there, no_text}
use Rattle.run_definition.specs.Turn.{Turn, moves, leaves, asks, exit}
use Rattle.run_simulation_laws.specs.Trail.{Step}
use Rattle.run_simulation_laws.specs.Turns.{Pair}

abbrev pub question : ℕ → Room → Question
question number room = record {
  number = number;
  a0 = 0;
  a1 = 0;
  a2 = 4;
  a3 = 0;
  text = no_text;
  second = no_text;
  room = room;
}

abbrev pub is_empty : List ℕ → Bool
is_empty [] = true
is_empty (b ∷ bs) = false

-- The guest: two spans. The first has an instruction, a branch and its slot; the second reads, and leaves where nothing is there,
-- else it goes back. What it keeps is whether the last read gave nothing.
pub data Guest : Type 0 where
  load : Guest
  plain : Bool → Guest
  branch : Bool → Guest
  slot : Bool → Guest
  read : Bool → Guest
  test : Bool → Guest

abbrev pub leave_if : {S : Type 0} → Bool → S → Turn S
leave_if true back = leaves (question 1 no_room) (exit (pos 0))
leave_if false back = moves back

abbrev pub guest : Guest → Turn Guest
guest load = asks (question 0 (there 0 4)) (λ a. plain (is_empty a.patch))
guest (plain none) = moves (branch none)
guest (branch none) = moves (slot none)
guest (slot none) = moves (read none)
guest (read none) = asks (question 4 (there 0 4)) (λ a. test (is_empty a.patch))
guest (test none) = leave_if none (plain none)

-- The classes: they fill their memory, make the first call, and choose a span by the pc. Each span is entered by a call, with a
-- switch to its piece; behind a call of the system the answer is stored.
pub data Classes : Type 0 where
  fill : Classes
  call : Classes
  choose_first : Bool → Classes
  choose_second : Bool → Classes
  switch_first : Bool → Classes
  switch_second : Bool → Classes
  first_plain : Bool → Classes
  first_goal : Bool → Classes
  first_slot : Bool → Classes
  first_back : Bool → Classes
  second_read : Bool → Classes
  second_store : Bool → Classes
  second_test : Bool → Classes

abbrev pub classes : Classes → Turn Classes
classes fill = moves call
classes call = asks (question 0 (there 0 4)) (λ a. choose_first (is_empty a.patch))
classes (choose_first none) = moves (switch_first none)
classes (choose_second none) = moves (switch_second none)
classes (switch_first none) = moves (first_plain none)
classes (switch_second none) = moves (second_read none)
classes (first_plain none) = moves (first_goal none)
classes (first_goal none) = moves (first_slot none)
classes (first_slot none) = moves (first_back none)
classes (first_back none) = moves (choose_second none)
classes (second_read none) = asks (question 4 (there 0 4)) (λ a. second_store (is_empty a.patch))
classes (second_store none) = moves (second_test none)
classes (second_test none) = leave_if none (choose_first none)

-- which states rest side by side
abbrev pub rests : Guest → Classes → Type 0
rests (plain none) (choose_first kept) = kept ≡ none
rests (branch none) (first_goal kept) = kept ≡ none
rests (read none) (choose_second kept) = kept ≡ none
rests (test none) (second_test kept) = kept ≡ none
rests _ _ = ⊥

-- crossings of the guest against entries of the classes: where they choose, an entry is paid for
abbrev pub goes_back : Option Guest → ℕ
goes_back None = 0
goes_back (Some g) = 1

abbrev pub crossings : Step Guest → ℕ
crossings step = elim step.from [
  | load ↦ 0
  | plain none ↦ 0
  | branch none ↦ 0
  | slot none ↦ 1
  | read none ↦ 0
  | test none ↦ goes_back step.to
]

abbrev pub chooses : Classes → ℕ
chooses (choose_first none) = 1
chooses (choose_second none) = 1
chooses _ = 0

abbrev pub entries : Step Classes → ℕ
entries step = chooses step.from

-- the first span is marked, and its piece's place belongs to it
abbrev pub is_first : Guest → Bool
is_first (plain none) = true
is_first _ = false

abbrev pub at_piece : Guest → Classes → Type 0
at_piece (plain none) (first_plain kept) = kept ≡ none
at_piece _ _ = ⊥

abbrev pub example : Pair Guest Classes (Unit {0})
example = record {
  guest = guest;
  classes = classes;
  tally = λ i. record { guest = crossings; classes = entries; credit = chooses };
  marked = is_first;
}
