-- Marked states of the guest.
use Rattle.std.specs.Prelude.{◌≡◌, ℕ, ◌<◌, ◌≤◌, Bool, true, List, length, slice_get, Option, Some, None}
use Rattle.run_definition.specs.declared.order.Order.{Order}
use Rattle.mips_definition.specs.State as guest
use Rattle.jvm_definition.specs.Program.{Program}
use Rattle.jvm_definition.specs.Step.{JvmState}
use Rattle.emit_spans.specs.Neighbours as words
use Rattle.emit_spans.specs.Pieces.{begins}
use Rattle.trampoline_laws.specs.Classes.{CodeClass, span_words}
use Rattle.trampoline_laws.specs.Programs.{IsInClass}
use Rattle.emit_program_laws.specs.Entered.{IsGuest}
use Rattle.emit_program_laws.specs.Standing.{AtWord}

-- Where the guest's state is marked, no branch is pending, and a piece begins with the word at which it stands.
pub record MarksPieces (classes : List CodeClass) (marked : guest.State → Bool) : Type 0 where
  pub between : (t : guest.State) → marked t ≡ true → t.pending ≡ None
  pub in_class : (t : guest.State) → marked t ≡ true → IsInClass classes t.pc
  pub begin : (t : guest.State) (n : ℕ) (c : CodeClass) (j k : ℕ) → marked t ≡ true
      → slice_get classes n ≡ Some c → j < length c.spans
      → (span_words c j).first ≤ k → k < (span_words c j).end
      → t.pc ≡ words.address (span_words c j) k → begins c.leads (span_words c j) k ≡ true

-- The classes stand at the code of a word with which a piece begins, and the guest stands at that word between units.
pub record AtPiece (program : Program) (words : ℕ) (order : Order) (classes : List CodeClass)
    (choose : ℕ) (code : ℕ → Option ℕ) (t : guest.State) (y : JvmState) : Type 0 where
  pub guest_is : IsGuest order code t
  pub at_word : AtWord program words order classes choose y t
  pub begin : begins at_word.class.leads (span_words at_word.class at_word.span) at_word.word ≡ true
