-- A typed program, and one that linking refuses.
use Rattle.std.proofs.Common.{◌≡◌, ℕ, zero, suc, ◌==◌, Bool, true, false, List, [], ◌∷◌, All, Some, None, if◌then◌else◌, refl, ap, subst, ◌∙◌, slice_get, arith}
use Rattle.run_definition.specs.Answer.{next_answer}
use Rattle.run_definition.specs.Run.{run_of}
use Rattle.run_definition.specs.declared.outcome.Outcome.TheVariants.{Trapped}
use Rattle.jvm_definition.specs.declared.stack_name.StackName.TheVariants.{Pop}
use Rattle.jvm_definition.specs.declared.return_name.ReturnName.TheVariants as returns
use Rattle.jvm_definition.specs.declared.linked_line.LinkedLine.{LinkedLine}
use Rattle.jvm_definition.specs.declared.linked_method.LinkedMethod.{LinkedMethod}
use Rattle.jvm_definition.specs.declared.instruction.Instruction.{Instruction}
use Rattle.jvm_definition.specs.declared.instruction.Instruction.TheVariants as instructions
use Rattle.jvm_definition.specs.Program.{Program, line_in}
use Rattle.jvm_definition.specs.Step.{jvm_start, jvm_turn}
use Rattle.jvm_definition.specs.Typing.{TypeFrame, Frames, Receives, Follows, Typed, AllTyped, NamesField, GivesAs, IsLinked, entry_frame, no_top}
use Rattle.jvm_definition_laws.specs.Safety.{IsSafe}
use Rattle.jvm_definition_laws.proofs.KindLaws.{tested, some_same}
use Rattle.jvm_definition_laws.proofs.StepLaws.{start_safe}

abbrev line : ℕ → ℕ → Instruction → LinkedLine
line at next instruction = record { at = at; next = next; instruction = instruction }

abbrev method_of : Bool → List LinkedLine → LinkedMethod
method_of gives_int lines = record { parameters = []; gives_int = gives_int; stack = 1; locals = 0; lines = lines }

abbrev program_of : List LinkedMethod → Program
program_of methods = record { field = λ f. None; method = slice_get methods; characters = λ c s. []; first = 0 }

-- ---- a method that returns

abbrev ending : LinkedLine
ending = line 0 1 (instructions.Return returns.Return)

abbrev returning : LinkedMethod
returning = method_of false (ending ∷ [])

abbrev returning_program : Program
returning_program = program_of (returning ∷ [])

abbrev returning_frames : Frames
returning_frames at = if 0 == at then Some (entry_frame returning) else None

only_ending : (at : ℕ) (l : LinkedLine) → line_in (ending ∷ []) at ≡ Some l → ending ≡ l
only_ending at l e = some_same ending l (tested (0 == at) (Some ending) l e).1

only_entry : (at : ℕ) (f : TypeFrame) → returning_frames at ≡ Some f → entry_frame returning ≡ f
only_entry at f e = some_same (entry_frame returning) f (tested (0 == at) (Some (entry_frame returning)) f e).1

nothing_follows : All (Receives returning returning_frames (entry_frame returning)) []
nothing_follows k d h = absurd (omega arith)

ending_follows : Follows returning_program returning returning_frames ending (entry_frame returning)
ending_follows = record {
  local = tt;
  behind = entry_frame returning;
  fits = refl;
  within = omega arith;
  goes_on = nothing_follows;
}

returning_typed : Typed returning_program returning
returning_typed = (
  returning_frames,
  λ last. record {
    operands = λ at f e. subst (λ (f : TypeFrame). no_top f.stack ≡ true) (only_entry at f e) refl;
    parameters = omega arith;
    entry = (ending, entry_frame returning, refl, refl, record { locals = λ i. refl; stack = refl });
    rules = λ at l f h i e. subst (λ f. Follows returning_program returning returning_frames l f) (only_entry at f e) (subst (λ l. Follows returning_program returning returning_frames l (entry_frame returning)) (only_ending at l i) ending_follows);
  },
)

only_method : (m : ℕ) (method : LinkedMethod) → slice_get (returning ∷ []) m ≡ Some method → returning ≡ method
only_method zero method e = some_same returning method e
only_method (suc m) method e = cc

all_typed : AllTyped returning_program
all_typed m method e = subst (Typed returning_program) (only_method m method e) returning_typed

ending_of : (P : LinkedMethod → LinkedLine → Type 0) (m : ℕ) (method : LinkedMethod) (at : ℕ) (l : LinkedLine) → P returning ending → slice_get (returning ∷ []) m ≡ Some method → line_in method.lines at ≡ Some l → P method l
ending_of P m method at l h e i =
    let same = only_method m method e in
    let found : line_in (ending ∷ []) at ≡ Some l = ap (λ (method : LinkedMethod). line_in method.lines at) same ∙ i in
    subst (λ (method : LinkedMethod). P method l) same (subst (P returning) (only_ending at l found) h)

linked : IsLinked returning_program
linked = record {
  fields = λ m method at l e i. ending_of (λ method l. NamesField returning_program l.instruction) m method at l tt e i;
  returns = λ m method at l e i. ending_of (λ method l. GivesAs method l.instruction) m method at l refl e i;
  first = returning;
  first_is = refl;
  takes_nothing = refl;
  gives_nothing = refl;
}

returning_safe : IsSafe returning_program (jvm_start returning_program)
returning_safe = start_safe returning_program all_typed linked

-- ---- a method that gives an int and returns none: its caller misses an operand

abbrev calling : List LinkedLine
calling =
    line 0 3 (instructions.Call 1)
    ∷ line 3 4 (instructions.Stack Pop)
    ∷ line 4 5 (instructions.Return returns.Return)
    ∷ []

misses_an_operand : (run_of (jvm_turn (program_of (method_of false calling ∷ method_of true (ending ∷ []) ∷ [])) 1) next_answer 3 (jvm_start (program_of (method_of false calling ∷ method_of true (ending ∷ []) ∷ []))) []).outcome ≡ Trapped 0
misses_an_operand = refl
