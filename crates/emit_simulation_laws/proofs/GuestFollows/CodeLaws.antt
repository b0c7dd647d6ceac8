-- How code that lies in a site follows the guest by what its list of steps comes to: all of it from the laws of paths.
use Rattle.std.proofs.Common.{◌≡◌, ◌≢◌, ℕ, suc, ◌+◌, ◌<◌, ◌≤◌, IsTrue, ◌⊎◌, List, ◌∷◌, ◌++◌, length, Option}
use Rattle.run_definition.specs.declared.order.Order.{Order}
use Rattle.run_definition.specs.Turn.{Turn, ends, «fault»}
use Rattle.run_definition.specs.declared.call.Call as events
use Rattle.run_definition.specs.declared.fault.Fault.{Fault}
use Rattle.jvm_definition.specs.declared.value.Value.{Value}
use Rattle.jvm_definition.specs.declared.instruction.Instruction.TheVariants.{Call}
use Rattle.jvm_definition.specs.Values.{Heap}
use Rattle.jvm_definition.specs.HostMemory.{HostMemory}
use Rattle.jvm_definition.specs.Effect.{Workspace, enters, faults, asks_host, instruction_effect}
use Rattle.jvm_definition.specs.Step.{JvmState, asked_host, after_host}
use Rattle.jvm_definition_laws.specs.Stretch.{caller_workspace}
use Rattle.emit_steps.specs.declared.step.Step.{Step}
use Rattle.emit_steps.specs.declared.step.Step.TheVariants.{Does}
use Rattle.emit_steps.specs.Widths.{bytes_before, size}
use Rattle.emit_steps.specs.Outcomes.{outcome, outcome_from, ended, stopped, stays_within}
use Rattle.emit_steps.specs.Placing.{LiesAt}
use Rattle.mem_helpers.specs.Methods.{helper_code}
use Rattle.emit_simulation_laws.specs.Outcomes.{Gives, CallsFault}
use Rattle.emit_simulation_laws.specs.Helpers.{IsHelper}
use Rattle.emit_simulation_laws.specs.Sites.{Site, stands, whole_weight}
use Rattle.emit_simulation_laws.specs.Following.{ComesToEnd, ComesToTurn}
use Rattle.emit_simulation_laws.specs.Laws.{PathLaws}
use Rattle.emit_simulation_laws.proofs.GuestFollows.Ends.{Ends}
use Rattle.emit_simulation_laws.proofs.GuestFollows.Outcomes.{code-ends, code-ends-here, code-stops, code-asks}
use Rattle.emit_simulation_laws.proofs.GuestFollows.Calls.{call-ends, call-stops}

-- ---- code without calls, by its outcome

-- code comes to its end
abbrev pub EndFollows : Type 1
EndFollows =
    (site : Site) (order : Order) (at least most n : ℕ) (code : List Step) (w v : Workspace)
    (Arrives : Workspace → Type 0)
    → LiesAt site.program site.method at code
    → outcome site.program site.words code w ≡ ended n v
    → least ≤ n
    → n ≤ most
    → Arrives v
    → ComesToEnd site at (at + size code) least most (whole_weight order code) Arrives
    (stands site at w)

-- so it does from its k-th step on
abbrev pub EndFollowsFrom : Type 1
EndFollowsFrom =
    (site : Site) (order : Order) (at k least most n : ℕ) (code : List Step) (w v : Workspace)
    (Arrives : Workspace → Type 0)
    → LiesAt site.program site.method at code
    → outcome_from site.program site.words code k w ≡ ended n v
    → least ≤ n
    → n ≤ most
    → Arrives v
    → ComesToEnd site (at + bytes_before code k) (at + size code) least most
    (whole_weight order code) Arrives (stands site (at + bytes_before code k) w)

-- code comes to a fault
abbrev pub FaultFollows : Type 1
FaultFollows =
    (site : Site) (order : Order) (at least most n i : ℕ) (code : List Step) (w v : Workspace)
    (ending : Fault) (Last : ℕ → ℕ → Turn JvmState → Type 0)
    → LiesAt site.program site.method at code
    → outcome site.program site.words code w ≡ stopped n i v (faults ending)
    → least ≤ n + 1
    → n + 1 ≤ most
    → ((place : ℕ) → Last (n + 1) place (ends («fault» ending)))
    → ComesToTurn site at (at + size code) least most (whole_weight order code) Last
    (stands site at w)

-- the memory that a call of the system is given
abbrev pub given_memory : Workspace → Option ℕ → Option ℕ → HostMemory
given_memory w readable writable = record {
  heap = w.heap;
  readable = readable;
  writable = writable;
}

-- code comes to a call of the system, and would go on behind it
abbrev pub QuestionFollows : Type 1
QuestionFollows =
    (site : Site) (order : Order) (at least most n i : ℕ) (code : List Step) (w v u : Workspace)
    (call : events.Call) (readable writable : Option ℕ) (Last : ℕ → ℕ → Turn JvmState → Type 0)
    → LiesAt site.program site.method at code
    → outcome site.program site.words code w ≡ stopped n i v (asks_host call readable writable u)
    → least ≤ n + 1
    → n + 1 ≤ most
    → Last (n + 1) (at + bytes_before code i)
    (asked_host call (given_memory u readable writable)
    (λ answer. stands site (at + bytes_before code (suc i))
    (after_host call (given_memory u readable writable) u answer)))
    → ComesToTurn site at (at + size code) least most (whole_weight order code) Last
    (stands site at w)

-- ---- code with one call of a helper method in it, by what the method comes to

-- Code of a site, which leads to a call of a helper method that is not the site's own.
pub record CallsHelper (site : Site) (order : Order) (at n h : ℕ) (front back : List Step)
    (w v : Workspace) (given : List Value) (caller : Workspace) : Type 0 where
  pub within : IsTrue (stays_within front)
  pub lies : LiesAt site.program site.method at (front ++ Does (Call h) ∷ back)
  pub helper : IsHelper site.program order h
  pub apart : h ≢ site.method
  pub front_is : outcome site.program site.words front w ≡ ended n v
  pub calls : instruction_effect site.program site.words (Call h) v ≡ enters h given caller

-- the method gives back, and the code behind the call comes to its end
abbrev pub CallFollows : Type 1
CallFollows =
    (site : Site) (order : Order) (at n most later h : ℕ) (front back : List Step)
    (w v caller : Workspace) (given : List Value) (result : Option Value)
    (Leaves : (ℕ → Value) → Heap → Type 0) (Arrives : Workspace → Type 0)
    → CallsHelper site order at n h front back w v given caller
    → length site.others < 63
    → Gives site.program site.words most (helper_code order h) given caller result Leaves
    → ((left : Workspace) → Leaves left.fields left.heap
    → Ends site.program site.words later back (caller_workspace result caller left) Arrives)
    → ComesToEnd site at (at + size (front ++ Does (Call h) ∷ back)) 1 (n + (most + 2) + later)
    (whole_weight order (front ++ Does (Call h) ∷ back)) Arrives (stands site at w)

-- the method calls the one that ends the run, in a fault
abbrev pub CallFaultFollows : Type 1
CallFaultFollows =
    (site : Site) (order : Order) (at n most h g : ℕ) (front back : List Step)
    (w v caller : Workspace) (given : List Value) (ending : Fault)
    (Last : ℕ → ℕ → Turn JvmState → Type 0)
    → CallsHelper site order at n h front back w v given caller
    → IsHelper site.program order g
    → g ≢ site.method
    → length site.others < 62
    → (g ≡ 18) ⊎ (g ≡ 19)
    → CallsFault site.program site.words most (helper_code order) (helper_code order h) given caller
    g ending
    → ((used place : ℕ) → Last used place (ends («fault» ending)))
    → ComesToTurn site at (at + size (front ++ Does (Call h) ∷ back)) 1
    (n + (most + 1) + (most + 1) + 1) (whole_weight order (front ++ Does (Call h) ∷ back)) Last
    (stands site at w)

-- ---- all of it

pub record CodeLaws : Type 1 where
  pub end_follows : EndFollows
  pub end_follows_from : EndFollowsFrom
  pub fault_follows : FaultFollows
  pub question_follows : QuestionFollows
  pub call_follows : CallFollows
  pub call_fault_follows : CallFaultFollows

pub code-laws : PathLaws → CodeLaws
code-laws c = record {
  end_follows = λ site order at least most n code w v Arrives lies is some few arrives.
      code-ends-here c.paths site order at code lies least most n w v Arrives is some few arrives;
  end_follows_from = λ site order at k least most n code w v Arrives lies is some few arrives.
      code-ends c.paths site order at code lies k least most n w v Arrives is some few arrives;
  fault_follows = λ site order at least most n i code w v ending Last lies is some few last.
      code-stops c.paths site order at code lies least most n i w v ending Last is some few last;
  question_follows = λ site order at least most n i code w v u call readable writable Last lies is some few last.
      code-asks c.paths site order at code lies least most n i w v u call readable writable Last is some few last;
  call_follows = λ site order at n most later h front back w v caller given result Leaves Arrives it few method_gives goes_on.
      call-ends c.paths c.parts site order at n h front back w v caller given it.within it.lies it.helper
      it.apart it.front_is it.calls c.calls most later result Leaves Arrives few method_gives goes_on;
  call_fault_follows = λ site order at n most h g front back w v caller given ending Last it other apart few is_fault stops last.
      call-stops c.paths c.parts site order at n h front back w v caller given it.within it.lies it.helper
      it.apart it.front_is it.calls c.paths_elsewhere c.stopped_calls c.turns most g ending Last other apart few
      is_fault stops last;
}
