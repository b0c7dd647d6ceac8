-- Code that follows a turn of the guest, with the exit of its last unit behind it.
use Rattle.std.proofs.Common.{◌≡◌, ℕ, ◌+◌, ◌%◌, ◌≤◌, Bool, true, inl, List, map, Option, arith}
use Rattle.run_definition.specs.declared.order.Order.{Order}
use Rattle.run_definition.specs.Turn.{Turn, moves, ends, leaves, asks}
use Rattle.mips_definition.specs.State.{State}
use Rattle.delay_slots.specs.declared.unit.Unit.{Unit as Word}
use Rattle.jvm_definition.specs.declared.instruction.Instruction.{Instruction}
use Rattle.jvm_definition.specs.Effect.{Workspace}
use Rattle.emit_steps.specs.declared.step.Step.{Step}
use Rattle.emit_steps.specs.Widths.{size}
use Rattle.emit_steps.specs.Placing.{LiesAt}
use Rattle.word_emitter.specs.Exits.{follows, exit_code}
use Rattle.emit_spans.specs.declared.span_words.SpanWords.{SpanWords}
use Rattle.emit_spans.specs.Parts.{extent}
use Rattle.emit_spans.specs.Laying.{targets_of, return_offset, laid_step}
use Rattle.emit_simulation_laws.specs.Sites.{Site, stands, whole_weight}
use Rattle.emit_simulation_laws.specs.Following.{Follows}
use Rattle.emit_simulation_laws.specs.Laws.{PathLaws}
use Rattle.emit_instructions_laws.specs.Pieces.{HoldsAll}
use Rattle.emit_spans_laws.specs.Resuming.{IsEntryOf, GoesOut, Resumes, ComesTo, FollowsInSpan}
use Rattle.emit_spans_laws.proofs.SpanCodeLaws.Joining.{Reaches, follows-on}
use Rattle.emit_spans_laws.proofs.SpanCodeLaws.Leading.{LeadsTo, goes-out}
use Rattle.emit_spans_laws.proofs.SpanCodeLaws.Exits.{SaysEnd, exit-good, good-comes}

pub reaches-map : (P Q : State → Type 0) → ((t : State) → P t → Q t) → (turn : Turn State) → Reaches P turn → Reaches Q turn
reaches-map P Q map (moves t) all = map t all
reaches-map P Q map (ends e) all = tt
reaches-map P Q map (leaves q e) all = tt
reaches-map P Q map (asks q next) all = λ a. map (next a) (all a)

-- What the code before the exit comes to: it follows so many turns of the guest, the last of which leads where its last unit leads.
pub record FollowsFirst (site : Site) (middle : ℕ) (unit : Word) (a n most : ℕ) (total : (Instruction → ℕ) → ℕ) (entry : ℕ) (w : Workspace)
    (last : Turn State) : Type 1 where
  pub First : Workspace → State → Type 0
  pub follows : Follows site entry middle n most total First (stands site entry w) last
  pub held : (u : Workspace) (t : State) → First u t → HoldsAll u t
  pub says : (u : Workspace) (t : State) → LeadsTo unit a t.pc → First u t → SaysEnd unit a u t
  pub leads_to : Reaches (λ (t : State). LeadsTo unit a t.pc) last

module _ (laws : PathLaws) (site : Site) (order : Order) (units : List Word) (leads : ℕ → Bool) (span : SpanWords) (behind : Option ℕ) (unit : Word)
    (a : ℕ) (alike : a % 4 ≡ span.start % 4) (middle : ℕ) where
  abbrev exit : List Step
  exit = map (laid_step (extent span) (targets_of units leads span) (return_offset units leads span)) (exit_code (extent span) behind unit a)

  module _ (next_is : (b : ℕ) → follows behind b ≡ true → IsEntryOf units leads span (middle + size exit) b) where
    -- the exit goes on from each state to which the unit leads
    pub exit-comes : LiesAt site.program site.method middle exit → (t : State) → LeadsTo unit a t.pc → (u : Workspace) → HoldsAll u t
        → SaysEnd unit a u t
        → ComesTo site middle (middle + size exit) 0 4 (whole_weight order exit) (λ y. Resumes site units leads span unit y t) (stands site middle u)
    exit-comes lies t leads_there u held says =
        good-comes units leads span laws site order middle 4 exit unit t u lies
        (exit-good units leads span (middle + size exit) t (GoesOut span unit t.pc) site behind next_is
        (goes-out span t.pc unit a alike leads_there) u held unit a (λ jumps aligned. inl jumps) leads_there says)

    -- and so do the classes behind code that follows
    pub goes-on : (entry n most : ℕ) (total all : (Instruction → ℕ) → ℕ) (w : Workspace) (last : Turn State) (later : ℕ) → most + 4 ≤ later
        → ((weight : Instruction → ℕ) → total weight + whole_weight order exit weight ≤ all weight) → LiesAt site.program site.method middle exit
        → FollowsFirst site middle unit a n most total entry w last
        → FollowsInSpan site entry (middle + size exit) n later all (Resumes site units leads span unit) (stands site entry w) last
    goes-on entry n most total all w last later few weighs lies f =
        follows-on site middle (middle + size exit) most 4 later total (whole_weight order exit) all few weighs f.First
        (Resumes site units leads span unit) (omega arith) entry n last (stands site entry w)
        (reaches-map (λ (t : State). LeadsTo unit a t.pc)
        (λ t. (u : Workspace) → f.First u t → ComesTo site middle (middle + size exit) 0 4 (whole_weight order exit)
        (λ y. Resumes site units leads span unit y t) (stands site middle u))
        (λ t leads_there u is. exit-comes lies t leads_there u (f.held u t is) (f.says u t leads_there is)) last f.leads_to)
        f.follows
