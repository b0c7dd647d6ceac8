-- Where only the method of a site and helper methods run.
use Rattle.std.specs.Prelude.{◌≡◌, ℕ, ◌+◌, ◌<◌, ◌≤◌, ◌⊎◌, IsTrue, List, [], ◌∷◌, Some, ⊤}
use Rattle.run_definition.specs.Question.{Question}
use Rattle.run_definition.specs.Answer.{Answer, answer_fits}
use Rattle.run_definition.specs.Turn.{Turn, moves, ends, leaves, asks}
use Rattle.run_simulation_laws.specs.Trail.{advanced}
use Rattle.mips_definition.specs.State as guest
use Rattle.emit_steps.specs.Offsets.{CodeOffset}
use Rattle.jvm_definition.specs.declared.instruction.Instruction.{Instruction}
use Rattle.jvm_definition.specs.Step.{JvmState, Frame}
use Rattle.emit_program_laws.specs.SpanCodeLaws.Helpers.{helper_count}
use Rattle.emit_program_laws.specs.SpanCodeLaws.Sites.{Site, turn_in}
use Rattle.emit_program_laws.specs.SpanCodeLaws.Resuming.{FollowsInSpan, LastInSpan}

-- the first frame is one of the site's method, or of a helper method
abbrev pub RunsInside : Site → List Frame → Type 0
RunsInside site [] = ⊥
RunsInside site (f ∷ others) = (f.method ≡ site.method) ⊎ (f.method < helper_count)

-- so it is in each state to which so many turns that only move lead
abbrev pub StaysInside : Site → ℕ → JvmState → Type 0
StaysInside site n x = (i : ℕ) (z : JvmState) → i ≤ n → advanced (turn_in site) i x ≡ Some z
    → RunsInside site z.frames

-- behind a question too, by each answer
abbrev pub StaysAnswered : (site : Site) (high : CodeOffset) (most : ℕ)
    (total : (Instruction → ℕ) → ℕ) (Arrives : JvmState → guest.State → Type 0) (q : Question)
    (next : Answer → guest.State) (used : ℕ) (place : CodeOffset) (own : Turn JvmState)
    → LastInSpan site high most total Arrives (asks q next) used place own → Type 0
StaysAnswered site high most total Arrives q next used place (asks r then) like =
    (a : Answer) (fit : IsTrue (answer_fits a q)) → StaysInside site (like.1.comes a fit).turns (then a)
StaysAnswered site high most total Arrives q next used place (moves t) like = ⊤
StaysAnswered site high most total Arrives q next used place (ends e) like = ⊤
StaysAnswered site high most total Arrives q next used place (leaves r e) like = ⊤

-- While the classes follow turns of the guest, it is so.
abbrev pub Stays : (site : Site) (low high : CodeOffset) (least most : ℕ)
    (total : (Instruction → ℕ) → ℕ) (Arrives : JvmState → guest.State → Type 0) (x : JvmState)
    (last : Turn guest.State) → FollowsInSpan site low high least most total Arrives x last → Type 0
Stays site low high least most total Arrives x (moves t) f = StaysInside site f.turns x
Stays site low high least most total Arrives x (ends e) f = StaysInside site f.turns x
Stays site low high least most total Arrives x (leaves q e) f = StaysInside site f.turns x
Stays site low high least most total Arrives x (asks q next) f =
    StaysInside site f.turns x
    × StaysAnswered site high most total Arrives q next (f.turns + 1) f.place
    (turn_in site f.before) f.last
