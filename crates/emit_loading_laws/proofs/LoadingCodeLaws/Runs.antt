-- Loading as the laws of runs want it, over any pair of machines whose classes are this program.
use Rattle.std.proofs.Common.{◌≡◌, ℕ, ◌+◌, ◌≤◌, Bool, false, if◌then◌else◌, IsTrue, [], ap, ◌∙◌, arith}
use Rattle.std.specs.List.{sum_by}
use Rattle.run_definition.specs.Answer.{Answer, answer_fits}
use Rattle.run_definition.specs.Turn.{asks}
use Rattle.run_simulation_laws.specs.Trail.{advanced, moved}
use Rattle.run_simulation_laws.specs.Turns.{Pair, ComesToRest}
use Rattle.run_simulation_laws.specs.Turns as runs
use Rattle.mips_definition.specs.State as guest
use Rattle.mips_definition.specs.Step as guest_step
use Rattle.mips_definition.specs.Step.{loader_question, after_loader}
use Rattle.jvm_definition.specs.declared.instruction.Instruction.{Instruction}
use Rattle.jvm_definition.specs.Program.{Program}
use Rattle.jvm_definition.specs.Step.{JvmState, jvm_start, jvm_turn}
use Rattle.emit_paths_laws.specs.Classes.{executed}
use Rattle.emit_paths_laws.specs.Paths.{LooksAtNoTarget}
use Rattle.emit_loading_laws.specs.Made.{Begins, CountNothing, Loads, begun_at}

module _ {I : Type 0} (program : Program) (words own m choose : ℕ) (is_span : ℕ → Bool) (most limit : ℕ) (s : guest.State) (p : Pair guest.State JvmState I) (Rests : guest.State → JvmState → Type 0) (allowed : I → ℕ) (weight : I → Instruction → ℕ) (guest_is : p.guest ≡ guest_step.turn) (classes_is : p.classes ≡ jvm_turn program words) (looks : (i : I) → LooksAtNoTarget (weight i)) (tally_is : (i : I) → (p.tally i).classes ≡ executed program (weight i)) (nothing : (i : I) (total : (Instruction → ℕ) → ℕ) → CountNothing choose total → total (weight i) ≡ 0) (begun : s.begun ≡ false) (l : Loads program words own m choose is_span most s) (time : most + 9 ≤ limit) (rests : (x : JvmState) (t : guest.State) (b : Begins program words own m choose 8 x t) → Rests t (begun_at program words own m choose 8 x t b)) (credit : (i : I) (x : JvmState) (t : guest.State) (b : Begins program words own m choose 8 x t) → (p.tally i).credit (begun_at program words own m choose 8 x t b) ≤ allowed i) where
  abbrev turns : ℕ
  turns = l.reaches.reaches.turns

  pub comes-to-rest : (a : Answer) → IsTrue (answer_fits a (loader_question s)) → ComesToRest p Rests (turns + 1) limit allowed [] [] (after_loader s a) (l.next a)
  comes-to-rest a fit =
      let b = l.begins a fit in
      let more = b.reaches.turns in
      let in_time = b.reaches.in_time in
      let before = l.reaches.reaches.in_time in
      record {
        more = more;
        rest = begun_at program words own m choose 8 (l.next a) (after_loader s a) b;
        comes = ap (λ f. advanced f more (l.next a)) classes_is ∙ (b.reaches.path 0).comes;
        rests = rests (l.next a) (after_loader s a) b;
        in_time = omega (arith, in_time, before, time);
        counted = λ i.
            let same = ap (λ f. sum_by f (moved p.classes more (l.next a))) (tally_is i) ∙ ap (λ f. sum_by (executed program (weight i)) (moved f more (l.next a))) classes_is in
            let counts = (b.reaches.path 0).counts (weight i) (looks i) in
            let none = nothing i b.total b.counts in
            let room = credit i (l.next a) (after_loader s a) b in
            omega (arith, same, counts, none, room);
      }

  unfoldable pub loads-in-runs : runs.Loads p Rests limit allowed s (jvm_start program)
  loads-in-runs =
      let before = l.reaches.reaches.in_time in
      record {
        question = loader_question s;
        guest_next = after_loader s;
        class_turns = turns;
        class_at = l.asking;
        class_next = l.next;
        guest_asks = ap (λ f. f s) guest_is ∙ ap (λ b. if b then guest_step.instruction_turn s else asks (loader_question s) (after_loader s)) begun;
        class_comes = ap (λ f. advanced f turns (jvm_start program)) classes_is ∙ (l.reaches.reaches.path 0).comes;
        class_asks = ap (λ f. f l.asking) classes_is ∙ l.asks_it;
        in_time = omega (arith, before, time);
        answered = comes-to-rest;
      }
