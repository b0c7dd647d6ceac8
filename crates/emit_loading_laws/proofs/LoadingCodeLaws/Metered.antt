-- The code that puts turns on the meter, and takes off the first one.
use Rattle.std.proofs.Common.{◌≡◌, ◌≢◌, ℕ, ◌+◌, ◌-◌, ◌^◌, ◌<◌, ◌≤◌, Bool, List, ◌∷◌, drop, take, Some, refl, ap, subst, arith, lit≤}
use Rattle.run_definition.specs.Turn.{ends, «fault»}
use Rattle.jvm_definition.specs.declared.value.Value.TheVariants.{Int as int}
use Rattle.jvm_definition.specs.Program.{Program}
use Rattle.jvm_definition.specs.Effect.{Workspace, faults, with_operands}
use Rattle.jvm_definition.specs.Step.{JvmState, Frame, frame_placed, jvm_turn}
use Rattle.emit_steps.specs.declared.step.Step.{Step}
use Rattle.emit_steps.specs.Outcomes.{Outcome, stopped, later, outcome}
use Rattle.emit_steps.specs.Placing.{LiesAt}
use Rattle.emit_steps.specs.Widths.{bytes_before, size}
use Rattle.meter.specs.Guards.{spent_kind}
use Rattle.emit_loading.specs.Starting.{meter_code}
use Rattle.emit_paths_laws.specs.Paths.{weigh, Path, PathElsewhere}
use Rattle.emit_paths_laws.specs.Laws.{CodeIsPathElsewhere}
use Rattle.meter_laws.specs.Laws.{CountedCodeIsPaid, CountedCodeEnds}
use Rattle.meter_laws.specs.Meters.{HasLeft, leaving, spent_fault}
use Rattle.emit_loading_laws.specs.Quiet.{Quietly}
use Rattle.emit_loading_laws.proofs.LoadingCodeLaws.Quietly.{quiet-code}

-- the turns were put on it
abbrev pub filled : ℕ → Workspace → Workspace
filled turns w = leaving turns w

-- and the first one was taken off
abbrev pub lowered : ℕ → Workspace → Workspace
lowered turns w = leaving (turns - 1) (filled turns w)

has-filled : (turns : ℕ) (w : Workspace) → turns < 2 ^ 31 → HasLeft turns (filled turns w)
has-filled turns w small = (refl, small)

-- The run ends in the fault of a spent meter, after so many turns.
pub record Ended (program : Program) (words m : ℕ) (is_span : ℕ → Bool) (most at : ℕ) (x : JvmState) : Type 0 where
  pub last : JvmState
  pub reaches : Quietly program words m is_span most x last
  pub ends_so : jvm_turn program words last ≡ ends («fault» (spent_fault at))

module _ (paths : CodeIsPathElsewhere) (program : Program) (words own m : ℕ) (is_span : ℕ → Bool) (at : ℕ) where
  module _ (turns entry : ℕ) (w : Workspace) (others : List Frame) (differ : own ≢ m) (lies : LiesAt program own at (meter_code (Some turns) entry)) (small : turns < 2 ^ 31) where
    abbrev code : List Step
    code = meter_code (Some turns) entry

    pub meter-passes : CountedCodeIsPaid → 1 ≤ turns → Quietly program words m is_span 9 (frame_placed own at w others) (frame_placed own (at + size code) (lowered turns w) others)
    meter-passes paid some =
        quiet-code paths program words own m is_span at 9 code w (lowered turns w) others differ lies
        (ap (λ o. later (later o)) (paid program words 1 turns entry (filled turns w) (lit≤ tt) (has-filled turns w small) some))
        (record { no_reads = refl; no_switches = refl; no_entries = refl })

  module _ (entry : ℕ) (w : Workspace) (others : List Frame) (differ : own ≢ m) (lies : LiesAt program own at (meter_code (Some 0) entry)) where
    abbrev none : List Step
    none = meter_code (Some 0) entry

    abbrev before : Workspace
    before = with_operands (filled 0 w) (int 0 ∷ int entry ∷ int spent_kind ∷ w.operands)

    abbrev fault_place : ℕ
    fault_place = at + bytes_before none 8

    pub meter-ends : CountedCodeEnds → Ended program words m is_span 8 entry (frame_placed own at w others)
    meter-ends ends-so =
        let is : outcome program words none w ≡ stopped 8 8 before (faults (spent_fault entry)) =
        ap (λ o. later (later o)) (ends-so program words 1 0 entry (filled 0 w) (lit≤ tt) (has-filled 0 w (omega arith)) (omega arith)) in
        let way = λ (low : ℕ). subst (λ (o : Outcome). PathElsewhere program words own m low at 0 none others (frame_placed own (at + 0) w others) o) is (paths program words own m low at 0 none w others differ lies) in
        let start : at + 0 ≡ at = omega arith in
        record {
          last = frame_placed own fault_place before others;
          reaches = record {
            total = λ weight. weigh weight (drop 0 (take 8 none));
            reaches = record {
              turns = 8;
              in_time = omega arith;
              path = λ low. subst (λ a. Path program words m low low 8 (λ weight. weigh weight (drop 0 (take 8 none))) (frame_placed own a w others) (frame_placed own fault_place before others)) start (way low).0;
            };
            quiet = record { no_reads = refl; no_switches = refl; no_entries = refl };
          };
          ends_so = (way 0).1.turns;
        }
