-- Quiet turns, one after the other.
use Rattle.std.proofs.Common.{◌≡◌, ◌≢◌, ℕ, ◌+◌, ◌≤◌, Bool, List, refl, subst, arith}
use Rattle.jvm_definition.specs.Program.{Program}
use Rattle.jvm_definition.specs.Effect.{Workspace}
use Rattle.jvm_definition.specs.Step.{JvmState, Frame, frame_placed}
use Rattle.emit_steps.specs.declared.step.Step.{Step}
use Rattle.emit_steps.specs.Widths.{size}
use Rattle.emit_steps.specs.Outcomes.{ended, outcome}
use Rattle.emit_steps.specs.Placing.{LiesAt}
use Rattle.emit_paths_laws.specs.Paths.{weigh, Path, PathElsewhere}
use Rattle.emit_paths_laws.specs.Laws.{CodeIsPathElsewhere}
use Rattle.emit_loading_laws.proofs.FillingLaws.Calling.{reaches-join, reaches-wider, reaches-itself}
use Rattle.emit_loading_laws.specs.Quiet.{IsQuiet, Quietly}

pub quiet-join : (program : Program) (words m : ℕ) (is_span : ℕ → Bool) (most more : ℕ) (x y z : JvmState) → Quietly program words m is_span most x y → Quietly program words m is_span more y z → Quietly program words m is_span (most + more) x z
quiet-join program words m is_span most more x y z first next =
    let a = first.quiet in
    let b = next.quiet in
    record {
      total = λ weight. first.total weight + next.total weight;
      reaches = reaches-join program words m most more first.total next.total x y z first.reaches next.reaches;
      quiet = record {
        no_reads = let c = a.no_reads in let d = b.no_reads in omega (arith, c, d);
        no_switches = let c = a.no_switches in let d = b.no_switches in omega (arith, c, d);
        no_entries = let c = a.no_entries in let d = b.no_entries in omega (arith, c, d);
      };
    }

pub quiet-wider : (program : Program) (words m : ℕ) (is_span : ℕ → Bool) (most more : ℕ) (x y : JvmState) → most ≤ more → Quietly program words m is_span most x y → Quietly program words m is_span more x y
quiet-wider program words m is_span most more x y time first = record {
  total = first.total;
  reaches = reaches-wider program words m most more first.total first.total x y time (λ weight still. omega arith) first.reaches;
  quiet = first.quiet;
}

pub quiet-itself : (program : Program) (words m : ℕ) (is_span : ℕ → Bool) (x : JvmState) → Quietly program words m is_span 0 x x
quiet-itself program words m is_span x = record {
  total = λ weight. 0;
  reaches = reaches-itself program words m x;
  quiet = record { no_reads = refl; no_switches = refl; no_entries = refl };
}

-- code that comes to its end
pub quiet-code : (paths : CodeIsPathElsewhere) (program : Program) (words own m : ℕ) (is_span : ℕ → Bool) (at n : ℕ) (code : List Step) (w v : Workspace) (others : List Frame) → own ≢ m → LiesAt program own at code → outcome program words code w ≡ ended n v → IsQuiet is_span (λ weight. weigh weight code) → Quietly program words m is_span n (frame_placed own at w others) (frame_placed own (at + size code) v others)
quiet-code paths program words own m is_span at n code w v others differ lies is quiet =
    let start : at + 0 ≡ at = omega arith in
    record {
      total = λ weight. weigh weight code;
      reaches = record {
        turns = n;
        in_time = omega arith;
        path = λ low. subst (λ a. Path program words m low low n (λ weight. weigh weight code) (frame_placed own a w others) (frame_placed own (at + size code) v others)) start (subst (λ o. PathElsewhere program words own m low at 0 code others (frame_placed own (at + 0) w others) o) is (paths program words own m low at 0 code w others differ lies));
      };
      quiet = quiet;
    }
