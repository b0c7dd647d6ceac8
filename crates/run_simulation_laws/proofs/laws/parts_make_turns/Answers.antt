use Rattle.run_simulation_laws.proofs.Passing.{passes_join, passes_before, passes_to_rest}
use Rattle.run_simulation_laws.proofs.laws.parts_make_turns.Goals as goal

pub returns : goal.returns
returns g c p = record {
  joined = λ k n more later x h i j l m first inside next.
      passes_join p k n x j h l first inside more later i m next;
  before = λ k n x h j l limit wider first inside follows wide.
      passes_before p k n x j h l first g.T.Translation.rests limit wider follows inside wide;
  at_rest = λ k n x h j l limit part rests in_time.
      passes_to_rest p g.T.Translation.rests limit k n x j h l part rests in_time;
}
