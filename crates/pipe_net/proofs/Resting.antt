-- A turn of a stage that is over: nothing is done.
use Rattle.std.proofs.Common.{◌≡◌, ◌<◌, ℕ, true, List, [], length, drop, refl, ap, sym, ◌∙◌, subst, append-nil}
use Rattle.std.specs.Io.KnownBytes.{Appends}
use Rattle.std.proofs.Math.Seq.{drop-append_seam}
use Rattle.nv_outside.specs.Seen.{Seen}
use Rattle.nv_outside.proofs.WriteLemmas.{Appends-nothing}
use Rattle.unix_calls.specs.Drawing.{known}
use Rattle.unix_calls.proofs.DrawLemmas.{consumes-nothing}
use Rattle.jvm_definition.specs.Step.{Loaded}
use Rattle.unix_pipe_laws.specs.Stages.{PipeStage, output_of}
use Rattle.unix_pipe_laws.specs.Pipelines.{Pipeline, PipeNet}
use Rattle.unix_pipe_laws.specs.Turns.{gained}
use Rattle.pipe_net.specs.declared.net.Net.{Net}
use Rattle.pipe_net.specs.declared.turn.Turn.TheVariants.{Over}
use Rattle.pipe_net.specs.Moving.{over_in}
use Rattle.pipe_net.specs.Showing.{IsSound, Shows}
use Rattle.pipe_net.specs.Turning.{MakesTurns}
use Rattle.pipe_net.proofs.Shown.{over-shown}

gains-nothing : (x : PipeStage Loaded) → gained x x ≡ []
gains-nothing x = ap (drop (length (output_of x))) (sym (append-nil (output_of x))) ∙ drop-append_seam (output_of x) []

pub rests : (net : Net) (i m : ℕ) (source sink : Seen (List ℕ)) → IsSound net → i < length net.stages.items → over_in net.bound net.stages.items i ≡ true
    → (p : Pipeline Loaded) (model : PipeNet Loaded) → Shows net (known source.told) p model → MakesTurns p model i m Over net source source sink sink
rests net i m source sink sound within over p model shows = record {
  turns = [];
  of_stage = tt;
  happen = tt;
  comes = (refl, over-shown net (known source.told) p model shows sound i within ∙ over);
  shows = shows;
  draws = record { got = []; first = consumes-nothing source.told; others = λ later. refl };
  takes = record {
    last = λ at. subst (Appends sink.told sink.told) (sym (gains-nothing (model.stage i))) (Appends-nothing sink.told);
    others = λ other. refl;
  };
  told = λ rest is. tt;
}
