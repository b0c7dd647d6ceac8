-- A call that failed.
use Rattle.std.proofs.Common.{◌≡◌, ◌+◌, ◌<◌, ◌==◌, inl, inr, ℕ, zero, suc, true, if◌then◌else◌, List, [], ◌∷◌, ◌++◌, length, drop, Option, Some, None, Err, refl, ap, sym, ◌∙◌, subst, arith, append-nil, append_assoc}
use Rattle.std.proofs.Math.Seq.{drop-append_seam}
use Rattle.std.proofs.lemmas.Option.{same_Some}
use Rattle.nv_outside.specs.Faults.{Rises}
use Rattle.nv_outside.specs.Seen.{Seen}
use Rattle.run_definition.specs.Answer.{Answer}
use Rattle.run_definition.specs.Question.{Question}
use Rattle.run_definition.specs.Turn.{asks}
use Rattle.run_definition.specs.declared.io_fault.IoFault.{IoFault}
use Rattle.run_definition.specs.declared.io_fault.IoFault.TheVariants.{ReadFault, WriteFault}
use Rattle.run_definition.specs.declared.outcome.Outcome.TheVariants.{Going}
use Rattle.unix_definition.specs.System.{Console, System, with_console}
use Rattle.unix_definition.specs.Unix.{reply, unix}
use Rattle.unix_calls.specs.Held.{system_of}
use Rattle.unix_calls.specs.Drawing.{AreBytes, known}
use Rattle.unix_calls.specs.Serving.{Fell, OneFails, parts, written_by}
use Rattle.unix_calls.specs.Stages.{IsRear}
use Rattle.unix_calls.proofs.BreakLemmas.{reply-written}
use Rattle.jvm_definition.specs.Step.{Loaded, loaded_turn}
use Rattle.unix_pipe_laws.specs.Stages.{PipeStage, after_turn, answered_by, comes_to, input_left, output_of}
use Rattle.unix_pipe_laws.specs.Pipelines.{Pipeline, PipeNet, can_turn, next_turn, is_ready}
use Rattle.unix_pipe_laws.specs.Turns.{PipeTurn, AllHappen, gained, run_turns, turned_stage}
use Rattle.unix_pipe_laws.proofs.Turning.{own-stage}
use Rattle.pipe_net.specs.declared.inlet.Inlet.{Inlet}
use Rattle.pipe_net.specs.declared.inlet.Inlet.TheVariants as inlet
use Rattle.pipe_net.specs.declared.net_fault.NetFault.{NetFault}
use Rattle.pipe_net.specs.declared.net_fault.NetFault.TheVariants.{Io, NoMemory}
use Rattle.pipe_net.specs.declared.outlet.Outlet.{Outlet}
use Rattle.pipe_net.specs.declared.outlet.Outlet.TheVariants as outlet
use Rattle.pipe_net.specs.Ports.{FallsThrough, Kept, OtherInput, OtherOutput, Ports, input_at, kept_seen, output_at, ready_for}
use Rattle.pipe_net.specs.Executing.{Scene}
use Rattle.pipe_net.specs.Settling.{net_fault_of}
use Rattle.pipe_net.specs.Turning.{AreOf, CountsFaults, IsPartOf, SameFaults}
use Rattle.pipe_net.proofs.Turns.{happen-more, of-more, run-one}
use Rattle.pipe_net.proofs.Standing.{InletIs, can-turn, ready-alike}
use Rattle.pipe_net.proofs.Stepping.{Loses, Since, comes-so, loses-nothing, piece_at, quiet-at, turn_at}
use Rattle.pipe_net.proofs.Walking.{Walked, still-going}

-- ---- the failed call, over the input and the output of the stage

pub record FallsAt (l : Inlet) (o : Outlet) (m y : Ports) (q : Question) (fault : IoFault) : Type 0 where
  pub fell : Fell fault (λ s. unix s q) q.number q.room (parts m.unix (input_at l m) (output_at o m.sink m.behind) (kept_seen m.errors)) (parts y.unix (input_at l y) (output_at o y.sink y.behind) (kept_seen y.errors))
  pub input : OtherInput l m y
  pub output : OtherOutput o m.sink m.behind y.sink y.behind

pub falls-at : (x m y : Ports) (q : Question) (fault : IoFault) (w : List ℕ) → Since x m w → FallsThrough m q y fault → FallsAt x.inlet x.outlet m y q fault
falls-at x m y q fault w s f =
    let inlet_is = s.others.inlet in
    let outlet_is = s.others.outlet in
    record {
      fell = subst (λ (k : Inlet × Inlet × Outlet × Outlet). Fell fault (λ z. unix z q) q.number q.room (parts m.unix (input_at k.0 m) (output_at k.2 m.sink m.behind) (kept_seen m.errors)) (parts y.unix (input_at k.1 y) (output_at k.3 y.sink y.behind) (kept_seen y.errors)))
          (λ j. (inlet_is j, (f.others.inlet ∙ inlet_is) j, outlet_is j, (f.others.outlet ∙ outlet_is) j)) f.fell;
      input = subst (λ (l : Inlet). OtherInput l m y) inlet_is f.others.input;
      output = subst (λ (o : Outlet). OtherOutput o m.sink m.behind y.sink y.behind) outlet_is f.others.output;
    }

-- ---- the counts of the outside

source-same : (l : Inlet) (m y : Ports) → (input_at l y).faults ≡ (input_at l m).faults → OtherInput l m y → y.source.faults ≡ m.source.faults
source-same inlet.Source m y same other = same
source-same (inlet.Pipe fed) m y same other = ap (λ (z : Seen (List ℕ)). z.faults) other

sink-same : (o : Outlet) (m y : Ports) → (output_at o y.sink y.behind).faults ≡ (output_at o m.sink m.behind).faults → OtherOutput o m.sink m.behind y.sink y.behind → y.sink.faults ≡ m.sink.faults
sink-same outlet.Sink m y same other = same
sink-same outlet.Pipe m y same other = ap (λ (z : Seen (List ℕ)). z.faults) other
sink-same outlet.Nowhere m y same other = ap (λ (z : Seen (List ℕ)). z.faults) other.0

pub since-counts : (x y : Ports) (w : List ℕ) → Since x y w → SameFaults x.source y.source x.sink y.sink
since-counts x y w s = (source-same x.inlet x y s.read s.others.input, sink-same x.outlet x y s.took.1 s.others.output)

-- only the source's reads fail
source-rises : (l : Inlet) (m y : Ports) → Rises (input_at l m).faults (input_at l y).faults → Rises m.source.faults y.source.faults
source-rises inlet.Source m y rises = rises
source-rises (inlet.Pipe fed) m y rises = let no = rises.rose in absurd (omega arith)

no-memory : (n : ℕ) → n ≡ 1 → (if n == 0 then Io WriteFault else NoMemory) ≡ NoMemory
no-memory n is = ap (λ k. if k == 0 then Io WriteFault else NoMemory) is

write-counts : (l : Inlet) (o : Outlet) (m y : Ports) (q : Question) → m.errors.faults ≡ 0 → FallsAt l o m y q WriteFault
    → (input_at l y).faults ≡ (input_at l m).faults → OneFails (written_by (λ s. unix s q) m.unix (known (input_at l m).told)) (parts m.unix (input_at l m) (output_at o m.sink m.behind) (kept_seen m.errors)) (parts y.unix (input_at l y) (output_at o y.sink y.behind) (kept_seen y.errors))
    → CountsFaults m.source y.source m.sink y.sink (Err (net_fault_of WriteFault o y.errors.faults))
write-counts l outlet.Sink m y q none f same (inl (failed, kept)) =
    let zero_faults : y.errors.faults ≡ 0 = ap (λ (z : Seen (List ℕ)). z.faults) kept ∙ none in
    subst (λ n. CountsFaults m.source y.source m.sink y.sink (Err (net_fault_of WriteFault outlet.Sink n))) (sym zero_faults)
    (source-same l m y same f.input, failed.1)
write-counts l outlet.Sink m y q none f same (inr (kept, failed)) =
    let one : y.errors.faults ≡ 1 = (let r = failed.1.rose in omega arith) in
    subst (λ (n : NetFault). CountsFaults m.source y.source m.sink y.sink (Err n)) (sym (no-memory y.errors.faults one))
    (source-same l m y same f.input, ap (λ (z : Seen (List ℕ)). z.faults) kept)
write-counts l outlet.Pipe m y q none f same sinks = (source-same l m y same f.input, ap (λ (z : Seen (List ℕ)). z.faults) f.output)
write-counts l outlet.Nowhere m y q none f same sinks = (source-same l m y same f.input, ap (λ (z : Seen (List ℕ)). z.faults) f.output.0)

pub fell-counts : (l : Inlet) (o : Outlet) (m y : Ports) (q : Question) (fault : IoFault) → m.errors.faults ≡ 0 → FallsAt l o m y q fault
    → CountsFaults m.source y.source m.sink y.sink (Err (net_fault_of fault o y.errors.faults))
fell-counts l o m y q ReadFault none f = (source-rises l m y f.fell.rises, sink-same o m y (ap (λ (z : Seen (List ℕ)). z.faults) f.fell.out) f.output)
fell-counts l o m y q WriteFault none f = write-counts l o m y q none f (ap (λ (z : Seen (List ℕ)). z.faults) f.fell.input) f.fell.sinks

-- nothing failed before it
pub behind-same : (r : NetFault) (a b c d e f : Seen (List ℕ)) → SameFaults a b d e → CountsFaults b c e f (Err r) → CountsFaults a c d f (Err r)
behind-same (Io ReadFault) a b c d e f same counts = (subst (λ k. Rises k c.faults) same.0 counts.0, counts.1 ∙ same.1)
behind-same (Io WriteFault) a b c d e f same counts = (counts.0 ∙ same.0, subst (λ k. Rises k f.faults) same.1 counts.1)
behind-same NoMemory a b c d e f same counts = (counts.0 ∙ same.0, counts.1 ∙ same.1)

-- what the failed call took of the input
pub fell-loses : (l : Inlet) (o : Outlet) (m y : Ports) (q : Question) (fault : IoFault) → FallsAt l o m y q fault → Loses l m y
fell-loses l o m y q ReadFault f = (f.fell.got, f.fell.consumed)
fell-loses l o m y q WriteFault f = loses-nothing l m y f.fell.input

-- ---- what the failed call was to do

comes-nothing : (i : ℕ) (s : System) → comes_to i [] s ≡ s
comes-nothing zero s = ap (λ r. with_console s (record s.console { rest = r })) (append-nil s.console.rest)
comes-nothing (suc i) s = refl

kept-bytes : (j k : Kept) → kept_seen j ≡ kept_seen k → j.bytes ≡ k.bytes
kept-bytes j k is = same_Some j.bytes k.bytes (ap (λ (z : Seen (List ℕ)). z.told) is)

part-itself : (xs : List ℕ) → IsPartOf xs xs
part-itself xs = record { rest = []; is = sym (append-nil xs) }

-- error output has what was written to it before the failed call
pub errors-part : (l : Inlet) (o : Outlet) (m y : Ports) (q : Question) (fault : IoFault) → FallsAt l o m y q fault → IsPartOf m.errors.bytes y.errors.bytes
errors-part l o m y q fault f = by fault f
  where
    same : kept_seen y.errors ≡ kept_seen m.errors → IsPartOf m.errors.bytes y.errors.bytes
    same is = subst (λ k. IsPartOf m.errors.bytes k) (sym (kept-bytes y.errors m.errors is)) (part-itself m.errors.bytes)

    by-sinks : OneFails (written_by (λ s. unix s q) m.unix (known (input_at l m).told)) (parts m.unix (input_at l m) (output_at o m.sink m.behind) (kept_seen m.errors)) (parts y.unix (input_at l y) (output_at o y.sink y.behind) (kept_seen y.errors))
        → IsPartOf m.errors.bytes y.errors.bytes
    by-sinks (inl h) = same h.1
    by-sinks (inr h) = record { rest = h.1.0.front; is = h.1.0.gained }

    by : (fault : IoFault) → FallsAt l o m y q fault → IsPartOf m.errors.bytes y.errors.bytes
    by ReadFault f = same f.fell.err
    by WriteFault f = by-sinks f.fell.sinks

module _ (p : Pipeline Loaded) (i : ℕ) (turn_is : p.turn ≡ loaded_turn) (start : PipeNet Loaded) (within : i < p.count) (x mid y : Scene) (n : ℕ) (a : Walked p i start x mid Going n) (few : (start.stage i).made + n < p.bound) (q : Question) (next : Answer → Loaded) (asked : loaded_turn mid.state ≡ asks q next) (ready : ready_for mid.ports q ≡ true) where
  abbrev net : PipeNet Loaded
  net = run_turns p start a.turns

  abbrev before : PipeStage Loaded
  before = net.stage i

  pub next-turn-is : next_turn p net i ≡ asks q next
  next-turn-is = (λ j. turn_is j (a.stands.own.machine j)) ∙ asked

  can : can_turn p net i ≡ true
  can =
      can-turn p i net within (still-going p i before a.stands.own.ended (let m = a.made in omega arith))
      (ap (is_ready p net i) next-turn-is ∙ (ready-alike p i net mid Going q next a.stands ∙ ready))

  pub gained-made : gained (start.stage i) before ≡ a.w
  gained-made = ap (drop (length (output_of (start.stage i)))) a.changed.output ∙ drop-append_seam (output_of (start.stage i)) a.w

  -- the failed turn, before which this piece of input comes
  module _ (piece : List ℕ) where
    abbrev t : PipeTurn
    t = turn_at p i piece 0

    abbrev own : PipeStage Loaded
    own = turned_stage p net t

    abbrev all : List PipeTurn
    all = a.turns ++ t ∷ []

    stage-is : (run_turns p start all).stage i ≡ own
    stage-is = ap (λ (k : PipeNet Loaded). k.stage i) (run-one p start a.turns t can) ∙ own-stage p net t

    pub all-of : AreOf i all
    all-of = of-more i a.turns t a.of_stage refl

    pub all-happen : AllHappen p start all
    all-happen = happen-more p start a.turns t a.happen can

  -- what the stage's input has
  abbrev from : Inlet
  from = x.ports.inlet

  from-is : InletIs p i net from
  from-is = subst (InletIs p i net) a.since.others.inlet a.stands.from

  pub system-is : before.system ≡ system_of mid.ports.unix (known (input_at from mid.ports).told) (output_of before) mid.ports.errors.bytes
  system-is = a.stands.own.system ∙ (λ j. system_of mid.ports.unix (known (input_at (a.since.others.inlet j) mid.ports).told) (output_of before) mid.ports.errors.bytes)

  -- ---- a call that writes

  abbrev whole : System
  whole = system_of mid.ports.unix (known (input_at from mid.ports).told) (output_of before) mid.ports.errors.bytes

  abbrev pub to_write : Console
  to_write = written_by (λ s. unix s q) mid.ports.unix (known (input_at from mid.ports).told)

  writes-all : (to_write.output ≡ [] → to_write.error_output ≡ [] → ⊥) → output_of (own []) ≡ output_of before ++ to_write.output
  writes-all some =
      ap output_of (ap (after_turn (comes_to i []) before) next-turn-is)
      ∙ ap (λ (o : Option (Answer × System)). output_of (answered_by before next o)) (ap (λ k. reply k q) (comes-nothing i before.system ∙ system-is) ∙ reply-written whole q some)

  pub gained-all : (to_write.output ≡ [] → to_write.error_output ≡ [] → ⊥) → gained (start.stage i) ((run_turns p start (all [])).stage i) ≡ a.w ++ to_write.output
  gained-all some =
      ap (λ (s : PipeStage Loaded). drop (length (output_of (start.stage i))) (output_of s)) (stage-is [])
      ∙ (ap (drop (length (output_of (start.stage i)))) (writes-all some ∙ (ap (λ l. l ++ to_write.output) a.changed.output ∙ append_assoc (output_of (start.stage i)) a.w to_write.output))
      ∙ drop-append_seam (output_of (start.stage i)) (a.w ++ to_write.output))

  -- ---- one that reads

  module _ (o : Outlet) (f : FallsAt from o mid.ports y.ports q ReadFault) where
    abbrev left : List ℕ
    left = known (input_at from y.ports).told

    abbrev read : System
    read = system_of mid.ports.unix (f.fell.got ++ left) (output_of before) mid.ports.errors.bytes

    -- what the source lost in it, and has, where it does not tell that before
    abbrev pub lost_piece : List ℕ
    lost_piece = piece_at from mid.ports.source.told (f.fell.got ++ left)

    comes-read : comes_to i lost_piece before.system ≡ read
    comes-read = ap (comes_to i lost_piece) system-is ∙ comes-so p i from net mid.ports y.ports (output_of before) mid.ports.errors.bytes f.fell.got from-is f.fell.consumed

    pub rear-left : AreBytes left → IsRear (input_left ((run_turns p start (all lost_piece)).stage i)) left
    rear-left small =
        let reads = f.fell.reads left (output_of before) mid.ports.errors.bytes small in
        let given = unix read q in
        let is : (run_turns p start (all lost_piece)).stage i ≡ answered_by before next (Some given) =
        stage-is lost_piece
        ∙ (ap (after_turn (comes_to i lost_piece) before) next-turn-is
        ∙ (ap (λ k. answered_by before next (reply k q)) comes-read ∙ ap (λ c. answered_by before next (if c then Some given else None)) reads.fits)) in
        subst (λ (s : PipeStage Loaded). IsRear (input_left s) left) (sym is) reads.leaves

    pub lost-quiet : (rest : List ℕ) → x.ports.source.told ≡ Some rest → lost_piece ≡ []
    lost-quiet rest is = let m = a.since.told rest is in quiet-at from mid.ports.source.told (f.fell.got ++ left) m.0 m.1
