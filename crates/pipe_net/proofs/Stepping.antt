-- An instruction is a turn of the model.
use Rattle.std.proofs.Common.{◌≡◌, ◌≢◌, ◌+◌, ℕ, zero, suc, true, IsTrue, if◌then◌else◌, List, [], ◌++◌, length, Option, Some, None, Ok, refl, ap, sym, ◌∙◌, subst, append-nil, append_assoc}
use Rattle.std.specs.Io.KnownBytes.{Consumes}
use Rattle.nv_outside.specs.Seen.{Seen, Takes}
use Rattle.nv_outside.proofs.SeenLemmas.{takes-both, takes-nothing}
use Rattle.run_definition.specs.Answer.{Answer, answer_fits}
use Rattle.run_definition.specs.Question.{Question}
use Rattle.nv_events.specs.Serving.{Turns}
use Rattle.run_definition.specs.Turn.{Turn, moves, ends, leaves, asks}
use Rattle.run_definition.specs.declared.outcome.Outcome.{Outcome}
use Rattle.run_definition.specs.declared.outcome.Outcome.TheVariants.{Going, Waiting}
use Rattle.unix_definition.specs.System.{System}
use Rattle.unix_definition.specs.Unix.{fitting_answer, reply, unix}
use Rattle.unix_calls.specs.Arriving.{arrived}
use Rattle.unix_calls.specs.Held.{Held, system_of, with_ahead}
use Rattle.unix_calls.specs.Drawing.{known}
use Rattle.unix_calls.specs.Serving.{Goes, parts}
use Rattle.unix_calls.proofs.DrawLemmas.{consumes-both, consumes-nothing}
use Rattle.jvm_definition.specs.Step.{Loaded, loaded_turn}
use Rattle.unix_pipe_laws.specs.Stages.{PipeStage, after_turn, answered_by, comes_to, output_of}
use Rattle.unix_pipe_laws.specs.Pipelines.{Pipeline, PipeNet, is_ready, next_turn, stands_ready}
use Rattle.unix_pipe_laws.specs.Turns.{PipeTurn, turned_net, turned_stage}
use Rattle.pipe_net.specs.declared.inlet.Inlet.{Inlet}
use Rattle.pipe_net.specs.declared.inlet.Inlet.TheVariants as inlet
use Rattle.pipe_net.specs.declared.outlet.Outlet.{Outlet}
use Rattle.pipe_net.specs.declared.outlet.Outlet.TheVariants as outlet
use Rattle.pipe_net.specs.Ports.{GoesThrough, KeepsOthers, Kept, OtherInput, OtherOutput, Ports, Waits, input_at, kept_seen, output_at, parts_of}
use Rattle.pipe_net.specs.Executing.{EndsSo, Falls, Scene, TurnsTo, Walks}
use Rattle.pipe_net.proofs.Standing.{InletIs, OwnIs, Stands, ready-alike, rest_at, stands-on}

-- the stage's input lost a front part of what it had
abbrev pub Loses : Inlet → Ports → Ports → Type 0
Loses l x y = (got : List ℕ) × Consumes (input_at l x).told (input_at l y).told got

pub loses-nothing : (l : Inlet) (x y : Ports) → input_at l y ≡ input_at l x → Loses l x y
loses-nothing l x y same =
    ([], subst (λ (z : Seen (List ℕ)). Consumes (input_at l x).told z.told []) (sym same) (consumes-nothing (input_at l x).told))

pub loses-both : (l : Inlet) (x y z : Ports) → Loses l x y → Loses l y z → Loses l x z
loses-both l x y z a b =
    (a.0 ++ b.0, consumes-both (input_at l x).told (input_at l y).told (input_at l z).told a.0 b.0 a.1 b.1)

-- What changed between two scenes: the stage wrote this to output, and wrote to error output at its end.
pub record Since (x y : Ports) (w : List ℕ) : Type 0 where
  pub took : Takes (output_at x.outlet x.sink x.behind) (output_at x.outlet y.sink y.behind) w
  pub wrote : List ℕ
  pub errors : y.errors.bytes ≡ x.errors.bytes ++ wrote
  pub no_faults : y.errors.faults ≡ x.errors.faults
  pub read : (input_at x.inlet y).faults ≡ (input_at x.inlet x).faults
  pub lost : Loses x.inlet x y
  pub told : (rest : List ℕ) → x.source.told ≡ Some rest → (left : List ℕ) × (y.source.told ≡ Some left)
  pub others : KeepsOthers x y

-- the piece of input that comes before a call: none, where all of it is told
abbrev pub piece_at : Inlet → Option (List ℕ) → List ℕ → List ℕ
piece_at inlet.Source None got = got
piece_at inlet.Source (Some rest) got = []
piece_at (inlet.Pipe fed) told got = []

pub still-told : (old new : Option (List ℕ)) (got : List ℕ) → Consumes old new got → (rest : List ℕ) → old ≡ Some rest → (left : List ℕ) × (new ≡ Some left)
still-told None new got c rest is = cc
still-told (Some xs) None got c rest is = absurd c
still-told (Some xs) (Some ys) got c rest is = (ys, refl)

same-input : (l : Inlet) (x : Ports) → OtherInput l x x
same-input inlet.Source x = refl
same-input (inlet.Pipe fed) x = refl

same-output : (l : Outlet) (sink : Seen (List ℕ)) (behind : Kept) → OtherOutput l sink behind sink behind
same-output outlet.Sink sink behind = refl
same-output outlet.Pipe sink behind = refl
same-output outlet.Nowhere sink behind = (refl, refl)

-- nothing but the state of the machine changed
pub since-nothing : (x : Ports) → Since x x []
since-nothing x = record {
  took = takes-nothing (output_at x.outlet x.sink x.behind);
  wrote = [];
  errors = sym (append-nil x.errors.bytes);
  no_faults = refl;
  read = refl;
  lost = loses-nothing x.inlet x x refl;
  told = λ rest is. (rest, is);
  others = record { input = same-input x.inlet x; output = same-output x.outlet x.sink x.behind; inlet = refl; outlet = refl; c = refl };
}

pub input-both : (l : Inlet) (x y z : Ports) → OtherInput l x y → OtherInput l y z → OtherInput l x z
input-both inlet.Source x y z a b = b ∙ a
input-both (inlet.Pipe fed) x y z a b = b ∙ a

output-both : (l : Outlet) (s t u : Seen (List ℕ)) (j k m : Kept) → OtherOutput l s j t k → OtherOutput l t k u m → OtherOutput l s j u m
output-both outlet.Sink s t u j k m a b = b ∙ a
output-both outlet.Pipe s t u j k m a b = b ∙ a
output-both outlet.Nowhere s t u j k m a b = (b.0 ∙ a.0, b.1 ∙ a.1)

-- one change after the other
pub since-both : (x y z : Ports) (v w : List ℕ) → Since x y v → Since y z w → Since x z (v ++ w)
since-both x y z v w a b =
    let inlet_is = a.others.inlet in
    let outlet_is = a.others.outlet in
    record {
      took = takes-both (output_at x.outlet x.sink x.behind) (output_at x.outlet y.sink y.behind) (output_at x.outlet z.sink z.behind) v w a.took
          (subst (λ (l : Outlet). Takes (output_at l y.sink y.behind) (output_at l z.sink z.behind) w) outlet_is b.took);
      wrote = a.wrote ++ b.wrote;
      errors = b.errors ∙ (ap (λ l. l ++ b.wrote) a.errors ∙ append_assoc x.errors.bytes a.wrote b.wrote);
      no_faults = b.no_faults ∙ a.no_faults;
      read = subst (λ (l : Inlet). (input_at l z).faults ≡ (input_at l y).faults) inlet_is b.read ∙ a.read;
      lost = loses-both x.inlet x y z a.lost (subst (λ (l : Inlet). Loses l y z) inlet_is b.lost);
      told = λ rest is. let m = a.told rest is in b.told m.0 m.1;
      others = record {
        input = input-both x.inlet x y z a.others.input (subst (λ (l : Inlet). OtherInput l y z) inlet_is b.others.input);
        output = output-both x.outlet x.sink y.sink z.sink x.behind y.behind z.behind a.others.output
            (subst (λ (l : Outlet). OtherOutput l y.sink y.behind z.sink z.behind) outlet_is b.others.output);
        inlet = b.others.inlet ∙ inlet_is;
        outlet = b.others.outlet ∙ outlet_is;
        c = b.others.c ∙ a.others.c;
      };
    }

-- what stands in the pipe behind grew by what was written into it
pub behind-grows : (x y : Ports) (w : List ℕ) → Since x y w → x.outlet ≡ outlet.Pipe → y.behind.bytes ≡ x.behind.bytes ++ w
behind-grows x y w s is = (subst (λ (l : Outlet). Takes (output_at l x.sink x.behind) (output_at l y.sink y.behind) w) is s.took).0

-- ---- the input of a call

-- all of the source's input that a call may see, where it tells what it has left
fed-system : (u : Held) (out errs : List ℕ) (told left : Option (List ℕ)) (got : List ℕ) → Consumes told left got
    → arrived (system_of u (known told) out errs) (piece_at inlet.Source told (got ++ known left)) ≡ system_of u (got ++ known left) out errs
fed-system u out errs None left got c = ap (λ l. system_of (with_ahead u []) (l ++ (got ++ known left)) out errs) (append-nil u.ahead)
fed-system u out errs (Some xs) None got c = absurd c
fed-system u out errs (Some xs) (Some ys) got c = ap (λ l. system_of (with_ahead u []) l out errs) (append-nil (u.ahead ++ xs) ∙ ap (λ l. u.ahead ++ l) c)

pub quiet-at : (l : Inlet) (told : Option (List ℕ)) (got rest : List ℕ) → told ≡ Some rest → piece_at l told got ≡ []
quiet-at inlet.Source told got rest is = ap (λ (o : Option (List ℕ)). piece_at inlet.Source o got) is
quiet-at (inlet.Pipe fed) told got rest is = refl

told-still : (l : Inlet) (x y : Ports) (got : List ℕ) → Consumes (input_at l x).told (input_at l y).told got → OtherInput l x y → (rest : List ℕ) → x.source.told ≡ Some rest → (left : List ℕ) × (y.source.told ≡ Some left)
told-still inlet.Source x y got c other rest is = still-told x.source.told y.source.told got c rest is
told-still (inlet.Pipe fed) x y got c other rest is = (rest, ap (λ (z : Seen (List ℕ)). z.told) other ∙ is)

-- ---- what an instruction changes

module _ (u v : Ports) (q : Question) (a : Answer) (g : GoesThrough u q a v) where
  -- an answered call, over the input and the output of the stage
  pub goes-at : Goes (λ k. unix k q) q.room (parts_of u) a (parts v.unix (input_at u.inlet v) (output_at u.outlet v.sink v.behind) (kept_seen v.errors))
  goes-at =
      subst (λ (l : Outlet). Goes (λ k. unix k q) q.room (parts_of u) a (parts v.unix (input_at u.inlet v) (output_at l v.sink v.behind) (kept_seen v.errors))) g.others.outlet
      (subst (λ (l : Inlet). Goes (λ k. unix k q) q.room (parts_of u) a (parts v.unix (input_at l v) (output_at v.outlet v.sink v.behind) (kept_seen v.errors))) g.others.inlet g.goes)

  pub since-answered : Since u v goes-at.output
  since-answered = record {
    took = goes-at.wrote;
    wrote = goes-at.error_output;
    errors = goes-at.wrote_error.0;
    no_faults = goes-at.wrote_error.1;
    read = goes-at.sound;
    lost = (goes-at.got, goes-at.consumed);
    told = told-still u.inlet u v goes-at.got goes-at.consumed g.others.input;
    others = g.others;
  }

abbrev pub SomeSince : Ports → Ports → Type 0
SomeSince x y = (w : List ℕ) × Since x y w

since-same : (x y : Ports) → y ≡ x → SomeSince x y
since-same x y same = ([], subst (λ (z : Ports). Since x z []) (sym same) (since-nothing x))

step-since : (x y : Scene) (t : Turn Loaded) → Turns GoesThrough Waits Falls t x.state y.state x.ports y.ports (Ok None) → SomeSince x.ports y.ports
step-since x y (moves next) h = since-same x.ports y.ports h.1
step-since x y (ends end) h = absurd h
step-since x y (leaves q end) h = absurd h
step-since x y (asks q next) h = ((goes-at x.ports y.ports q h.0 h.2).output, since-answered x.ports y.ports q h.0 h.2)

end-since : (x y : Scene) (o : Outcome) (t : Turn Loaded) → o ≢ Waiting → Turns GoesThrough Waits Falls t x.state y.state x.ports y.ports (Ok (Some o)) → SomeSince x.ports y.ports
end-since x y o (moves next) apart h = absurd h
end-since x y o (ends end) apart h = since-same x.ports y.ports h.2
end-since x y o (leaves q end) apart h = since-same x.ports y.ports h.2
end-since x y o (asks q next) apart h = absurd (apart h.0)

some-both : (x y z : Ports) → SomeSince x y → SomeSince y z → SomeSince x z
some-both x y z a b = (a.0 ++ b.0, since-both x y z a.0 b.0 a.1 b.1)

-- and many of them
pub walks-since : (n : ℕ) (x y : Scene) → Walks n x y → SomeSince x.ports y.ports
walks-since zero x y h = since-same x.ports y.ports (ap (λ (z : Scene). z.ports) h)
walks-since (suc n) x y h = some-both x.ports h.0.ports y.ports (walks-since n x h.0 h.1) (step-since h.0 y (loaded_turn h.0.state) h.2)

pub ends-since : (n : ℕ) (x mid y : Scene) (o : Outcome) → Walks n x mid → EndsSo mid y o → SomeSince x.ports y.ports
ends-since n x mid y o h e = some-both x.ports mid.ports y.ports (walks-since n x mid h) (end-since mid y o (loaded_turn mid.state) e.1 e.0)

module _ (p : Pipeline Loaded) (i : ℕ) where
  pub comes-so : (l : Inlet) (net : PipeNet Loaded) (x y : Ports) (out errs got : List ℕ) → InletIs p i net l → Consumes (input_at l x).told (input_at l y).told got
      → comes_to i (piece_at l x.source.told (got ++ known (input_at l y).told)) (system_of x.unix (rest_at p i l x) out errs) ≡ system_of x.unix (got ++ known (input_at l y).told) out errs
  comes-so inlet.Source net x y out errs got is c =
      ap (λ j. comes_to j (piece_at inlet.Source x.source.told (got ++ known y.source.told)) (system_of x.unix (known x.source.told) out errs)) is
      ∙ fed-system x.unix out errs x.source.told y.source.told got c
  comes-so (inlet.Pipe fed) net x y out errs got is c =
      ap (λ j. comes_to j [] (system_of x.unix x.before out errs)) is.1 ∙ ap (λ l. system_of x.unix l out errs) c

  -- ---- steps

  abbrev pub turn_at : List ℕ → ℕ → PipeTurn
  turn_at piece ahead = record { stage = i; piece = piece; ahead = ahead }

  -- a turn of the model, by which the stage comes from one scene to another
  pub record Stepped (net : PipeNet Loaded) (x y : Scene) (outcome : Outcome) : Type 0 where
    pub piece : List ℕ
    pub ahead : ℕ
    pub ready : stands_ready p net i ≡ true
    pub w : List ℕ
    pub wrote : output_of (turned_stage p net (turn_at piece ahead)) ≡ output_of (net.stage i) ++ w
    pub stands : Stands p i (turned_net p net (turn_at piece ahead)) y outcome
    pub since : Since x.ports y.ports w
    pub quiet : (rest : List ℕ) → x.ports.source.told ≡ Some rest → piece ≡ []

  module _ (turn_is : p.turn ≡ loaded_turn) (net : PipeNet Loaded) (x : Scene) (s : Stands p i net x Going) where
    abbrev before : PipeStage Loaded
    before = net.stage i

    next-is : (t : Turn Loaded) → loaded_turn x.state ≡ t → next_turn p net i ≡ t
    next-is t e = (λ j. turn_is j (s.own.machine j)) ∙ e

    ready-of : (t : Turn Loaded) → loaded_turn x.state ≡ t → is_ready p net i t ≡ true → stands_ready p net i ≡ true
    ready-of t e ready = ap (is_ready p net i) (next-is t e) ∙ ready

    -- a turn in which nothing is asked
    module _ (t : Turn Loaded) (e : loaded_turn x.state ≡ t) (ready : is_ready p net i t ≡ true) (state : Loaded) (outcome : Outcome) where
      abbrev own : PipeStage Loaded
      own = record before { machine = state; made = before.made + 1; outcome = outcome }

      stepped-alone : after_turn (comes_to i []) before t ≡ own → Stepped net x (record { state = state; ports = x.ports }) outcome
      stepped-alone is =
          let y : Scene = record { state = state; ports = x.ports } in
          let own_is : turned_stage p net (turn_at [] (net.ahead i)) ≡ own = ap (after_turn (comes_to i []) before) (next-is t e) ∙ is in
          let wrote : output_of (turned_stage p net (turn_at [] (net.ahead i))) ≡ output_of before ++ [] = ap output_of own_is ∙ sym (append-nil (output_of before)) in
          record {
            piece = [];
            ahead = net.ahead i;
            ready = ready-of t e ready;
            w = [];
            wrote = wrote;
            stands = stands-on p i net [] (net.ahead i) x y Going outcome s [] wrote
                (subst (λ (z : PipeStage Loaded). OwnIs p i z y outcome) (sym own_is) (record { machine = refl; system = s.own.system; ended = refl }))
                s.ahead refl refl refl (λ is_pipe. sym (append-nil x.ports.behind.bytes));
            since = since-nothing x.ports;
            quiet = λ rest told. refl;
          }

      stepped-so : (y : Scene) → after_turn (comes_to i []) before t ≡ own → y.state ≡ state → y.ports ≡ x.ports → Stepped net x y outcome
      stepped-so y is state_is ports_are =
          let same : record { state = state; ports = x.ports } ≡ y = λ j. record { state = sym state_is j; ports = sym ports_are j } in
          subst (λ (z : Scene). Stepped net x z outcome) same (stepped-alone is)

    -- a call that was answered
    module _ (y : Scene) (q : Question) (next : Answer → Loaded) (e : loaded_turn x.state ≡ asks q next) (a : Answer) (fit : IsTrue (answer_fits a q)) (g : GoesThrough x.ports q a y.ports) (state_is : y.state ≡ next a) where
      abbrev u : Ports
      u = x.ports

      abbrev v : Ports
      v = y.ports

      abbrev goes : Goes (λ k. unix k q) q.room (parts_of u) a (parts v.unix (input_at u.inlet v) (output_at u.outlet v.sink v.behind) (kept_seen v.errors))
      goes = goes-at u v q a g

      abbrev left : Option (List ℕ)
      left = (input_at u.inlet v).told

      abbrev piece : List ℕ
      piece = piece_at u.inlet u.source.told (goes.got ++ known left)

      abbrev last : System
      last = system_of v.unix (known left) (output_of before ++ goes.output) (u.errors.bytes ++ goes.error_output)

      abbrev answered : PipeStage Loaded
      answered = record before { machine = next a; system = last; made = before.made + 1 }

      own-answered : turned_stage p net (turn_at piece (length v.unix.ahead)) ≡ answered
      own-answered =
          ap (after_turn (comes_to i piece) before) (next-is (asks q next) e)
          ∙ (ap (λ k. answered_by before next (reply k q)) (ap (comes_to i piece) s.own.system ∙ comes-so u.inlet net u v (output_of before) u.errors.bytes goes.got s.from goes.consumed)
          ∙ (ap (λ z. answered_by before next (fitting_answer q z)) (goes.is (output_of before) u.errors.bytes)
          ∙ ap (λ f. answered_by before next (if f then Some (a, last) else None)) fit))

      stepped-answered : Stepped net x y Going
      stepped-answered =
          let wrote = ap output_of own-answered in
          record {
            piece = piece;
            ahead = length v.unix.ahead;
            ready = ready-of (asks q next) e (ready-alike p i net x Going q next s ∙ g.ready);
            w = goes.output;
            wrote = wrote;
            stands = stands-on p i net piece (length v.unix.ahead) x y Going Going s goes.output wrote
                (subst (λ (z : PipeStage Loaded). OwnIs p i z y Going) (sym own-answered)
                (record {
                  machine = sym state_is;
                  system = λ j. system_of v.unix (known (input_at (sym g.others.inlet j) v).told) (output_of before ++ goes.output) (sym goes.wrote_error.0 j);
                  ended = s.own.ended;
                }))
                refl g.others.inlet g.others.outlet g.others.c (behind-grows u v goes.output (since-answered u v q a g));
            since = since-answered u v q a g;
            quiet = λ rest told. quiet-at u.inlet u.source.told (goes.got ++ known left) rest told;
          }

    -- an instruction behind which the program goes on
    goes-so : (y : Scene) (t : Turn Loaded) → loaded_turn x.state ≡ t → Turns GoesThrough Waits Falls t x.state y.state x.ports y.ports (Ok None) → Stepped net x y Going
    goes-so y (moves next) e h = stepped-so (moves next) e refl next Going y (λ j. record before { machine = next; made = before.made + 1; outcome = s.own.ended j }) h.0 h.1
    goes-so y (ends end) e h = absurd h
    goes-so y (leaves q end) e h = absurd h
    goes-so y (asks q next) e h = stepped-answered y q next e h.0 h.1 h.2 h.3

    pub step : (y : Scene) → TurnsTo x y (Ok None) → Stepped net x y Going
    step y h = goes-so y (loaded_turn x.state) refl h

    -- one that ends it
    ends-so : (y : Scene) (outcome : Outcome) (t : Turn Loaded) → loaded_turn x.state ≡ t → outcome ≢ Waiting → Turns GoesThrough Waits Falls t x.state y.state x.ports y.ports (Ok (Some outcome)) → Stepped net x y outcome
    ends-so y outcome (moves next) e apart h = absurd h
    ends-so y outcome (ends end) e apart h = stepped-so (ends end) e refl x.state outcome y (λ j. record before { machine = s.own.machine j; made = before.made + 1; outcome = sym h.0 j }) h.1 h.2
    ends-so y outcome (leaves q end) e apart h = stepped-so (leaves q end) e refl x.state outcome y (λ j. record before { machine = s.own.machine j; made = before.made + 1; outcome = sym h.0 j }) h.1 h.2
    ends-so y outcome (asks q next) e apart h = absurd (apart h.0)

    pub last-step : (y : Scene) (outcome : Outcome) → EndsSo x y outcome → Stepped net x y outcome
    last-step y outcome h = ends-so y outcome (loaded_turn x.state) refl h.1 h.0
