-- A net before its first turn.
use Rattle.std.proofs.Common.{◌≡◌, ◌⊎◌, ◌+◌, ℕ, zero, suc, inl, inr, List, [], ◌∷◌, ◌++◌, length, Some, refl, ap, sym, ◌∙◌, subst, arith, length-append}
use Rattle.std.specs.Prelude.{slice_get}
use Rattle.std.proofs.lemmas.Bool.{cases_lt}
use Rattle.std.proofs.lemmas.Option.{same_Some, slice_get_within}
use Rattle.unix_definition.specs.System.{System}
use Rattle.unix_calls.specs.Held.{Held, limited, system_of}
use Rattle.unix_calls.specs.Starting.{IsFresh}
use Rattle.jvm_definition.specs.Step.{Loaded}
use Rattle.jvm_machine.specs.declared.jvm.Jvm.{Jvm}
use Rattle.jvm_machine.specs.Machine.{has_ended, state_of}
use Rattle.jvm_machine.specs.Counting.{count_of}
use Rattle.unix_pipe_laws.specs.Stages.{begins, with_rest}
use Rattle.unix_pipe_laws.specs.Pipelines.{Pipeline}
use Rattle.unix_pipe_laws.specs.Turns.{first_rest, net_at_start}
use Rattle.pipe_net.specs.declared.net.Net.{Net}
use Rattle.pipe_net.specs.declared.pipe.Pipe.{Pipe}
use Rattle.pipe_net.specs.declared.stage.Stage.{Stage}
use Rattle.pipe_net.specs.Adding.{AddsStage, IsMadeOf, IsNewStage}
use Rattle.pipe_net.specs.Showing.{AreFresh, IsPipelineOf, IsSound, Shows, ShowsStage, rest_before}
use Rattle.pipe_net.proofs.Lists.{at-end, before-end, found}

-- what stands in a list with one more at its end: one of those before, or that one
ends-in : {X : Type 0} (xs : List X) (y z : X) (i : ℕ) → slice_get (xs ++ y ∷ []) i ≡ Some z → (slice_get xs i ≡ Some z) ⊎ ((i ≡ length xs) × (z ≡ y))
ends-in xs y z i is = elim (cases_lt i (length xs)) [
  | inl inside ↦ inl (sym (before-end xs y i inside) ∙ is)
  | inr behind ↦
      let within = slice_get_within (xs ++ y ∷ []) i z is in
      let at : i ≡ length xs = omega (arith, within, length-append xs (y ∷ [])) in
      inr (at, same_Some z y (sym is ∙ (ap (slice_get (xs ++ y ∷ [])) at ∙ at-end xs y)))
]

pub made-none : (net : Net) (pipe : Pipe) → net.stages.items ≡ [] → net.pipes.items ≡ pipe ∷ [] → pipe.bytes.items ≡ [] → IsMadeOf net [] net.c net.bound
made-none net pipe none one empty = record {
  stages = ap length none;
  pipes = ap length one;
  are_new = λ i x jvm unix is. absurd (let h = slice_get_within {A = Jvm × Held} [] i (jvm, unix) is in omega (arith, h));
  are_empty = λ i p is. elim (ends-in [] pipe p i (ap (λ (l : List Pipe). slice_get l i) (sym one) ∙ is)) [
    | inl inside ↦ absurd (let h = slice_get_within {A = Pipe} [] i p inside in omega (arith, h))
    | inr last ↦ ap (λ (k : Pipe). k.bytes.items) last.1 ∙ empty
  ];
  c_is = refl;
  bound_is = refl;
}

pub made-more : (old new : Net) (given : List (Jvm × Held)) (c bound : ℕ) (jvm : Jvm) (unix : Held) → IsMadeOf old given c bound → AddsStage old new jvm unix → IsMadeOf new (given ++ (jvm, unix) ∷ []) c bound
made-more old new given c bound jvm unix made adds = record {
  stages = ap length adds.stages ∙ (length-append old.stages.items (adds.stage ∷ []) ∙ (ap (λ n. n + 1) made.stages ∙ sym (length-append given ((jvm, unix) ∷ []))));
  pipes = (let a = length-append old.pipes.items (adds.pipe ∷ []) in let b = ap length adds.pipes in let d = length-append given ((jvm, unix) ∷ []) in let m = made.pipes in omega (arith, a, b, d, m));
  are_new = λ i x j u is there. elim (ends-in given (jvm, unix) (j, u) i is) [
    | inl before ↦ elim (ends-in old.stages.items adds.stage x i (ap (λ (l : List Stage). slice_get l i) (sym adds.stages) ∙ there)) [
      | inl inside ↦ made.are_new i x j u before inside
      | inr last ↦ absurd (let h = slice_get_within given i (j, u) before in let e = last.0 in let m = made.stages in omega (arith, h, e, m))
    ]
    | inr end ↦ elim (ends-in old.stages.items adds.stage x i (ap (λ (l : List Stage). slice_get l i) (sym adds.stages) ∙ there)) [
      | inl inside ↦ absurd (let h = slice_get_within old.stages.items i x inside in let e = end.0 in let m = made.stages in omega (arith, h, e, m))
      | inr last ↦
          subst (λ (k : Stage × Jvm × Held × ℕ). IsNewStage k.0 k.1 k.2 k.3) (λ t. (sym last.1 t, sym (ap (λ (z : Jvm × Held). z.0) end.1) t, sym (ap (λ (z : Jvm × Held). z.1) end.1) t, made.c_is t)) adds.is_new
    ]
  ];
  are_empty = λ i pipe is. elim (ends-in old.pipes.items adds.pipe pipe i (ap (λ (l : List Pipe). slice_get l i) (sym adds.pipes) ∙ is)) [
    | inl inside ↦ made.are_empty i pipe inside
    | inr last ↦ ap (λ (k : Pipe). k.bytes.items) last.1 ∙ adds.is_empty
  ];
  c_is = adds.same_c ∙ made.c_is;
  bound_is = adds.same_bound ∙ made.bound_is;
}

-- ---- what it shows

none-ahead : (u : Held) → IsFresh u → u.ahead ≡ []
none-ahead u fresh = ap (λ (k : Held). k.ahead) fresh.begins.is

held-rest : (u : Held) (r : List ℕ) → u.ahead ≡ [] → with_rest (system_of u [] [] []) r ≡ system_of u r [] []
held-rest u r none = ap (with_rest (system_of u [] [] [])) (sym (ap (λ a. a ++ r) none))

module _ (net : Net) (given : List (Jvm × Held)) (c bound : ℕ) (made : IsMadeOf net given c bound) (fresh : AreFresh given) where
  module _ (p : Pipeline Loaded) (is : IsPipelineOf given c bound p) where
    rest-is : (i : ℕ) (pipe : Pipe) → slice_get net.pipes.items i ≡ Some pipe → first_rest p i ≡ rest_before i p.input pipe
    rest-is zero pipe there = refl
    rest-is (suc i) pipe there = sym (made.are_empty (suc i) pipe there)

    shows-stage : (i : ℕ) (x : Stage) (pipe : Pipe) → slice_get net.stages.items i ≡ Some x → slice_get net.pipes.items i ≡ Some pipe
        → ShowsStage x (rest_before i p.input pipe) (begins (p.machines i) (p.systems i) (first_rest p i)) 0
    shows-stage i x pipe at there =
        let within = slice_get_within net.stages.items i x at in
        let of_given = found given i (let m = made.stages in omega (arith, within, m)) in
        let jvm = of_given.0.0 in
        let unix = of_given.0.1 in
        let new = made.are_new i x jvm unix of_given.1 at in
        let f = fresh i jvm unix of_given.1 in
        let system = is.system i jvm unix of_given.1 in
        let none = none-ahead unix f.fresh in
        record {
          machine = is.machine i jvm unix of_given.1 ∙ ap state_of (sym new.jvm_is);
          system = ap (λ (s : System). with_rest s (first_rest p i)) system
              ∙ (held-rest (limited unix c) (first_rest p i) none
              ∙ (λ j. system_of (sym new.unix_is j) (rest-is i pipe there j) (sym (ap (λ (s : System). s.console.output) system) j) (sym new.no_errors j)));
          made = sym (ap count_of new.jvm_is ∙ f.none);
          outcome = sym new.going;
          read_ahead = sym (ap length (ap (λ (u : Held). u.ahead) new.unix_is ∙ none));
        }

    pub shows-made : Shows net p.input p (net_at_start p)
    shows-made = record {
      turn_is = is.turn_is;
      count_is = is.count_is ∙ sym made.stages;
      c_is = is.c_is ∙ sym made.c_is;
      bound_is = is.bound_is ∙ sym made.bound_is;
      stage = shows-stage;
    }

  pub sound-made : IsSound net
  sound-made = record {
    pipes = made.pipes ∙ ap (λ n. suc n) (sym made.stages);
    stages = λ i x at.
        let within = slice_get_within net.stages.items i x at in
        let of_given = found given i (let m = made.stages in omega (arith, within, m)) in
        let new = made.are_new i x of_given.0.0 of_given.0.1 of_given.1 at in
        let f = fresh i of_given.0.0 of_given.0.1 of_given.1 in
        let none : length x.unix.ahead ≡ 0 = ap length (ap (λ (u : Held). u.ahead) new.unix_is ∙ none-ahead of_given.0.1 f.fresh) in
        record {
          going = λ o. ap has_ended new.jvm_is ∙ f.going;
          no_faults = new.no_faults;
          short = omega (arith, none);
        };
  }
