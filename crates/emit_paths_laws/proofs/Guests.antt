-- The loader's call counts nothing at the guest.
use Rattle.std.proofs.Common.{◌≡◌, ℕ, zero, suc, ◌+◌, ◌%◌, ◌==◌, Bool, false, cond, ◌&&◌, ◌||◌, if◌then◌else◌, List, [], ◌∷◌, Option, Some, None, option_map, refl, ap, sym, ◌∙◌, arith}
use Rattle.std.specs.List.{count_by}
use Rattle.std.proofs.lemmas.List.Sums.{sum_by-cons}
use Rattle.run_definition.specs.Question.{Question}
use Rattle.run_definition.specs.Answer.{Answer}
use Rattle.run_definition.specs.Turn.{asks}
use Rattle.run_simulation_laws.specs.Trail.{Step, trail_given, trail_by, trail_of, after_call}
use Rattle.run_simulation_laws.proofs.Loading.{after_asks}
use Rattle.mips_definition.specs.Table.{inst}
use Rattle.mips_definition.specs.State.{State}
use Rattle.mips_definition.specs.Step.{turn, instruction_turn, loader_question, after_loader}
use Rattle.emit_paths_laws.specs.Guest.{Span, is_by, is_register_jump, goes_out, instruction_at, crosses, reads_word, is_partial}

module _ (test : Step State → Bool) (s : State) (not_begun : s.begun ≡ false) (none : (to : Option State) → test (record { from = s; to = to }) ≡ false) where
  asks_first : turn s ≡ asks (loader_question s) (after_loader s)
  asks_first =
      ap (λ b. if b then instruction_turn s else asks (loader_question s) (after_loader s)) not_begun

  one_apart : (to : Option State) (rest : List (Step State)) → count_by test (record { from = s; to = to } ∷ rest) ≡ count_by test (after_call turn (record { from = s; to = to } ∷ rest))
  one_apart to rest =
      let step : Step State = record { from = s; to = to } in
      let cons : count_by test (step ∷ rest) ≡ cond (test step) 1 0 + count_by test rest = sum_by-cons (λ x. cond (test x) 1 0) step rest in
      let nothing : ℕ = 0 in
      let one : ℕ = 1 in
      let zero_here : cond (test step) one nothing ≡ nothing = ap (λ b. cond b one nothing) (none to) in
      let after : count_by test (after_call turn (step ∷ rest)) ≡ count_by test rest = ap (count_by test) (after_asks turn (loader_question s) (after_loader s) step rest asks_first) in
      omega (arith, cons, zero_here, after)

  given_apart : {K : Type 0} (got : Option (Answer × K)) (next : Answer → State) (more : State → K → List (Step State)) → count_by test (trail_given got next s more) ≡ count_by test (after_call turn (trail_given got next s more))
  given_apart None next more = one_apart None []
  given_apart (Some given) next more = one_apart (Some (next given.0)) (more (next given.0) given.1)

  pub loader_apart : {K : Type 0} (reply : K → Question → Option (Answer × K)) (n : ℕ) (k : K) → count_by test (trail_of turn reply n s k) ≡ count_by test (after_call turn (trail_of turn reply n s k))
  loader_apart reply zero k = refl
  loader_apart reply (suc n) k =
      let first : trail_of turn reply (suc n) s k ≡ trail_given (reply k (loader_question s)) (after_loader s) s (trail_of turn reply n) = ap (λ x. trail_by reply x s k (trail_of turn reply n)) asks_first in
      ap (count_by test) first
      ∙ given_apart (reply k (loader_question s)) (after_loader s) (trail_of turn reply n)
      ∙ sym (ap (λ xs. count_by test (after_call turn xs)) first)

pub loader_crosses_nothing : (spans : List Span) (s : State) → s.begun ≡ false → (to : Option State) → crosses spans (record { from = s; to = to }) ≡ false
loader_crosses_nothing spans s not_begun to =
    ap (λ b. b && (is_by is_register_jump (instruction_at s) || goes_out spans s.pc to)) not_begun

pub loader_reads_nothing : (s : State) → s.begun ≡ false → (to : Option State) → is_partial (record { from = s; to = to }) ≡ false
loader_reads_nothing s not_begun to =
    ap (λ b. is_by reads_word (if b && (s.pc % 4 == 0) then option_map inst (s.code s.pc) else None)) not_begun
