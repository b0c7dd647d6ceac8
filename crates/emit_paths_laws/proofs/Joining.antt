-- Paths one behind the other, and paths of one turn.
use Rattle.std.proofs.Common.{◌≡◌, ◌≢◌, ℕ, ◌+◌, ◌<◌, ◌≤◌, if◌then◌else◌, List, [], ◌∷◌, ◌++◌, Option, Some, None, refl, ap, sym, subst, ◌∙◌, arith}
use Rattle.std.specs.List.{sum_by}
use Rattle.std.proofs.lemmas.Bool.{eq-eqb, ne_eqb}
use Rattle.std.proofs.lemmas.List.Sums.{sum_by-append, sum_by-cons}
use Rattle.run_definition.specs.Turn.{moves}
use Rattle.run_simulation_laws.specs.Trail.{went, if_moves, moved}
use Rattle.run_simulation_laws.specs.Places.{Rises, visit, visited}
use Rattle.run_simulation_laws.proofs.Passing.{advanced_add, moved_add, moved_one}
use Rattle.run_simulation_laws.proofs.Places.{rises_from, rises_join, rises_length, visited_append}
use Rattle.jvm_definition.specs.declared.linked_line.LinkedLine.{LinkedLine}
use Rattle.jvm_definition.specs.declared.instruction.Instruction.{Instruction}
use Rattle.jvm_definition.specs.Program.{Program, linked_line_at}
use Rattle.jvm_definition.specs.Effect.{Workspace}
use Rattle.jvm_definition.specs.Step.{JvmState, Frame, frame_placed, jvm_turn}
use Rattle.emit_paths_laws.specs.Classes.{weighed, executed, place_in}
use Rattle.emit_paths_laws.specs.Paths.{LooksAtNoTarget, Path}

-- ---- places that rise

rises-to : (low : ℕ) (places : List ℕ) (high higher : ℕ) → high ≤ higher → Rises low places high → Rises low places higher
rises-to low [] high higher more rises = omega arith
rises-to low (place ∷ places) high higher more rises = (rises.0, rises-to (place + 1) places high higher more rises.1)

-- no place lies between an offset and itself
rises-nowhere : (at : ℕ) (places : List ℕ) (low high : ℕ) → low ≤ high → Rises at places at → Rises low places high
rises-nowhere at [] low high less rises = less
rises-nowhere at (place ∷ places) low high less rises =
    let first = rises.0 in
    let past = rises_length (place + 1) places at rises.1 in
    absurd (omega arith)

-- ---- paths

module _ (program : Program) (words m : ℕ) where
  pub paths-join : (low middle high n k : ℕ) (total more : (Instruction → ℕ) → ℕ) (x y z : JvmState) → Path program words m low middle n total x y → Path program words m middle high k more y z → Path program words m low high (n + k) (λ weight. total weight + more weight) x z
  paths-join low middle high n k total more x y z first next =
      let step = jvm_turn program words in
      let trail : moved step (n + k) x ≡ moved step n x ++ moved step k y = moved_add step n k x y first.comes in
      let places : visited (place_in m) (moved step (n + k) x) ≡ visited (place_in m) (moved step n x) ++ visited (place_in m) (moved step k y) = ap (visited (place_in m)) trail ∙ visited_append (place_in m) (moved step n x) (moved step k y) in
      record {
        comes = advanced_add step n k x y first.comes ∙ next.comes;
        counts = λ weight still. let f = executed program weight in let a = first.counts weight still in let b = next.counts weight still in let both : sum_by f (moved step (n + k) x) ≡ sum_by f (moved step n x) + sum_by f (moved step k y) = ap (sum_by f) trail ∙ sum_by-append f (moved step n x) (moved step k y) in omega (arith, a, b, both);
        rises = subst (λ (xs : List ℕ). Rises low xs high) (sym places) (rises_join low (visited (place_in m) (moved step n x)) middle (visited (place_in m) (moved step k y)) high first.rises next.rises);
      }

  pub no-turns : (low high : ℕ) (x : JvmState) → low ≤ high → Path program words m low high 0 (λ weight. 0) x x
  no-turns low high x less = record { comes = refl; counts = λ weight still. omega arith; rises = less }

  pub path-wider : (low high lower higher n : ℕ) (total more : (Instruction → ℕ) → ℕ) (x y : JvmState) → lower ≤ low → high ≤ higher → ((weight : Instruction → ℕ) → LooksAtNoTarget weight → total weight ≤ more weight) → Path program words m low high n total x y → Path program words m lower higher n more x y
  path-wider low high lower higher n total more x y less beyond weighs path =
      record {
        comes = path.comes;
        counts = λ weight still. let a = path.counts weight still in let b = weighs weight still in omega (arith, a, b);
        rises = rises_from lower low (visited (place_in m) (moved (jvm_turn program words) n x)) higher less (rises-to low (visited (place_in m) (moved (jvm_turn program words) n x)) high higher beyond path.rises);
      }

  pub path-unseen : (at low high n : ℕ) (total : (Instruction → ℕ) → ℕ) (x y : JvmState) → low ≤ high → Path program words m at at n total x y → Path program words m low high n total x y
  path-unseen at low high n total x y less path =
      record {
        comes = path.comes;
        counts = path.counts;
        rises = rises-nowhere at (visited (place_in m) (moved (jvm_turn program words) n x)) low high less path.rises;
      }

  -- ---- one turn

  -- of any state, by where it is made
  pub turn-path : (low high : ℕ) (total : (Instruction → ℕ) → ℕ) (x y : JvmState) → jvm_turn program words x ≡ moves y → ((weight : Instruction → ℕ) → LooksAtNoTarget weight → executed program weight (went x y) ≤ total weight) → Rises low (visit (place_in m x) []) high → Path program words m low high 1 total x y
  turn-path low high total x y is weighs rises =
      let step = jvm_turn program words in
      let trail : moved step 1 x ≡ went x y ∷ [] = moved_one step x y is in
      record {
        comes = ap (λ t. if_moves t None (λ u. Some u)) is;
        counts = λ weight still. let f = executed program weight in let a : sum_by f (moved step 1 x) ≡ f (went x y) + 0 = ap (sum_by f) trail ∙ sum_by-cons f (went x y) [] in let b = weighs weight still in omega (arith, a, b);
        rises = subst (λ (xs : List ℕ). Rises low xs high) (sym (ap (visited (place_in m)) trail)) rises;
      }

  -- a turn at an offset is visited there
  pub seen-within : (at high : ℕ) (w : Workspace) (others : List Frame) → at < high → Rises at (visit (place_in m (frame_placed m at w others)) []) high
  seen-within at high w others less =
      let here : Some at ≡ place_in m (frame_placed m at w others) = sym (ap (λ b. if b then Some at else None) (eq-eqb m m refl)) in
      subst (λ (o : Option ℕ). Rises at (visit o []) high) here (omega arith, omega arith)

  -- and not visited in another method
  pub seen-elsewhere : (own low at : ℕ) (w : Workspace) (others : List Frame) → own ≢ m → Rises low (visit (place_in m (frame_placed own at w others)) []) low
  seen-elsewhere own low at w others differ =
      let nowhere : None ≡ place_in m (frame_placed own at w others) = sym (ap (λ b. if b then Some at else None) (ne_eqb own m differ)) in
      subst (λ (o : Option ℕ). Rises low (visit o []) low) nowhere (omega arith)

-- a turn weighs the line that stands there
pub turn-weighs : (program : Program) (own at : ℕ) (w : Workspace) (others : List Frame) (y : JvmState) (line : LinkedLine) → linked_line_at program own at ≡ Some line → (weight : Instruction → ℕ) → executed program weight (went (frame_placed own at w others) y) ≡ weight line.instruction
turn-weighs program own at w others y line stands weight = ap (weighed weight) stands
