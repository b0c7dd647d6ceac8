-- The example meets the laws.
use Rattle.std.proofs.Common.{◌≡◌, ℕ, ◌+◌, ◌*◌, ◌≤◌, zero, suc, Bool, true, false, Some, unwrap_or, refl, ap, sym, subst, arith}
use Rattle.std.specs.List.{sum_by}
use Rattle.run_definition.specs.Question.{there}
use Rattle.run_definition.specs.Turn.{Turn}
use Rattle.run_simulation_laws.specs.Trail.{Step, advanced, moved}
use Rattle.run_simulation_laws.specs.Turns.{Follows, LawOfTurn, LawOfMarks, Translates}
use Rattle.run_simulation_laws.specs.Example.{Guest, load, plain, branch, slot, read, test, fill, call, choose_first, choose_second, first_plain, first_goal, first_back, second_read, second_test, guest, classes, crossings, entries, is_first, example, rests, at_piece, question, is_empty}

-- before the first turn nothing is counted
early_none : {S : Type 0} (turn : S → Turn S) (f : Step S → ℕ) (n paid : ℕ) (s : S) → n ≤ 0 → sum_by f (moved turn n s) ≤ paid
early_none turn f zero paid s less = omega arith
early_none turn f (suc n) paid s less = absurd (omega arith)

-- the instruction, behind the choice, the entry and the switch
plain_follows : (none : Bool) → Follows example rests (λ k. 4 * k) (plain none) (choose_first none)
plain_follows none = record {
  guest_turns = 0;
  class_turns = 2;
  guest_at = plain none;
  class_at = first_plain none;
  guest_comes = refl;
  class_comes = refl;
  no_sooner = omega arith;
  unmarked = λ n t one less is. absurd (omega arith);
  early = λ i n less. early_none classes entries n _ (choose_first none) less;
  alike = record { more = 0; rest = first_goal none; comes = refl; rests = refl; in_time = omega arith; counted = λ i. omega arith };
}

-- the branch with its slot, whose turn is the crossing; the credit is for the entry of the other span
branch_early : (none : Bool) (n : ℕ) → n ≤ 1 → sum_by entries (moved classes n (first_goal none)) ≤ 0 + sum_by crossings (moved guest n (branch none))
branch_early none zero less = omega arith
branch_early none (suc zero) less = omega arith
branch_early none (suc (suc n)) less = absurd (omega arith)

branch_unmarked : (none : Bool) (n : ℕ) (t : Guest) → 1 ≤ n → n ≤ 1 → advanced guest n (branch none) ≡ Some t → is_first t ≡ false
branch_unmarked none zero t one less is = absurd (omega arith)
branch_unmarked none (suc zero) t one less is =
    let e : slot none ≡ t = ap (λ o. unwrap_or o t) is in ap is_first (sym e)
branch_unmarked none (suc (suc n)) t one less is = absurd (omega arith)

branch_follows : (none : Bool) → Follows example rests (λ k. 4 * k) (branch none) (first_goal none)
branch_follows none = record {
  guest_turns = 1;
  class_turns = 2;
  guest_at = slot none;
  class_at = first_back none;
  guest_comes = refl;
  class_comes = refl;
  no_sooner = omega arith;
  unmarked = branch_unmarked none;
  early = λ i. branch_early none;
  alike = record { more = 0; rest = choose_second none; comes = refl; rests = refl; in_time = omega arith; counted = λ i. omega arith };
}

-- the call of the system, after whose answer the classes make a turn more
read_follows : (none : Bool) → Follows example rests (λ k. 4 * k) (read none) (choose_second none)
read_follows none = record {
  guest_turns = 0;
  class_turns = 2;
  guest_at = read none;
  class_at = second_read none;
  guest_comes = refl;
  class_comes = refl;
  no_sooner = omega arith;
  unmarked = λ n t one less is. absurd (omega arith);
  early = λ i n less. early_none classes entries n _ (choose_second none) less;
  alike = (
    refl,
    record { in_time = omega arith; counted = λ i. omega arith },
    λ a fit. record {
      more = 1;
      rest = second_test (is_empty a.patch);
      comes = refl;
      rests = refl;
      in_time = omega arith;
      counted = λ i. omega arith;
    },
  );
}

-- the end, or the way back, which is a crossing
test_follows : (none : Bool) → Follows example rests (λ k. 4 * k) (test none) (second_test none)
test_follows true = record {
  guest_turns = 0;
  class_turns = 0;
  guest_at = test true;
  class_at = second_test true;
  guest_comes = refl;
  class_comes = refl;
  no_sooner = omega arith;
  unmarked = λ n t one less is. absurd (omega arith);
  early = λ i n less. early_none classes entries n _ (second_test true) less;
  alike = (refl, refl, record { in_time = omega arith; counted = λ i. omega arith });
}
test_follows false = record {
  guest_turns = 0;
  class_turns = 0;
  guest_at = test false;
  class_at = second_test false;
  guest_comes = refl;
  class_comes = refl;
  no_sooner = omega arith;
  unmarked = λ n t one less is. absurd (omega arith);
  early = λ i n less. early_none classes entries n _ (second_test false) less;
  alike = record { more = 0; rest = choose_first false; comes = refl; rests = refl; in_time = omega arith; counted = λ i. omega arith };
}

example_turn : LawOfTurn example rests 4
example_turn (plain none) (choose_first kept) e =
    subst (λ k. Follows example rests (λ k. 4 * k) (plain none) (choose_first k)) (sym e) (plain_follows none)
example_turn (branch none) (first_goal kept) e =
    subst (λ k. Follows example rests (λ k. 4 * k) (branch none) (first_goal k)) (sym e) (branch_follows none)
example_turn (read none) (choose_second kept) e =
    subst (λ k. Follows example rests (λ k. 4 * k) (read none) (choose_second k)) (sym e) (read_follows none)
example_turn (test none) (second_test kept) e =
    subst (λ k. Follows example rests (λ k. 4 * k) (test none) (second_test k)) (sym e) (test_follows none)
example_turn _ _ e = absurd e

pub example_translates : Translates example rests 4 0 (λ i. 1) load fill
example_translates = record {
  turns = example_turn;
  loads = record {
    question = question 0 (there 0 4);
    guest_next = λ a. plain (is_empty a.patch);
    class_turns = 1;
    class_at = call;
    class_next = λ a. choose_first (is_empty a.patch);
    guest_asks = refl;
    class_comes = refl;
    class_asks = refl;
    in_time = omega arith;
    answered = λ a fit. record {
      more = 0;
      rest = choose_first (is_empty a.patch);
      comes = refl;
      rests = refl;
      in_time = omega arith;
      counted = λ i. omega arith;
    };
  };
}

pub example_marks : LawOfMarks example rests at_piece 4
example_marks (plain none) (choose_first kept) e marked =
    (2, first_plain kept, omega arith, refl, e)
example_marks (branch none) (first_goal kept) e marked = let f : false ≡ true = marked in absurd (cc)
example_marks (read none) (choose_second kept) e marked = let f : false ≡ true = marked in absurd (cc)
example_marks (test none) (second_test kept) e marked = let f : false ≡ true = marked in absurd (cc)
example_marks _ _ e marked = absurd e
