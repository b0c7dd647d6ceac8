-- The tree of comparisons.
use Rattle.std.proofs.Common.{◌≡◌, ℕ, zero, suc, ◌+◌, ◌-◌, ◌*◌, ◌/◌, ◌^◌, ◌≤◌, not, Bool, true, false, if◌then◌else◌, List, [], ◌∷◌, ◌++◌, length, slice_get, take, drop, Option, Some, refl, ap, subst, sym, ◌∙◌, append_assoc, arith}
use Rattle.std.proofs.lemmas.List.{length-take-le, length-drop, take-append-drop, append-nil, length-append}
use Rattle.std.proofs.lemmas.List.Elements.{All-head, All-take, All-drop}
use Rattle.run_definition.specs.Words.{IsWord}
use Rattle.jvm_definition.specs.declared.branch_name.BranchName.TheVariants.{Goto}
use Rattle.jvm_definition.specs.declared.value.Value.TheVariants.{Int as int}
use Rattle.jvm_definition.specs.declared.linked_method.LinkedMethod.{LinkedMethod}
use Rattle.jvm_definition.specs.declared.kind.Kind.{Kind}
use Rattle.jvm_definition.specs.declared.instruction.Instruction.TheVariants.{Call}
use Rattle.jvm_definition.specs.Program.{Program}
use Rattle.jvm_definition.specs.Effect.{Workspace, enters, calls, arguments, last_first, with_operands}
use Rattle.emit_steps.specs.declared.step.Step.{Step}
use Rattle.emit_steps.specs.declared.step.Step.TheVariants.{Does, Skips}
use Rattle.emit_steps.specs.Outcomes.{Outcome, ended, stopped, beyond, later, after_instruction, outcome, outcome_from}
use Rattle.trampoline.specs.declared.start.Start.{Start}
use Rattle.trampoline.specs.Trees.{reached_code, halves_code, first_of, tree_of, tree}
use Rattle.trampoline_laws.specs.Choosing.{is_below, chosen, Rise, IsMethod, AreMethods}
use Rattle.trampoline_laws.specs.Coming.{Calls}
use Rattle.trampoline_laws.proofs.ChoiceLaws.Tests.{reached}
use Rattle.trampoline_laws.proofs.ChoiceLaws.Passing.{past, IsWay, get-past, stops-past, way-past, past-zero, past-suc}
use Rattle.trampoline_laws.proofs.ChoiceLaws.Chosen.{rise-front, rise-back, chosen-below, chosen-from}

-- Code calls a method, whatever other code stands behind it, and goes on behind the call to that code.
pub record Follows (program : Program) (words levels callee : ℕ) (code : List Step) (w : Workspace) : Type 0 where
  pub turns : ℕ
  pub step : ℕ
  pub turns_behind : ℕ
  pub comes : (rest : List Step) → outcome program words (code ++ rest) w ≡ stopped turns step w (enters callee [] w)
  pub in_time : turns ≤ 3 * levels
  pub step_is : (rest : List Step) → slice_get (code ++ rest) step ≡ Some (Does (Call callee))
  pub goes_on : (rest : List Step) (n : ℕ) (u : Workspace) (on : ℕ → Workspace → Outcome) → IsWay on → outcome program words rest u ≡ on n u → outcome_from program words (code ++ rest) (suc step) u ≡ on (turns_behind + n) u
  pub behind_in_time : turns_behind ≤ levels

-- ---- one call

pub entered : (program : Program) (words m : ℕ) (rest : List Step) (w : Workspace) → IsMethod program m → outcome program words (Does (Call m) ∷ rest) w ≡ stopped 0 0 w (enters m [] w)
entered program words m rest w is =
    ap (λ (o : Option LinkedMethod). after_instruction w (calls m o w) (outcome_from program words rest 0)) is.there
    ∙ ap (λ (kinds : List Kind). after_instruction w (arguments w.heap (last_first kinds []) w.operands [] (λ given below. enters m given (with_operands w below))) (outcome_from program words rest 0)) is.no_parameters

one-follows : (program : Program) (words levels m : ℕ) (w : Workspace) → IsMethod program m → Follows program words levels m (Does (Call m) ∷ []) w
one-follows program words levels m w is = record {
  turns = 0;
  step = 0;
  turns_behind = 0;
  comes = λ rest. entered program words m rest w is;
  in_time = omega arith;
  step_is = λ rest. refl;
  goes_on = λ rest n u on way e. ap beyond e ∙ way.passed n u ∙ (let same : n ≡ 0 + n = omega arith in ap (λ k. on k u) same);
  behind_in_time = omega arith;
}

-- ---- two halves

module _ (program : Program) (words levels callee first x : ℕ) (below from : List Step) (w : Workspace) (at : w.locals 0 ≡ int x) where
  -- what stands behind the first half
  abbrev Behind : List Step → List Step
  Behind rest = Skips Goto (length from) ∷ (from ++ rest)

  abbrev code : List Step
  code = halves_code first below from

  parts : (rest : List Step) → code ++ rest ≡ reached_code first (length below + 1) ++ (below ++ Behind rest)
  parts rest = ap (λ c. reached_code first (length below + 1) ++ c) (append_assoc below (Skips Goto (length from) ∷ from) rest)

  tested : (b : Bool) (rest : List Step) → is_below x first ≡ b → outcome program words (code ++ rest) w ≡ later (later (later (outcome_from program words (below ++ Behind rest) (if not b then length below + 1 else 0) w)))
  tested b rest is =
      ap (λ c. outcome program words c w) (parts rest)
      ∙ reached program words x (below ++ Behind rest) w at first (length below + 1)
      ∙ ap (λ t. later (later (later (outcome_from program words (below ++ Behind rest) (if not t then length below + 1 else 0) w)))) is

  -- it goes over the second half
  over : (rest : List Step) (n : ℕ) (u : Workspace) (on : ℕ → Workspace → Outcome) → IsWay on → outcome program words rest u ≡ on n u → outcome program words (Behind rest) u ≡ on (suc n) u
  over rest n u on way is =
      ap later (ap (λ k. outcome_from program words (from ++ rest) k u) (sym (past-zero from)) ∙ way-past program words n 0 from rest u on way is)
      ∙ way.grown n u

  three-passed : (n : ℕ) (u : Workspace) (on : ℕ → Workspace → Outcome) (o : Outcome) → IsWay on → o ≡ on n u → beyond (beyond (beyond o)) ≡ on n u
  three-passed n u on o way is =
      ap (λ p. beyond (beyond (beyond p))) is ∙ ap (λ p. beyond (beyond p)) (way.passed n u) ∙ ap beyond (way.passed n u) ∙ way.passed n u

  pub lower-follows : is_below x first ≡ true → Follows program words levels callee below w → Follows program words (suc levels) callee code w
  lower-follows is half = record {
    turns = suc (suc (suc half.turns));
    step = suc (suc (suc half.step));
    turns_behind = suc half.turns_behind;
    comes = λ rest. tested true rest is ∙ ap (λ o. later (later (later o))) (half.comes (Behind rest));
    in_time = omega (arith, half.in_time);
    step_is = λ rest. ap (λ c. slice_get c (suc (suc (suc half.step)))) (parts rest) ∙ half.step_is (Behind rest);
    goes_on = λ rest n u on way e.
        ap (λ c. outcome_from program words c (suc (suc (suc (suc half.step)))) u) (parts rest)
        ∙ three-passed (half.turns_behind + suc n) u on (outcome_from program words (below ++ Behind rest) (suc half.step) u) way (half.goes_on (Behind rest) (suc n) u on way (over rest n u on way e))
        ∙ (let same : half.turns_behind + suc n ≡ suc half.turns_behind + n = omega arith in ap (λ k. on k u) same);
    behind_in_time = omega (arith, half.behind_in_time);
  }

  -- the steps before the second half
  abbrev before : List Step
  before = below ++ Skips Goto (length from) ∷ []

  halves : (rest : List Step) → below ++ Behind rest ≡ before ++ (from ++ rest)
  halves rest = sym (append_assoc below (Skips Goto (length from) ∷ []) (from ++ rest))

  before-length : length below + 1 ≡ length before
  before-length = sym (length-append below (Skips Goto (length from) ∷ []))

  pub upper-follows : is_below x first ≡ false → Follows program words levels callee from w → Follows program words (suc levels) callee code w
  upper-follows is half = record {
    turns = suc (suc (suc half.turns));
    step = suc (suc (suc (past before half.step)));
    turns_behind = half.turns_behind;
    comes = λ rest.
        tested false rest is
        ∙ ap (λ c. later (later (later (outcome_from program words c (length below + 1) w)))) (halves rest)
        ∙ ap (λ k. later (later (later (outcome_from program words (before ++ (from ++ rest)) k w)))) before-length
        ∙ ap (λ o. later (later (later o))) (stops-past program words half.turns half.step before (from ++ rest) w w (enters callee [] w) (half.comes rest));
    in_time = omega (arith, half.in_time);
    step_is = λ rest.
        ap (λ c. slice_get c (suc (suc (suc (past before half.step))))) (parts rest)
        ∙ ap (λ c. slice_get c (past before half.step)) (halves rest)
        ∙ get-past before (from ++ rest) half.step
        ∙ half.step_is rest;
    goes_on = λ rest n u on way e.
        ap (λ c. outcome_from program words c (suc (suc (suc (suc (past before half.step))))) u) (parts rest)
        ∙ three-passed (half.turns_behind + n) u on (outcome_from program words (below ++ Behind rest) (suc (past before half.step)) u) way
        (ap (λ c. outcome_from program words c (suc (past before half.step)) u) (halves rest)
        ∙ ap (λ k. outcome_from program words (before ++ (from ++ rest)) k u) (sym (past-suc before half.step))
        ∙ way-past program words (half.turns_behind + n) (suc half.step) before (from ++ rest) u on way (half.goes_on rest n u on way e));
    behind_in_time = omega (arith, half.behind_in_time);
  }

-- ---- the whole tree

below-length : (starts : List Start) → length (take (length starts / 2) starts) ≡ length starts / 2
below-length starts = length-take-le (length starts / 2) starts (omega arith)

from-length : (starts : List Start) → length (drop (length starts / 2) starts) ≡ length starts - length starts / 2
from-length starts = length-drop (length starts / 2) starts

module _ (program : Program) (words levels x : ℕ) (starts below from : List Start) (low high : List Step) (w : Workspace) (joined : below ++ from ≡ starts) (some : 1 ≤ length below) (more : 1 ≤ length from) (rise : Rise (below ++ from)) (word : IsWord x) (at : w.locals 0 ≡ int x) where
  by-test : (b : Bool) → is_below x (first_of from) ≡ b → Follows program words levels (chosen below x) low w → Follows program words levels (chosen from x) high w → Follows program words (suc levels) (chosen starts x) (halves_code (first_of from) low high) w
  by-test true is lower upper =
      subst (λ m. Follows program words (suc levels) m (halves_code (first_of from) low high) w)
      (sym (chosen-below x below from word some rise is) ∙ ap (λ l. chosen l x) joined)
      (lower-follows program words levels (chosen below x) (first_of from) x low high w at is lower)
  by-test false is lower upper =
      subst (λ m. Follows program words (suc levels) m (halves_code (first_of from) low high) w)
      (sym (chosen-from x below from some more is) ∙ ap (λ l. chosen l x) joined)
      (upper-follows program words levels (chosen from x) (first_of from) x low high w at is upper)

pub tree-follows : (program : Program) (words n levels x : ℕ) (starts : List Start) (w : Workspace) → length starts ≤ n → 1 ≤ length starts → length starts ≤ 2 ^ levels → Rise starts → AreMethods program starts → IsWord x → w.locals 0 ≡ int x → Follows program words levels (chosen starts x) (tree_of n starts) w
tree-follows program words zero levels x starts w few some room rise methods word at = absurd (omega (arith, few, some))
tree-follows program words (suc n) levels x [] w few some room rise methods word at = absurd (omega (arith, some))
tree-follows program words (suc n) levels x (s ∷ []) w few some room rise methods word at =
    one-follows program words levels s.method w (All-head (λ (t : Start). IsMethod program t.method) s [] methods)
tree-follows program words (suc n) zero x (s ∷ t ∷ rest) w few some room rise methods word at = absurd (omega (arith, room))
tree-follows program words (suc n) (suc levels) x (s ∷ t ∷ rest) w few some room rise methods word at =
    let starts : List Start = s ∷ t ∷ rest in
    let half = length starts / 2 in
    let below : List Start = take half starts in
    let from : List Start = drop half starts in
    let joined = take-append-drop half starts in
    let rise_both : Rise (below ++ from) = subst Rise (sym joined) rise in
    let below_length = below-length starts in
    let from_length = from-length starts in
    let double : 2 ^ suc levels ≡ 2 * 2 ^ levels = omega arith in
    by-test program words levels x starts below from (tree_of n below) (tree_of n from) w joined (omega (arith, below_length)) (omega (arith, from_length)) rise_both word at (is_below x (first_of from)) refl
    (tree-follows program words n levels x below w (omega (arith, below_length, few)) (omega (arith, below_length)) (omega (arith, below_length, room, double)) (rise-front below from 0 rise_both) (All-take (λ (r : Start). IsMethod program r.method) half starts methods) word at)
    (tree-follows program words n levels x from w (omega (arith, from_length, few)) (omega (arith, from_length)) (omega (arith, from_length, room, double)) (rise-back below from 0 rise_both) (All-drop (λ (r : Start). IsMethod program r.method) half starts methods) word at)

ended-way : IsWay ended
ended-way = record { passed = λ n u. refl; grown = λ n u. refl }

pub tree-calls : (program : Program) (words levels x : ℕ) (starts : List Start) (w : Workspace) → 1 ≤ length starts → length starts ≤ 2 ^ levels → Rise starts → AreMethods program starts → IsWord x → w.locals 0 ≡ int x → Calls program words (3 * levels) (tree starts) w w (chosen starts x) levels ended
tree-calls program words levels x starts w some room rise methods word at =
    let t = tree-follows program words (length starts) levels x starts w (omega arith) some room rise methods word at in
    let alone : tree starts ++ [] ≡ tree starts = append-nil (tree starts) in
    record {
      turns = t.turns;
      step = t.step;
      turns_behind = t.turns_behind;
      comes = ap (λ c. outcome program words c w) (sym alone) ∙ t.comes [];
      in_time = t.in_time;
      step_is = ap (λ c. slice_get c t.step) (sym alone) ∙ t.step_is [];
      goes_on = λ u.
          ap (λ c. outcome_from program words c (suc t.step) u) (sym alone)
          ∙ t.goes_on [] 0 u ended ended-way refl
          ∙ (let same : t.turns_behind + 0 ≡ t.turns_behind = omega arith in ap (λ k. ended k u) same);
      behind_in_time = t.behind_in_time;
    }
