-- The methods that choose.
use Rattle.std.proofs.Common.{◌≡◌, ℕ, zero, suc, ◌+◌, ◌/◌, ◌==◌, Bool, true, false, if◌then◌else◌, List, [], ◌∷◌, ◌++◌, length, take, drop, refl, sym}
use Rattle.std.specs.Prelude.{Some, None, All}
use Rattle.std.proofs.lemmas.Bool.{eqb-true, and_parts, and_from}
use Rattle.std.proofs.lemmas.Option.{none-some, same_Some}
use Rattle.std.proofs.lemmas.List.Elements.{All-head, All-take, All-drop}
use Rattle.jvm_definition.specs.declared.branch_name.BranchName.TheVariants.{IfIcmpge, Goto}
use Rattle.jvm_definition.specs.declared.kind.Kind.{Kind}
use Rattle.jvm_definition.specs.declared.kind.Kind.TheVariants.{Top, Int}
use Rattle.jvm_definition.specs.declared.local_kind.LocalKind.TheVariants as local_kinds
use Rattle.jvm_definition.specs.declared.instruction.Instruction.TheVariants.{Load, Call}
use Rattle.jvm_definition.specs.Program.{Program}
use Rattle.jvm_definition.specs.Typing.{TypeFrame, Below, below, with_stack, with_local_kind}
use Rattle.emit_steps.specs.declared.step.Step.{Step}
use Rattle.emit_steps.specs.declared.step.Step.TheVariants.{Does, Skips, Leaves}
use Rattle.emit_instructions.specs.Access.{push_word}
use Rattle.trampoline.specs.declared.start.Start.{Start}
use Rattle.trampoline.specs.Trees.{first_of, tree_of, tree}
use Rattle.trampoline.specs.Choosers.{address_code, within_code, strayed_code, chosen_code, class_chooser, main_chooser, missing_method}
use Rattle.emit_types_laws.specs.Judging.{Rules, TakesGives, Leads, TypesFrom, typed_as}
use Rattle.emit_types_laws.specs.Bodies.{all_names_below, names_below}
use Rattle.emit_types_laws.specs.Flowing.{Flows}
use Rattle.emit_types_laws.proofs.TypedSteps.Flow.{flows-from}
use Rattle.emit_types_laws.proofs.TypedSteps.Joining.{codes-lead, nothing-leads, either-leads}
use Rattle.emit_types_laws.proofs.TypedSteps.KindOrder.{same, below-top}
use Rattle.emit_types_laws.proofs.TypedSteps.Looping.{begun-body}
use Rattle.emit_types_laws.proofs.TypedSteps.Passing.{call-flows}
use Rattle.emit_types_laws.specs.Methods.{taking, owes_beginning, owes_nothing, IsBody, IsStart}
use Rattle.emit_types_laws.proofs.TypedMethods.Helpers.{owing, plain-body}

-- a local variable of which nothing is known above may be written
pub forgets : (f g : TypeFrame) (i : ℕ) (kind : Kind) → Below f g → g.locals i ≡ Top → Below (with_local_kind f i kind f.stack) g
forgets f g i kind b top = record { locals = λ k. by_test k (k == i) (λ e. eqb-true k i e); stack = b.stack }
  where
    by_test : (k : ℕ) (same_place : Bool) → (same_place ≡ true → k ≡ i) → below (if same_place then kind else f.locals k) (g.locals k) ≡ true
    by_test k true is = rw (is refl, top) (below-top kind)
    by_test k false is = b.locals k

-- the address is in local variable 0
abbrev at_address : TypeFrame
at_address = with_local_kind (taking []) 0 Int []

address-forgotten : Below at_address (taking [])
address-forgotten = forgets (taking []) (taking []) 0 Int (same (taking [])) refl

abbrev beginning : Program → Rules
beginning program = record { program = program; owes = owes_beginning; more = 2 }

-- ---- trees

pub tree-leads : (program : Program) (levels : ℕ) (starts : List Start) → All (IsStart program) starts
    → Leads (beginning program) (tree_of levels starts) at_address at_address
tree-leads program zero starts all = nothing-leads (beginning program) at_address
tree-leads program (suc levels) [] all = nothing-leads (beginning program) at_address
tree-leads program (suc levels) (s ∷ []) all =
    flows-from (beginning program) (Does (Call s.method) ∷ []) at_address (at_address ∷ [])
    (call-flows (beginning program) s.method [] false at_address [] [] (Flows (beginning program) [] (at_address ∷ []))
    (All-head (IsStart program) s [] all) refl refl (same at_address, tt))
tree-leads program (suc levels) (s ∷ t ∷ rest) all =
    let starts = s ∷ t ∷ rest in
    let half = length starts / 2 in
    let lower = tree_of levels (take half starts) in
    let upper = tree_of levels (drop half starts) in
    let first = first_of (drop half starts) in
    let two = with_stack at_address (Int ∷ Int ∷ []) in
    codes-lead (beginning program) (Does (Load local_kinds.Int 0) ∷ push_word first ∷ [])
    (Skips IfIcmpge (length lower + 1) ∷ (lower ++ Skips Goto (length upper) ∷ upper)) at_address two (at_address ∷ [])
    (flows-from (beginning program) (Does (Load local_kinds.Int 0) ∷ push_word first ∷ []) at_address (two ∷ []) (same two, tt))
    (either-leads (beginning program) IfIcmpge lower upper two at_address at_address (length lower + 1) (length upper)
    (record { plain = refl; fits = refl; within = refl }) refl refl refl
    (tree-leads program levels (take half starts) (All-take (IsStart program) half starts all))
    (tree-leads program levels (drop half starts) (All-drop (IsStart program) half starts all)))

-- ---- local variables

pub names-append : (count : ℕ) (first second : List Step) → all_names_below count first ≡ true → all_names_below count second ≡ true
    → all_names_below count (first ++ second) ≡ true
names-append count [] second a b = b
names-append count (s ∷ first) second a b =
    let p = and_parts (names_below count (typed_as s)) (all_names_below count first) a in
    and_from (names_below count (typed_as s)) (all_names_below count (first ++ second)) p.0 (names-append count first second p.1 b)

tree-names : (levels : ℕ) (starts : List Start) → all_names_below 1 (tree_of levels starts) ≡ true
tree-names zero starts = refl
tree-names (suc levels) [] = refl
tree-names (suc levels) (s ∷ []) = refl
tree-names (suc levels) (s ∷ t ∷ rest) =
    let starts = s ∷ t ∷ rest in
    let half = length starts / 2 in
    names-append 1 (tree_of levels (take half starts)) (Skips Goto (length (tree_of levels (drop half starts))) ∷ tree_of levels (drop half starts))
    (tree-names levels (take half starts)) (tree-names levels (drop half starts))

-- ---- methods

owes-beginning : (at : ℕ) (f : TypeFrame) → owes_beginning at ≡ Some f → (at ≡ 0) × (f ≡ taking [])
owes-beginning at f h = by_test (at == 0) (λ e. eqb-true at 0 e) h
  where
    by_test : (b : Bool) → (b ≡ true → at ≡ 0) → (if b then Some (taking []) else None) ≡ Some f → (at ≡ 0) × (f ≡ taking [])
    by_test true is h = (is refl, sym (same_Some (taking []) f h))
    by_test false is h = absurd (none-some f h)

-- the tree is followed, and the method is begun anew
chosen : (program : Program) (starts : List Start) → All (IsStart program) starts → TypesFrom (beginning program) (chosen_code starts) at_address []
chosen program starts all =
    codes-lead (beginning program) (tree starts) (Leaves 0 ∷ []) at_address at_address [] (tree-leads program (length starts) starts all)
    (flows-from (beginning program) (Leaves 0 ∷ []) at_address [] (address-forgotten, (tt, tt)))

pub main-chooser-typed : (program : Program) (starts : List Start) (missing : ℕ) → TakesGives program missing [] false
    → All (IsStart program) starts → IsBody program owes_beginning [] 1 (main_chooser starts missing)
main-chooser-typed program starts missing h all =
    let rules = beginning program in
    let first = first_of starts in
    let front : Leads rules (address_code ++ strayed_code first missing) (taking []) at_address =
    flows-from rules (address_code ++ strayed_code first missing) (taking []) (at_address ∷ []) (
      same at_address,
      call-flows rules missing [] false at_address [] (None ∷ Some at_address ∷ []) (Flows rules (Leaves 0 ∷ []) (at_address ∷ [])) h refl refl
          (address-forgotten, (tt, (same at_address, tt))),
    ) in
    record {
      names = names-append 1 (tree starts) (Leaves 0 ∷ []) (tree-names (length starts) starts) refl;
      types = begun-body rules _ _ (taking []) owes-beginning
          (codes-lead rules (address_code ++ strayed_code first missing) (chosen_code starts) (taking []) at_address [] front
          (chosen program starts all));
    }

pub class-chooser-typed : (program : Program) (starts : List Start) (first end : ℕ) → All (IsStart program) starts
    → IsBody program owes_beginning [] 1 (class_chooser starts first end)
class-chooser-typed program starts first end all =
    let rules = beginning program in
    let front : Leads rules (address_code ++ within_code first end) (taking []) at_address =
    flows-from rules (address_code ++ within_code first end) (taking []) (at_address ∷ [])
    (same at_address, (same at_address, (tt, (same at_address, tt)))) in
    record {
      names = names-append 1 (tree starts) (Leaves 0 ∷ []) (tree-names (length starts) starts) refl;
      types = begun-body rules _ _ (taking []) owes-beginning
          (codes-lead rules (address_code ++ within_code first end) (chosen_code starts) (taking []) at_address [] front
          (chosen program starts all));
    }

pub missing-typed : (program : Program) (metered : Bool) → IsBody program owes_nothing [] 1 (missing_method metered)
missing-typed program true = record {
  names = refl;
  types = plain-body program (missing_method true) (taking [])
      (flows-from (owing program) (missing_method true) (taking []) [] (same _, (same _, (tt, tt))));
}
missing-typed program false = record {
  names = refl;
  types = plain-body program (missing_method false) (taking [])
      (flows-from (owing program) (missing_method false) (taking []) [] (same _, (tt, tt)));
}
