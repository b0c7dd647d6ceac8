-- An instruction does more of what it does to a frame to one above it.
use Rattle.std.proofs.Common.{◌≡◌, ℕ, ◌≤◌, Bool, true, false, List, ◌∷◌, ◌++◌, refl, sym, ap, subst, ◌∙◌, Option, Some, None, arith, get_or}
use Rattle.std.specs.Prelude.{option_map, if◌then◌else◌, nat_eq, All}
use Rattle.std.proofs.lemmas.Option.{same_Some}
use Rattle.jvm_definition.specs.declared.kind.Kind.{Kind}
use Rattle.jvm_definition.specs.declared.kind.Kind.TheVariants.{Int}
use Rattle.jvm_definition.specs.declared.local_kind.LocalKind.{LocalKind}
use Rattle.jvm_definition.specs.declared.linked_line.LinkedLine.{LinkedLine}
use Rattle.jvm_definition.specs.declared.linked_method.LinkedMethod.{LinkedMethod}
use Rattle.jvm_definition.specs.Program.{Program, line_in, successors}
use Rattle.jvm_definition.specs.Shuffles.{shuffled}
use Rattle.jvm_definition.specs.Typing.{TypeFrame, Below, below, TypeEffect, exchanges, takes_reference, takes_array, loads, stores, increments, shuffles, never, type_effect, applied, with_stack, with_local_kind, taken, taken_one, stored_type, moves_kind, is_reference_kind, is_array_kind, is_long_kind, same_kind, Frames, Receives, IsTypingTo}
use Rattle.jvm_type_inference.specs.Actions.{Enters}
use Rattle.jvm_type_inference.proofs.KindLaws.{below-refl, reference-below, array-below, moves-below, int-below, moved-long}
use Rattle.jvm_type_inference.proofs.StackLaws.{Fits, none, one, Fits-from, below-from, Fits-append, Fits-slots, if_some, if-true, option_map_some, taken-below, taken_one-below, shuffled-below}
use Rattle.jvm_type_inference.proofs.JoinLaws.{Below-trans}

pub record FitsFrame (f g : TypeFrame) : Type 0 where
  pub locals : (i : ℕ) → below (f.locals i) (g.locals i) ≡ true
  pub stack : Fits f.stack g.stack

abbrev Goes : Option TypeFrame → TypeFrame → Type 0
Goes o b = (a : TypeFrame) × (o ≡ Some a) × FitsFrame a b

stack-goes : (h : List Kind → List Kind) (f g b : TypeFrame) (o p : Option (List Kind)) → FitsFrame f g → ((ks os : List Kind) → Fits ks os → Fits (h ks) (h os)) → ((rest : List Kind) → p ≡ Some rest → (ks : List Kind) × (o ≡ Some ks) × Fits ks rest) → option_map (λ s. with_stack g (h s)) p ≡ Some b → Goes (option_map (λ s. with_stack f (h s)) o) b
stack-goes h f g b o p fits keeps down e =
    let r = option_map_some (λ s. with_stack g (h s)) p b e in
    let k = down r.0 r.1 in
    (with_stack f (h k.0), ap (option_map (λ s. with_stack f (h s))) k.1, subst (λ x. FitsFrame (with_stack f (h k.0)) x) r.2 (record { locals = fits.locals; stack = keeps k.0 r.0 k.2 }))

-- the test of a load or store passes below too
test-goes : (t u : Bool) (x y b : TypeFrame) → (u ≡ true → t ≡ true) → (u ≡ true → FitsFrame x y) → (if u then Some y else None) ≡ Some b → Goes (if t then Some x else None) b
test-goes t u x y b down fits e =
    let p = if_some u (Some y) b e in
    (x, if-true t (Some x) None (down p.0), subst (λ z. FitsFrame x z) (same_Some y b p.1) (fits p.0))

moved-fits : (moved : LocalKind) (k o : Kind) {ks os : List Kind} → below k o ≡ true → moves_kind moved o ≡ true → Fits ks os → Fits (k ∷ ks) (o ∷ os)
moved-fits moved k o b m f = one b (moved-long moved k (moves-below moved k o b m) ∙ sym (moved-long moved o m)) f

local-below : (f g : TypeFrame) (i k : ℕ) (s t : Kind) → ((j : ℕ) → below (f.locals j) (g.locals j) ≡ true) → below s t ≡ true → below (if nat_eq k i then s else f.locals k) (if nat_eq k i then t else g.locals k) ≡ true
local-below f g i k s t all b = by-test (nat_eq k i)
  where
    by-test : (c : Bool) → below (if c then s else f.locals k) (if c then t else g.locals k) ≡ true
    by-test true = b
    by-test false = all k

stored-goes : (moved : LocalKind) (i : ℕ) (f g b : TypeFrame) {ks os : List Kind} → ((j : ℕ) → below (f.locals j) (g.locals j) ≡ true) → Fits ks os → stored_type moved i g os ≡ Some b → Goes (stored_type moved i f ks) b
stored-goes moved i f g b all none e = cc
stored-goes moved i f g b all (one {k = k} {o = o} {ks = ks} {os = os} d l t) e =
    test-goes (moves_kind moved k) (moves_kind moved o) (with_local_kind f i k ks) (with_local_kind g i o os) b
    (moves-below moved k o d)
    (λ _. record { locals = λ j. local-below f g i j k o all d; stack = t })
    e

pub applied-goes : (e : TypeEffect) (f g b : TypeFrame) → FitsFrame f g → applied e g ≡ Some b → Goes (applied e f) b
applied-goes (exchanges kinds given) f g b fits h =
    stack-goes (λ s. given ++ s) f g b (taken kinds f.stack) (taken kinds g.stack) fits (λ ks os k. Fits-append given k) (λ rest k. taken-below kinds rest fits.stack k) h
applied-goes takes_reference f g b fits h =
    stack-goes (λ s. s) f g b (taken_one is_reference_kind f.stack) (taken_one is_reference_kind g.stack) fits (λ ks os k. k) (λ rest k. taken_one-below is_reference_kind rest reference-below fits.stack k) h
applied-goes takes_array f g b fits h =
    stack-goes (λ s. Int ∷ s) f g b (taken_one is_array_kind f.stack) (taken_one is_array_kind g.stack) fits (λ ks os k. one (below-refl Int) refl k) (λ rest k. taken_one-below is_array_kind rest array-below fits.stack k) h
applied-goes (loads moved i) f g b fits h =
    test-goes (moves_kind moved (f.locals i)) (moves_kind moved (g.locals i)) (with_stack f (f.locals i ∷ f.stack)) (with_stack g (g.locals i ∷ g.stack)) b
    (moves-below moved (f.locals i) (g.locals i) (fits.locals i))
    (λ m. record { locals = fits.locals; stack = moved-fits moved (f.locals i) (g.locals i) (fits.locals i) m fits.stack })
    h
applied-goes (stores moved i) f g b fits h = stored-goes moved i f g b fits.locals fits.stack h
applied-goes (increments i) f g b fits h =
    test-goes (same_kind (f.locals i) Int) (same_kind (g.locals i) Int) f g b (int-below (f.locals i) (g.locals i) (fits.locals i)) (λ _. fits) h
applied-goes (shuffles forms) f g b fits h =
    stack-goes (λ s. s) f g b (shuffled is_long_kind forms f.stack) (shuffled is_long_kind forms g.stack) fits (λ ks os k. k) (λ rest k. shuffled-below forms rest fits.stack k) h
applied-goes never f g b fits h = cc

-- ---- what a typing above a frame says of the instruction that is entered with it

received-below : (method : LinkedMethod) (others : Frames) (a b : TypeFrame) (to : ℕ) → Below a b → Receives method others b to → Receives method others a to
received-below method others a b to under r = (r.0, r.1, r.2, r.3, Below-trans a b r.1 under r.4)

pub typing-step : (program : Program) (method : LinkedMethod) (others : Frames) (last at : ℕ) (line : LinkedLine) (f g : TypeFrame) → IsTypingTo program method others last → at ≤ last → line_in method.lines at ≡ Some line → others at ≡ Some g → Below f g → (a : TypeFrame) × Enters program method line.instruction f a × All (Receives method others a) (successors line)
typing-step program method others last at line f g typing admitted is there under =
    let rule = typing.rules at line g admitted is there in
    let fits : FitsFrame f g = record { locals = under.locals; stack = Fits-from f.stack g.stack under.stack (typing.operands at g there) } in
    let r = applied-goes (type_effect program line.instruction) f g rule.behind fits rule.fits in (
      r.0,
      record { local = rule.local; fits = r.1; within = omega (arith, rule.within, Fits-slots r.2.stack) },
      λ k d h. received-below method others r.0 rule.behind (get_or (successors line) k d) (record { locals = r.2.locals; stack = below-from r.2.stack }) (rule.goes_on k d h),
    )
