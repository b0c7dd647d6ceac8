-- What the frames of a least typing are like: no local variable is a long, and there is room for the operands.
use Rattle.std.proofs.Common.{◌≡◌, ℕ, ◌≤◌, Bool, true, false, eqb, List, [], ◌∷◌, ◌++◌, length, Option, Some, None, refl, sym, ap, subst, ◌∙◌, arith, get_or}
use Rattle.std.specs.Prelude.{if◌then◌else◌, not, nat_le, option_map}
use Rattle.std.proofs.lemmas.Bool.{and_parts, false≢true, le-leb, leb-true}
use Rattle.std.proofs.lemmas.Option.{same_Some, none-some}
use Rattle.jvm_definition.specs.declared.kind.Kind.{Kind}
use Rattle.jvm_definition.specs.declared.kind.Kind.TheVariants.{Top, Int, Long, Null, Ints, Pages, Text}
use Rattle.jvm_definition.specs.declared.local_kind.LocalKind.{LocalKind}
use Rattle.jvm_definition.specs.declared.local_kind.LocalKind.TheVariants as local_kinds
use Rattle.jvm_definition.specs.declared.linked_method.LinkedMethod.{LinkedMethod}
use Rattle.jvm_definition.specs.Program.{Program, successors}
use Rattle.jvm_definition.specs.Shuffles.{shuffled}
use Rattle.jvm_definition.specs.Typing.{TypeFrame, Below, Frames, TypeEffect, exchanges, takes_reference, takes_array, loads, stores, increments, shuffles, never, is_long_kind, is_reference_kind, is_array_kind, below, stack_below, no_top, slots_of, with_stack, with_local_kind, taken, taken_one, moves_kind, stored_type, applied, type_effect, entry_frame}
use Rattle.jvm_type_inference.specs.Reached.{IsClosed, Reached}
use Rattle.jvm_type_inference.specs.Verdict.{AreLeast}
use Rattle.jvm_type_inference.proofs.LeastLaws.{typed-exactly, is-some}

-- ---- longs

moved-short : (moved : LocalKind) (k : Kind) → moves_kind moved k ≡ true → is_long_kind k ≡ false
moved-short local_kinds.Int Long e = absurd (false≢true e)
moved-short local_kinds.Reference Long e = absurd (false≢true e)
moved-short moved Top e = refl
moved-short moved Int e = refl
moved-short moved Null e = refl
moved-short moved Ints e = refl
moved-short moved Pages e = refl
moved-short moved Text e = refl

below-short : (k o : Kind) → below k o ≡ true → is_long_kind k ≡ false → is_long_kind o ≡ false
below-short Long Long b e = e
below-short Top Long b e = absurd (false≢true b)
below-short Int Long b e = absurd (false≢true b)
below-short Null Long b e = absurd (false≢true b)
below-short Ints Long b e = absurd (false≢true b)
below-short Pages Long b e = absurd (false≢true b)
below-short Text Long b e = absurd (false≢true b)
below-short k Top b e = refl
below-short k Int b e = refl
below-short k Null b e = refl
below-short k Ints b e = refl
below-short k Pages b e = refl
below-short k Text b e = refl

mapped-some : {A : Type 0} (g : A → TypeFrame) (o : Option A) (b : TypeFrame) → option_map g o ≡ Some b → (x : A) × (g x ≡ b)
mapped-some g None b e = absurd (none-some b e)
mapped-some g (Some x) b e = (x, same_Some (g x) b e)

chosen-some : (t : Bool) (x b : TypeFrame) → (if t then Some x else None) ≡ Some b → (t ≡ true) × (x ≡ b)
chosen-some true x b e = (refl, same_Some x b e)
chosen-some false x b e = absurd (none-some b e)

abbrev IsShortAt : ℕ → TypeFrame → Type 0
IsShortAt i f = is_long_kind (f.locals i) ≡ false

stored-short : (moved : LocalKind) (n i : ℕ) (f b : TypeFrame) (stack : List Kind) → stored_type moved n f stack ≡ Some b → IsShortAt i f → IsShortAt i b
stored-short moved n i f b [] e s = absurd (none-some b e)
stored-short moved n i f b (k ∷ stack) e s =
    let c = chosen-some (moves_kind moved k) (with_local_kind f n k stack) b e in
    subst (IsShortAt i) c.1 (by-place (eqb i n) (moved-short moved k c.0))
  where
    by-place : (t : Bool) → is_long_kind k ≡ false → is_long_kind (if t then k else f.locals i) ≡ false
    by-place true h = h
    by-place false h = s

applied-short : (effect : TypeEffect) (i : ℕ) (f b : TypeFrame) → applied effect f ≡ Some b → IsShortAt i f → IsShortAt i b
applied-short (exchanges kinds given) i f b e s = let m = mapped-some (λ (stack : List Kind). with_stack f (given ++ stack)) (taken kinds f.stack) b e in subst (IsShortAt i) m.1 s
applied-short takes_reference i f b e s = let m = mapped-some (with_stack f) (taken_one is_reference_kind f.stack) b e in subst (IsShortAt i) m.1 s
applied-short takes_array i f b e s = let m = mapped-some (λ (stack : List Kind). with_stack f (Int ∷ stack)) (taken_one is_array_kind f.stack) b e in subst (IsShortAt i) m.1 s
applied-short (loads moved n) i f b e s = let c = chosen-some (moves_kind moved (f.locals n)) (with_stack f (f.locals n ∷ f.stack)) b e in subst (IsShortAt i) c.1 s
applied-short (stores moved n) i f b e s = stored-short moved n i f b f.stack e s
applied-short (increments n) i f b e s = let c = chosen-some _ f b e in subst (IsShortAt i) c.1 s
applied-short (shuffles forms) i f b e s = let m = mapped-some (with_stack f) (shuffled is_long_kind forms f.stack) b e in subst (IsShortAt i) m.1 s
applied-short never i f b e s = absurd (none-some b e)

-- ---- slots

same-size : (k o : Kind) → below k o ≡ true → (o ≡ Top → ⊥) → is_long_kind k ≡ is_long_kind o
same-size Top Top b h = absurd (h refl)
same-size Top Int b h = absurd (false≢true b)
same-size Top Long b h = absurd (false≢true b)
same-size Top Null b h = absurd (false≢true b)
same-size Top Ints b h = absurd (false≢true b)
same-size Top Pages b h = absurd (false≢true b)
same-size Top Text b h = absurd (false≢true b)
same-size Int Top b h = absurd (h refl)
same-size Int Int b h = refl
same-size Int Long b h = absurd (false≢true b)
same-size Int Null b h = absurd (false≢true b)
same-size Int Ints b h = absurd (false≢true b)
same-size Int Pages b h = absurd (false≢true b)
same-size Int Text b h = absurd (false≢true b)
same-size Long Top b h = absurd (h refl)
same-size Long Int b h = absurd (false≢true b)
same-size Long Long b h = refl
same-size Long Null b h = absurd (false≢true b)
same-size Long Ints b h = absurd (false≢true b)
same-size Long Pages b h = absurd (false≢true b)
same-size Long Text b h = absurd (false≢true b)
same-size Null Top b h = absurd (h refl)
same-size Null Int b h = absurd (false≢true b)
same-size Null Long b h = absurd (false≢true b)
same-size Null Null b h = refl
same-size Null Ints b h = refl
same-size Null Pages b h = refl
same-size Null Text b h = refl
same-size Ints Top b h = absurd (h refl)
same-size Ints Int b h = absurd (false≢true b)
same-size Ints Long b h = absurd (false≢true b)
same-size Ints Null b h = absurd (false≢true b)
same-size Ints Ints b h = refl
same-size Ints Pages b h = absurd (false≢true b)
same-size Ints Text b h = absurd (false≢true b)
same-size Pages Top b h = absurd (h refl)
same-size Pages Int b h = absurd (false≢true b)
same-size Pages Long b h = absurd (false≢true b)
same-size Pages Null b h = absurd (false≢true b)
same-size Pages Ints b h = absurd (false≢true b)
same-size Pages Pages b h = refl
same-size Pages Text b h = absurd (false≢true b)
same-size Text Top b h = absurd (h refl)
same-size Text Int b h = absurd (false≢true b)
same-size Text Long b h = absurd (false≢true b)
same-size Text Null b h = absurd (false≢true b)
same-size Text Ints b h = absurd (false≢true b)
same-size Text Pages b h = absurd (false≢true b)
same-size Text Text b h = refl

top-apart : (k : Kind) (ks : List Kind) → no_top (k ∷ ks) ≡ true → (k ≡ Top → ⊥) × (no_top ks ≡ true)
top-apart Top ks e = absurd (false≢true e)
top-apart Int ks e = (λ h. cc, e)
top-apart Long ks e = (λ h. cc, e)
top-apart Null ks e = (λ h. cc, e)
top-apart Ints ks e = (λ h. cc, e)
top-apart Pages ks e = (λ h. cc, e)
top-apart Text ks e = (λ h. cc, e)

slots-same : (ks os : List Kind) → stack_below ks os ≡ true → no_top os ≡ true → slots_of ks ≡ slots_of os
slots-same [] [] b h = refl
slots-same [] (o ∷ os) b h = absurd (false≢true b)
slots-same (k ∷ ks) [] b h = absurd (false≢true b)
slots-same (k ∷ ks) (o ∷ os) b h =
    let p = and_parts (below k o) (stack_below ks os) b in
    let t = top-apart o os h in
    let one : ◌≡◌ {A = ℕ} (if is_long_kind k then 2 else 1) (if is_long_kind o then 2 else 1) = ap {B = ℕ} (λ (x : Bool). if x then 2 else 1) (same-size k o p.0 t.0) in
    omega (arith, one, slots-same ks os p.1 t.1)

pub stack-length : (ks : List Kind) → length ks ≤ slots_of ks
stack-length [] = omega arith
stack-length (k ∷ ks) = omega (arith, stack-length ks, one (is_long_kind k))
  where
    one : (b : Bool) → 1 ≤ (if b then 2 else 1)
    one true = omega arith
    one false = omega arith

empty-below : (os : List Kind) → stack_below [] os ≡ true → slots_of os ≡ 0
empty-below [] b = refl
empty-below (o ∷ os) b = absurd (false≢true b)

-- ---- of the least typing

abbrev passes : (TypeFrame → Bool) → Option TypeFrame → Bool
passes test None = false
passes test (Some f) = test f

passing : (test : TypeFrame → Bool) (o : Option TypeFrame) → passes test o ≡ true → (f : TypeFrame) × (o ≡ Some f) × (test f ≡ true)
passing test None e = absurd (false≢true e)
passing test (Some f) e = (f, refl, e)

module _ (program : Program) (method : LinkedMethod) (frames : Frames) (least : AreLeast program method frames) where
  -- a test that each frame passes to which one that passes it flows
  module _ (test : TypeFrame → Bool)
      (first : (g : TypeFrame) → Below (entry_frame method) g → no_top g.stack ≡ true → test g ≡ true)
      (kept : (effect : TypeEffect) (f b g : TypeFrame) → applied effect f ≡ Some b → slots_of b.stack ≤ method.stack → Below b g → no_top g.stack ≡ true → test f ≡ true → test g ≡ true) where
    closed : IsClosed method (λ at. passes test (frames at))
    closed at line l e k d inside =
        let p = passing test (frames at) e in
        let rule = (least.typing at).rules at line p.0 (omega arith) l p.1 in
        let r = rule.goes_on k d inside in
        let g = r.1 in
        let to : ℕ = get_or (successors line) k d in
        ap (passes test) r.3 ∙ kept (type_effect program line.instruction) p.0 rule.behind g rule.fits rule.within r.4 ((least.typing to).operands to g r.3) p.2

    pub all-pass : (at : ℕ) (f : TypeFrame) → frames at ≡ Some f → test f ≡ true
    all-pass at f e =
        let reached : Reached method at = (typed-exactly program method frames least at).0 (is-some (frames at) f e) in
        let r = (least.typing 0).entry in
        let zero-in : passes test (frames 0) ≡ true = ap (passes test) r.3 ∙ first r.1 r.4 ((least.typing 0).operands 0 r.1 r.3) in
        sym (ap (passes test) e) ∙ reached (λ x. passes test (frames x)) zero-in closed

  not-long : (k : Kind) → not (is_long_kind k) ≡ true → is_long_kind k ≡ false
  not-long k e = by-case (is_long_kind k) e
    where
      by-case : (b : Bool) → not b ≡ true → b ≡ false
      by-case true h = absurd (false≢true h)
      by-case false h = refl

  pub locals-short : ((i : ℕ) → is_long_kind ((entry_frame method).locals i) ≡ false) → (at : ℕ) (f : TypeFrame) (i : ℕ) → frames at ≡ Some f → is_long_kind (f.locals i) ≡ false
  locals-short parameters at f i e =
      not-long (f.locals i) (all-pass (λ g. not (is_long_kind (g.locals i)))
      (λ g under typed. ap not (below-short ((entry_frame method).locals i) (g.locals i) (under.locals i) (parameters i)))
      (λ effect f' b g fits within under typed passed. ap not (below-short (b.locals i) (g.locals i) (under.locals i) (applied-short effect i f' b fits (not-long (f'.locals i) passed))))
      at f e)

  pub stack-within : (at : ℕ) (f : TypeFrame) → frames at ≡ Some f → slots_of f.stack ≤ method.stack
  stack-within at f e =
      leb-true (slots_of f.stack) method.stack (all-pass (λ g. nat_le (slots_of g.stack) method.stack)
      (λ g under typed. le-leb (slots_of g.stack) method.stack (omega (arith, empty-below g.stack under.stack)))
      (λ effect f' b g fits within under typed passed. le-leb (slots_of g.stack) method.stack (omega (arith, slots-same b.stack g.stack under.stack typed, within)))
      at f e)
