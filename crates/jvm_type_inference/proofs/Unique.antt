-- A method has one least typing at most, so it is a proposition that each method has one.
use mathlib.Core.HLevel.{Π_prop, is_prop→PathP, Unit-prop}
use Rattle.std.proofs.Common.{◌≡◌, ℕ, ◌<◌, ◌≤◌, true, List, [], ◌∷◌, length, Option, Some, None, refl, sym, ◌∙◌, ap, subst}
use Rattle.std.specs.Prelude.{slice_index_or}
use Rattle.std.proofs.Props.{props}
use Rattle.std.proofs.lemmas.Bool.{and_parts, false≢true}
use Rattle.std.proofs.lemmas.Option.{same_Some, none-some}
use Rattle.jvm_definition.specs.declared.kind.Kind.{Kind}
use Rattle.jvm_definition.specs.declared.kind.Kind.TheVariants.{Top, Int, Long, Null, Ints, Pages, Text}
use Rattle.jvm_definition.specs.declared.linked_line.LinkedLine.{LinkedLine}
use Rattle.jvm_definition.specs.declared.linked_method.LinkedMethod.{LinkedMethod}
use Rattle.jvm_definition.specs.Program.{Program, line_in, successors}
use Rattle.jvm_definition.specs.Typing.{TypeFrame, Below, below, stack_below, no_top, slots_of, Frames, TypeEffect, loads, stores, increments, type_effect, applied, local_within, Receives, Follows, IsTypingTo, IsTyping, AllTyped, entry_frame}
use Rattle.jvm_type_inference.specs.Verdict.{AreBelow, LeastTyping, AllLeastTyped}

-- ---- sets

Kind-set : IsSet Kind
Kind-set = hlevel props

TypeFrame-set : IsSet TypeFrame
TypeFrame-set = hlevel (props, Kind-set)

frames-set : IsSet (Option TypeFrame)
frames-set = hlevel (props, TypeFrame-set)

LinkedLine-set : IsSet LinkedLine
LinkedLine-set = hlevel (props, Kind-set)

lines-set : IsSet (Option LinkedLine)
lines-set = hlevel (props, LinkedLine-set)

-- ---- the rules are propositions

Below-prop : (f g : TypeFrame) → IsProp (Below f g)
Below-prop f g = hlevel props

local-prop : (e : TypeEffect) (count : ℕ) → IsProp (local_within e count)
local-prop (loads kind i) count = hlevel props
local-prop (stores kind i) count = hlevel props
local-prop (increments i) count = hlevel props
local-prop _ count = Unit-prop

above-prop : (f : TypeFrame) (o : Option TypeFrame)
    → IsProp ((g : TypeFrame) × (o ≡ Some g) × Below f g)
above-prop f o x y =
    let g : x.0 ≡ y.0 = same_Some x.0 y.0 (sym x.1 ∙ y.1) in
    λ i. (
      g i,
      is_prop→PathP (λ i. o ≡ Some (g i)) (λ i. frames-set o (Some (g i))) x.1 y.1 i,
      is_prop→PathP (λ i. Below f (g i)) (λ i. Below-prop f (g i)) x.2 y.2 i,
    )

AreBelow-prop : (frames others : Frames) → IsProp (AreBelow frames others)
AreBelow-prop frames others =
    Π_prop (λ at. Π_prop (λ f. Π_prop (λ _. above-prop f (others at))))

Receives-prop : (method : LinkedMethod) (frames : Frames) (f : TypeFrame) (at : ℕ)
    → IsProp (Receives method frames f at)
Receives-prop method frames f at x y =
    let l : x.0 ≡ y.0 = same_Some x.0 y.0 (sym x.2 ∙ y.2) in
    let g : x.1 ≡ y.1 = same_Some x.1 y.1 (sym x.3 ∙ y.3) in
    λ i. (
      l i,
      g i,
      is_prop→PathP (λ i. line_in method.lines at
          ≡ Some (l i)) (λ i. lines-set (line_in method.lines at) (Some (l i))) x.2 y.2 i,
      is_prop→PathP (λ i. frames at ≡ Some (g i)) (λ i. frames-set (frames at) (Some (g i)))
          x.3 y.3 i,
      is_prop→PathP (λ i. Below f (g i)) (λ i. Below-prop f (g i)) x.4 y.4 i,
    )

abbrev AllReceive : LinkedMethod → Frames → List ℕ → TypeFrame → Type 0
AllReceive method frames targets f = (k d : ℕ) → k < length targets
    → Receives method frames f (slice_index_or targets k d)

AllReceive-prop : (method : LinkedMethod) (frames : Frames) (targets : List ℕ) (f : TypeFrame)
    → IsProp (AllReceive method frames targets f)
AllReceive-prop method frames targets f =
    Π_prop (λ k. Π_prop (λ d.
    Π_prop (λ _. Receives-prop method frames f (slice_index_or targets k d))))

room-prop : (f : TypeFrame) (most : ℕ) → IsProp (slots_of f.stack ≤ most)
room-prop f most = hlevel props

Follows-prop : (program : Program) (method : LinkedMethod) (frames : Frames) (line : LinkedLine)
    (f : TypeFrame) → IsProp (Follows program method frames line f)
Follows-prop program method frames line f x y =
    let e = type_effect program line.instruction in
    let b : x.behind ≡ y.behind = same_Some x.behind y.behind (sym x.fits ∙ y.fits) in
    λ i. record {
      local = local-prop e method.locals x.local y.local i;
      behind = b i;
      fits = is_prop→PathP (λ i. applied e f ≡ Some (b i))
          (λ i. frames-set (applied e f) (Some (b i))) x.fits y.fits i;
      within = is_prop→PathP (λ i. slots_of (b i).stack ≤ method.stack)
          (λ i. room-prop (b i) method.stack) x.within y.within i;
      goes_on = is_prop→PathP (λ i. AllReceive method frames (successors line) (b i))
          (λ i. AllReceive-prop method frames (successors line) (b i)) x.goes_on y.goes_on i;
    }

operands-prop : (frames : Frames)
    → IsProp ((at : ℕ) (f : TypeFrame) → frames at ≡ Some f → no_top f.stack ≡ true)
operands-prop frames = hlevel props

parameters-prop : (method : LinkedMethod) → IsProp (length method.parameters ≤ method.locals)
parameters-prop method = hlevel props

IsTypingTo-prop : (program : Program) (method : LinkedMethod) (frames : Frames) (last : ℕ)
    → IsProp (IsTypingTo program method frames last)
IsTypingTo-prop program method frames last x y = λ i. record {
  operands = operands-prop frames x.operands y.operands i;
  parameters = parameters-prop method x.parameters y.parameters i;
  entry = Receives-prop method frames (entry_frame method) 0 x.entry y.entry i;
  rules = λ at line f to l e. Follows-prop program method frames line f (x.rules at line f to l e)
      (y.rules at line f to l e) i;
}

IsTyping-prop : (program : Program) (method : LinkedMethod) (frames : Frames)
    → IsProp (IsTyping program method frames)
IsTyping-prop program method frames = Π_prop (λ last. IsTypingTo-prop program method frames last)

abbrev IsLeast : Program → LinkedMethod → Frames → Type 0
IsLeast program method frames = (others : Frames) → IsTyping program method others
    → AreBelow frames others

IsLeast-prop : (program : Program) (method : LinkedMethod) (frames : Frames)
    → IsProp (IsLeast program method frames)
IsLeast-prop program method frames = Π_prop (λ others. Π_prop (λ _. AreBelow-prop frames others))

-- ---- frames below each other are the same

kinds-same : (a b : Kind) → below a b ≡ true → below b a ≡ true → a ≡ b
kinds-same Top Top h k = refl
kinds-same Int Int h k = refl
kinds-same Long Long h k = refl
kinds-same Null Null h k = refl
kinds-same Ints Ints h k = refl
kinds-same Pages Pages h k = refl
kinds-same Text Text h k = refl
kinds-same Top _ h k = absurd (false≢true h)
kinds-same _ Top h k = absurd (false≢true k)
kinds-same Null _ h k = absurd (false≢true k)
kinds-same _ _ h k = absurd (false≢true h)

stacks-same : (ks os : List Kind) → stack_below ks os ≡ true → stack_below os ks ≡ true → ks ≡ os
stacks-same [] [] h k = refl
stacks-same [] (o ∷ os) h k = absurd (false≢true h)
stacks-same (k ∷ ks) [] h e = absurd (false≢true h)
stacks-same (k ∷ ks) (o ∷ os) h e =
    let p = and_parts (below k o) (stack_below ks os) h in
    let q = and_parts (below o k) (stack_below os ks) e in
    let head : k ≡ o = kinds-same k o p.0 q.0 in
    let tail : ks ≡ os = stacks-same ks os p.1 q.1 in
    λ i. head i ∷ tail i

type_frames-same : (f g : TypeFrame) → Below f g → Below g f → f ≡ g
type_frames-same f g h k =
    let stack : f.stack ≡ g.stack = stacks-same f.stack g.stack h.stack k.stack in
    λ i. record {
      locals = λ j. kinds-same (f.locals j) (g.locals j) (h.locals j) (k.locals j) i;
      stack = stack i;
    }

frames-same : (o p : Option TypeFrame)
    → ((f : TypeFrame) → o ≡ Some f → (g : TypeFrame) × (p ≡ Some g) × Below f g)
    → ((g : TypeFrame) → p ≡ Some g → (f : TypeFrame) × (o ≡ Some f) × Below g f) → o ≡ p
frames-same None None h k = refl
frames-same None (Some g) h k = absurd (none-some (k g refl).0 (k g refl).1)
frames-same (Some f) None h k = absurd (none-some (h f refl).0 (h f refl).1)
frames-same (Some f) (Some g) h k =
    let a = h f refl in
    let b = k g refl in
    let over : Below f g = subst (λ x. Below f x) (same_Some a.0 g (sym a.1)) a.2 in
    let under : Below g f = subst (λ x. Below g x) (same_Some b.0 f (sym b.1)) b.2 in
    ap Some (type_frames-same f g over under)

LeastTyping-prop : (program : Program) (method : LinkedMethod) → IsProp (LeastTyping program method)
LeastTyping-prop program method x y =
    let e : x.frames ≡ y.frames =
    λ i at. frames-same (x.frames at) (y.frames at) (x.least y.frames y.typing at)
    (y.least x.frames x.typing at) i in
    λ i. record {
      frames = e i;
      typing = is_prop→PathP (λ i. IsTyping program method (e i))
          (λ i. IsTyping-prop program method (e i)) x.typing y.typing i;
      least = is_prop→PathP (λ i. IsLeast program method (e i))
          (λ i. IsLeast-prop program method (e i)) x.least y.least i;
    }

pub AllLeastTyped-prop : (program : Program) → IsProp (AllLeastTyped program)
AllLeastTyped-prop program =
    Π_prop (λ m. Π_prop (λ method. Π_prop (λ _. LeastTyping-prop program method)))

-- each method is typed, by its least typing
pub AllTyped-from_least : (program : Program) → AllLeastTyped program → AllTyped program
AllTyped-from_least program all m method is = let l = all m method is in (l.frames, l.typing)
