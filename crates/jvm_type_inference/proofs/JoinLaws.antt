-- The least frame above two.
use Rattle.std.proofs.Common.{◌≡◌, ℕ, zero, suc, ◌+◌, ◌*◌, ◌<◌, ◌≤◌, Bool, true, false, List, [], ◌∷◌, length, refl, sym, ap, subst, ◌∙◌, Option, Some, None, arith}
use Rattle.std.specs.Prelude.{option_map, slice_index_or, if◌then◌else◌}
use Rattle.std.proofs.lemmas.Bool.{and_parts, and_from, and_cases, false≢true, true≢false}
use Rattle.std.proofs.Common.{⊎_elim, ◌⊎◌}
use Rattle.std.proofs.lemmas.Option.{same_Some, none-some}
use Rattle.jvm_definition.specs.declared.kind.Kind.{Kind}
use Rattle.jvm_definition.specs.declared.kind.Kind.TheVariants.{Top}
use Rattle.jvm_definition.specs.Typing.{TypeFrame, Below, below, stack_below, no_top}
use Rattle.jvm_type_inference.specs.declared.frame.Frame.{Frame}
use Rattle.jvm_type_inference.specs.Frames.{type_frame, IsAbove, IsJoin}
use Rattle.jvm_type_inference.specs.Joins.{is_top, joined, joined_stacks, joined_locals, with_operand, ranks, locals_below, first_local, other_locals, frame_below}
use Rattle.jvm_type_inference.proofs.KindLaws.{below-refl, below-trans, below-top, joined-left, joined-right, joined-least, top-below, rank-joined, rank-falls, top-left, top-right, rank-above, rank-two}
use Rattle.jvm_type_inference.proofs.StackLaws.{no_top-head, no_top-tail, no_top-cons, option_map_some}

-- ---- the order of operands

pub stack-refl : (ks : List Kind) → stack_below ks ks ≡ true
stack-refl [] = refl
stack-refl (k ∷ ks) = and_from (below k k) (stack_below ks ks) (below-refl k) (stack-refl ks)

pub stack-trans : (ks os us : List Kind) → stack_below ks os ≡ true → stack_below os us ≡ true → stack_below ks us ≡ true
stack-trans [] [] us h e = e
stack-trans [] (o ∷ os) us h e = absurd (false≢true h)
stack-trans (k ∷ ks) [] us h e = absurd (false≢true h)
stack-trans (k ∷ ks) (o ∷ os) [] h e = absurd (false≢true e)
stack-trans (k ∷ ks) (o ∷ os) (u ∷ us) h e =
    let p = and_parts (below k o) (stack_below ks os) h in
    let q = and_parts (below o u) (stack_below os us) e in
    and_from (below k u) (stack_below ks us) (below-trans k o u p.0 q.0) (stack-trans ks os us p.1 q.1)

pub no_top-below : (ks os : List Kind) → stack_below ks os ≡ true → no_top os ≡ true → no_top ks ≡ true
no_top-below [] os h n = refl
no_top-below (k ∷ ks) [] h n = absurd (false≢true h)
no_top-below (k ∷ ks) (o ∷ os) h n =
    let p = and_parts (below k o) (stack_below ks os) h in
    no_top-cons k ks (top-below k o p.0 (no_top-head o os n)) (no_top-below ks os p.1 (no_top-tail o os n))

pub Below-refl : (f : TypeFrame) → Below f f
Below-refl f = record { locals = λ i. below-refl (f.locals i); stack = stack-refl f.stack }

pub Below-trans : (f g h : TypeFrame) → Below f g → Below g h → Below f h
Below-trans f g h p q = record {
  locals = λ i. below-trans (f.locals i) (g.locals i) (h.locals i) (p.locals i) (q.locals i);
  stack = stack-trans f.stack g.stack h.stack p.stack q.stack;
}

-- ---- joined operands

data Joined : List Kind → List Kind → List Kind → Type 0 where
  none : Joined [] [] []
  one : {k o : Kind} {ks os js : List Kind} → is_top (joined k o) ≡ false → Joined ks os js → Joined (k ∷ ks) (o ∷ os) (joined k o ∷ js)

operand_some : (k : Kind) (o : Option (List Kind)) (js : List Kind) → with_operand k o ≡ Some js → (ks : List Kind) × (is_top k ≡ false) × (o ≡ Some ks) × (k ∷ ks ≡ js)
operand_some k o js h = by-test (is_top k) refl h
  where
    by-test : (b : Bool) → is_top k ≡ b → (if b then None else option_map (λ ks. k ∷ ks) o) ≡ Some js → (ks : List Kind) × (is_top k ≡ false) × (o ≡ Some ks) × (k ∷ ks ≡ js)
    by-test true e p = cc
    by-test false e p = let r = option_map_some (λ ks. k ∷ ks) o js p in (r.0, e, r.1, r.2)

Joined-from : (ks os js : List Kind) → joined_stacks ks os ≡ Some js → Joined ks os js
Joined-from [] [] js h = let e : [] ≡ js = cc in subst (λ x. Joined [] [] x) e none
Joined-from [] (o ∷ os) js h = cc
Joined-from (k ∷ ks) [] js h = cc
Joined-from (k ∷ ks) (o ∷ os) js h =
    let r = operand_some (joined k o) (joined_stacks ks os) js h in
    subst (λ x. Joined (k ∷ ks) (o ∷ os) x) r.3 (one r.1 (Joined-from ks os r.0 r.2))

joined-above : {ks os js : List Kind} → Joined ks os js → stack_below ks js ≡ true
joined-above none = refl
joined-above (one {k = k} {o = o} {ks = ks} {js = js} t f) = and_from (below k (joined k o)) (stack_below ks js) (joined-left k o) (joined-above f)

joined-beside : {ks os js : List Kind} → Joined ks os js → stack_below os js ≡ true
joined-beside none = refl
joined-beside (one {k = k} {o = o} {os = os} {js = js} t f) = and_from (below o (joined k o)) (stack_below os js) (joined-right k o) (joined-beside f)

joined-no_top : {ks os js : List Kind} → Joined ks os js → no_top js ≡ true
joined-no_top none = refl
joined-no_top (one {k = k} {o = o} {js = js} t f) = no_top-cons (joined k o) js t (joined-no_top f)

joined-length : {ks os js : List Kind} → Joined ks os js → length js ≡ length ks
joined-length none = refl
joined-length (one t f) = ap suc (joined-length f)

joined-ranks : {ks os js : List Kind} → Joined ks os js → ranks js ≤ ranks ks
joined-ranks none = omega arith
joined-ranks (one {k = k} {o = o} {ks = ks} {js = js} t f) = omega (arith, rank-joined k o, joined-ranks f)

joined-falls : {ks os js : List Kind} → Joined ks os js → stack_below os ks ≡ false → ranks js < ranks ks
joined-falls none h = absurd (true≢false h)
joined-falls (one {k = k} {o = o} {ks = ks} {os = os} {js = js} t f) h =
    ⊎_elim
    (λ e. omega (arith, rank-falls k o e, joined-ranks f))
    (λ e. omega (arith, rank-joined k o, joined-falls f e))
    (and_cases (below o k) (stack_below os ks) h)

pub operand-is : (k : Kind) (o : Option (List Kind)) (ks : List Kind) → is_top k ≡ false → o ≡ Some ks → with_operand k o ≡ Some (k ∷ ks)
operand-is k o ks t e = rw (t, e)

pub joined-some : (ks os us : List Kind) → no_top us ≡ true → stack_below ks us ≡ true → stack_below os us ≡ true → (js : List Kind) × (joined_stacks ks os ≡ Some js) × (stack_below js us ≡ true)
joined-some [] [] us n h e = ([], refl, h)
joined-some [] (o ∷ os) [] n h e = absurd (false≢true e)
joined-some [] (o ∷ os) (u ∷ us) n h e = absurd (false≢true h)
joined-some (k ∷ ks) [] [] n h e = absurd (false≢true h)
joined-some (k ∷ ks) [] (u ∷ us) n h e = absurd (false≢true e)
joined-some (k ∷ ks) (o ∷ os) [] n h e = absurd (false≢true h)
joined-some (k ∷ ks) (o ∷ os) (u ∷ us) n h e =
    let p = and_parts (below k u) (stack_below ks us) h in
    let q = and_parts (below o u) (stack_below os us) e in
    let r = joined-some ks os us (no_top-tail u us n) p.1 q.1 in
    let least = joined-least k o u p.0 q.0 in
    let t = top-below (joined k o) u least (no_top-head u us n) in
    (joined k o ∷ r.0, operand-is (joined k o) (joined_stacks ks os) r.0 t r.1, and_from (below (joined k o) u) (stack_below r.0 us) least r.2)

-- ---- local variables

abbrev local : List Kind → ℕ → Kind
local kinds i = slice_index_or kinds i Top

other-local : (ks : List Kind) (i : ℕ) → local (other_locals ks) i ≡ local ks (suc i)
other-local [] i = refl
other-local (k ∷ ks) i = refl

first-local : (ks : List Kind) → first_local ks ≡ local ks zero
first-local [] = refl
first-local (k ∷ ks) = refl

pub locals-at : (ks os : List Kind) → locals_below ks os ≡ true → (i : ℕ) → below (local ks i) (local os i) ≡ true
locals-at ks [] h i = below-top (local ks i)
locals-at ks (o ∷ os) h zero = let p = and_parts (below (first_local ks) o) (locals_below (other_locals ks) os) h in subst (λ k. below k o ≡ true) (first-local ks) p.0
locals-at ks (o ∷ os) h (suc i) =
    let p = and_parts (below (first_local ks) o) (locals_below (other_locals ks) os) h in
    subst (λ k. below k (local os i) ≡ true) (other-local ks i) (locals-at (other_locals ks) os p.1 i)

joined-local : (ks os : List Kind) (i : ℕ) → local (joined_locals ks os) i ≡ joined (local ks i) (local os i)
joined-local [] os i = sym (top-left (local os i))
joined-local (k ∷ ks) [] i = sym (top-right (local (k ∷ ks) i))
joined-local (k ∷ ks) (o ∷ os) zero = refl
joined-local (k ∷ ks) (o ∷ os) (suc i) = joined-local ks os i

joined_locals-length : (ks os : List Kind) → length (joined_locals ks os) ≤ length ks
joined_locals-length [] os = omega arith
joined_locals-length (k ∷ ks) [] = omega arith
joined_locals-length (k ∷ ks) (o ∷ os) = omega (arith, joined_locals-length ks os)

joined_locals-ranks : (ks os : List Kind) → ranks (joined_locals ks os) ≤ ranks ks
joined_locals-ranks [] os = omega arith
joined_locals-ranks (k ∷ ks) [] = omega arith
joined_locals-ranks (k ∷ ks) (o ∷ os) = omega (arith, rank-joined k o, joined_locals-ranks ks os)

-- where nothing is known of the new ones
top-falls : (ks : List Kind) → locals_below [] ks ≡ false → 0 < ranks ks
top-falls [] h = absurd (true≢false h)
top-falls (k ∷ ks) h = ⊎_elim (λ e. omega (arith, rank-above k e)) (λ e. omega (arith, top-falls ks e)) (and_cases (below Top k) (locals_below [] ks) h)

-- the old ones are first here, the new ones below
joined_locals-falls : (ks os : List Kind) → locals_below os ks ≡ false → ranks (joined_locals ks os) < ranks ks
joined_locals-falls [] os h = absurd (true≢false h)
joined_locals-falls (k ∷ ks) [] h = top-falls (k ∷ ks) h
joined_locals-falls (k ∷ ks) (o ∷ os) h =
    ⊎_elim
    (λ e. omega (arith, rank-falls k o e, joined_locals-ranks ks os))
    (λ e. omega (arith, rank-joined k o, joined_locals-falls ks os e))
    (and_cases (below o k) (locals_below os ks) h)

ranks-length : (ks : List Kind) → ranks ks ≤ 2 * length ks
ranks-length [] = omega arith
ranks-length (k ∷ ks) = omega (arith, rank-two k, ranks-length ks)

-- ---- frames

pub Below-lists : (f g : Frame) → stack_below f.stack g.stack ≡ true → locals_below f.locals g.locals ≡ true → Below (type_frame f) (type_frame g)
Below-lists f g s l = record { locals = locals-at f.locals g.locals l; stack = s }

pub frame_below-from : (f g : Frame) → frame_below f.locals f.stack g.locals g.stack ≡ true → Below (type_frame f) (type_frame g)
frame_below-from f g h = let p = and_parts (stack_below f.stack g.stack) (locals_below f.locals g.locals) h in Below-lists f g p.0 p.1

same_frame : (g o : Frame) → Some g ≡ Some o → g ≡ o
same_frame g o e = same_Some g o e

stack-least : (ks os js us : List Kind) → joined_stacks ks os ≡ Some js → (l : List Kind) × (joined_stacks ks os ≡ Some l) × (stack_below l us ≡ true) → stack_below js us ≡ true
stack-least ks os js us s r =
    let e : r.0 ≡ js = same_Some r.0 js (sym r.1 ∙ s) in
    subst (λ x. stack_below x us ≡ true) e r.2

falls-either : (g f h : Frame) → Joined g.stack f.stack h.stack → h.locals ≡ joined_locals g.locals f.locals → (stack_below f.stack g.stack ≡ false) ⊎ (locals_below f.locals g.locals ≡ false) → ranks h.locals + ranks h.stack < ranks g.locals + ranks g.stack
falls-either g f h j l e =
    ⊎_elim
    (λ s. omega (arith, joined-falls j s, joined_locals-ranks g.locals f.locals, ap ranks l))
    (λ s. omega (arith, joined-ranks j, joined_locals-falls g.locals f.locals s, ap ranks l))
    e

-- the join of a frame that is there and one that flows to it
pub IsJoin-from : (g f h : Frame) → frame_below f.locals f.stack g.locals g.stack ≡ false → joined_stacks g.stack f.stack ≡ Some h.stack → h.locals ≡ joined_locals g.locals f.locals → IsJoin (Some g) f h
IsJoin-from g f h new s l =
    let j = Joined-from g.stack f.stack h.stack s in
    let at : (i : ℕ) → joined (local g.locals i) (local f.locals i) ≡ local h.locals i = λ i. sym (joined-local g.locals f.locals i) ∙ ap (λ x. local x i) (sym l) in
    record {
      above_old = λ o e. let p = same_frame g o e in subst (λ o. Below (type_frame o) (type_frame h)) p (record {
        locals = λ i. subst (λ k. below (local g.locals i) k ≡ true) (at i) (joined-left (local g.locals i) (local f.locals i));
        stack = joined-above j;
      });
      above_new = record {
        locals = λ i. subst (λ k. below (local f.locals i) k ≡ true) (at i) (joined-right (local g.locals i) (local f.locals i));
        stack = joined-beside j;
      };
      least = λ u a. record {
        locals = λ i. subst (λ k. below k (u.locals i) ≡ true) (at i) (joined-least (local g.locals i) (local f.locals i) (u.locals i) ((a.above_old g refl).locals i) (a.above_new.locals i));
        stack = stack-least g.stack f.stack h.stack u.stack s (joined-some g.stack f.stack u.stack a.operands (a.above_old g refl).stack a.above_new.stack);
      };
      formed = λ locals stack old new. record {
        sized = record {
          locals_fit = let o = (old g refl).sized in omega (arith, o.locals_fit, joined_locals-length g.locals f.locals, ap length l);
          stack_fits = let o = (old g refl).sized in omega (arith, o.stack_fits, joined-length j);
        };
        operands = joined-no_top j;
      };
      falls = λ locals stack new'. falls-either g f h j l (and_cases (stack_below f.stack g.stack) (locals_below f.locals g.locals) new);
    }

-- a first frame, whose operands have types
pub IsJoin-first : (f : Frame) → no_top f.stack ≡ true → IsJoin None f f
IsJoin-first f n = record {
  above_old = λ o e. cc;
  above_new = Below-refl (type_frame f);
  least = λ u a. a.above_new;
  formed = λ locals stack old new. record { sized = new; operands = n };
  falls = λ locals stack new. omega (arith, new.locals_fit, new.stack_fits, ranks-length f.locals, ranks-length f.stack);
}

pub joined-of : (ks os xs bs : List Kind) (o p : Option (List Kind)) → xs ≡ ks → bs ≡ os → o ≡ joined_stacks xs bs → o ≡ p → joined_stacks ks os ≡ p
joined-of ks os xs bs o p a b e q = ap (λ x. joined_stacks x os) (sym a) ∙ (ap (joined_stacks xs) (sym b) ∙ (sym e ∙ q))

pub refused-first : (f : Frame) → no_top f.stack ≡ false → (u : TypeFrame) → IsAbove None f u → ⊥
refused-first f n u a = absurd (true≢false (sym (no_top-below f.stack u.stack a.above_new.stack a.operands) ∙ n))

pub refused-join : (g f : Frame) → joined_stacks g.stack f.stack ≡ None → (u : TypeFrame) → IsAbove (Some g) f u → ⊥
refused-join g f e u a =
    let r = joined-some g.stack f.stack u.stack a.operands (a.above_old g refl).stack a.above_new.stack in
    none-some r.0 (sym e ∙ r.1)
