-- Pruned code and the frames that are listed for it are determined, but for the local variables at a frame's end of which nothing is
-- known.
use Rattle.std.proofs.Common.{◌≡◌, ℕ, zero, suc, ◌+◌, ◌≤◌, Bool, true, false, List, [], ◌∷◌, ◌++◌, length, Option, Some, None, refl, sym, ap, subst, ◌∙◌, arith}
use Rattle.std.specs.Prelude.{if◌then◌else◌, map, option_map, is_some, slice_index_or}
use Rattle.std.proofs.lemmas.Bool.{and_parts, false≢true}
use Rattle.std.proofs.lemmas.List.{length-append}
use Rattle.std.proofs.lemmas.Option.{same_Some, none-some}
use Rattle.class_definition.specs.declared.line.Line.{Line}
use Rattle.class_definition.specs.declared.method.Method.{Method}
use Rattle.class_definition.specs.Code.{LinesFrom, Lines}
use Rattle.class_definition.specs.declared.op.Op.TheVariants.{Give}
use Rattle.class_definition.specs.Instructions.{instruction}
use Rattle.class_definition.specs.Sizes.{size_at}
use Rattle.jvm_code.proofs.ReadBack.{one_list}
use Rattle.jvm_code.proofs.SizeLemmas.{size_is}
use Rattle.jvm_definition.specs.declared.return_name.ReturnName.{ReturnName}
use Rattle.jvm_definition.specs.declared.kind.Kind.{Kind}
use Rattle.jvm_definition.specs.declared.kind.Kind.TheVariants.{Top, Int, Long, Null, Ints, Pages, Text}
use Rattle.jvm_definition.specs.declared.linked_line.LinkedLine.{LinkedLine}
use Rattle.jvm_definition.specs.declared.linked_method.LinkedMethod.{LinkedMethod}
use Rattle.jvm_definition.specs.Program.{Program}
use Rattle.jvm_definition.specs.Typing.{TypeFrame, Below, Frames, below, stack_below}
use Rattle.jvm_type_inference.specs.declared.frame.Frame.{Frame}
use Rattle.jvm_type_inference.specs.Frames.{type_frame}
use Rattle.jvm_type_inference.specs.Verdict.{AreLeast}
use Rattle.type_verifier.specs.Typings.{listed_frames, IsListed}
use Rattle.stackmap_table.specs.Shortest.{before_others, trimmed_locals, trimmed_frame}
use Rattle.stackmap_prune.specs.Code.{pruned_lines, returns_at, has_dead, raised, IsPrunedMethod, is_listed}
use Rattle.stackmap_prune.specs.Pruned.{return_of}
use Rattle.stackmap_prune.specs.Listing.{must_list, frame_in, listed_frame, listing, listing_of}
use Rattle.stackmap_prune.proofs.SearchLaws.{frames-are}

-- ---- the least typing

below-both : (k o : Kind) → below k o ≡ true → below o k ≡ true → k ≡ o
below-both Top Top a b = refl
below-both Top _ a b = absurd cc
below-both Int Int a b = refl
below-both Int _ a b = absurd cc
below-both Long Long a b = refl
below-both Long _ a b = absurd cc
below-both Null Null a b = refl
below-both Null _ a b = absurd cc
below-both Ints Ints a b = refl
below-both Ints _ a b = absurd cc
below-both Pages Pages a b = refl
below-both Pages _ a b = absurd cc
below-both Text Text a b = refl
below-both Text _ a b = absurd cc

stacks-both : (ks os : List Kind) → stack_below ks os ≡ true → stack_below os ks ≡ true → ks ≡ os
stacks-both [] [] a b = refl
stacks-both [] (o ∷ os) a b = absurd (false≢true a)
stacks-both (k ∷ ks) [] a b = absurd (false≢true a)
stacks-both (k ∷ ks) (o ∷ os) a b =
    let p = and_parts (below k o) (stack_below ks os) a in
    let q = and_parts (below o k) (stack_below os ks) b in
    λ i. below-both k o p.0 q.0 i ∷ stacks-both ks os p.1 q.1 i

frames-both : (f g : TypeFrame) → Below f g → Below g f → f ≡ g
frames-both f g a b =
    λ i. record { locals = λ n. below-both (f.locals n) (g.locals n) (a.locals n) (b.locals n) i; stack = stacks-both f.stack g.stack a.stack b.stack i }

pub least-same : (program : Program) (method : LinkedMethod) (frames others : Frames) → AreLeast program method frames → AreLeast program method others → (at : ℕ) → frames at ≡ others at
least-same program method frames others a b at = by-case (frames at) refl (others at) refl
  where
    by-case : (o : Option TypeFrame) → frames at ≡ o → (p : Option TypeFrame) → others at ≡ p → frames at ≡ others at
    by-case None e None h = e ∙ sym h
    by-case None e (Some g) h = let x = b.least frames a.typing at g h in absurd (none-some x.0 (sym e ∙ x.1))
    by-case (Some f) e None h = let x = a.least others b.typing at f e in absurd (none-some x.0 (sym h ∙ x.1))
    by-case (Some f) e (Some g) h =
        let x = a.least others b.typing at f e in
        let y = b.least frames a.typing at g h in
        let there : x.0 ≡ g = same_Some x.0 g (sym x.1 ∙ h) in
        let back : y.0 ≡ f = same_Some y.0 f (sym y.1 ∙ e) in
        e ∙ (ap (λ z. Some z) (frames-both f g (subst (Below f) there x.2) (subst (Below g) back y.2)) ∙ sym h)

pub listed-same : (program : Program) (method : LinkedMethod) (reached others : List (ℕ × Frame)) → IsListed program method reached → IsListed program method others → (at : ℕ) → listed_frames reached at ≡ listed_frames others at
listed-same program method reached others a b at = least-same program method (listed_frames reached) (listed_frames others) a.least b.least at

-- ---- frames as they are kept

trimmed-none : (os : List Kind) → ((i : ℕ) → Top ≡ slice_index_or os i Top) → trimmed_locals os ≡ []
trimmed-none [] h = refl
trimmed-none (o ∷ os) h = ap (λ k. before_others k (trimmed_locals os)) (sym (h 0)) ∙ ap (before_others Top) (trimmed-none os (λ i. h (suc i)))

trimmed-same : (ks os : List Kind) → ((i : ℕ) → slice_index_or ks i Top ≡ slice_index_or os i Top) → trimmed_locals ks ≡ trimmed_locals os
trimmed-same [] os h = sym (trimmed-none os h)
trimmed-same (k ∷ ks) [] h = trimmed-none (k ∷ ks) (λ i. sym (h i))
trimmed-same (k ∷ ks) (o ∷ os) h = λ i. before_others (h 0 i) (trimmed-same ks os (λ n. h (suc n)) i)

-- two frames that differ only in local variables at the end of which nothing is known
record IsAlike (f g : Frame) : Type 0 where
  locals : trimmed_locals f.locals ≡ trimmed_locals g.locals
  stack : f.stack ≡ g.stack

alike-kept : (f g : Frame) → type_frame f ≡ type_frame g → IsAlike f g
alike-kept f g e = record {
  locals = trimmed-same f.locals g.locals (λ n. ap (λ (x : TypeFrame). x.locals n) e);
  stack = ap (λ (x : TypeFrame). x.stack) e;
}

-- ---- the frames that are listed

module _ (must : ℕ → Bool) (reached others : List (ℕ × Frame)) (gives : Bool) (same : (at : ℕ) → listed_frames reached at ≡ listed_frames others at) where
  alike-at : (at : ℕ) (before after : List Kind) → trimmed_locals before ≡ trimmed_locals after → IsAlike (listed_frame (frame_in reached at) gives before) (listed_frame (frame_in others at) gives after)
  alike-at at before after t = by-case (frame_in reached at) (frame_in others at) (sym (frames-are reached at) ∙ (same at ∙ frames-are others at))
    where
      by-case : (o p : Option Frame) → option_map type_frame o ≡ option_map type_frame p → IsAlike (listed_frame o gives before) (listed_frame p gives after)
      by-case None None e = record { locals = t; stack = refl }
      by-case None (Some g) e = absurd (none-some (type_frame g) e)
      by-case (Some f) None e = absurd (none-some (type_frame f) (sym e))
      by-case (Some f) (Some g) e = alike-kept f g (same_Some (type_frame f) (type_frame g) e)

  pub listings-same : (before after : List Kind) (lines : List LinkedLine) → trimmed_locals before ≡ trimmed_locals after → map trimmed_frame (listing must reached gives before lines) ≡ map trimmed_frame (listing must others gives after lines)
  listings-same before after [] t = refl
  listings-same before after (l ∷ lines) t =
      by-must (must l.at) (λ e. listings-same (listed_frame (frame_in reached l.at) gives before).locals (listed_frame (frame_in others l.at) gives after).locals lines e) (listings-same before after lines t)
    where
      one : Frame
      one = listed_frame (frame_in reached l.at) gives before

      two : Frame
      two = listed_frame (frame_in others l.at) gives after

      by-must : (b : Bool) → (trimmed_locals one.locals ≡ trimmed_locals two.locals → map trimmed_frame (listing must reached gives one.locals lines) ≡ map trimmed_frame (listing must others gives two.locals lines))
          → map trimmed_frame (listing must reached gives before lines) ≡ map trimmed_frame (listing must others gives after lines)
          → map trimmed_frame (if b then (l.at, one) ∷ listing must reached gives one.locals lines else listing must reached gives before lines)
          ≡ map trimmed_frame (if b then (l.at, two) ∷ listing must others gives two.locals lines else listing must others gives after lines)
      by-must true here there =
          let alike = alike-at l.at before after t in
          let rest = here alike.locals in
          λ i. (l.at, record { locals = alike.locals i; stack = alike.stack i }) ∷ rest i
      by-must false here there = there

-- of a method's lines
pub listed-alike : (method : LinkedMethod) (reached others : List (ℕ × Frame)) → ((at : ℕ) → listed_frames reached at ≡ listed_frames others at) → map trimmed_frame (listing_of method reached) ≡ map trimmed_frame (listing_of method others)
listed-alike method reached others same = listings-same (must_list method.lines) reached others method.gives_int same method.parameters method.parameters method.lines refl

-- ---- code

-- of lines there is one code
one_code : (at : ℕ) (code other : List ℕ) (lines : List Line) → LinesFrom at code lines → LinesFrom at other lines → code ≡ other
one_code at code other [] a b = a ∙ sym b
one_code at code other (l ∷ lines) a b =
    let rest = one_code (at + length ((instruction at).spell l.op)) a.2.0 b.2.0 lines a.2.2 b.2.2 in
    a.2.1 ∙ (ap (λ x. (instruction at).spell l.op ++ x) rest ∙ sym b.2.1)

-- returns in place of so many bytes take as many
returns-size : (name : ReturnName) (n place at : ℕ) (code : List ℕ) (lines : List Line) → LinesFrom at code (returns_at name place n ++ lines) → (rest : List ℕ) × (length code ≡ n + length rest) × LinesFrom (at + n) rest lines
returns-size name zero place at code lines are =
    let here : at ≡ at + 0 = omega arith in
    (code, omega arith, subst (λ k. LinesFrom k code lines) here are)
returns-size name (suc n) place at code lines are =
    let front = (instruction at).spell (Give name) in
    let one : length ((instruction at).spell (Give name)) ≡ 1 = size_is at (Give name) are.1 in
    let r = returns-size name n (suc place) (at + length ((instruction at).spell (Give name))) are.2.0 lines are.2.2 in
    let there : at + length ((instruction at).spell (Give name)) + n ≡ at + suc n = omega (arith, one) in
    (r.0, omega (arith, ap length are.2.1, length-append front are.2.0, one, r.1), subst (λ k. LinesFrom k r.0 lines) there r.2)

-- pruned code has as many bytes
pruned-size : (kept : ℕ → Bool) (name : ReturnName) (at : ℕ) (code other : List ℕ) (lines : List Line) → LinesFrom at code lines → LinesFrom at other (pruned_lines kept name lines) → length code ≡ length other
pruned-size kept name at code other [] a b = ap length (a ∙ sym b)
pruned-size kept name at code other (l ∷ lines) a b =
    by-test (kept l.at) (λ rest h. pruned-size kept name (at + length ((instruction at).spell l.op)) a.2.0 rest lines a.2.2 h) b
  where
    by-test : (t : Bool) → ((rest : List ℕ) → LinesFrom (at + length ((instruction at).spell l.op)) rest (pruned_lines kept name lines) → length a.2.0 ≡ length rest)
        → LinesFrom at other ((if t then l ∷ [] else returns_at name l.at (size_at l.at l.op)) ++ pruned_lines kept name lines) → length code ≡ length other
    by-test true others h =
        omega (arith, ap length a.2.1, ap length h.2.1, length-append ((instruction at).spell l.op) a.2.0, length-append ((instruction at).spell l.op) h.2.0, others h.2.0 h.2.2)
    by-test false others h =
        let r = returns-size name (size_at l.at l.op) l.at at other (pruned_lines kept name lines) h in
        let size : size_at l.at l.op ≡ length ((instruction at).spell l.op) = ap (λ k. size_at k l.op) a.0 ∙ sym (size_is at l.op a.1) in
        let same = others r.0 (subst (λ n. LinesFrom (at + n) r.0 (pruned_lines kept name lines)) size r.2) in
        omega (arith, ap length a.2.1, length-append ((instruction at).spell l.op) a.2.0, r.1, size, same)

pub pruned-same : (kept : ℕ → Bool) (gives : Bool) (m n o : Method) → length n.code ≤ 65535 → IsPrunedMethod kept gives m n → IsPrunedMethod kept gives m o → n ≡ o
pruned-same kept gives m n o few a b =
    let size = pruned-size kept (return_of gives) 0 m.code n.code a.lines a.are a.pruned_are in
    let lines : a.lines ≡ b.lines = sym (one_list m.code a.lines b.lines (omega (arith, size, few)) a.are b.are) in
    let code : n.code ≡ o.code = one_code 0 n.code o.code (pruned_lines kept (return_of gives) b.lines) (subst (λ ls. Lines n.code (pruned_lines kept (return_of gives) ls)) lines a.pruned_are) b.pruned_are in
    let stack : n.stack ≡ o.stack = a.stack ∙ (ap (λ ls. raised gives (has_dead kept ls) m.stack) lines ∙ sym b.stack) in
    let name : n.name ≡ o.name = a.name ∙ sym b.name in
    let desc : n.desc ≡ o.desc = a.desc ∙ sym b.desc in
    let attr : n.attr ≡ o.attr = a.attr ∙ sym b.attr in
    let locals : n.locals ≡ o.locals = a.locals ∙ sym b.locals in
    λ i. record { name = name i; desc = desc i; attr = attr i; stack = stack i; locals = locals i; code = code i }

pub kept-same : (reached others : List (ℕ × Frame)) → ((at : ℕ) → listed_frames reached at ≡ listed_frames others at) → is_listed reached ≡ is_listed others
kept-same reached others same = λ i at. is_some (same at i)

-- ---- the law

-- A method is pruned in one way, and one list of frames is known for it.
pub pruning-same : (program : Program) (method : LinkedMethod) (gives : Bool) (m n o : Method) (reached others : List (ℕ × Frame)) → length n.code ≤ 65535 → IsListed program method reached → IsListed program method others → IsPrunedMethod (is_listed reached) gives m n → IsPrunedMethod (is_listed others) gives m o → n ≡ o
pruning-same program method gives m n o reached others few a b p q =
    let same = kept-same reached others (listed-same program method reached others a b) in
    pruned-same (is_listed others) gives m n o few (subst (λ kept. IsPrunedMethod kept gives m n) same p) q
