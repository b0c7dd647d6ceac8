-- Straight code is walked from a frame, with no frame kept at the instructions inside.
use Rattle.std.proofs.Common.{◌≡◌, ℕ, zero, suc, ◌<◌, ◌≤◌, Bool, true, false, List, [], ◌∷◌, length, get_or, refl, sym, ap, subst, ◌∙◌, Option, Some, None, arith, ⊎_elim, ◌⊎◌, inl, inr}
use Rattle.std.specs.Prelude.{All, IsSome, is_some}
use Rattle.std.proofs.lemmas.Bool.{cases_eq, cases_lt, true≢false}
use Rattle.std.proofs.lemmas.Option.{same_Some, none-some}
use Rattle.jvm_definition.specs.declared.linked_line.LinkedLine.{LinkedLine}
use Rattle.jvm_definition.specs.declared.linked_method.LinkedMethod.{LinkedMethod}
use Rattle.jvm_definition.specs.Program.{Program, line_in, successors}
use Rattle.jvm_definition.specs.Typing.{TypeFrame, Below, Frames, Follows, Receives, IsTypingTo, no_top}
use Rattle.jvm_type_inference.specs.Actions.{Enters}
use Rattle.jvm_type_inference.specs.Blocks.{before_in, IsInside, AreBlocks, Reaches, stops, passes, Closed, GoOn, Covers, FromAbove, WalkFails, WalkEnds}
use Rattle.jvm_type_inference.proofs.JoinLaws.{Below-refl, no_top-below}
use Rattle.jvm_type_inference.proofs.StepLaws.{typing-step}

pub between : (x y : ℕ) → x ≤ y → (x ≡ y) ⊎ (x < y)
between x y h = ⊎_elim (λ same. inl same) (λ other. inr (omega (arith, h, other))) (cases_eq x y)

pub all-one : (P : ℕ → Type 0) (n : ℕ) → P n → All P (n ∷ [])
all-one P n p = λ k d h. subst P (here k d h) p
  where
    here : (k d : ℕ) → k < 1 → n ≡ get_or (n ∷ []) k d
    here zero d h = refl
    here (suc k) d h = absurd (omega (arith, h))

module _ (program : Program) (method : LinkedMethod) (before : List (Option ℕ)) (first : ℕ) (f : TypeFrame) where
  -- the frame at an offset inside the block
  pub record IsWalking (at : ℕ) (cur : TypeFrame) : Type 0 where
    pub covers : Covers program method before first f at
    pub there : IsSome (line_in method.lines at)
    pub typed : no_top cur.stack ≡ true
    pub spread : (frames : Frames) → GoOn program method before at frames → frames first ≡ Some f → frames at ≡ Some cur
    pub back : (last : ℕ) (e : TypeFrame) → Reaches program method before at cur last e → Reaches program method before first f last e
    pub under : (others : Frames) (last : ℕ) → at ≤ suc last → IsTypingTo program method others last → (g : TypeFrame) → others first ≡ Some g → Below f g → (u : TypeFrame) × (others at ≡ Some u) × Below cur u

  pub walk-begins : IsSome (line_in method.lines first) → no_top f.stack ≡ true → IsWalking first f
  walk-begins there typed = record {
    covers = record {
      order = omega arith;
      alone = λ y line h k l e. absurd (omega (arith, h, k));
      closed = λ limit c h. h;
      held = λ frames go is y line g h k. absurd (omega (arith, h, k));
      typed = λ frames go is y line g h k l e.
          let here : first ≡ y = omega (arith, h, k) in
          let same : f ≡ g = same_Some f g (sym is ∙ (ap frames here ∙ e)) in
          subst (λ x. no_top x.stack ≡ true) same typed;
    };
    there = there;
    typed = typed;
    spread = λ frames go is. is;
    back = λ last e r. r;
    under = λ others last h typing g is under. (g, is, under);
  }

  -- it fails at an instruction that cannot be entered
  pub walk-fails : (at : ℕ) (cur : TypeFrame) (line : LinkedLine) → IsWalking at cur → line_in method.lines at ≡ Some line → ((b : TypeFrame) → Enters program method line.instruction cur b → ⊥) → WalkFails program method before first f at
  walk-fails at cur line w l refuse = record {
    covers = w.covers;
    fails = λ others last to typing g is under.
        let u = w.under others last (omega (arith, to)) typing g is under in
        let step = typing-step program method others last at line cur u.0 typing to l u.1 u.2 in
        refuse step.0 step.1;
  }

  -- what a typing says of the frame behind an instruction
  from-above : (at : ℕ) (cur b : TypeFrame) (line : LinkedLine) → IsWalking at cur → line_in method.lines at ≡ Some line → Enters program method line.instruction cur b → FromAbove program method first f at (λ others. All (Receives method others b) (successors line))
  from-above at cur b line w l enters others last to typing g is under =
      let u = w.under others last (omega (arith, to)) typing g is under in
      let step = typing-step program method others last at line cur u.0 typing to l u.1 u.2 in
      let same : step.0 ≡ b = same_Some step.0 b (sym (step.1).fits ∙ enters.fits) in
      subst (λ x. All (Receives method others x) (successors line)) same step.2

  -- the only next instruction inside a block is the next one
  pub no-next : (at : ℕ) (line : LinkedLine) → AreBlocks method before → line_in method.lines at ≡ Some line → (before_in before line.next ≡ Some at → ⊥) → (n : ℕ) → before_in before n ≡ Some at → ⊥
  no-next at line blocks l none n e =
      let i = blocks.inside n at e in
      let same : line.next ≡ n = ap (λ x. x.next) (same_Some line i.line (sym l ∙ i.is)) ∙ i.next in
      none (ap (before_in before) same ∙ e)

  pub walk-ends : (at : ℕ) (cur e : TypeFrame) (line : LinkedLine) → IsWalking at cur → line_in method.lines at ≡ Some line → Enters program method line.instruction cur e → ((n : ℕ) → before_in before n ≡ Some at → ⊥) → WalkEnds program method before first f at e
  walk-ends at cur e line w l enters stop = record {
    covers = w.covers;
    reaches = w.back at e (stops line l enters stop);
    under = λ line' l' others last to typing g is under.
        let same : line ≡ line' = same_Some line line' (sym l ∙ l') in
        subst (λ x. All (Receives method others e) (successors x)) same (from-above at cur e line w l enters others last to typing g is under);
    there = w.there;
    ends = stop;
  }

  module _ (blocks : AreBlocks method before) (at n : ℕ) (cur b : TypeFrame) (line : LinkedLine) (w : IsWalking at cur) (l : line_in method.lines at ≡ Some line) (enters : Enters program method line.instruction cur b) (e : before_in before n ≡ Some at) where
    inside : IsInside method at n
    inside = blocks.inside n at e

    goes-on : successors line ≡ n ∷ []
    goes-on = subst (λ x. successors x ≡ n ∷ []) (same_Some inside.line line (sym inside.is ∙ l)) inside.goes

    -- and at one behind which an operand has no type
    pub walk-fails-typed : no_top b.stack ≡ false → WalkFails program method before first f at
    walk-fails-typed top = record {
      covers = w.covers;
      fails = λ others last to typing g is under.
          let all : All (Receives method others b) (n ∷ []) = subst (λ xs. All (Receives method others b) xs) goes-on (from-above at cur b line w l enters others last to typing g is under) in
          let r = all 0 0 (omega arith) in
          true≢false (sym (no_top-below b.stack r.1.stack r.4.stack (typing.operands n r.1 r.3)) ∙ top);
    }

    no-line : (y : ℕ) (line' : LinkedLine) → at < y → y < n → line_in method.lines y ≡ Some line' → ⊥
    no-line y line' h k is = none-some line' (sym (inside.alone y h k) ∙ is)

    go-before : (frames : Frames) → GoOn program method before n frames → GoOn program method before at frames
    go-before frames go = record { each = λ m x line' g c h. go.each m x line' g c (omega (arith, h, inside.order)) }

    pub walk-goes : no_top b.stack ≡ true → IsWalking n b
    walk-goes typed = record {
      covers = record {
        order = omega (arith, w.covers.order, inside.order);
        alone = λ y line' h k is none.
            ⊎_elim
            (λ same. none-some at (sym none ∙ (ap (before_in before) same ∙ e)))
            (λ less. ⊎_elim
            (λ more. no-line y line' more less is)
            (λ most. w.covers.alone y line' h most is none)
            (cases_lt at y))
            (between y n k);
        closed = λ limit c h. c n at e (w.covers.closed limit c h);
        held = λ frames go is y line' g h k l' there.
            let spread-at : frames at ≡ Some cur = w.spread frames (go-before frames go) is in
            ⊎_elim
            (λ more. absurd (no-line y line' more k l'))
            (λ most. ⊎_elim
            (λ same.
            let same-line : line ≡ line' = same_Some line line' (sym l ∙ (ap (line_in method.lines) (sym same) ∙ l')) in
            let same-frame : cur ≡ g = same_Some cur g (sym spread-at ∙ (ap frames (sym same) ∙ there)) in
            subst (λ x. Follows program method frames x g) same-line
            (subst (λ x. Follows program method frames line x) same-frame
            (follows frames (go.each n at line cur b (omega arith) e l spread-at enters))))
            (λ less. w.covers.held frames (go-before frames go) is y line' g h less l' there)
            (between y at most))
            (cases_lt at y);
        typed = λ frames go is y line' g h k l' there.
            let spread-at : frames at ≡ Some cur = w.spread frames (go-before frames go) is in
            ⊎_elim
            (λ same.
            let is-b : frames n ≡ Some b = go.each n at line cur b (omega arith) e l spread-at enters in
            let same-frame : b ≡ g = same_Some b g (sym is-b ∙ (ap frames (sym same) ∙ there)) in
            subst (λ x. no_top x.stack ≡ true) same-frame typed)
            (λ less. ⊎_elim
            (λ more. absurd (no-line y line' more less l'))
            (λ most. w.covers.typed frames (go-before frames go) is y line' g h most l' there)
            (cases_lt at y))
            (between y n k);
      };
      there = ap is_some inside.there_is;
      typed = typed;
      spread = λ frames go is. go.each n at line cur b (omega arith) e l (w.spread frames (go-before frames go) is) enters;
      back = λ last end r. w.back last end (passes line l e enters typed r);
      under = λ others last to typing g is under.
          let all : All (Receives method others b) (n ∷ []) = subst (λ xs. All (Receives method others b) xs) goes-on (from-above at cur b line w l enters others last (omega (arith, to, inside.order)) typing g is under) in
          let r = all 0 0 (omega arith) in
          (r.1, r.3, r.4);
    }
      where
        follows : (frames : Frames) → frames n ≡ Some b → Follows program method frames line cur
        follows frames is = record {
          local = enters.local;
          behind = b;
          fits = enters.fits;
          within = enters.within;
          goes_on = subst (λ xs. All (Receives method frames b) xs) (sym goes-on) (all-one (Receives method frames b) n (inside.there, b, inside.there_is, is, Below-refl b));
        }
