-- The frames at all offsets, from those at the first instructions of the blocks.
use Rattle.std.proofs.Common.{◌≡◌, ℕ, zero, suc, ◌<◌, ◌≤◌, Bool, true, false, List, [], ◌∷◌, length, get_or, refl, sym, ap, subst, ◌∙◌, Option, Some, None, arith}
use Rattle.std.specs.Prelude.{All, if◌then◌else◌, nat_lt}
use Rattle.std.proofs.lemmas.Bool.{ltb-true, lt-ltb}
use Rattle.std.proofs.lemmas.Option.{same_Some, none-some}
use Rattle.jvm_definition.specs.declared.linked_line.LinkedLine.{LinkedLine}
use Rattle.jvm_definition.specs.declared.linked_method.LinkedMethod.{LinkedMethod}
use Rattle.jvm_definition.specs.Program.{Program, line_in, successors}
use Rattle.jvm_definition.specs.Typing.{TypeFrame, Frames, Follows, Receives, type_effect, applied, no_top}
use Rattle.jvm_type_inference.specs.Actions.{Enters}
use Rattle.jvm_type_inference.specs.Blocks.{before_in, IsInside, AreBlocks, Reaches, stops, passes, Runs, GoOn, AreSpread}
use Rattle.jvm_type_inference.specs.Frames.{frame_at}
use Rattle.jvm_type_inference.specs.Flow.{Keeps}
use Rattle.jvm_type_inference.proofs.JoinLaws.{Below-refl}
use Rattle.jvm_type_inference.proofs.FlowLaws.{Slots}
use Rattle.jvm_type_inference.proofs.StackLaws.{if_some, if-true}
use Rattle.jvm_type_inference.proofs.WalkLaws.{all-one}

-- ---- there are such frames

module _ (program : Program) (method : LinkedMethod) (before : List (Option ℕ)) (frames : Frames) (cut : ℕ) where
  abbrev behind : Option TypeFrame → Option LinkedLine → Option TypeFrame
  behind None line = None
  behind (Some f) None = None
  behind (Some f) (Some line) = applied (type_effect program line.instruction) f

  abbrev chosen : Option ℕ → ℕ → Frames → Option TypeFrame
  chosen None n spread = frames n
  chosen (Some x) n spread = if nat_lt n (suc cut) then behind (spread x) (line_in method.lines x) else None

  abbrev spread-in : ℕ → ℕ → Option TypeFrame
  spread-in zero n = None
  spread-in (suc k) n = chosen (before_in before n) n (spread-in k)

  abbrev pub spread-of : Frames
  spread-of n = spread-in (suc n) n

  behind-some : (o : Option TypeFrame) (q : Option LinkedLine) (b : TypeFrame) → behind o q ≡ Some b → (line : LinkedLine) × (f : TypeFrame) × (q ≡ Some line) × (o ≡ Some f) × (applied (type_effect program line.instruction) f ≡ Some b)
  behind-some None q b e = absurd (none-some b e)
  behind-some (Some f) None b e = absurd (none-some b e)
  behind-some (Some f) (Some line) b e = (line, f, refl, refl, e)

  module _ (blocks : AreBlocks method before) where
    spread-same : (k j n : ℕ) → n < k → n < j → spread-in k n ≡ spread-in j n
    spread-same zero j n h l = absurd (omega (arith, h))
    spread-same (suc k) zero n h l = absurd (omega (arith, l))
    spread-same (suc k) (suc j) n h l = by-case (λ x less. spread-same k j x (omega (arith, less, h)) (omega (arith, less, l))) (before_in before n) refl
      where
        by-case : ((x : ℕ) → x < n → spread-in k x ≡ spread-in j x) → (o : Option ℕ) → before_in before n ≡ o → chosen o n (spread-in k) ≡ chosen o n (spread-in j)
        by-case below None e = refl
        by-case below (Some x) e = ap (λ s. if nat_lt n (suc cut) then behind s (line_in method.lines x) else None) (below x (blocks.inside n x e).order)

    spread-at : (n x : ℕ) → before_in before n ≡ Some x → spread-of n ≡ chosen (Some x) n spread-of
    spread-at n x e =
        let less = (blocks.inside n x e).order in
        ap (λ o. chosen o n (spread-in n)) e
        ∙ ap (λ s. if nat_lt n (suc cut) then behind s (line_in method.lines x) else None) (spread-same n (suc x) x less (omega arith))

    pub are-spread : AreSpread program method before cut frames spread-of
    are-spread = record {
      leaders = λ n e. ap (λ o. chosen o n (spread-in n)) e;
      go_on = record {
        each = λ n x line f b most e l is enters.
            spread-at n x e
            ∙ (if-true (nat_lt n (suc cut)) (behind (spread-of x) (line_in method.lines x)) None (lt-ltb n (suc cut) (omega (arith, most)))
            ∙ (ap (λ o. behind o (line_in method.lines x)) is ∙ (ap (behind (Some f)) l ∙ enters.fits)));
      };
      back = λ n x b e is.
          let p = if_some (nat_lt n (suc cut)) (behind (spread-of x) (line_in method.lines x)) b (sym (spread-at n x e) ∙ is) in
          let less = ltb-true n (suc cut) p.0 in
          let r = behind-some (spread-of x) (line_in method.lines x) b p.1 in
          (omega (arith, less), r.0, r.1, r.2, r.3, r.4);
    }

-- ---- a block's rule is that of each of its instructions

module _ (program : Program) (method : LinkedMethod) (before : List (Option ℕ)) (blocks : AreBlocks method before) where
  pub record GoesTo (x y : ℕ) (line : LinkedLine) (f b : TypeFrame) (last : ℕ) (e : TypeFrame) : Type 0 where
    pub enters : Enters program method line.instruction f b
    pub typed : no_top b.stack ≡ true
    pub rest : Reaches program method before y b last e

  -- from one instruction of a block to the next one
  goes-to : {x last : ℕ} {f e : TypeFrame} (y : ℕ) (line : LinkedLine) (b : TypeFrame) → before_in before y ≡ Some x → line_in method.lines x ≡ Some line → applied (type_effect program line.instruction) f ≡ Some b → Reaches program method before x f last e → GoesTo x y line f b last e
  goes-to y line b into l fits (stops line' l' enters stop) = absurd (stop y into)
  goes-to {x = x} {last = last} {f = f} {e = e} y line b into l fits (passes {n = n} {b = c} line' l' into' enters typed rest) =
      let i = blocks.inside y x into in
      let j = blocks.inside n x into' in
      let same-line : line' ≡ line = same_Some line' line (sym l' ∙ l) in
      let same-lines : j.line ≡ i.line = same_Some j.line i.line (sym j.is ∙ i.is) in
      let same : n ≡ y = sym j.next ∙ (ap (λ z. z.next) same-lines ∙ i.next) in
      let entered = subst (λ z. Enters program method z.instruction f c) same-line enters in
      let behind-is : c ≡ b = same_Some c b (sym entered.fits ∙ fits) in
      record {
        enters = subst (λ z. Enters program method line.instruction f z) behind-is entered;
        typed = subst (λ z. no_top z.stack ≡ true) behind-is typed;
        rest = subst (λ z. Reaches program method before z b last e) same (subst (λ z. Reaches program method before n z last e) behind-is rest);
      }

  module _ (limit : ℕ) (frames : Slots) (keeps : Keeps program method before limit frames []) (cut : ℕ) (spread : Frames) (are : AreSpread program method before cut (frame_at frames) spread) where
    runs-in : (k y : ℕ) (line : LinkedLine) (f : TypeFrame) → y < k → y < limit → line_in method.lines y ≡ Some line → spread y ≡ Some f → Runs program method before (frame_at frames) y f
    runs-in zero y line f h less l is = absurd (omega (arith, h))
    runs-in (suc k) y line f h less l is = by-case (λ x line' g order l' e. runs-in k x line' g (omega (arith, order, h)) (omega (arith, order, less)) l' e) (before_in before y) refl
      where
        by-case : ((x : ℕ) (line' : LinkedLine) (g : TypeFrame) → x < y → line_in method.lines x ≡ Some line' → spread x ≡ Some g → Runs program method before (frame_at frames) x g) → (o : Option ℕ) → before_in before y ≡ o → Runs program method before (frame_at frames) y f
        by-case below None e = keeps.rules y less refl line f l e (sym (are.leaders y e) ∙ is)
        by-case below (Some x) e =
            let r = are.back y x f e is in
            let run = below x r.1 r.2 (blocks.inside y x e).order r.3 r.4 in
            let next = goes-to y r.1 f e r.3 r.5 run.reaches in
            record { last = run.last; end = run.end; reaches = next.rest; line = run.line; is = run.is; goes_on = run.goes_on }

    pub runs : (y : ℕ) (line : LinkedLine) (f : TypeFrame) → y < limit → line_in method.lines y ≡ Some line → spread y ≡ Some f → Runs program method before (frame_at frames) y f
    runs y line f less l is = runs-in (suc y) y line f (omega arith) less l is

    -- each operand of a frame inside a block has a type
    pub typed-inside : (y x : ℕ) (f : TypeFrame) → before_in before y ≡ Some x → x < limit → spread y ≡ Some f → no_top f.stack ≡ true
    typed-inside y x f e less is =
        let r = are.back y x f e is in
        let run = runs x r.1 r.2 less r.3 r.4 in
        (goes-to y r.1 f e r.3 r.5 run.reaches).typed

    -- what the first instruction of a block receives
    pub receives-spread : (f : TypeFrame) (to : ℕ) → before_in before to ≡ None → Receives method (frame_at frames) f to → Receives method spread f to
    receives-spread f to none r = (r.0, r.1, r.2, are.leaders to none ∙ r.3, r.4)

    module _ (inside-cut : (n x : ℕ) → before_in before n ≡ Some x → x < limit → n ≤ cut) where
      follows-from : {y last : ℕ} {f end : TypeFrame} (line : LinkedLine) → y < limit → line_in method.lines y ≡ Some line → spread y ≡ Some f → Reaches program method before y f last end → (last-line : LinkedLine) → line_in method.lines last ≡ Some last-line → All (Receives method (frame_at frames) end) (successors last-line) → Follows program method spread line f
      follows-from {y = y} {f = f} {end = end} line less l is (stops line' l' enters stop) last-line last-is all =
          let same-line : line' ≡ line = same_Some line' line (sym l' ∙ l) in
          let same-last : last-line ≡ line = same_Some last-line line (sym last-is ∙ l) in
          let entered = subst (λ z. Enters program method z.instruction f end) same-line enters in
          let received = subst (λ z. All (Receives method (frame_at frames) end) (successors z)) same-last all in
          record {
            local = entered.local;
            behind = end;
            fits = entered.fits;
            within = entered.within;
            goes_on = λ k d h. receives-spread end (get_or (successors line) k d) (leader k d h (before_in before (get_or (successors line) k d)) refl) (received k d h);
          }
        where
          leader : (k d : ℕ) → k < length (successors line) → (o : Option ℕ) → before_in before (get_or (successors line) k d) ≡ o → before_in before (get_or (successors line) k d) ≡ None
          leader k d h None e = e
          leader k d h (Some x) e =
              let same : x ≡ y = blocks.others y line x l k d h e in
              absurd (stop (get_or (successors line) k d) (e ∙ ap Some same))
      follows-from {y = y} {f = f} line less l is (passes {n = n} {b = b} line' l' into enters typed rest) last-line last-is all =
          let i = blocks.inside n y into in
          let same-line : line' ≡ line = same_Some line' line (sym l' ∙ l) in
          let entered = subst (λ z. Enters program method z.instruction f b) same-line enters in
          let goes-on : successors line ≡ n ∷ [] = subst (λ z. successors z ≡ n ∷ []) (same_Some i.line line (sym i.is ∙ l)) i.goes in
          let next : spread n ≡ Some b = are.go_on.each n y line f b (inside-cut n y into less) into l is entered in
          record {
            local = entered.local;
            behind = b;
            fits = entered.fits;
            within = entered.within;
            goes_on = subst (λ xs. All (Receives method spread b) xs) (sym goes-on) (all-one (Receives method spread b) n (i.there, b, i.there_is, next, Below-refl b));
          }

      pub follows-spread : (y : ℕ) (line : LinkedLine) (f : TypeFrame) → y < limit → line_in method.lines y ≡ Some line → spread y ≡ Some f → Follows program method spread line f
      follows-spread y line f less l is =
          let run = runs y line f less l is in
          follows-from line less l is run.reaches run.line run.is run.goes_on
