-- Frames come to rest.
use Rattle.std.proofs.Common.{◌≡◌, ℕ, zero, suc, ◌<◌, ◌≤◌, Bool, true, false, ◌||◌, List, [], ◌∷◌, ◌++◌, length, get_or, set, replicate, refl, sym, ap, subst, ◌∙◌, Option, Some, None, arith, ⊎_elim}
use Rattle.std.specs.Prelude.{option_map, option_and_then, slice_get, All, nat_eq}
use Rattle.std.proofs.lemmas.Bool.{false≢true, true≢false, cases_eq, cases_lt, eq-eqb, ne_eqb, eqb-true}
use Rattle.std.proofs.lemmas.List.{get_or-set_same, get_or-set_other, get_or_past, length-replicate}
use Rattle.std.proofs.lemmas.Option.{same_Some, none-some}
use Rattle.jvm_definition.specs.declared.linked_line.LinkedLine.{LinkedLine}
use Rattle.jvm_definition.specs.declared.linked_method.LinkedMethod.{LinkedMethod}
use Rattle.jvm_definition.specs.Program.{Program, line_in, successors}
use Rattle.jvm_definition.specs.Typing.{TypeFrame, Below, Frames, Receives, IsTypingTo, IsTyping, entry_frame, no_top}
use Rattle.jvm_type_inference.specs.declared.frame.Frame.{Frame}
use Rattle.jvm_type_inference.specs.Blocks.{before_in, AreBlocks, Runs, Closed, Covers, WalkFails, WalkEnds, AreSpread}
use Rattle.jvm_type_inference.specs.Verdict.{AreBelow, AreLeast, FailsAt}
use Rattle.jvm_type_inference.specs.Frames.{type_frame, frame_at, entry_of, IsFormed}
use Rattle.jvm_type_inference.specs.Flow.{has, Rises, Waits, FlowsToAll, HaveOperands, AllStayBelow, Visits, KeepsBelow, Keeps, Settles, Rests, IsTable}
use Rattle.jvm_type_inference.proofs.JoinLaws.{Below-refl}
use Rattle.jvm_type_inference.proofs.FlowLaws.{Slots, Rises-refl, Rises-trans, Moves-refl, has-push, frame_at-some, frame_at-is, received-rises}
use Rattle.jvm_type_inference.proofs.TableLaws.{none-of}
use Rattle.jvm_type_inference.proofs.StepLaws.{typing-step}
use Rattle.jvm_type_inference.proofs.CallLaws.{some-there}
use Rattle.jvm_type_inference.proofs.SpreadLaws.{spread-of, are-spread, receives-spread, follows-spread, typed-inside}

-- ---- a block is looked at

pub visited : (program : Program) (method : LinkedMethod) (before : List (Option ℕ)) (limit at last : ℕ) (line : LinkedLine) (f e : TypeFrame) (frames : Slots) (work : List ℕ) (after : Slots) (later : List ℕ) → frame_at frames at ≡ Some f → WalkEnds program method before at f last e → line_in method.lines last ≡ Some line → FlowsToAll method limit e (successors line) frames work after later → Visits program method before limit at frames work after later
visited program method before limit at last line f e frames work after later frame-is walk line-is all = record {
  moves = all.moves;
  rule = λ line' f' l none is.
      let same-frame : f ≡ f' = same_Some f f' (sym frame-is ∙ is) in
      subst (λ x. Runs program method before (frame_at after) at x) same-frame
      (record { last = last; end = e; reaches = walk.reaches; line = line; is = line-is; goes_on = all.received });
}

pub visited-nothing : (program : Program) (method : LinkedMethod) (before : List (Option ℕ)) (limit at : ℕ) (frames : Slots) (work : List ℕ) → ((line : LinkedLine) (f : TypeFrame) → line_in method.lines at ≡ Some line → before_in before at ≡ None → frame_at frames at ≡ Some f → ⊥) → Visits program method before limit at frames work frames work
visited-nothing program method before limit at frames work none = record {
  moves = Moves-refl method.locals method.stack limit frames work;
  rule = λ line f l e is. absurd (none line f l e is);
}

operands-of : (program : Program) (method : LinkedMethod) (others : Frames) (last : ℕ) → IsTypingTo program method others last → HaveOperands others
operands-of program method others last typing = record { each = λ at f e. typing.operands at f e }

pub visited-below : (program : Program) (method : LinkedMethod) (before : List (Option ℕ)) (limit at last : ℕ) (line : LinkedLine) (f e : TypeFrame) (frames : Slots) (good : Bool) (after : Slots) → Closed before limit → at < limit → frame_at frames at ≡ Some f → WalkEnds program method before at f last e → line_in method.lines last ≡ Some line → AllStayBelow method e (successors line) frames good after → KeepsBelow program method limit frames good after
visited-below program method before limit at last line f e frames good after closed admitted frame-is walk line-is all = record {
  each = λ others most to typing under.
      let g = under at f frame-is in
      let within = walk.covers.closed limit closed admitted in
      all.each others (operands-of program method others most typing) under (walk.under line line-is others most (omega (arith, within, to)) typing g.0 g.1 g.2);
}

pub refused-visit : (program : Program) (method : LinkedMethod) (before : List (Option ℕ)) (limit at fault : ℕ) (f : TypeFrame) (frames after : Slots) → Closed before limit → at < limit → frame_at frames at ≡ Some f → WalkFails program method before at f fault → KeepsBelow program method limit frames false after
refused-visit program method before limit at fault f frames after closed admitted frame-is walk = record {
  each = λ others most to typing under.
      let g = under at f frame-is in
      let within = walk.covers.closed limit closed admitted in
      absurd (walk.fails others most (omega (arith, within, to)) typing g.0 g.1 g.2);
}

-- ---- blocks are looked at until no work waits

pub record IsSettling (program : Program) (method : LinkedMethod) (before : List (Option ℕ)) (limit : ℕ) (first frames : Slots) (work : List ℕ) : Type 0 where
  pub rises : Rises first frames
  pub keeps : Keeps program method before limit frames work
  pub below : (others : Frames) (last : ℕ) → limit ≤ suc last → IsTypingTo program method others last → AreBelow (frame_at first) others → AreBelow (frame_at frames) others

pub settling : (program : Program) (method : LinkedMethod) (before : List (Option ℕ)) (limit : ℕ) (frames : Slots) (work : List ℕ) → Keeps program method before limit frames work → IsSettling program method before limit frames frames work
settling program method before limit frames work keeps = record {
  rises = Rises-refl frames;
  keeps = keeps;
  below = λ others last to typing under. under;
}

runs-rises : (program : Program) (method : LinkedMethod) (before : List (Option ℕ)) (frames after : Slots) (at : ℕ) (f : TypeFrame) → Rises frames after → Runs program method before (frame_at frames) at f → Runs program method before (frame_at after) at f
runs-rises program method before frames after at f p run = record {
  last = run.last;
  end = run.end;
  reaches = run.reaches;
  line = run.line;
  is = run.is;
  goes_on = λ k d h. received-rises method frames after run.end (get_or (successors run.line) k d) p (run.goes_on k d h);
}

or-right : (x y : Bool) → y ≡ true → (x || y) ≡ true
or-right true y h = refl
or-right false y h = h

or-left : (x y : Bool) → x ≡ true → (x || y) ≡ true
or-left true y h = refl
or-left false y h = absurd (false≢true h)

or-none : (x y : Bool) → x ≡ false → y ≡ false → (x || y) ≡ false
or-none true y h k = absurd (true≢false h)
or-none false y h k = k

-- the offset that is taken from the work was admitted
pub taken-within : (limit : ℕ) (work earlier : List ℕ) (at : ℕ) → earlier ≡ work ++ at ∷ [] → Waits limit earlier → at < limit
taken-within limit work earlier at e w =
    w.each at (ap (λ x. has x at) e ∙ (has-push work at at ∙ or-right (has work at) (nat_eq at at) (eq-eqb at at refl)))

fewer-wait : (limit : ℕ) (work earlier : List ℕ) (at : ℕ) → earlier ≡ work ++ at ∷ [] → Waits limit earlier → Waits limit work
fewer-wait limit work earlier at e w = record {
  each = λ x h. w.each x (ap (λ y. has y x) e ∙ (has-push work at x ∙ or-left (has work x) (nat_eq at x) h));
}

pub settled-more : (program : Program) (method : LinkedMethod) (before : List (Option ℕ)) (limit at : ℕ) (first frames : Slots) (work earlier : List ℕ) (after : Slots) (later : List ℕ) → earlier ≡ work ++ at ∷ [] → IsSettling program method before limit first frames earlier → Visits program method before limit at frames work after later → KeepsBelow program method limit frames true after → IsSettling program method before limit first after later
settled-more program method before limit at first frames work earlier after later e s v k = record {
  rises = Rises-trans first frames after s.rises v.moves.rises;
  keeps = record {
    formed = v.moves.formed s.keeps.formed;
    waits = v.moves.waits (fewer-wait limit work earlier at e s.keeps.waits);
    rules = λ x less idle line f l none is.
        let still = v.moves.same_frame x less idle in
        let was : frame_at frames x ≡ Some f = sym (ap (option_map type_frame) still) ∙ is in
        ⊎_elim
        (λ here.
        subst (λ y. Runs program method before (frame_at after) y f) (sym here)
        (v.rule line f (subst (λ y. line_in method.lines y ≡ Some line) here l) (subst (λ y. before_in before y ≡ None) here none) (subst (λ y. frame_at frames y ≡ Some f) here was)))
        (λ there.
        let was-idle : has earlier x ≡ false = ap (λ y. has y x) e ∙ (has-push work at x ∙ or-none (has work x) (nat_eq at x) (v.moves.same_work x idle) (ne_eqb at x (λ q. there (sym q)))) in
        runs-rises program method before frames after x f v.moves.rises (s.keeps.rules x less was-idle line f l none was))
        (cases_eq x at);
  };
  below = λ others last to typing under. (k.each others last to typing (s.below others last to typing under)).1;
}

pub settles : (program : Program) (method : LinkedMethod) (before : List (Option ℕ)) (limit : ℕ) (first frames : Slots) (work : List ℕ) → work ≡ [] → IsSettling program method before limit first frames work → Settles program method before limit first frames
settles program method before limit first frames work e s = record {
  rises = s.rises;
  keeps = subst (λ x. Keeps program method before limit frames x) e s.keeps;
}

pub settled-below : (program : Program) (method : LinkedMethod) (before : List (Option ℕ)) (limit : ℕ) (first frames : Slots) (work : List ℕ) → IsSettling program method before limit first frames work → KeepsBelow program method limit first true frames
settled-below program method before limit first frames work s = record { each = λ others last to typing under. (refl, s.below others last to typing under) }

-- frames before which others stood
pub refused-settling : (program : Program) (method : LinkedMethod) (before : List (Option ℕ)) (limit : ℕ) (first frames : Slots) (work : List ℕ) (good : Bool) (after : Slots) → IsSettling program method before limit first frames work → KeepsBelow program method limit frames good after → KeepsBelow program method limit first good after
refused-settling program method before limit first frames work good after s k = record { each = λ others last to typing under. k.each others last to typing (s.below others last to typing under) }

-- ---- the block at the next offset is admitted

one-has : (at x : ℕ) → (nat_eq at x || false) ≡ true → at ≡ x
one-has at x h = eqb-true at x (by-test (nat_eq at x) h)
  where
    by-test : (b : Bool) → (b || false) ≡ true → b ≡ true
    by-test true p = refl
    by-test false p = p

has-one : (at x : ℕ) → at ≡ x → (nat_eq at x || false) ≡ true
has-one at x e = or-left (nat_eq at x) false (eq-eqb at x e)

-- what lies before and in it is left by no block
pub closed-behind : (program : Program) (method : LinkedMethod) (before : List (Option ℕ)) (at last : ℕ) (f e : TypeFrame) → AreBlocks method before → WalkEnds program method before at f last e → Closed before (suc last)
closed-behind program method before at last f e blocks walk n x into less =
    let i = blocks.inside n x into in
    let line = some-there (line_in method.lines last) walk.there in
    ⊎_elim
    (λ more.
    ⊎_elim
    (λ same. absurd (walk.ends n (into ∙ ap Some same)))
    (λ other. absurd (none-some line.0 (sym (i.alone last (omega (arith, other, less)) more) ∙ line.1)))
    (cases_eq x last))
    (λ most. omega (arith, most))
    (cases_lt last n)

admitted : (program : Program) (method : LinkedMethod) (before : List (Option ℕ)) (at last : ℕ) (f : TypeFrame) (frames : Slots) (work : List ℕ) → work ≡ at ∷ [] → Covers program method before at f last → Keeps program method before at frames [] → Keeps program method before (suc last) frames work
admitted program method before at last f frames work e covers keeps = record {
  formed = keeps.formed;
  waits = record { each = λ x h. let same : at ≡ x = one-has at x (ap (λ y. has y x) (sym e) ∙ h) in omega (arith, same, covers.order) };
  rules = λ x less idle line g l none is.
      let other : at ≡ x → ⊥ = λ q. true≢false (sym (ap (λ y. has y x) e ∙ has-one at x q) ∙ idle) in
      ⊎_elim
      (λ below. keeps.rules x below refl line g l none is)
      (λ above. absurd (covers.alone x line (omega (arith, other, above)) (omega (arith, less)) l none))
      (cases_lt x at);
}

-- the block at the next offset was looked at, where no work waited
pub visited-admitted : (program : Program) (method : LinkedMethod) (before : List (Option ℕ)) (at last : ℕ) (f : TypeFrame) (frames : Slots) (work : List ℕ) (after : Slots) (later : List ℕ) → work ≡ [] → Covers program method before at f last → Keeps program method before at frames [] → Visits program method before (suc last) at frames work after later → KeepsBelow program method (suc last) frames true after → IsSettling program method before (suc last) frames after later
visited-admitted program method before at last f frames work after later e covers keeps v k =
    settled-more program method before (suc last) at frames frames [] (at ∷ []) after later refl
    (settling program method before (suc last) frames (at ∷ []) (admitted program method before at last f frames (at ∷ []) refl covers keeps))
    (subst (λ w. Visits program method before (suc last) at frames w after later) e v) k

-- ---- frames at rest

pub rests-more : (program : Program) (method : LinkedMethod) (before : List (Option ℕ)) (at last : ℕ) (f : TypeFrame) (frames after : Slots) (later : List ℕ) (end : Slots) → Rests program method before at frames → Covers program method before at f last → IsSettling program method before (suc last) frames after later → Settles program method before (suc last) after end → KeepsBelow program method (suc last) after true end → Rests program method before (suc last) end
rests-more program method before at last f frames after later end r covers s t k = record {
  parameters = r.parameters;
  entry = received-rises method frames end (entry_frame method) 0 (Rises-trans frames after end s.rises t.rises) r.entry;
  keeps = t.keeps;
  least = λ others most to typing. (k.each others most to typing (s.below others most to typing (r.least others most (omega (arith, to, covers.order)) typing))).1;
}

-- no block with a frame begins at the next offset
pub rests-past : (program : Program) (method : LinkedMethod) (before : List (Option ℕ)) (at : ℕ) (frames : Slots) → ((line : LinkedLine) (f : TypeFrame) → line_in method.lines at ≡ Some line → before_in before at ≡ None → frame_at frames at ≡ Some f → ⊥) → Rests program method before at frames → Rests program method before (suc at) frames
rests-past program method before at frames nothing r = record {
  parameters = r.parameters;
  entry = r.entry;
  keeps = record {
    formed = r.keeps.formed;
    waits = record { each = λ x h. absurd (false≢true h) };
    rules = λ x less idle line f l none is.
        ⊎_elim
        (λ here. absurd (nothing line f (subst (λ y. line_in method.lines y ≡ Some line) here l) (subst (λ y. before_in before y ≡ None) here none) (subst (λ y. frame_at frames y ≡ Some f) here is)))
        (λ there. r.keeps.rules x (omega (arith, there, less)) refl line f l none is)
        (cases_eq x at);
  };
  least = λ others last to typing. r.least others last (omega (arith, to)) typing;
}

leader-operands : (program : Program) (method : LinkedMethod) (before : List (Option ℕ)) (at : ℕ) (frames : Slots) → Rests program method before at frames → (x : ℕ) (f : TypeFrame) → frame_at frames x ≡ Some f → no_top f.stack ≡ true
leader-operands program method before at frames r x f e =
    let g = frame_at-some frames x f e in
    subst (λ y. no_top y.stack ≡ true) g.2 (r.keeps.formed.each x g.0 g.1).operands

-- no block begins before the first instruction
first-leads : (method : LinkedMethod) (before : List (Option ℕ)) → AreBlocks method before → before_in before 0 ≡ None
first-leads method before blocks = by-case (before_in before 0) refl
  where
    by-case : (o : Option ℕ) → before_in before 0 ≡ o → before_in before 0 ≡ None
    by-case None e = e
    by-case (Some x) e = absurd (omega (arith, (blocks.inside 0 x e).order))

module _ (program : Program) (method : LinkedMethod) (before : List (Option ℕ)) (blocks : AreBlocks method before) (at : ℕ) (frames : Slots) (r : Rests program method before at frames) where
  -- an instruction inside the block at the next offset is at fault
  pub fails-at : (line : LinkedLine) (f : TypeFrame) (fault : ℕ) → line_in method.lines at ≡ Some line → before_in before at ≡ None → frame_at frames at ≡ Some f → Covers program method before at f fault → ((others : Frames) → IsTypingTo program method others fault → ⊥) → FailsAt program method fault
  fails-at line f fault l none is covers fails = record {
    fails = fails;
    before = λ earlier less. (
      spread,
      record {
        operands = λ y g e. operands y g e (before_in before y) refl;
        parameters = r.parameters;
        entry = receives-spread program method before blocks at frames r.keeps fault spread are (entry_frame method) 0 (first-leads method before blocks) r.entry;
        rules = λ y line' g to l' e.
            ⊎_elim
            (λ below. follows-spread program method before blocks at frames r.keeps fault spread are within y line' g below l' e)
            (λ above. covers.held spread are.go_on first-is y line' g above (omega (arith, to, less)) l' e)
            (cases_lt y at);
      },
    );
  }
    where
      spread : Frames
      spread = spread-of program method before (frame_at frames) fault

      are : AreSpread program method before fault (frame_at frames) spread
      are = are-spread program method before (frame_at frames) fault blocks

      first-is : spread at ≡ Some f
      first-is = are.leaders at none ∙ is

      within : (n x : ℕ) → before_in before n ≡ Some x → x < at → n ≤ fault
      within n x into less =
          ⊎_elim
          (λ more. absurd (none-some line (sym ((blocks.inside n x into).alone at less more) ∙ l)))
          (λ most. omega (arith, most, covers.order))
          (cases_lt at n)

      operands : (y : ℕ) (g : TypeFrame) → spread y ≡ Some g → (o : Option ℕ) → before_in before y ≡ o → no_top g.stack ≡ true
      operands y g e None leads = leader-operands program method before at frames r y g (sym (are.leaders y leads) ∙ e)
      operands y g e (Some x) into =
          let i = blocks.inside y x into in
          ⊎_elim
          (λ below. typed-inside program method before blocks at frames r.keeps fault spread are y x g into below e)
          (λ above. covers.typed spread are.go_on first-is y i.there g (omega (arith, above, i.order)) (are.back y x g into e).0 i.there_is e)
          (cases_lt x at)

  -- no block is left
  pub typed-all : ((x : ℕ) → at ≤ x → line_in method.lines x ≡ None) → (spread : Frames) → AreSpread program method before at (frame_at frames) spread → AreLeast program method spread
  typed-all ends spread are = record {
    typing = λ last. record {
      operands = λ y g e. operands y g e (before_in before y) refl;
      parameters = r.parameters;
      entry = receives-spread program method before blocks at frames r.keeps at spread are (entry_frame method) 0 (first-leads method before blocks) r.entry;
      rules = λ y line g to l e. follows-spread program method before blocks at frames r.keeps at spread are within y line g (below y line l) l e;
    };
    least = λ others typing. least others typing;
  }
    where
      below : (y : ℕ) (line : LinkedLine) → line_in method.lines y ≡ Some line → y < at
      below y line l = ⊎_elim (λ less. less) (λ more. absurd (none-some line (sym (ends y more) ∙ l))) (cases_lt y at)

      within : (n x : ℕ) → before_in before n ≡ Some x → x < at → n ≤ at
      within n x into less = let i = blocks.inside n x into in let most = below n i.there i.there_is in omega (arith, most)

      operands : (y : ℕ) (g : TypeFrame) → spread y ≡ Some g → (o : Option ℕ) → before_in before y ≡ o → no_top g.stack ≡ true
      operands y g e None leads = leader-operands program method before at frames r y g (sym (are.leaders y leads) ∙ e)
      operands y g e (Some x) into =
          let i = blocks.inside y x into in
          typed-inside program method before blocks at frames r.keeps at spread are y x g into (below x i.line i.is) e

      -- what is above the frames at the first instructions is above those inside
      above-in : (others : Frames) → IsTyping program method others → (k y : ℕ) (g : TypeFrame) → y < k → spread y ≡ Some g → (o : Option ℕ) → before_in before y ≡ o → (u : TypeFrame) × (others y ≡ Some u) × Below g u
      above-in others typing zero y g h e o is = absurd (omega (arith, h))
      above-in others typing (suc k) y g h e None leads = r.least others at (omega arith) (typing at) y g (sym (are.leaders y leads) ∙ e)
      above-in others typing (suc k) y g h e (Some x) into =
          let i = blocks.inside y x into in
          let b = are.back y x g into e in
          let u = above-in others typing k x b.2 (omega (arith, h, i.order)) b.4 (before_in before x) refl in
          let step = typing-step program method others x x b.1 b.2 u.0 (typing x) (omega arith) b.3 u.1 u.2 in
          let same : step.0 ≡ g = same_Some step.0 g (sym (step.1).fits ∙ b.5) in
          let goes : successors b.1 ≡ y ∷ [] = subst (λ z. successors z ≡ y ∷ []) (same_Some i.line b.1 (sym i.is ∙ b.3)) i.goes in
          let all : All (Receives method others g) (y ∷ []) = subst (λ xs. All (Receives method others g) xs) goes (subst (λ z. All (Receives method others z) (successors b.1)) same step.2) in
          let received = all 0 0 (omega arith) in
          (received.1, received.3, received.4)

      least : (others : Frames) → IsTyping program method others → AreBelow spread others
      least others typing y g e = above-in others typing (suc y) y g (omega arith) e (before_in before y) refl

-- ---- the block at the next offset leads to a frame

module _ (program : Program) (method : LinkedMethod) (before : List (Option ℕ)) (blocks : AreBlocks method before) (at last : ℕ) (first : LinkedLine) (f e : TypeFrame) (frames after : Slots) (later : List ℕ) (r : Rests program method before at frames) (first-is : line_in method.lines at ≡ Some first) (leads : before_in before at ≡ None) (is : frame_at frames at ≡ Some f) (walk : WalkEnds program method before at f last e) where
  line : (l : LinkedLine) × (line_in method.lines last ≡ Some l)
  line = some-there (line_in method.lines last) walk.there

  pub left-below : (good : Bool) → ((l : LinkedLine) → line_in method.lines last ≡ Some l → AllStayBelow method e (successors l) frames good after) → KeepsBelow program method (suc last) frames good after
  left-below good all = visited-below program method before (suc last) at last line.0 f e frames good after (closed-behind program method before at last f e blocks walk) (omega (arith, walk.covers.order)) is walk line.1 (all line.0 line.1)

  pub left : (work : List ℕ) → work ≡ [] → ((l : LinkedLine) → line_in method.lines last ≡ Some l → FlowsToAll method (suc last) e (successors l) frames work after later) → ((l : LinkedLine) → line_in method.lines last ≡ Some l → AllStayBelow method e (successors l) frames true after) → IsSettling program method before (suc last) frames after later
  left work none flows all =
      visited-admitted program method before at last f frames work after later none walk.covers r.keeps
      (visited program method before (suc last) at last line.0 f e frames work after later is walk line.1 (flows line.0 line.1))
      (left-below true all)

  -- no frames are left
  pub none-left : KeepsBelow program method (suc last) frames false after → FailsAt program method last
  none-left k =
      fails-at program method before blocks at frames r first f last first-is leads is walk.covers
      (λ others typing. false≢true (k.each others last (omega arith) typing (r.least others last (omega (arith, walk.covers.order)) typing)).0)

-- an instruction inside the block at the next offset cannot be entered
pub none-walked : (program : Program) (method : LinkedMethod) (before : List (Option ℕ)) (at fault : ℕ) (first : LinkedLine) (f : TypeFrame) (frames : Slots) → AreBlocks method before → Rests program method before at frames → line_in method.lines at ≡ Some first → before_in before at ≡ None → frame_at frames at ≡ Some f → WalkFails program method before at f fault → FailsAt program method fault
none-walked program method before at fault first f frames blocks r first-is leads is walk =
    fails-at program method before blocks at frames r first f fault first-is leads is walk.covers
    (λ others typing.
    let g = r.least others fault (omega (arith, walk.covers.order)) typing at f is in
    walk.fails others fault (omega arith) typing g.0 g.1 g.2)

-- ---- the first frames

pub table-ends : (method : LinkedMethod) (starts : List (Option ℕ)) → IsTable method.lines starts → (x : ℕ) → length starts ≤ x → line_in method.lines x ≡ None
table-ends method starts t x h = sym (t.finds x) ∙ ap (option_and_then (slice_get method.lines)) (get_or_past starts x None h)

module _ (method : LinkedMethod) (size : ℕ) (frames : Slots) (inside : 0 < size) (e : frames ≡ set (replicate size None) 0 (Some (entry_of method))) where
  first-frame : get_or frames 0 None ≡ Some (entry_of method)
  first-frame = ap (λ x. get_or x 0 None) e ∙ get_or-set_same (replicate size None) 0 (Some (entry_of method)) None (omega (arith, inside, length-replicate {A = Option Frame} size None))

  other-frame : (at : ℕ) → (at ≡ 0 → ⊥) → get_or frames at None ≡ None
  other-frame at ne = ap (λ x. get_or x at None) e ∙ (get_or-set_other (replicate size None) 0 at (Some (entry_of method)) None ne ∙ none-of size at None)

  -- the only frame is the first one
  only-frame : (at : ℕ) (f : Frame) → get_or frames at None ≡ Some f → (at ≡ 0) × (entry_of method ≡ f)
  only-frame at f is =
      ⊎_elim
      (λ here. (here, same_Some (entry_of method) f (sym first-frame ∙ (ap (λ k. get_or frames k None) (sym here) ∙ is))))
      (λ there. absurd (none-some f (sym (other-frame at there) ∙ is)))
      (cases_eq at 0)

entry-formed : (method : LinkedMethod) → length method.parameters ≤ method.locals → IsFormed method.locals method.stack (entry_of method)
entry-formed method fits = record { sized = record { locals_fit = fits; stack_fits = omega arith }; operands = refl }

pub first-rests : (program : Program) (method : LinkedMethod) (before : List (Option ℕ)) (line : LinkedLine) (size : ℕ) (frames : Slots) → line_in method.lines 0 ≡ Some line → length method.parameters ≤ method.locals → 0 < size → frames ≡ set (replicate size None) 0 (Some (entry_of method)) → Rests program method before 0 frames
first-rests program method before line size frames line-is fits inside e = record {
  parameters = fits;
  entry = (line, entry_frame method, line-is, frame_at-is frames 0 (entry_of method) (first-frame method size frames inside e), Below-refl (entry_frame method));
  keeps = record {
    formed = record { each = λ at f is. subst (λ x. IsFormed method.locals method.stack x) (only-frame method size frames inside e at f is).1 (entry-formed method fits) };
    waits = record { each = λ x h. absurd (false≢true h) };
    rules = λ x less. absurd (omega arith);
  };
  least = λ others last to typing at f is.
      let o = frame_at-some frames at f is in
      let only = only-frame method size frames inside e at o.0 o.1 in
      let r = typing.entry in
      let same : entry_frame method ≡ f = ap type_frame only.1 ∙ o.2 in
      (r.1, ap others only.0 ∙ r.3, subst (λ x. Below x r.1) same r.4);
}
