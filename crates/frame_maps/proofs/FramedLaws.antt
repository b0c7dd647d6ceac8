-- A pass over all instructions goes to the end exactly where the frames that are listed give a typing.
use Rattle.std.proofs.Common.{◌≡◌, ℕ, suc, ◌<◌, ◌≤◌, Bool, true, false, List, [], ◌∷◌, length, refl, sym, ap, subst, ◌∙◌, Option, Some, None, arith, get_or, ⊎_elim, eqb}
use Rattle.std.specs.Prelude.{All, if◌then◌else◌, ◌↔◌, IsSome, is_some}
use Rattle.std.proofs.lemmas.Bool.{false≢true, eq-eqb, ne_eqb, cases_eq}
use Rattle.std.proofs.lemmas.Option.{same_Some, none-some}
use Rattle.std.proofs.lemmas.List.Elements.{All-cons}
use Rattle.jvm_definition.specs.declared.linked_line.LinkedLine.{LinkedLine}
use Rattle.jvm_definition.specs.declared.linked_method.LinkedMethod.{LinkedMethod}
use Rattle.jvm_definition.specs.Program.{Program, line_in, LaidFrom, instruction_targets, falls_through, successors}
use Rattle.jvm_definition.specs.Typing.{TypeFrame, Below, Frames, no_top, type_effect, applied, Receives, Follows, IsTypingTo, entry_frame}
use Rattle.jvm_type_inference.specs.Actions.{Enters}
use Rattle.jvm_type_inference.proofs.CallLaws.{some-there}
use Rattle.jvm_type_inference.proofs.JoinLaws.{Below-refl}
use Rattle.jvm_type_inference.proofs.LeastLaws.{is-some}
use Rattle.frame_maps.specs.Framed.{HasLine, IsFramedBy, Framed}
use Rattle.frame_maps.specs.Walk.{FlowsBelow, Comes, ListedAbove, Steps, flows_on, Walks}

-- ---- lines that stand one after the other

abbrev pub picks : LinkedLine → List LinkedLine → ℕ → Bool → Option LinkedLine
picks l lines at b = if b then Some l else line_in lines at

pub here : (l : LinkedLine) (lines : List LinkedLine) (at : ℕ) → l.at ≡ at → line_in (l ∷ lines) at ≡ Some l
here l lines at e = ap (picks l lines at) (eq-eqb l.at at e)

pub there : (l : LinkedLine) (lines : List LinkedLine) (at : ℕ) → (l.at ≡ at → ⊥) → line_in (l ∷ lines) at ≡ line_in lines at
there l lines at e = ap (picks l lines at) (ne_eqb l.at at e)

pub record Stands (start : ℕ) (line : LinkedLine) (at : ℕ) : Type 0 where
  pub is : line.at ≡ at
  pub behind : start ≤ at
  pub goes : at < line.next

pub stands : (start : ℕ) (lines : List LinkedLine) (at : ℕ) (line : LinkedLine) → LaidFrom start lines → line_in lines at ≡ Some line → Stands start line at
stands start [] at line laid e = absurd (none-some line e)
stands start (l ∷ lines) at line laid e =
    ⊎_elim
    (λ same.
    let is : l ≡ line = same_Some l line (sym (here l lines at same) ∙ e) in
    subst (λ x. Stands start x at) is (record { is = same; behind = omega (arith, laid.0, same); goes = omega (arith, laid.1, same) }))
    (λ other.
    let s = stands l.next lines at line laid.2 (sym (there l lines at other) ∙ e) in
    record { is = s.is; behind = omega (arith, laid.0, laid.1, s.behind); goes = s.goes })
    (cases_eq l.at at)

-- ---- from a pass to a typing

module _ (program : Program) (method : LinkedMethod) (listed : Frames) where
  -- the frames of a pass
  abbrev taken : (flowing : Option TypeFrame) (lines : List LinkedLine) → Walks program method listed flowing lines → Frames
  taken flowing [] w at = None
  taken flowing (l ∷ lines) w at = if eqb l.at at then Some w.0 else taken (flows_on l w.1) lines w.3 at

  taken-here : (flowing : Option TypeFrame) (l : LinkedLine) (lines : List LinkedLine) (w : Walks program method listed flowing (l ∷ lines)) (at : ℕ) → l.at ≡ at → taken flowing (l ∷ lines) w at ≡ Some w.0
  taken-here flowing l lines w at e = ap (λ b. if b then Some w.0 else taken (flows_on l w.1) lines w.3 at) (eq-eqb l.at at e)

  taken-there : (flowing : Option TypeFrame) (l : LinkedLine) (lines : List LinkedLine) (w : Walks program method listed flowing (l ∷ lines)) (at : ℕ) → (l.at ≡ at → ⊥) → taken flowing (l ∷ lines) w at ≡ taken (flows_on l w.1) lines w.3 at
  taken-there flowing l lines w at e = ap (λ b. if b then Some w.0 else taken (flows_on l w.1) lines w.3 at) (ne_eqb l.at at e)

  -- what is known of a line that was passed
  record Passes (lines : List LinkedLine) (frames : Frames) (at : ℕ) (line : LinkedLine) : Type 0 where
    frame : TypeFrame
    is : frames at ≡ Some frame
    behind : TypeFrame
    arrives : (flowing : Option TypeFrame) × Comes (listed at) flowing frame
    enters : Enters program method line.instruction frame behind
    targets : All (ListedAbove listed behind) (instruction_targets line.instruction)
    next : (l : LinkedLine) → line_in lines line.next ≡ Some l → (g : TypeFrame) × (frames line.next ≡ Some g) × Comes (listed line.next) (flows_on line behind) g
    goes : falls_through line.instruction ≡ true → IsSome (line_in lines line.next)

  -- the first line
  passed-first : (start : ℕ) (flowing : Option TypeFrame) (l : LinkedLine) (lines : List LinkedLine) → LaidFrom start (l ∷ lines) → (w : Walks program method listed flowing (l ∷ lines)) → Passes (l ∷ lines) (taken flowing (l ∷ lines) w) l.at l
  passed-first start flowing l [] laid w = record {
    frame = w.0;
    is = taken-here flowing l [] w l.at refl;
    behind = w.1;
    arrives = (flowing, w.2.comes);
    enters = w.2.enters;
    targets = w.2.targets;
    next = λ k e. absurd (none-some k (sym (there l [] l.next (λ x. omega (arith, laid.1, x))) ∙ e));
    goes = λ t. absurd (none-some w.1 (sym w.3 ∙ ap (λ b. if b then Some w.1 else None) t));
  }
  passed-first start flowing l (m ∷ lines) laid w =
      let apart : l.at ≡ l.next → ⊥ = λ x. omega (arith, laid.1, x) in
      record {
        frame = w.0;
        is = taken-here flowing l (m ∷ lines) w l.at refl;
        behind = w.1;
        arrives = (flowing, w.2.comes);
        enters = w.2.enters;
        targets = w.2.targets;
        next = λ k e. (
          w.3.0,
          taken-there flowing l (m ∷ lines) w l.next apart ∙ taken-here (flows_on l w.1) m lines w.3 l.next laid.2.0,
          subst (λ x. Comes (listed x) (flows_on l w.1) w.3.0) laid.2.0 w.3.2.comes,
        );
        goes = λ t. is-some _ m (there l (m ∷ lines) l.next apart ∙ here m lines l.next laid.2.0);
      }

  passed : (start : ℕ) (flowing : Option TypeFrame) (lines : List LinkedLine) → LaidFrom start lines → (w : Walks program method listed flowing lines) → (at : ℕ) (line : LinkedLine) → line_in lines at ≡ Some line → Passes lines (taken flowing lines w) at line
  passed start flowing [] laid w at line e = absurd (none-some line e)
  passed start flowing (l ∷ lines) laid w at line e =
      ⊎_elim
      (λ same.
      let is : l ≡ line = same_Some l line (sym (here l lines at same) ∙ e) in
      subst (λ x. Passes (l ∷ lines) (taken flowing (l ∷ lines) w) at x) is
      (subst (λ a. Passes (l ∷ lines) (taken flowing (l ∷ lines) w) a l) same (passed-first start flowing l lines laid w)))
      (λ other.
      let f : line_in lines at ≡ Some line = sym (there l lines at other) ∙ e in
      let s = stands l.next lines at line laid.2 f in
      let p = passed l.next (flows_on l w.1) lines laid.2 w.3 at line f in
      let apart : l.at ≡ line.next → ⊥ = λ x. omega (arith, laid.1, s.behind, s.goes, x) in
      record {
        frame = p.frame;
        is = taken-there flowing l lines w at other ∙ p.is;
        behind = p.behind;
        arrives = p.arrives;
        enters = p.enters;
        targets = p.targets;
        next = λ k h. let n = p.next k (sym (there l lines line.next apart) ∙ h) in (n.0, taken-there flowing l lines w line.next apart ∙ n.1, n.2);
        goes = λ t. subst IsSome (sym (there l lines line.next apart)) (p.goes t);
      })
      (cases_eq l.at at)

  -- an offset with a frame has a line
  has-line : (flowing : Option TypeFrame) (lines : List LinkedLine) (w : Walks program method listed flowing lines) (at : ℕ) (f : TypeFrame) → taken flowing lines w at ≡ Some f → (line : LinkedLine) × (line_in lines at ≡ Some line)
  has-line flowing [] w at f e = absurd (none-some f e)
  has-line flowing (l ∷ lines) w at f e =
      ⊎_elim
      (λ same. (l, here l lines at same))
      (λ other. let r = has-line (flows_on l w.1) lines w.3 at f (sym (taken-there flowing l lines w at other) ∙ e) in (r.0, there l lines at other ∙ r.1))
      (cases_eq l.at at)

  comes-listed : (o flowing : Option TypeFrame) (f g : TypeFrame) → o ≡ Some g → Comes o flowing f → f ≡ g
  comes-listed None flowing f g e c = absurd (none-some g e)
  comes-listed (Some h) flowing f g e c = sym c.0 ∙ same_Some h g e

  comes-typed : (o flowing : Option TypeFrame) (f : TypeFrame) → Comes o flowing f → no_top f.stack ≡ true
  comes-typed None flowing f c = c.1
  comes-typed (Some g) flowing f c = c.2

  -- what flows is below the frame that an instruction is entered with
  comes-above : (o flowing : Option TypeFrame) (b f : TypeFrame) → flowing ≡ Some b → Comes o flowing f → Below b f
  comes-above None flowing b f e c = subst (λ x. Below b x) (same_Some b f (sym e ∙ c.0)) (Below-refl b)
  comes-above (Some g) None b f e c = absurd (none-some b e)
  comes-above (Some g) (Some h) b f e c = subst (λ x. Below x f) (same_Some h b e) c.1

  comes-nothing : (o flowing : Option TypeFrame) (f : TypeFrame) → flowing ≡ None → Comes o flowing f → IsSome o
  comes-nothing None flowing f e c = absurd (none-some f (sym e ∙ c.0))
  comes-nothing (Some g) flowing f e c = refl

  comes-none : (o flowing : Option TypeFrame) (f : TypeFrame) → o ≡ None → Comes o flowing f → flowing ≡ Some f
  comes-none None flowing f e c = c.0
  comes-none (Some g) flowing f e c = absurd (none-some g (sym e))

  -- what flows to the first line
  first-comes : (start : ℕ) (b : TypeFrame) (lines : List LinkedLine) → LaidFrom start lines → (w : Walks program method listed (Some b) lines) → (line : LinkedLine) × (f : TypeFrame) × (line_in lines start ≡ Some line) × (taken (Some b) lines w start ≡ Some f) × Comes (listed start) (Some b) f
  first-comes start b [] laid w = absurd (none-some b (sym w))
  first-comes start b (l ∷ lines) laid w =
      (l, w.0, here l lines start laid.0, taken-here (Some b) l lines w start laid.0, subst (λ x. Comes (listed x) (Some b) w.0) laid.0 w.2.comes)

  all-successors : (P : ℕ → Type 0) (line : LinkedLine) → (falls_through line.instruction ≡ true → P line.next) → All P (instruction_targets line.instruction) → All P (successors line)
  all-successors P line next targets = by-test (falls_through line.instruction) next
    where
      by-test : (b : Bool) → (b ≡ true → P line.next) → All P (if b then line.next ∷ instruction_targets line.instruction else instruction_targets line.instruction)
      by-test true n = All-cons P line.next (instruction_targets line.instruction) (n refl) targets
      by-test false n = targets

  next-above : (line : LinkedLine) (b : TypeFrame) → falls_through line.instruction ≡ true → flows_on line b ≡ Some b
  next-above line b t = ap (λ x. if x then Some b else None) t

  next-is : (line : LinkedLine) (b g : TypeFrame) → flows_on line b ≡ Some g → b ≡ g
  next-is line b g e = by-test (falls_through line.instruction) e
    where
      by-test : (x : Bool) → (if x then Some b else None) ≡ Some g → b ≡ g
      by-test true h = same_Some b g h
      by-test false h = absurd (none-some g h)

  module _ (laid : LaidFrom 0 method.lines) (lines-there : (at : ℕ) (f : TypeFrame) → listed at ≡ Some f → HasLine method at) (parameters : length method.parameters ≤ method.locals) (w : Walks program method listed (Some (entry_frame method)) method.lines) where
    abbrev walked : Frames
    walked = taken (Some (entry_frame method)) method.lines w

    at-line : (at : ℕ) (line : LinkedLine) → line_in method.lines at ≡ Some line → Passes method.lines walked at line
    at-line at line e = passed 0 (Some (entry_frame method)) method.lines laid w at line e

    walked-lists : (at : ℕ) (f : TypeFrame) → listed at ≡ Some f → walked at ≡ Some f
    walked-lists at f e =
        let l = some-there (line_in method.lines at) (lines-there at f e) in
        let p = at-line at l.0 l.1 in
        p.is ∙ ap (λ x. Some x) (comes-listed (listed at) p.arrives.0 p.frame f e p.arrives.1)

    walked-receives : (to : ℕ) (b : TypeFrame) → ListedAbove listed b to → Receives method walked b to
    walked-receives to b above =
        let l = some-there (line_in method.lines to) (lines-there to above.0 above.1) in
        (l.0, above.0, l.1, walked-lists to above.0 above.1, above.2)

    walked-rule : (at : ℕ) (line : LinkedLine) (f : TypeFrame) → line_in method.lines at ≡ Some line → walked at ≡ Some f → Follows program method walked line f
    walked-rule at line f l e =
        let p = at-line at line l in
        let same : p.frame ≡ f = same_Some p.frame f (sym p.is ∙ e) in
        subst (λ x. Follows program method walked line x) same (record {
          local = p.enters.local;
          behind = p.behind;
          fits = p.enters.fits;
          within = p.enters.within;
          goes_on = all-successors (Receives method walked p.behind) line
              (λ t.
              let k = some-there (line_in method.lines line.next) (p.goes t) in
              let n = p.next k.0 k.1 in
              (k.0, n.0, k.1, n.1, comes-above (listed line.next) (flows_on line p.behind) p.behind n.0 (next-above line p.behind t) n.2))
              (λ k d h. walked-receives (get_or (instruction_targets line.instruction) k d) p.behind (p.targets k d h));
        })

    walked-entry : Receives method walked (entry_frame method) 0
    walked-entry =
        let c = first-comes 0 (entry_frame method) method.lines laid w in
        (c.0, c.1, c.2, c.3, comes-above (listed 0) (Some (entry_frame method)) (entry_frame method) c.1 refl c.4)

    pub walked-framed : Framed program method listed
    walked-framed = (
      walked,
      record {
        typing = λ last. record {
          operands = λ at f e.
              let l = has-line (Some (entry_frame method)) method.lines w at f e in
              let p = at-line at l.0 l.1 in
              let same : p.frame ≡ f = same_Some p.frame f (sym p.is ∙ e) in
              subst (λ x. no_top x.stack ≡ true) same (comes-typed (listed at) p.arrives.0 p.frame p.arrives.1);
          parameters = parameters;
          entry = walked-entry;
          rules = λ at line f below l e. walked-rule at line f l e;
        };
        each = λ at line l. is-some (walked at) (at-line at line l).frame (at-line at line l).is;
        lists = λ at f e. (lines-there at f e, walked-lists at f e);
        targets = λ at line l k d h. let p = (at-line at line l).targets k d h in is-some (listed (get_or (instruction_targets line.instruction) k d)) p.0 p.1;
        behind = λ at line l stops has.
            let p = at-line at line l in
            let k = some-there (line_in method.lines line.next) has in
            let n = p.next k.0 k.1 in
            comes-nothing (listed line.next) (flows_on line p.behind) n.0 (ap (λ x. if x then Some p.behind else None) stops) n.2;
        follows = λ at line f b l e fits has none.
            let p = at-line at line l in
            let same : p.frame ≡ f = same_Some p.frame f (sym p.is ∙ e) in
            let left : p.behind ≡ b = same_Some p.behind b (sym p.enters.fits ∙ ap (applied (type_effect program line.instruction)) same ∙ fits) in
            let k = some-there (line_in method.lines line.next) has in
            let n = p.next k.0 k.1 in
            let on : p.behind ≡ n.0 = next-is line p.behind n.0 (comes-none (listed line.next) (flows_on line p.behind) n.0 none n.2) in
            n.1 ∙ ap (λ x. Some x) (sym on ∙ left);
        start = λ none.
            let c = first-comes 0 (entry_frame method) method.lines laid w in
            c.3 ∙ sym (comes-none (listed 0) (Some (entry_frame method)) c.1 none c.4);
      },
    )

-- ---- from a typing to a pass

module _ (program : Program) (method : LinkedMethod) (listed frames : Frames) (framed : IsFramedBy program method listed frames) where
  -- the lines from an offset on
  record IsRest (start : ℕ) (lines : List LinkedLine) : Type 0 where
    laid : LaidFrom start lines
    same : (at : ℕ) → start ≤ at → line_in method.lines at ≡ line_in lines at

  rest-next : (start : ℕ) (l : LinkedLine) (lines : List LinkedLine) → IsRest start (l ∷ lines) → IsRest l.next lines
  rest-next start l lines r = record {
    laid = r.laid.2;
    same = λ at h. r.same at (omega (arith, r.laid.0, r.laid.1, h)) ∙ there l lines at (λ x. omega (arith, r.laid.1, h, x));
  }

  -- what flows to the instruction at an offset
  record Arrives (start : ℕ) (flowing : Option TypeFrame) : Type 0 where
    line : (b : TypeFrame) → flowing ≡ Some b → HasLine method start
    comes : (f : TypeFrame) → HasLine method start → frames start ≡ Some f → Comes (listed start) flowing f

  comes-from : (o flowing : Option TypeFrame) (f : TypeFrame) → ((g : TypeFrame) → o ≡ Some g → (g ≡ f) × FlowsBelow flowing f × (no_top f.stack ≡ true)) → (o ≡ None → (flowing ≡ Some f) × (no_top f.stack ≡ true)) → Comes o flowing f
  comes-from None flowing f some none = none refl
  comes-from (Some g) flowing f some none = some g refl

  typing-to : (last : ℕ) → IsTypingTo program method frames last
  typing-to last = framed.typing last

  no-operand : (at : ℕ) (f : TypeFrame) → frames at ≡ Some f → no_top f.stack ≡ true
  no-operand at f e = (typing-to at).operands at f e

  -- a listed frame is the one there
  listed-there : (at : ℕ) (f g : TypeFrame) → listed at ≡ Some g → frames at ≡ Some f → g ≡ f
  listed-there at f g e h = same_Some g f (sym (framed.lists at g e).1 ∙ h)

  received-below : (to : ℕ) (b f : TypeFrame) → Receives method frames b to → frames to ≡ Some f → Below b f
  received-below to b f r e = subst (λ x. Below b x) (same_Some r.1 f (sym r.3 ∙ e)) r.4

  target-above : (to : ℕ) (b : TypeFrame) → IsSome (listed to) → Receives method frames b to → ListedAbove listed b to
  target-above to b h r =
      let g = some-there (listed to) h in
      (g.0, g.1, received-below to b g.0 r (framed.lists to g.0 g.1).1)

  abbrev follower : LinkedLine → TypeFrame → Bool → Option TypeFrame
  follower line b goes = if goes then Some b else None

  next-arrives : (line : LinkedLine) (f b : TypeFrame) (at : ℕ) → line_in method.lines at ≡ Some line → frames at ≡ Some f → applied (type_effect program line.instruction) f ≡ Some b → All (Receives method frames b) (successors line) → Arrives line.next (flows_on line b)
  next-arrives line f b at l e fits goes = by-test (falls_through line.instruction) refl goes
    where
      by-test : (x : Bool) → falls_through line.instruction ≡ x → All (Receives method frames b) (if x then line.next ∷ instruction_targets line.instruction else instruction_targets line.instruction) → Arrives line.next (if x then Some b else None)
      by-test true t all =
          let r = all 0 0 (omega arith) in
          record {
            line = λ c h. is-some _ r.0 r.2;
            comes = λ g has h. comes-from (listed line.next) (Some b) g
                (λ k is. (listed-there line.next g k is h, received-below line.next b g r h, no-operand line.next g h))
                (λ none. (sym (framed.follows at line f b l e fits has none) ∙ h, no-operand line.next g h));
          }
      by-test false t all = record {
        line = λ c h. absurd (none-some c h);
        comes = λ g has h. comes-from (listed line.next) None g
            (λ k is. (listed-there line.next g k is h, tt, no-operand line.next g h))
            (λ none. absurd (false≢true (sym (ap is_some none) ∙ framed.behind at line l t has)));
      }

  all-targets : (line : LinkedLine) (b : TypeFrame) → All (Receives method frames b) (successors line) → All (Receives method frames b) (instruction_targets line.instruction)
  all-targets line b all = by-test (falls_through line.instruction) all
    where
      by-test : (x : Bool) → All (Receives method frames b) (if x then line.next ∷ instruction_targets line.instruction else instruction_targets line.instruction) → All (Receives method frames b) (instruction_targets line.instruction)
      by-test true a = λ k d h. a (suc k) d (omega (arith, h))
      by-test false a = a

  walks : (start : ℕ) (flowing : Option TypeFrame) (lines : List LinkedLine) → IsRest start lines → Arrives start flowing → Walks program method listed flowing lines
  walks start None [] rest arrives = refl
  walks start (Some b) [] rest arrives = absurd (false≢true (sym (ap is_some (rest.same start (omega arith))) ∙ arrives.line b refl))
  walks start flowing (l ∷ lines) rest arrives =
      let is : line_in method.lines start ≡ Some l = rest.same start (omega arith) ∙ here l lines start rest.laid.0 in
      let f = some-there (frames start) (framed.each start l is) in
      let rule = (typing-to start).rules start l f.0 (omega arith) is f.1 in
      let steps : Steps program method listed flowing l f.0 rule.behind = record {
        comes = subst (λ x. Comes (listed x) flowing f.0) (sym rest.laid.0) (arrives.comes f.0 (is-some _ l is) f.1);
        enters = record { local = rule.local; fits = rule.fits; within = rule.within };
        targets = λ k d h. target-above (get_or (instruction_targets l.instruction) k d) rule.behind (framed.targets start l is k d h) (all-targets l rule.behind rule.goes_on k d h);
      } in
      (f.0, rule.behind, steps, walks l.next (flows_on l rule.behind) lines (rest-next start l lines rest) (next-arrives l f.0 rule.behind start is f.1 rule.fits rule.goes_on))

  start-arrives : Arrives 0 (Some (entry_frame method))
  start-arrives =
      let r = (typing-to 0).entry in
      record {
        line = λ b h. is-some _ r.0 r.2;
        comes = λ f has e. comes-from (listed 0) (Some (entry_frame method)) f
            (λ k is. (listed-there 0 f k is e, received-below 0 (entry_frame method) f r e, no-operand 0 f e))
            (λ none. (sym (framed.start none) ∙ e, no-operand 0 f e));
      }

  pub framed-walks : LaidFrom 0 method.lines → Walks program method listed (Some (entry_frame method)) method.lines
  framed-walks laid = walks 0 (Some (entry_frame method)) method.lines (record { laid = laid; same = λ at h. refl }) start-arrives

  pub framed-parameters : length method.parameters ≤ method.locals
  framed-parameters = (typing-to 0).parameters

-- ---- both ways

pub framed-exactly : (program : Program) (method : LinkedMethod) (listed : Frames) → LaidFrom 0 method.lines → ((at : ℕ) (f : TypeFrame) → listed at ≡ Some f → HasLine method at) → length method.parameters ≤ method.locals → Walks program method listed (Some (entry_frame method)) method.lines ↔ Framed program method listed
framed-exactly program method listed laid lines-there parameters = (
  λ w. walked-framed program method listed laid lines-there parameters w,
  λ f. framed-walks program method listed f.0 f.1 laid,
)
