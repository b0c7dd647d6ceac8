-- What follows of a method's least typing: which offsets have a frame, and which frame.
use Rattle.std.proofs.Common.{◌≡◌, ℕ, ◌<◌, ◌≤◌, Bool, true, false, List, length, refl, sym, ap, subst, ◌∙◌, Option, Some, None, arith, get_or, ⊎_elim, eqb}
use Rattle.std.specs.Prelude.{Contains, if◌then◌else◌, ◌↔◌, IsSome, is_some}
use Rattle.std.proofs.lemmas.Bool.{eq-eqb, ne_eqb, cases_eq}
use Rattle.std.proofs.lemmas.List.{get_or_default}
use Rattle.std.proofs.lemmas.Option.{same_Some, none-some}
use Rattle.jvm_definition.specs.declared.linked_line.LinkedLine.{LinkedLine}
use Rattle.jvm_definition.specs.declared.linked_method.LinkedMethod.{LinkedMethod}
use Rattle.jvm_definition.specs.Program.{Program, line_in, successors}
use Rattle.jvm_definition.specs.Typing.{TypeFrame, Below, Frames, no_top, type_effect, applied, Receives, Follows, IsTyping, entry_frame}
use Rattle.jvm_type_inference.specs.Verdict.{AreBelow, AreLeast}
use Rattle.jvm_type_inference.proofs.JoinLaws.{Below-trans, no_top-below}
use Rattle.jvm_type_inference.proofs.StackLaws.{Fits-from, below-from}
use Rattle.jvm_type_inference.proofs.StepLaws.{FitsFrame, applied-goes, typing-step}
use Rattle.jvm_type_inference.specs.Reached.{IsClosed, Reached}
use Rattle.jvm_type_inference.proofs.CallLaws.{some-there}

pub is-some : {A : Type 0} (o : Option A) (x : A) → o ≡ Some x → IsSome o
is-some o x e = ap is_some e

-- ---- a typing of some offsets alone

abbrev held : Bool → Option TypeFrame → Option TypeFrame
held b o = if b then o else None

held-some : (b : Bool) (o : Option TypeFrame) (f : TypeFrame) → held b o ≡ Some f → (b ≡ true) × (o ≡ Some f)
held-some true o f e = (refl, e)
held-some false o f e = absurd (none-some f e)

module _ (program : Program) (method : LinkedMethod) (frames : Frames) (typing : IsTyping program method frames) where
  module _ (set : ℕ → Bool) (zero-in : set 0 ≡ true) (closed : IsClosed method set) where
    abbrev within : Frames
    within at = held (set at) (frames at)

    within-receives : (f : TypeFrame) (to : ℕ) → set to ≡ true → Receives method frames f to → Receives method within f to
    within-receives f to is r = (r.0, r.1, r.2, ap (λ b. held b (frames to)) is ∙ r.3, r.4)

    within-typing : IsTyping program method within
    within-typing last = record {
      operands = λ at f e. (typing last).operands at f (held-some (set at) (frames at) f e).1;
      parameters = (typing last).parameters;
      entry = within-receives (entry_frame method) 0 zero-in (typing last).entry;
      rules = λ at line f most l e.
          let h = held-some (set at) (frames at) f e in
          let rule = (typing last).rules at line f most l h.1 in
          record {
            local = rule.local;
            behind = rule.behind;
            fits = rule.fits;
            within = rule.within;
            goes_on = λ k d inside. within-receives rule.behind (get_or (successors line) k d) (closed at line l h.0 k d inside) (rule.goes_on k d inside);
          };
    }

    -- a typing below each other one has frames in the set alone
    pub least-within : ((others : Frames) → IsTyping program method others → AreBelow frames others) → (at : ℕ) (f : TypeFrame) → frames at ≡ Some f → set at ≡ true
    least-within least at f e = let r = least within within-typing at f e in (held-some (set at) (frames at) r.0 r.1).0

  -- the offsets with a frame are such a set
  typed-closed : IsClosed method (λ at. is_some (frames at))
  typed-closed at line l has k d inside =
      let f = some-there (frames at) has in
      let r = ((typing at).rules at line f.0 (omega arith) l f.1).goes_on k d inside in
      is-some (frames (get_or (successors line) k d)) r.1 r.3

  pub reached-typed : (at : ℕ) → Reached method at → IsSome (frames at)
  reached-typed at reached = let r = (typing 0).entry in reached (λ x. is_some (frames x)) (is-some (frames 0) r.1 r.3) typed-closed

-- the least typing has frames at exactly the offsets that are reached
pub typed-exactly : (program : Program) (method : LinkedMethod) (frames : Frames) → AreLeast program method frames → (at : ℕ) → IsSome (frames at) ↔ Reached method at
typed-exactly program method frames l at = (
  λ has set zero-in closed.
      let f = some-there (frames at) has in
      least-within program method frames l.typing set zero-in closed l.least at f.0 f.1,
  λ reached. reached-typed program method frames l.typing at reached,
)

-- ---- a typing that is lower at one offset

module _ (program : Program) (method : LinkedMethod) (frames : Frames) (typing : IsTyping program method frames) (x : ℕ) (g b : TypeFrame) (there : frames x ≡ Some g) (under : Below b g) where
  abbrev lowered : Frames
  lowered at = if eqb at x then Some b else frames at

  lowered-here : (at : ℕ) → at ≡ x → lowered at ≡ Some b
  lowered-here at e = ap (λ t. if t then Some b else frames at) (eq-eqb at x e)

  lowered-there : (at : ℕ) → (at ≡ x → ⊥) → lowered at ≡ frames at
  lowered-there at e = ap (λ t. if t then Some b else frames at) (ne_eqb at x e)

  lowered-receives : (f : TypeFrame) (to : ℕ) → (to ≡ x → Below f b) → Receives method frames f to → Receives method lowered f to
  lowered-receives f to above r =
      ⊎_elim
      (λ same. (r.0, b, r.2, lowered-here to same, above same))
      (λ other. (r.0, r.1, r.2, lowered-there to other ∙ r.3, r.4))
      (cases_eq to x)

  -- what flows there is below the lower frame
  pub record FlowsUnder : Type 0 where
    pub entry : 0 ≡ x → Below (entry_frame method) b
    pub flows : (at : ℕ) (line : LinkedLine) (f c : TypeFrame) → line_in method.lines at ≡ Some line → frames at ≡ Some f → applied (type_effect program line.instruction) f ≡ Some c → Contains (successors line) x → Below c b

  contained : (xs : List ℕ) (k d : ℕ) → k < length xs → get_or xs k d ≡ x → Contains xs x
  contained xs k d inside e = (k, inside, get_or_default xs k x d inside ∙ e)

  module _ (all : FlowsUnder) where
    lowered-rule : (last at : ℕ) (line : LinkedLine) (f : TypeFrame) → at ≤ last → line_in method.lines at ≡ Some line → lowered at ≡ Some f → Follows program method lowered line f
    lowered-rule last at line f most l e =
        ⊎_elim
        (λ same.
        let is : f ≡ b = sym (same_Some b f (sym (lowered-here at same) ∙ e)) in
        let old : frames at ≡ Some g = ap frames same ∙ there in
        let rule = (typing last).rules at line g most l old in
        let step = typing-step program method frames last at line b g (typing last) most l old under in
        let fits : FitsFrame b g = record { locals = under.locals; stack = Fits-from b.stack g.stack under.stack ((typing last).operands x g there) } in
        let low = applied-goes (type_effect program line.instruction) b g rule.behind fits rule.fits in
        let is-low : low.0 ≡ step.0 = same_Some low.0 step.0 (sym low.1 ∙ step.1.fits) in
        let lower : Below step.0 rule.behind = subst (λ y. Below y rule.behind) is-low (record { locals = low.2.locals; stack = below-from low.2.stack }) in
        subst (λ y. Follows program method lowered line y) (sym is) (record {
          local = step.1.local;
          behind = step.0;
          fits = step.1.fits;
          within = step.1.within;
          goes_on = λ k d inside. lowered-receives step.0 (get_or (successors line) k d)
              (λ to. Below-trans step.0 rule.behind b lower (all.flows at line g rule.behind l old rule.fits (contained (successors line) k d inside to)))
              (step.2 k d inside);
        }))
        (λ other.
        let old : frames at ≡ Some f = sym (lowered-there at other) ∙ e in
        let rule = (typing last).rules at line f most l old in
        record {
          local = rule.local;
          behind = rule.behind;
          fits = rule.fits;
          within = rule.within;
          goes_on = λ k d inside. lowered-receives rule.behind (get_or (successors line) k d)
              (λ to. all.flows at line f rule.behind l old rule.fits (contained (successors line) k d inside to))
              (rule.goes_on k d inside);
        })
        (cases_eq at x)

    lowered-typing : IsTyping program method lowered
    lowered-typing last = record {
      operands = λ at f e.
          ⊎_elim
          (λ same.
          let is : b ≡ f = same_Some b f (sym (lowered-here at same) ∙ e) in
          subst (λ y. no_top y.stack ≡ true) is (no_top-below b.stack g.stack under.stack ((typing last).operands x g there)))
          (λ other. (typing last).operands at f (sym (lowered-there at other) ∙ e))
          (cases_eq at x);
      parameters = (typing last).parameters;
      entry = lowered-receives (entry_frame method) 0 all.entry (typing last).entry;
      rules = λ at line f most l e. lowered-rule last at line f most l e;
    }

    -- so it is not lower
    pub least-is : ((others : Frames) → IsTyping program method others → AreBelow frames others) → Below g b
    least-is least =
        let r = least lowered lowered-typing x g there in
        subst (λ y. Below g y) (sym (same_Some b r.0 (sym (lowered-here x refl) ∙ r.1))) r.2
