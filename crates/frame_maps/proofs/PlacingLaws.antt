-- Frames that are listed with their offsets, set at these offsets from the last one to the first.
use Rattle.std.proofs.Common.{◌≡◌, ℕ, ◌<◌, Bool, true, false, List, [], ◌∷◌, ◌++◌, length, eqb, get_or, set, replicate, refl, sym, ap, subst, ◌∙◌, Option, Some, None, arith, append_assoc, ⊎_elim}
use Rattle.std.specs.Prelude.{option_map, if◌then◌else◌, IsSome, is_some}
use Rattle.std.proofs.lemmas.Bool.{false≢true, true≢false, eq-eqb, ne_eqb, eqb-true, cases_eq}
use Rattle.std.proofs.lemmas.List.{get_or-set_same, get_or-set_other, append-nil}
use Rattle.std.proofs.lemmas.Option.{same_Some, none-some}
use Rattle.jvm_definition.specs.declared.linked_line.LinkedLine.{LinkedLine}
use Rattle.jvm_definition.specs.declared.linked_method.LinkedMethod.{LinkedMethod}
use Rattle.jvm_definition.specs.Program.{Program, line_in}
use Rattle.jvm_definition.specs.Typing.{TypeFrame, Frames}
use Rattle.jvm_type_inference.specs.declared.frame.Frame.{Frame}
use Rattle.jvm_type_inference.specs.Frames.{type_frame, frame_at}
use Rattle.jvm_type_inference.proofs.CallLaws.{some-there}
use Rattle.jvm_type_inference.proofs.FlowLaws.{frame_at-is}
use Rattle.jvm_type_inference.proofs.TableLaws.{none-of}
use Rattle.type_verifier.specs.Typings.{listed_frames}
use Rattle.frame_maps.specs.Framed.{HasLine, IsFramedBy, Framed}
use Rattle.frame_maps.specs.Placed.{ArePlaced}

-- the frames behind some are set
pub record IsPlacing (method : LinkedMethod) (listed rest : List (ℕ × Frame)) (frames : List (Option Frame)) : Type 0 where
  pub behind : List (ℕ × Frame)
  pub whole : listed ≡ rest ++ behind
  pub set_at : (at : ℕ) → frame_at frames at ≡ listed_frames behind at
  pub lines : (at : ℕ) (f : TypeFrame) → frame_at frames at ≡ Some f → HasLine method at

none-at : (frames : List (Option Frame)) (count at : ℕ) → frames ≡ replicate count None → frame_at frames at ≡ None
none-at frames count at e = ap (λ x. frame_at x at) e ∙ ap (option_map type_frame) (none-of count at None)

pub first-placing : (method : LinkedMethod) (listed : List (ℕ × Frame)) (count : ℕ) (frames : List (Option Frame)) → frames ≡ replicate count None → IsPlacing method listed listed frames
first-placing method listed count frames e = record {
  behind = [];
  whole = sym (append-nil listed);
  set_at = λ at. none-at frames count at e;
  lines = λ at f h. absurd (none-some f (sym (none-at frames count at e) ∙ h));
}

module _ (method : LinkedMethod) (listed rest before : List (ℕ × Frame)) (frames : List (Option Frame)) (to : ℕ) (f : Frame) (popped : before ≡ rest ++ (to, f) ∷ []) (p : IsPlacing method listed before frames) where
  whole-on : listed ≡ rest ++ (to, f) ∷ p.behind
  whole-on = p.whole ∙ (ap (λ x. x ++ p.behind) popped ∙ append_assoc rest ((to, f) ∷ []) p.behind)

  module _ (inside : to < length frames) (line : HasLine method to) where
    abbrev after : List (Option Frame)
    after = set frames to (Some f)

    here : (at : ℕ) → at ≡ to → frame_at after at ≡ Some (type_frame f)
    here at e = frame_at-is after at f (ap (λ k. get_or after k None) e ∙ get_or-set_same frames to (Some f) None inside)

    there : (at : ℕ) → (at ≡ to → ⊥) → frame_at after at ≡ frame_at frames at
    there at e = ap (option_map type_frame) (get_or-set_other frames to at (Some f) None e)

    abbrev picked : ℕ → Bool → Option TypeFrame
    picked at b = if b then Some (type_frame f) else listed_frames p.behind at

    pub next-placing : IsPlacing method listed rest after
    next-placing = record {
      behind = (to, f) ∷ p.behind;
      whole = whole-on;
      set_at = λ at.
          ⊎_elim
          (λ e. here at e ∙ sym (ap (picked at) (eq-eqb to at (sym e))))
          (λ e. there at e ∙ (p.set_at at ∙ sym (ap (picked at) (ne_eqb to at (λ h. e (sym h))))))
          (cases_eq at to);
      lines = λ at g h.
          ⊎_elim
          (λ e. subst (HasLine method) (sym e) line)
          (λ e. p.lines at g (sym (there at e) ∙ h))
          (cases_eq at to);
    }

  -- one that is at no instruction
  found : (some : List (ℕ × Frame)) → (m : ℕ × Frame) → IsSome (listed_frames (some ++ m ∷ p.behind) m.0)
  found [] m = ap (λ b. is_some (if b then Some (type_frame m.1) else listed_frames p.behind m.0)) (eq-eqb m.0 m.0 refl)
  found (l ∷ some) m = by-test (eqb l.0 m.0) (found some m)
    where
      by-test : (b : Bool) → IsSome (listed_frames (some ++ m ∷ p.behind) m.0) → IsSome (if b then Some (type_frame l.1) else listed_frames (some ++ m ∷ p.behind) m.0)
      by-test true others = refl
      by-test false others = others

  pub no-line : (program : Program) → (HasLine method to → ⊥) → Framed program method (listed_frames listed) → ⊥
  no-line program none framed =
      let has = some-there (listed_frames listed to) (subst (λ x. IsSome (listed_frames x to)) (sym whole-on) (found rest (to, f))) in
      none (framed.1.lists to has.0 has.1).0

pub all-placed : (method : LinkedMethod) (listed rest : List (ℕ × Frame)) (frames : List (Option Frame)) → rest ≡ [] → IsPlacing method listed rest frames → ArePlaced method (listed_frames listed) (frame_at frames)
all-placed method listed rest frames e p =
    let whole : listed ≡ p.behind = p.whole ∙ ap (λ x. x ++ p.behind) e in
    record {
      are = (λ i at. p.set_at at i) ∙ ap listed_frames (sym whole);
      lines = p.lines;
    }
