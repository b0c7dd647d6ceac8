-- The number of a method, and frames with their offsets.
use Rattle.std.proofs.Common.{◌≡◌, ℕ, zero, suc, ◌+◌, ◌<◌, ◌≤◌, ◌-◌, List, [], ◌∷◌, ◌++◌, length, refl, sym, ap, subst, ◌∙◌, Option, Some, None, arith, get_or}
use Rattle.std.specs.Prelude.{slice_get, reverse, if◌then◌else◌}
use Rattle.std.proofs.lemmas.Bool.{eq-eqb, ne_eqb}
use Rattle.std.proofs.lemmas.List.{append_assoc, length-append, reverse-append}
use Rattle.std.proofs.lemmas.Option.{none-some, same_Some}
use Rattle.class_definition.specs.declared.class.Class.{Class}
use Rattle.jvm_definition.specs.declared.linked_method.LinkedMethod.{LinkedMethod}
use Rattle.jvm_definition.specs.Typing.{Frames}
use Rattle.jvm_type_inference.specs.declared.frame.Frame.{Frame}
use Rattle.jvm_type_inference.specs.Frames.{type_frame, frame_at, IsFormed}
use Rattle.type_verifier.specs.Refusal.{methods_before}
use Rattle.jvm_type_inference.specs.Inferred.{AreInferred}
use Rattle.jvm_type_inference.specs.Actions.{program_over}
use Rattle.jvm_type_inference.specs.Verdict.{FailsAt, AreLeast, LeastTyping}
use Rattle.jvm_type_inference.proofs.LeastLaws.{typed-exactly}
use Rattle.jvm_definition.specs.Program.{Program}
use Rattle.class_definition.specs.Linking.{program_of, linked_methods}
use Rattle.type_verifier.specs.Typings.{HasMethod, listed_frames, RisesFrom, AllFormed, AreListed, IsListed}
use Rattle.type_verifier.proofs.VerifyLaws.{methods_count, count-is, same-methods, typing-same}

-- ---- the number of a method

pub none-before : (classes : List Class) → methods_before classes 0 ≡ 0
none-before [] = refl
none-before (c ∷ classes) = refl

pub more-before : (rest others : List Class) (c : Class) (before : ℕ) → rest ≡ c ∷ others → 1 ≤ before → methods_before rest before ≡ length c.methods + methods_before others (before - 1)
more-before rest others c zero e some = absurd (omega (arith, some))
more-before rest others c (suc before) e some =
    let one : suc before - 1 ≡ before = omega arith in
    ap (λ x. methods_before x (suc before)) e ∙ ap (λ n. length c.methods + methods_before others n) (sym one)

pub method-within : (classes : List Class) (class method : ℕ) (of : Class) → slice_get classes class ≡ Some of → method < length of.methods → methods_before classes class + method < methods_count classes
method-within [] class method of e less = absurd (none-some of e)
method-within (c ∷ classes) zero method of e less =
    let same : c ≡ of = same_Some c of e in
    omega (arith, less, ap (λ x. length x.methods) same)
method-within (c ∷ classes) (suc class) method of e less = omega (arith, method-within classes class method of e less)

pub number-within : (classes : List Class) (methods : List LinkedMethod) (class method : ℕ) → methods ≡ linked_methods classes → HasMethod classes class method → methods_before classes class + method < length methods
number-within classes methods class method e h = omega (arith, method-within classes class method h.of h.of_is h.within, ap length e, count-is classes 0 classes)

-- ---- frames with their offsets

abbrev pub kept : ℕ → List (Option Frame) → List (ℕ × Frame)
kept start [] = []
kept start (None ∷ frames) = kept (suc start) frames
kept start (Some f ∷ frames) = (start, f) ∷ kept (suc start) frames

kept-before : (start : ℕ) (frames : List (Option Frame)) (at : ℕ) → at < start → listed_frames (kept start frames) at ≡ None
kept-before start [] at less = refl
kept-before start (None ∷ frames) at less = kept-before (suc start) frames at (omega (arith, less))
kept-before start (Some f ∷ frames) at less =
    ap (λ b. if b then Some (type_frame f) else listed_frames (kept (suc start) frames) at) (ne_eqb start at (λ e. omega (arith, less, e)))
    ∙ kept-before (suc start) frames at (omega (arith, less))

kept-finds : (start : ℕ) (frames : List (Option Frame)) (k at : ℕ) → at ≡ start + k → listed_frames (kept start frames) at ≡ frame_at frames k
kept-finds start [] k at e = refl
kept-finds start (None ∷ frames) zero at e = kept-before (suc start) frames at (omega (arith, e))
kept-finds start (None ∷ frames) (suc k) at e = kept-finds (suc start) frames k at (omega (arith, e))
kept-finds start (Some f ∷ frames) zero at e =
    ap (λ b. if b then Some (type_frame f) else listed_frames (kept (suc start) frames) at) (eq-eqb start at (omega (arith, e)))
kept-finds start (Some f ∷ frames) (suc k) at e =
    ap (λ b. if b then Some (type_frame f) else listed_frames (kept (suc start) frames) at) (ne_eqb start at (λ h. omega (arith, e, h)))
    ∙ kept-finds (suc start) frames k at (omega (arith, e))

kept-frames : (frames : List (Option Frame)) → listed_frames (kept 0 frames) ≡ frame_at frames
kept-frames frames = λ i at. kept-finds 0 frames at at (omega arith) i

rises-on : (start from : ℕ) (listed : List (ℕ × Frame)) → start ≤ from → RisesFrom from listed → RisesFrom start listed
rises-on start from [] h r = tt
rises-on start from (l ∷ listed) h r = (omega (arith, h, r.0), r.1)

kept-rises : (start : ℕ) (frames : List (Option Frame)) → RisesFrom start (kept start frames)
kept-rises start [] = tt
kept-rises start (None ∷ frames) = rises-on start (suc start) (kept (suc start) frames) (omega arith) (kept-rises (suc start) frames)
kept-rises start (Some f ∷ frames) = (omega arith, kept-rises (suc start) frames)

kept-formed : (locals stack start : ℕ) (frames : List (Option Frame)) → ((k : ℕ) (f : Frame) → get_or frames k None ≡ Some f → IsFormed locals stack f) → AllFormed locals stack (kept start frames)
kept-formed locals stack start [] h = tt
kept-formed locals stack start (None ∷ frames) h = kept-formed locals stack (suc start) frames (λ k f e. h (suc k) f e)
kept-formed locals stack start (Some f ∷ frames) h = (h 0 f refl, kept-formed locals stack (suc start) frames (λ k g e. h (suc k) g e))

pub kept-listed : (frames : List (Option Frame)) (listed : List (ℕ × Frame)) → listed ≡ kept 0 frames → AreListed frames listed
kept-listed frames listed e =
    subst (AreListed frames) (sym e)
    (record { are = kept-frames frames; rises = kept-rises 0 frames; formed = λ locals stack h. kept-formed locals stack 0 frames h.each })

-- ---- from a method by itself to that of linked classes

least-same : (p q : Program) (same : (m : ℕ) → p.method m ≡ q.method m) (method : LinkedMethod) (frames : Frames) → AreLeast p method frames → AreLeast q method frames
least-same p q same method frames l = record {
  typing = λ last. typing-same p q same method frames last (l.typing last);
  least = λ others t. l.least others (λ last. typing-same q p (λ m. sym (same m)) method others last (t last));
}

pub listed-is : (classes : List Class) (methods : List LinkedMethod) → methods ≡ linked_methods classes → (method : LinkedMethod) (frames : List (Option Frame)) (listed : List (ℕ × Frame)) → AreInferred (program_over methods) method frames → AreListed frames listed → IsListed (program_of classes) method listed
listed-is classes methods e method frames listed i h =
    let least = subst (AreLeast (program_of classes) method) (sym h.are) (least-same (program_over methods) (program_of classes) (same-methods classes methods e) method (frame_at frames) i.least) in
    record {
      least = least;
      reached = typed-exactly (program_of classes) method (listed_frames listed) least;
      rises = h.rises;
      formed = h.formed method.locals method.stack i.formed;
    }

-- a method that has a least typing does not fail
pub least-not-failing : (program : Program) (method : LinkedMethod) (at : ℕ) → LeastTyping program method → FailsAt program method at → ⊥
least-not-failing program method at l f = f.fails l.frames (l.typing at)

-- ---- the loop

-- the frames behind some are listed, the last one first
pub record IsListing (frames rest : List (Option Frame)) (listed : List (ℕ × Frame)) : Type 0 where
  pub behind : List (Option Frame)
  pub whole : frames ≡ rest ++ behind
  pub is : reverse listed ≡ kept (length rest) behind

pub first-listing : (frames : List (Option Frame)) → IsListing frames frames []
first-listing frames = record { behind = []; whole = sym (append-nil' frames); is = refl }
  where
    append-nil' : (xs : List (Option Frame)) → xs ++ [] ≡ xs
    append-nil' [] = refl
    append-nil' (x ∷ xs) = ap (λ ys. x ∷ ys) (append-nil' xs)

module _ (frames rest before : List (Option Frame)) (listed : List (ℕ × Frame)) (slot : Option Frame) (popped : before ≡ rest ++ slot ∷ []) (l : IsListing frames before listed) where
  whole-on : frames ≡ rest ++ slot ∷ l.behind
  whole-on = l.whole ∙ (ap (λ x. x ++ l.behind) popped ∙ append_assoc rest (slot ∷ []) l.behind)

  long : length before ≡ suc (length rest)
  long = omega (arith, ap length popped, length-append rest (slot ∷ []))

  pub none-listing : slot ≡ None → IsListing frames rest listed
  none-listing e = record {
    behind = slot ∷ l.behind;
    whole = whole-on;
    is = l.is ∙ (ap (λ n. kept n l.behind) long ∙ sym (ap (λ o. kept (length rest) (o ∷ l.behind)) e));
  }

  pub some-listing : (at : ℕ) (f : Frame) → slot ≡ Some f → at ≡ length rest → IsListing frames rest (listed ++ (at, f) ∷ [])
  some-listing at f e here = record {
    behind = slot ∷ l.behind;
    whole = whole-on;
    is = reverse-append listed ((at, f) ∷ [])
        ∙ (ap (λ x. (at, f) ∷ x) (l.is ∙ ap (λ n. kept n l.behind) long)
        ∙ (ap (λ n. (n, f) ∷ kept (suc (length rest)) l.behind) here ∙ sym (ap (λ o. kept (length rest) (o ∷ l.behind)) e)));
  }

pub all-listed : (frames rest : List (Option Frame)) (listed : List (ℕ × Frame)) → rest ≡ [] → IsListing frames rest listed → reverse listed ≡ kept 0 frames
all-listed frames rest listed e l =
    let whole : frames ≡ l.behind = l.whole ∙ ap (λ x. x ++ l.behind) e in
    l.is ∙ (ap (λ n. kept n l.behind) (ap length e) ∙ ap (kept 0) (sym whole))
