-- The frames of a table are listed one after the other.
use Rattle.std.proofs.Common.{◌≡◌, ℕ, ◌+◌, ◌*◌, ◌^◌, ◌<◌, ◌≤◌, Bool, true, false, List, [], ◌∷◌, ◌++◌, length, refl, sym, ap, ◌∙◌, Option, Some, None, arith, append_assoc}
use Rattle.std.specs.Prelude.{option_map, option_and_then, IfSome, IfNone}
use Rattle.std.proofs.lemmas.List.{length-append, append-nil}
use Rattle.class_definition.specs.declared.entry.Entry.{Entry}
use Rattle.jvm_definition.specs.declared.kind.Kind.{Kind}
use Rattle.jvm_type_inference.specs.declared.frame.Frame.{Frame}
use Rattle.stackmap_table.specs.declared.table_frame.TableFrame.{TableFrame}
use Rattle.stackmap_table.specs.Last.{last_offset, last_locals}
use Rattle.stackmap_table.specs.Meaning.{frame_offset, locals_of, frame_operands, is_frame_within, frame_at_offset, then_frames, frames_after}

-- ---- the last one

pub offset-pushed : (last : Option ℕ) (listed : List (ℕ × Frame)) (at : ℕ) (f : Frame) → last_offset last (listed ++ (at, f) ∷ []) ≡ Some at
offset-pushed last [] at f = refl
offset-pushed last (l ∷ listed) at f = offset-pushed (Some l.0) listed at f

pub locals-pushed : (before : List Kind) (listed : List (ℕ × Frame)) (at : ℕ) (f : Frame) → last_locals before (listed ++ (at, f) ∷ []) ≡ f.locals
locals-pushed before [] at f = refl
locals-pushed before (l ∷ listed) at f = locals-pushed l.1.locals listed at f

pub locals-empty : (before : List Kind) (listed : List (ℕ × Frame)) → length listed ≡ 0 → last_locals before listed ≡ before
locals-empty before [] e = refl
locals-empty before (l ∷ listed) e = absurd (omega (arith, e))

-- ---- so many are listed

abbrev pub behind : List (ℕ × Frame) → Option (List (ℕ × Frame)) → Option (List (ℕ × Frame))
behind listed others = option_map (λ fs. listed ++ fs) others

pub record IsReading (pool : List Entry) (locals stack : ℕ) (parameters : List Kind) (frames rest : List TableFrame) (listed : List (ℕ × Frame)) (last : Option ℕ) : Type 0 where
  pub near : IfSome last (λ at. at + 1 ≤ 65536 * length listed)
  pub count : length listed + length rest ≡ length frames
  pub goes : frames_after pool locals stack None parameters frames ≡ behind listed (frames_after pool locals stack last (last_locals parameters listed) rest)

behind-nothing : (o : Option (List (ℕ × Frame))) → behind [] o ≡ o
behind-nothing None = refl
behind-nothing (Some fs) = refl

pub first-reading : (pool : List Entry) (locals stack : ℕ) (parameters : List Kind) (frames : List TableFrame) → IsReading pool locals stack parameters frames frames [] None
first-reading pool locals stack parameters frames = record {
  near = tt;
  count = omega arith;
  goes = sym (behind-nothing (frames_after pool locals stack None parameters frames));
}

module _ (pool : List Entry) (locals stack : ℕ) (parameters : List Kind) (frames rest others : List TableFrame) (f : TableFrame) (listed : List (ℕ × Frame)) (last : Option ℕ) (front : rest ≡ f ∷ others) (r : IsReading pool locals stack parameters frames rest listed last) where
  abbrev before : List Kind
  before = last_locals parameters listed

  here : frames_after pool locals stack None parameters frames ≡ behind listed (frames_after pool locals stack last before (f ∷ others))
  here = r.goes ∙ ap (λ x. behind listed (frames_after pool locals stack last before x)) front

  abbrev chosen : Option (List Kind) → Option (List (ℕ × Frame))
  chosen o = option_and_then (λ ls. then_frames (is_frame_within locals stack ls (frame_operands pool f)) (frame_at_offset (frame_offset last f) ls (frame_operands pool f)) (frames_after pool locals stack (Some (frame_offset last f)) ls others)) o

  pub no-locals : locals_of pool before f ≡ None → None ≡ frames_after pool locals stack None parameters frames
  no-locals e = sym (here ∙ ap (λ o. behind listed (chosen o)) e)

  module _ (ls : List Kind) (is : locals_of pool before f ≡ Some ls) where
    abbrev then_by : Bool → Option (List (ℕ × Frame))
    then_by b = then_frames b (frame_at_offset (frame_offset last f) ls (frame_operands pool f)) (frames_after pool locals stack (Some (frame_offset last f)) ls others)

    pub not-within : is_frame_within locals stack ls (frame_operands pool f) ≡ false → None ≡ frames_after pool locals stack None parameters frames
    not-within e = sym (here ∙ (ap (λ o. behind listed (chosen o)) is ∙ ap (λ b. behind listed (then_by b)) e))

    pub few-enough : length frames ≤ 65535 → IfSome last (λ at. at + 65536 < 2 ^ 32)
    few-enough few = by-case last r.near
      where
        by-case : (o : Option ℕ) → IfSome o (λ at. at + 1 ≤ 65536 * length listed) → IfSome o (λ at. at + 65536 < 2 ^ 32)
        by-case None h = tt
        by-case (Some at) h = omega (arith, h, r.count, ap length front, few)

    joined : (o : Option (List (ℕ × Frame))) (l : ℕ × Frame) → behind listed (option_map (λ fs. l ∷ fs) o) ≡ behind (listed ++ l ∷ []) o
    joined None l = refl
    joined (Some fs) l = ap (λ x. Some x) (sym (append_assoc listed (l ∷ []) fs))

    near-on : (at : ℕ) → at ≡ frame_offset last f → IfNone last (at < 65536) → IfSome last (λ l. at ≤ l + 65536) → at + 1 ≤ 65536 * (length listed + 1)
    near-on at e none some = by-case last r.near none some
      where
        by-case : (o : Option ℕ) → IfSome o (λ l. l + 1 ≤ 65536 * length listed) → IfNone o (at < 65536) → IfSome o (λ l. at ≤ l + 65536) → at + 1 ≤ 65536 * (length listed + 1)
        by-case None h n s = omega (arith, n)
        by-case (Some l) h n s = omega (arith, h, s)

    pub next-reading : (at : ℕ) (fr : Frame) → at ≡ frame_offset last f → fr ≡ record { locals = ls; stack = frame_operands pool f } → IfNone last (at < 65536) → IfSome last (λ l. at ≤ l + 65536) → is_frame_within locals stack ls (frame_operands pool f) ≡ true → IsReading pool locals stack parameters frames others (listed ++ (at, fr) ∷ []) (Some at)
    next-reading at fr e g none some within = record {
      near = let n = near-on at e none some in omega (arith, n, length-append listed ((at, fr) ∷ []));
      count = omega (arith, r.count, ap length front, length-append listed ((at, fr) ∷ []));
      goes =
          here ∙ (ap (λ o. behind listed (chosen o)) is ∙ (ap (λ b. behind listed (then_by b)) within
          ∙ (joined (frames_after pool locals stack (Some (frame_offset last f)) ls others) (frame_at_offset (frame_offset last f) ls (frame_operands pool f))
          ∙ (ap (λ a. behind (listed ++ (a, record { locals = ls; stack = frame_operands pool f }) ∷ []) (frames_after pool locals stack (Some a) ls others)) (sym e)
          ∙ (ap (λ x. behind (listed ++ (at, x) ∷ []) (frames_after pool locals stack (Some at) ls others)) (sym g)
          ∙ ap (λ x. behind (listed ++ (at, fr) ∷ []) (frames_after pool locals stack (Some at) x others)) (sym (locals-pushed parameters listed at fr ∙ ap (λ x. x.locals) g)))))));
    }

pub all-read : (pool : List Entry) (locals stack : ℕ) (parameters : List Kind) (frames rest : List TableFrame) (listed : List (ℕ × Frame)) (last : Option ℕ) → length rest ≡ 0 → IsReading pool locals stack parameters frames rest listed last → Some listed ≡ frames_after pool locals stack None parameters frames
all-read pool locals stack parameters frames [] listed last e r = sym (r.goes ∙ ap (λ x. Some x) (append-nil listed))
all-read pool locals stack parameters frames (f ∷ rest) listed last e r = absurd (omega (arith, e))
