-- How many bytes a frame has is known by its form.
use Rattle.std.proofs.Common.{◌≡◌, ℕ, ◌+◌, ◌*◌, ◌<◌, ◌≤◌, Bool, true, false, List, [], ◌∷◌, ◌++◌, length, Option, Some, None, refl, sym, ap, ◌∙◌, arith}
use Rattle.std.specs.Prelude.{if◌then◌else◌, nat_lt, map, reverse, IfSome, IfNone}
use Rattle.std.specs.Int.{w8, to_be_bytes}
use Rattle.std.proofs.lemmas.List.{length-append}
use Rattle.class_definition.specs.declared.entry.Entry.{Entry}
use Rattle.jvm_definition.specs.declared.kind.Kind.{Kind}
use Rattle.jvm_definition.specs.declared.kind.Kind.TheVariants as kinds
use Rattle.jvm_type_inference.specs.declared.frame.Frame.{Frame}
use Rattle.stackmap_table.specs.declared.form.Form.{Form}
use Rattle.stackmap_table.specs.declared.form.Form.TheVariants as forms
use Rattle.stackmap_table.specs.declared.reference_slots.ReferenceSlots.{ReferenceSlots}
use Rattle.stackmap_table.specs.declared.table_frame.TableFrame.TheVariants.{Same, SameWithOperand, SameWithOperandExtended, Chop, SameExtended, Append}
use Rattle.stackmap_table.specs.Tables.{frame_tag}
use Rattle.stackmap_table.specs.Forms.{frame_by, kind_size, kinds_size, form_size, SizesNext, HasSize}
use Rattle.stackmap_table.specs.Shortest.{written_type, trimmed_locals, AreTabled}
use Rattle.stackmap_table.specs.Written.{half, type_bytes, types_bytes, frame_bytes, AppendsNext}
use Rattle.stackmap_table.proofs.GivesLaws.{map-reversed}
use Rattle.stackmap_table.proofs.ShortLaws.{kinds-reverse}
use Rattle.stackmap_table.proofs.WrittenLaws.{IsWriting, first-writing, next-writing, all-written, no-frames-table, some-frames-table}

two : (n : ℕ) → length (half n) ≡ 2
two n = refl

one : (n : ℕ) → length (to_be_bytes w8 n) ≡ 1
one n = refl

-- ---- types

type-size : (slots : ReferenceSlots) (k : Kind) → length (type_bytes (written_type slots k)) ≡ kind_size k
type-size slots kinds.Top = refl
type-size slots kinds.Int = refl
type-size slots kinds.Long = refl
type-size slots kinds.Null = refl
type-size slots kinds.Ints = refl
type-size slots kinds.Pages = refl
type-size slots kinds.Text = refl

types-size : (slots : ReferenceSlots) (ks : List Kind) → length (types_bytes (map (written_type slots) ks)) ≡ kinds_size ks
types-size slots [] = refl
types-size slots (k ∷ ks) =
    omega (arith, length-append (type_bytes (written_type slots k)) (types_bytes (map (written_type slots) ks)), type-size slots k, types-size slots ks)

operands-size : (slots : ReferenceSlots) (ks : List Kind) → length (types_bytes (reverse (map (written_type slots) ks))) ≡ kinds_size ks
operands-size slots ks =
    ap (λ ts. length (types_bytes ts)) (sym (map-reversed (written_type slots) ks)) ∙ (types-size slots (reverse ks) ∙ kinds-reverse ks)

pub kinds-small : (ks : List Kind) → kinds_size ks ≤ 3 * length ks
kinds-small [] = omega arith
kinds-small (kinds.Top ∷ ks) = omega (arith, kinds-small ks)
kinds-small (kinds.Int ∷ ks) = omega (arith, kinds-small ks)
kinds-small (kinds.Long ∷ ks) = omega (arith, kinds-small ks)
kinds-small (kinds.Null ∷ ks) = omega (arith, kinds-small ks)
kinds-small (kinds.Ints ∷ ks) = omega (arith, kinds-small ks)
kinds-small (kinds.Pages ∷ ks) = omega (arith, kinds-small ks)
kinds-small (kinds.Text ∷ ks) = omega (arith, kinds-small ks)

-- ---- frames

pub sized-form : (slots : ReferenceSlots) (delta : ℕ) (ls stack : List Kind) (form : Form) → form_size delta ls stack form ≡ length (frame_bytes (frame_by slots delta ls stack form))
sized-form slots delta ls stack forms.Same = by-test (nat_lt delta 64)
  where
    by-test : (b : Bool) → 1 + (if b then 0 else 2) ≡ length (frame_bytes (if b then Same delta else SameExtended delta))
    by-test true = omega (arith, length-append (to_be_bytes w8 delta) [], one delta)
    by-test false = omega (arith, length-append (to_be_bytes w8 251) (half delta), one 251, two delta)
sized-form slots delta ls stack (forms.SameWithOperand k) = by-test (nat_lt delta 64)
  where
    bytes : List ℕ
    bytes = type_bytes (written_type slots k)

    by-test : (b : Bool) → 1 + (if b then 0 else 2) + kind_size k ≡ length (frame_bytes (if b then SameWithOperand delta (written_type slots k) else SameWithOperandExtended delta (written_type slots k)))
    by-test true = omega (arith, length-append (to_be_bytes w8 (64 + delta)) bytes, one (64 + delta), type-size slots k)
    by-test false =
        omega (arith, length-append (to_be_bytes w8 247) (half delta ++ bytes), length-append (half delta) bytes, one 247, two delta, type-size slots k)
sized-form slots delta ls stack (forms.Chop n) = let tag = frame_tag (Chop delta n) in omega (arith, length-append (to_be_bytes w8 tag) (half delta), one tag, two delta)
sized-form slots delta ls stack (forms.Append added) =
    let types = map (written_type slots) added.now in
    let tag = frame_tag (Append delta types) in
    omega (
      arith,
      length-append (to_be_bytes w8 tag) (half delta ++ types_bytes types),
      length-append (half delta) (types_bytes types),
      one tag,
      two delta,
      types-size slots added.now,
    )
sized-form slots delta ls stack forms.Full =
    let locals = map (written_type slots) ls in
    let operands = reverse (map (written_type slots) stack) in
    omega (
      arith,
      length-append (to_be_bytes w8 255) (half delta ++ ((half (length locals) ++ types_bytes locals) ++ (half (length operands) ++ types_bytes operands))),
      length-append (half delta) ((half (length locals) ++ types_bytes locals) ++ (half (length operands) ++ types_bytes operands)),
      length-append (half (length locals) ++ types_bytes locals) (half (length operands) ++ types_bytes operands),
      length-append (half (length locals)) (types_bytes locals),
      length-append (half (length operands)) (types_bytes operands),
      one 255,
      two delta,
      two (length locals),
      two (length operands),
      types-size slots ls,
      operands-size slots stack,
    )

-- ---- one after the other

pub delta-small : (last : Option ℕ) (delta at : ℕ) → at < 65535 → IfNone last (delta ≡ at) → IfSome last (λ k. k + delta + 1 ≡ at) → delta ≤ 65535
delta-small None delta at near first later = omega (arith, near, first)
delta-small (Some k) delta at near first later = omega (arith, near, later)

pub record IsSizing (pool : List Entry) (parameters : List Kind) (listed : List (ℕ × Frame)) (last : Option ℕ) (before : List Kind) (rest : List (ℕ × Frame)) (size : ℕ) : Type 0 where
  pub bytes : List ℕ
  pub writing : IsWriting pool parameters listed (half (length listed)) last before rest bytes
  pub sized : size ≡ length bytes

pub first-sizing : (pool : List Entry) (parameters : List Kind) (listed : List (ℕ × Frame)) → AreTabled 0 listed → IsSizing pool parameters listed None parameters listed 2
first-sizing pool parameters listed t = record {
  bytes = half (length listed);
  writing = first-writing pool parameters listed (half (length listed)) t;
  sized = refl;
}

module _ (pool : List Entry) (parameters : List Kind) (listed : List (ℕ × Frame)) (last : Option ℕ) (before : List Kind) (rest others : List (ℕ × Frame)) (l : ℕ × Frame) (size : ℕ) (front : rest ≡ l ∷ others) (w : IsSizing pool parameters listed last before rest size) where
  pub next-sizing : (locals : List Kind) (added after : ℕ) → locals ≡ trimmed_locals l.1.locals → SizesNext pool before last l locals added → after ≡ size + added → IsSizing pool parameters listed (Some l.0) locals others after
  next-sizing locals added after e n more =
      let appended : AppendsNext pool before last l locals w.bytes (w.bytes ++ frame_bytes n.frame) = record {
        delta = n.delta;
        frame = n.frame;
        gives = n.gives;
        offset = n.offset;
        written = refl;
      } in
      record {
        bytes = w.bytes ++ frame_bytes n.frame;
        writing = next-writing pool parameters listed (half (length listed)) last before rest others l w.bytes front w.writing locals (w.bytes ++ frame_bytes n.frame) e appended;
        sized = omega (arith, more, w.sized, n.sized, length-append w.bytes (frame_bytes n.frame));
      }

pub all-sized : (pool : List Entry) (parameters : List Kind) (listed : List (ℕ × Frame)) (last : Option ℕ) (before : List Kind) (rest : List (ℕ × Frame)) (size : ℕ) → (length listed ≡ 0 → ⊥) → length rest ≡ 0 → IsSizing pool parameters listed last before rest size → HasSize pool parameters listed size
all-sized pool parameters listed last before rest size some none w = record {
  bytes = w.bytes;
  is = some-frames-table pool parameters listed (half (length listed)) w.bytes some refl (all-written pool parameters listed (half (length listed)) last before rest w.bytes none w.writing);
  sized = w.sized;
}

pub none-sized : (pool : List Entry) (parameters : List Kind) (listed : List (ℕ × Frame)) → length listed ≡ 0 → HasSize pool parameters listed 0
none-sized pool parameters listed none = record { bytes = []; is = no-frames-table pool parameters listed [] none refl; sized = refl }
