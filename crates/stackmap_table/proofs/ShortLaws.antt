-- The shortest frame that gives local variables and operands.
use Rattle.std.proofs.Common.{◌≡◌, ℕ, ◌+◌, ◌-◌, ◌<◌, ◌≤◌, Bool, true, false, List, [], ◌∷◌, ◌++◌, length, Option, Some, None, refl, sym, ap, ◌∙◌, arith, take}
use Rattle.std.specs.Prelude.{if◌then◌else◌, nat_le, map, reverse, unwrap_or, is_some}
use Rattle.std.specs.Int.{w8, w16, to_be_bytes}
use Rattle.std.proofs.lemmas.Bool.{and_parts, leb-true, false≢true}
use Rattle.std.proofs.lemmas.List.{length-append, length-map, length-take, append_cancel_left, reverse-append}
use Rattle.std.proofs.lemmas.Option.{same_Some, none-some}
use Rattle.class_definition.specs.Format.{number_format, fault_unless, is_sound}
use Rattle.class_format.proofs.FieldLaws.{wide8, wide16}
use Rattle.class_format.proofs.Parts.{passes}
use Rattle.class_definition.specs.declared.entry.Entry.{Entry}
use Rattle.class_definition.specs.PoolChecks.{class_text_at}
use Rattle.jvm_definition.specs.declared.kind.Kind.{Kind}
use Rattle.jvm_definition.specs.declared.kind.Kind.TheVariants as kinds
use Rattle.stackmap_table.specs.declared.place.Place.{Place}
use Rattle.stackmap_table.specs.declared.place.Place.TheVariants.{Local, Operand}
use Rattle.stackmap_table.specs.declared.table_type.TableType.{TableType}
use Rattle.stackmap_table.specs.declared.table_type.TableType.TheVariants.{Top, Int, Long, Null, Object}
use Rattle.stackmap_table.specs.declared.table_frame.TableFrame.{TableFrame}
use Rattle.stackmap_table.specs.declared.table_frame.TableFrame.TheVariants.{Same, SameWithOperand, SameWithOperandExtended, Chop, SameExtended, Append, Full}
use Rattle.stackmap_table.specs.Tables.{bad_table, reference_kind, kind_at, type_at, frame_tag, frame}
use Rattle.stackmap_table.specs.Meaning.{table_kind, delta_of, locals_of, frame_operands}
use Rattle.stackmap_table.specs.Shortest.{Gives, GivesShortest, NoOther, IsLowest, AreLowest, types_of}
use Rattle.stackmap_table.specs.Forms.{kind_size, kinds_size}
use Rattle.stackmap_table.specs.Written.{half, type_bytes, types_bytes, form_bytes}
use Rattle.stackmap_table.proofs.SizeLaws.{AllFit, Fitting, IsSized, frame-sized}

-- ---- sizes by types

reference-size : (o : Option (List ℕ)) (k : Kind) → reference_kind o ≡ Some k → kind_size k ≡ 3
reference-size None k e = absurd (none-some k e)
reference-size (Some name) k e = by-tests _ _ _ e
  where
    by-tests : (a b c : Bool) → (if a then Some kinds.Ints else if b then Some kinds.Pages else if c then Some kinds.Text else None) ≡ Some k → kind_size k ≡ 3
    by-tests true b c h = ap kind_size (sym (same_Some kinds.Ints k h))
    by-tests false true c h = ap kind_size (sym (same_Some kinds.Pages k h))
    by-tests false false true h = ap kind_size (sym (same_Some kinds.Text k h))
    by-tests false false false h = absurd (none-some k h)

pub object-size : (pool : List Entry) (slot : ℕ) → is_some (kind_at pool slot) ≡ true → kind_size (unwrap_or (kind_at pool slot) kinds.Top) ≡ 3
object-size pool slot h = by-case (kind_at pool slot) refl h
  where
    by-case : (o : Option Kind) → kind_at pool slot ≡ o → is_some o ≡ true → kind_size (unwrap_or o kinds.Top) ≡ 3
    by-case None e s = absurd (false≢true s)
    by-case (Some k) e s = reference-size (class_text_at pool slot) k e

pub object-some : (pool : List Entry) (place : Place) (slot : ℕ) → (type_at pool place).fits (Object slot) ≡ true → is_some (kind_at pool slot) ≡ true
unfolding type_at
object-some pool Local slot e =
    let p = and_parts ((number_format bad_table w8).fits 7) _ e in
    let q = and_parts ((number_format bad_table w16).fits slot) (is_sound (fault_unless bad_table (is_some (kind_at pool slot)))) p.1 in
    passes bad_table (is_some (kind_at pool slot)) q.1
object-some pool Operand slot e =
    let p = and_parts ((number_format bad_table w8).fits 7) _ e in
    let q = and_parts ((number_format bad_table w16).fits slot) (is_sound (fault_unless bad_table (is_some (kind_at pool slot)))) p.1 in
    passes bad_table (is_some (kind_at pool slot)) q.1

type-size : (pool : List Entry) (place : Place) (t : TableType) → (type_at pool place).fits t ≡ true → length (type_bytes t) ≡ kind_size (table_kind pool t)
type-size pool place Top e = refl
type-size pool place Int e = refl
type-size pool place Long e = refl
type-size pool place Null e = refl
type-size pool place (Object slot) e = omega (arith, wide16.len slot, object-size pool slot (object-some pool place slot e))

types-size : (pool : List Entry) (place : Place) (types : List TableType) → AllFit pool place types → length (types_bytes types) ≡ kinds_size (map (table_kind pool) types)
types-size pool place [] h = refl
types-size pool place (t ∷ types) h = omega (arith, length-append (type_bytes t) (types_bytes types), type-size pool place t h.0, types-size pool place types h.1)

pub kinds-append : (ks os : List Kind) → kinds_size (ks ++ os) ≡ kinds_size ks + kinds_size os
kinds-append [] os = omega arith
kinds-append (k ∷ ks) os = omega (arith, kinds-append ks os)

pub kinds-reverse : (ks : List Kind) → kinds_size (reverse ks) ≡ kinds_size ks
kinds-reverse [] = refl
kinds-reverse (k ∷ ks) =
    let e : reverse (k ∷ ks) ≡ reverse ks ++ k ∷ [] = reverse-append (k ∷ []) ks in
    omega (arith, ap kinds_size e, kinds-append (reverse ks) (k ∷ []), kinds-reverse ks)

-- ---- frames by what they give

-- how many bytes a form has behind its tag
module _ (pool : List Entry) where
  two : (n : ℕ) → length (half n) ≡ 2
  two n = wide16.len n

  pub operand-size : (d : ℕ) (t : TableType) → (type_at pool Operand).fits t ≡ true → length (form_bytes (SameWithOperand d t)) ≡ kinds_size (frame_operands pool (SameWithOperand d t))
  operand-size d t h = omega (arith, type-size pool Operand t h)

  pub extended-size : (d : ℕ) (t : TableType) → (type_at pool Operand).fits t ≡ true → length (form_bytes (SameWithOperandExtended d t)) ≡ 2 + kinds_size (frame_operands pool (SameWithOperandExtended d t))
  extended-size d t h = omega (arith, length-append (half d) (type_bytes t), two d, type-size pool Operand t h)

  pub append-size : (d : ℕ) (ts : List TableType) → AllFit pool Local ts → length (form_bytes (Append d ts)) ≡ 2 + kinds_size (map (table_kind pool) ts)
  append-size d ts h = omega (arith, length-append (half d) (types_bytes ts), two d, types-size pool Local ts h)

  pub full-size : (d : ℕ) (ls os : List TableType) → AllFit pool Local ls → AllFit pool Operand os → length (form_bytes (Full d ls os)) ≡ 6 + kinds_size (map (table_kind pool) ls) + kinds_size (frame_operands pool (Full d ls os))
  full-size d ls os h k =
      omega (
        arith,
        length-append (half d) ((half (length ls) ++ types_bytes ls) ++ (half (length os) ++ types_bytes os)),
        length-append (half (length ls) ++ types_bytes ls) (half (length os) ++ types_bytes os),
        length-append (half (length ls)) (types_bytes ls),
        length-append (half (length os)) (types_bytes os),
        two d,
        two (length ls),
        two (length os),
        types-size pool Local ls h,
        types-size pool Operand os k,
        kinds-reverse (map (table_kind pool) os),
      )

  -- the operands alone
  at-operands : (g : TableFrame) → Fitting pool g → kinds_size (frame_operands pool g) ≤ length (form_bytes g)
  at-operands (Same d) h = omega arith
  at-operands (SameWithOperand d t) h = omega (arith, operand-size d t h.1)
  at-operands (SameWithOperandExtended d t) h = omega (arith, extended-size d t h)
  at-operands (Chop d n) h = omega arith
  at-operands (SameExtended d) h = omega arith
  at-operands (Append d ts) h = omega arith
  at-operands (Full d ls os) h = omega (arith, full-size d ls os h.0 h.1)

  -- with a delta of two bytes
  at-extended : (g : TableFrame) → Fitting pool g → 64 ≤ delta_of g → length (frame_operands pool g) ≡ 1 → 2 + kinds_size (frame_operands pool g) ≤ length (form_bytes g)
  at-extended (Same d) h far one = absurd (omega (arith, one))
  at-extended (SameWithOperand d t) h far one = absurd (omega (arith, h.0, far))
  at-extended (SameWithOperandExtended d t) h far one = omega (arith, extended-size d t h)
  at-extended (Chop d n) h far one = absurd (omega (arith, one))
  at-extended (SameExtended d) h far one = absurd (omega (arith, one))
  at-extended (Append d ts) h far one = absurd (omega (arith, one))
  at-extended (Full d ls os) h far one = omega (arith, full-size d ls os h.0 h.1)

  -- without operands, and with a delta of two bytes or other local variables
  at-delta : (before : List Kind) (g : TableFrame) → Fitting pool g → (delta_of g < 64 → locals_of pool before g ≡ Some before → ⊥) → length (frame_operands pool g) ≡ 0 → 2 ≤ length (form_bytes g)
  at-delta before (Same d) h far none = absurd (far h refl)
  at-delta before (SameWithOperand d t) h far none = absurd (omega (arith, none))
  at-delta before (SameWithOperandExtended d t) h far none = absurd (omega (arith, none))
  at-delta before (Chop d n) h far none = omega (arith, two d)
  at-delta before (SameExtended d) h far none = omega (arith, two d)
  at-delta before (Append d ts) h far none = omega (arith, append-size d ts h.2)
  at-delta before (Full d ls os) h far none = omega (arith, full-size d ls os h.0 h.1)

  take-short : (before : List Kind) (n : ℕ) → length (take (length before - n) before) ≤ length before
  take-short before n = omega (arith, length-take (length before - n) before)

  chopped-short : (before ls : List Kind) (n : ℕ) → (if nat_le n (length before) then Some (take (length before - n) before) else None) ≡ Some ls → length ls ≤ length before
  chopped-short before ls n e = by-test (nat_le n (length before)) e
    where
      by-test : (b : Bool) → (if b then Some (take (length before - n) before) else None) ≡ Some ls → length ls ≤ length before
      by-test true h = omega (arith, take-short before n, ap length (same_Some (take (length before - n) before) ls h))
      by-test false h = absurd (none-some ls h)

  -- with local variables that are added
  at-added : (before added : List Kind) (g : TableFrame) → Fitting pool g → 1 ≤ length added → locals_of pool before g ≡ Some (before ++ added) → length (frame_operands pool g) ≡ 0 → 2 + kinds_size added ≤ length (form_bytes g)
  at-added before added (Same d) h some e none = absurd (omega (arith, some, ap length (same_Some before (before ++ added) e), length-append before added))
  at-added before added (SameWithOperand d t) h some e none = absurd (omega (arith, none))
  at-added before added (SameWithOperandExtended d t) h some e none = absurd (omega (arith, none))
  at-added before added (Chop d n) h some e none = absurd (omega (arith, some, chopped-short before (before ++ added) n e, length-append before added))
  at-added before added (SameExtended d) h some e none = absurd (omega (arith, some, ap length (same_Some before (before ++ added) e), length-append before added))
  at-added before added (Append d ts) h some e none =
      let same : map (table_kind pool) ts ≡ added = append_cancel_left before (map (table_kind pool) ts) added (same_Some (before ++ map (table_kind pool) ts) (before ++ added) e) in
      omega (arith, append-size d ts h.2, ap kinds_size same)
  at-added before added (Full d ls os) h some e none =
      let same : map (table_kind pool) ls ≡ before ++ added = same_Some (map (table_kind pool) ls) (before ++ added) e in
      omega (arith, full-size d ls os h.0 h.1, ap kinds_size same, kinds-append before added)

  pub chopped-is : (before ls : List Kind) (n : ℕ) → (if nat_le n (length before) then Some (take (length before - n) before) else None) ≡ Some ls → (n ≤ length before) × (ls ≡ take (length before - n) before)
  chopped-is before ls n e = by-test (nat_le n (length before)) refl e
    where
      by-test : (b : Bool) → nat_le n (length before) ≡ b → (if b then Some (take (length before - n) before) else None) ≡ Some ls → (n ≤ length before) × (ls ≡ take (length before - n) before)
      by-test true is h = (leb-true n (length before) is, sym (same_Some (take (length before - n) before) ls h))
      by-test false is h = absurd (none-some ls h)

  -- that no other form gives
  at-full : (before ls stack : List Kind) (g : TableFrame) → Fitting pool g → NoOther before ls stack → locals_of pool before g ≡ Some ls → frame_operands pool g ≡ stack → 6 + kinds_size ls + kinds_size stack ≤ length (form_bytes g)
  at-full before ls stack (Same d) h alone e s = absurd (omega (arith, alone.same (sym (same_Some before ls e)), ap length s))
  at-full before ls stack (SameWithOperand d t) h alone e s = absurd (omega (arith, alone.same (sym (same_Some before ls e)), ap length s))
  at-full before ls stack (SameWithOperandExtended d t) h alone e s = absurd (omega (arith, alone.same (sym (same_Some before ls e)), ap length s))
  at-full before ls stack (Chop d n) h alone e s =
      let c = chopped-is before ls n e in
      absurd (omega (arith, alone.chopped n h.0 h.1 c.0 c.1, ap length s))
  at-full before ls stack (SameExtended d) h alone e s = absurd (omega (arith, alone.same (sym (same_Some before ls e)), ap length s))
  at-full before ls stack (Append d ts) h alone e s =
      let n = length-map ts (table_kind pool) in
      absurd (omega (arith, alone.appended (map (table_kind pool) ts) (omega (arith, n, h.0)) (omega (arith, n, h.1)) (sym (same_Some (before ++ map (table_kind pool) ts) ls e)), ap length s))
  at-full before ls stack (Full d os ts) h alone e s = omega (arith, full-size d os ts h.0 h.1, ap kinds_size (same_Some (map (table_kind pool) os) ls e), ap kinds_size s)

  -- ---- one form, against any that gives the same

  pub bytes-of : (g : TableFrame) → IsSized pool g → length ((frame pool).spell g) ≡ 1 + length (form_bytes g)
  bytes-of g s = omega (arith, ap length s.bytes, length-append (to_be_bytes w8 (frame_tag g)) (form_bytes g), wide8.len (frame_tag g))

  module _ (before ls stack : List Kind) (delta : ℕ) where
    -- f has so many bytes behind its tag, and each other form as many
    least : (f : TableFrame) (size : ℕ) → AreLowest pool (types_of f) → Gives pool before delta ls stack f → length (form_bytes f) ≤ size → ((g : TableFrame) → Fitting pool g → Gives pool before delta ls stack g → size ≤ length (form_bytes g)) → GivesShortest pool before delta ls stack f
    least f size low gives small each = record {
      gives = gives;
      lowest = low;
      shortest = λ g other.
          let s = frame-sized pool f gives.fits in
          let t = frame-sized pool g other.fits in
          omega (arith, bytes-of f s, bytes-of g t, small, each g t.fitting other);
    }

    pub same-least : (d : ℕ) → Gives pool before delta ls stack (Same d) → GivesShortest pool before delta ls stack (Same d)
    same-least d gives = least (Same d) 0 tt gives (omega arith) (λ g h other. omega arith)

    pub operand-least : (d : ℕ) (t : TableType) → IsLowest pool t → Gives pool before delta ls stack (SameWithOperand d t) → GivesShortest pool before delta ls stack (SameWithOperand d t)
    operand-least d t low gives =
        let s = frame-sized pool (SameWithOperand d t) gives.fits in
        least (SameWithOperand d t) (kinds_size stack) (low, tt) gives (omega (arith, operand-size d t s.fitting.1, ap kinds_size gives.has_operands))
        (λ g h other. omega (arith, at-operands g h, ap kinds_size other.has_operands))

    pub extended-operand-least : (d : ℕ) (t : TableType) → IsLowest pool t → 64 ≤ delta → Gives pool before delta ls stack (SameWithOperandExtended d t) → GivesShortest pool before delta ls stack (SameWithOperandExtended d t)
    extended-operand-least d t low far gives =
        let s = frame-sized pool (SameWithOperandExtended d t) gives.fits in
        least (SameWithOperandExtended d t) (2 + kinds_size stack) (low, tt) gives (omega (arith, extended-size d t s.fitting, ap kinds_size gives.has_operands))
        (λ g h other. omega (arith, at-extended g h (omega (arith, far, other.rises)) (omega (arith, ap length other.has_operands, ap length gives.has_operands)), ap kinds_size other.has_operands))

    pub delta-least : (f : TableFrame) → AreLowest pool (types_of f) → length (form_bytes f) ≤ 2 → length stack ≡ 0 → (delta < 64 → ls ≡ before → ⊥) → Gives pool before delta ls stack f → GivesShortest pool before delta ls stack f
    delta-least f low small none far gives =
        least f 2 low gives small
        (λ g h other.
        at-delta before g h
        (λ near is. far (omega (arith, near, other.rises)) (same_Some ls before (sym other.has_locals ∙ is)))
        (omega (arith, ap length other.has_operands, none)))

    pub append-least : (added : List Kind) (d : ℕ) (ts : List TableType) → AreLowest pool ts → map (table_kind pool) ts ≡ added → 1 ≤ length added → ls ≡ before ++ added → length stack ≡ 0 → Gives pool before delta ls stack (Append d ts) → GivesShortest pool before delta ls stack (Append d ts)
    append-least added d ts low are some is none gives =
        let s = frame-sized pool (Append d ts) gives.fits in
        least (Append d ts) (2 + kinds_size added) low gives (omega (arith, append-size d ts s.fitting.2, ap kinds_size are))
        (λ g h other. at-added before added g h some (other.has_locals ∙ ap (λ x. Some x) is) (omega (arith, ap length other.has_operands, none)))

    pub full-least : (d : ℕ) (os ts : List TableType) → AreLowest pool (os ++ ts) → NoOther before ls stack → Gives pool before delta ls stack (Full d os ts) → GivesShortest pool before delta ls stack (Full d os ts)
    full-least d os ts low alone gives =
        let s = frame-sized pool (Full d os ts) gives.fits in
        least (Full d os ts) (6 + kinds_size ls + kinds_size stack) low gives
        (omega (arith, full-size d os ts s.fitting.0 s.fitting.1, ap kinds_size (same_Some (map (table_kind pool) os) ls gives.has_locals), ap kinds_size gives.has_operands))
        (λ g h other. at-full before ls stack g h alone other.has_locals other.has_operands)
