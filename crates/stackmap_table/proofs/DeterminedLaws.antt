-- A table is determined: two shortest frames that give the same are the same.
use Rattle.std.proofs.Common.{◌≡◌, ℕ, ◌+◌, ◌-◌, ◌≤◌, true, List, [], ◌∷◌, ◌++◌, length, Option, Some, None, refl, sym, ap, subst, ◌∙◌, arith, drop, get_or}
use Rattle.std.specs.Prelude.{map, reverse, unwrap_or, is_some}
use Rattle.std.proofs.lemmas.Bool.{false≢true}
use Rattle.std.proofs.lemmas.List.{length-append, length-map, length-take, append_cancel_left, reverse-reverse}
use Rattle.std.proofs.lemmas.Option.{same_Some}
use Rattle.class_definition.specs.declared.entry.Entry.{Entry}
use Rattle.jvm_definition.specs.declared.kind.Kind.{Kind}
use Rattle.jvm_definition.specs.declared.kind.Kind.TheVariants as kinds
use Rattle.jvm_type_inference.specs.declared.frame.Frame.{Frame}
use Rattle.stackmap_table.specs.declared.place.Place.{Place}
use Rattle.stackmap_table.specs.declared.place.Place.TheVariants.{Local, Operand}
use Rattle.stackmap_table.specs.declared.table_type.TableType.{TableType}
use Rattle.stackmap_table.specs.declared.table_type.TableType.TheVariants.{Top, Int, Long, Null, Object}
use Rattle.stackmap_table.specs.declared.table_frame.TableFrame.{TableFrame}
use Rattle.stackmap_table.specs.declared.table_frame.TableFrame.TheVariants.{Same, SameWithOperand, SameWithOperandExtended, Chop, SameExtended, Append, Full}
use Rattle.stackmap_table.specs.Forms.{kind_size, kinds_size}
use Rattle.stackmap_table.specs.Meaning.{table_kind, delta_of, frame_offset}
use Rattle.stackmap_table.specs.Shortest.{Gives, GivesShortest, IsLowest, AreLowest, AreShortest, IsTableOf, types_of, trimmed_locals, trimmed_frame, spelling}
use Rattle.stackmap_table.specs.Tables.{kind_at, type_at}
use Rattle.stackmap_table.specs.Written.{form_bytes}
use Rattle.stackmap_table.proofs.ShortLaws.{object-some, object-size, operand-size, extended-size, append-size, full-size, chopped-is, bytes-of, kinds-append}
use Rattle.stackmap_table.proofs.SizeLaws.{AllFit, Fitting, frame-sized}

-- ---- types

same-some : {A : Type 0} (o p : Option A) (d : A) → is_some o ≡ true → is_some p ≡ true → unwrap_or o d ≡ unwrap_or p d → o ≡ p
same-some None p d h k e = absurd (false≢true h)
same-some (Some x) None d h k e = absurd (false≢true k)
same-some (Some x) (Some y) d h k e = ap (λ z. Some z) e

head-same : {A : Type 0} (d x y : A) (xs ys : List A) → x ∷ xs ≡ y ∷ ys → x ≡ y
head-same d x y xs ys e = ap (λ zs. get_or zs 0 d) e

rest-same : {A : Type 0} (x y : A) (xs ys : List A) → x ∷ xs ≡ y ∷ ys → xs ≡ ys
rest-same x y xs ys e = ap (λ zs. drop 1 zs) e

module _ (pool : List Entry) where
  abbrev IsNamed : Place → TableType → Type 0
  IsNamed place t = ((type_at pool place).fits t ≡ true) × IsLowest pool t

  -- a type of references has three bytes, and any other one
  not-object : (place : Place) (slot : ℕ) (k : Kind) → (type_at pool place).fits (Object slot) ≡ true → kind_size k ≡ 1 → k ≡ table_kind pool (Object slot) → ⊥
  not-object place slot k fits one e = omega (arith, one, ap kind_size e, object-size pool slot (object-some pool place slot fits))

  type-same : (place : Place) (t u : TableType) → IsNamed place t → IsNamed place u → table_kind pool t ≡ table_kind pool u → t ≡ u
  type-same place Top Top h k e = refl
  type-same place Top (Object slot) h k e = absurd (not-object place slot kinds.Top k.0 refl e)
  type-same place Top _ h k e = absurd cc
  type-same place Int Int h k e = refl
  type-same place Int (Object slot) h k e = absurd (not-object place slot kinds.Int k.0 refl e)
  type-same place Int _ h k e = absurd cc
  type-same place Long Long h k e = refl
  type-same place Long (Object slot) h k e = absurd (not-object place slot kinds.Long k.0 refl e)
  type-same place Long _ h k e = absurd cc
  type-same place Null Null h k e = refl
  type-same place Null (Object slot) h k e = absurd (not-object place slot kinds.Null k.0 refl e)
  type-same place Null _ h k e = absurd cc
  type-same place (Object slot) (Object other) h k e =
      let same = same-some (kind_at pool slot) (kind_at pool other) kinds.Top (object-some pool place slot h.0) (object-some pool place other k.0) e in
      let lower : slot ≤ other = h.1 other (sym same) in
      let upper : other ≤ slot = k.1 slot same in
      let equal : slot ≡ other = omega (arith, lower, upper) in
      ap Object equal
  type-same place (Object slot) Top h k e = absurd (not-object place slot kinds.Top h.0 refl (sym e))
  type-same place (Object slot) Int h k e = absurd (not-object place slot kinds.Int h.0 refl (sym e))
  type-same place (Object slot) Long h k e = absurd (not-object place slot kinds.Long h.0 refl (sym e))
  type-same place (Object slot) Null h k e = absurd (not-object place slot kinds.Null h.0 refl (sym e))

  types-same : (place : Place) (ts us : List TableType) → AllFit pool place ts → AreLowest pool ts → AllFit pool place us → AreLowest pool us → map (table_kind pool) ts ≡ map (table_kind pool) us → ts ≡ us
  types-same place [] [] a b c d e = refl
  types-same place [] (u ∷ us) a b c d e = absurd (omega (arith, ap length e))
  types-same place (t ∷ ts) [] a b c d e = absurd (omega (arith, ap length e))
  types-same place (t ∷ ts) (u ∷ us) a b c d e =
      let first = type-same place t u (a.0, b.0) (c.0, d.0) (head-same kinds.Top (table_kind pool t) (table_kind pool u) (map (table_kind pool) ts) (map (table_kind pool) us) e) in
      let others = types-same place ts us a.1 b.1 c.1 d.1 (rest-same (table_kind pool t) (table_kind pool u) (map (table_kind pool) ts) (map (table_kind pool) us) e) in
      λ i. first i ∷ others i

  front-lowest : (ts us : List TableType) → AreLowest pool (ts ++ us) → AreLowest pool ts × AreLowest pool us
  front-lowest [] us low = (tt, low)
  front-lowest (t ∷ ts) us low = let p = front-lowest ts us low.1 in ((low.0, p.0), p.1)

  reversed-same : (ks os : List Kind) → reverse ks ≡ reverse os → ks ≡ os
  reversed-same ks os e = sym (reverse-reverse ks) ∙ (ap reverse e ∙ reverse-reverse os)

  -- ---- what tells the forms apart

  -- how many local variables a frame drops and adds, how many operands it has, and how many bytes of it are of no type
  abbrev drops : TableFrame → ℕ
  drops (Chop d n) = n
  drops f = 0

  abbrev adds : TableFrame → ℕ
  adds (Append d ts) = length ts
  adds f = 0

  abbrev operands : TableFrame → ℕ
  operands (SameWithOperand d t) = 1
  operands (SameWithOperandExtended d t) = 1
  operands f = 0

  abbrev added_size : TableFrame → ℕ
  added_size (Append d ts) = kinds_size (map (table_kind pool) ts)
  added_size f = 0

  abbrev base : TableFrame → ℕ
  base (Same d) = 0
  base (SameWithOperand d t) = 0
  base f = 2

  -- at least one is dropped or added
  abbrev moves : TableFrame → ℕ
  moves (Chop d n) = 1
  moves (Append d ts) = 1
  moves f = 0

  abbrev NotFull : TableFrame → Type 0
  NotFull (Full d ls os) = ⊥
  NotFull f = Unit {0}

  moved : (f : TableFrame) → Fitting pool f → NotFull f → moves f ≤ drops f + adds f
  moved (Same d) h n = omega arith
  moved (SameWithOperand d t) h n = omega arith
  moved (SameWithOperandExtended d t) h n = omega arith
  moved (Chop d m) h n = omega (arith, h.0)
  moved (SameExtended d) h n = omega arith
  moved (Append d ts) h n = omega (arith, h.0)
  moved (Full d ls os) h n = absurd n

  module _ (before ls stack : List Kind) (delta : ℕ) where
    abbrev Given : TableFrame → Type 0
    Given f = Gives pool before delta ls stack f

    counted : (f : TableFrame) → NotFull f → Given f → length ls + drops f ≡ length before + adds f
    counted (Same d) n g = omega (arith, ap length (same_Some before ls g.has_locals))
    counted (SameWithOperand d t) n g = omega (arith, ap length (same_Some before ls g.has_locals))
    counted (SameWithOperandExtended d t) n g = omega (arith, ap length (same_Some before ls g.has_locals))
    counted (Chop d m) n g =
        let c = chopped-is pool before ls m g.has_locals in
        omega (arith, c.0, ap length c.1, length-take (length before - m) before)
    counted (SameExtended d) n g = omega (arith, ap length (same_Some before ls g.has_locals))
    counted (Append d ts) n g = omega (arith, ap length (same_Some (before ++ map (table_kind pool) ts) ls g.has_locals), length-append before (map (table_kind pool) ts), length-map ts (table_kind pool))
    counted (Full d os ts) n g = absurd n

    operated : (f : TableFrame) → NotFull f → Given f → length stack ≡ operands f
    operated (Same d) n g = sym (ap length g.has_operands)
    operated (SameWithOperand d t) n g = sym (ap length g.has_operands)
    operated (SameWithOperandExtended d t) n g = sym (ap length g.has_operands)
    operated (Chop d m) n g = sym (ap length g.has_operands)
    operated (SameExtended d) n g = sym (ap length g.has_operands)
    operated (Append d ts) n g = sym (ap length g.has_operands)
    operated (Full d os ts) n g = absurd n

    measured : (f : TableFrame) → NotFull f → Fitting pool f → Given f → length (form_bytes f) ≡ base f + added_size f + kinds_size stack
    measured (Same d) n h g = omega (arith, ap kinds_size g.has_operands)
    measured (SameWithOperand d t) n h g = omega (arith, operand-size pool d t h.1, ap kinds_size g.has_operands)
    measured (SameWithOperandExtended d t) n h g = omega (arith, extended-size pool d t h, ap kinds_size g.has_operands)
    measured (Chop d m) n h g = omega (arith, ap kinds_size g.has_operands)
    measured (SameExtended d) n h g = omega (arith, ap kinds_size g.has_operands)
    measured (Append d ts) n h g = omega (arith, append-size pool d ts h.2, ap kinds_size g.has_operands)
    measured (Full d os ts) n h g = absurd n

    -- what is added is among the local variables
    added-among : (f : TableFrame) → NotFull f → Given f → added_size f ≤ kinds_size ls
    added-among (Same d) n g = omega arith
    added-among (SameWithOperand d t) n g = omega arith
    added-among (SameWithOperandExtended d t) n g = omega arith
    added-among (Chop d m) n g = omega arith
    added-among (SameExtended d) n g = omega arith
    added-among (Append d ts) n g = omega (arith, ap kinds_size (same_Some (before ++ map (table_kind pool) ts) ls g.has_locals), kinds-append before (map (table_kind pool) ts))
    added-among (Full d os ts) n g = absurd n

    base-few : (f : TableFrame) → base f ≤ 2
    base-few (Same d) = omega arith
    base-few (SameWithOperand d t) = omega arith
    base-few (SameWithOperandExtended d t) = omega arith
    base-few (Chop d m) = omega arith
    base-few (SameExtended d) = omega arith
    base-few (Append d ts) = omega arith
    base-few (Full d os ts) = omega arith

    full-long : (d : ℕ) (os ts : List TableType) → Fitting pool (Full d os ts) → Given (Full d os ts) → length (form_bytes (Full d os ts)) ≡ 6 + kinds_size ls + kinds_size stack
    full-long d os ts h g = omega (arith, full-size pool d os ts h.0 h.1, ap kinds_size (same_Some (map (table_kind pool) os) ls g.has_locals), ap kinds_size g.has_operands)

    -- a form that names all has more bytes than any other
    not-full : (f : TableFrame) (d : ℕ) (os ts : List TableType) → NotFull f → Fitting pool f → Given f → Fitting pool (Full d os ts) → Given (Full d os ts) → length (form_bytes f) ≡ length (form_bytes (Full d os ts)) → ⊥
    not-full f d os ts n h g k other e = omega (arith, measured f n h g, added-among f n g, base-few f, full-long d os ts k other, e)

    -- ---- two frames that give the same, and have as many bytes

    pub record IsGiven (f : TableFrame) : Type 0 where
      pub given : Given f
      pub fitting : Fitting pool f
      pub lowest : AreLowest pool (types_of f)

    delta-same : (f g : TableFrame) → Given f → Given g → delta_of f ≡ delta_of g
    delta-same f g a b = a.rises ∙ sym b.rises

    -- two frames of different forms
    apart : (f g : TableFrame) → NotFull f → NotFull g → IsGiven f → IsGiven g → length (form_bytes f) ≡ length (form_bytes g)
        → (length ls + drops f ≡ length before + adds f → length ls + drops g ≡ length before + adds g
        → moves f ≤ drops f + adds f → moves g ≤ drops g + adds g → length stack ≡ operands f → length stack ≡ operands g
        → base f + added_size f + kinds_size stack ≡ base g + added_size g + kinds_size stack → ⊥) → ⊥
    apart f g n m a b e differ =
        differ (counted f n a.given) (counted g m b.given) (moved f a.fitting n) (moved g b.fitting m) (operated f n a.given) (operated g m b.given)
        (sym (measured f n a.fitting a.given) ∙ (e ∙ measured g m b.fitting b.given))

    operand-same : (t u : TableType) → (type_at pool Operand).fits t ≡ true → IsLowest pool t → (type_at pool Operand).fits u ≡ true → IsLowest pool u → table_kind pool t ∷ [] ≡ stack → table_kind pool u ∷ [] ≡ stack → t ≡ u
    operand-same t u a b c d e k =
        type-same Operand t u (a, b) (c, d) (head-same kinds.Top (table_kind pool t) (table_kind pool u) [] [] (e ∙ sym k))

    frame-same : (f g : TableFrame) → IsGiven f → IsGiven g → length (form_bytes f) ≡ length (form_bytes g) → f ≡ g
    frame-same (Same d) (Same c) a b e = ap Same (delta-same (Same d) (Same c) a.given b.given)
    frame-same (Same d) (Full c os ts) a b e = absurd (not-full (Same d) c os ts tt a.fitting a.given b.fitting b.given e)
    frame-same (Same d) g a b e = absurd (apart (Same d) g tt tt a b e (λ p q r s t u v. omega (arith, p, q, r, s, t, u, v)))
    frame-same (SameWithOperand d t) (SameWithOperand c u) a b e =
        let one = delta-same (SameWithOperand d t) (SameWithOperand c u) a.given b.given in
        let two = operand-same t u a.fitting.1 a.lowest.0 b.fitting.1 b.lowest.0 a.given.has_operands b.given.has_operands in
        λ i. SameWithOperand (one i) (two i)
    frame-same (SameWithOperand d t) (Full c os ts) a b e = absurd (not-full (SameWithOperand d t) c os ts tt a.fitting a.given b.fitting b.given e)
    frame-same (SameWithOperand d x) g a b e = absurd (apart (SameWithOperand d x) g tt tt a b e (λ p q r s t u v. omega (arith, p, q, r, s, t, u, v)))
    frame-same (SameWithOperandExtended d t) (SameWithOperandExtended c u) a b e =
        let one = delta-same (SameWithOperandExtended d t) (SameWithOperandExtended c u) a.given b.given in
        let two = operand-same t u a.fitting a.lowest.0 b.fitting b.lowest.0 a.given.has_operands b.given.has_operands in
        λ i. SameWithOperandExtended (one i) (two i)
    frame-same (SameWithOperandExtended d t) (Full c os ts) a b e = absurd (not-full (SameWithOperandExtended d t) c os ts tt a.fitting a.given b.fitting b.given e)
    frame-same (SameWithOperandExtended d x) g a b e = absurd (apart (SameWithOperandExtended d x) g tt tt a b e (λ p q r s t u v. omega (arith, p, q, r, s, t, u, v)))
    frame-same (Chop d n) (Chop c m) a b e =
        let one = delta-same (Chop d n) (Chop c m) a.given b.given in
        let p = counted (Chop d n) tt a.given in
        let q = counted (Chop c m) tt b.given in
        let two : n ≡ m = omega (arith, p, q) in
        λ i. Chop (one i) (two i)
    frame-same (Chop d n) (Full c os ts) a b e = absurd (not-full (Chop d n) c os ts tt a.fitting a.given b.fitting b.given e)
    frame-same (Chop d n) g a b e = absurd (apart (Chop d n) g tt tt a b e (λ p q r s t u v. omega (arith, p, q, r, s, t, u, v)))
    frame-same (SameExtended d) (SameExtended c) a b e = ap SameExtended (delta-same (SameExtended d) (SameExtended c) a.given b.given)
    frame-same (SameExtended d) (Full c os ts) a b e = absurd (not-full (SameExtended d) c os ts tt a.fitting a.given b.fitting b.given e)
    frame-same (SameExtended d) g a b e = absurd (apart (SameExtended d) g tt tt a b e (λ p q r s t u v. omega (arith, p, q, r, s, t, u, v)))
    frame-same (Append d ts) (Append c us) a b e =
        let one = delta-same (Append d ts) (Append c us) a.given b.given in
        let kinds-are = append_cancel_left before (map (table_kind pool) ts) (map (table_kind pool) us)
        (same_Some (before ++ map (table_kind pool) ts) ls a.given.has_locals ∙ sym (same_Some (before ++ map (table_kind pool) us) ls b.given.has_locals)) in
        let two = types-same Local ts us a.fitting.2 a.lowest b.fitting.2 b.lowest kinds-are in
        λ i. Append (one i) (two i)
    frame-same (Append d ts) (Full c os us) a b e = absurd (not-full (Append d ts) c os us tt a.fitting a.given b.fitting b.given e)
    frame-same (Append d ts) g a b e = absurd (apart (Append d ts) g tt tt a b e (λ p q r s t u v. omega (arith, p, q, r, s, t, u, v)))
    frame-same (Full d xs os) (Full c ys us) a b e =
        let one = delta-same (Full d xs os) (Full c ys us) a.given b.given in
        let low = front-lowest xs os a.lowest in
        let other = front-lowest ys us b.lowest in
        let two = types-same Local xs ys a.fitting.0 low.0 b.fitting.0 other.0
        (same_Some (map (table_kind pool) xs) ls a.given.has_locals ∙ sym (same_Some (map (table_kind pool) ys) ls b.given.has_locals)) in
        let three = types-same Operand os us a.fitting.1 low.1 b.fitting.1 other.1
        (reversed-same (map (table_kind pool) os) (map (table_kind pool) us) (a.given.has_operands ∙ sym b.given.has_operands)) in
        λ i. Full (one i) (two i) (three i)
    frame-same (Full d xs os) g a b e = absurd (not-full g d xs os tt b.fitting b.given a.fitting a.given (sym e))

    pub shortest-same : (f g : TableFrame) → GivesShortest pool before delta ls stack f → GivesShortest pool before delta ls stack g → f ≡ g
    shortest-same f g a b =
        let s = frame-sized pool f a.gives.fits in
        let t = frame-sized pool g b.gives.fits in
        let less = a.shortest g b.gives in
        let more = b.shortest f a.gives in
        let one = bytes-of pool f s in
        let two = bytes-of pool g t in
        let equal : length (form_bytes f) ≡ length (form_bytes g) = omega (arith, less, more, one, two) in
        frame-same f g (record { given = a.gives; fitting = s.fitting; lowest = a.lowest }) (record { given = b.gives; fitting = t.fitting; lowest = b.lowest }) equal

  -- ---- all of them

  delta-by-offset : (last : Option ℕ) (f g : TableFrame) → frame_offset last f ≡ frame_offset last g → delta_of f ≡ delta_of g
  delta-by-offset None f g e = e
  delta-by-offset (Some at) f g e = omega (arith, e)

  pub frames-same : (last : Option ℕ) (before : List Kind) (listed others : List (ℕ × Frame)) (fs gs : List TableFrame) → map trimmed_frame listed ≡ map trimmed_frame others → AreShortest pool last before listed fs → AreShortest pool last before others gs → fs ≡ gs
  frames-same last before [] [] [] [] e a b = refl
  frames-same last before [] [] (f ∷ fs) gs e a b = absurd a
  frames-same last before [] [] [] (g ∷ gs) e a b = absurd b
  frames-same last before [] (m ∷ others) fs gs e a b = absurd (omega (arith, ap length e))
  frames-same last before (l ∷ listed) [] fs gs e a b = absurd (omega (arith, ap length e))
  frames-same last before (l ∷ listed) (m ∷ others) [] gs e a b = absurd a
  frames-same last before (l ∷ listed) (m ∷ others) (f ∷ fs) [] e a b = absurd b
  frames-same last before (l ∷ listed) (m ∷ others) (f ∷ fs) (g ∷ gs) e a b =
      let here = head-same (trimmed_frame l) (trimmed_frame l) (trimmed_frame m) (map trimmed_frame listed) (map trimmed_frame others) e in
      let at : l.0 ≡ m.0 = ap (λ (x : ℕ × Frame). x.0) here in
      let locals : trimmed_locals l.1.locals ≡ trimmed_locals m.1.locals = ap (λ (x : ℕ × Frame). x.1.locals) here in
      let stack : l.1.stack ≡ m.1.stack = ap (λ (x : ℕ × Frame). x.1.stack) here in
      let delta = delta-by-offset last f g (a.1 ∙ (at ∙ sym b.1)) in
      let own = subst (λ d. GivesShortest pool before d (trimmed_locals m.1.locals) m.1.stack g) (sym delta) b.0 in
      let moved-own = subst (λ ls. GivesShortest pool before (delta_of f) ls m.1.stack g) (sym locals) own in
      let other = subst (λ s. GivesShortest pool before (delta_of f) (trimmed_locals l.1.locals) s g) (sym stack) moved-own in
      let first = shortest-same before (trimmed_locals l.1.locals) l.1.stack (delta_of f) f g a.0 other in
      let behind = subst (λ n. AreShortest pool (Some n) (trimmed_locals m.1.locals) others gs) (sym at) b.2 in
      let behind-too = subst (λ ls. AreShortest pool (Some l.0) ls others gs) (sym locals) behind in
      let rest = frames-same (Some l.0) (trimmed_locals l.1.locals) listed others fs gs (rest-same (trimmed_frame l) (trimmed_frame m) (map trimmed_frame listed) (map trimmed_frame others) e) a.2 behind-too in
      λ i. first i ∷ rest i

  pub tables-same : (parameters : List Kind) (listed others : List (ℕ × Frame)) (first second : List ℕ) → map trimmed_frame listed ≡ map trimmed_frame others → IsTableOf pool parameters listed first → IsTableOf pool parameters others second → first ≡ second
  tables-same parameters listed others first second e a b =
      a.spelled ∙ (ap (spelling pool) (frames-same None parameters listed others a.frames b.frames e a.shortest b.shortest) ∙ sym b.spelled)
