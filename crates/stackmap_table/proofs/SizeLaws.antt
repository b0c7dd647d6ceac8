-- Which frames there are, and the bytes of each.
use Rattle.std.proofs.Common.{◌≡◌, ℕ, ◌-◌, ◌^◌, ◌<◌, ◌≤◌, Bool, true, false, eqb, List, [], ◌∷◌, ◌++◌, length, Some, None, refl, sym, ap, ◌∙◌, arith}
use Rattle.std.specs.Prelude.{if◌then◌else◌, nat_lt}
use Rattle.std.specs.Int.{w8, w16, to_be_bytes}
use Rattle.std.proofs.lemmas.Bool.{and_parts, eqb-true, eq-eqb, ltb-true, ltb-false, false≢true}
use Rattle.class_definition.specs.Format.{Format, number_format, nothing, counted, repeated, refused_format, chain_spelling, chain_fits, spelled_by, fits_by}
use Rattle.class_definition.specs.declared.entry.Entry.{Entry}
use Rattle.stackmap_table.specs.declared.place.Place.{Place}
use Rattle.stackmap_table.specs.declared.place.Place.TheVariants.{Local, Operand}
use Rattle.stackmap_table.specs.declared.table_type.TableType.{TableType}
use Rattle.stackmap_table.specs.declared.table_type.TableType.TheVariants.{Top, Int, Long, Null, Object}
use Rattle.stackmap_table.specs.declared.table_frame.TableFrame.{TableFrame}
use Rattle.stackmap_table.specs.declared.table_frame.TableFrame.TheVariants.{Same, SameWithOperand, SameWithOperandExtended, Chop, SameExtended, Append, Full}
use Rattle.stackmap_table.specs.Written.{half, type_bytes, types_bytes, form_bytes, frame_bytes}
use Rattle.stackmap_table.specs.Tables.{bad_table, type_at, frame_tag, same_frame, same_with_operand, delta, same_with_operand_extended, chop, same_extended, append, full, form, frame}

-- ---- types

abbrev pub AllFit : List Entry → Place → List TableType → Type 0
AllFit pool place [] = Unit {0}
AllFit pool place (t ∷ types) = ((type_at pool place).fits t ≡ true) × AllFit pool place types

type-spelled : (pool : List Entry) (place : Place) (t : TableType) → (type_at pool place).spell t ≡ type_bytes t
unfolding type_at
type-spelled pool Local Top = refl
type-spelled pool Local Int = refl
type-spelled pool Local Long = refl
type-spelled pool Local Null = refl
type-spelled pool Local (Object slot) = refl
type-spelled pool Operand Top = refl
type-spelled pool Operand Int = refl
type-spelled pool Operand Long = refl
type-spelled pool Operand Null = refl
type-spelled pool Operand (Object slot) = refl

abbrev spelling_of : List Entry → Place → List TableType → List ℕ
spelling_of pool place types = chain_spelling {S = Unit {0}} (λ _ _. type_at pool place) (λ s _. s) tt types

types-spelled : (pool : List Entry) (place : Place) (types : List TableType) → spelling_of pool place types ≡ types_bytes types
types-spelled pool place [] = refl
types-spelled pool place (t ∷ types) =
    ap (λ x. x ++ spelling_of pool place types) (type-spelled pool place t) ∙ ap (λ x. type_bytes t ++ x) (types-spelled pool place types)

all-fit : (pool : List Entry) (place : Place) (types : List TableType) → chain_fits {S = Unit {0}} (λ _ _. type_at pool place) (λ s _. s) tt types ≡ true → AllFit pool place types
all-fit pool place [] e = tt
all-fit pool place (t ∷ types) e =
    let p = and_parts ((type_at pool place).fits t) _ e in
    (p.0, all-fit pool place types p.1)

-- ---- frames

-- what holds of a frame that can be spelled
abbrev pub Fitting : List Entry → TableFrame → Type 0
Fitting pool (Same d) = d < 64
Fitting pool (SameWithOperand d t) = (d < 64) × ((type_at pool Operand).fits t ≡ true)
Fitting pool (SameWithOperandExtended d t) = (type_at pool Operand).fits t ≡ true
Fitting pool (Chop d n) = (1 ≤ n) × (n ≤ 3)
Fitting pool (SameExtended d) = Unit {0}
Fitting pool (Append d types) = (1 ≤ length types) × (length types ≤ 3) × AllFit pool Local types
Fitting pool (Full d locals operands) =
    AllFit pool Local locals × AllFit pool Operand operands × (length locals < 2 ^ 16) × (length operands < 2 ^ 16)

abbrev Sized : List Entry → TableFrame → Format TableFrame → Type 0
Sized pool g f = f.fits g ≡ true → Fitting pool g × (f.spell g ≡ form_bytes g)

-- the forms, one by one
module _ (C : Format TableFrame → Type 0) (pool : List Entry) (tag : ℕ)
    (on-same : tag < 64 → C (same_frame tag))
    (on-operand : 64 ≤ tag → tag < 128 → C (same_with_operand pool (tag - 64)))
    (on-none : C (refused_format bad_table 1))
    (on-operand-extended : C (same_with_operand_extended pool))
    (on-chop : 248 ≤ tag → tag < 251 → C (chop (251 - tag)))
    (on-extended : C same_extended)
    (on-append : 252 ≤ tag → tag < 255 → C (append pool (tag - 251)))
    (on-full : C (full pool)) where
  either : (b : Bool) (f g : Format TableFrame) → (b ≡ true → C f) → (b ≡ false → C g) → C (if b then f else g)
  either true f g one two = one refl
  either false f g one two = two refl

  not-equal : (n : ℕ) → eqb tag n ≡ false → tag ≡ n → ⊥
  not-equal n e same' = false≢true (sym e ∙ eq-eqb tag n same')

  by-tag : C (form pool tag)
  by-tag =
      either (nat_lt tag 64) _ _ (λ a. on-same (ltb-true tag 64 a))
      (λ a. either (nat_lt tag 128) _ _ (λ b. on-operand (ltb-false tag 64 a) (ltb-true tag 128 b))
      (λ b. either (nat_lt tag 247) _ _ (λ c. on-none)
      (λ c. either (eqb tag 247) _ _ (λ d. on-operand-extended)
      (λ d. either (nat_lt tag 251) _ _ (λ e. on-chop (omega (arith, ltb-false tag 247 c, not-equal 247 d)) (ltb-true tag 251 e))
      (λ e. either (eqb tag 251) _ _ (λ f. on-extended)
      (λ f. either (nat_lt tag 255) _ _ (λ g. on-append (omega (arith, ltb-false tag 251 e, not-equal 251 f)) (ltb-true tag 255 g))
      (λ g. on-full)))))))

counted-spelled : (pool : List Entry) (place : Place) (types : List TableType) → (counted bad_table w16 (type_at pool place)).spell types ≡ half (length types) ++ types_bytes types
counted-spelled pool place types = ap (λ x. half (length types) ++ x) (types-spelled pool place types)

counted-fit : (pool : List Entry) (place : Place) (types : List TableType) → (counted bad_table w16 (type_at pool place)).fits types ≡ true → AllFit pool place types × (length types < 2 ^ 16)
counted-fit pool place types e =
    let p = and_parts ((number_format bad_table w16).fits (length types)) _ e in
    (all-fit pool place types (and_parts (eqb (length types) (length types)) _ p.1).1, ltb-true (length types) (2 ^ 16) p.0)

held : {A : Type 0} (b : Bool) (f : Format A) (x : A) → fits_by f (if b then Some x else None) ≡ true → (b ≡ true) × (f.fits x ≡ true)
held true f x e = (refl, e)
held false f x e = absurd (false≢true e)

held-spelled : {A : Type 0} (b : Bool) (f : Format A) (x : A) → b ≡ true → spelled_by f (if b then Some x else None) ≡ f.spell x
held-spelled b f x e = ap (λ t. spelled_by f (if t then Some x else None)) e

sized : (pool : List Entry) (g : TableFrame) (tag : ℕ) → Sized pool g (form pool tag)
sized pool (Same d) tag =
    by-tag (Sized pool (Same d)) pool tag
    (λ less e. let h = held (eqb d tag) nothing tt e in (omega (arith, less, eqb-true d tag h.0), held-spelled (eqb d tag) nothing tt h.0))
    (λ _ _ e. absurd cc) (λ e. absurd cc) (λ e. absurd cc) (λ _ _ e. absurd cc) (λ e. absurd cc) (λ _ _ e. absurd cc) (λ e. absurd cc)
sized pool (SameWithOperand d t) tag =
    by-tag (Sized pool (SameWithOperand d t)) pool tag
    (λ _ e. absurd cc)
    (λ more less e. let h = held (eqb d (tag - 64)) (type_at pool Operand) t e in ((omega (arith, less, more, eqb-true d (tag - 64) h.0), h.1), held-spelled (eqb d (tag - 64)) (type_at pool Operand) t h.0 ∙ type-spelled pool Operand t))
    (λ e. absurd cc) (λ e. absurd cc) (λ _ _ e. absurd cc) (λ e. absurd cc) (λ _ _ e. absurd cc) (λ e. absurd cc)
sized pool (SameWithOperandExtended d t) tag =
    by-tag (Sized pool (SameWithOperandExtended d t)) pool tag
    (λ _ e. absurd cc) (λ _ _ e. absurd cc) (λ e. absurd cc)
    (λ e. ((and_parts (delta.fits d) ((type_at pool Operand).fits t) e).1, ap (λ x. half d ++ x) (type-spelled pool Operand t)))
    (λ _ _ e. absurd cc) (λ e. absurd cc) (λ _ _ e. absurd cc) (λ e. absurd cc)
sized pool (Chop d n) tag =
    by-tag (Sized pool (Chop d n)) pool tag
    (λ _ e. absurd cc) (λ _ _ e. absurd cc) (λ e. absurd cc) (λ e. absurd cc)
    (λ more less e. let h = held (eqb n (251 - tag)) delta d e in let same' = eqb-true n (251 - tag) h.0 in ((omega (arith, same', less), omega (arith, same', more)), held-spelled (eqb n (251 - tag)) delta d h.0))
    (λ e. absurd cc) (λ _ _ e. absurd cc) (λ e. absurd cc)
sized pool (SameExtended d) tag =
    by-tag (Sized pool (SameExtended d)) pool tag
    (λ _ e. absurd cc) (λ _ _ e. absurd cc) (λ e. absurd cc) (λ e. absurd cc) (λ _ _ e. absurd cc)
    (λ e. (tt, refl))
    (λ _ _ e. absurd cc) (λ e. absurd cc)
sized pool (Append d types) tag =
    by-tag (Sized pool (Append d types)) pool tag
    (λ _ e. absurd cc) (λ _ _ e. absurd cc) (λ e. absurd cc) (λ e. absurd cc) (λ _ _ e. absurd cc) (λ e. absurd cc)
    (λ more less e.
    let p = and_parts (delta.fits d) ((repeated (type_at pool Local) (tag - 251)).fits types) e in
    let q = and_parts (eqb (length types) (tag - 251)) _ p.1 in
    let count = eqb-true (length types) (tag - 251) q.0 in (
      (omega (arith, count, more), omega (arith, count, less), all-fit pool Local types q.1),
      ap (λ x. half d ++ x) (types-spelled pool Local types),
    ))
    (λ e. absurd cc)
sized pool (Full d locals operands) tag =
    by-tag (Sized pool (Full d locals operands)) pool tag
    (λ _ e. absurd cc) (λ _ _ e. absurd cc) (λ e. absurd cc) (λ e. absurd cc) (λ _ _ e. absurd cc) (λ e. absurd cc) (λ _ _ e. absurd cc)
    (λ e.
    let p = and_parts (delta.fits d) _ e in
    let q = and_parts ((counted bad_table w16 (type_at pool Local)).fits locals) ((counted bad_table w16 (type_at pool Operand)).fits operands) p.1 in
    let os = (counted bad_table w16 (type_at pool Operand)).spell operands in
    let ls = counted-fit pool Local locals q.0 in
    let ts = counted-fit pool Operand operands q.1 in (
      (ls.0, ts.0, ls.1, ts.1),
      ap (λ x. half d ++ (x ++ os)) (counted-spelled pool Local locals)
          ∙ ap (λ x. half d ++ ((half (length locals) ++ types_bytes locals) ++ x)) (counted-spelled pool Operand operands),
    ))

pub record IsSized (pool : List Entry) (g : TableFrame) : Type 0 where
  pub fitting : Fitting pool g
  pub bytes : (frame pool).spell g ≡ frame_bytes g

pub frame-sized : (pool : List Entry) (g : TableFrame) → (frame pool).fits g ≡ true → IsSized pool g
unfolding frame
frame-sized pool g e =
    let p = and_parts ((number_format bad_table w8).fits (frame_tag g)) ((form pool (frame_tag g)).fits g) e in
    let s = sized pool g (frame_tag g) p.1 in
    record { fitting = s.0; bytes = ap (λ x. to_be_bytes w8 (frame_tag g) ++ x) s.1 }
