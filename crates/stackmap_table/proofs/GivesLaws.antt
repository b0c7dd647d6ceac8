-- Frames that give local variables and operands, in each form.
use Rattle.std.proofs.Common.{◌≡◌, ℕ, zero, suc, ◌+◌, ◌-◌, ◌^◌, ◌<◌, ◌≤◌, Bool, true, eqb, List, [], ◌∷◌, ◌++◌, length, Some, None, refl, sym, ap, subst, ◌∙◌, arith, take}
use Rattle.std.specs.Prelude.{if◌then◌else◌, nat_lt, map, reverse, unwrap_or, is_some}
use Rattle.std.specs.Int.{w16}
use Rattle.std.proofs.lemmas.Bool.{and_from, eq-eqb, le-leb, lt-ltb, le-ltb, false≢true, cond-true, cond-false}
use Rattle.std.proofs.lemmas.List.{length-append, length-map, length-reverse, map-append, reverse-append, reverse-reverse}
use Rattle.std.proofs.Math.Seq.{take-append_seam}
use Rattle.class_definition.specs.Format.{Format, fault_unless, is_sound, chain_fits, counted, fits_by, nothing}
use Rattle.class_definition.specs.declared.entry.Entry.{Entry}
use Rattle.jvm_definition.specs.declared.kind.Kind.{Kind}
use Rattle.jvm_definition.specs.declared.kind.Kind.TheVariants as kinds
use Rattle.jvm_definition.specs.Typing.{no_top}
use Rattle.stackmap_table.specs.declared.place.Place.{Place}
use Rattle.stackmap_table.specs.declared.place.Place.TheVariants.{Local, Operand}
use Rattle.stackmap_table.specs.declared.reference_slots.ReferenceSlots.{ReferenceSlots}
use Rattle.stackmap_table.specs.declared.table_type.TableType.{TableType}
use Rattle.stackmap_table.specs.declared.table_type.TableType.TheVariants.{Object}
use Rattle.stackmap_table.specs.declared.table_frame.TableFrame.{TableFrame}
use Rattle.stackmap_table.specs.declared.table_frame.TableFrame.TheVariants.{Same, SameWithOperand, SameWithOperandExtended, Chop, SameExtended, Append, Full}
use Rattle.stackmap_table.specs.Tables.{bad_table, kind_at, type_at, frame_tag, same_frame, same_with_operand, same_with_operand_extended, delta, chop, same_extended, append, full, form, frame}
use Rattle.stackmap_table.specs.Meaning.{table_kind}
use Rattle.stackmap_table.specs.Shortest.{AreReferences, Gives, IsLowest, AreLowest, NamesKind, written_type, has_no_long}

-- ---- types

-- the slots of references, which are numbers of two bytes
pub record AreWide (slots : ReferenceSlots) : Type 0 where
  pub ints : slots.ints < 2 ^ 16
  pub pages : slots.pages < 2 ^ 16
  pub text : slots.text < 2 ^ 16

first-local : (k : Kind) (ks : List Kind) → has_no_long (k ∷ ks) ≡ true → (has_no_long (k ∷ []) ≡ true) × (has_no_long ks ≡ true)
first-local kinds.Long ks h = absurd (false≢true h)
first-local kinds.Top ks h = (refl, h)
first-local kinds.Int ks h = (refl, h)
first-local kinds.Null ks h = (refl, h)
first-local kinds.Ints ks h = (refl, h)
first-local kinds.Pages ks h = (refl, h)
first-local kinds.Text ks h = (refl, h)

typed-split : (k : Kind) (ks : List Kind) → no_top (k ∷ ks) ≡ true → (no_top (k ∷ []) ≡ true) × (no_top ks ≡ true)
typed-split kinds.Top ks h = absurd (false≢true h)
typed-split kinds.Long ks h = (refl, h)
typed-split kinds.Int ks h = (refl, h)
typed-split kinds.Null ks h = (refl, h)
typed-split kinds.Ints ks h = (refl, h)
typed-split kinds.Pages ks h = (refl, h)
typed-split kinds.Text ks h = (refl, h)

pub wide-slots-of : (pool : List Entry) (slots : ReferenceSlots) → AreReferences pool slots → AreWide slots
wide-slots-of pool slots refs = record { ints = omega (arith, refs.ints.near); pages = omega (arith, refs.pages.near); text = omega (arith, refs.text.near) }

pub map-reversed : {A B : Type 0} (f : A → B) (xs : List A) → map f (reverse xs) ≡ reverse (map f xs)
map-reversed f [] = refl
map-reversed f (x ∷ xs) =
    ap (map f) (reverse-append (x ∷ []) xs) ∙ (map-append f (reverse xs) (x ∷ []) ∙ (ap (λ zs. zs ++ f x ∷ []) (map-reversed f xs) ∙ sym (reverse-append (f x ∷ []) (map f xs))))

module _ (pool : List Entry) (slots : ReferenceSlots) (refs : AreReferences pool slots) (wide : AreWide slots) where
  pub kind-written : (k : Kind) → table_kind pool (written_type slots k) ≡ k
  kind-written kinds.Top = refl
  kind-written kinds.Int = refl
  kind-written kinds.Long = refl
  kind-written kinds.Null = refl
  kind-written kinds.Ints = ap (λ o. unwrap_or o kinds.Top) refs.ints.is
  kind-written kinds.Pages = ap (λ o. unwrap_or o kinds.Top) refs.pages.is
  kind-written kinds.Text = ap (λ o. unwrap_or o kinds.Top) refs.text.is

  pub kinds-written : (ks : List Kind) → map (table_kind pool) (map (written_type slots) ks) ≡ ks
  kinds-written [] = refl
  kinds-written (k ∷ ks) = λ i. kind-written k i ∷ kinds-written ks i

  lowest-named : (slot : ℕ) (k : Kind) → NamesKind pool slot k → IsLowest pool (Object slot)
  lowest-named slot k named other e = named.lowest other (e ∙ named.is)

  pub kind-lowest : (k : Kind) → IsLowest pool (written_type slots k)
  kind-lowest kinds.Top = tt
  kind-lowest kinds.Int = tt
  kind-lowest kinds.Long = tt
  kind-lowest kinds.Null = tt
  kind-lowest kinds.Ints = lowest-named slots.ints kinds.Ints refs.ints
  kind-lowest kinds.Pages = lowest-named slots.pages kinds.Pages refs.pages
  kind-lowest kinds.Text = lowest-named slots.text kinds.Text refs.text

  pub kinds-lowest : (ks : List Kind) → AreLowest pool (map (written_type slots) ks)
  kinds-lowest [] = tt
  kinds-lowest (k ∷ ks) = (kind-lowest k, kinds-lowest ks)

  -- behind others
  lowest-behind : (ts : List TableType) (ks : List Kind) → AreLowest pool ts → AreLowest pool (ts ++ map (written_type slots) ks)
  lowest-behind [] ks low = kinds-lowest ks
  lowest-behind (t ∷ ts) ks low = (low.0, lowest-behind ts ks low.1)

  -- local variables, and operands, of which the top is first
  pub all-lowest : (ls stack : List Kind) → AreLowest pool (map (written_type slots) ls ++ reverse (map (written_type slots) stack))
  all-lowest ls stack =
      subst (λ ts. AreLowest pool (map (written_type slots) ls ++ ts)) (map-reversed (written_type slots) stack)
      (lowest-behind (map (written_type slots) ls) (reverse stack) (kinds-lowest ls))

  sound : (slot : ℕ) (k : Kind) → kind_at pool slot ≡ Some k → is_sound (fault_unless bad_table (is_some (kind_at pool slot))) ≡ true
  sound slot k e = ap (λ o. is_sound (fault_unless bad_table (is_some o))) e

  local-fits : (k : Kind) → has_no_long (k ∷ []) ≡ true → (type_at pool Local).fits (written_type slots k) ≡ true
  unfolding type_at
  local-fits kinds.Top h = refl
  local-fits kinds.Int h = refl
  local-fits kinds.Long h = absurd (false≢true h)
  local-fits kinds.Null h = refl
  local-fits kinds.Ints h = and_from _ _ refl (and_from _ _ (lt-ltb slots.ints (2 ^ 16) wide.ints) (sound slots.ints kinds.Ints refs.ints.is))
  local-fits kinds.Pages h = and_from _ _ refl (and_from _ _ (lt-ltb slots.pages (2 ^ 16) wide.pages) (sound slots.pages kinds.Pages refs.pages.is))
  local-fits kinds.Text h = and_from _ _ refl (and_from _ _ (lt-ltb slots.text (2 ^ 16) wide.text) (sound slots.text kinds.Text refs.text.is))

  operand-fits : (k : Kind) → no_top (k ∷ []) ≡ true → (type_at pool Operand).fits (written_type slots k) ≡ true
  unfolding type_at
  operand-fits kinds.Top h = absurd (false≢true h)
  operand-fits kinds.Int h = refl
  operand-fits kinds.Long h = refl
  operand-fits kinds.Null h = refl
  operand-fits kinds.Ints h = and_from _ _ refl (and_from _ _ (lt-ltb slots.ints (2 ^ 16) wide.ints) (sound slots.ints kinds.Ints refs.ints.is))
  operand-fits kinds.Pages h = and_from _ _ refl (and_from _ _ (lt-ltb slots.pages (2 ^ 16) wide.pages) (sound slots.pages kinds.Pages refs.pages.is))
  operand-fits kinds.Text h = and_from _ _ refl (and_from _ _ (lt-ltb slots.text (2 ^ 16) wide.text) (sound slots.text kinds.Text refs.text.is))

  abbrev all_fit : Place → List TableType → Bool
  all_fit place types = chain_fits {S = Unit {0}} (λ _ _. type_at pool place) (λ s _. s) tt types

  locals-fit : (ks : List Kind) → has_no_long ks ≡ true → all_fit Local (map (written_type slots) ks) ≡ true
  locals-fit [] h = refl
  locals-fit (k ∷ ks) h = let p = first-local k ks h in and_from _ _ (local-fits k p.0) (locals-fit ks p.1)

  operands-fit : (ks : List Kind) → no_top ks ≡ true → all_fit Operand (map (written_type slots) ks) ≡ true
  operands-fit [] h = refl
  operands-fit (k ∷ ks) h = let p = typed-split k ks h in and_from _ _ (operand-fits k p.0) (operands-fit ks p.1)

-- ---- lists

pub short-behind : (ks os : List Kind) → has_no_long (ks ++ os) ≡ true → has_no_long os ≡ true
short-behind [] os h = h
short-behind (k ∷ ks) os h = short-behind ks os (first-local k (ks ++ os) h).1

typed-append : (ks os : List Kind) → no_top ks ≡ true → no_top os ≡ true → no_top (ks ++ os) ≡ true
typed-append [] os h k = k
typed-append (kinds.Top ∷ ks) os h k = absurd (false≢true h)
typed-append (kinds.Int ∷ ks) os h k = typed-append ks os h k
typed-append (kinds.Long ∷ ks) os h k = typed-append ks os h k
typed-append (kinds.Null ∷ ks) os h k = typed-append ks os h k
typed-append (kinds.Ints ∷ ks) os h k = typed-append ks os h k
typed-append (kinds.Pages ∷ ks) os h k = typed-append ks os h k
typed-append (kinds.Text ∷ ks) os h k = typed-append ks os h k

typed-reverse : (ks : List Kind) → no_top ks ≡ true → no_top (reverse ks) ≡ true
typed-reverse [] h = refl
typed-reverse (k ∷ ks) h =
    let p = typed-split k ks h in
    ap no_top (reverse-append (k ∷ []) ks) ∙ typed-append (reverse ks) (k ∷ []) (typed-reverse ks p.1) p.0

-- ---- the forms of tags

module _ (pool : List Entry) where
  same-form : (d : ℕ) → d < 64 → form pool d ≡ same_frame d
  same-form d h = cond-true (nat_lt d 64) (same_frame d) _ (lt-ltb d 64 h)

  operand-form : (d : ℕ) → d < 64 → form pool (64 + d) ≡ same_with_operand pool d
  operand-form d h =
      let back : 64 + d - 64 ≡ d = omega arith in
      cond-false (nat_lt (64 + d) 64) _ _ (le-ltb (64 + d) 64 (omega arith))
      ∙ (cond-true (nat_lt (64 + d) 128) _ _ (lt-ltb (64 + d) 128 (omega (arith, h))) ∙ ap (λ n. same_with_operand pool n) back)

  chop-form : (n : ℕ) → 1 ≤ n → n ≤ 3 → form pool (251 - n) ≡ chop n
  chop-form zero some few = absurd (omega (arith, some))
  chop-form (suc zero) some few = refl
  chop-form (suc (suc zero)) some few = refl
  chop-form (suc (suc (suc zero))) some few = refl
  chop-form (suc (suc (suc (suc n)))) some few = absurd (omega (arith, few))

  append-form : (ts : List TableType) → 1 ≤ length ts → length ts ≤ 3 → form pool (251 + length ts) ≡ append pool (length ts)
  append-form [] some few = absurd (omega (arith, some))
  append-form (a ∷ []) some few = refl
  append-form (a ∷ b ∷ []) some few = refl
  append-form (a ∷ b ∷ c ∷ []) some few = refl
  append-form (a ∷ b ∷ c ∷ d ∷ ts) some few = absurd (omega (arith, few))

  in-frame : (f : TableFrame) (g : Format TableFrame) → frame_tag f < 256 → form pool (frame_tag f) ≡ g → g.fits f ≡ true → (frame pool).fits f ≡ true
  unfolding frame
  in-frame f g small is h = and_from _ _ (lt-ltb (frame_tag f) 256 small) (ap (λ x. x.fits f) is ∙ h)

  itself : {A : Type 0} (f : Format A) (n : ℕ) (x : A) → fits_by f (if eqb n n then Some x else None) ≡ f.fits x
  itself f n x = ap (λ b. fits_by f (if b then Some x else None)) (eq-eqb n n refl)

  delta-fits : (d : ℕ) → d < 2 ^ 16 → delta.fits d ≡ true
  delta-fits d h = lt-ltb d (2 ^ 16) h

  -- ---- frames

  pub gives-same : (before ls stack : List Kind) (d : ℕ) → d < 64 → ls ≡ before → stack ≡ [] → Gives pool before d ls stack (Same d)
  gives-same before ls stack d near is none = record {
    fits = in-frame (Same d) (same_frame d) (omega (arith, near)) (same-form d near) (itself nothing d tt);
    rises = refl;
    has_locals = ap (λ x. Some x) (sym is);
    has_operands = sym none;
  }

  pub gives-extended : (before ls stack : List Kind) (d : ℕ) → d < 2 ^ 16 → ls ≡ before → stack ≡ [] → Gives pool before d ls stack (SameExtended d)
  gives-extended before ls stack d wide is none = record {
    fits = in-frame (SameExtended d) same_extended (omega arith) refl (delta-fits d wide);
    rises = refl;
    has_locals = ap (λ x. Some x) (sym is);
    has_operands = sym none;
  }

  pub gives-chop : (before ls dropped stack : List Kind) (d : ℕ) → d < 2 ^ 16 → before ≡ ls ++ dropped → 1 ≤ length dropped → length dropped ≤ 3 → stack ≡ [] → Gives pool before d ls stack (Chop d (length dropped))
  gives-chop before ls dropped stack d wide is some few none =
      let long : length before ≡ length ls + length dropped = ap length is ∙ length-append ls dropped in
      let left : length before - length dropped ≡ length ls = omega (arith, long) in
      record {
        fits = in-frame (Chop d (length dropped)) (chop (length dropped)) (omega arith) (chop-form (length dropped) some few) (itself delta (length dropped) d ∙ delta-fits d wide);
        rises = refl;
        has_locals =
            ap (λ b. if b then Some (take (length before - length dropped) before) else None) (le-leb (length dropped) (length before) (omega (arith, long)))
            ∙ ap (λ x. Some x) (ap (λ n. take n before) left ∙ (ap (take (length ls)) is ∙ take-append_seam ls dropped));
        has_operands = sym none;
      }

  module _ (slots : ReferenceSlots) (refs : AreReferences pool slots) (wide-slots : AreWide slots) where
    abbrev written : List Kind → List TableType
    written ks = map (written_type slots) ks

    pub gives-operand : (before ls : List Kind) (k : Kind) (d : ℕ) → d < 64 → ls ≡ before → no_top (k ∷ []) ≡ true → Gives pool before d ls (k ∷ []) (SameWithOperand d (written_type slots k))
    gives-operand before ls k d near is typed = record {
      fits = in-frame (SameWithOperand d (written_type slots k)) (same_with_operand pool d) (omega (arith, near)) (operand-form d near) (itself (type_at pool Operand) d (written_type slots k) ∙ operand-fits pool slots refs wide-slots k typed);
      rises = refl;
      has_locals = ap (λ x. Some x) (sym is);
      has_operands = ap (λ x. x ∷ []) (kind-written pool slots refs wide-slots k);
    }

    pub gives-operand-extended : (before ls : List Kind) (k : Kind) (d : ℕ) → d < 2 ^ 16 → ls ≡ before → no_top (k ∷ []) ≡ true → Gives pool before d ls (k ∷ []) (SameWithOperandExtended d (written_type slots k))
    gives-operand-extended before ls k d wide is typed = record {
      fits = in-frame (SameWithOperandExtended d (written_type slots k)) (same_with_operand_extended pool) (omega arith) refl (and_from (delta.fits d) _ (delta-fits d wide) (operand-fits pool slots refs wide-slots k typed));
      rises = refl;
      has_locals = ap (λ x. Some x) (sym is);
      has_operands = ap (λ x. x ∷ []) (kind-written pool slots refs wide-slots k);
    }

    pub gives-append : (before ls added stack : List Kind) (d : ℕ) → d < 2 ^ 16 → ls ≡ before ++ added → 1 ≤ length added → length added ≤ 3 → has_no_long added ≡ true → stack ≡ [] → Gives pool before d ls stack (Append d (written added))
    gives-append before ls added stack d wide is some few short none =
        let n : length (written added) ≡ length added = length-map added (written_type slots) in
        record {
          fits = in-frame (Append d (written added)) (append pool (length (written added))) (omega (arith, n, few)) (append-form (written added) (omega (arith, n, some)) (omega (arith, n, few)))
              (and_from (delta.fits d) _ (delta-fits d wide) (and_from _ _ (eq-eqb (length (written added)) (length (written added)) refl) (locals-fit pool slots refs wide-slots added short)));
          rises = refl;
          has_locals = ap (λ x. Some (before ++ x)) (kinds-written pool slots refs wide-slots added) ∙ ap (λ x. Some x) (sym is);
          has_operands = sym none;
        }

    counted-fits : (place : Place) (ts : List TableType) → length ts < 2 ^ 16 → chain_fits {S = Unit {0}} (λ _ _. type_at pool place) (λ s _. s) tt ts ≡ true → (counted bad_table w16 (type_at pool place)).fits ts ≡ true
    counted-fits place ts less h = and_from _ _ (lt-ltb (length ts) (2 ^ 16) less) (and_from _ _ (eq-eqb (length ts) (length ts) refl) h)

    pub gives-full : (before ls stack : List Kind) (d : ℕ) → d < 2 ^ 16 → length ls < 2 ^ 16 → length stack < 2 ^ 16 → has_no_long ls ≡ true → no_top stack ≡ true → Gives pool before d ls stack (Full d (written ls) (reverse (written stack)))
    gives-full before ls stack d wide few few-operands short typed =
        let turned : reverse (written stack) ≡ written (reverse stack) = sym (map-reversed (written_type slots) stack) in
        let n : length (written ls) ≡ length ls = length-map ls (written_type slots) in
        let m : length (written (reverse stack)) ≡ length stack = length-map (reverse stack) (written_type slots) ∙ length-reverse stack in
        let os : (counted bad_table w16 (type_at pool Operand)).fits (written (reverse stack)) ≡ true = counted-fits Operand (written (reverse stack)) (omega (arith, m, few-operands)) (operands-fit pool slots refs wide-slots (reverse stack) (typed-reverse stack typed)) in
        record {
          fits = in-frame (Full d (written ls) (reverse (written stack))) (full pool) (omega arith) refl
              (and_from (delta.fits d) _ (delta-fits d wide)
              (and_from _ _ (counted-fits Local (written ls) (omega (arith, n, few)) (locals-fit pool slots refs wide-slots ls short))
              (ap (λ x. (counted bad_table w16 (type_at pool Operand)).fits x) turned ∙ os)));
          rises = refl;
          has_locals = ap (λ x. Some x) (kinds-written pool slots refs wide-slots ls);
          has_operands =
              ap (λ x. reverse (map (table_kind pool) x)) turned
              ∙ (ap reverse (kinds-written pool slots refs wide-slots (reverse stack)) ∙ reverse-reverse stack);
        }
