-- What is made of a few formats is a format.
use Rattle.std.proofs.Common.{◌≡◌, ℕ, ◌+◌, ◌&&◌, Bool, true, false, cond, eqb, List, [], ◌∷◌, ◌++◌, length, Option, Some, None, Result, Ok, Err, refl, sym, ap, subst, ◌∙◌}
use Rattle.std.specs.Int.{Width, w8}
use Rattle.std.proofs.lemmas.Bool.{and_parts, and_from, eqb-true}
use Rattle.std.proofs.lemmas.List.{append-nil, nil_from_length}
use Rattle.class_definition.specs.declared.miss.Miss.{Miss}
use Rattle.class_definition.specs.Format.{Format, Reading, ◌>>=◌, number_format, both, repeated, mapped, is_sound, tested, fault_unless, refused_format, exactly, behind, before, headed, counted, found, parsed_format, FormatRow, form_by_tag, tagged, whole, read_then_end, ended}
use Rattle.class_definition.specs.Spelling.{IsBytes, Begins, IsFormat, SpellsBy}
use Rattle.class_format.proofs.Readings.{same_value, went_on}
use Rattle.class_format.proofs.FieldLaws.{IsWide, wide8, number_law, refused_law}
use Rattle.class_format.proofs.Combined.{both_law, repeated_law, mapped_law, tested_law}

-- a test that passes
pub passes : (kind : ℕ) (b : Bool) → is_sound (fault_unless kind b) ≡ true → b ≡ true
passes kind true e = refl
passes kind false e = absurd cc

passed : (kind : ℕ) (b : Bool) → b ≡ true → is_sound (fault_unless kind b) ≡ true
passed kind true e = refl
passed kind false e = absurd cc

is_exactly : (cut : ℕ) (w : Width) (kind n m : ℕ) → (tested kind (λ k. eqb k n) (number_format cut w)).fits m ≡ true → Some n ≡ Some m
is_exactly cut w kind n m e =
    let p = and_parts ((number_format cut w).fits m) (is_sound (fault_unless kind (eqb m n))) e in
    ap (λ (k : ℕ). Some k) (sym (eqb-true _ _ (passes kind (eqb m n) p.1)))

pub exactly_law : (cut : ℕ) (w : Width) (kind n : ℕ) → IsWide w → IsFormat (exactly cut w kind n)
exactly_law cut w kind n wide =
    mapped_law (λ _. tt) (λ _. Some n) (tested kind (λ k. eqb k n) (number_format cut w)) (tested_law kind (λ k. eqb k n) (number_format cut w) (number_law cut w wide))
    (record { back_of = λ m e. is_exactly cut w kind n m e; made_of = λ a b e. refl })

abbrev paired : {A B : Type 0} → A → B × List ℕ → Reading (A × B)
paired a b = Ok ((a, b.0), b.1)

abbrev second : {A B : Type 0} → Reading (A × B) → Reading B
second {A} {B} r = ◌>>=◌ {A = A × B} r (λ b. Ok (b.0.1, b.1))

abbrev first : {A B : Type 0} → Reading (A × B) → Reading A
first {A} {B} r = ◌>>=◌ {A = A × B} r (λ b. Ok (b.0.0, b.1))

second_of : {A B : Type 0} (a : A) (r : Reading B) → r ≡ second (r >>= λ b. paired a b)
second_of a (Ok b) = refl
second_of a (Err m) = refl

first_of_two : {A : Type 0} (a : A) (r : Reading (Unit {0})) → (r >>= λ u. Ok (a, u.1)) ≡ first (r >>= λ b. paired a b)
first_of_two a (Ok b) = refl
first_of_two a (Err m) = refl

-- another way to read the same
reread : {A : Type 0} (f : Format A) (read : List ℕ → Reading A) → IsFormat f → ((bytes : List ℕ) → read bytes ≡ f.read bytes) → IsFormat (record { spell = f.spell; fits = f.fits; read = read })
reread f read law same = record {
  back = λ a rest e. same (f.spell a ++ rest) ∙ law.back a rest e;
  taken = λ bytes a rest h e. let t = law.taken bytes a rest h (sym (same bytes) ∙ e) in record { fits = t.fits; spelled = t.spelled };
}

second_only : {A B : Type 0} (r : Reading A) (g : A × List ℕ → Reading B) → (r >>= g) ≡ second (r >>= λ a. g a >>= λ b. paired a.0 b)
second_only (Ok a) g = second_of a.0 (g a)
second_only (Err m) g = refl

first_only : {A : Type 0} (r : Reading A) (g : A × List ℕ → Reading (Unit {0})) → (r >>= λ a. g a >>= λ u. Ok (a.0, u.1)) ≡ first (r >>= λ a. g a >>= λ b. paired a.0 b)
first_only (Ok a) g = first_of_two a.0 (g a)
first_only (Err m) g = refl

pub behind_law : {A : Type 0} (c : Format (Unit {0})) (f : Format A) → IsFormat c → IsFormat f → IsFormat (behind c f)
behind_law c f one two =
    reread (mapped (λ x. x.1) (λ a. Some (tt, a)) (both c (λ _. f))) (behind c f).read
    (mapped_law (λ x. x.1) (λ a. Some (tt, a)) (both c (λ _. f)) (both_law c (λ _. f) one (λ _. two)) (record { back_of = λ b e. refl; made_of = λ a b e. cc }))
    (λ bytes. second_only (c.read bytes) (λ u. f.read u.1))

pub before_law : {A : Type 0} (f : Format A) (c : Format (Unit {0})) → IsFormat f → IsFormat c → IsFormat (before f c)
before_law f c one two =
    reread (mapped (λ x. x.0) (λ a. Some (a, tt)) (both f (λ _. c))) (before f c).read
    (mapped_law (λ x. x.0) (λ a. Some (a, tt)) (both f (λ _. c)) (both_law f (λ _. c) one (λ _. two)) (record { back_of = λ b e. refl; made_of = λ a b e. cc }))
    (λ bytes. first_only (f.read bytes) (λ a. c.read a.1))

-- ---- behind a number

-- each value has the number that it stands behind
pub headed_law : {A : Type 0} (n : Format ℕ) (number_of : A → ℕ) (f : ℕ → Format A) → IsFormat n → ((k : ℕ) → IsFormat (f k))
    → ((k : ℕ) (a : A) → n.fits k ≡ true → (f k).fits a ≡ true → number_of a ≡ k) → IsFormat (headed n number_of f)
headed_law {A} n number_of f one two is =
    reread (mapped (λ x. x.1) (λ a. Some (number_of a, a)) (both n f)) (headed n number_of f).read
    (mapped_law (λ x. x.1) (λ a. Some (number_of a, a)) (both n f) (both_law n f one two)
    (record { back_of = λ b e. ap (λ (k : ℕ). Some (k, b.1)) (is b.0 b.1 (and_parts (n.fits b.0) ((f b.0).fits b.1) e).0 (and_parts (n.fits b.0) ((f b.0).fits b.1) e).1); made_of = λ a b e. cc }))
    (λ bytes. second_only (n.read bytes) (λ x. (f x.0).read x.1))

pub counted_law : {A : Type 0} (cut : ℕ) (w : Width) (f : Format A) → IsWide w → IsFormat f → IsFormat (counted cut w f)
counted_law {A} cut w f wide law =
    headed_law (number_format cut w) (λ (xs : List A). length xs) (repeated f) (number_law cut w wide) (λ n. repeated_law f n law)
    (λ n xs _ e. eqb-true _ _ (and_parts (eqb (length xs) n) _ e).0)

-- ---- parsed

-- parse finds what print writes, and nothing else
pub record IsParser {A B : Type 0} (parse : B → Option A) (test : A → Bool) (print : A → B) : Type 0 where
  pub finds : (a : A) → test a ≡ true → parse (print a) ≡ Some a
  pub found_is : (b : B) (a : A) → parse b ≡ Some a → (test a ≡ true) × (print a ≡ b)

found_ok : {A : Type 0} (kind left : ℕ) (o : Option A) (rest : List ℕ) (y : A × List ℕ) → found kind left o rest ≡ Ok y → (a : A) × (o ≡ Some a) × ((a, rest) ≡ y)
found_ok kind left None rest y e = absurd cc
found_ok kind left (Some a) rest y e = (a, refl, same_value {E = Miss} (a, rest) y e)

parsed_taken : {A B : Type 0} (kind back : ℕ) (parse : B → Option A) (test : A → Bool) (print : A → B) (f : Format B) → IsFormat f → IsParser parse test print
    → (bytes : List ℕ) (a : A) (rest : List ℕ) → IsBytes bytes → (parsed_format kind back parse test print f).read bytes ≡ Ok (a, rest) → Begins (parsed_format kind back parse test print f) bytes a rest
parsed_taken {A} kind back parse test print f law is bytes a rest h e =
    let p = went_on (f.read bytes) (λ b. found kind (length bytes + back) (parse b.0) b.1) (a, rest) e in
    let q = found_ok kind (length bytes + back) (parse p.0.0) p.0.1 (a, rest) p.2 in
    let t = law.taken bytes p.0.0 p.0.1 h p.1 in
    let r = is.found_is p.0.0 q.0 q.1 in
    let P : A × List ℕ → Type 0 = λ y. Begins (parsed_format kind back parse test print f) bytes y.0 y.1 in
    subst P q.2 (record { fits = and_from _ _ (rw r.1 t.fits) r.0; spelled = rw r.1 t.spelled })

parsed_back : {A B : Type 0} (kind back : ℕ) (parse : B → Option A) (test : A → Bool) (print : A → B) (f : Format B) → IsFormat f → IsParser parse test print
    → (a : A) (rest : List ℕ) → (parsed_format kind back parse test print f).fits a ≡ true → (parsed_format kind back parse test print f).read (f.spell (print a) ++ rest) ≡ Ok (a, rest)
parsed_back kind back parse test print f law is a rest e =
    let p = and_parts (f.fits (print a)) (test a) e in
    rw (law.back (print a) rest p.0, is.finds a p.1) refl

pub parsed_law : {A B : Type 0} (kind back : ℕ) (parse : B → Option A) (test : A → Bool) (print : A → B) (f : Format B) → IsFormat f → IsParser parse test print → IsFormat (parsed_format kind back parse test print f)
parsed_law kind back parse test print f law is = record { back = parsed_back kind back parse test print f law is; taken = parsed_taken kind back parse test print f law is }

-- ---- forms behind a tag

-- a row's form is a format, of values with the row's tag
pub record IsRow {A : Type 0} (tag_of : A → ℕ) (row : FormatRow A) : Type 0 where
  pub law : IsFormat row.form
  pub tag : (a : A) → row.form.fits a ≡ true → tag_of a ≡ row.tag

abbrev pub AreRows : {A : Type 0} → (A → ℕ) → List (FormatRow A) → Type 0
AreRows tag_of [] = Unit {0}
AreRows tag_of (row ∷ rows) = IsRow tag_of row × AreRows tag_of rows

form_law : {A : Type 0} (kind : ℕ) (tag_of : A → ℕ) (rows : List (FormatRow A)) → AreRows tag_of rows → (tag : ℕ) → IsFormat (form_by_tag kind rows tag)
form_law kind tag_of [] is tag = refused_law kind 1
form_law kind tag_of (row ∷ rows) is tag =
    elim (eqb row.tag tag) as (λ b. IsFormat (cond b row.form (form_by_tag kind rows tag))) [ true ↦ is.0.law | false ↦ form_law kind tag_of rows is.1 tag ]

tag_is : {A : Type 0} (kind : ℕ) (tag_of : A → ℕ) (rows : List (FormatRow A)) → AreRows tag_of rows → (tag : ℕ) (a : A) → (form_by_tag kind rows tag).fits a ≡ true → tag_of a ≡ tag
tag_is kind tag_of [] is tag a e = absurd cc
tag_is kind tag_of (row ∷ rows) is tag a e =
    (elim (eqb row.tag tag) as (λ b. eqb row.tag tag ≡ b → (cond b row.form (form_by_tag kind rows tag)).fits a ≡ true → tag_of a ≡ tag) [
      | true ↦ λ same fits. is.0.tag a fits ∙ eqb-true _ _ same
      | false ↦ λ other fits. tag_is kind tag_of rows is.1 tag a fits
    ]) refl e

pub tagged_law : {A : Type 0} (cut kind : ℕ) (tag_of : A → ℕ) (rows : List (FormatRow A)) → AreRows tag_of rows → IsFormat (tagged cut kind tag_of rows)
tagged_law cut kind tag_of rows is =
    headed_law (number_format cut w8) tag_of (form_by_tag kind rows) (number_law cut w8 wide8) (form_law kind tag_of rows is) (λ t a _ e. tag_is kind tag_of rows is t a e)

-- ---- from the first byte to the last

passed_end : {A : Type 0} (b : Bool) (x a : A) (m : Miss) → cond b (Ok x) (Err m) ≡ Ok a → (b ≡ true) × (x ≡ a)
passed_end true x a m e = (refl, same_value {E = Miss} x a e)
passed_end false x a m e = absurd cc

ended_ok : {A : Type 0} (kind : ℕ) (x : A × List ℕ) (a : A) → ended kind x ≡ Ok a → (x.1 ≡ []) × (x.0 ≡ a)
ended_ok kind x a e =
    let p = passed_end (eqb (length x.1) 0) x.0 a (record { kind = kind; left = length x.1 }) e in
    (nil_from_length x.1 (eqb-true _ _ p.0), p.1)

read_then_end_ok : {A : Type 0} (kind : ℕ) (r : Reading A) (a : A) → read_then_end kind r ≡ Ok a → r ≡ Ok (a, [])
read_then_end_ok {A} kind (Ok x) a e =
    let p = ended_ok kind x a e in
    let same : x ≡ (a, []) = rw (← p.0, ← p.1) refl in
    ap (λ (y : A × List ℕ). Ok y) same
read_then_end_ok kind (Err m) a e = absurd cc

-- what is read of all the bytes is spelled so
pub whole_taken : {A : Type 0} (f : Format A) (kind : ℕ) (bytes : List ℕ) (a : A) → IsFormat f → IsBytes bytes → whole f kind bytes ≡ Ok a → SpellsBy f bytes a
whole_taken f kind bytes a law h e =
    let t = law.taken bytes a [] h (read_then_end_ok kind (f.read bytes) a e) in
    record { fits = t.fits; spelled = t.spelled ∙ append-nil (f.spell a) }

-- what is spelled is read back
pub whole_back : {A : Type 0} (f : Format A) (kind : ℕ) (bytes : List ℕ) (a : A) → IsFormat f → SpellsBy f bytes a → whole f kind bytes ≡ Ok a
whole_back f kind bytes a law s =
    let r : f.read bytes ≡ Ok (a, []) = rw s.spelled (ap f.read (sym (append-nil (f.spell a))) ∙ law.back a [] s.fits) in
    rw r refl
