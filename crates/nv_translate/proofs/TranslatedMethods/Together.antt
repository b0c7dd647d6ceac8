-- All classes of a translation.
use Rattle.std.proofs.Common.{◌≡◌, ℕ, zero, suc, ◌+◌, ◌*◌, ◌<◌, ◌≤◌, ◌==◌, inl, inr, ◌⊎◌, Bool, true, false, if◌then◌else◌, List, [], ◌∷◌, ◌++◌, length, slice_get, Option, Some, All, refl, ap, ◌∙◌, arith, eq-eqb, ne_eqb}
use Rattle.std.specs.List.{AllZip, AllByRecursion}
use Rattle.std.proofs.lemmas.List.{length-append}
use Rattle.std.proofs.lemmas.List.Elements.{All-nil, All-cons}
use Rattle.delay_slots.specs.Units.{units_of}
use Rattle.delay_slots.specs.Turns.{HasRange}
use Rattle.jvm_definition.specs.Program.{Program}
use Rattle.emit_layout.specs.Numbers.{missing_number}
use Rattle.trampoline.specs.declared.start.Start.{Start}
use Rattle.emit_program_laws.specs.TrampolineLaws.Classes.{CodeClass, HasClass, AreNumbered, AreOrdered, GoesOn, address, end_of, is_last, run_of, class_starts, starts_of}
use Rattle.emit_program_laws.specs.TrampolineLaws.Programs.{IsInClass}
use Rattle.translate_classes.specs.Code as codes
use Rattle.translate_program.specs.Places.{Place}
use Rattle.translate_program.specs.Classes as files
use Rattle.translate_program.specs.Classes.{Placed, IsPlaced, Follow}
use Rattle.nv_translate.specs.Linked.{HasCodeClass}
use Rattle.nv_translate.specs.Standing.{class_of, IsClassOf}
use Rattle.nv_translate.proofs.TranslatedMethods.Places.{IsGood, Ends, GoesOnIn, BeginsBehind, AreRising}
use Rattle.nv_translate.proofs.TranslatedMethods.Words.{IsAtPlace}
use Rattle.nv_translate.proofs.TranslatedMethods.Classes.{class, count, has-class, has-range}

long-units : (words : List ℕ) → length (units_of words) ≡ length words
long-units [] = refl
long-units (w ∷ words) = ap suc (long-units words)

module _ (metered : Bool) (code : ℕ → Option ℕ) (method_bytes : ℕ) where
  abbrev pub classes_of : (places : List Place) (placed : List Placed) → AllZip (IsPlaced metered code method_bytes) places placed → List CodeClass
  classes_of [] [] are = []
  classes_of [] (c ∷ placed) are = []
  classes_of (p ∷ places) [] are = []
  classes_of (p ∷ places) (c ∷ placed) are = class_of c are.0.part_is.range_is.words ∷ classes_of places placed are.1

  pub are-classes : (places : List Place) (placed : List Placed) (are : AllZip (IsPlaced metered code method_bytes) places placed)
      → AllZip IsClassOf placed (classes_of places placed are)
  are-classes [] [] are = tt
  are-classes [] (c ∷ placed) are = absurd are
  are-classes (p ∷ places) [] are = absurd are
  are-classes (p ∷ places) (c ∷ placed) are =
      (record { is = refl; units_are = are.0.part_is.range_is.units_are }, are-classes places placed are.1)

  -- ---- each stands

  pub have-classes : (program : Program) → 4096 ≤ method_bytes → (places : List Place) (placed : List Placed) (are : AllZip (IsPlaced metered code method_bytes) places placed)
      → AllByRecursion (IsGood code) places → ((i : ℕ) (c : Placed) → slice_get placed i ≡ Some c → HasCodeClass program c)
      → All (HasClass program) (classes_of places placed are)
  have-classes program large [] [] are good has = All-nil (HasClass program)
  have-classes program large [] (c ∷ placed) are good has = absurd are
  have-classes program large (p ∷ places) [] are good has = absurd are
  have-classes program large (p ∷ places) (c ∷ placed) are good has =
      All-cons (HasClass program) (class code method_bytes p c are.0 good.0) (classes_of places placed are.1)
      (has-class code method_bytes p c are.0 good.0 program (has 0 c refl) large)
      (have-classes program large places placed are.1 good.1 (λ i d at. has (suc i) d at))

  pub are-metered : (places : List Place) (placed : List Placed) (are : AllZip (IsPlaced metered code method_bytes) places placed)
      → All (λ (c : CodeClass). c.metered ≡ metered) (classes_of places placed are)
  are-metered [] [] are = All-nil (λ (c : CodeClass). c.metered ≡ metered)
  are-metered [] (c ∷ placed) are = absurd are
  are-metered (p ∷ places) [] are = absurd are
  are-metered (p ∷ places) (c ∷ placed) are =
      All-cons (λ (c : CodeClass). c.metered ≡ metered) (class_of c are.0.part_is.range_is.words) (classes_of places placed are.1) are.0.metered_is
      (are-metered places placed are.1)

  pub have-ranges : (places : List Place) (placed : List Placed) (are : AllZip (IsPlaced metered code method_bytes) places placed)
      → AllByRecursion (IsGood code) places → All (λ (c : CodeClass). HasRange code c.start c.words) (classes_of places placed are)
  have-ranges [] [] are good = All-nil (λ (c : CodeClass). HasRange code c.start c.words)
  have-ranges [] (c ∷ placed) are good = absurd are
  have-ranges (p ∷ places) [] are good = absurd are
  have-ranges (p ∷ places) (c ∷ placed) are good =
      All-cons (λ (c : CodeClass). HasRange code c.start c.words) (class code method_bytes p c are.0 good.0) (classes_of places placed are.1)
      (has-range code method_bytes p c are.0 good.0) (have-ranges places placed are.1 good.1)

  -- ---- they are as many as the places

  pub as-many : (places : List Place) (placed : List Placed) (are : AllZip (IsPlaced metered code method_bytes) places placed)
      → length (classes_of places placed are) ≡ length places
  as-many [] [] are = refl
  as-many [] (c ∷ placed) are = absurd are
  as-many (p ∷ places) [] are = absurd are
  as-many (p ∷ places) (c ∷ placed) are = ap suc (as-many places placed are.1)

  -- ---- their numbers rise

  pub numbered : (places : List Place) (placed : List Placed) (are : AllZip (IsPlaced metered code method_bytes) places placed) (number first : ℕ)
      → Follow number first placed → AreNumbered first (classes_of places placed are)
  numbered [] [] are number first follow = tt
  numbered [] (c ∷ placed) are number first follow = absurd are
  numbered (p ∷ places) [] are number first follow = absurd are
  numbered (p ∷ places) (c ∷ placed) are number first follow =
      (omega (arith, follow.1), numbered places placed are.1 (number + 1) (files.run_of c + 1) follow.2)

  -- ---- they stand in order

  last-if : (p : Place) (c : Placed) (is : IsPlaced metered code method_bytes p c) → IsGood code p → Ends p → is_last (class_of c is.part_is.range_is.words) ≡ true
  last-if p c is good ends =
      let part = is.part_is in
      eq-eqb (c.part.first + c.part.words) (length part.range_is.words)
      (omega (arith, part.first_is, part.words_are, count code method_bytes p c is good, ends))

  inner-if : (p : Place) (c : Placed) (is : IsPlaced metered code method_bytes p c) → IsGood code p → p.share.first + p.share.count < p.range.words
      → is_last (class_of c is.part_is.range_is.words) ≡ false
  inner-if p c is good more =
      let part = is.part_is in
      let long = count code method_bytes p c is good in
      ne_eqb (c.part.first + c.part.words) (length part.range_is.words)
      (λ same. omega (arith, part.first_is, part.words_are, long, more, same))

  goes-on : (p q : Place) (c d : Placed) (is : IsPlaced metered code method_bytes p c) (next : IsPlaced metered code method_bytes q d) → IsGood code p
      → GoesOnIn p q ⊎ BeginsBehind p q → GoesOn (class_of c is.part_is.range_is.words) (class_of d next.part_is.range_is.words)
  goes-on p q c d is next good (inl goes) =
      let a = is.part_is in
      let b = next.part_is in
      let same : q.range.first ≡ p.range.first = ap (λ r. r.first) goes.same in
      let inner = inner-if p c is good goes.more in
      record {
        same_range = λ no. omega (arith, a.start_is, a.first_is, a.words_are, b.start_is, b.first_is, goes.first, same);
        next_range = λ last. absurd (cc);
      }
  goes-on p q c d is next good (inr begins) =
      let a = is.part_is in
      let b = next.part_is in
      let last = last-if p c is good begins.ends in
      record {
        same_range = λ inner. absurd (cc);
        next_range = λ yes. omega (arith, a.start_is, a.first_is, a.words_are, b.start_is, b.first_is, begins.ends, begins.behind, begins.first);
      }

  pub ordered : (places : List Place) (placed : List Placed) (are : AllZip (IsPlaced metered code method_bytes) places placed)
      → AllByRecursion (IsGood code) places → AreRising places → AreOrdered (classes_of places placed are)
  ordered [] [] are good rising = tt
  ordered [] (c ∷ placed) are good rising = absurd are
  ordered (p ∷ places) [] are good rising = absurd are
  ordered (p ∷ []) (c ∷ []) are good rising = last-if p c are.0 good.0 rising
  ordered (p ∷ []) (c ∷ d ∷ placed) are good rising = absurd are.1
  ordered (p ∷ q ∷ places) (c ∷ []) are good rising = absurd are.1
  ordered (p ∷ q ∷ places) (c ∷ d ∷ placed) are good rising =
      (goes-on p q c d are.0 are.1.0 good.0 rising.0, ordered (q ∷ places) (d ∷ placed) are.1 good.1 rising.1)

  -- ---- where they begin

  starts-one : (p : Place) (c : Placed) (is : IsPlaced metered code method_bytes p c)
      → files.starts_of_class c ≡ class_starts missing_number (class_of c is.part_is.range_is.words)
  starts-one p c is =
      let long : length c.part.units.now ≡ length is.part_is.range_is.words = ap length is.part_is.range_is.units_are ∙ long-units is.part_is.range_is.words in
      ap (λ (n : ℕ). record { first = codes.address c.part 0; method = files.run_of c }
      ∷ (if c.part.first + c.part.words == n then record { first = codes.address c.part c.part.words; method = missing_number } ∷ [] else [])) long

  pub starts-are : (places : List Place) (placed : List Placed) (are : AllZip (IsPlaced metered code method_bytes) places placed)
      → files.starts_of placed ≡ starts_of missing_number (classes_of places placed are)
  starts-are [] [] are = refl
  starts-are [] (c ∷ placed) are = absurd are
  starts-are (p ∷ places) [] are = absurd are
  starts-are (p ∷ places) (c ∷ placed) are =
      ap (λ l. l ++ files.starts_of placed) (starts-one p c are.0)
      ∙ ap (λ l. class_starts missing_number (class_of c are.0.part_is.range_is.words) ++ l) (starts-are places placed are.1)

  -- ---- they have all words

  next-class : (c : CodeClass) (classes : List CodeClass) (a : ℕ) → IsInClass classes a → IsInClass (c ∷ classes) a
  next-class c classes a at = record {
    number = suc at.number;
    class = at.class;
    there = at.there;
    word = at.word;
    below = at.below;
    is_there = at.is_there;
  }

  in-first : (p : Place) (c : Placed) (is : IsPlaced metered code method_bytes p c) (classes : List CodeClass) (q : Place) (a word : ℕ) → p ≡ q → word < q.share.count
      → a ≡ q.range.first + 4 * (q.share.first + word) → IsInClass (class_of c is.part_is.range_is.words ∷ classes) a
  in-first p c is classes q a word same below is_there =
      let part = is.part_is in
      let start : p.range.first ≡ q.range.first = ap (λ r. r.range.first) same in
      let first : p.share.first ≡ q.share.first = ap (λ r. r.share.first) same in
      let words : p.share.count ≡ q.share.count = ap (λ r. r.share.count) same in
      record {
        number = 0;
        class = class_of c is.part_is.range_is.words;
        there = refl;
        word = word;
        below = omega (arith, part.words_are, words, below);
        is_there = omega (arith, part.start_is, part.first_is, start, first, is_there);
      }

  in-class : (places : List Place) (placed : List Placed) (are : AllZip (IsPlaced metered code method_bytes) places placed) (number : ℕ) (q : Place) (a word : ℕ)
      → slice_get places number ≡ Some q → word < q.share.count → a ≡ q.range.first + 4 * (q.share.first + word)
      → IsInClass (classes_of places placed are) a
  in-class [] placed are number q a word at below is_there = absurd (cc)
  in-class (p ∷ places) [] are number q a word at below is_there = absurd are
  in-class (p ∷ places) (c ∷ placed) are zero q a word at below is_there =
      let same : p ≡ q = cc in in-first p c are.0 (classes_of places placed are.1) q a word same below is_there
  in-class (p ∷ places) (c ∷ placed) are (suc number) q a word at below is_there =
      next-class (class_of c are.0.part_is.range_is.words) (classes_of places placed are.1) a
      (in-class places placed are.1 number q a word at below is_there)

  pub has-words : (places : List Place) (placed : List Placed) (are : AllZip (IsPlaced metered code method_bytes) places placed) (a : ℕ)
      → IsAtPlace places a → IsInClass (classes_of places placed are) a
  has-words places placed are a at = in-class places placed are at.number at.place a at.word at.there at.below at.is_there

-- a class has one start or two
one-or-two : (missing : ℕ) (c : CodeClass) (last : Bool)
    → length {A = Start} (record { first = address c 0; method = run_of c } ∷ (if last then record { first = end_of c; method = missing } ∷ [] else [])) ≤ 2
one-or-two missing c true = omega arith
one-or-two missing c false = omega arith

pub few-starts : (missing : ℕ) (classes : List CodeClass) → length (starts_of missing classes) ≤ 2 * length classes
few-starts missing [] = omega arith
few-starts missing (c ∷ classes) =
    let own : length (class_starts missing c) ≤ 2 = one-or-two missing c (is_last c) in
    omega (arith, length-append (class_starts missing c) (starts_of missing classes), own, few-starts missing classes)
