-- The blocks of a layout, class by class.
use Rattle.std.proofs.Common.{◌≡◌, ℕ, zero, suc, ◌+◌, ◌-◌, ◌<◌, ◌≤◌, Bool, true, inl, inr, List, [], ◌∷◌, map, length, slice_get, Some, refl, sym, ap, subst, ◌∙◌, arith}
use Rattle.std.specs.Prelude.{filter, option_map}
use Rattle.std.specs.List.{flat_map, range_with_len}
use Rattle.std.proofs.lemmas.List.FromFn.{length-map-range_with_len}
use Rattle.std.proofs.lemmas.Option.{slice_get-map}
use Rattle.emit_spans.specs.Pieces.{flagged, all_words}
use Rattle.translate_classes.specs.declared.piece.Piece.{Piece}
use Rattle.translate_classes.specs.Blocks.{has_block, span_words, piece_of, pieces_of_span, pieces_of_class}
use Rattle.translate_program.specs.declared.block_info.BlockInfo.{BlockInfo}
use Rattle.translate_program.specs.Classes.{Placed, Follow, span_info, spans_of_class, spans_of}
use Rattle.translate_program.specs.Blocks.{block_of, blocks_of_class, blocks_of}
use Rattle.nv_translate.proofs.LinkedTranslations.Lists.{mapped-from, range-get, get-either, mapped-get}
use Rattle.nv_translate.proofs.WarmTranslations.Lists.{get-left, get-right, kept, was-kept, joined}

-- ---- lists of lists by numbers

-- a number with an element of its list
pub record IsOfNumber {Y : Type 0} (f : ℕ → List Y) (a n : ℕ) (y : Y) : Type 0 where
  pub number : ℕ
  pub above : a ≤ number
  pub below : number < a + n
  pub inside : ℕ
  pub own : slice_get (f number) inside ≡ Some y

pub of-number : {Y : Type 0} (f : ℕ → List Y) (a n k : ℕ) (y : Y) → slice_get (flat_map f (range_with_len a n)) k ≡ Some y → IsOfNumber f a n y
of-number f a zero k y at = absurd cc
of-number f a (suc n) k y at = elim (get-either (f a) (flat_map f (range_with_len (a + 1) n)) k y at) [
  | inl front ↦ record { number = a; above = omega arith; below = omega arith; inside = k; own = front }
  | inr behind ↦
      let rest = of-number f (a + 1) n behind.0 y behind.2 in
      let above = rest.above in
      let below = rest.below in
      record { number = rest.number; above = omega (arith, above); below = omega (arith, below); inside = rest.inside; own = rest.own }
]

range-from : (a n k x : ℕ) → slice_get (range_with_len a n) k ≡ Some x → (a ≤ x) × (x < a + n)
range-from a zero k x at = absurd cc
range-from a (suc n) zero x at = let same : a ≡ x = cc in (omega (arith, same), omega (arith, same))
range-from a (suc n) (suc k) x at =
    let rest = range-from (a + 1) n k x at in
    let low = rest.0 in
    let high = rest.1 in
    (omega (arith, low), omega (arith, high))

range-at : (a n x : ℕ) → a ≤ x → x < a + n → slice_get (range_with_len a n) (x - a) ≡ Some x
range-at a n x above below =
    let there : a + (x - a) ≡ x = omega (arith, above) in
    subst (λ y. slice_get (range_with_len a n) (x - a) ≡ Some y) there (range-get a n (x - a) (omega (arith, above, below)))

mapped-there : {X Y : Type 0} (f : X → Y) (xs : List X) (i : ℕ) (x : X) → slice_get xs i ≡ Some x → slice_get (map f xs) i ≡ Some (f x)
mapped-there f xs i x at = slice_get-map f xs i ∙ ap (option_map f) at

-- ---- the pieces of a class

module _ (p : Placed) where
  abbrev pub words_of : ℕ → ℕ → Bool
  words_of j = has_block p.part.units.now (flagged p.part.leads.now) (span_words p.part p.spans j)

  -- the piece of a span that begins with a word has a block
  pub record IsPieceAt (j k : ℕ) : Type 0 where
    pub span_below : j < length p.spans
    pub above : (span_words p.part p.spans j).first ≤ k
    pub below : k < (span_words p.part p.spans j).end
    pub has : words_of j k ≡ true

  pub record IsPiece (piece : Piece) : Type 0 where
    pub span : ℕ
    pub word : ℕ
    pub at : IsPieceAt span word
    pub is : piece_of p.part p.spans span word ≡ piece

  piece-from : (i : ℕ) (piece : Piece) → slice_get (pieces_of_class p.part p.spans) i ≡ Some piece → IsPiece piece
  piece-from i piece at =
      let one = of-number (pieces_of_span p.part p.spans) 0 (length p.spans) i piece at in
      let j = one.number in
      let own = span_words p.part p.spans j in
      let from = mapped-from (piece_of p.part p.spans j) (filter (words_of j) (all_words own)) one.inside piece one.own in
      let kept_word = was-kept (words_of j) (all_words own) one.inside from.0 from.1 in
      let within = range-from own.first (own.end - own.first) kept_word.place from.0 kept_word.there in
      let low = within.0 in
      let high = within.1 in
      let below = one.below in
      record {
        span = j;
        word = from.0;
        at = record { span_below = omega (arith, below); above = low; below = omega (arith, low, high); has = kept_word.passes };
        is = from.2;
      }

  -- it is one of the class's blocks, behind so many spans
  piece-there : (before j k : ℕ) → IsPieceAt j k
      → (i : ℕ) × (slice_get (blocks_of_class before p) i ≡ Some (block_of before (piece_of p.part p.spans j k)))
  piece-there before j k at =
      let own = span_words p.part p.spans j in
      let word = range-at own.first (own.end - own.first) k at.above (omega (arith, at.above, at.below)) in
      let found = kept (words_of j) (all_words own) (k - own.first) k word at.has in
      let piece = mapped-there (piece_of p.part p.spans j) (filter (words_of j) (all_words own)) found.0 k found.1 in
      let number = range-at 0 (length p.spans) j (omega arith) (omega (arith, at.span_below)) in
      let all = joined (pieces_of_span p.part p.spans) (range_with_len 0 (length p.spans)) (j - 0) found.0 j (piece_of p.part p.spans j k) number
      piece in
      (all.0, mapped-there (block_of before) (pieces_of_class p.part p.spans) all.0 (piece_of p.part p.spans j k) all.1)

-- ---- those of classes

-- The spans of a class of these begin at a number among all spans, and its blocks are behind those.
pub record StandsAt (code : List Placed) (p : Placed) (spans : ℕ) : Type 0 where
  pub told : (j : ℕ) → j < length p.spans → slice_get (spans_of code) (spans + j) ≡ Some (span_info p.number p.part p.spans j)
  pub blocks : (before i : ℕ) (b : BlockInfo) → slice_get (blocks_of_class (before + spans) p) i ≡ Some b
      → (k : ℕ) × (slice_get (blocks_of before code) k ≡ Some b)
  pub methods : (number first : ℕ) → Follow number first code → p.first_method + number ≡ first + spans + p.number

first-stands : (c : Placed) (code : List Placed) → StandsAt (c ∷ code) c 0
first-stands c code = record {
  told = λ j below.
      let none : 0 + j ≡ j = omega arith in
      ap (slice_get (spans_of (c ∷ code))) none
      ∙ get-left (spans_of_class c) (spans_of code) j (span_info c.number c.part c.spans j)
      (mapped-get (span_info c.number c.part c.spans) (length c.spans) j below);
  blocks = λ before i b at.
      let none : before + 0 ≡ before = omega arith in (
        i,
        get-left (blocks_of_class before c) (blocks_of (before + length c.spans) code) i b
            (subst (λ n. slice_get (blocks_of_class n c) i ≡ Some b) none at),
      );
  methods = λ number first follow. omega (arith, follow.0, follow.1);
}

next-stands : (c : Placed) (code : List Placed) (p : Placed) (spans : ℕ) → StandsAt code p spans → StandsAt (c ∷ code) p (length c.spans + spans)
next-stands c code p spans s = record {
  told = λ j below.
      let long : length (spans_of_class c) ≡ length c.spans = length-map-range_with_len (span_info c.number c.part c.spans) 0 (length c.spans) in
      let place : length c.spans + spans + j ≡ length (spans_of_class c) + (spans + j) = omega (arith, long) in
      ap (slice_get (spans_of (c ∷ code))) place ∙ get-right (spans_of_class c) (spans_of code) (spans + j) ∙ s.told j below;
  blocks = λ before i b at.
      let more : before + (length c.spans + spans) ≡ before + length c.spans + spans = omega arith in
      let rest = s.blocks (before + length c.spans) i b (subst (λ n. slice_get (blocks_of_class n p) i ≡ Some b) more at) in
      (length (blocks_of_class before c) + rest.0, get-right (blocks_of_class before c) (blocks_of (before + length c.spans) code) rest.0 ∙ rest.1);
  methods = λ number first follow.
      let rest = s.methods (number + 1) (c.first_method + length c.spans + 1) follow.2 in omega (arith, rest, follow.1);
}

pub class-stands : (code : List Placed) (n : ℕ) (p : Placed) → slice_get code n ≡ Some p → (spans : ℕ) × StandsAt code p spans
class-stands [] n p at = absurd cc
class-stands (c ∷ code) zero p at = let same : c ≡ p = cc in (0, subst (λ d. StandsAt (c ∷ code) d 0) same (first-stands c code))
class-stands (c ∷ code) (suc n) p at =
    let rest = class-stands code n p at in (length c.spans + rest.0, next-stands c code p rest.0 rest.1)

-- a block of theirs
pub record IsOfClass (before : ℕ) (code : List Placed) (b : BlockInfo) : Type 0 where
  pub number : ℕ
  pub class : Placed
  pub there : slice_get code number ≡ Some class
  pub spans : ℕ
  pub stands : StandsAt code class spans
  pub inside : ℕ
  pub is : slice_get (blocks_of_class (before + spans) class) inside ≡ Some b

pub of-class : (before : ℕ) (code : List Placed) (i : ℕ) (b : BlockInfo) → slice_get (blocks_of before code) i ≡ Some b → IsOfClass before code b
of-class before [] i b at = absurd cc
of-class before (c ∷ code) i b at = elim (get-either (blocks_of_class before c) (blocks_of (before + length c.spans) code) i b at) [
  | inl front ↦ record {
    number = 0;
    class = c;
    there = refl;
    spans = 0;
    stands = first-stands c code;
    inside = i;
    is = (let none : before ≡ before + 0 = omega arith in subst (λ n. slice_get (blocks_of_class n c) i ≡ Some b) none front);
  }
  | inr behind ↦
      let rest = of-class (before + length c.spans) code behind.0 b behind.2 in
      record {
        number = suc rest.number;
        class = rest.class;
        there = rest.there;
        spans = length c.spans + rest.spans;
        stands = next-stands c code rest.class rest.spans rest.stands;
        inside = rest.inside;
        is = (let more : before + length c.spans + rest.spans ≡ before + (length c.spans + rest.spans) = omega arith in
            subst (λ n. slice_get (blocks_of_class n rest.class) rest.inside ≡ Some b) more rest.is);
      }
]

-- ---- each block

-- A block is the piece of a span of a class, by its number among the classes, that begins with a word.
pub record IsBlock (code : List Placed) (b : BlockInfo) : Type 0 where
  pub number : ℕ
  pub class : Placed
  pub there : slice_get code number ≡ Some class
  pub spans : ℕ
  pub stands : StandsAt code class spans
  pub span : ℕ
  pub word : ℕ
  pub at : IsPieceAt class span word
  pub is : block_of spans (piece_of class.part class.spans span word) ≡ b

piece-block : (before : ℕ) (own piece : Piece) (b : BlockInfo) → own ≡ piece → block_of before piece ≡ b → block_of before own ≡ b
piece-block before own piece b same is = ap (block_of before) same ∙ is

pub is-block : (code : List Placed) (i : ℕ) (b : BlockInfo) → slice_get (blocks_of 0 code) i ≡ Some b → IsBlock code b
is-block code i b at =
    let of = of-class 0 code i b at in
    let none : 0 + of.spans ≡ of.spans = omega arith in
    let own : slice_get (blocks_of_class of.spans of.class) of.inside ≡ Some b =
    subst (λ n. slice_get (blocks_of_class n of.class) of.inside ≡ Some b) none of.is in
    let from = mapped-from (block_of of.spans) (pieces_of_class of.class.part of.class.spans) of.inside b own in
    let piece = piece-from of.class of.inside from.0 from.1 in
    record {
      number = of.number;
      class = of.class;
      there = of.there;
      spans = of.spans;
      stands = of.stands;
      span = piece.span;
      word = piece.word;
      at = piece.at;
      is = piece-block of.spans (piece_of of.class.part of.class.spans piece.span piece.word) from.0 b piece.is from.2;
    }

pub block-there : (code : List Placed) (p : Placed) (spans j k : ℕ) → StandsAt code p spans → IsPieceAt p j k
    → (i : ℕ) × (slice_get (blocks_of 0 code) i ≡ Some (block_of spans (piece_of p.part p.spans j k)))
block-there code p spans j k s at =
    let none : 0 + spans ≡ spans = omega arith in
    let own = piece-there p spans j k at in
    s.blocks 0 own.0 (block_of spans (piece_of p.part p.spans j k))
    (subst (λ n. slice_get (blocks_of_class n p) own.0 ≡ Some (block_of spans (piece_of p.part p.spans j k))) (sym none) own.1)
