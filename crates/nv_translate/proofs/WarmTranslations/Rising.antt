-- The blocks of a layout rise by their addresses.
use Rattle.std.proofs.Common.{◌≡◌, ℕ, zero, suc, ◌+◌, ◌*◌, ◌-◌, ◌^◌, ◌<◌, ◌≤◌, List, [], ◌∷◌, ◌++◌, map, length, slice_get, Some, All, refl, sym, ap, subst, ◌∙◌, arith}
use Rattle.std.specs.Prelude.{filter, option_map}
use Rattle.std.specs.List.{AllZip, flat_map, range_with_len}
use Rattle.std.proofs.lemmas.List.{map-append}
use Rattle.std.proofs.lemmas.List.Elements.{All-head, All-tail}
use Rattle.std.proofs.lemmas.Option.{slice_get-map}
use Rattle.std.proofs.lemmas.Simd.{map-map}
use Rattle.run_simulation_laws.specs.Places.{Rises}
use Rattle.run_simulation_laws.proofs.Places.{rises_from, rises_join}
use Rattle.emit_spans.specs.Pieces.{all_words}
use Rattle.emit_program_laws.specs.TrampolineLaws.Classes.{CodeClass, IsClass, AreOrdered, address, end_of, span_at}
use Rattle.emit_program_laws.proofs.TrampolineLaws.Spans.{joined-at, joined-apart}
use Rattle.emit_program_laws.proofs.TrampolineLaws.Words.{end-low}
use Rattle.emit_program_laws.proofs.TrampolineLaws.Order.{behind, ordered-rest}
use Rattle.translate_classes.specs.declared.piece.Piece.{Piece}
use Rattle.translate_classes.specs.Blocks.{span_words, piece_of, pieces_of_span}
use Rattle.translate_program.specs.declared.block_info.BlockInfo.{BlockInfo}
use Rattle.translate_program.specs.Classes.{Placed}
use Rattle.translate_program.specs.Blocks.{block_of, blocks_of_class, blocks_of}
use Rattle.nv_translate.specs.Standing.{class_of, IsClassOf}
use Rattle.nv_translate.proofs.WarmTranslations.Lists.{counted-rise, flat-rises, rises-less}
use Rattle.nv_translate.proofs.WarmTranslations.Blocks.{words_of}

abbrev first_of : BlockInfo → ℕ
first_of b = b.first

abbrev pub firsts_of : List BlockInfo → List ℕ
firsts_of blocks = map first_of blocks

flat-mapped : {X Y Z : Type 0} (g : Y → Z) (f : X → List Y) (xs : List X) → map g (flat_map f xs) ≡ flat_map (λ x. map g (f x)) xs
flat-mapped g f [] = refl
flat-mapped g f (x ∷ xs) = map-append g (f x) (flat_map f xs) ∙ ap (λ ys. map g (f x) ++ ys) (flat-mapped g f xs)

-- ---- a class

module _ (before : ℕ) (p : Placed) (words : List ℕ) (is : IsClass (class_of p words)) where
  abbrev own : CodeClass
  own = class_of p words

  abbrev block : Piece → BlockInfo
  block piece = block_of before piece

  -- the addresses of a span's words with which blocks begin
  abbrev addresses : ℕ → List ℕ
  addresses j = map (λ k. p.part.start + 4 * k) (filter (words_of p j) (all_words (span_words p.part p.spans j)))

  span-firsts : (j : ℕ) → map first_of (map block (pieces_of_span p.part p.spans j)) ≡ addresses j
  span-firsts j =
      let ks = filter (words_of p j) (all_words (span_words p.part p.spans j)) in
      map-map first_of block (pieces_of_span p.part p.spans j) ∙ map-map (λ piece. first_of (block piece)) (piece_of p.part p.spans j) ks

  firsts-from : (a n : ℕ)
      → map first_of (map block (flat_map (pieces_of_span p.part p.spans) (range_with_len a n))) ≡ flat_map addresses (range_with_len a n)
  firsts-from a zero = refl
  firsts-from a (suc n) =
      let here = pieces_of_span p.part p.spans a in
      let rest = flat_map (pieces_of_span p.part p.spans) (range_with_len (a + 1) n) in
      ap (map first_of) (map-append block here rest) ∙ map-append first_of (map block here) (map block rest)
      ∙ (λ i. span-firsts a i ++ firsts-from (a + 1) n i)

  -- where they begin and end
  abbrev low : ℕ → ℕ
  low j = p.part.start + 4 * (p.part.first + (span_at own j).first)

  abbrev high : ℕ → ℕ
  high j = p.part.start + 4 * (p.part.first + (span_at own j).first + (span_at own j).words)

  span-rises : (j : ℕ) → Rises (low j) (addresses j) (high j)
  span-rises j =
      let first = p.part.first + (span_at own j).first in
      let count : first + (span_at own j).words - first ≡ (span_at own j).words = omega arith in
      subst (λ n. Rises (low j) (map (λ k. p.part.start + 4 * k) (filter (words_of p j) (range_with_len first n))) (high j)) (sym count)
      (counted-rise p.part.start (words_of p j) first (span_at own j).words)

  pub class-rises : Rises (address own 0) (firsts_of (blocks_of_class before p)) (end_of own)
  class-rises =
      subst (λ (xs : List ℕ). Rises (address own 0) xs (end_of own)) (sym (firsts-from 0 (length p.spans)))
      (flat-rises addresses low high (address own 0) (end_of own) 0 (length p.spans) (omega arith)
      (λ j above below. span-rises j)
      (λ j above below. let at = joined-at p.spans 0 own.count j is.joined (omega (arith, below)) in omega arith)
      (λ j above below. let at = joined-at p.spans 0 own.count j is.joined (omega (arith, below)) in let to = at.to in omega (arith, to))
      (λ i j above less below. let apart = joined-apart p.spans 0 own.count i j is.joined less (omega (arith, below)) in omega (arith, apart)))

-- ---- all classes

blocks-rise : (code : List Placed) (classes : List CodeClass) → AllZip IsClassOf code classes → All IsClass classes → AreOrdered classes
    → (before from : ℕ) → from ≤ 2 ^ 31 → ((n : ℕ) (d : CodeClass) → slice_get classes n ≡ Some d → from ≤ address d 0)
    → Rises from (firsts_of (blocks_of before code)) (2 ^ 31)
blocks-rise [] [] of are ordered before from low behind_it = low
blocks-rise [] (c ∷ classes) of are ordered before from low behind_it = absurd of
blocks-rise (p ∷ code) [] of are ordered before from low behind_it = absurd of
blocks-rise (p ∷ code) (c ∷ classes) of are ordered before from low behind_it =
    let is : IsClass c = All-head IsClass c classes are in
    let own : IsClass (class_of p c.words) = subst IsClass of.0.is is in
    let first : from ≤ address (class_of p c.words) 0 = subst (λ d. from ≤ address d 0) of.0.is (behind_it 0 c refl) in
    let same : end_of c ≡ end_of (class_of p c.words) = ap end_of of.0.is in
    let low_end : end_of c ≤ 2 ^ 31 = (let less = end-low c is in omega (arith, less)) in
    let mine : List BlockInfo = blocks_of_class before p in
    let others : List BlockInfo = blocks_of (before + length p.spans) code in
    let rest : Rises (end_of c) (firsts_of others) (2 ^ 31) =
    blocks-rise code classes of.1 (All-tail IsClass c classes are) (ordered-rest c classes ordered) (before + length p.spans) (end_of c) low_end
    (λ n d at. behind c classes n d (All-tail IsClass c classes are) ordered at) in
    subst (λ (xs : List ℕ). Rises from xs (2 ^ 31)) (sym (map-append first_of mine others))
    (rises_join from (firsts_of mine) (end_of (class_of p c.words)) (firsts_of others) (2 ^ 31)
    (rises_from from (address (class_of p c.words) 0) (firsts_of mine) (end_of (class_of p c.words)) first (class-rises before p c.words own))
    (subst (λ n. Rises n (firsts_of others) (2 ^ 31)) same rest))

pub firsts-rise : (code : List Placed) (classes : List CodeClass) → AllZip IsClassOf code classes → All IsClass classes → AreOrdered classes
    → (blocks : List BlockInfo) → blocks ≡ blocks_of 0 code → (i j : ℕ) (b d : BlockInfo) → slice_get blocks i ≡ Some b → slice_get blocks j ≡ Some d
    → i < j
    → b.first < d.first
firsts-rise code classes of are ordered blocks blocks_are i j b d at at_d less =
    let rises : Rises 0 (firsts_of blocks) (2 ^ 31) =
    subst (λ (xs : List BlockInfo). Rises 0 (firsts_of xs) (2 ^ 31)) (sym blocks_are)
    (blocks-rise code classes of are ordered 0 0 (omega arith) (λ n c there. omega arith)) in
    rises-less 0 (firsts_of blocks) (2 ^ 31) i j b.first d.first rises
    (slice_get-map first_of blocks i ∙ ap (option_map first_of) at) (slice_get-map first_of blocks j ∙ ap (option_map first_of) at_d) less
