-- A translation with a meter has no blocks.
use Rattle.std.proofs.Common.{◌≡◌, ℕ, suc, ◌+◌, ◌==◌, ◌&&◌, ◌||◌, not, Bool, true, false, cond, List, [], ◌∷◌, ◌++◌, map, filter, flat_map, length, Some, refl, ap, ◌∙◌, slice_get}
use Rattle.std.specs.List.{range_with_len}
use Rattle.method_splitter.specs.declared.span.Span.{Span}
use Rattle.emit_spans.specs.Pieces.{flagged, all_words}
use Rattle.translate_classes.specs.declared.part.Part.{Part}
use Rattle.translate_classes.specs.Blocks.{has_block, is_slot, piece_of, pieces_of_class, pieces_of_span, span_words}
use Rattle.translate_program.specs.Blocks.{block_of, blocks_of}
use Rattle.translate_program.specs.Classes.{Placed}

none-pass : {A : Type 0} (test : A → Bool) → ((x : A) → test x ≡ false) → (xs : List A) → filter test xs ≡ []
none-pass test none [] = refl
none-pass test none (x ∷ xs) = ap (λ b. cond b (x ∷ filter test xs) (filter test xs)) (none x) ∙ none-pass test none xs

none-each : {A B : Type 0} (f : A → List B) → ((x : A) → f x ≡ []) → (xs : List A) → flat_map f xs ≡ []
none-each f none [] = refl
none-each f none (x ∷ xs) = ap (λ ys. ys ++ flat_map f xs) (none x) ∙ none-each f none xs

-- no piece begins in a span with a meter
span-none : (part : Part) (spans : List Span) (j : ℕ) → part.metered ≡ true → pieces_of_span part spans j ≡ []
span-none part spans j metered =
    let span = span_words part spans j in
    let units = part.units.now in
    let leads = flagged part.leads.now in
    ap (map (piece_of part spans j))
    (none-pass (has_block units leads span)
    (λ k. ap (λ b. (not b && (k == span.first || leads k)) && not (is_slot units leads k)) metered) (all_words span))

class-none : (part : Part) (spans : List Span) → part.metered ≡ true → pieces_of_class part spans ≡ []
class-none part spans metered =
    none-each (pieces_of_span part spans) (λ j. span-none part spans j metered) (range_with_len 0 (length spans))

pub blocks-none : (before : ℕ) (code : List Placed) → ((i : ℕ) (c : Placed) → slice_get code i ≡ Some c → c.part.metered ≡ true)
    → blocks_of before code ≡ []
blocks-none before [] metered = refl
blocks-none before (c ∷ code) metered =
    ap (λ pieces. map (block_of before) pieces ++ blocks_of (before + length c.spans) code) (class-none c.part c.spans (metered 0 c refl))
    ∙ blocks-none (before + length c.spans) code (λ i d at. metered (suc i) d at)
