-- What is told of the classes of code of a program is one list of spans, and one of blocks.
use Rattle.std.proofs.Common.{◌≡◌, ℕ, ◌+◌, List, [], ◌∷◌, ◌++◌, length, map, refl, ap, ◌∙◌, Bool}
use Rattle.std.specs.List.{AllZip}
use Rattle.elf_definition.specs.Start.{Source}
use Rattle.translate_classes.specs.Blocks.{pieces_of_class}
use Rattle.translate_program.specs.Blocks.{block_of, blocks_of_class, blocks_of}
use Rattle.translate_program.specs.Classes.{Placed, AreCodeClasses, span_infos, spans_of_class, spans_of}
use Rattle.translate_program.proofs.OneCode.Parts.{alike_at}
use Rattle.translate_program.proofs.OneCode.Classes.{AreSame, classes-one}

infos_same : (c d : Placed) → AreSame c d → spans_of_class c ≡ spans_of_class d
infos_same c d same =
    let parts : span_infos d.number c.part d.spans (length d.spans) ≡ span_infos d.number d.part d.spans (length d.spans) =
    alike_at (λ p. span_infos d.number p d.spans (length d.spans)) c.part d.part same.parts (λ same_len low within. refl) in
    ap (λ n. span_infos n c.part c.spans (length c.spans)) same.number
    ∙ ap (λ l. span_infos d.number c.part l (length l)) same.spans
    ∙ parts

pieces_same : (c d : Placed) → AreSame c d → pieces_of_class c.part c.spans ≡ pieces_of_class d.part d.spans
pieces_same c d same =
    let parts : pieces_of_class c.part d.spans ≡ pieces_of_class d.part d.spans =
    alike_at (λ p. pieces_of_class p d.spans) c.part d.part same.parts (λ same_len low within. refl) in
    ap (pieces_of_class c.part) same.spans ∙ parts

all_infos : (a b : List Placed) → AllZip AreSame a b → spans_of a ≡ spans_of b
all_infos [] [] same = refl
all_infos [] (d ∷ b) same = absurd same
all_infos (c ∷ a) [] same = absurd same
all_infos (c ∷ a) (d ∷ b) same = ap (λ l. l ++ spans_of a) (infos_same c d same.0) ∙ ap (λ l. spans_of_class d ++ l) (all_infos a b same.1)

all_blocks : (before : ℕ) (a b : List Placed) → AllZip AreSame a b → blocks_of before a ≡ blocks_of before b
all_blocks before [] [] same = refl
all_blocks before [] (d ∷ b) same = absurd same
all_blocks before (c ∷ a) [] same = absurd same
all_blocks before (c ∷ a) (d ∷ b) same =
    ap (λ l. map (block_of before) l ++ blocks_of (before + length c.spans) a) (pieces_same c d same.0)
    ∙ ap (λ l. blocks_of_class before d ++ blocks_of (before + length l) a) same.0.spans
    ∙ ap (λ l. blocks_of_class before d ++ l) (all_blocks (before + length d.spans) a b same.1)

-- ---- those of a program

module _ {metered : Bool} (source : Source) (method_bytes : ℕ) (a b : List Placed) (are : AreCodeClasses metered source method_bytes a)
    (are' : AreCodeClasses metered source method_bytes b) where
  pub spans_are_one : spans_of a ≡ spans_of b
  spans_are_one = all_infos a b (classes-one source method_bytes a b are are')

  pub blocks_are_one : blocks_of 0 a ≡ blocks_of 0 b
  blocks_are_one = all_blocks 0 a b (classes-one source method_bytes a b are are')
