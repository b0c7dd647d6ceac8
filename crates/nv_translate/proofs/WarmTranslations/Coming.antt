-- Where the guest comes to a block, the classes come to its code.
use Rattle.std.proofs.Common.{◌≡◌, ℕ, ◌+◌, ◌-◌, ◌&&◌, ◌==◌, Bool, true, List, length, Option, Some, None, All, refl, sym, ap, ◌∙◌, arith}
use Rattle.std.specs.Option.{is_none}
use Rattle.std.proofs.lemmas.Bool.{and_from, and_parts, true≢false, eqb-true, eq-eqb}
use Rattle.run_definition.specs.declared.order.Order.{Order}
use Rattle.mips_definition.specs.State as guest
use Rattle.delay_slots.specs.Units.{units_of}
use Rattle.jvm_definition.specs.Program.{Program}
use Rattle.jvm_definition.specs.Step.{JvmState, Frame, frame_placed}
use Rattle.emit_spans.specs.Pieces.{begins}
use Rattle.emit_spans.specs.Laying.{entry_at}
use Rattle.emit_program_laws.specs.TrampolineLaws.Classes.{CodeClass, IsClass, AreOrdered, span_words}
use Rattle.emit_program_laws.specs.TrampolineLaws.Programs.{IsInClass}
use Rattle.emit_program_laws.specs.Marks.{AtPiece, MarksPieces}
use Rattle.translate_program.specs.declared.block_info.BlockInfo.{BlockInfo}
use Rattle.translate_program.specs.declared.layout.Layout.{Layout}
use Rattle.nv_translate.specs.Warm.{IsPieceOf, AtBlock}
use Rattle.nv_translate.proofs.WarmTranslations.Spans.{IsWordOf, words-same, word-from, word-to}

none-is : (o : Option ℕ) → is_none o ≡ true → o ≡ None
none-is None is = refl
none-is (Some x) is = absurd (true≢false (sym is))

-- the guest stands at a block, between units
abbrev pub marks_block : BlockInfo → guest.State → Bool
marks_block b t = is_none t.pending && t.pc == b.first

pub is-marked : (b : BlockInfo) (t : guest.State) → t.pending ≡ None → t.pc ≡ b.first → marks_block b t ≡ true
is-marked b t between at = and_from (is_none t.pending) (t.pc == b.first) (ap is_none between) (eq-eqb t.pc b.first at)

module _ (classes : List CodeClass) (are : All IsClass classes) (ordered : AreOrdered classes) (layout : Layout) (b : BlockInfo)
    (p : IsPieceOf classes layout b) where
  own-word : IsWordOf classes p.number p.class p.span p.word
  own-word = record { there = p.there; span_below = p.span_below; above = p.above; below = p.below }

  in-class : (t : guest.State) → t.pc ≡ b.first → IsInClass classes t.pc
  in-class t at =
      let from = word-from classes are ordered p.number p.class p.span p.word own-word in
      let to = word-to classes are ordered p.number p.class p.span p.word own-word in
      record {
        number = p.number;
        class = p.class;
        there = p.there;
        word = p.word - p.class.first;
        below = omega (arith, from, to);
        is_there = omega (arith, at, p.first_is, from);
      }

  pub marks-piece : MarksPieces classes (marks_block b)
  marks-piece = record {
    between = λ t is. none-is t.pending (and_parts (is_none t.pending) (t.pc == b.first) is).0;
    in_class = λ t is. in-class t (eqb-true t.pc b.first (and_parts (is_none t.pending) (t.pc == b.first) is).1);
    begin = λ t n c j k is there below above under at.
        let pc = eqb-true t.pc b.first (and_parts (is_none t.pending) (t.pc == b.first) is).1 in
        let word : IsWordOf classes n c j k = record { there = there; span_below = below; above = above; below = under } in
        let same = words-same classes are ordered p.number p.class p.span p.word n c j k own-word word (sym p.first_is ∙ sym pc ∙ at) in
        (λ i. begins (sym same.classes_are i).leads (span_words (sym same.classes_are i) (sym same.spans i)) (sym same.words_are i)) ∙ p.begin;
  }

  -- the piece at which the classes stand is the block's
  module _ (from : b.from ≡ entry_at (units_of p.class.words) p.class.leads (span_words p.class p.span) p.word) (program : Program) (words : ℕ)
      (order : Order)
      (choose : ℕ) (code : ℕ → Option ℕ) (t : guest.State) (y : JvmState) where
    pub at-block : AtPiece program words order classes choose code t y → t.pc ≡ b.first
        → (others : List Frame) × AtBlock program order code words p others t y
    at-block at pc =
        let s = at.at_word in
        let word : IsWordOf classes s.number s.class s.span s.word =
        record { there = s.there; span_below = s.span_below; above = s.stands.above; below = s.stands.below } in
        let same =
        words-same classes are ordered s.number s.class s.span s.word p.number p.class p.span p.word word own-word
        (sym s.stands.pc ∙ pc ∙ p.first_is) in (
          s.others,
          record {
            workspace = s.workspace;
            matches = record {
              guest_is = at.guest_is;
              pc = pc;
              rests = s.stands.rests;
              few = let three = ap length s.below.others_are in omega (arith, three);
            };
            is_there =
                s.is_there
                ∙ (λ i. frame_placed ((same.classes_are i).first_method + same.spans i)
                (entry_at (units_of (same.classes_are i).words) (same.classes_are i).leads (span_words (same.classes_are i) (same.spans i))
                (same.words_are i))
                s.workspace s.others)
                ∙ ap (λ at_offset. frame_placed (p.class.first_method + p.span) at_offset s.workspace s.others) (sym from);
          },
        )
