-- Where the guest stands behind a unit, and the classes rest.
use Rattle.std.proofs.Common.{◌≡◌, ℕ, suc, ◌<◌, List, [], ◌∷◌, length, slice_get, Option, Some, inl, inr, refl, ap, sym, ◌∙◌, arith}
use Rattle.std.proofs.lemmas.Option.{slice_get-get_or}
use Rattle.run_definition.specs.Words.{IsWord}
use Rattle.run_definition.specs.declared.order.Order.{Order}
use Rattle.run_definition.specs.Turn.{Turn, moves, ends, leaves, asks}
use Rattle.mips_definition.specs.State as guest
use Rattle.delay_slots.specs.declared.unit.Unit.{Unit}
use Rattle.delay_slots.specs.declared.unit.Unit.TheVariants as units
use Rattle.delay_slots.specs.Units.{units_of}
use Rattle.delay_slots.specs.Turns.{IsBetweenUnits, LeadsOn}
use Rattle.block_builder.specs.Blocks.{unit_at}
use Rattle.jvm_definition.specs.Program.{Program}
use Rattle.jvm_definition.specs.Step.{JvmState, Frame}
use Rattle.emit_spans.specs.declared.span_words.SpanWords.{SpanWords}
use Rattle.emit_spans_laws.specs.GuestFollows.Sites.{Site, stands}
use Rattle.emit_spans_laws.specs.GuestCodeLaws.Steps.{LeadsToWords}
use Rattle.emit_spans_laws.specs.Resuming.{StandsAtReturn, StandsAtWord}
use Rattle.trampoline_laws.specs.Classes.{CodeClass, is_span, span_words}
use Rattle.emit_program_laws.specs.Entered.{IsGuest}
use Rattle.emit_program_laws.specs.Standing.{AtReturn, AtRun, IsBelow, span_site}
use Rattle.emit_program_laws.specs.Rests.{Rests}
use Rattle.emit_program_laws.proofs.TurnLaws.Following.{ForEach}

-- ---- the guest

units-length : (words : List ℕ) → length (units_of words) ≡ length words
units-length [] = refl
units-length (word ∷ words) = ap suc (units-length words)

pub unit-there : (words : List ℕ) (k : ℕ) → k < length words → slice_get (units_of words) k ≡ Some (unit_at (units_of words) k)
unit-there words k less = slice_get-get_or (units_of words) k units.Call (let total = units-length words in omega (arith, total, less))

pub each-of : (x : guest.State) (P : guest.State → Type 0) (last : Turn guest.State) → LeadsOn x last → LeadsToWords last → ((t : guest.State) → IsBetweenUnits x t → IsWord t.pc → P t) → ForEach P last
each-of x P (moves t) leads words each = each t leads words
each-of x P (ends e) leads words each = tt
each-of x P (leaves q e) leads words each = tt
each-of x P (asks q next) leads words each = λ a. each (next a) (leads a) (words a)

pub guest-next : (order : Order) (code : ℕ → Option ℕ) (x t : guest.State) → IsGuest order code x → IsBetweenUnits x t → IsGuest order code t
guest-next order code x t is between = record {
  begun = between.begun;
  pending = between.pending;
  order_is = between.order ∙ is.order_is;
  code_is = between.code ∙ is.code_is;
}

-- ---- the classes

module _ (program : Program) (words : ℕ) (order : Order) (choose : ℕ) (classes : List CodeClass) (code : ℕ → Option ℕ) (x t : guest.State) (guest_is : IsGuest order code x) (between : IsBetweenUnits x t) (pc_word : IsWord t.pc) where
  abbrev Rest : JvmState → Type 0
  Rest y = Rests program words order choose classes code t y

  -- at the beginning of a method that chooses
  pub rests-at-run : (y : JvmState) → AtRun program words classes choose y t → Rest y
  rests-at-run y s = record { guest_is = guest-next order code x t guest_is between; pc_word = pc_word; stands = inr (inr (inl s)) }

  module _ (number : ℕ) (c : CodeClass) (there : slice_get classes number ≡ Some c) (j : ℕ) (j_below : j < length c.spans) (others : List Frame) (below : IsBelow program words (is_span classes) choose c others) where
    abbrev site : Site
    site = span_site program words c j others

    abbrev own : SpanWords
    own = span_words c j

    -- at the code of a word
    pub rests-at-word : (y : JvmState) → StandsAtWord site (units_of c.words) c.leads own y t → Rest y
    rests-at-word y s = record {
      guest_is = guest-next order code x t guest_is between;
      pc_word = pc_word;
      stands = inl (record {
        number = number;
        class = c;
        there = there;
        span = j;
        span_below = j_below;
        others = others;
        below = below;
        word = s.entry.word;
        workspace = s.workspace;
        stands = record {
          above = s.entry.above;
          below = s.entry.below;
          rests = s.rests;
          pc = s.entry.is_there;
          pending = between.pending;
          order_is = between.order ∙ guest_is.order_is;
        };
        is_there = s.is_there ∙ ap (λ (place : ℕ). stands site place s.workspace) (sym s.entry.entry);
      });
    }

    -- they are at a return
    pub at-return : (unit : Unit) (y : JvmState) → StandsAtReturn site own unit y t → AtReturn program words classes choose y t
    at-return unit y s = record {
      number = number;
      class = c;
      there = there;
      span = j;
      others = others;
      below = below;
      at = s.at;
      lies = s.lies;
      workspace = s.workspace;
      held = s.rests.held;
      no_operands = s.rests.no_operands;
      pc_is = s.pc_is;
      is_there = s.is_there;
    }
