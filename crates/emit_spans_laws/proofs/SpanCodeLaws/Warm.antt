-- The code of a word with which a piece begins.
use Rattle.std.proofs.Common.{◌≡◌, ◌≢◌, ℕ, ◌+◌, ◌-◌, ◌*◌, ◌^◌, ◌<◌, ◌≤◌, nat_le, Bool, true, false, if◌then◌else◌, List, [], ◌∷◌, ◌++◌, All, length, length-append, drop, map, get_or, Option, None, append_assoc, refl, ap, subst, sym, ◌∙◌, arith}
use Rattle.std.specs.List.{flat_map, range_with_len}
use Rattle.std.proofs.lemmas.Bool.{and_from, and_parts, le-leb, leb-true}
use Rattle.std.proofs.lemmas.List.{map-append}
use Rattle.std.proofs.lemmas.List.Elements.{All-take, All-drop}
use Rattle.run_definition.specs.declared.order.Order.{Order}
use Rattle.run_definition.specs.Turn.{Turn, moves, ends, leaves, asks}
use Rattle.mips_definition.specs.State.{State}
use Rattle.delay_slots.specs.declared.unit.Unit.{Unit as Word}
use Rattle.delay_slots.specs.declared.unit.Unit.TheVariants as units
use Rattle.delay_slots.specs.Units.{units_of}
use Rattle.delay_slots.specs.Turns.{unit_turns, turn_count, last_turn}
use Rattle.block_builder.specs.declared.block.Block.{Block}
use Rattle.block_builder.specs.Blocks.{IsPiece, unit_at}
use Rattle.block_builder.specs.Laws.{InstructionsChangeWhatTheyWrite}
use Rattle.jvm_definition.specs.declared.instruction.Instruction.{Instruction}
use Rattle.jvm_definition.specs.Effect.{Workspace}
use Rattle.emit_steps.specs.declared.step.Step.{Step}
use Rattle.emit_steps.specs.declared.step.Step.TheVariants.{Does, Skips, Leaves, Selects}
use Rattle.emit_steps.specs.Widths.{size}
use Rattle.emit_steps.specs.Outcomes.{stays_within}
use Rattle.emit_steps.specs.Placing.{LiesAt}
use Rattle.word_emitter.specs.Pieces.{bank_of, fetched, for_registers, is_needed, is_written, put_back, piece_units, units_code, warm_code}
use Rattle.word_emitter.specs.Exits.{follows}
use Rattle.emit_simulation_laws.specs.Lawful.{IsLawful}
use Rattle.emit_spans.specs.declared.span_words.SpanWords.{SpanWords}
use Rattle.emit_spans.specs.Pieces.{begins, piece_at}
use Rattle.emit_spans.specs.Neighbours.{address, next_such}
use Rattle.emit_spans.specs.Parts.{extent, exit_of, warm_part, cold_part}
use Rattle.emit_spans.specs.Laying.{entry_at, targets_of, return_offset, laid_step, span_code}
use Rattle.emit_spans.specs.Laws.{PiecesAreOfBlocks}
use Rattle.emit_spans.specs.Standing.{laid_part}
use Rattle.emit_spans.proofs.SizeLemmas.{size-laid}
use Rattle.emit_spans.proofs.StandingLemmas.{word-stands}
use Rattle.emit_spans.proofs.UnitMarks.{warm-marks}
use Rattle.emit_spans.proofs.PieceLemmas.{unit-count}
use Rattle.emit_simulation_laws.specs.Sites.{Site, stands, whole_weight}
use Rattle.emit_simulation_laws.specs.Following.{Follows}
use Rattle.emit_simulation_laws.proofs.GuestFollows.Weights.{whole-both, size-both}
use Rattle.emit_instructions_laws.specs.Instructions.{IsReady}
use Rattle.emit_instructions_laws.specs.Pieces.{AllPiecesFollow, AreStraight, PieceArrives, UnitGoal, piece_turns, then_turns}
use Rattle.emit_instructions_laws.proofs.PieceLaws.Within.{units-stay}
use Rattle.emit_spans_laws.specs.Resuming.{IsEntryOf, Resumes, FollowsInSpan}
use Rattle.emit_spans_laws.specs.Spans.{HasSpan, StandsAt, FollowsPiece}
use Rattle.emit_spans_laws.proofs.SpanCodeLaws.Joining.{Reaches}
use Rattle.emit_spans_laws.proofs.SpanCodeLaws.Leading.{LeadsTo}
use Rattle.emit_spans_laws.proofs.SpanCodeLaws.Exits.{SaysEnd, says-end, exit-stays}
use Rattle.emit_spans_laws.proofs.SpanCodeLaws.Parts.{laid-unmarked, part-lies, warm-behind}
use Rattle.emit_spans_laws.proofs.SpanCodeLaws.Going.{FollowsFirst, goes-on}
use Rattle.emit_spans_laws.proofs.SpanCodeLaws.Straight.{last_unit, last-is, last-goal, are-lawful, piece-leads, are-straight, count-few, units-count, piece-some, unit-is}
use Rattle.emit_spans_laws.proofs.SpanCodeLaws.Words.{UnitLaws, some-turn, units-length}

-- ---- no branch of warm code goes past its end

pub stays-both : (first second : List Step) → stays_within first ≡ true → stays_within second ≡ true → stays_within (first ++ second) ≡ true
stays-both [] second a b = b
stays-both (Does instruction ∷ first) second a b = stays-both first second a b
stays-both (Skips name k ∷ first) second a b =
    let parts = and_parts (nat_le k (length first)) (stays_within first) a in
    let few : k ≤ length first = leb-true k (length first) parts.0 in
    let sum = length-append first second in
    and_from (nat_le k (length (first ++ second))) (stays_within (first ++ second)) (le-leb k (length (first ++ second)) (omega (arith, few, sum)))
    (stays-both first second parts.1 b)
stays-both (Leaves target ∷ first) second a b = stays-both first second a b
stays-both (Selects s ∷ first) second a b = stays-both first second a b

some-stays : (b : Bool) (code : List Step) → stays_within code ≡ true → stays_within (if b then code else []) ≡ true
some-stays true code stays = stays
some-stays false code stays = refl

pub each-stays : (test : ℕ → Bool) (code : ℕ → List Step) → ((r : ℕ) → stays_within (code r) ≡ true) → (rs : List ℕ)
    → stays_within (flat_map (λ r. if test r then code r else []) rs) ≡ true
each-stays test code each [] = refl
each-stays test code each (r ∷ rs) =
    stays-both (if test r then code r else []) (flat_map (λ r. if test r then code r else []) rs) (some-stays (test r) (code r) (each r))
    (each-stays test code each rs)

warm-stays : (piece : List Word) (at : ℕ) → stays_within (warm_code piece at) ≡ true
warm-stays piece at =
    let front = for_registers (is_needed piece) fetched in
    let middle = units_code (bank_of piece) piece at in
    let back = for_registers (is_written piece) put_back in
    stays-both (front ++ middle) back
    (stays-both front middle (each-stays (is_needed piece) fetched (λ r. refl) (range_with_len 1 31)) (units-stay (bank_of piece) piece at))
    (each-stays (is_written piece) put_back (λ r. refl) (range_with_len 1 31))

-- ---- a piece has a turn, and says where its last unit leads

some-more : (n : ℕ) (last : Turn State) (rest : State → ℕ × Turn State) → 1 ≤ n → 1 ≤ (then_turns n last rest).0
some-more n (moves t) rest some = omega (arith, some)
some-more n (ends e) rest some = some
some-more n (leaves q e) rest some = some
some-more n (asks q next) rest some = some

some-piece : (piece : List Word) (x : State) → 1 ≤ length piece → 1 ≤ (piece_turns piece x).0
some-piece [] x some = absurd (omega (arith, some))
some-piece (unit ∷ rest) x some = some-more (turn_count (unit_turns unit x)) (last_turn (unit_turns unit x)) (piece_turns rest)
    (some-turn (unit_turns unit x))

-- What a piece says at its end, by its last unit at an address.
record PieceSays (piece : List Word) (last : Word) (a : ℕ) (w : Workspace) (x : State) : Type 0 where
  says : (u : Workspace) (t : State) → PieceArrives piece x.pc w u t → SaysEnd last a u t
  leads_to : Reaches (λ (t : State). LeadsTo last a t.pc) (piece_turns piece x).1

piece-says : InstructionsChangeWhatTheyWrite → (piece : List Word) (last : Word) (a : ℕ) (w : Workspace) (x : State) → 1 ≤ length piece
    → get_or piece (length piece - 1) units.Call ≡ last → a ≡ x.pc + 4 * (length piece - 1) → All IsLawful piece → AreStraight piece
    → x.pending ≡ None → x.pc + 4 * length piece < 2 ^ 32 → w.operands ≡ [] → PieceSays piece last a w x
piece-says change [] last a w x some is there lawful straight free below none = absurd (omega (arith, some))
piece-says change (unit ∷ rest) last a w x some is there lawful straight free below none =
    let before : length (unit ∷ rest) - 1 ≡ length rest = omega arith in
    let same : last_unit unit rest ≡ last = last-is rest unit ∙ ap (λ i. get_or (unit ∷ rest) i units.Call) (sym before) ∙ is in
    let address : x.pc + 4 * length rest ≡ a = omega (arith, there, before) in
    record {
      says = λ u t arrives.
          says-end last a w u t none
          (subst (λ b. UnitGoal last b w u t) address
          (subst (λ l. UnitGoal l (x.pc + 4 * length rest) w u t) same (last-goal rest unit x.pc w u t arrives.goal)));
      leads_to = subst (λ b. Reaches (λ (t : State). LeadsTo last b t.pc) (piece_turns (unit ∷ rest) x).1) address
          (subst (λ l. Reaches (λ (t : State). LeadsTo l (x.pc + 4 * length rest) t.pc) (piece_turns (unit ∷ rest) x).1) same
          (piece-leads change rest unit x (are-lawful (unit ∷ rest) lawful) straight free below));
    }

not-empty : (piece : List Word) → 1 ≤ length piece → piece ≢ []
not-empty piece some none = let e : length piece ≡ 0 = ap length none in omega (arith, some, e)

-- the laws of pieces that are needed
pub record PieceLaws : Type 1 where
  pub units : UnitLaws
  pub change : InstructionsChangeWhatTheyWrite
  pub follow : AllPiecesFollow
  pub are_pieces : PiecesAreOfBlocks

module _ (laws : PieceLaws) (site : Site) (words : List ℕ) (leads : ℕ → Bool) (span : SpanWords) (has : HasSpan site words leads span) (k : ℕ)
    (above : span.first ≤ k) (below : k < span.end) (begin : begins leads span k ≡ true) where
  abbrev unit_list : List Word
  unit_list = units_of words

  abbrev entry : ℕ
  entry = entry_at unit_list leads span k

  abbrev block : Block
  block = piece_at unit_list leads span k

  abbrev own : List Word
  own = piece_units unit_list block

  abbrev last_word : ℕ
  last_word = k + length own - 1

  abbrev last : Word
  last = unit_at unit_list last_word

  abbrev first : List Step
  first = warm_code own (address span k)

  abbrev L : Step → Step
  L = laid_step (extent span) (targets_of unit_list leads span) (return_offset unit_list leads span)

  abbrev behind : Option ℕ
  behind = next_such (begins leads span) span k

  abbrev exit : List Step
  exit = map L (exit_of unit_list span behind last_word)

  pub is-piece : IsPiece unit_list block
  is-piece =
      let total = units-length words in
      let within = has.within in
      laws.are_pieces unit_list leads span k (record { words = words; are = refl }) below (omega (arith, total, within))

  pub own-some : 1 ≤ length own
  own-some = piece-some unit_list leads span k below is-piece

  pub own-lawful : All IsLawful own
  own-lawful = All-take IsLawful (unit-count unit_list block) (drop k unit_list)
      (All-drop IsLawful k unit_list (laws.units.lawful words has.are_words has.no_float))

  part-is : laid_part unit_list leads span k ≡ first ++ exit
  part-is =
      ap (λ b. map L (if b then warm_part unit_list leads span k else cold_part unit_list leads span k)) begin
      ∙ map-append L first (exit_of unit_list span behind last_word)
      ∙ ap (λ c. c ++ exit) (laid-unmarked (extent span) (targets_of unit_list leads span) (return_offset unit_list leads span) first
      (warm-marks own (address span k)))

  -- the warm code and the exit lie there, before other code
  pub warm-lies : LiesAt site.program site.method entry (first ++ (exit ++ (word-stands unit_list leads span k above below).behind))
  warm-lies =
      let stands_there = word-stands unit_list leads span k above below in
      subst (LiesAt site.program site.method entry) (append_assoc first exit stands_there.behind)
      (subst (λ code. LiesAt site.program site.method entry (code ++ stands_there.behind)) part-is
      (part-lies site.program site.method entry (span_code unit_list leads span) (laid_part unit_list leads span k) stands_there has.lies))

  -- where the exit ends the code of the next piece begins, if it is to follow
  pub next-is : (b : ℕ) → follows behind b ≡ true → IsEntryOf unit_list leads span (entry + size first + size exit) b
  next-is b is =
      let sizes : size (first ++ exit) ≡ size (warm_part unit_list leads span k) =
      ap size (sym part-is ∙ ap (λ b. map L (if b then warm_part unit_list leads span k else cold_part unit_list leads span k)) begin)
      ∙ size-laid (extent span) (targets_of unit_list leads span) (return_offset unit_list leads span) (warm_part unit_list leads span k) in
      let both = size-both first exit in
      let end : entry + size (warm_part unit_list leads span k) ≡ entry + size first + size exit = omega (arith, sizes, both) in
      subst (λ at. IsEntryOf unit_list leads span at b) end (warm-behind unit_list leads span k above below begin b is)

  module _ (order : Order) (w : Workspace) (x : State) (s : StandsAt order span k w x) where
    own-below : x.pc + 4 * length own < 2 ^ 32
    own-below =
        let n = units-count unit_list block is-piece in
        let few = count-few unit_list block is-piece in
        let within = is-piece.within in
        let total = units-length words in
        let room = has.below in
        let there = s.pc in
        omega (arith, n, few, within, total, room, there)

    own-says : PieceSays own last (address span last_word) w x
    own-says =
        let some = own-some in
        let n = units-count unit_list block is-piece in
        let there = s.pc in
        let place : k + (length own - 1) ≡ last_word = omega (arith, some) in
        piece-says laws.change own last (address span last_word) w x some
        (unit-is unit_list block is-piece (length own - 1) (omega (arith, some, n)) ∙ ap (unit_at unit_list) place) (omega (arith, there, some))
        own-lawful (are-straight unit_list block is-piece) s.pending own-below s.rests.no_operands

    module _ (ready : IsReady site order) where
      piece-follows : LiesAt site.program site.method entry first
          → FollowsFirst site (entry + size first) last (address span last_word) (piece_turns own x).0 (256 * (piece_turns own x).0)
          (whole_weight order first) entry w (piece_turns own x).1
      piece-follows lies = record {
        First = PieceArrives own x.pc w;
        follows = subst (λ pc. LiesAt site.program site.method entry (warm_code own pc)
            → Follows site entry (entry + size (warm_code own pc)) (piece_turns own x).0 (256 * (piece_turns own x).0)
            (whole_weight order (warm_code own pc))
            (PieceArrives own x.pc w) (stands site entry w) (piece_turns own x).1) s.pc
            (λ there. laws.follow own (not-empty own own-some) own-lawful (are-straight unit_list block is-piece) site order entry w x ready s.order_is
            s.pending own-below there s.rests.held) lies;
        held = λ u t is. is.held;
        says = λ u t goes is. own-says.says u t is;
        leads_to = own-says.leads_to;
      }

      pub warm-follows : FollowsPiece site order unit_list leads span k w x
      warm-follows =
          let n : ℕ = (piece_turns own x).0 in
          let some = some-piece own x own-some in
          let more = (word-stands unit_list leads span k above below).behind in
          let parts = laws.units.paths.parts site.program site.method entry first (exit ++ more) (warm-stays own (address span k)) warm-lies in
          let exit_lies = (laws.units.paths.parts site.program site.method (entry + size first) exit more
          (exit-stays unit_list leads span behind last (address span last_word)) parts.1).0 in
          let sizes : size (laid_part unit_list leads span k) ≡ size (first ++ exit) = ap size part-is in
          let both = size-both first exit in
          let end : entry + size first + size exit ≡ entry + size (laid_part unit_list leads span k) = omega (arith, sizes, both) in
          let weighs : (weight : Instruction → ℕ)
          → whole_weight order first weight + whole_weight order exit weight ≤ whole_weight order (laid_part unit_list leads span k) weight =
          λ weight.
          let whole : whole_weight order (laid_part unit_list leads span k) weight ≡ whole_weight order (first ++ exit) weight =
          ap (λ code. whole_weight order code weight) part-is in
          let sum = whole-both order weight first exit in
          omega (arith, whole, sum) in
          subst (λ high. FollowsInSpan site entry high n (264 * n) (whole_weight order (laid_part unit_list leads span k))
          (Resumes site unit_list leads span last) (stands site entry w) (piece_turns own x).1) end
          (goes-on laws.units.paths site order unit_list leads span behind last (address span last_word) (omega arith) (entry + size first) next-is
          entry n (256 * n) (whole_weight order first) (whole_weight order (laid_part unit_list leads span k)) w (piece_turns own x).1 (264 * n)
          (omega (arith, some)) weighs exit_lies (piece-follows parts.0))
