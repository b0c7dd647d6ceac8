-- A translation is warm: the blocks of its layout are the pieces of its code, and what runs of each is its code over local variables.
use Rattle.std.specs.Prelude.{◌≡◌, ℕ, ◌+◌, ◌-◌, ◌*◌, ◌<◌, ◌≤◌, true, false, List, length, slice_get, Option, Some, None, ⊤}
use Rattle.run_definition.specs.declared.order.Order.{Order}
use Rattle.run_definition.specs.Answer.{Answer, next_answer}
use Rattle.run_definition.specs.Run.{Run, run_of}
use Rattle.run_definition.specs.Turn.{Turn, moves, ends, leaves, asks}
use Rattle.run_definition.specs.declared.outcome.Outcome.TheVariants.{Going}
use Rattle.run_simulation_laws.specs.Runs.{ComesBy}
use Rattle.mips_definition.specs.State as guest
use Rattle.delay_slots.specs.Places.{WordIndex}
use Rattle.mips_definition.specs.Step as guest_step
use Rattle.delay_slots.specs.declared.unit.Unit.{Unit}
use Rattle.delay_slots.specs.Units.{units_of}
use Rattle.block_builder.specs.Leaders.{is_leader}
use Rattle.block_builder.specs.Blocks.{unit_at}
use Rattle.elf_definition.specs.Start.{Source, image_of}
use Rattle.elf_definition.specs.Loading.{start_of}
use Rattle.jvm_definition.specs.declared.value.Value.TheVariants.{Int as int}
use Rattle.jvm_definition.specs.declared.linked_method.LinkedMethod.{LinkedMethod}
use Rattle.jvm_definition.specs.Program.{Program}
use Rattle.jvm_definition.specs.Effect.{Workspace}
use Rattle.jvm_definition.specs.Step.{JvmState, Frame, jvm_start, jvm_turn}
use Rattle.emit_steps.specs.declared.step.Step.{Step}
use Rattle.emit_layout.specs.FieldNumbers.{pc_field}
use Rattle.emit_layout.specs.Numbers.{choose_number, missing_number}
use Rattle.word_emitter.specs.Pieces.{piece_units}
use Rattle.emit_spans.specs.declared.span_words.SpanWords.{SpanWords}
use Rattle.emit_spans.specs.Pieces.{begins, piece_at, piece_words}
use Rattle.emit_spans.specs.Neighbours as words
use Rattle.emit_spans.specs.Laying.{stretch_at}
use Rattle.emit_spans.specs.Standing.{laid_part}
use Rattle.emit_program_laws.specs.SpanCodeLaws.Sites.{Site, stands, whole_weight}
use Rattle.emit_program_laws.specs.SpanCodeLaws.Pieces.{piece_turns}
use Rattle.emit_program_laws.specs.SpanCodeLaws.Entering.{IsEntered}
use Rattle.emit_program_laws.specs.SpanCodeLaws.Made.{AreTurns}
use Rattle.emit_paths_laws.specs.Classes.{gets, puts}
use Rattle.emit_program_laws.specs.SpanCodeLaws.Registers.{AtMostOnce, lines_between, weigh_lines}
use Rattle.emit_program_laws.specs.SpanCodeLaws.Resuming.{FollowsInSpan, IsAtRest, Resumes, jumps_by_register}
use Rattle.emit_program_laws.specs.TrampolineLaws.Classes.{CodeClass, address, span_at, span_words}
use Rattle.emit_program_laws.specs.TrampolineLaws.Programs.{IsTranslated}
use Rattle.emit_program_laws.specs.Entered.{IsGuest}
use Rattle.emit_program_laws.specs.Standing.{span_site}
use Rattle.translate_classes.specs.Blocks.{is_slot}
use Rattle.translate_program.specs.declared.block_info.BlockInfo.{BlockInfo}
use Rattle.translate_program.specs.declared.layout.Layout.{Layout}
use Rattle.translate_program.specs.declared.span_info.SpanInfo.{SpanInfo}
use Rattle.translate_program.specs.Files.{allow, need}
use Rattle.nv_translate.specs.Counts.{span_number}
use Rattle.nv_translate.specs.Staying.{Stays}

-- ---- what a block is

-- a span of a class, as a layout tells it
abbrev pub told_span : ℕ → CodeClass → ℕ → SpanInfo
told_span number class span =
    record {
      class = number;
      method = span;
      first = address class (span_at class span).first;
      words = (span_at class span).words;
    }

-- A block is a piece: the words, from one on, of a block of the range's code that lie in one span. It tells their addresses, and where their code
-- over local variables stands in the span's method. The piece is not only the delay slot of a branch in the span before.
pub record IsPieceOf (classes : List CodeClass) (layout : Layout) (b : BlockInfo) : Type 0 where
  -- its class, by its number
  pub number : ℕ
  pub class : CodeClass
  pub there : slice_get classes number ≡ Some class
  -- its span, by its number in the class, as the layout tells it
  pub span : ℕ
  pub span_below : span < length class.spans
  pub info : slice_get layout.spans.items b.span ≡ Some (told_span number class span)
  -- the number of the span's method in the program
  pub method_is : class.first_method + span ≡ span_number b.span (told_span number class span)
  -- its first word, by its number in the range: a word of the span with which a piece begins
  pub word : WordIndex
  pub above : (span_words class span).first ≤ word
  pub below : word < (span_words class span).end
  pub begin : begins class.leads (span_words class span) word ≡ true
  pub no_slot : is_slot (units_of class.words) class.leads word ≡ false
  -- the address of that word, and how many words the piece has
  pub first_is : b.first ≡ words.address (span_words class span) word
  pub words_are : b.words ≡ piece_words (units_of class.words) class.leads (span_words class span)
      word
  -- from where to where its code stands in the span's method
  pub from_is : b.from
      ≡ (stretch_at (units_of class.words) class.leads (span_words class span) word).from
  pub to_is : b.to ≡ (stretch_at (units_of class.words) class.leads (span_words class span) word).to

-- The piece of a span that begins with a word has a block.
pub record HasBlock (classes : List CodeClass) (layout : Layout) (number span : ℕ)
    (word : WordIndex) : Type 0 where
  -- the block, by its place in the layout
  pub place : ℕ
  pub block : BlockInfo
  pub there : slice_get layout.blocks.items place ≡ Some block
  -- it is that piece
  pub is : IsPieceOf classes layout block
  pub number_is : is.number ≡ number
  pub span_is : is.span ≡ span
  pub word_is : is.word ≡ word

-- ---- its code

module _ {classes : List CodeClass} {layout : Layout} {b : BlockInfo} where
  abbrev pub span_of : IsPieceOf classes layout b → SpanWords
  span_of p = span_words p.class p.span

  -- the number of its span's method, and that method above other frames
  abbrev pub method_of : IsPieceOf classes layout b → ℕ
  method_of p = p.class.first_method + p.span

  abbrev pub site_of : Program → ℕ → IsPieceOf classes layout b → List Frame → Site
  site_of program words p others = span_site program words p.class p.span others

  -- its code, and the units that this does, of which only the last may be a branch or a jump
  abbrev pub code_of : IsPieceOf classes layout b → List Step
  code_of p = laid_part (units_of p.class.words) p.class.leads (span_of p) p.word

  abbrev pub own_units : IsPieceOf classes layout b → List Unit
  own_units p =
      piece_units (units_of p.class.words)
      (piece_at (units_of p.class.words) p.class.leads (span_of p) p.word)

  abbrev pub last_unit : IsPieceOf classes layout b → Unit
  last_unit p = unit_at (units_of p.class.words) (p.word + length (own_units p) - 1)

  -- where the classes go on behind it
  abbrev pub GoesOn : Program → ℕ → IsPieceOf classes layout b → List Frame → JvmState → guest.State
      → Type 0
  GoesOn program words p others y t =
      Resumes (site_of program words p others) (units_of p.class.words) p.class.leads (span_of p)
      (last_unit p) y t

  -- From its offset on, in a state that holds the guest's, the classes follow the turns of its units: to where they go on with the guest behind it,
  -- through its call of the system, or to its end. The offsets of the method at which they stand meanwhile rise, and lie in the block.
  abbrev pub Follows : Program → Order → ℕ → IsPieceOf classes layout b → List Frame → Workspace
      → guest.State → Type 0
  Follows program order words p others w x =
      FollowsInSpan (site_of program words p others) b.from b.to (piece_turns (own_units p) x).0
      (264 * (piece_turns (own_units p) x).0)
      (whole_weight order (code_of p)) (GoesOn program words p others)
      (stands (site_of program words p others) b.from w)
      (piece_turns (own_units p) x).1

  -- Meanwhile no method runs but that of the span and the helpers.
  abbrev pub IsAlone : (program : Program) (order : Order) (words : ℕ)
      (p : IsPieceOf classes layout b) (others : List Frame) (w : Workspace)
      (x : guest.State)
      → Follows program order words p others w x → Type 0
  IsAlone program order words p others w x follows =
      Stays (site_of program words p others) b.from b.to (piece_turns (own_units p) x).0
      (264 * (piece_turns (own_units p) x).0)
      (whole_weight order (code_of p)) (GoesOn program words p others)
      (stands (site_of program words p others) b.from w)
      (piece_turns (own_units p) x).1 follows

  -- What the classes have at its code matches the guest's state, for a guest with an order of bytes and this code.
  pub record Matches (order : Order) (code : ℕ → Option ℕ) (p : IsPieceOf classes layout b)
      (others : List Frame) (w : Workspace) (t : guest.State) : Type 0
    where
      -- the guest has begun, and no branch is pending
      pub guest_is : IsGuest order code t
      -- it stands at the first word
      pub pc : t.pc ≡ b.first
      -- the fields hold its registers, HI, LO and the link of LL, the arrays its memory, and there are no operands
      pub rests : IsAtRest w t
      -- with that of the span's method there are at most 32 frames
      pub few : length others ≤ 31

  -- The classes stand at the beginning of its code, and match.
  pub record AtBlock (program : Program) (order : Order) (code : ℕ → Option ℕ) (words : ℕ)
      (p : IsPieceOf classes layout b) (others : List Frame) (t : guest.State) (y : JvmState) : Type 0
    where
      pub workspace : Workspace
      pub matches : Matches order code p others workspace t
      pub is_there : y ≡ stands (site_of program words p others) b.from workspace

-- Each state to which a turn leads, whatever the answer, is that of a guest that has begun, with no branch pending.
abbrev pub LeavesGuest : Order → (ℕ → Option ℕ) → Turn guest.State → Type 0
LeavesGuest order code (moves t) = IsGuest order code t
LeavesGuest order code (ends e) = ⊤
LeavesGuest order code (leaves q e) = ⊤
LeavesGuest order code (asks q next) = (a : Answer) → IsGuest order code (next a)

-- What runs of a block, in a program for a guest with an order of bytes and this code.
pub record RunsWarm (program : Program) (order : Order) (code : ℕ → Option ℕ)
    {classes : List CodeClass} {layout : Layout} {b : BlockInfo}
    (p : IsPieceOf classes layout b) : Type 0 where
  -- Where the span's method begins while field pc has the block's address, it goes to the block's code, and changes nothing.
  pub entered : (words : ℕ) (others : List Frame) (w : Workspace) → w.fields pc_field ≡ int b.first
      → IsEntered (site_of program words p others) (units_of p.class.words) p.class.leads
      (span_of p) w b.from
  -- From there, where they match the guest's state, the classes follow the guest through the piece, and nothing else runs.
  pub follows : (words : ℕ) (others : List Frame) (w : Workspace) (x : guest.State)
      → Matches order code p others w x
      → Follows program order words p others w x
  pub alone : (words : ℕ) (others : List Frame) (w : Workspace) (x : guest.State)
      (at : Matches order code p others w x)
      → IsAlone program order words p others w x (follows words others w x at)
  -- Those turns are the guest's own, and behind them no branch is pending.
  pub made : (x : guest.State) → IsGuest order code x → x.pc ≡ b.first
      → AreTurns x (piece_turns (own_units p) x).0 (piece_turns (own_units p) x).1
      × LeavesGuest order code (piece_turns (own_units p) x).1
  -- The lines there read no field of a register twice, and write none twice.
  pub reads : (method : LinkedMethod) → program.method (method_of p) ≡ Some method
      → AtMostOnce (λ f. weigh_lines (gets f) (lines_between b.from b.to method.lines))
  pub writes : (method : LinkedMethod) → program.method (method_of p) ≡ Some method
      → AtMostOnce (λ f. weigh_lines (puts f) (lines_between b.from b.to method.lines))
  -- Where the piece does not end with JR or JALR, and the guest goes on at the first word of a block of the same span, the classes go on at that
  -- block's code, and match there: nothing is called, read or written between.
  pub goes_on : (words : ℕ) (others : List Frame) (y : JvmState) (t : guest.State) (d : BlockInfo)
      (q : IsPieceOf classes layout d)
      → GoesOn program words p others y t → IsGuest order code t → length others ≤ 31
      → jumps_by_register (last_unit p) ≡ false
      → d.span ≡ b.span → t.pc ≡ d.first
      → AtBlock program order code words q others t y

-- ---- all of it

-- the guest's run of so many turns over these answers, from its start
abbrev pub guest_run : Source → ℕ → List Answer → Run guest.State (List Answer)
guest_run source n answers =
    run_of guest_step.turn next_answer n (start_of (image_of source)) answers

-- The layout's blocks are all pieces of the classes, in the order of their addresses, and apart in each method. What runs of each is its code, and
-- wherever the guest comes to its first word, the classes come to it.
pub record IsWarm (source : Source) (layout : Layout) (program : Program) : Type 0 where
  -- the classes of code, with the words that begin the blocks of their ranges
  pub classes : List CodeClass
  -- the program has their methods, the helpers, and those that choose
  pub translated : IsTranslated false program (image_of source).order choose_number missing_number
      classes (image_of source).code
  -- the flags of a class are those of the words that begin blocks
  pub leaders : (n : ℕ) (c : CodeClass) → slice_get classes n ≡ Some c → (k : ℕ)
      → k < length c.words
      → c.leads k ≡ is_leader (units_of c.words) c.start k
  -- each block is a piece, and each piece has a block
  pub pieces : (i : ℕ) (b : BlockInfo) → slice_get layout.blocks.items i ≡ Some b
      → IsPieceOf classes layout b
  pub complete : (n : ℕ) (c : CodeClass) (j k : ℕ) → slice_get classes n ≡ Some c
      → j < length c.spans → (span_words c j).first ≤ k
      → k < (span_words c j).end → begins c.leads (span_words c j) k ≡ true
      → is_slot (units_of c.words) c.leads k ≡ false
      → HasBlock classes layout n j k
  -- they stand in the order of their addresses, and apart in the method of each span
  pub rise : (i j : ℕ) (b d : BlockInfo) → slice_get layout.blocks.items i ≡ Some b
      → slice_get layout.blocks.items j ≡ Some d → i < j
      → b.first < d.first
  pub apart : (i j : ℕ) (b d : BlockInfo) → slice_get layout.blocks.items i ≡ Some b
      → slice_get layout.blocks.items j ≡ Some d → i < j
      → b.span ≡ d.span
      → b.to ≤ d.from
  -- what runs of each is its code
  pub runs : (b : BlockInfo) (p : IsPieceOf classes layout b)
      → RunsWarm program (image_of source).order (image_of source).code p
  -- Where the guest has come to a block between units, the classes come to its code with the same calls, within the allowance for a turn more, and match.
  pub comes : (b : BlockInfo) (p : IsPieceOf classes layout b) (words n : ℕ) (answers : List Answer)
      → need (image_of source).mapped ≤ words → 1 ≤ n
      → (guest_run source n answers).outcome ≡ Going
      → (guest_run source n answers).last.pending ≡ None
      → (guest_run source n answers).last.pc ≡ b.first
      → ComesBy (jvm_turn program words) next_answer (allow (image_of source).mapped (n + 1))
      (λ y. (others : List Frame)
      × AtBlock program (image_of source).order (image_of source).code words p others
      (guest_run source n answers).last y)
      (guest_run source n answers).questions
      (jvm_start program) answers
