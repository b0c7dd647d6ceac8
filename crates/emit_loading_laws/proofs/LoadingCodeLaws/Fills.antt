-- The calls of the methods that fill pages.
use Rattle.std.proofs.Common.{◌≡◌, ◌≢◌, ℕ, ◌+◌, ◌*◌, ◌<◌, ◌≤◌, Bool, false, if◌then◌else◌, List, [], ◌∷◌, ◌++◌, length, map, Option, refl, ap, ◌∙◌, sym, subst, arith}
use Rattle.std.specs.List.{All, range_with_len}
use Rattle.std.proofs.lemmas.List.Elements.{All-head, All-tail, All-weaker}
use Rattle.std.proofs.lemmas.List.FromFn.{fill_by_all}
use Rattle.jvm_definition.specs.declared.kind.Kind.{Kind}
use Rattle.jvm_definition.specs.declared.linked_method.LinkedMethod.{LinkedMethod}
use Rattle.jvm_definition.specs.declared.value.Value.{Value}
use Rattle.jvm_definition.specs.declared.value.Value.TheVariants.{Array as array}
use Rattle.jvm_definition.specs.declared.instruction.Instruction.{Instruction}
use Rattle.jvm_definition.specs.declared.instruction.Instruction.TheVariants.{Call}
use Rattle.jvm_definition.specs.Program.{Program}
use Rattle.jvm_definition.specs.Values.{Heap}
use Rattle.jvm_definition.specs.Effect.{Workspace, enters, instruction_effect, calls, arguments, last_first, with_operands}
use Rattle.jvm_definition.specs.Step.{Frame, frame_placed}
use Rattle.jvm_definition_laws.specs.Stretch.{body_workspace}
use Rattle.emit_steps.specs.declared.step.Step.{Step}
use Rattle.emit_steps.specs.Placing.{LiesAt}
use Rattle.emit_layout.specs.FieldNumbers.{readable_field}
use Rattle.emit_loading.specs.declared.page_slot.PageSlot.{PageSlot}
use Rattle.emit_loading.specs.Parts.{call}
use Rattle.emit_loading.specs.Words.{words_code}
use Rattle.emit_loading.specs.Filling.{fill_code}
use Rattle.data_strings.specs.Texts.{page_text}
use Rattle.emit_paths_laws.specs.Classes.{reads, switches, entries}
use Rattle.emit_paths_laws.specs.Paths.{weigh, waiting_behind}
use Rattle.emit_steps.specs.Laws.{PartsLie}
use Rattle.emit_paths_laws.specs.Laws.{CodeIsPathElsewhere}
use Rattle.emit_loading_laws.specs.Texts.{AreWords, int_at}
use Rattle.emit_loading_laws.specs.Leading.{IsMethod}
use Rattle.emit_loading_laws.specs.Filled.{HoldsPages, HasText, with_page_ints, filled}
use Rattle.emit_loading_laws.proofs.FillingLaws.Reading.{over_all}
use Rattle.emit_loading_laws.proofs.FillingLaws.Spelling.{text-spells}
use Rattle.emit_loading_laws.proofs.FillingLaws.Filling.{fills-pages}
use Rattle.emit_loading_laws.proofs.FillingLaws.Held.{held-stays}
use Rattle.emit_loading_laws.proofs.FillingLaws.Calling.{call-leads}
use Rattle.emit_loading_laws.specs.Quiet.{Quietly, ComesTo}
use Rattle.emit_loading_laws.specs.Loaded.{FillsApart, Filler, IsFiller, HasPage, numbers_of, slots_of, filler_turns, fillers_turns}
use Rattle.emit_loading_laws.proofs.LoadingCodeLaws.Quietly.{quiet-join, quiet-wider, quiet-itself}
use Rattle.emit_loading_laws.proofs.LoadingCodeLaws.Texts.{times-none, plus-none}

-- ---- the words of texts by pages in place of slots

-- a page, named by its own number
abbrev pub by_page : PageSlot → PageSlot
by_page s = record { page = s.page; slot = s.page }

-- the words that a text spells
spelled : Program → ℕ → ℕ → List ℕ
spelled program class slot = map (λ k. int_at (program.characters class slot) (5 * k)) (range_with_len 0 1024)

spells : (program : Program) (class slot : ℕ) (given : List ℕ) → program.characters class slot ≡ page_text given → AreWords given → length given ≡ 1024 → given ≡ spelled program class slot
unfolding spelled
spells program class slot given is are long =
    fill_by_all (λ k. int_at (program.characters class slot) (5 * k)) given 1024 0 long
    (λ k within. sym (ap (λ chars. int_at chars (5 * k)) is ∙ text-spells given k are (omega (arith, long, within))))

same-filled : (places : ℕ → Option ℕ) (given page_words : ℕ → List ℕ) (slots : List PageSlot) (heap : Heap) → All (λ (s : PageSlot). given s.slot ≡ page_words s.page) slots → filled places given heap slots ≡ filled places page_words heap (map by_page slots)
same-filled places given page_words [] heap same = refl
same-filled places given page_words (s ∷ slots) heap same =
    ap (λ words. filled places given (with_page_ints heap (places s.page) words) slots) (All-head (λ (s : PageSlot). given s.slot ≡ page_words s.page) s slots same)
    ∙ same-filled places given page_words slots (with_page_ints heap (places s.page) (page_words s.page)) (All-tail (λ (s : PageSlot). given s.slot ≡ page_words s.page) s slots same)

joined-filled : (places : ℕ → Option ℕ) (page_words : ℕ → List ℕ) (first second : List PageSlot) (heap : Heap) → filled places page_words heap (map by_page (first ++ second)) ≡ filled places page_words (filled places page_words heap (map by_page first)) (map by_page second)
joined-filled places page_words [] second heap = refl
joined-filled places page_words (s ∷ first) second heap =
    joined-filled places page_words first second (with_page_ints heap (places s.page) (page_words s.page))

-- ---- the code is quiet

five-nones : (a : ℕ) → a ≡ 0 → 0 + (0 + (0 + (0 + (0 + a)))) ≡ 0
five-nones a e = omega (arith, e)

filled-entries : (is_span : ℕ → Bool) (slots : List PageSlot) (class h : ℕ) → is_span h ≡ false → weigh (entries is_span) (fill_code slots class h) ≡ 0
filled-entries is_span [] class h none = refl
filled-entries is_span (s ∷ slots) class h none =
    let rest = filled-entries is_span slots class h none in
    let one : entries is_span (Call h) ≡ 0 = ap (λ b. if b then 1 else 0) none in
    omega (arith, one, rest)

filled-reads : (slots : List PageSlot) (class h : ℕ) → weigh reads (fill_code slots class h) ≡ 0
filled-reads [] class h = refl
filled-reads (s ∷ slots) class h =
    five-nones (weigh reads (fill_code slots class h)) (filled-reads slots class h)

filled-switches : (slots : List PageSlot) (class h : ℕ) → weigh switches (fill_code slots class h) ≡ 0
filled-switches [] class h = refl
filled-switches (s ∷ slots) class h =
    five-nones (weigh switches (fill_code slots class h)) (filled-switches slots class h)

-- ---- the calls

pub called : (program : Program) (words h : ℕ) (w : Workspace) → IsMethod program h [] → instruction_effect program words (Call h) w ≡ enters h [] w
called program words h w is =
    ap (λ (method : Option LinkedMethod). calls h method w) is.there
    ∙ ap (λ (parameters : List Kind). arguments w.heap (last_first parameters []) w.operands [] (λ given rest. enters h given (with_operands w rest))) is.parameters_are

module _ (paths : CodeIsPathElsewhere) (parts : PartsLie) (program : Program) (words own m : ℕ) (is_span : ℕ → Bool) (table : ℕ) (places : ℕ → Option ℕ) (page_words : ℕ → List ℕ) (are : (n : ℕ) → AreWords (page_words n)) (long : (n : ℕ) → length (page_words n) ≡ 1024) (locals : ℕ → Value) (operands : List Value) (fields : ℕ → Value) (others : List Frame) (differ : own ≢ m) (table_is : fields readable_field ≡ array table) (few : length others < 61) (rest : List Step) where
  abbrev stands : Heap → Workspace
  stands heap = over_all locals operands fields heap

  text-there : (class : ℕ) (s : PageSlot) → HasPage program class page_words s → HasText program class (spelled program class) s
  text-there class s has =
      let same = spells program class s.slot (page_words s.page) has.spells (are s.page) (long s.page) in
      let size = long s.page in
      record {
        below = has.below;
        spells = has.spells ∙ ap page_text same;
        are_words = subst AreWords same (are s.page);
        few = subst (λ (given : List ℕ). length given ≤ 1024) same (omega (arith, size));
      }

  -- a call
  one-filled : (behind : List Step) (f : Filler) (at : ℕ) (heap : Heap) → IsFiller program m page_words f → FillsApart is_span f → LiesAt program own at (call f.number ∷ behind) → HoldsPages heap table places → ComesTo program words own m is_span (filler_turns f) behind (frame_placed own at (stands heap) others) (stands (filled places page_words heap (map by_page f.slots))) others
  one-filled behind f at heap is none lies held =
      let w = stands heap in
      let slots = f.slots in
      let given = spelled program f.class in
      let has = All-weaker (HasPage program f.class page_words) (HasText program f.class given) (text-there f.class) slots is.has in
      let same = All-weaker (HasPage program f.class page_words) (λ (s : PageSlot). given s.slot ≡ page_words s.page) (λ s h. sym (spells program f.class s.slot (page_words s.page) h.spells (are s.page) (long s.page))) slots is.has in
      let back = fills-pages paths parts program words f.number m f.class f.puts table places given slots (body_workspace [] w) (waiting_behind own at f.number w) others is.apart is.puts_apart is.fills_lies is.puts_is is.puts_lies table_is held has (omega (arith, few)) in
      let total : (Instruction → ℕ) → ℕ = λ weight. weigh weight (fill_code slots f.class f.puts) + length slots * (1025 * weigh weight words_code) in
      let filled-none : (weight : Instruction → ℕ) → weight (Call f.number) ≡ 0 → weigh weight (fill_code slots f.class f.puts) ≡ 0 → weigh weight words_code ≡ 0 → weight (Call f.number) + total weight ≡ 0 =
      λ weight one all body.
      plus-none (weight (Call f.number)) (total weight) one (plus-none (weigh weight (fill_code slots f.class f.puts)) (length slots * (1025 * weigh weight words_code)) all
      (times-none (length slots) (1025 * weigh weight words_code) (times-none 1025 (weigh weight words_code) body))) in
      let reached = call-leads program words own m at f.number f.number (42000 * length slots + 1) total w w [] others (filled places given heap slots) differ (lies.0, tt) (called program words f.number w is.fills) (omega (arith, few)) back in
      record {
        at = at + 3;
        lies = lies.1;
        quietly = subst (λ (last : Heap). Quietly program words m is_span (filler_turns f) (frame_placed own at w others) (frame_placed own (at + 3) (stands last) others)) (same-filled places given page_words slots heap same)
            (quiet-wider program words m is_span (1 + (42000 * length slots + 1)) (filler_turns f) (frame_placed own at w others) (frame_placed own (at + 3) (stands (filled places given heap slots)) others) (omega arith)
            (record {
              total = λ weight. weight (Call f.number) + total weight;
              reaches = reached;
              quiet = record {
                no_reads = filled-none reads refl (filled-reads slots f.class f.puts) refl;
                no_switches = filled-none switches refl (filled-switches slots f.class f.puts) refl;
                no_entries = filled-none (entries is_span) (ap (λ b. if b then 1 else 0) none.0) (filled-entries is_span slots f.class f.puts none.1) refl;
              };
            }));
      }

  -- all of them
  pub all-filled : (fillers : List Filler) (at : ℕ) (heap : Heap) → All (IsFiller program m page_words) fillers → All (FillsApart is_span) fillers → LiesAt program own at (map call (numbers_of fillers) ++ rest) → HoldsPages heap table places → ComesTo program words own m is_span (fillers_turns fillers) rest (frame_placed own at (stands heap) others) (stands (filled places page_words heap (map by_page (slots_of fillers)))) others
  all-filled [] at heap are_fillers none lies held = record {
    at = at;
    lies = lies;
    quietly = quiet-itself program words m is_span (frame_placed own at (stands heap) others);
  }
  all-filled (f ∷ fillers) at heap are_fillers none lies held =
      let behind = map call (numbers_of fillers) ++ rest in
      let first = one-filled behind f at heap (All-head (IsFiller program m page_words) f fillers are_fillers) (All-head (FillsApart is_span) f fillers none) lies held in
      let heap_then = filled places page_words heap (map by_page f.slots) in
      let next = all-filled fillers first.at heap_then (All-tail (IsFiller program m page_words) f fillers are_fillers) (All-tail (FillsApart is_span) f fillers none) first.lies (held-stays places page_words (map by_page f.slots) heap table held) in
      record {
        at = next.at;
        lies = next.lies;
        quietly = subst (λ (last : Heap). Quietly program words m is_span (fillers_turns (f ∷ fillers)) (frame_placed own at (stands heap) others) (frame_placed own next.at (stands last) others)) (sym (joined-filled places page_words f.slots (slots_of fillers) heap))
            (quiet-join program words m is_span (filler_turns f) (fillers_turns fillers) (frame_placed own at (stands heap) others) (frame_placed own first.at (stands heap_then) others) (frame_placed own next.at (stands (filled places page_words heap_then (map by_page (slots_of fillers)))) others) first.quietly next.quietly);
      }
