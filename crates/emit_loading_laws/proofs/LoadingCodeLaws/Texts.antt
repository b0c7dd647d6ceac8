-- The code that gives texts to the method that makes pages.
use Rattle.std.proofs.Common.{◌≡◌, ◌≢◌, ℕ, ◌+◌, ◌*◌, ◌<◌, ◌≤◌, Bool, false, if◌then◌else◌, List, [], ◌∷◌, ◌++◌, length, flat_map, Option, refl, ap, ◌∙◌, sym, subst, arith}
use Rattle.std.proofs.lemmas.List.{length-append}
use Rattle.std.specs.List.{AllZip}
use Rattle.elf_image_parts.specs.declared.page_run.PageRun.{PageRun}
use Rattle.elf_image_parts.specs.Runs.{run_pages}
use Rattle.jvm_definition.specs.declared.kind.Kind.{Kind}
use Rattle.jvm_definition.specs.declared.kind.Kind.TheVariants as kinds
use Rattle.jvm_definition.specs.declared.linked_method.LinkedMethod.{LinkedMethod}
use Rattle.jvm_definition.specs.declared.value.Value.{Value}
use Rattle.jvm_definition.specs.declared.value.Value.TheVariants.{Array as array, Text as text}
use Rattle.jvm_definition.specs.declared.instruction.Instruction.{Instruction}
use Rattle.jvm_definition.specs.declared.instruction.Instruction.TheVariants.{Call}
use Rattle.jvm_definition.specs.Program.{Program}
use Rattle.jvm_definition.specs.Values.{Heap}
use Rattle.jvm_definition.specs.Effect.{Workspace, enters, instruction_effect, calls, arguments, last_first, with_operands}
use Rattle.jvm_definition.specs.Step.{Frame, frame_placed}
use Rattle.jvm_definition_laws.specs.Stretch.{body_workspace}
use Rattle.emit_steps.specs.declared.step.Step.{Step}
use Rattle.emit_steps.specs.Placing.{LiesAt}
use Rattle.emit_layout.specs.FieldNumbers.{readable_field, writable_field}
use Rattle.emit_loading.specs.Parts.{call}
use Rattle.emit_loading.specs.Filling.{push_text}
use Rattle.emit_loading.specs.Pages.{pages_code}
use Rattle.emit_loading.specs.Starting.{page_texts_code}
use Rattle.emit_paths_laws.specs.Classes.{reads, switches, entries}
use Rattle.emit_paths_laws.specs.Paths.{weigh, waiting_behind}
use Rattle.emit_steps.specs.Laws.{PartsLie}
use Rattle.emit_paths_laws.specs.Laws.{CodeIsPathElsewhere}
use Rattle.emit_loading_laws.specs.Leading.{IsMethod}
use Rattle.emit_loading_laws.specs.MadePages.{HasTables, made, readable_after, writable_after}
use Rattle.emit_loading_laws.proofs.FillingLaws.Reading.{over_all}
use Rattle.emit_loading_laws.proofs.FillingLaws.Calling.{call-leads}
use Rattle.emit_loading_laws.proofs.FillingLaws.Runs.{makes-pages}
use Rattle.emit_loading_laws.proofs.FillingLaws.Tables.{made-joined, used-all}
use Rattle.emit_loading_laws.proofs.FillingLaws.Told.{tables-after}
use Rattle.emit_loading_laws.specs.Quiet.{Quietly, ComesTo}
use Rattle.emit_loading_laws.specs.Loaded.{TellsRuns, pages_told, text_turns, texts_turns}
use Rattle.emit_loading_laws.proofs.LoadingCodeLaws.Quietly.{quiet-join, quiet-wider, quiet-itself, quiet-code}

pub times-none : (n a : ℕ) → a ≡ 0 → n * a ≡ 0
times-none n a e = ap (λ k. n * k) e ∙ omega arith

pub plus-none : (a b : ℕ) → a ≡ 0 → b ≡ 0 → a + b ≡ 0
plus-none a b d e = omega (arith, d, e)

called : (program : Program) (words h : ℕ) (w : Workspace) (class slot : ℕ) → IsMethod program h (kinds.Text ∷ []) → instruction_effect program words (Call h) (with_operands w (text class slot ∷ w.operands)) ≡ enters h (text class slot ∷ []) w
called program words h w class slot is =
    let v = with_operands w (text class slot ∷ w.operands) in
    ap (λ (method : Option LinkedMethod). calls h method v) is.there
    ∙ ap (λ (parameters : List Kind). arguments v.heap (last_first parameters []) v.operands [] (λ given rest. enters h given (with_operands v rest))) is.parameters_are

module _ (paths : CodeIsPathElsewhere) (parts : PartsLie) (program : Program) (words own m : ℕ) (is_span : ℕ → Bool) (pages readable writable : ℕ) (none : is_span pages ≡ false) (locals : ℕ → Value) (operands : List Value) (fields : ℕ → Value) (others : List Frame) (differ : own ≢ m) (apart : pages ≢ m) (is : IsMethod program pages (kinds.Text ∷ [])) (lies_there : LiesAt program pages 0 pages_code) (readable_is : fields readable_field ≡ array readable) (writable_is : fields writable_field ≡ array writable) (few : length others < 62) (rest : List Step) where
  abbrev stands : Heap → Workspace
  stands heap = over_all locals operands fields heap

  -- a text
  text-made : (behind : List Step) (slot at : ℕ) (runs : List PageRun) (heap : Heap) (readable_pages writable_pages : ℕ → Option ℕ) → TellsRuns program 0 slot runs → LiesAt program own at (push_text 0 slot ∷ call pages ∷ behind) → HasTables heap readable writable readable_pages writable_pages → heap.used + 1026 * length (flat_map run_pages runs) ≤ words → ComesTo program words own m is_span (text_turns runs) behind (frame_placed own at (stands heap) others) (stands (made readable writable heap (flat_map run_pages runs))) others
  text-made behind slot at runs heap readable_pages writable_pages tells lies has room =
      let lie = parts program own at (push_text 0 slot ∷ []) (call pages ∷ behind) refl lies in
      let there = at + 3 in
      let w = stands heap in
      let full = with_operands w (text 0 slot ∷ operands) in
      let xs = flat_map run_pages runs in
      let after = stands (made readable writable heap xs) in
      let most = 27 * length runs + 19 * length xs + 7 in
      let made-none : (weight : Instruction → ℕ) → weight (Call pages) ≡ 0 → weigh weight pages_code ≡ 0 → weight (Call pages) + (length xs + 2) * weigh weight pages_code ≡ 0 =
      λ weight one body. plus-none (weight (Call pages)) ((length xs + 2) * weigh weight pages_code) one (times-none (length xs + 2) (weigh weight pages_code) body) in
      let pushed : Quietly program words m is_span 1 (frame_placed own at w others) (frame_placed own there full others) = quiet-code paths program words own m is_span at 1 (push_text 0 slot ∷ []) w full others differ lie.0 refl (record { no_reads = refl; no_switches = refl; no_entries = refl }) in
      let back = makes-pages paths parts program words pages m 0 slot readable writable readable_pages writable_pages runs (body_workspace (text 0 slot ∷ []) w) (waiting_behind own there pages w) others apart lies_there tells.characters_are tells.are_runs tells.few refl readable_is writable_is has room in
      let made_there = call-leads program words own m there pages pages most (λ weight. (length xs + 2) * weigh weight pages_code) full w (text 0 slot ∷ []) others (made readable writable heap xs) differ (lie.1.0, tt) (called program words pages w 0 slot is) (omega (arith, few)) back in
      record {
        at = there + 3;
        lies = lie.1.1;
        quietly = quiet-wider program words m is_span (1 + (1 + most)) (text_turns runs) (frame_placed own at w others) (frame_placed own (there + 3) after others) (omega arith)
            (quiet-join program words m is_span 1 (1 + most) (frame_placed own at w others) (frame_placed own there full others) (frame_placed own (there + 3) after others) pushed
            (record {
              total = λ weight. weight (Call pages) + (length xs + 2) * weigh weight pages_code;
              reaches = made_there;
              quiet = record {
                no_reads = made-none reads refl refl;
                no_switches = made-none switches refl refl;
                no_entries = made-none (entries is_span) (ap (λ b. if b then 1 else 0) none) refl;
              };
            }));
      }

  -- all of them
  pub texts-made : (texts : List ℕ) (shares : List (List PageRun)) (at : ℕ) (heap : Heap) (readable_pages writable_pages : ℕ → Option ℕ) → AllZip (TellsRuns program 0) texts shares → LiesAt program own at (page_texts_code 0 pages texts ++ rest) → HasTables heap readable writable readable_pages writable_pages → heap.used + 1026 * length (pages_told shares) ≤ words → ComesTo program words own m is_span (texts_turns shares) rest (frame_placed own at (stands heap) others) (stands (made readable writable heap (pages_told shares))) others
  texts-made [] [] at heap readable_pages writable_pages tell lies has room = record {
    at = at;
    lies = lies;
    quietly = quiet-itself program words m is_span (frame_placed own at (stands heap) others);
  }
  texts-made [] (runs ∷ shares) at heap readable_pages writable_pages tell lies has room = absurd tell
  texts-made (slot ∷ texts) [] at heap readable_pages writable_pages tell lies has room = absurd tell
  texts-made (slot ∷ texts) (runs ∷ shares) at heap readable_pages writable_pages tell lies has room =
      let xs = flat_map run_pages runs in
      let ys = pages_told shares in
      let both : length (xs ++ ys) ≡ length xs + length ys = length-append xs ys in
      let heap_then = made readable writable heap xs in
      let used = used-all readable writable heap xs in
      let first = text-made (page_texts_code 0 pages texts ++ rest) slot at runs heap readable_pages writable_pages tell.0 lies has (omega (arith, room, both)) in
      let tables = tables-after readable writable xs heap readable_pages writable_pages has in
      let next = texts-made texts shares first.at heap_then (readable_after readable_pages heap.used xs) (writable_after writable_pages heap.used xs) tell.1 first.lies tables (omega (arith, room, both, used)) in
      record {
        at = next.at;
        lies = next.lies;
        quietly = subst (λ (last : Heap). Quietly program words m is_span (texts_turns (runs ∷ shares)) (frame_placed own at (stands heap) others) (frame_placed own next.at (stands last) others)) (sym (made-joined readable writable heap xs ys))
            (quiet-join program words m is_span (text_turns runs) (texts_turns shares) (frame_placed own at (stands heap) others) (frame_placed own first.at (stands heap_then) others) (frame_placed own next.at (stands (made readable writable heap_then ys)) others) first.quietly next.quietly);
      }
