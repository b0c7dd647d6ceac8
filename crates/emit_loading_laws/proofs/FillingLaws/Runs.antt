-- The loops that make pages, as paths.
use Rattle.std.proofs.Common.{◌≡◌, ◌≢◌, ℕ, zero, suc, ◌+◌, ◌-◌, ◌*◌, ◌/◌, ◌%◌, ◌^◌, ◌<◌, ◌≤◌, bit_and, int_lt, not, Bool, true, false, if◌then◌else◌, List, [], ◌∷◌, ◌++◌, length, slice_get, flat_map, All, Option, Some, refl, ap, subst, ◌∙◌, sym, arith, length-append, mul-le-mul_left}
use Rattle.std.proofs.lemmas.Bool.{lt-ltb, le-ltb}
use Rattle.std.proofs.lemmas.Nat.{and_mask}
use Rattle.std.proofs.lemmas.List.Elements.{All-head, All-tail}
use Rattle.run_definition.specs.Words.{signed_of}
use Rattle.elf_image_parts.specs.declared.page_run.PageRun.{PageRun}
use Rattle.elf_image_parts.specs.Runs.{run_text, text_of, run_pages, IsRun}
use Rattle.jvm_definition.specs.declared.value.Value.{Value}
use Rattle.jvm_definition.specs.declared.value.Value.TheVariants.{Int as int, Array as array, Text as text}
use Rattle.jvm_definition.specs.declared.instruction.Instruction.{Instruction}
use Rattle.jvm_definition.specs.Program.{Program}
use Rattle.jvm_definition.specs.Values.{Heap, is_ints, with_page}
use Rattle.jvm_definition.specs.Effect.{Workspace}
use Rattle.jvm_definition.specs.Step.{JvmState, Frame, frame_placed}
use Rattle.emit_steps.specs.declared.step.Step.{Step}
use Rattle.emit_steps.specs.declared.step.Step.TheVariants.{Leaves}
use Rattle.emit_steps.specs.Widths.{bytes_before}
use Rattle.emit_steps.specs.Outcomes.{Outcome, beyond, left, outcome, outcome_from}
use Rattle.emit_steps.specs.Placing.{LiesAt}
use Rattle.emit_steps.specs.Laws.{PartsLie}
use Rattle.emit_paths_laws.specs.Laws.{CodeIsPathElsewhere}
use Rattle.emit_layout.specs.FieldNumbers.{page_count, readable_field, writable_field}
use Rattle.emit_steps.specs.Returning.{returns}
use Rattle.emit_loading.specs.Parts.{ended_code}
use Rattle.emit_loading.specs.Pages.{begun_code, run_code, runs_body, next_code, writable_code, pages_code, pages_offset, runs_offset}
use Rattle.emit_paths_laws.specs.Paths.{weigh}
use Rattle.emit_paths_laws.proofs.Joining.{path-wider}
use Rattle.emit_paths_laws.proofs.Weighing.{weigh-both}
use Rattle.emit_loading_laws.specs.Leading.{Reaches, LeadsBack}
use Rattle.emit_loading_laws.specs.MadePages.{HasTables, with_new_page, with_made, made, with_place, with_place_if}
use Rattle.emit_loading_laws.proofs.FillingLaws.Spelling.{get-behind}
use Rattle.emit_loading_laws.proofs.FillingLaws.Reading.{laters, over_all, with_int_in, compared, goes-on, has-ended}
use Rattle.emit_loading_laws.proofs.FillingLaws.Returning.{leaves-path, returns-path}
use Rattle.emit_loading_laws.proofs.FillingLaws.Calling.{reaches-join, reaches-wider}
use Rattle.emit_loading_laws.proofs.FillingLaws.Filling.{one-more}
use Rattle.emit_loading_laws.proofs.FillingLaws.Making.{run_read, next_target, pages_rest, reads-run, makes, shares, passes-over, goes-next}
use Rattle.emit_loading_laws.proofs.FillingLaws.Tables.{array-there, readable-there, writable-there, page-found, tables-stay, used-made, made-joined, used-all, from_page, from-pages, from-long}

-- the code behind the method's first two steps
abbrev pub runs_code : List Step
runs_code = ended_code 0 1 (length runs_body) ++ (runs_body ++ returns ∷ [])

-- ---- a page

module _ (program : Program) (words class slot : ℕ) (fields : ℕ → Value) (operands : List Value) (readable writable : ℕ) (readable_is : fields readable_field ≡ array readable) (writable_is : fields writable_field ≡ array writable) where
  abbrev pub over : (ℕ → Value) → Heap → Workspace
  over locals heap = over_all locals operands fields heap

  module _ (locals : ℕ → Value) (heap : Heap) (readable_pages writable_pages : ℕ → Option ℕ) (has : HasTables heap readable writable readable_pages writable_pages) (page last c : ℕ) (b : Bool) (below : page < page_count) (room : heap.used + 1026 ≤ words) (c_is : locals 2 ≡ int c) (page_is : locals 3 ≡ int page) (last_is : locals 4 ≡ int last) (test : int_lt (signed_of last) (signed_of (page + 1)) ≡ b) where
    -- it is made, in so many instructions
    pub page-made : (w : Bool) → int_lt (signed_of c) (signed_of 128) ≡ not w → (t : ℕ) × (t ≤ 19) × (outcome program words pages_rest (over locals heap) ≡ left t (next_target b) (over (with_int_in locals 3 (page + 1)) (with_made readable writable heap page w)))
    page-made false small =
        let first = with_new_page heap readable page in
        let rest = next_code pages_offset ++ (Leaves runs_offset ∷ returns ∷ []) in (
          13,
          omega arith,
          makes program words class slot fields readable writable readable_pages writable_pages heap has readable_is writable_is page below locals operands page_is (writable_code ++ rest) room
              ∙ ap (laters 5)
              (passes-over program words class slot fields readable writable page readable_is writable_is below locals operands page_is c c_is first rest 5 (next_target b) (over (with_int_in locals 3 (page + 1)) first) small
              (goes-next program words class slot fields readable writable page readable_is writable_is below locals operands page_is c c_is first last b last_is test)),
        )
    page-made true large =
        let first = with_new_page heap readable page in
        let both = with_page first writable page (Some heap.used) in
        let rest = next_code pages_offset ++ (Leaves runs_offset ∷ returns ∷ []) in (
          19,
          omega arith,
          makes program words class slot fields readable writable readable_pages writable_pages heap has readable_is writable_is page below locals operands page_is (writable_code ++ rest) room
              ∙ ap (laters 5)
              (shares program words class slot fields readable writable page readable_is writable_is below locals operands page_is c c_is first heap.used (with_place readable_pages page heap.used) writable_pages rest large
              (readable-there readable writable readable_pages writable_pages heap has page)
              (page-found readable writable readable_pages writable_pages heap has page)
              (ap is_ints (array-there readable writable readable_pages writable_pages heap has page))
              (writable-there readable writable readable_pages writable_pages heap has page))
              ∙ ap (laters 14) (goes-next program words class slot fields readable writable page readable_is writable_is below locals operands page_is c c_is both last b last_is test),
        )

-- ---- the pages of a run

abbrev beyond_all : Outcome → Outcome
beyond_all o = beyond (beyond (beyond (beyond (beyond (beyond (beyond (beyond (beyond (beyond (beyond (beyond (beyond (beyond (beyond (beyond (beyond (beyond (beyond (beyond (beyond (beyond (beyond (beyond (beyond (beyond (beyond o))))))))))))))))))))))))))

-- what holds of the local variables at a page
record AtPage (class slot n c page last : ℕ) (locals : ℕ → Value) : Type 0 where
  text_is : locals 0 ≡ text class slot
  place_is : locals 1 ≡ int n
  first_is : locals 2 ≡ int c
  page_is : locals 3 ≡ int page
  last_is : locals 4 ≡ int last

module _ (paths : CodeIsPathElsewhere) (program : Program) (words own m class slot : ℕ) (fields : ℕ → Value) (operands : List Value) (readable writable : ℕ) (readable_is : fields readable_field ≡ array readable) (writable_is : fields writable_field ≡ array writable) (frames : List Frame) (differ : own ≢ m) (lies : LiesAt program own 2 runs_code) where
  abbrev stands : (ℕ → Value) → Heap → Workspace
  stands locals heap = over_all locals operands fields heap

  -- at the head of the loop over the runs
  abbrev head : (ℕ → Value) → Heap → JvmState
  head locals heap = frame_placed own 2 (stands locals heap) frames

  abbrev weighing : ℕ → (Instruction → ℕ) → ℕ
  weighing n weight = n * weigh weight runs_code

  -- pages were made, and the method stands at that head
  record Done (n most passes : ℕ) (x : JvmState) (heap : Heap) : Type 0 where
    locals : ℕ → Value
    text_is : locals 0 ≡ text class slot
    place_is : locals 1 ≡ int n
    readable_pages : ℕ → Option ℕ
    writable_pages : ℕ → Option ℕ
    tables : HasTables heap readable writable readable_pages writable_pages
    reaches : Reaches program words m most (weighing passes) x (head locals heap)

  pages-made : (w : Bool) (j page last n c before k : ℕ) (start : Workspace) (locals : ℕ → Value) (heap : Heap) (readable_pages writable_pages : ℕ → Option ℕ) → HasTables heap readable writable readable_pages writable_pages → AtPage class slot n c page last locals → int_lt (signed_of c) (signed_of 128) ≡ not w → last ≡ page + j → last < page_count → heap.used + 1026 * suc j ≤ words → ((t target : ℕ) (u : Workspace) → outcome program words pages_rest (stands locals heap) ≡ left t target u → outcome_from program words runs_code k start ≡ left (before + t) target u) → Done n (before + 19 * suc j) (suc j) (frame_placed own (2 + bytes_before runs_code k) start frames) (made readable writable heap (from_page page w (suc j)))
  pages-made w zero page last n c before k start locals heap readable_pages writable_pages has at sort last_is high room enters =
      let test : int_lt (signed_of last) (signed_of (page + 1)) ≡ true = compared last (page + 1) (omega (arith, high)) (omega (arith, high, last_is)) ∙ lt-ltb last (page + 1) (omega (arith, last_is)) in
      let pass = page-made program words class slot fields operands readable writable readable_is writable_is locals heap readable_pages writable_pages has page last c true (omega (arith, high, last_is)) (omega (arith, room)) at.first_is at.page_is at.last_is test w sort in
      let heap_then = with_made readable writable heap page w in
      let locals_then = with_int_in locals 3 (page + 1) in
      let few = pass.1 in
      record {
        locals = locals_then;
        text_is = at.text_is;
        place_is = at.place_is;
        readable_pages = with_place readable_pages page heap.used;
        writable_pages = with_place_if w writable_pages page heap.used;
        tables = tables-stay readable writable readable_pages writable_pages heap has page w;
        reaches = record {
          turns = before + pass.0;
          in_time = omega (arith, few);
          path = λ low. path-wider program words m low low low low (before + pass.0) (λ weight. weigh weight runs_code) (weighing 1) (frame_placed own (2 + bytes_before runs_code k) start frames) (head locals_then heap_then) (omega arith) (omega arith) (λ weight still. omega arith) (leaves-path paths program words own m 2 differ runs_code lies k start frames (before + pass.0) 2 (stands locals_then heap_then) (enters pass.0 2 (stands locals_then heap_then) pass.2) low);
        };
      }
  pages-made w (suc j) page last n c before k start locals heap readable_pages writable_pages has at sort last_is high room enters =
      let test : int_lt (signed_of last) (signed_of (page + 1)) ≡ false = compared last (page + 1) (omega (arith, high)) (omega (arith, high, last_is)) ∙ le-ltb last (page + 1) (omega (arith, last_is)) in
      let pass = page-made program words class slot fields operands readable writable readable_is writable_is locals heap readable_pages writable_pages has page last c false (omega (arith, high, last_is)) (omega (arith, room)) at.first_is at.page_is at.last_is test w sort in
      let heap_then = with_made readable writable heap page w in
      let locals_then = with_int_in locals 3 (page + 1) in
      let few = pass.1 in
      let size = used-made readable writable heap page w in
      let x = frame_placed own (2 + bytes_before runs_code k) start frames in
      let between = frame_placed own 48 (stands locals_then heap_then) frames in
      let first : Reaches program words m (before + 19) (λ weight. weigh weight runs_code) x between =
      record {
        turns = before + pass.0;
        in_time = omega (arith, few);
        path = leaves-path paths program words own m 2 differ runs_code lies k start frames (before + pass.0) 48 (stands locals_then heap_then) (enters pass.0 48 (stands locals_then heap_then) pass.2);
      } in
      let next =
      pages-made w j (page + 1) last n c 0 27 (stands locals_then heap_then) locals_then heap_then (with_place readable_pages page heap.used) (with_place_if w writable_pages page heap.used) (tables-stay readable writable readable_pages writable_pages heap has page w) (record { text_is = at.text_is; place_is = at.place_is; first_is = at.first_is; page_is = refl; last_is = at.last_is }) sort (omega (arith, last_is)) high (omega (arith, room, size))
      (λ t target u e. ap beyond_all e ∙ (let same : t ≡ 0 + t = omega arith in ap (λ i. left i target u) same)) in
      let last_heap = made readable writable heap_then (from_page (page + 1) w (suc j)) in
      record {
        locals = next.locals;
        text_is = next.text_is;
        place_is = next.place_is;
        readable_pages = next.readable_pages;
        writable_pages = next.writable_pages;
        tables = next.tables;
        reaches = reaches-wider program words m (before + 19 + (0 + 19 * suc j)) (before + 19 * suc (suc j)) (λ weight. weigh weight runs_code + weighing (suc j) weight) (weighing (suc (suc j))) x (head next.locals last_heap) (omega arith) (λ weight still. let a = one-more (suc j) (weigh weight runs_code) in omega (arith, a)) (reaches-join program words m (before + 19) (0 + 19 * suc j) (λ weight. weigh weight runs_code) (weighing (suc j)) x between (head next.locals last_heap) first next.reaches);
      }

code-same : runs_code ≡ ended_code 0 1 (length runs_body) ++ (run_code ++ pages_rest)
code-same = refl

-- ---- the characters of a run

-- the first character tells whether the pages can be written, and the first page's high bits
sort-told : (high : ℕ) (w : Bool) → high < 128 → int_lt (signed_of (high + (if w then 128 else 0))) (signed_of 128) ≡ not w
sort-told high true small =
    compared (high + 128) 128 (omega (arith, small)) (omega arith) ∙ le-ltb (high + 128) 128 (omega arith)
sort-told high false small =
    compared (high + 0) 128 (omega (arith, small)) (omega arith) ∙ lt-ltb (high + 0) 128 (omega (arith, small))

high-told : (high : ℕ) (w : Bool) → high < 128 → bit_and (high + (if w then 128 else 0)) 127 * 4096 % 2 ^ 32 ≡ high * 4096
high-told high true small = let a = and_mask (high + 128) 7 in omega (arith, a, small)
high-told high false small = let a = and_mask (high + 0) 7 in omega (arith, a, small)

runs-long : (runs : List PageRun) → length (text_of runs) ≡ 3 * length runs
runs-long [] = refl
runs-long (run ∷ runs) = let rest = runs-long runs in omega (arith, rest)

-- ---- the runs

more-passes : (p r a : ℕ) → p * a + (r + 1) * a ≡ (p + r + 1) * a
more-passes p r a = grind arith

module _ (paths : CodeIsPathElsewhere) (program : Program) (words own m class slot : ℕ) (fields : ℕ → Value) (operands : List Value) (readable writable : ℕ) (readable_is : fields readable_field ≡ array readable) (writable_is : fields writable_field ≡ array writable) (caller : Frame) (others : List Frame) (differ : own ≢ m) (lies : LiesAt program own 2 runs_code) where
  abbrev chars : List ℕ
  chars = program.characters class slot

  abbrev at_heap : (ℕ → Value) → Heap → Workspace
  at_heap locals heap = over_all locals operands fields heap

  abbrev at_head : (ℕ → Value) → Heap → JvmState
  at_head locals heap = frame_placed own 2 (at_heap locals heap) (caller ∷ others)

  abbrev at_end : Heap → JvmState
  at_end heap = record { fields = fields; heap = heap; frames = caller ∷ others }

  abbrev passes : ℕ → (Instruction → ℕ) → ℕ
  passes n weight = n * weigh weight runs_code

  -- what holds at the head, when the pages of these runs were made and those of these others are left
  record AtRuns (locals : ℕ → Value) (past runs : List PageRun) : Type 0 where
    text_is : locals 0 ≡ text class slot
    place_is : locals 1 ≡ int (3 * length past)
    chars_are : chars ≡ text_of past ++ text_of runs
    are_runs : All IsRun runs
    few : length past + length runs < 2 ^ 29

  long : (locals : ℕ → Value) (past runs : List PageRun) → AtRuns locals past runs → length chars ≡ 3 * length past + 3 * length runs
  long locals past runs h =
      ap length h.chars_are ∙ length-append (text_of past) (text_of runs) ∙ (let a = runs-long past in let b = runs-long runs in omega (arith, a, b))

  character : (locals : ℕ → Value) (past runs : List PageRun) (j n : ℕ) → AtRuns locals past runs → n ≡ 3 * length past + j → slice_get chars n ≡ slice_get (text_of runs) j
  character locals past runs j n h e =
      ap (λ l. slice_get l n) h.chars_are
      ∙ get-behind (text_of past) (text_of runs) j n (let a = runs-long past in omega (arith, a, e))

  text-moved : (run : PageRun) (rest past : List PageRun) → text_of past ++ text_of (run ∷ rest) ≡ text_of (past ++ run ∷ []) ++ text_of rest
  text-moved run rest [] = refl
  text-moved run rest (x ∷ past) = ap (λ l. run_text x ++ l) (text-moved run rest past)

  -- a run is read
  enters : (n c x first last d e : ℕ) (locals : ℕ → Value) (heap : Heap) → locals 0 ≡ text class slot → locals 1 ≡ int n → int_lt (signed_of n) (signed_of (length chars)) ≡ true → n + 3 < 2 ^ 31 → slice_get chars n ≡ Some c → slice_get chars (n + 1) ≡ Some d → slice_get chars (n + 2) ≡ Some e → bit_and c 127 * 4096 % 2 ^ 32 ≡ x → (x + d) % 2 ^ 32 ≡ first → (first + e) % 2 ^ 32 ≡ last → (t target : ℕ) (u : Workspace) → outcome program words pages_rest (at_heap (run_read locals n c first last) heap) ≡ left t target u → outcome_from program words runs_code 0 (at_heap locals heap) ≡ left (27 + t) target u
  enters n c x first last d e locals heap text_is place_is more small c_is d_is e_is high first_is last_is t target u pages =
      let same : suc (suc (suc (suc (suc (suc (suc (suc (suc (suc (suc (suc (suc (suc (suc (suc (suc (suc (suc (suc (suc (suc (suc (suc (suc (suc (suc t)))))))))))))))))))))))))) ≡ 27 + t = omega arith in
      ap (λ l. outcome_from program words l 0 (at_heap locals heap)) code-same
      ∙ goes-on program words class slot fields 0 1 n (length runs_body) locals operands heap (run_code ++ pages_rest) text_is place_is more
      ∙ ap (laters 4) (reads-run program words class slot fields n c d e x first last locals operands heap pages_rest text_is place_is small c_is d_is e_is high first_is last_is)
      ∙ ap (laters 27) pages
      ∙ ap (λ i. left i target u) same

  -- and its pages are made
  run-made : (locals : ℕ → Value) (past rest : List PageRun) (run : PageRun) (heap : Heap) (readable_pages writable_pages : ℕ → Option ℕ) → HasTables heap readable writable readable_pages writable_pages → AtRuns locals past (run ∷ rest) → heap.used + 1026 * run.count ≤ words → Done paths program words own m class slot fields operands readable writable readable_is writable_is (caller ∷ others) differ lies (3 * length past + 3) (27 + 19 * run.count) run.count (at_head locals heap) (made readable writable heap (run_pages run))
  run-made locals past rest run heap readable_pages writable_pages has h room =
      let n = 3 * length past in
      let is_run = All-head IsRun run rest h.are_runs in
      let some = is_run.some in
      let low = is_run.low in
      let few = h.few in
      let high = run.first / 4096 in
      let c = high + (if run.writable then 128 else 0) in
      let small : high < 128 = omega (arith, low, some) in
      let last = run.first + (run.count - 1) in
      let size = long locals past (run ∷ rest) h in
      let more : int_lt (signed_of n) (signed_of (length chars)) ≡ true = compared n (length chars) (omega (arith, few)) (omega (arith, few, size)) ∙ lt-ltb n (length chars) (omega (arith, size)) in
      let locals_read = run_read locals n c run.first last in
      let there = pages-made paths program words own m class slot fields operands readable writable readable_is writable_is (caller ∷ others) differ lies run.writable (run.count - 1) run.first last (n + 3) c 27 0 (at_heap locals heap) locals_read heap readable_pages writable_pages has (record { text_is = h.text_is; place_is = refl; first_is = refl; page_is = refl; last_is = refl }) (sort-told high run.writable small) refl (omega (arith, low, some)) (omega (arith, room, some))
      (enters n c (high * 4096) run.first last (run.first % 4096) (run.count - 1) locals heap h.text_is h.place_is more (omega (arith, few)) (character locals past (run ∷ rest) 0 n h (omega arith)) (character locals past (run ∷ rest) 1 (n + 1) h refl) (character locals past (run ∷ rest) 2 (n + 2) h refl) (high-told high run.writable small) (omega (arith, low, some)) (omega (arith, low, some))) in
      let count : suc (run.count - 1) ≡ run.count = omega (arith, some) in
      let pages : from_page run.first run.writable (suc (run.count - 1)) ≡ run_pages run = ap (from_page run.first run.writable) count ∙ sym (from-pages run.first run.writable run.count) in
      subst (λ k. Done paths program words own m class slot fields operands readable writable readable_is writable_is (caller ∷ others) differ lies (n + 3) (27 + 19 * k) k (at_head locals heap) (made readable writable heap (run_pages run))) count
      (subst (λ xs. Done paths program words own m class slot fields operands readable writable readable_is writable_is (caller ∷ others) differ lies (n + 3) (27 + 19 * suc (run.count - 1)) (suc (run.count - 1)) (at_head locals heap) (made readable writable heap xs)) pages there)

  runs-made : (runs past : List PageRun) (locals : ℕ → Value) (heap : Heap) (readable_pages writable_pages : ℕ → Option ℕ) → HasTables heap readable writable readable_pages writable_pages → AtRuns locals past runs → heap.used + 1026 * length (flat_map run_pages runs) ≤ words → Reaches program words m (27 * length runs + 19 * length (flat_map run_pages runs) + 5) (passes (length (flat_map run_pages runs) + 1)) (at_head locals heap) (at_end (made readable writable heap (flat_map run_pages runs)))
  runs-made [] past locals heap readable_pages writable_pages has h room =
      let n = 3 * length past in
      let few = h.few in
      let size = long locals past [] h in
      let w = at_heap locals heap in
      let test : int_lt (signed_of n) (signed_of (length chars)) ≡ false = compared n (length chars) (omega (arith, few)) (omega (arith, few, size)) ∙ le-ltb n (length chars) (omega (arith, size)) in
      record {
        turns = 5;
        in_time = omega arith;
        path = λ low. path-wider program words m low low low low 5 (λ weight. weigh weight runs_code) (passes 1) (at_head locals heap) (at_end heap) (omega arith) (omega arith) (λ weight still. omega arith) (returns-path paths program words own m 2 differ runs_code lies 0 w caller others 4 47 w w (has-ended program words class slot fields 0 1 n (length runs_body) locals operands heap (runs_body ++ returns ∷ []) h.text_is h.place_is test) low);
      }
  runs-made (run ∷ rest) past locals heap readable_pages writable_pages has h room =
      let xs = run_pages run in
      let ys = flat_map run_pages rest in
      let both : length (xs ++ ys) ≡ length xs + length ys = length-append xs ys in
      let count : length xs ≡ run.count = ap length (from-pages run.first run.writable run.count) ∙ from-long run.first run.writable run.count in
      let first = run-made locals past rest run heap readable_pages writable_pages has h (omega (arith, room, both, count)) in
      let heap_then = made readable writable heap xs in
      let size : length (past ++ run ∷ []) ≡ length past + 1 = length-append past (run ∷ []) in
      let few = h.few in
      let used = used-all readable writable heap xs in
      let then_at : AtRuns first.locals (past ++ run ∷ []) rest = record { text_is = first.text_is; place_is = first.place_is ∙ (let same : 3 * length past + 3 ≡ 3 * length (past ++ run ∷ []) = omega (arith, size) in ap int same); chars_are = h.chars_are ∙ text-moved run rest past; are_runs = All-tail IsRun run rest h.are_runs; few = omega (arith, few, size) } in
      let next = runs-made rest (past ++ run ∷ []) first.locals heap_then first.readable_pages first.writable_pages first.tables then_at (omega (arith, room, both, used)) in
      let most = 27 * length rest + 19 * length ys + 5 in
      subst (λ last. Reaches program words m (27 * length (run ∷ rest) + 19 * length (xs ++ ys) + 5) (passes (length (xs ++ ys) + 1)) (at_head locals heap) (at_end last)) (sym (made-joined readable writable heap xs ys))
      (reaches-wider program words m (27 + 19 * run.count + most) (27 * length (run ∷ rest) + 19 * length (xs ++ ys) + 5) (λ weight. passes run.count weight + passes (length ys + 1) weight) (passes (length (xs ++ ys) + 1)) (at_head locals heap) (at_end (made readable writable heap_then ys)) (omega (arith, both, count))
      (λ weight still. let a = more-passes run.count (length ys) (weigh weight runs_code) in let same : run.count + length ys + 1 ≡ length (xs ++ ys) + 1 = omega (arith, both, count) in let b = ap (λ k. k * weigh weight runs_code) same in omega (arith, a, b))
      (reaches-join program words m (27 + 19 * run.count) most (passes run.count) (passes (length ys + 1)) (at_head locals heap) (at_head first.locals heap_then) (at_end (made readable writable heap_then ys)) first.reaches next))

-- ---- the method

begun-weighs : (p b r a : ℕ) → a ≡ b + r → b + (p + 1) * r ≤ (p + 2) * a
begun-weighs p b r a e =
    let less : (p + 1) * r ≤ (p + 1) * a = mul-le-mul_left (p + 1) (omega (arith, e)) in
    let more : (p + 1) * a + a ≡ (p + 2) * a = grind arith in
    omega (arith, e, less, more)

pub makes-pages : (paths : CodeIsPathElsewhere) (parts : PartsLie) (program : Program) (words own m class slot readable writable : ℕ) (readable_pages writable_pages : ℕ → Option ℕ) (runs : List PageRun) (w : Workspace) (caller : Frame) (others : List Frame) → own ≢ m → LiesAt program own 0 pages_code → program.characters class slot ≡ text_of runs → All IsRun runs → length runs < 2 ^ 29 → w.locals 0 ≡ text class slot → w.fields readable_field ≡ array readable → w.fields writable_field ≡ array writable → HasTables w.heap readable writable readable_pages writable_pages → w.heap.used + 1026 * length (flat_map run_pages runs) ≤ words → LeadsBack program words own m (27 * length runs + 19 * length (flat_map run_pages runs) + 7) (λ weight. (length (flat_map run_pages runs) + 2) * weigh weight pages_code) w caller others (made readable writable w.heap (flat_map run_pages runs))
makes-pages paths parts program words own m class slot readable writable readable_pages writable_pages runs w caller others differ lies chars_are are_runs few text_is readable_is writable_is has room =
    let lie = parts program own 0 begun_code runs_code refl lies in
    let frames = caller ∷ others in
    let locals = with_int_in w.locals 1 0 in
    let begun = over_all locals w.operands w.fields w.heap in
    let pages = flat_map run_pages runs in
    let most = 27 * length runs + 19 * length pages + 5 in
    let head = frame_placed own 2 begun frames in
    let end : JvmState = record { fields = w.fields; heap = made readable writable w.heap pages; frames = frames } in
    let first : Reaches program words m 2 (λ weight. weigh weight begun_code) (frame_placed own 0 w frames) head = record { turns = 2; in_time = omega arith; path = λ low. paths program words own m low 0 0 begun_code w frames differ lie.0 } in
    let loop = runs-made paths program words own m class slot w.fields w.operands readable writable readable_is writable_is caller others differ lie.1 runs [] locals w.heap readable_pages writable_pages has (record { text_is = text_is; place_is = refl; chars_are = chars_are; are_runs = are_runs; few = omega (arith, few) }) room in
    reaches-wider program words m (2 + most) (27 * length runs + 19 * length pages + 7) (λ weight. weigh weight begun_code + (length pages + 1) * weigh weight runs_code) (λ weight. (length pages + 2) * weigh weight pages_code) (frame_placed own 0 w frames) end (omega arith) (λ weight still. begun-weighs (length pages) (weigh weight begun_code) (weigh weight runs_code) (weigh weight pages_code) (weigh-both weight begun_code runs_code))
    (reaches-join program words m 2 most (λ weight. weigh weight begun_code) (λ weight. (length pages + 1) * weigh weight runs_code) (frame_placed own 0 w frames) head end first loop)
