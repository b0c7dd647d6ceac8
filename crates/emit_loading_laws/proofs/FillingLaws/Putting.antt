-- The loop that puts words into an array, as a path.
use Rattle.std.proofs.Common.{◌≡◌, ◌≢◌, ℕ, suc, ◌+◌, ◌*◌, ◌≤◌, int_lt, true, false, List, [], ◌∷◌, ◌++◌, length, slice_get, slice_index_or, Some, None, refl, ap, subst, ◌∙◌, sym, arith, append_assoc}
use Rattle.std.proofs.lemmas.Bool.{lt-ltb, le-ltb}
use Rattle.std.proofs.lemmas.List.{length-append, append-nil}
use Rattle.std.proofs.lemmas.List.Elements.{All-head, All-tail}
use Rattle.run_definition.specs.Words.{IsWord, signed_of}
use Rattle.jvm_definition.specs.declared.value.Value.{Value}
use Rattle.jvm_definition.specs.declared.value.Value.TheVariants.{Int as int, Null as null, Array as array, Text as text}
use Rattle.jvm_definition.specs.declared.instruction.Instruction.{Instruction}
use Rattle.jvm_definition.specs.Program.{Program}
use Rattle.jvm_definition.specs.Values.{Heap, ints, with_int}
use Rattle.jvm_definition.specs.Effect.{Workspace, gives}
use Rattle.jvm_definition.specs.Step.{JvmState, Frame, frame_placed}
use Rattle.emit_steps.specs.Outcomes.{Outcome, beyond, left, stopped, outcome}
use Rattle.emit_steps.specs.Placing.{LiesAt}
use Rattle.emit_paths_laws.specs.Laws.{CodeIsPathElsewhere}
use Rattle.emit_loading.specs.Words.{words_code}
use Rattle.data_strings.specs.Texts.{group, page_text}
use Rattle.emit_paths_laws.specs.Paths.{weigh, Path}
use Rattle.emit_paths_laws.proofs.Joining.{paths-join, path-wider}
use Rattle.emit_loading_laws.specs.Texts.{AreWords}
use Rattle.emit_loading_laws.specs.Arrays.{with_ints}
use Rattle.emit_loading_laws.specs.Leading.{LeadsBack}
use Rattle.emit_loading_laws.proofs.FillingLaws.Spelling.{five-spell, get-behind, text-long}
use Rattle.emit_loading_laws.proofs.FillingLaws.Reading.{laters, over_all, compared}
use Rattle.emit_loading_laws.proofs.FillingLaws.Passes.{word_put, loop_code, passes, ends, begun, array-there, no-array}
use Rattle.emit_loading_laws.proofs.FillingLaws.Fronts.{with-more, with-none, there-with}
use Rattle.emit_loading_laws.proofs.FillingLaws.Returning.{leaves-path, returns-path}

-- so many passes weigh one and the others
one-more : (k a : ℕ) → a + (k + 1) * a ≡ (suc k + 1) * a
one-more k a = grind arith

module _ (paths : CodeIsPathElsewhere) (program : Program) (words own m class slot p : ℕ) (old : ℕ → ℕ) (operands : List Value) (fields : ℕ → Value) (heap : Heap) (caller : Frame) (others : List Frame) (differ : own ≢ m) (lies : LiesAt program own 0 words_code) (there : heap.array_at p ≡ Some (ints 1024 old)) where
  abbrev chars : List ℕ
  chars = program.characters class slot

  -- when these words were put
  abbrev over : (ℕ → Value) → List ℕ → Workspace
  over locals done = over_all locals operands fields (with_ints heap p done)

  -- at the loop's head
  abbrev head : (ℕ → Value) → List ℕ → JvmState
  head locals done = frame_placed own 8 (over locals done) (caller ∷ others)

  abbrev final : List ℕ → JvmState
  final given = record { fields = fields; heap = with_ints heap p given; frames = caller ∷ others }

  abbrev weighing : ℕ → (Instruction → ℕ) → ℕ
  weighing n weight = n * weigh weight words_code

  -- what holds of the local variables when these words were put and these are left
  record AtHead (locals : ℕ → Value) (done rest : List ℕ) : Type 0 where
    array_is : locals 0 ≡ array p
    text_is : locals 1 ≡ text class slot
    number_is : locals 2 ≡ int (length done)
    place_is : locals 3 ≡ int (5 * length done)
    chars_are : chars ≡ page_text done ++ page_text rest
    words_are : AreWords rest
    few : length done + length rest ≤ 1024

  -- how long the text is
  long : (locals : ℕ → Value) (done rest : List ℕ) → AtHead locals done rest → length chars ≡ 5 * length done + 5 * length rest
  long locals done rest h =
      ap length h.chars_are ∙ length-append (page_text done) (page_text rest) ∙ (let a = text-long done in let b = text-long rest in omega (arith, a, b))

  character : (locals : ℕ → Value) (done rest : List ℕ) (j n : ℕ) → AtHead locals done rest → n ≡ 5 * length done + j → slice_get chars n ≡ slice_get (page_text rest) j
  character locals done rest j n h e =
      ap (λ l. slice_get l n) h.chars_are
      ∙ get-behind (page_text done) (page_text rest) j n (let a = text-long done in omega (arith, a, e))

  -- a pass
  passed : (locals : ℕ → Value) (done rest : List ℕ) (v : ℕ) → AtHead locals done (v ∷ rest) → outcome program words loop_code (over locals done) ≡ left 41 8 (over (word_put locals (length done) (5 * length done)) (done ++ v ∷ []))
  passed locals done rest v h =
      let n = 5 * length done in
      let k = length done in
      let few = h.few in
      let size = long locals done (v ∷ rest) h in
      let more : int_lt (signed_of n) (signed_of (length chars)) ≡ true = compared n (length chars) (omega (arith, few)) (omega (arith, few, size)) ∙ lt-ltb n (length chars) (omega (arith, size)) in
      let locals_then = word_put locals k n in
      passes program words class slot fields n (group v 4) (group v 3) (group v 2) (group v 1) (group v 0) locals (with_ints heap p done) h.text_is h.place_is (omega (arith, few))
      (character locals done (v ∷ rest) 0 n h (omega arith))
      (character locals done (v ∷ rest) 1 (n + 1) h refl)
      (character locals done (v ∷ rest) 2 (n + 2) h refl)
      (character locals done (v ∷ rest) 3 (n + 3) h refl)
      (character locals done (v ∷ rest) 4 (n + 4) h refl)
      p k (λ i. slice_index_or done i (old i)) operands h.array_is h.number_is (there-with heap p 1024 old done there) (omega (arith, few)) more
      ∙ ap (λ x. left 41 8 (over_all locals_then operands fields (with_int (with_ints heap p done) p k x))) (five-spell v (All-head IsWord v rest h.words_are))
      ∙ ap (λ y. left 41 8 (over_all locals_then operands fields y)) (with-more heap p done v)

  -- after it
  then-at : (locals : ℕ → Value) (done rest : List ℕ) (v : ℕ) → AtHead locals done (v ∷ rest) → AtHead (word_put locals (length done) (5 * length done)) (done ++ v ∷ []) rest
  then-at locals done rest v h =
      let size : length (done ++ v ∷ []) ≡ length done + 1 = length-append done (v ∷ []) in
      let few = h.few in
      record {
        array_is = h.array_is;
        text_is = h.text_is;
        number_is = ap int (sym size);
        place_is = ap int (omega (arith, size));
        chars_are = h.chars_are ∙ moved done;
        words_are = All-tail IsWord v rest h.words_are;
        few = omega (arith, size, few);
      }
    where
      moved : (done : List ℕ) → page_text done ++ page_text (v ∷ rest) ≡ page_text (done ++ v ∷ []) ++ page_text rest
      moved [] = refl
      moved (x ∷ done) =
          ap (λ l. group x 4 ∷ group x 3 ∷ group x 2 ∷ group x 1 ∷ group x 0 ∷ l) (moved done)

  -- behind the text
  ended-at : (locals : ℕ → Value) (done : List ℕ) → AtHead locals done [] → outcome program words loop_code (over locals done) ≡ stopped 4 41 (over locals done) (gives None (over locals done))
  ended-at locals done h =
      let n = 5 * length done in
      let few = h.few in
      let size = long locals done [] h in
      let test : int_lt (signed_of n) (signed_of (length chars)) ≡ false = compared n (length chars) (omega (arith, few)) (omega (arith, few, size)) ∙ le-ltb n (length chars) (omega (arith, size)) in
      ends program words class slot fields n locals operands (with_ints heap p done) h.text_is h.place_is test

  loops : (rest done : List ℕ) (locals : ℕ → Value) → AtHead locals done rest → (low : ℕ) → Path program words m low low (41 * length rest + 5) (weighing (length rest + 1)) (head locals done) (final (done ++ rest))
  loops [] done locals h low =
      let back = ap (λ o. beyond (beyond (beyond (beyond (beyond (beyond o)))))) (ended-at locals done h) in
      let way = returns-path paths program words own m 0 differ words_code lies 6 (over locals done) caller others 4 47 (over locals done) (over locals done) back low in
      subst (λ given. Path program words m low low 5 (weighing 1) (head locals done) (final given)) (sym (append-nil done))
      (path-wider program words m low low low low 5 (λ weight. weigh weight words_code) (weighing 1) (head locals done) (final done) (omega arith) (omega arith) (λ weight still. omega arith) way)
  loops (v ∷ rest) done locals h low =
      let locals_then = word_put locals (length done) (5 * length done) in
      let done_then = done ++ v ∷ [] in
      let goes = ap (λ o. beyond (beyond (beyond (beyond (beyond (beyond o)))))) (passed locals done rest v h) in
      let first = leaves-path paths program words own m 0 differ words_code lies 6 (over locals done) (caller ∷ others) 41 8 (over locals_then done_then) goes low in
      let next = loops rest done_then locals_then (then-at locals done rest v h) low in
      let turns : 41 + (41 * length rest + 5) ≡ 41 * length (v ∷ rest) + 5 = omega arith in
      subst (λ given. Path program words m low low (41 * length (v ∷ rest) + 5) (weighing (length (v ∷ rest) + 1)) (head locals done) (final given)) (append_assoc done (v ∷ []) rest)
      (subst (λ n. Path program words m low low n (weighing (length (v ∷ rest) + 1)) (head locals done) (final (done_then ++ rest))) turns
      (path-wider program words m low low low low (41 + (41 * length rest + 5)) (λ weight. weigh weight words_code + weighing (length rest + 1) weight) (weighing (length (v ∷ rest) + 1)) (head locals done) (final (done_then ++ rest)) (omega arith) (omega arith) (λ weight still. let a = one-more (length rest) (weigh weight words_code) in omega (arith, a))
      (paths-join program words m low low low 41 (41 * length rest + 5) (λ weight. weigh weight words_code) (weighing (length rest + 1)) (head locals done) (head locals_then done_then) (final (done_then ++ rest)) first next)))

  -- from the method's start
  module _ (locals : ℕ → Value) (array_is : locals 0 ≡ array p) (text_is : locals 1 ≡ text class slot) where
    abbrev start : JvmState
    start = frame_placed own 0 (over_all locals operands fields heap) (caller ∷ others)

    at-start : (given : List ℕ) → chars ≡ page_text given → AreWords given → length given ≤ 1024 → AtHead (begun locals) [] given
    at-start given chars_are words_are few = record {
      array_is = array_is;
      text_is = text_is;
      number_is = refl;
      place_is = refl;
      chars_are = chars_are;
      words_are = words_are;
      few = omega (arith, few);
    }

    begins : (o : Outcome) → outcome program words loop_code (over (begun locals) []) ≡ o → outcome program words words_code (over_all locals operands fields heap) ≡ laters 6 o
    begins o is =
        array-there program words p locals operands fields heap array_is
        ∙ ap (λ h. laters 6 (outcome program words loop_code (over_all (begun locals) operands fields h))) (with-none heap p)
        ∙ ap (laters 6) is

    whole : (given : List ℕ) → AtHead (begun locals) [] given → (low : ℕ) → Path program words m low low (41 * length given + 11) (weighing (length given + 1)) start (final given)
    whole [] h low =
        let v = over (begun locals) [] in
        let way = returns-path paths program words own m 0 differ words_code lies 0 (over_all locals operands fields heap) caller others 10 47 v v (begins (stopped 4 41 v (gives None v)) (ended-at (begun locals) [] h)) low in
        path-wider program words m low low low low 11 (λ weight. weigh weight words_code) (weighing 1) start (final []) (omega arith) (omega arith) (λ weight still. omega arith) way
    whole (v ∷ rest) h low =
        let locals_then = word_put (begun locals) 0 0 in
        let done_then = v ∷ [] in
        let first = leaves-path paths program words own m 0 differ words_code lies 0 (over_all locals operands fields heap) (caller ∷ others) 47 8 (over locals_then done_then) (begins (left 41 8 (over locals_then done_then)) (passed (begun locals) [] rest v h)) low in
        let next = loops rest done_then locals_then (then-at (begun locals) [] rest v h) low in
        let turns : 47 + (41 * length rest + 5) ≡ 41 * length (v ∷ rest) + 11 = omega arith in
        subst (λ n. Path program words m low low n (weighing (length (v ∷ rest) + 1)) start (final (v ∷ rest))) turns
        (path-wider program words m low low low low (47 + (41 * length rest + 5)) (λ weight. weigh weight words_code + weighing (length rest + 1) weight) (weighing (length (v ∷ rest) + 1)) start (final (v ∷ rest)) (omega arith) (omega arith) (λ weight still. let a = one-more (length rest) (weigh weight words_code) in omega (arith, a))
        (paths-join program words m low low low 47 (41 * length rest + 5) (λ weight. weigh weight words_code) (weighing (length rest + 1)) start (head locals_then done_then) (final (v ∷ rest)) first next))

    pub puts-words : (given : List ℕ) → chars ≡ page_text given → AreWords given → length given ≤ 1024 → LeadsBack program words own m (41 * length given + 11) (weighing (length given + 1)) (over_all locals operands fields heap) caller others (with_ints heap p given)
    puts-words given chars_are words_are few = record {
      turns = 41 * length given + 11;
      in_time = omega arith;
      path = whole given (at-start given chars_are words_are few);
    }

-- without an array
pub passes-over : (paths : CodeIsPathElsewhere) (program : Program) (words own m : ℕ) (w : Workspace) (caller : Frame) (others : List Frame) → own ≢ m → LiesAt program own 0 words_code → w.locals 0 ≡ null → LeadsBack program words own m 3 (λ weight. weigh weight words_code) w caller others w.heap
passes-over paths program words own m w caller others differ lies is = record {
  turns = 3;
  in_time = omega arith;
  path = returns-path paths program words own m 0 differ words_code lies 0 w caller others 2 47 w w (no-array program words w.locals w.operands w.fields w.heap is);
}
