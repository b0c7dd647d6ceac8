-- An access by a method that loads: by its tests it calls the method that ends the run, or goes on with the word at the address.
use Rattle.std.proofs.Common.{◌≡◌, ℕ, ◌+◌, ◌/◌, ◌%◌, ◌^◌, ◌<◌, ◌≤◌, ◌==◌, Bool, true, false, ◌⊎◌, inl, inr, List, [], ◌∷◌, ◌++◌, length, Option, Some, None, is_none, refl, ap, sym, ◌∙◌, arith, lit≤, append_assoc, length-append}
use Rattle.std.proofs.lemmas.Bool.{eqb-true, eqb-false, cases_lt}
use Rattle.run_definition.specs.Words.{IsWord, lane_of_word}
use Rattle.run_definition.specs.declared.order.Order.{Order}
use Rattle.run_definition.specs.Memory.{Memory}
use Rattle.mips_definition.specs.Effect.{read_unmapped_fault, read_align_fault}
use Rattle.jvm_definition.specs.declared.stack_name.StackName.TheVariants.{Pop}
use Rattle.jvm_definition.specs.declared.value.Value.{Value}
use Rattle.jvm_definition.specs.declared.value.Value.TheVariants.{Int as int, Null as null, Array as array}
use Rattle.jvm_definition.specs.Program.{Program}
use Rattle.jvm_definition.specs.Values.{Heap}
use Rattle.jvm_definition.specs.Effect.{Workspace, InstructionEffect, gives, enters}
use Rattle.jvm_definition_laws.specs.Stretch.{body_workspace}
use Rattle.emit_steps.specs.declared.step.Step.{Step}
use Rattle.emit_steps.specs.Outcomes.{Outcome, outcome, outcome_from}
use Rattle.emit_layout.specs.FieldNumbers.{page_count, readable_field}
use Rattle.mem_helpers.specs.Parts.{page_code, stack, unfit_code}
use Rattle.mem_helpers.specs.Loads as loads
use Rattle.mem_helpers.specs.Loads.{word_code, read_fault_code, read_fault_number, loading}
use Rattle.emit_simulation_laws.specs.Match.{HoldsMemory}
use Rattle.emit_simulation_laws.proofs.ReadLemmas.{lane-read, unread, high-unread}
use Rattle.emit_simulation_laws.specs.Helpers.{IsHelper}
use Rattle.mem_helpers_laws.specs.Loading.{FaultsAt, LoadsAs}
use Rattle.mem_helpers_laws.proofs.LoadLaws.Coming.{Comes, laters, Comes-after, Comes-behind}
use Rattle.mem_helpers_laws.proofs.LoadLaws.Widths.{over_all, IsWidth}
use Rattle.mem_helpers_laws.proofs.LoadLaws.Finding.{page-found, page-missing, word-found, fault-called, fault-called-behind, ends_in, ends-unaligned, ends-unmapped}

-- the word that memory has where an address is
pub record IsWordAt (memory : Memory) (a v : ℕ) : Type 0 where
  pub word : IsWord v
  pub lane : (x : ℕ) → x / 4 ≡ a / 4 → memory.byte x ≡ Some (lane_of_word v (x % 4))

-- it comes to its return with a word, within so many instructions, and these fields and arrays are left
pub record Ends (o : Outcome) (most result : ℕ) (left : ℕ → Value) (heap : Heap) : Type 0 where
  pub back : Workspace
  pub comes : Comes o most (gives (Some (int result)) back)
  pub fields_are : back.fields ≡ left
  pub heap_is : back.heap ≡ heap

split-front : (xs ys zs : List Step) (x : Step) → xs ++ (ys ++ x ∷ zs) ≡ (xs ++ (ys ++ x ∷ [])) ++ zs
split-front xs ys zs x = sym (append_assoc xs (ys ++ x ∷ []) zs ∙ ap (λ l. xs ++ l) (append_assoc ys (x ∷ []) zs))

front-length : (xs ys : List Step) (x : Step) → length xs + length ys + 1 ≡ length (xs ++ (ys ++ x ∷ []))
front-length xs ys x = omega (arith, length-append xs (ys ++ x ∷ []), length-append ys (x ∷ []))

in-order : (xs ys zs ws : List Step) → xs ++ ys ++ zs ++ ws ≡ xs ++ (ys ++ (zs ++ ws))
in-order xs ys zs ws = append_assoc (xs ++ ys) zs ws ∙ append_assoc xs ys (zs ++ ws)

-- What a method that loads is called over: the tables of pages, which hold the guest's memory, and the method that ends the run.
pub record IsCalled (program : Program) (order : Order) (memory : Memory) (caller : Workspace) (a : ℕ) : Type 0 where
  pub readable : ℕ
  pub writable : ℕ
  pub helper : IsHelper program order read_fault_number
  pub readable_is : caller.fields readable_field ≡ array readable
  pub held : HoldsMemory caller.heap readable writable memory
  pub word : IsWord a

module _ (program : Program) (words bytes bits turns : ℕ) (order : Order) (width : IsWidth bytes bits turns) (few : turns ≤ 4) (i : ℕ) (middle : List Step) (given : List Value) (caller : Workspace) (memory : Memory) (a pc : ℕ) (called : IsCalled program order memory caller a) (a_is : (body_workspace given caller).locals i ≡ int a) (pc_is : (body_workspace given caller).locals (i + 1) ≡ int pc) where
  abbrev locals : ℕ → Value
  locals = (body_workspace given caller).locals

  abbrev found : List Step
  found = word_code i ++ middle ++ loads.gives

  abbrev page : List Step
  page = page_code readable_field i (length found)

  abbrev behind : List Step
  behind = found ++ stack Pop ∷ read_fault_code i bits

  abbrev code : List Step
  code = loading i bytes bits middle

  -- its parts
  abbrev over : ℕ
  over = length page + length found + 1

  parts : (w : Workspace) → outcome program words code w ≡ outcome program words (unfit_code i bytes over ++ (page ++ behind)) w
  parts w = ap (λ l. outcome program words l w) (in-order (unfit_code i bytes over) page found (stack Pop ∷ read_fault_code i bits))

  abbrev begins : Workspace
  begins = body_workspace given caller

  abbrev calling : InstructionEffect
  calling = enters read_fault_number (int a ∷ int pc ∷ int bits ∷ []) begins

  -- ---- the two ways to the method that ends the run

  misfit-calls : (a % bytes ≡ 0 → a < 2 ^ 31 → ⊥) → Comes (outcome program words code begins) 60 calling
  misfit-calls misfit =
      let front = page ++ (found ++ stack Pop ∷ []) in
      let fault = read_fault_code i bits in
      let there = fault-called program words i a locals caller.fields caller.heap a_is order bits pc called.helper pc_is in
      let skipped = Comes-behind program words front fault begins there in
      let test = width.unfit program words i a over (page ++ behind) locals caller.fields caller.heap called.word a_is misfit in
      let place : outcome_from program words (page ++ behind) over begins ≡ outcome_from program words (front ++ fault) (length front) begins =
      ap (λ l. outcome_from program words l over begins) (split-front page found fault (stack Pop))
      ∙ ap (λ k. outcome_from program words (front ++ fault) k begins) (front-length page found (stack Pop)) in
      Comes-after turns (parts begins ∙ test ∙ ap (laters turns) place) (omega arith) skipped

  missing-calls : a % bytes ≡ 0 → a < 2 ^ 31 → called.held.readable_pages (a / 4096) ≡ None → Comes (outcome program words code begins) 60 calling
  missing-calls aligned low none =
      let h = called.held in
      let within : a / 4096 < page_count = omega arith in
      let without = over_all locals (null ∷ []) caller.fields caller.heap in
      let there = fault-called-behind program words i a locals caller.fields caller.heap a_is order bits pc called.helper pc_is in
      let skipped = Comes-behind program words found (stack Pop ∷ read_fault_code i bits) without there in
      let no_page = page-missing program words i a locals caller.fields caller.heap a_is readable_field called.readable (length found) behind h.readable_pages called.readable_is h.readable_there within none in
      let test = width.fits program words i a over (page ++ behind) locals caller.fields caller.heap a_is aligned low in
      let paged : Comes (outcome program words (page ++ behind) begins) 11 calling = Comes-after 7 no_page (lit≤ tt) skipped in
      Comes-after turns (parts begins ∙ test) (omega arith) paged

  -- ---- the way to the word

  at-word : a < 2 ^ 31 → (p : ℕ) (here : called.held.readable_pages (a / 4096) ≡ Some p) → IsWordAt memory a ((called.held.whole (a / 4096) p here).words (a / 4 % 1024))
  at-word low p here = record {
    word = (called.held.whole (a / 4096) p here).are_words (a / 4 % 1024);
    lane = lane-read caller.heap called.readable called.writable memory called.held a p (omega arith) here;
  }

  abbrev pub Finishes : ℕ → (ℕ → Value) → Type 0
  Finishes result left =
      (v : ℕ) → IsWordAt memory a v → a % bytes ≡ 0 → (tail : List Step) → Ends (outcome program words ((middle ++ loads.gives) ++ tail) (over_all locals (int v ∷ []) caller.fields caller.heap)) 43 result left caller.heap

  word-gives : (result : ℕ) (left : ℕ → Value) → a % bytes ≡ 0 → a < 2 ^ 31 → (p : ℕ) → called.held.readable_pages (a / 4096) ≡ Some p → Finishes result left → Ends (outcome program words code begins) 60 result left caller.heap
  word-gives result left aligned low p here finishes =
      let h = called.held in
      let within : a / 4096 < page_count = omega arith in
      let holds = h.whole (a / 4096) p here in
      let v = holds.words (a / 4 % 1024) in
      let tail = stack Pop ∷ read_fault_code i bits in
      let with_page = over_all locals (array p ∷ []) caller.fields caller.heap in
      let end = finishes v (at-word low p here) aligned tail in
      let given_back = gives (Some (int result)) end.back in
      let word_is = word-found program words i a locals caller.fields caller.heap a_is p ((middle ++ loads.gives) ++ tail) holds in
      let page_is = page-found program words i a locals caller.fields caller.heap a_is readable_field called.readable (length found) behind h.readable_pages called.readable_is h.readable_there within p here in
      let test = width.fits program words i a over (page ++ behind) locals caller.fields caller.heap a_is aligned low in
      let read : Comes (outcome program words behind with_page) 49 given_back = Comes-after 6 word_is (lit≤ tt) end.comes in
      let paged : Comes (outcome program words (page ++ behind) begins) 56 given_back = Comes-after 7 page_is (lit≤ tt) read in
      record {
        back = end.back;
        comes = Comes-after turns (parts begins ∙ test) (omega arith) paged;
        fields_are = end.fields_are;
        heap_is = end.heap_is;
      }

  -- ---- by the tests

  faults-so : (kind : ℕ) → Comes (outcome program words code begins) 60 calling → ends_in program words a pc bits begins kind → FaultsAt program words order code given caller kind pc a
  faults-so kind c ends = record {
    turns = c.turns;
    step = c.step;
    at = c.at;
    arguments = int a ∷ int pc ∷ int bits ∷ [];
    waiting = begins;
    comes = c.is;
    in_time = c.in_time;
    ends = ends;
  }

  none-when : (b : ℕ) → memory.byte a ≡ Some b → true ≡ is_none (memory.byte a) → ⊥
  none-when b e none = differ (none ∙ ap is_none e)
    where
      differ : true ≡ false → ⊥
      differ e = cc

  some-when : memory.byte a ≡ None → false ≡ is_none (memory.byte a) → ⊥
  some-when e some = differ (some ∙ ap is_none e)
    where
      differ : false ≡ true → ⊥
      differ e = cc

  unmapped-by-page : a % bytes ≡ 0 → a < 2 ^ 31 → true ≡ is_none (memory.byte a) → (o : Option ℕ) → called.held.readable_pages (a / 4096) ≡ o → Comes (outcome program words code begins) 60 calling
  unmapped-by-page aligned low none None e = missing-calls aligned low e
  unmapped-by-page aligned low none (Some p) e =
      let v = (called.held.whole (a / 4096) p e).words (a / 4 % 1024) in
      absurd (none-when (lane_of_word v (a % 4)) ((at-word low p e).lane a refl) none)

  unmapped-calls : a % bytes ≡ 0 → true ≡ is_none (memory.byte a) → (a < 2 ^ 31) ⊎ (2 ^ 31 ≤ a) → Comes (outcome program words code begins) 60 calling
  unmapped-calls aligned none (inl low) = unmapped-by-page aligned low none (called.held.readable_pages (a / 4096)) refl
  unmapped-calls aligned none (inr high) = misfit-calls (λ e low. omega arith)

  mapped-by-page : (result : ℕ) (left : ℕ → Value) → a % bytes ≡ 0 → a < 2 ^ 31 → false ≡ is_none (memory.byte a) → Finishes result left → (o : Option ℕ) → called.held.readable_pages (a / 4096) ≡ o → Ends (outcome program words code begins) 60 result left caller.heap
  mapped-by-page result left aligned low some finishes None e = absurd (some-when (unread caller.heap called.readable called.writable memory called.held a e) some)
  mapped-by-page result left aligned low some finishes (Some p) e = word-gives result left aligned low p e finishes

  mapped-gives : (result : ℕ) (left : ℕ → Value) → a % bytes ≡ 0 → false ≡ is_none (memory.byte a) → Finishes result left → (a < 2 ^ 31) ⊎ (2 ^ 31 ≤ a) → Ends (outcome program words code begins) 60 result left caller.heap
  mapped-gives result left aligned some finishes (inl low) = mapped-by-page result left aligned low some finishes (called.held.readable_pages (a / 4096)) refl
  mapped-gives result left aligned some finishes (inr high) =
      absurd (some-when (high-unread caller.heap called.readable called.writable memory called.held a (omega arith)) some)

  pub loads-as : (result : ℕ) (left : ℕ → Value) (aligned unmapped : Bool) → aligned ≡ (a % bytes == 0) → unmapped ≡ is_none (memory.byte a) → Finishes result left → LoadsAs program words order code given caller pc a result left aligned unmapped
  loads-as result left false unmapped aligned_is unmapped_is finishes =
      faults-so read_align_fault (misfit-calls (λ e low. eqb-false (a % bytes) 0 (sym aligned_is) e)) (ends-unaligned program words a pc bits begins (width.kind a ∙ sym aligned_is))
  loads-as result left true true aligned_is unmapped_is finishes =
      faults-so read_unmapped_fault (unmapped-calls (eqb-true (a % bytes) 0 (sym aligned_is)) unmapped_is (cases_lt a (2 ^ 31))) (ends-unmapped program words a pc bits begins (width.kind a ∙ sym aligned_is))
  loads-as result left true false aligned_is unmapped_is finishes =
      let end = mapped-gives result left (eqb-true (a % bytes) 0 (sym aligned_is)) unmapped_is finishes (cases_lt a (2 ^ 31)) in
      let comes = end.comes in
      record {
        turns = comes.turns;
        step = comes.step;
        at = comes.at;
        back = end.back;
        comes = comes.is;
        in_time = comes.in_time;
        leaves = (end.fields_are, end.heap_is);
      }
