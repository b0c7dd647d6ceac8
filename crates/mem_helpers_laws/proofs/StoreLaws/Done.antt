-- A store that can be done: its page is found, a word of it is replaced, and the method returns.
use Rattle.std.proofs.Common.{◌≡◌, ℕ, ◌/◌, ◌%◌, ◌<◌, true, List, [], ◌∷◌, ◌++◌, Option, Some, None, refl, arith}
use Rattle.run_definition.specs.Words.{IsWord}
use Rattle.run_definition.specs.Memory.{Memory}
use Rattle.jvm_definition.specs.declared.stack_name.StackName.TheVariants.{Pop}
use Rattle.jvm_definition.specs.declared.value.Value.{Value}
use Rattle.jvm_definition.specs.declared.value.Value.TheVariants.{Array as array}
use Rattle.jvm_definition.specs.Program.{Program}
use Rattle.jvm_definition.specs.Values.{Heap, with_int}
use Rattle.jvm_definition.specs.Effect.{Workspace, gives}
use Rattle.emit_steps.specs.declared.step.Step.{Step}
use Rattle.emit_steps.specs.Outcomes.{outcome}
use Rattle.emit_layout.specs.FieldNumbers.{page_count, writable_field}
use Rattle.mem_helpers.specs.Parts.{stack, accessed}
use Rattle.emit_simulation_laws.specs.Match.{HoldsMemory, IsPage}
use Rattle.emit_simulation_laws.specs.Memory.{with_word_at}
use Rattle.emit_simulation_laws.proofs.ReadLemmas.{lane-read}
use Rattle.emit_simulation_laws.specs.Outcomes.{Gives}
use Rattle.mem_helpers_laws.specs.Storing.{HoldsTables, LeavesMemory, given_to_store, store_turns}
use Rattle.mem_helpers_laws.proofs.StoreLaws.Stopping.{Stops}
use Rattle.mem_helpers_laws.proofs.StoreLaws.Accessing.{holding, access-done}
use Rattle.mem_helpers_laws.proofs.StoreLaws.Ending.{Tested}
use Rattle.mem_helpers_laws.proofs.StoreLaws.Lanes.{HoldsWord}
use Rattle.mem_helpers_laws.proofs.StoreLaws.Places.{found}
use Rattle.mem_helpers_laws.proofs.StoreLaws.Words.{store-kept}

module _ (program : Program) (words pc value a readable writable : ℕ) (memory : Memory) (w : Workspace) (tables : HoldsTables w readable writable memory) (may : memory.writable a ≡ true) where
  abbrev pub place : ℕ
  place = (found w.heap readable writable memory tables.held a may).0

  pub within : a / 4096 < page_count
  within = (found w.heap readable writable memory tables.held a may).1

  pub here : tables.held.writable_pages (a / 4096) ≡ Some place
  here = (found w.heap readable writable memory tables.held a may).2

  pub readable_here : tables.held.readable_pages (a / 4096) ≡ Some place
  readable_here = tables.held.shared (a / 4096) place here

  abbrev pub page : IsPage w.heap place
  page = tables.held.whole (a / 4096) place readable_here

  -- the word of memory at the address
  abbrev pub old_word : ℕ
  old_word = page.words (a / 4 % 1024)

  pub old_word-is : IsWord old_word
  old_word-is = page.are_words (a / 4 % 1024)

  pub old_word-there : HoldsWord memory (a / 4) old_word
  old_word-there = lane-read w.heap readable writable memory tables.held a place within readable_here

  -- after the store of a word, with some local variables
  abbrev pub after_word : (ℕ → Value) → ℕ → Workspace
  after_word locals u = record { locals = locals; operands = []; fields = w.fields; heap = with_int w.heap place (a / 4 % 1024) u }

  -- what is done with the page is known
  pub page-done : (bytes bits : ℕ) (found_code fault : List Step) (result : Option Value) (back : Workspace) (Leaves : (ℕ → Value) → Heap → Type 0) → Tested program words value a pc w bytes bits true → Stops 69 (outcome program words (found_code ++ stack Pop ∷ fault) (holding program words value a pc w (array place ∷ []))) (gives result back) → Leaves back.fields back.heap → Gives program words store_turns (accessed writable_field 1 bytes found_code fault) (given_to_store value a pc) w result Leaves
  page-done bytes bits found_code fault result back Leaves tested ends leaves =
      let s = access-done program words value a pc w readable writable memory tables bytes 69 place found_code fault (gives result back) (tested.fits refl (omega (arith, within))) within here ends in
      record {
        turns = s.turns;
        step = s.step;
        at = s.at;
        back = back;
        comes = s.is;
        in_time = let h = s.in_time in omega arith;
        leaves = leaves;
      }

  -- the memory with a word that is put
  pub word-kept_there : (u v : ℕ) (after : Memory) → u ≡ v → IsWord v → with_word_at memory (a / 4) v ≡ after → HoldsMemory (with_int w.heap place (a / 4 % 1024) u) readable writable after
  word-kept_there u v after same word is = store-kept w.heap readable writable memory after tables.held a place u v within here same word is

  pub store-done : (bytes bits : ℕ) (found_code fault : List Step) (locals : ℕ → Value) (u v : ℕ) (after : Memory) → Tested program words value a pc w bytes bits true → Stops 69 (outcome program words (found_code ++ stack Pop ∷ fault) (holding program words value a pc w (array place ∷ []))) (gives None (after_word locals u)) → u ≡ v → IsWord v → with_word_at memory (a / 4) v ≡ after → Gives program words store_turns (accessed writable_field 1 bytes found_code fault) (given_to_store value a pc) w None (LeavesMemory w readable writable after)
  store-done bytes bits found_code fault locals u v after tested ends same word is =
      page-done bytes bits found_code fault None (after_word locals u) (LeavesMemory w readable writable after) tested ends
      (refl, word-kept_there u v after same word is)
