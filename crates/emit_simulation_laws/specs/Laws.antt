-- The laws of code, of paths and of memory, as far as code follows the guest by them.
use Rattle.std.specs.Prelude.{◌≡◌, ℕ, ◌/◌, ◌%◌, ◌<◌, IsTrue, List, length, nat_lt, Some}
use Rattle.std.specs.List.{list_all}
use Rattle.run_definition.specs.Words.{IsWord}
use Rattle.run_definition.specs.Memory.{Memory, can_write, patched}
use Rattle.mips_definition.specs.Memory.{with_byte}
use Rattle.jvm_definition.specs.Values.{Heap, with_int}
use Rattle.jvm_definition.specs.HostMemory as host
use Rattle.emit_layout.specs.FieldNumbers.{page_count}
use Rattle.emit_steps.specs.Laws.{PartsLie}
use Rattle.emit_paths_laws.specs.Laws.{CodeIsPath, CodeIsPathElsewhere, TurnsAtStepsElsewhere, CallsArePaths, CallsThatStop}
use Rattle.emit_simulation_laws.specs.Memory.{with_word_at}
use Rattle.emit_simulation_laws.specs.Match.{HoldsMemory, host_memory}

-- Code is a path to where its outcome leads, with the methods that it calls.
pub record PathLaws : Type 0 where
  -- it is one seen from its method, and seen from another one
  pub paths : CodeIsPath
  pub paths_elsewhere : CodeIsPathElsewhere
  -- its parts lie one behind the other
  pub parts : PartsLie
  -- a turn at a step is a path, seen from another method
  pub turns : TurnsAtStepsElsewhere
  -- so is a call whose method returns, or stops
  pub calls : CallsArePaths
  pub stopped_calls : CallsThatStop

-- Arrays that hold the guest's memory still do when it is written.
pub record StaysHeld {heap : Heap} {readable writable : ℕ} {memory : Memory}
    (h : HoldsMemory heap readable writable memory) : Type 0 where
  -- a word is stored through the page that may be written
  pub words : (k p v : ℕ)
      → k / 1024 < page_count
      → h.writable_pages (k / 1024) ≡ Some p
      → IsWord v
      → HoldsMemory (with_int heap p (k % 1024) v) readable writable (with_word_at memory k v)
  -- bytes are put one after the other, where each may be written
  pub patches : (patch : List ℕ) (a : ℕ)
      → IsTrue (list_all (λ b. nat_lt b 256) patch)
      → IsTrue (can_write memory a (length patch))
      → HoldsMemory (patched host.with_host_byte (host_memory heap readable writable) a patch).heap
      readable writable (patched with_byte memory a patch)
