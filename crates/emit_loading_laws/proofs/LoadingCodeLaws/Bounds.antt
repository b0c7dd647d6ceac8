-- How long it takes to make the memory.
use Rattle.std.proofs.Common.{◌≡◌, ℕ, ◌+◌, ◌*◌, ◌≤◌, List, [], ◌∷◌, length, flat_map, ap, ◌∙◌, arith}
use Rattle.std.specs.List.{All, AllZip}
use Rattle.std.proofs.lemmas.List.{length-append}
use Rattle.std.proofs.lemmas.List.Elements.{All-head, All-tail}
use Rattle.elf_image_parts.specs.declared.page_run.PageRun.{PageRun}
use Rattle.elf_image_parts.specs.Runs.{run_pages, IsRun}
use Rattle.jvm_definition.specs.Program.{Program}
use Rattle.emit_loading_laws.proofs.FillingLaws.Tables.{from-pages, from-long}
use Rattle.emit_loading_laws.specs.Loaded.{Filler, TellsRuns, pages_told, slots_of, texts_turns, fillers_turns, memory_turns, HasRuns, HasSlots}

runs-few : (runs : List PageRun) → All IsRun runs → length runs ≤ length (flat_map run_pages runs)
runs-few [] are = omega arith
runs-few (run ∷ runs) are =
    let first = All-head IsRun run runs are in
    let some = first.some in
    let count : length (run_pages run) ≡ run.count = ap length (from-pages run.first run.writable run.count) ∙ from-long run.first run.writable run.count in
    let both = length-append (run_pages run) (flat_map run_pages runs) in
    let rest = runs-few runs (All-tail IsRun run runs are) in
    omega (arith, some, count, both, rest)

texts-few : (program : Program) (texts : List ℕ) (shares : List (List PageRun)) → AllZip (TellsRuns program 0) texts shares → All HasRuns shares → texts_turns shares ≤ 55 * length (pages_told shares)
texts-few program [] [] tell some = omega arith
texts-few program [] (runs ∷ shares) tell some = absurd tell
texts-few program (slot ∷ texts) [] tell some = absurd tell
texts-few program (slot ∷ texts) (runs ∷ shares) tell some =
    let here : 1 ≤ length runs = All-head HasRuns runs shares some in
    let few = runs-few runs tell.0.are_runs in
    let both = length-append (flat_map run_pages runs) (pages_told shares) in
    let rest = texts-few program texts shares tell.1 (All-tail HasRuns runs shares some) in
    omega (arith, here, few, both, rest)

fillers-few : (fillers : List Filler) → All HasSlots fillers → fillers_turns fillers ≤ 42002 * length (slots_of fillers)
fillers-few [] some = omega arith
fillers-few (f ∷ fillers) some =
    let here : 1 ≤ length f.slots = All-head HasSlots f fillers some in
    let both = length-append f.slots (slots_of fillers) in
    let rest = fillers-few fillers (All-tail HasSlots f fillers some) in
    omega (arith, here, both, rest)

pub turns-few : (program : Program) (texts : List ℕ) (shares : List (List PageRun)) (fillers : List Filler) → AllZip (TellsRuns program 0) texts shares → All HasRuns shares → All HasSlots fillers → length (slots_of fillers) ≤ length (pages_told shares) → memory_turns shares fillers ≤ 6 + 42057 * length (pages_told shares)
turns-few program texts shares fillers tell runs slots few =
    let a = texts-few program texts shares tell runs in
    let b = fillers-few fillers slots in
    omega (arith, a, b, few)
