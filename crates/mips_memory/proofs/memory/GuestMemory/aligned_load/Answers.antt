use Rattle.std.proofs.Common.{ℕ, List, Some, length, ap, sym, subst, ◌∙◌, arith}
use Rattle.mips_definition.specs.Loads.{loaded_word}
use Rattle.mips_memory.specs.ByteList.{memory_in}
use Rattle.mips_memory.specs.Pages.{Pages, IsSound}
use Rattle.mips_memory.proofs.PageLemmas.{whole_word, load_aligned-there, loaded-there}
use Rattle.mips_memory.proofs.MemoryLemmas.{load-none, load-some}
use Rattle.mips_memory.proofs.memory.GuestMemory.aligned_load.Goals as goal

pub from_bytes-requires-clause-whole : goal.from_bytes-requires-clause-whole
from_bytes-requires-clause-whole c =
    let sound = subst IsSound c.self.view_is c.self.invariant in
    let kept = c.deref.ensures.value ∙ ap (λ (q : Pages). q.bytes) c.self.view_is in
    omega (arith, whole_word c.args.self.now sound c.args.at c.in-Some.cell (sym c.in-Some.ensures), ap (λ (l : List ℕ). length l) kept)

pub from_bytes-requires-clause-aligned : goal.from_bytes-requires-clause-aligned
from_bytes-requires-clause-aligned c =
    let sound = subst IsSound c.self.view_is c.self.invariant in
    load_aligned-there c.args.self.now sound c.args.at c.in-Some.cell (sym c.in-Some.ensures) c.args.name c.requires

pub returns-in-Some : goal.returns-in-Some
returns-in-Some c =
    let sound = subst IsSound c.self.view_is c.self.invariant in
    let kept = c.deref.ensures.value ∙ ap (λ (q : Pages). q.bytes) c.self.view_is in
    ap Some (c.from_bytes.ensures
    ∙ ap (λ l. loaded_word c.args.name c.args.order (memory_in l) c.in-Some.cell c.args.old) kept
    ∙ loaded-there c.args.self.now sound c.args.at c.in-Some.cell (sym c.in-Some.ensures) c.args.name c.args.order c.args.old c.requires)
    ∙ load-some c.args.self.now c.args.at c.in-Some.cell _ (sym c.in-Some.ensures)

pub returns-in-None : goal.returns-in-None
returns-in-None c = load-none c.args.self.now c.args.at _ (sym c.in-None.ensures)
