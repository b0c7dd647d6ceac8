use Rattle.std.proofs.Common.{ap, sym, subst, ◌∙◌, arith}
use Rattle.std.specs.Prelude.{slice_set}
use Rattle.std.proofs.lemmas.List.{length-set}
use Rattle.mips_memory.specs.Pages.{Pages, IsSound, memory_of}
use Rattle.mips_memory.proofs.ViewLaws.{put_some}
use Rattle.mips_memory.proofs.MemoryLemmas.{memory_of-put}
use Rattle.mips_memory.proofs.PageLemmas.{IsSound-bytes}
use Rattle.mips_memory.proofs.memory.GuestMemoryView.put.Goals as goal

pub invariant_of-self : goal.invariant_of-self
invariant_of-self c =
    let bytes = c.self.inside.bytes.items in
    IsSound-bytes (record { table = c.self.inside.table.items; bytes = bytes }) (slice_set bytes c.in-Some.cell c.args.b) (length-set bytes c.in-Some.cell c.args.b) c.self.invariant

pub returns-in-Some-clause-after : goal.returns-in-Some-clause-after
returns-in-Some-clause-after c =
    ap (λ (q : Pages). record q { bytes = slice_set q.bytes c.in-Some.cell c.args.b }) c.self.view_is
    ∙ sym (put_some c.args.self.now c.args.at c.args.b c.in-Some.cell c.in-Some.ensures.1)

pub returns-in-Some-clause-alone : goal.returns-in-Some-clause-alone
returns-in-Some-clause-alone c =
    let sound = subst IsSound c.self.view_is c.self.invariant in
    ap memory_of (returns-in-Some-clause-after c) ∙ memory_of-put c.args.self.now c.args.at c.args.b sound (omega arith) c.in-Some.ensures.0
