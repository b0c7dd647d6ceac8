use Rattle.std.proofs.Common.{ap, sym, ◌∙◌}
use Rattle.std.specs.Option.{is_some}
use Rattle.unix_files.proofs.DiskLemmas.{there-is, none-past}
use Rattle.unix_files.proofs.disk.Disk.has.Goals as goal

pub returns-then-n-lt-NODES : goal.returns-then-n-lt-NODES
returns-then-n-lt-NODES c =
    let d = c.self.inside in
    c.is_entry.ensures ∙ (ap is_some c.entry_of.ensures ∙ sym (there-is d.entries.items d.store c.args.self.now c.self.view_is c.args.n))

pub returns-else-n-lt-NODES : goal.returns-else-n-lt-NODES
returns-else-n-lt-NODES c =
    let d = c.self.inside in
    sym (ap is_some (none-past d.entries.items d.store c.args.self.now c.self.view_is c.self.invariant c.args.n c.if-n-lt-NODES.false))
