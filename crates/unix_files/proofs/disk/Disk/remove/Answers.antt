use Rattle.std.proofs.Common.{ap, ◌∙◌, None, set}
use Rattle.unix_files.specs.Kept.{files_of}
use Rattle.unix_files.proofs.DiskLemmas.{entry-unset, same-past}
use Rattle.unix_files.proofs.disk.Disk.remove.Goals as goal

pub returns-then-n-lt-NODES : goal.returns-then-n-lt-NODES
returns-then-n-lt-NODES c =
    let d = c.self.inside in
    ap (files_of (set d.entries.items c.args.n None)) c.cut.ensures ∙ entry-unset d.entries.items d.store c.args.self.now c.self.view_is c.self.invariant c.args.n c.if-n-lt-NODES.true

pub returns-else-n-lt-NODES : goal.returns-else-n-lt-NODES
returns-else-n-lt-NODES c =
    let d = c.self.inside in
    same-past d.entries.items d.store c.args.self.now c.self.view_is c.self.invariant c.args.n c.if-n-lt-NODES.false
