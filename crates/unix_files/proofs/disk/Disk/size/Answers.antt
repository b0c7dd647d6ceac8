use Rattle.std.proofs.Common.{ap, sym, ◌∙◌, length}
use Rattle.unix_definition.specs.Files.{node_bytes}
use Rattle.unix_files.proofs.DiskLemmas.{bytes-is, none-past}
use Rattle.unix_files.proofs.disk.Disk.size.Goals as goal

pub returns-then-n-lt-NODES : goal.returns-then-n-lt-NODES
returns-then-n-lt-NODES c =
    let d = c.self.inside in
    c.size.ensures ∙ sym (ap length (bytes-is d.entries.items d.store c.args.self.now c.self.view_is c.self.invariant c.args.n))

pub returns-else-n-lt-NODES : goal.returns-else-n-lt-NODES
returns-else-n-lt-NODES c =
    let d = c.self.inside in
    sym (ap (λ o. length (node_bytes o)) (none-past d.entries.items d.store c.args.self.now c.self.view_is c.self.invariant c.args.n c.if-n-lt-NODES.false))
