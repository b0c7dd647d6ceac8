use Rattle.std.proofs.Common.{ap, sym, ◌∙◌}
use Rattle.std.specs.Option.{is_some}
use Rattle.unix_definition.specs.Files.{node_name}
use Rattle.unix_files.specs.Kept.{entry_name}
use Rattle.unix_files.proofs.DiskLemmas.{name-is, none-past}
use Rattle.unix_files.proofs.disk.Disk.is_named.Goals as goal

pub returns-then-n-lt-NODES : goal.returns-then-n-lt-NODES
returns-then-n-lt-NODES c =
    let d = c.self.inside in
    c.has_any_name.ensures ∙ (ap (λ e. is_some (entry_name e)) c.entry_of.ensures ∙ sym (ap is_some (name-is d.entries.items d.store c.args.self.now c.self.view_is c.args.n)))

pub returns-else-n-lt-NODES : goal.returns-else-n-lt-NODES
returns-else-n-lt-NODES c =
    let d = c.self.inside in
    sym (ap (λ o. is_some (node_name o)) (none-past d.entries.items d.store c.args.self.now c.self.view_is c.self.invariant c.args.n c.if-n-lt-NODES.false))
