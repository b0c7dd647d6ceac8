use Rattle.std.proofs.Common.{◌≡◌, IfOk, ap, sym, ◌∙◌, subst}
use Rattle.unix_definition.specs.Files.{node_bytes}
use Rattle.unix_files.proofs.DiskLemmas.{bytes-is, none-past}
use Rattle.unix_files.proofs.disk.Disk.bytes.Goals as goal

pub returns-then-n-lt-NODES : goal.returns-then-n-lt-NODES
returns-then-n-lt-NODES c =
    let d = c.self.inside in
    subst (λ b. IfOk c.bytes.result (λ v. v.items ≡ b)) (sym (bytes-is d.entries.items d.store c.args.self.now c.self.view_is c.self.invariant c.args.n)) c.bytes.ensures

pub returns-else-n-lt-NODES : goal.returns-else-n-lt-NODES
returns-else-n-lt-NODES c =
    let d = c.self.inside in
    c.new.ensures.items ∙ sym (ap node_bytes (none-past d.entries.items d.store c.args.self.now c.self.view_is c.self.invariant c.args.n c.if-n-lt-NODES.false))
