use Rattle.std.proofs.Common.{None}
use Rattle.unix_files.proofs.DiskLemmas.{entry-set}
use Rattle.unix_files.proofs.disk.Disk.unname.Goals as goal

pub returns : goal.returns
returns c =
    let d = c.self.inside in
    entry-set d.entries.items d.store c.args.self.now c.self.view_is c.self.invariant c.args.n (record { name = None }) c.requires
