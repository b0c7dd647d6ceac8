use Rattle.std.proofs.Common.{ap, ◌∙◌, Some}
use Rattle.unix_definition.specs.Files.{with_node, bytes_at}
use Rattle.unix_files.proofs.DiskLemmas.{entry-set}
use Rattle.unix_files.proofs.disk.Disk.set_name.Goals as goal

pub returns : goal.returns
returns c =
    let d = c.self.inside in
    let v = c.args.self.now in
    entry-set d.entries.items d.store v c.self.view_is c.self.invariant c.args.n (record { name = Some c.from_bytes.result }) c.requires.file
    ∙ ap (λ m. with_node v c.args.n (Some (record { name = Some m; bytes = bytes_at v c.args.n }))) c.from_bytes.ensures
