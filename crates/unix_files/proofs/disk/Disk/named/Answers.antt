use Rattle.std.proofs.Common.{ap, sym, ◌∙◌}
use Rattle.unix_definition.specs.Files.{node_named, node_has_name}
use Rattle.unix_files.specs.Kept.{entry_has_name}
use Rattle.unix_files.proofs.DiskLemmas.{position-nodes_of, has_name-node_of}
use Rattle.unix_files.proofs.disk.Disk.named.Goals as goal

pub returns-clause-value : goal.returns-clause-value
returns-clause-value c =
    let d = c.self.inside in
    let name = c.args.name.now in
    c.entry_named.ensures.value ∙ (sym (position-nodes_of (node_has_name name) (entry_has_name name) (has_name-node_of name) d.entries.items d.store.files) ∙ ap (λ f. node_named f name) c.self.view_is)
