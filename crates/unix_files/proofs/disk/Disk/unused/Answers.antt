use Rattle.std.proofs.Common.{ap, sym, ◌∙◌}
use Rattle.std.specs.Option.{is_none}
use Rattle.unix_definition.specs.Files.{free_node}
use Rattle.unix_files.proofs.DiskLemmas.{position-nodes_of, is_none-node_of}
use Rattle.unix_files.proofs.disk.Disk.unused.Goals as goal

pub returns-clause-value : goal.returns-clause-value
returns-clause-value c =
    let d = c.self.inside in
    c.unused_entry.ensures.value ∙ (sym (position-nodes_of is_none is_none is_none-node_of d.entries.items d.store.files) ∙ ap free_node c.self.view_is)
