use Rattle.std.proofs.Common.{◌∙◌, ap, length, None, Option}
use Rattle.std.proofs.lemmas.List.{length-replicate}
use Rattle.unix_files.specs.Stored.{file_at}
use Rattle.unix_files.specs.declared.disk.Entry.{Entry}
use Rattle.unix_files.proofs.DiskLemmas.{nothing-replicate}
use Rattle.unix_files.proofs.disk.Disk.new.Goals as goal

pub invariant_of-result : goal.invariant_of-result
invariant_of-result c =
    let none : Option Entry = None in
    record {
      entries_all = ap length c.in_ok-entries.ensures ∙ length-replicate 256 none;
      files_all = ap (λ s. length s.files) c.in_ok-store.ensures;
      unused = λ n _. ap (λ s. file_at s n) c.in_ok-store.ensures ∙ nothing-replicate 256 n;
    }
