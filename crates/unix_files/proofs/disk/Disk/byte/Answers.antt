use Rattle.std.proofs.Common.{ap, sym, ◌∙◌, subst, ◌<◌, length, get_or, inl, inr, arith}
use Rattle.std.proofs.lemmas.Bool.{cases_lt}
use Rattle.unix_definition.specs.Files.{node_bytes}
use Rattle.unix_files.proofs.DiskLemmas.{bytes-is, none-past}
use Rattle.unix_files.proofs.disk.Disk.byte.Goals as goal

pub byte-requires-clause-file : goal.byte-requires-clause-file
byte-requires-clause-file c =
    let d = c.self.inside in
    let all = c.self.invariant.files_all in
    elim (cases_lt c.args.n 256) [
      | inl less ↦ omega arith
      | inr past ↦
          let none = none-past d.entries.items d.store c.args.self.now c.self.view_is c.self.invariant c.args.n past in
          let empty = ap (λ o. length (node_bytes o)) none in
          let r = c.requires in
          absurd (omega arith)
    ]

pub byte-requires-clause-within : goal.byte-requires-clause-within
byte-requires-clause-within c =
    let d = c.self.inside in
    subst (λ l. c.args.at < length l) (bytes-is d.entries.items d.store c.args.self.now c.self.view_is c.self.invariant c.args.n) c.requires

pub returns-clause-value : goal.returns-clause-value
returns-clause-value c =
    let d = c.self.inside in
    c.byte.ensures.value ∙ ap (λ l. get_or l c.args.at 0) (sym (bytes-is d.entries.items d.store c.args.self.now c.self.view_is c.self.invariant c.args.n))
