-- Each load by its method.
use Rattle.std.proofs.Common.{ℕ}
use Rattle.run_definition.specs.Words.{IsWord}
use Rattle.run_definition.specs.declared.order.Order.{Order}
use Rattle.run_definition.specs.Memory.{Memory}
use Rattle.mips_definition.specs.declared.names.load_name.LoadName.{LoadName}
use Rattle.mips_definition.specs.declared.names.load_name.LoadName.TheVariants.{Lb, Lh, Lwl, Lw, Lbu, Lhu, Lwr}
use Rattle.jvm_definition.specs.Program.{Program}
use Rattle.jvm_definition.specs.Effect.{Workspace}
use Rattle.mem_helpers_laws.specs.Loading.{LoadsByName}
use Rattle.mem_helpers_laws.proofs.LoadLaws.Accessing.{IsCalled}
use Rattle.mem_helpers_laws.proofs.LoadLaws.Whole.{lw-loads}
use Rattle.mem_helpers_laws.proofs.LoadLaws.Bytes.{lb-loads, lbu-loads, lh-loads, lhu-loads}
use Rattle.mem_helpers_laws.proofs.LoadLaws.Parts.{lwl-loads, lwr-loads}

module _ (program : Program) (words old a pc : ℕ) (order : Order) (memory : Memory) (caller : Workspace) (called : IsCalled program order memory caller a) (old_word : IsWord old) where
  pub loads-by-name : (name : LoadName) → LoadsByName program words order name memory caller old a pc
  loads-by-name Lb = lb-loads program words old a pc order memory caller called
  loads-by-name Lh = lh-loads program words old a pc order memory caller called
  loads-by-name Lwl = lwl-loads program words old a pc order memory caller called old_word
  loads-by-name Lw = lw-loads program words old a pc order memory caller called
  loads-by-name Lbu = lbu-loads program words old a pc order memory caller called
  loads-by-name Lhu = lhu-loads program words old a pc order memory caller called
  loads-by-name Lwr = lwr-loads program words old a pc order memory caller called old_word
