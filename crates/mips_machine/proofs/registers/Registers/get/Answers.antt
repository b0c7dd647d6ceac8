use Rattle.std.proofs.Common.{ℕ, List, ap, ◌∙◌, if◌then◌else◌, ◌==◌}
use Rattle.mips_machine.specs.Registers.{registers_of}
use Rattle.mips_machine.proofs.RegisterLemmas.{register_read}
use Rattle.mips_machine.proofs.registers.Registers.get.Goals as goal

pub returns : goal.returns
unfolding registers_of
returns c =
    register_read c.self.inside.values c.args.r c.self.invariant
    ∙ ap (λ (xs : List ℕ). if c.args.r == 0 then 0 else registers_of xs c.args.r) c.self.view_is
