use Rattle.std.proofs.Common.{◌≡◌, ◌<◌, ℕ, List, length, ap, ◌∙◌, if◌then◌else◌, ◌==◌, ◌&&◌, nat_lt, not, arith}
use Rattle.std.proofs.lemmas.Bool.{ne_eqb}
use Rattle.mips_machine.specs.Registers.{registers_of}
use Rattle.mips_machine.proofs.RegisterLemmas.{register_written, other_written}
use Rattle.mips_machine.proofs.registers.Registers.set.Goals as goal

pub returns-then-not-this : goal.returns-then-not-this
unfolding registers_of
returns-then-not-this g c =
    let size : length c.self.inside.values ≡ 32 = omega arith in
    λ i k.
    (register_written c.self.inside.values size c.self.invariant c.args.r c.args.w k c.requires.number
    ∙ ap (λ (xs : List ℕ). if nat_lt 0 c.args.r && k == c.args.r then c.args.w else registers_of xs k) c.self.view_is) i

pub returns-else-not-this : goal.returns-else-not-this
unfolding registers_of
returns-else-not-this g c =
    let size : length c.self.inside.values ≡ 32 = omega arith in
    let some : 0 < c.args.r = c.requires.other (ap not (ne_eqb g.row.OTHER 0 c.if-not-this.false)) in
    λ i k.
    (other_written c.self.inside.values size c.args.r c.args.w k c.requires.number some
    ∙ ap (λ (xs : List ℕ). if nat_lt 0 c.args.r && k == c.args.r then c.args.w else registers_of xs k) c.self.view_is) i
