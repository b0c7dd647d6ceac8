use Rattle.std.proofs.Common.{◌≡◌, ◌+ℤ◌, ◌-ℤ◌, pos, length, sym, ap, ◌∙◌, SFits, rules, arith}
use Rattle.std.specs.Int.{w32, w64}
use Rattle.std.proofs.lemmas.Int.{to_z-of_z}
use Rattle.std.proofs.lemmas.Bool.{eqb-true, eqb-false}
use Rattle.class_definition.specs.Format.{fits_signed}
use Rattle.emit_assembly.proofs.Switches.{has-form, has-no-form}
use Rattle.emit_assembly.proofs.eligible.has_form.Goals as goal

pub returns-then-is_empty : goal.returns-then-is_empty
returns-then-is_empty c =
    has-no-form c.args.default c.args.low c.args.targets.now (eqb-true (length c.args.targets.now) 0 (sym c.is_empty.ensures ∙ c.if-is_empty.true))

pub returns-else-is_empty : goal.returns-else-is_empty
returns-else-is_empty c =
    let some : length c.args.targets.now ≡ 0 → ⊥ = eqb-false (length c.args.targets.now) 0 (sym c.is_empty.ensures ∙ c.if-is_empty.false) in
    let n = length c.args.targets.now in
    let last : SFits w64 c.last_key.result = search rules in
    c.is_signed_word.ensures ∙ ap (fits_signed w32) (to_z-of_z w64 c.last_key.result last ∙ c.last_key.ensures)
    ∙ ap (λ z. fits_signed w32 ((z +ℤ pos n) -ℤ pos 1)) (to_z-of_z w32 c.args.low c.ranges.low)
    ∙ has-form c.args.default c.args.low c.args.targets.now (omega arith) c.ranges.low (λ i. omega (arith, c.type_inv.targets i)) (omega (arith, some))
