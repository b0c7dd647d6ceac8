use Rattle.std.proofs.Common.{◌≡◌, ℕ, false, ◌==◌, ap, sym, ◌∙◌, arith}
use Rattle.std.proofs.lemmas.Bool.Decides.{nat_tests}
use Rattle.mips_definition.specs.Table.{op_of, funct_of, rs_of, rt_of, rd_of, sa_of}
use Rattle.mips_decode.proofs.Rows.{by_fields, has_op, inst_is, inst_unlisted, one_test}
use Rattle.mips_decode.proofs.decoder.upper.Goals as goal

pub returns-in-22 : goal.returns-in-22
unfolding by_fields
returns-in-22 c =
    let w : ℕ = c.args.w in
    let op : 22 ≡ op_of w = omega arith in
    c.branch_zero.ensures ∙ one_test (rt_of w == 0) _ _
    ∙ ap (λ o. by_fields o (funct_of w) (rs_of w) (rt_of w) (rd_of w) (sa_of w) w) op ∙ sym (inst_is w (omega arith))

pub returns-in-23 : goal.returns-in-23
unfolding by_fields
returns-in-23 c =
    let w : ℕ = c.args.w in
    let op : 23 ≡ op_of w = omega arith in
    c.branch_zero-in-23.ensures ∙ one_test (rt_of w == 0) _ _
    ∙ ap (λ o. by_fields o (funct_of w) (rs_of w) (rt_of w) (rd_of w) (sa_of w) w) op ∙ sym (inst_is w (omega arith))

pub returns-in-17 : goal.returns-in-17
returns-in-17 c =
    let none : has_op (op_of c.args.w) ≡ false = grind (arith, nat_tests) in
    grind (arith, nat_tests, inst_unlisted c.args.w (omega arith) none)

pub returns-in_default : goal.returns-in_default
returns-in_default c =
    let none : has_op (op_of c.args.w) ≡ false = grind (arith, nat_tests) in
    grind (arith, nat_tests, inst_unlisted c.args.w (omega arith) none)
