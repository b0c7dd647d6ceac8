use Rattle.std.proofs.Common.{◌≡◌, ℕ, ◌==◌, ap, sym, ◌∙◌, arith}
use Rattle.mips_definition.specs.Table.{op_of, funct_of, rs_of, rt_of, rd_of, sa_of}
use Rattle.mips_decode.proofs.Rows.{by_fields, inst_is, one_test}
use Rattle.mips_decode.proofs.decoder.decode.Goals as goal

pub returns-in-6 : goal.returns-in-6
unfolding by_fields
returns-in-6 c =
    let w : ℕ = c.args.w in
    let op : 6 ≡ op_of w = omega arith in
    c.branch_zero.ensures ∙ one_test (rt_of w == 0) _ _
    ∙ ap (λ o. by_fields o (funct_of w) (rs_of w) (rt_of w) (rd_of w) (sa_of w) w) op ∙ sym (inst_is w (omega arith))

pub returns-in-7 : goal.returns-in-7
unfolding by_fields
returns-in-7 c =
    let w : ℕ = c.args.w in
    let op : 7 ≡ op_of w = omega arith in
    c.branch_zero-in-7.ensures ∙ one_test (rt_of w == 0) _ _
    ∙ ap (λ o. by_fields o (funct_of w) (rs_of w) (rt_of w) (rd_of w) (sa_of w) w) op ∙ sym (inst_is w (omega arith))

pub returns-in-15 : goal.returns-in-15
unfolding by_fields
returns-in-15 c =
    let w : ℕ = c.args.w in
    let op : 15 ≡ op_of w = omega arith in
    c.load_upper.ensures ∙ one_test (rs_of w == 0) _ _
    ∙ ap (λ o. by_fields o (funct_of w) (rs_of w) (rt_of w) (rd_of w) (sa_of w) w) op ∙ sym (inst_is w (omega arith))
