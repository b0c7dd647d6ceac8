use Rattle.std.proofs.Common.{ap, arith, sym, ◌∙◌}
use Rattle.obj_linker.specs.declared.group.Group.TheVariants.{Constants, Zeros}
use Rattle.obj_linker.specs.Layout.{code_end, data_end, group_end, text_end, zeros_end}
use Rattle.obj_linker.proofs.LayoutLemmas.{ends_are, large_code}
use Rattle.obj_linker.proofs.layout.ends_of.Goals as goal

pub returns-in_err-code-clause-large : goal.returns-in_err-code-clause-large
unfolding code_end
returns-in_err-code-clause-large c = rw c.from_residual.ensures (sym (large_code c.args.sections.now c.in_err-code.ensures))

pub returns-clause-ends : goal.returns-clause-ends
unfolding code_end text_end data_end zeros_end
returns-clause-ends c =
    let sections = c.args.sections.now in
    let code = c.in_ok-code.ensures in
    let text = c.in_ok-text.ensures in
    let bytes = c.in_ok-data_end.ensures in
    let zeros = c.in_ok-zeros.ensures in
    let text_is = ap (λ n. group_end Constants n sections) code.1 in
    let zeros_is = ap (λ n. group_end Zeros n sections) bytes.1 in
    ends_are sections _ code.1 (text.1 ∙ text_is) bytes.1 (zeros.1 ∙ zeros_is) (omega (arith, text.0, text_is)) bytes.0 (omega (arith, zeros.0, zeros_is))
