use Rattle.std.proofs.Common.{◌≡◌, ℕ, List, [], ◌∷◌, ◌++◌, false, ◌==◌, ◌&&◌, ap, sym, ◌∙◌, rules}
use Rattle.asm_lines.specs.Lexical.{first_word, after_word, is_name}
use Rattle.asm_lines.specs.Lines.{by_word, bare_line_is}
use Rattle.asm_lines.proofs.LineLemmas.{no_label_end}
use Rattle.asm_lines.proofs.statements.of_bare_line.Goals as goal

pub returns-else-is_label : goal.returns-else-is_label
returns-else-is_label c =
    let line : c.args.line.now ≡ c.in-Some.name.now ++ c.in-Some.last.now ∷ [] = search rules in
    let plain : (c.in-Some.last.now == 58 && is_name c.in-Some.name.now) ≡ false = sym c.is_label.ensures ∙ c.if-is_label.false in
    c.of_word.ensures
    ∙ ap (λ (w : List ℕ). by_word w c.after_word.result.now) c.first_word.ensures
    ∙ ap (λ (r : List ℕ). by_word (first_word c.args.line.now) r) c.after_word.ensures
    ∙ ap (λ (l : List ℕ). by_word (first_word l) (after_word l)) line
    ∙ sym (no_label_end c.in-Some.name.now c.in-Some.last.now plain)
    ∙ sym (ap bare_line_is line)
