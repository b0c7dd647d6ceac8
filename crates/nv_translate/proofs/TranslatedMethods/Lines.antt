-- A method whose lines are those of code has that code.
use Rattle.std.proofs.Common.{◌≡◌, ℕ, ◌+◌, ◌≤◌, if◌then◌else◌, List, [], ◌∷◌, Some, refl, ap, ◌∙◌, arith, eq-eqb, ne_eqb, option_and_then}
use Rattle.jvm_definition.specs.declared.linked_method.LinkedMethod.{LinkedMethod}
use Rattle.jvm_definition.specs.Program.{Program, line_in, linked_line_at}
use Rattle.emit_steps.specs.declared.step.Step.{Step}
use Rattle.emit_steps.specs.Widths.{width}
use Rattle.emit_steps.specs.Placing.{laid, placed_line, LiesAt}
use Rattle.emit_steps.proofs.WidthLemmas.{width-some}

line-here : (at x : ℕ) (s : Step) (code : List Step) → at ≡ x → line_in (laid at (s ∷ code)) x ≡ Some (placed_line at s code)
line-here at x s code is = ap (λ b. if b then Some (placed_line at s code) else line_in (laid (at + width s) code) x) (eq-eqb at x is)

line-further : (at x : ℕ) (s : Step) (code : List Step) → (at ≡ x → ⊥) → line_in (laid at (s ∷ code)) x ≡ line_in (laid (at + width s) code) x
line-further at x s code differ =
    ap (λ b. if b then Some (placed_line at s code) else line_in (laid (at + width s) code) x) (ne_eqb at x differ)

-- the lines of a method from an offset on are those of code
lies-from : (program : Program) (m at : ℕ) (code : List Step)
    → ((x : ℕ) → at ≤ x → linked_line_at program m x ≡ line_in (laid at code) x) → LiesAt program m at code
lies-from program m at [] same = tt
lies-from program m at (s ∷ code) same = (
  same at (omega arith) ∙ line-here at at s code refl,
  lies-from program m (at + width s) code
      (λ x from. let some = width-some s in
      same x (omega arith) ∙ line-further at x s code (λ equal. omega (arith, equal, from, some))),
)

pub lies : (program : Program) (m : ℕ) (method : LinkedMethod) (code : List Step) → program.method m ≡ Some method
    → method.lines ≡ laid 0 code → LiesAt program m 0 code
lies program m method code there is =
    lies-from program m 0 code
    (λ x from. ap (option_and_then (λ (found : LinkedMethod). line_in found.lines x)) there ∙ ap (λ lines. line_in lines x) is)
