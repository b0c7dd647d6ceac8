-- What follows the input does not matter to a call that is ready.
use Rattle.std.proofs.Common.{ap, ◌∙◌, ◌≡◌, ℕ, ◌==◌, min, true, false, not, ◌&&◌, List, ◌++◌, take, Option, Some, None, refl}
use Rattle.run_definition.specs.Question.{Question}
use Rattle.unix_definition.specs.declared.description.Description.{Description}
use Rattle.unix_definition.specs.declared.target.Target.TheVariants.{Input}
use Rattle.unix_definition.specs.System.{System}
use Rattle.unix_definition.specs.Opened.{numbered_at}
use Rattle.unix_definition.specs.Calls.{first_line}
use Rattle.unix_definition.specs.Unix.{unix}
use Rattle.unix_calls.specs.Sides.{side_of, console_of}
use Rattle.unix_calls.proofs.FrameLemmas.{Change, Framed, call-framed}
use Rattle.unix_pipe_laws.specs.Stages.{reads_input, with_rest}
use Rattle.unix_pipe_laws.proofs.Lines.{left-behind}

-- a system with more input behind what is there
abbrev pub more_in : System → List ℕ → System
more_in s more = with_rest s (s.console.rest ++ more)

abbrev pub with_behind : List ℕ → Change
with_behind more = record { rest = λ xs. xs ++ more; output = λ xs. xs; error_output = λ xs. xs }

-- what follows does not matter to a read of so many bytes
abbrev pub ReadsAlike : List ℕ → System → ℕ → Type 0
ReadsAlike more s n = take (min n s.most) (first_line (s.console.rest ++ more)) ≡ take (min n s.most) (first_line s.console.rest)

-- a call that reads some bytes of input
reads-so : (s : System) (q : Question) (found : ℕ × Description) → (q.number == 4) ≡ true → numbered_at s.opened q.a0 ≡ Some found → (q.a2 == 0) ≡ false → found.1.target ≡ Input → reads_input s.opened q ≡ true
reads-so s q found call there some is =
    let side : console_of s.opened q.a0 ≡ 1 = ap (λ (o : Option (ℕ × Description)). elim o [ None ↦ 0 | Some f ↦ side_of f.1.target ]) there ∙ ap side_of is in
    (λ i. call i && (side i == 1 && not (some i)))

pub more-framed : (more : List ℕ) (s : System) (q : Question) → (reads_input s.opened q ≡ true → ReadsAlike more s q.a2) → Framed (with_behind more) s (unix (more_in s more) q) (unix s q)
more-framed more s q alike =
    call-framed (with_behind more) (record { output = λ xs ys. refl; error_output = λ xs ys. refl }) s q
    (λ found call there some is. record { line = alike (reads-so s q found call there some is); left = left-behind (min q.a2 s.most) s.console.rest more })
