-- A program that writes its first argument: the argument block is put by the loader's call, and the write shows the text to the
-- system. It has 29 steps.
use Rattle.std.proofs.Common.{◌≡◌, refl, ℕ, List, [], ◌∷◌, map, pos}
use Rattle.run_definition.specs.Question.{Question, no_text, bytes}
use Rattle.run_definition.specs.Answer.{Answer, next_answer}
use Rattle.run_definition.specs.Run.{Run, run_of}
use Rattle.run_definition.specs.declared.outcome.Outcome.TheVariants.{Exited, Going}
use Rattle.mips_definition.specs.State.{State}
use Rattle.mips_definition.specs.Step.{turn}
use Rattle.mips_definition.specs.Table.{inst}
use Rattle.mips_decode.proofs.Programs.{started, value, numbers}

-- lw $5,4($5); addu $6,$5,$0; lbu $7,0($6); bne $7,$0,-2; addiu $6,$6,1; subu $6,$6,$5; addiu $6,$6,-1; write(1, $5, $6); exit(0)
abbrev echo : List ℕ
echo = 0x8ca50004 ∷ 0x00a03021 ∷ 0x90c70000 ∷ 0x14e0fffe ∷ 0x24c60001 ∷ 0x00c53023 ∷ 0x24c6ffff ∷ 0x24040001 ∷ 0x24020005 ∷ 0x0000000c ∷ 0x24040000 ∷ 0x24020001 ∷ 0x0000000c ∷ []

-- two arguments, `Main` and `hello`: the addresses of their texts and 0, then the texts, each followed by 0
abbrev arguments : List ℕ
arguments =
    0x7f ∷ 0xff ∷ 0xf0 ∷ 0x0c ∷ 0x7f ∷ 0xff ∷ 0xf0 ∷ 0x11 ∷ 0 ∷ 0 ∷ 0 ∷ 0
    ∷ 0x4d ∷ 0x61 ∷ 0x69 ∷ 0x6e ∷ 0 ∷ 0x68 ∷ 0x65 ∷ 0x6c ∷ 0x6c ∷ 0x6f ∷ 0 ∷ []

abbrev echo_run : ℕ → Run State (List Answer)
echo_run n = run_of turn next_answer n (started echo) (record { value = pos 2; patch = arguments } ∷ value (pos 5) ∷ [])

echo_goes : (echo_run 28).outcome ≡ Going
unfolding inst
echo_goes = refl

echo_exits : (echo_run 29).outcome ≡ Exited (pos 0)
unfolding inst
echo_exits = refl

echo_asks : numbers (echo_run 29) ≡ 0 ∷ 5 ∷ 1 ∷ []
unfolding inst
echo_asks = refl

echo_writes : map (λ (q : Question). q.text) (echo_run 29).questions ≡ no_text ∷ bytes (0x68 ∷ 0x65 ∷ 0x6c ∷ 0x6c ∷ 0x6f ∷ []) ∷ no_text ∷ []
unfolding inst
echo_writes = refl
