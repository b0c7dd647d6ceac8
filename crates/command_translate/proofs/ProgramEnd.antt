-- How the program ends, from its start.
use Rattle.std.proofs.Common.{◌≡◌, ℕ, suc, ◌+◌, ◌*◌, ◌≤◌, List, [], length, None, refl, ap, ◌∙◌, arith}
use Rattle.run_definition.specs.Run.{run_of}
use Rattle.mips_definition.specs.Step.{after_loader, turn}
use Rattle.elf_definition.specs.Start.{image_of}
use Rattle.elf_definition.specs.FileFields.{words}
use Rattle.mips_asm.specs.File.{IsFileOf}
use Rattle.mips_asm_laws.proofs.Sizes.{length_words}
use Rattle.unix_definition.specs.Unix.{reply}
use Rattle.elf_definition.specs.Loading.{start_of}
use Rattle.command_translate.specs.MadeWords.{made_words}
use Rattle.command_translate.proofs.WordLemmas.{length_made}
use Rattle.command_translate.specs.MadeEnds.{ExitsLow, made_outcome}
use Rattle.command_translate.proofs.BlockTurns.{stands}
use Rattle.command_translate.proofs.PlainWords.{plain_words}
use Rattle.command_translate.proofs.ProgramStart.{alone, argument_room, asked_run, code_there, in_big_order, loader_answered, low_heap, made_source, starts_at}
use Rattle.command_translate.proofs.WholeRun.{exits}

pub made_ends : (count moment : ℕ) (file : List ℕ) → count ≤ 65536 → IsFileOf (words (made_words count)) [] file
    → ExitsLow (made_outcome (5 * count + 4) moment file)
made_ends count moment file few is =
    let ws = made_words count in
    let size = length_made count in
    let four = length_words ws in
    let short : length (words ws) ≤ 1572876 = omega (arith, size, few) in
    let some : 1 ≤ length ws = omega (arith, size, four) in
    let plain = plain_words count few in
    let s = start_of (image_of (made_source file)) in
    let given = loader_answered s moment (in_big_order ws file is short four some plain) (low_heap ws file is short four some plain) (argument_room file) in
    let base = after_loader s given.0.0 in
    let far = exits reply base count few
    (λ j at lt place. code_there ws file is short four some plain j at (omega (arith, lt, size, four)) place) base.registers given.0.1 in
    let steps : 5 * count + 4 ≡ suc (5 * count + 3) = omega arith in
    let first = ap (λ n. (run_of turn reply n s (alone moment)).outcome) steps ∙ asked_run reply (5 * count + 3) s (alone moment) given.0 refl given.1 in
    let begun = ap (λ pc. (run_of turn reply (5 * count + 3) (stands base base.registers pc None) given.0.1).outcome)
    (starts_at ws file is short four some plain) in
    record { status = far.0; low = far.1; is = first ∙ begun ∙ far.2 }
