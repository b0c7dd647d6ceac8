use Rattle.std.proofs.Common.{◌≡◌, ℕ, ◌+◌, ◌-◌, ◌≤◌, subst, arith}
use Rattle.run_definition.specs.Answer.{next_answer}
use Rattle.run_simulation_laws.specs.Runs.{SameRuns}
use Rattle.elf_definition.specs.Start.{image_of}
use Rattle.mips_definition.specs.Step as guest
use Rattle.elf_definition.specs.Loading.{start_of}
use Rattle.jvm_definition.specs.Program.{Program}
use Rattle.jvm_definition.specs.Step.{jvm_turn}
use Rattle.jvm_definition.specs.Again.{again}
use Rattle.jvm_run_laws.proofs.Followed.{followed-again}
use Rattle.class_definition.specs.Linking.{program_of}
use Rattle.jvm_link.proofs.LinkLemmas.{run_there_if}
use Rattle.jvm_link.proofs.LinkedLaws.{linked_if}
use Rattle.translate_program.specs.Files.{allow, need}
use Rattle.nv_translate.proofs.repeated_translations.translations_run_again.Goals as goal

pub returns : goal.returns
returns c source classes accepted alike = record {
  same = λ words heap answers free room.
      let program : Program = program_of classes in
      let mapped : ℕ = (image_of source).mapped in
      let rest : ℕ = words - heap.used in
      let whole : heap.used + rest ≡ words = omega (arith, room) in
      let enough : need mapped ≤ rest = omega (arith, room) in
      subst (λ (region : ℕ). SameRuns guest.turn (jvm_turn program region) next_answer (allow mapped) (start_of (image_of source)) (again program heap) answers) whole
      (followed-again guest.turn next_answer program rest (allow mapped) heap (start_of (image_of source)) answers free (alike.same rest answers enough));
  free = λ heap left. c.left_heaps_are_free.ensures (program_of classes) heap accepted.typed (linked_if classes (run_there_if classes accepted.links)) left;
}
