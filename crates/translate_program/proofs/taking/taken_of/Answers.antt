use Rattle.std.proofs.Common.{◌≡◌, length, sym, subst}
use Rattle.elf_definition.specs.Start.{image_of}
use Rattle.translate_program.specs.Files.{need}
use Rattle.translate_program.specs.DataFiles.{IsDataOf}
use Rattle.translate_program.specs.MainFile.{IsHeadOf}
use Rattle.translate_program.specs.Ranges.{AreRangesOf}
use Rattle.translate_program.specs.Translation.{code_methods}
use Rattle.translate_program.proofs.taking.taken_of.Goals as goal

pub code_counts-requires : goal.code_counts-requires
code_counts-requires c =
    let ranges = c.in_ok-ranges.ranges in
    subst (λ s. AreRangesOf s ranges.items.items) (sym c.in_ok-ranges.ensures.image) c.in_ok-ranges.ensures.ranges

pub returns-clause-taken : goal.returns-clause-taken
returns-clause-taken c =
    let source = c.args.image.now in
    let name = c.args.name.now in
    let ranges = c.in_ok-ranges.ranges in
    let stored = c.in_ok-stored.stored in
    let classes = c.in_ok-counts.counts.classes in
    let counts = c.in_ok-counts.ensures.counts in
    let same : source ≡ ranges.image.value = sym c.in_ok-ranges.ensures.image in
    record {
      ranges_are = subst (λ s. AreRangesOf s ranges.items.items) same c.in_ok-ranges.ensures.ranges;
      head_is = subst (λ s. IsHeadOf s c.in_ok-head.head) same c.in_ok-head.ensures;
      data_is = λ code are.
          subst (λ s. IsDataOf s name (length code) (code_methods code) stored) same
          (subst (λ n. IsDataOf source name n (code_methods code) stored) (counts.classes_are code are)
          (subst (λ m. IsDataOf source name classes m stored) (counts.methods_are code are) c.in_ok-stored.ensures));
      need_is = subst (λ s. c.need.result ≡ need (image_of s).mapped) same c.need.ensures;
    }
