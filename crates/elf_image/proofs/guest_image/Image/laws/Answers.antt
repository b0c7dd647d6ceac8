use Rattle.std.proofs.Common.{◌≡◌, ℕ, ◌*◌, ◌/◌, ◌%◌, ◌≤◌, ◌<◌, ◌^◌, false, List, length, refl, sym, ap, subst, ◌∙◌, arith}
use Rattle.std.specs.List.{All}
use Rattle.elf_definition.specs.declared.range.Range.{Range}
use Rattle.elf_definition.specs.Fault.{IsRunsOf}
use Rattle.run_definition.specs.Words.{lane_of_word}
use Rattle.elf_definition.specs.declared.segment.Segment.{Segment}
use Rattle.elf_definition.specs.Segments.{live}
use Rattle.elf_definition.specs.Area.{area}
use Rattle.elf_definition.specs.Pages.{heap_page}
use Rattle.elf_definition.specs.Content.{stored_byte, stored_word, is_filled_page}
use Rattle.elf_definition.specs.ImageFault.{code_words}
use Rattle.elf_definition.specs.Start.{Source, image_of, readable}
use Rattle.elf_image.specs.Whole.{IsWholeRange}
use Rattle.elf_image.proofs.Accepted.{live_low, sound_of}
use Rattle.elf_image.proofs.MappedLemmas.{heap_short}
use Rattle.elf_image.proofs.TableLemmas.{not_filled}
use Rattle.elf_image.proofs.ImageLaws.{pages_end, code_end}
use Rattle.elf_image.proofs.RunsLemmas.{runs_one}
use Rattle.elf_image.proofs.WholeLemmas.{passes, few_words, few_pages, whole_ranges}
use Rattle.elf_image.proofs.AreaLemmas.{some_runs}
use Rattle.elf_image.proofs.guest_image.Image.laws.Goals as goal

pub returns-clause-lanes : goal.returns-clause-lanes
returns-clause-lanes c =
    let table = c.self.inside.table in
    let P : Source → Type 0 = λ v. (at : ℕ) → lane_of_word (stored_word v.file (live v.file) (4 * (at / 4))) (at % 4) ≡ stored_byte v.file (live v.file) at in
    let Q : List Segment → Type 0 = λ s. (at : ℕ) → lane_of_word (stored_word c.self.inside.table.file.bytes s (4 * (at / 4))) (at % 4) ≡ stored_byte c.self.inside.table.file.bytes s at in
    subst P c.self.view_is
    (subst Q c.self.invariant.same_table (λ at. ap (λ w. lane_of_word w (at % 4)) (sym (table.words (at / 4))) ∙ table.bytes at))

pub returns-clause-zeros : goal.returns-clause-zeros
returns-clause-zeros c =
    let file = c.self.inside.table.file.bytes in
    let P : Source → Type 0 = λ v. (at : ℕ) → is_filled_page v.file (live v.file) (at / 4096) ≡ false → stored_byte v.file (live v.file) at ≡ 0 in
    subst P c.self.view_is
    (λ at off. not_filled _ file (live file) (at / 4096) at (sound_of file (live file) c.self.invariant.accepted refl) off refl)

pub returns-clause-pages : goal.returns-clause-pages
returns-clause-pages c =
    let i = c.self.inside in
    let kept = c.self.invariant in
    let file = i.table.file.bytes in
    let P : Source → Type 0 = λ v. (page : ℕ) → 524288 ≤ page → readable v page ≡ false in
    let low : heap_page (live i.table.file.bytes) ≤ 0x7F000 = omega (arith, i.layout.first, i.layout.low, ap heap_page kept.same_layout) in
    subst P c.self.view_is
    (pages_end (live file) i.layout.heap i.layout.stack (live_low file kept.accepted) (heap_short (live file) i.layout.heap i.layout.stack low (passes file i.code.items i.layout.heap i.layout.stack kept.passed).layout))

pub returns-clause-code : goal.returns-clause-code
returns-clause-code c =
    let file = c.self.inside.table.file.bytes in
    let P : Source → Type 0 = λ v. (at : ℕ) → 2147483648 ≤ at → area v.file at ≡ false in
    subst P c.self.view_is (code_end file c.self.invariant.accepted (sound_of file (live file) c.self.invariant.accepted refl))

pub returns-clause-mapped : goal.returns-clause-mapped
unfolding image_of
returns-clause-mapped c =
    let i = c.self.inside in
    let P : Source → Type 0 = λ v. (image_of v).mapped ≤ 65_536 in
    subst P c.self.view_is (few_pages i.table.file.bytes i.code.items i.layout.heap i.layout.stack c.self.invariant.passed)

pub returns-clause-words : goal.returns-clause-words
returns-clause-words c =
    let i = c.self.inside in
    let P : Source → Type 0 = λ v. (code : List Range) → IsRunsOf (area v.file) code → code_words code ≤ 1_048_576 in
    subst P c.self.view_is (λ code runs.
    subst (λ rs. code_words rs ≤ 1_048_576) (runs_one (area i.table.file.bytes) i.code.items code c.self.invariant.runs runs)
    (few_words i.table.file.bytes i.code.items i.layout.heap i.layout.stack c.self.invariant.passed).0)

pub returns-clause-runs : goal.returns-clause-runs
returns-clause-runs c =
    let i = c.self.inside in
    let P : Source → Type 0 = λ v. (code : List Range) → IsRunsOf (area v.file) code → length code ≤ 64 in
    subst P c.self.view_is (λ code runs.
    subst (λ (rs : List Range). length rs ≤ 64) (runs_one (area i.table.file.bytes) i.code.items code c.self.invariant.runs runs)
    (few_words i.table.file.bytes i.code.items i.layout.heap i.layout.stack c.self.invariant.passed).1)

pub returns-clause-some : goal.returns-clause-some
returns-clause-some c =
    let P : Source → Type 0 = λ v. (code : List Range) → IsRunsOf (area v.file) code → 1 ≤ length code in
    subst P c.self.view_is (λ code runs. some_runs c.self.inside.table.file.bytes code c.self.invariant.accepted runs)

pub returns-clause-whole : goal.returns-clause-whole
returns-clause-whole c =
    let i = c.self.inside in
    let kept = c.self.invariant in
    let file = i.table.file.bytes in
    let v : Source = record { file = file; heap = i.layout.heap; stack = i.layout.stack } in
    let P : Source → Type 0 = λ v. (code : List Range) → IsRunsOf (area v.file) code → All (IsWholeRange (image_of v).code) code in
    let Q : List Segment → Type 0 = λ s. (k : ℕ) → stored_word file s (4 * k) < 2 ^ 32 in
    subst P c.self.view_is (λ code runs.
    subst (All (IsWholeRange (image_of v).code)) (runs_one (area file) i.code.items code kept.runs runs)
    (whole_ranges v i.code.items kept.runs kept.accepted kept.passed (subst Q kept.same_table c.words_fit.ensures)))
