use Rattle.std.proofs.Common.{◌≡◌, ◌*◌, ◌/◌, ◌%◌, true, false, ap, sym, ◌∙◌}
use Rattle.std.specs.Prelude.{slice_index}
use Rattle.run_definition.specs.Words.{lane_of_word}
use Rattle.std.proofs.lemmas.Result.{on_ok_weaker}
use Rattle.run_definition.specs.Memory.{Memory}
use Rattle.elf_definition.specs.Start.{image_of, readable}
use Rattle.mips_memory.specs.Pages.{with_page, with_zero_page}
use Rattle.mips_memory.proofs.LoadLemmas.{below_absent, below_fresh, below_mapped}
use Rattle.mips_memory.proofs.ImageLemmas.{no_byte, no_writing, same_writing, words_are, zeros_are}
use Rattle.mips_memory.proofs.memory_loader.add_page.Goals as goal

pub returns-then-not-readable : goal.returns-then-not-readable
returns-then-not-readable c =
    let off : readable c.args.image.now c.args.page ≡ false = sym c.readable.ensures ∙ c.if-not-readable.true in
    c.requires.earlier
    ∙ below_absent (image_of c.args.image.now).memory c.args.page
    (λ a here. no_byte c.args.image.now a (ap (readable c.args.image.now) here ∙ off))
    (λ a here. no_writing c.args.image.now a (ap (readable c.args.image.now) here ∙ off))

pub map_page-requires-clause-fresh : goal.map_page-requires-clause-fresh
map_page-requires-clause-fresh c =
    ap (λ (m : Memory). m.byte (c.args.page * 4096)) c.requires.earlier ∙ below_fresh (image_of c.args.image.now).memory c.args.page

pub map_zero_page-requires-clause-fresh : goal.map_zero_page-requires-clause-fresh
map_zero_page-requires-clause-fresh c =
    ap (λ (m : Memory). m.byte (c.args.page * 4096)) c.requires.earlier ∙ below_fresh (image_of c.args.image.now).memory c.args.page

pub returns-in-Some : goal.returns-in-Some
returns-in-Some c =
    let v = c.args.image.now in
    let words = c.in-Some.words.now in
    let w = c.writable-writable.result in
    let on : readable v c.args.page ≡ true = sym c.readable.ensures ∙ c.if-not-readable.false in
    on_ok_weaker c.map_page.result
    (λ is. is
    ∙ ap (λ (m : Memory). with_page m c.args.page w words) c.requires.earlier
    ∙ below_mapped (image_of v).memory c.args.page (λ a. lane_of_word (slice_index words (a / 4 % 1024)) (a % 4)) w
    (words_are v c.args.page words on c.in-Some.ensures.words c.laws.ensures.lanes)
    (λ a here. same_writing v a c.args.page w c.writable-writable.ensures here))
    c.map_page.ensures.ok

pub returns-in-None : goal.returns-in-None
returns-in-None c =
    let v = c.args.image.now in
    let w = c.writable-writable.result in
    let on : readable v c.args.page ≡ true = sym c.readable.ensures ∙ c.if-not-readable.false in
    on_ok_weaker c.map_zero_page.result
    (λ is. is
    ∙ ap (λ (m : Memory). with_zero_page m c.args.page w) c.requires.earlier
    ∙ below_mapped (image_of v).memory c.args.page (λ a. 0) w
    (zeros_are v c.args.page on (sym c.in-None.ensures.filled) c.laws.ensures.zeros)
    (λ a here. same_writing v a c.args.page w c.writable-writable.ensures here))
    c.map_zero_page.ensures.ok
