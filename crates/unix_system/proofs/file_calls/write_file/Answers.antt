use Rattle.std.proofs.Common.{◌≡◌, ℕ, ◌+◌, ◌-◌, ◌<◌, ◌≤◌, length, Some, true, pos, w32, ap, sym, ◌∙◌, arith}
use mir.Val.{to_z}
use Rattle.std.proofs.lemmas.Int.{ints}
use Rattle.unix_definition.specs.Opened.{with_description}
use Rattle.run_definition.specs.Memory.{bytes_from}
use Rattle.run_definition.specs.Question.{asked_text_at}
use Rattle.run_definition.specs.declared.text_place.TextPlace.TheVariants.{Counted}
use Rattle.unix_definition.specs.Files.{bytes_at, has_blocks, with_bytes, written}
use Rattle.unix_definition.specs.System.{system_with_tables}
use Rattle.unix_definition.specs.Asked.{bytes_of_text, value_only}
use Rattle.unix_definition.specs.Calls.{write_place, description_placed}
use Rattle.unix_system.proofs.ReadLemmas.{some-bytes, length-bytes_from}
use Rattle.unix_system.proofs.WriteLemmas.{too-large, no-space, has-written, with_bytes-none}
use Rattle.unix_system.proofs.file_calls.write_file.Goals as goal
use Rattle.unix_system.proofs.file_calls.write_file.Goals.{then-has, else-has}

sum : (a b start count place n : ℕ) → a ≡ start → b ≡ count → start ≡ place → n ≡ count → a + b ≡ place + n
sum a b start count place n p q r s = omega arith

as_signed : (count n : ℕ) → count < 0x80000000 → n ≡ count → to_z w32 count ≡ pos n
as_signed count n small e = omega (arith, ints)

pub returns-then-end-gt2147483647 : goal.returns-then-end-gt2147483647
returns-then-end-gt2147483647 g c =
    let m = g.M.View.memory (g.M.View.content c.args.view.now) in
    let text = bytes_of_text (asked_text_at m (Counted c.args.at c.args.count)) in
    let place = write_place c.args.disk.now c.args.n c.args.found.1 in
    let long : length text ≡ c.args.count = length-bytes_from m c.args.at c.args.count text (some-bytes (bytes_from m c.args.at c.args.count) c.requires.readable) in
    let start : c.write_place-start.result ≡ place = c.write_place-start.ensures in
    let past : 0x7FFFFFFF < place + length text = omega (arith, c.from.ensures, c.from-2.ensures, c.if-end-gt2147483647.true) in
    λ s. too-large (system_with_tables s c.args.disk.now c.args.opened.now) c.args.found.0 c.args.found.1 c.args.n text place past

pub returns-then-not-has_blocks : goal.returns-then-not-has_blocks
returns-then-not-has_blocks g c =
    let m = g.M.View.memory (g.M.View.content c.args.view.now) in
    let text = bytes_of_text (asked_text_at m (Counted c.args.at c.args.count)) in
    let f = c.args.disk.now in
    let place = write_place f c.args.n c.args.found.1 in
    let long : length text ≡ c.args.count = length-bytes_from m c.args.at c.args.count text (some-bytes (bytes_from m c.args.at c.args.count) c.requires.readable) in
    let start : c.write_place-start.result ≡ place = c.write_place-start.ensures in
    let small : place + length text ≤ 0x7FFFFFFF = omega (arith, c.from.ensures, c.from-2.ensures, c.if-end-gt2147483647.false) in
    let size : c.size_after.result ≡ place + length text + (length (bytes_at f c.args.n) - (place + length text)) = omega (arith, c.from.ensures, c.from-2.ensures, c.size.ensures, c.size_after.ensures) in
    λ s. no-space (system_with_tables s f c.args.opened.now) c.args.found.0 c.args.found.1 c.args.n text place small (ap (has_blocks f c.args.n) (sym size) ∙ (sym c.has_blocks.ensures ∙ c.if-not-has_blocks.true))

pub returns : goal.returns
returns g c =
    let m = g.M.View.memory (g.M.View.content c.args.view.now) in
    let text = bytes_of_text (asked_text_at m (Counted c.args.at c.args.count)) in
    let f = c.args.disk.now in
    let place = write_place f c.args.n c.args.found.1 in
    let long : length text ≡ c.args.count = length-bytes_from m c.args.at c.args.count text (some-bytes (bytes_from m c.args.at c.args.count) c.requires.readable) in
    let start : c.write_place-start.result ≡ place = c.write_place-start.ensures in
    let small : place + length text ≤ 0x7FFFFFFF = omega (arith, c.from.ensures, c.from-2.ensures, c.if-end-gt2147483647.false) in
    let size : c.size_after.result ≡ place + length text + (length (bytes_at f c.args.n) - (place + length text)) = omega (arith, c.from.ensures, c.from-2.ensures, c.size.ensures, c.size_after.ensures) in
    let room : has_blocks f c.args.n (place + length text + (length (bytes_at f c.args.n) - (place + length text))) ≡ true = ap (has_blocks f c.args.n) (sym size) ∙ (sym c.has_blocks.ensures ∙ c.if-not-has_blocks.false) in
    let files : c.if-has.disk ≡ with_bytes f c.args.n (written (bytes_at f c.args.n) place text) = elim c.if-has.branch [
      | then-has w ↦ w.disk-is ∙ (w.copy_in.ensures ∙ ap (λ k. with_bytes f c.args.n (written (bytes_at f c.args.n) k text)) start)
      | else-has w ↦ w.disk-is ∙ sym (with_bytes-none f c.args.n (written (bytes_at f c.args.n) place text) (sym c.has.ensures ∙ w.if-has.false))
    ] in
    let opened : c.set_description.new.self ≡ description_placed c.args.opened.now c.args.found.0 c.args.found.1 (place + length text) =
    c.set_description.ensures ∙ (ap (λ k. with_description c.args.opened.now c.args.found.0 (Some k)) c.at.ensures ∙ ap (description_placed c.args.opened.now c.args.found.0 c.args.found.1) (sum c.from.result c.from-2.result c.write_place-start.result c.args.count place (length text) c.from.ensures c.from-2.ensures start long)) in
    let value : to_z w32 c.args.count ≡ pos (length text) = as_signed c.args.count (length text) c.requires.small long in
    λ s. has-written (system_with_tables s f c.args.opened.now) c.args.found.0 c.args.found.1 c.args.n text place small room
    ∙ (ap (λ x. (value_only (pos (length text)), system_with_tables s x (description_placed c.args.opened.now c.args.found.0 c.args.found.1 (place + length text)))) (sym files)
    ∙ (ap (λ o. (value_only (pos (length text)), system_with_tables s c.if-has.disk o)) (sym opened) ∙ ap (λ z. (value_only z, system_with_tables s c.if-has.disk c.set_description.new.self)) (sym value)))
