use Rattle.std.proofs.Common.{◌≡◌, ◌≤◌, ◌++◌, ◌∷◌, [], map, length, Some, ap, sym, ◌∙◌, arith}
use Rattle.unix_definition.specs.Files.{free_node, with_name}
use Rattle.unix_definition.specs.Unix.{found_file}
use Rattle.unix_calls.specs.Held.{Held, limited}
use Rattle.unix_calls.proofs.HeldForms.{with_tables_held}
use Rattle.unix_calls.specs.Starting.{held_at_start}
use Rattle.unix_calls.specs.contracts.unix.Unix.{the_view}
use Rattle.unix_calls.proofs.StartLemmas.{start_files, start-more, start-some, needed-more}
use Rattle.unix_calls.proofs.unix.Unix.add_file.Goals as goal

pub unreachable-requires : goal.unreachable-requires
unreachable-requires c =
    let b = c.requires.begins in
    let disk : c.self.inside.disk ≡ start_files b.blocks b.files = ap (λ h. h.files) (c.self.view_is ∙ b.begins.is) in
    let few : length b.files ≤ 255 = omega (arith, b.few) in
    c.in_default.not-Some (length (map found_file b.files)) (c.unused.ensures.value ∙ (ap free_node disk ∙ start-some b.blocks b.files (omega (arith, few))))

pub returns-clause-added : goal.returns-clause-added
returns-clause-added c most blocks moment files args b =
    let name = c.args.name.now in
    let bytes = c.args.bytes.now in
    let whole : Held = limited (held_at_start blocks moment files args) most in
    let start : the_view c.self.inside ≡ whole = c.self.view_is ∙ b.is in
    let disk : c.self.inside.disk ≡ start_files blocks files = ap (λ h. h.files) start in
    let n = c.in-Some.n in
    let free : free_node (start_files blocks files) ≡ Some n = ap free_node (sym disk) ∙ (sym c.unused.ensures.value ∙ c.in-Some.is) in
    let named = c.set_name.ensures in
    let next : c.write.new.self ≡ start_files blocks (files ++ (name, bytes) ∷ []) = start-more blocks files name bytes n c.set_name.new.self c.write.new.self free (c.set_name.ensures ∙ ap (λ k. with_name k n (Some name)) disk) c.write.ensures in
    record {
      is = ap (λ h. with_tables_held h c.write.new.self h.opened h.heap) start ∙ ap (λ k. with_tables_held whole k whole.opened whole.heap) next;
      fits = omega (arith, needed-more files name bytes, b.fits, c.if-needed-from.false, c.from.ensures, c.used_blocks.ensures, c.blocks_of.ensures, ap (λ h. h.blocks) c.self.view_is, ap (λ h. h.blocks) b.is, ap (λ h. h.files.free) b.is);
    }
