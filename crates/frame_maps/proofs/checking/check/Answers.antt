use Rattle.std.proofs.Common.{◌≡◌, ◌+◌, ◌<◌, ◌≤◌, length, get_or, [], sym, ap, subst, ◌∙◌, arith, Some, None}
use Rattle.std.specs.Prelude.{slice_get}
use Rattle.class_definition.specs.Linking.{linked_methods}
use Rattle.jvm_type_inference.specs.Actions.{program_over}
use Rattle.type_verifier.specs.Refusal.{methods_before}
use Rattle.frame_maps.specs.Checked.{IsFirstOf}
use Rattle.frame_maps.proofs.CheckLaws.{methods-within, next-before, class-typed, class-fails, more-typed, stands-at, table-is, first-moved}
use Rattle.frame_maps.proofs.checking.check.Goals as goal

pub first_fault-requires-clause-there : goal.first_fault-requires-clause-there
first_fault-requires-clause-there c =
    let l = c.args.linked.now in
    let tables = c.args.tables.now in
    let n = c.loop-number.number in
    let class = c.index-classes-number.result in
    let methods = c.as_slice-methods.result.now in
    let are : methods ≡ linked_methods l.classes = c.as_slice-methods.ensures ∙ l.methods_are in
    let all = c.as_slice-classes.ensures in
    let less : n < length l.classes = omega (arith, c.loop-number-test.true, ap length all) in
    let is : slice_get l.classes n ≡ Some class = stands-at l.classes n class less (c.index-classes-number.is ∙ ap (λ xs. get_or xs n class) all) in
    let t = c.index-tables-number.result in
    let table : t ≡ get_or tables n [] = table-is tables n t (omega (arith, less, c.requires.lists)) c.index-tables-number.is in
    let within = methods-within l.classes methods n class are is in
    let count = c.requires.each n class is in
    omega (arith, within, count, ap length (c.as_slice.ensures ∙ table), c.loop-number.invariant.0)

pub returns-in-Some-clause-refused : goal.returns-in-Some-clause-refused
returns-in-Some-clause-refused c =
    let l = c.args.linked.now in
    let tables = c.args.tables.now in
    let n = c.loop-number.number in
    let class = c.index-classes-number.result in
    let methods = c.as_slice-methods.result.now in
    let are : methods ≡ linked_methods l.classes = c.as_slice-methods.ensures ∙ l.methods_are in
    let all = c.as_slice-classes.ensures in
    let less : n < length l.classes = omega (arith, c.loop-number-test.true, ap length all) in
    let is : slice_get l.classes n ≡ Some class = stands-at l.classes n class less (c.index-classes-number.is ∙ ap (λ xs. get_or xs n class) all) in
    let t = c.index-tables-number.result in
    let table : t ≡ get_or tables n [] = table-is tables n t (omega (arith, less, c.requires.lists)) c.index-tables-number.is in
    let first = first-moved (program_over methods) c.loop-number.first (methods_before l.classes n) c.as_slice-pool.result.now class.pool c.as_slice.result.now (get_or tables n [])
    c.in_ok-method.field-0 (Some (c.in-Some.method, c.in-Some.kind)) c.loop-number.invariant.0 c.as_slice-pool.ensures (c.as_slice.ensures ∙ table) c.in-Some.is c.in_ok-method.ensures in
    class-fails l.classes methods tables are c.requires n class is c.in-Some.method c.in-Some.kind c.refusal.result first c.loop-number.invariant.1 c.refusal.ensures

pub behind-first-requires : goal.behind-first-requires
behind-first-requires c =
    let l = c.args.linked.now in
    let n = c.loop-number.number in
    let class = c.index-classes-number.result in
    let methods = c.as_slice-methods.result.now in
    let are : methods ≡ linked_methods l.classes = c.as_slice-methods.ensures ∙ l.methods_are in
    let all = c.as_slice-classes.ensures in
    let less : n < length l.classes = omega (arith, c.loop-number-test.true, ap length all) in
    let is : slice_get l.classes n ≡ Some class = stands-at l.classes n class less (c.index-classes-number.is ∙ ap (λ xs. get_or xs n class) all) in
    let within = methods-within l.classes methods n class are is in
    omega (arith, within, c.loop-number.invariant.0)

pub loop-number-preserved : goal.loop-number-preserved
loop-number-preserved c =
    let l = c.args.linked.now in
    let tables = c.args.tables.now in
    let n = c.loop-number.number in
    let class = c.index-classes-number.result in
    let methods = c.as_slice-methods.result.now in
    let are : methods ≡ linked_methods l.classes = c.as_slice-methods.ensures ∙ l.methods_are in
    let all = c.as_slice-classes.ensures in
    let less : n < length l.classes = omega (arith, c.loop-number-test.true, ap length all) in
    let is : slice_get l.classes n ≡ Some class = stands-at l.classes n class less (c.index-classes-number.is ∙ ap (λ xs. get_or xs n class) all) in
    let t = c.index-tables-number.result in
    let table : t ≡ get_or tables n [] = table-is tables n t (omega (arith, less, c.requires.lists)) c.index-tables-number.is in
    let first = first-moved (program_over methods) c.loop-number.first (methods_before l.classes n) c.as_slice-pool.result.now class.pool c.as_slice.result.now (get_or tables n [])
    c.in_ok-method.field-0 None c.loop-number.invariant.0 c.as_slice-pool.ensures (c.as_slice.ensures ∙ table) c.in_default.is c.in_ok-method.ensures in (
      c.behind-first.ensures ∙ (ap (λ x. x + length class.methods) c.loop-number.invariant.0 ∙ next-before l.classes n class is),
      more-typed l.classes tables n c.loop-number.invariant.1 (class-typed l.classes methods tables are c.requires n class is first),
    )
