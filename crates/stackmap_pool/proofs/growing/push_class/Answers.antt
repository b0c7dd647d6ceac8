use Rattle.std.proofs.Common.{◌≡◌, true, false, ap, ◌∙◌, length, leb, arith}
use Rattle.std.proofs.lemmas.Bool.{leb-true, leb-false}
use Rattle.stackmap_pool.specs.Longer.{with_class_of}
use Rattle.stackmap_pool.proofs.PoolLaws.{class-length, text-length, class-put}
use Rattle.stackmap_pool.proofs.growing.push_class.Goals as goal

pub returns-then-len-gt-SLOTS-clause-many : goal.returns-then-len-gt-SLOTS-clause-many
returns-then-len-gt-SLOTS-clause-many c h =
    let more = class-length c.args.name.now c.args.pool.now.items in
    omega (arith, more)

pub push_class_of-requires : goal.push_class_of-requires
push_class_of-requires c =
    let more = text-length c.args.name.now c.args.pool.now.items in
    omega (arith, more, ap length c.in_ok-push_text.ensures)

pub returns-clause-few : goal.returns-clause-few
returns-clause-few c h =
    let few : leb c.len-2.result 65534 ≡ true = cc in
    let least = leb-true c.len-2.result 65534 few in
    (c.in_ok-push_class_of.ensures ∙ (ap (with_class_of c.args.name.now) c.in_ok-push_text.ensures ∙ class-put c.args.name.now c.args.pool.now.items), omega (arith, least))

pub returns-clause-many : goal.returns-clause-many
returns-clause-many c h =
    let many : leb c.len-2.result 65534 ≡ false = cc in
    let more = leb-false c.len-2.result 65534 many in
    let is = c.in_ok-push_class_of.ensures ∙ (ap (with_class_of c.args.name.now) c.in_ok-push_text.ensures ∙ class-put c.args.name.now c.args.pool.now.items) in
    omega (arith, more, ap length is)
