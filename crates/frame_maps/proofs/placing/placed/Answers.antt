use Rattle.std.proofs.Common.{rules, ◌≡◌, ◌<◌, ◌++◌, ◌∷◌, [], length, true, false, Option, Some, None, sym, ap, ◌∙◌, arith}
use Rattle.std.specs.Prelude.{is_some}
use Rattle.std.proofs.lemmas.Bool.{true≢false}
use Rattle.std.proofs.lemmas.List.{length-replicate, length-set}
use Rattle.jvm_definition.specs.Program.{line_in}
use Rattle.jvm_type_inference.specs.declared.frame.Frame.{Frame}
use Rattle.frame_maps.proofs.PlacingLaws.{first-placing, next-placing, no-line, all-placed}
use Rattle.frame_maps.proofs.placing.placed.Goals as goal

pub loop-at-init : goal.loop-at-init
loop-at-init c =
    let e = c.in_ok-frames.ensures in (
      omega (arith, ap length e, length-replicate {A = Option Frame} c.len.result None, c.len.ensures, c.args.code.now.starts.ok.0),
      first-placing c.args.code.now.method.now c.args.listed.items c.len.result c.in_ok-frames.frames.items e,
    )

pub returns-then-not-has_line : goal.returns-then-not-has_line
returns-then-not-has_line c program framed =
    let m = c.args.code.now.method.now in
    no-line m c.args.listed.items c.pop.new.self.items c.loop-at.rest.items c.loop-at.frames.items c.in-Some.at c.in-Some.frame c.in-Some.ensures.items c.loop-at.invariant.1 program
    (λ has. true≢false (sym has ∙ (sym c.has_line.ensures.found ∙ c.if-not-has_line.true))) framed

pub index_mut-requires : goal.index_mut-requires
index_mut-requires c =
    let inside = c.has_line.ensures.within c.if-not-has_line.false in
    omega (arith, inside, c.loop-at.invariant.0, c.loop-at.frames.ok.0)

pub loop-at-preserved : goal.loop-at-preserved
loop-at-preserved c =
    let m = c.args.code.now.method.now in
    let at = c.has_line.ensures.within c.if-not-has_line.false in
    let inside : c.in-Some.at < length c.loop-at.frames.items = omega (arith, at, c.loop-at.invariant.0) in (
      omega (arith, length-set c.loop-at.frames.items c.in-Some.at (Some c.in-Some.frame), c.loop-at.invariant.0),
      next-placing m c.args.listed.items c.pop.new.self.items c.loop-at.rest.items c.loop-at.frames.items c.in-Some.at c.in-Some.frame c.in-Some.ensures.items c.loop-at.invariant.1 inside (sym c.has_line.ensures.found ∙ c.if-not-has_line.false),
    )

pub loop-at-preserved-else-not-has_line : goal.loop-at-preserved-else-not-has_line
loop-at-preserved-else-not-has_line c =
    let m = c.args.code.now.method.now in
    let at = c.has_line.ensures.within c.if-not-has_line.false in
    let inside : c.in-Some.at < length c.loop-at.frames.items = omega (arith, at, c.loop-at.invariant.0) in (
      omega (arith, length-set c.loop-at.frames.items c.in-Some.at (Some c.in-Some.frame), c.loop-at.invariant.0),
      next-placing m c.args.listed.items c.pop.new.self.items c.loop-at.rest.items c.loop-at.frames.items c.in-Some.at c.in-Some.frame c.in-Some.ensures.items c.loop-at.invariant.1 inside (sym c.has_line.ensures.found ∙ c.if-not-has_line.false),
    )

pub loop-at-preserved-else-not-has_line-2 : goal.loop-at-preserved-else-not-has_line-2
loop-at-preserved-else-not-has_line-2 c =
    let m = c.args.code.now.method.now in
    let at = c.has_line.ensures.within c.if-not-has_line.false in
    let inside : c.in-Some.at < length c.loop-at.frames.items = omega (arith, at, c.loop-at.invariant.0) in (
      omega (arith, length-set c.loop-at.frames.items c.in-Some.at (Some c.in-Some.frame), c.loop-at.invariant.0),
      next-placing m c.args.listed.items c.pop.new.self.items c.loop-at.rest.items c.loop-at.frames.items c.in-Some.at c.in-Some.frame c.in-Some.ensures.items c.loop-at.invariant.1 inside (sym c.has_line.ensures.found ∙ c.if-not-has_line.false),
    )

pub returns : goal.returns
returns c =
    let none : c.loop-at.rest.items ≡ [] = search (rules, c.in_default.ensures) in
    all-placed c.args.code.now.method.now c.args.listed.items c.loop-at.rest.items c.loop-at.frames.items none c.loop-at.invariant.1
