use Rattle.std.proofs.Common.{◌≡◌, ◌<◌, get_or, length, sym, ◌∙◌, Some, None, arith}
use Rattle.std.proofs.lemmas.List.{get_or_read}
use Rattle.jvm_type_inference.specs.Frames.{type_frame}
use Rattle.jvm_type_inference.proofs.FlowLaws.{frame_at-is}
use Rattle.jvm_type_inference.proofs.flow.Flow.walked.Goals as goal

pub walk-requires-clause-formed : goal.walk-requires-clause-formed
walk-requires-clause-formed c =
    let a = c.args in
    let frames = a.self.now.frames.items in
    let inside : a.at < length frames = let i = c.begins_block.ensures.within c.if-not-begins_block.false in let size = c.requires.size in omega (arith, i, size) in
    let here : get_or frames a.at None ≡ Some c.in-Some.frame = sym (get_or_read frames a.at c.index.result.now inside c.index.ensures None) ∙ c.in-Some.is in
    c.requires.formed.each a.at c.in-Some.frame here

pub returns-in_ok-walk-in-Some-clause-walked : goal.returns-in_ok-walk-in-Some-clause-walked
returns-in_ok-walk-in-Some-clause-walked c =
    let a = c.args in
    let frames = a.self.now.frames.items in
    let inside : a.at < length frames = let i = c.begins_block.ensures.within c.if-not-begins_block.false in let size = c.requires.size in omega (arith, i, size) in
    let here : get_or frames a.at None ≡ Some c.in-Some.frame = sym (get_or_read frames a.at c.index.result.now inside c.index.ensures None) ∙ c.in-Some.is in
    let begins = c.if-not-begins_block.ensures.begins in
    (type_frame c.in-Some.frame, begins.0, begins.1, frame_at-is frames a.at c.in-Some.frame here, c.in_ok-walk-in-Some.ensures.walk)
