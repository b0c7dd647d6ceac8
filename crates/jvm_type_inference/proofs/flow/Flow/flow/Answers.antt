use Rattle.std.proofs.Common.{◌≡◌, ◌<◌, get_or, set, length, subst, sym, ◌∙◌, true, Some, None, arith}
use Rattle.std.proofs.lemmas.List.{get_or_read}
use Rattle.jvm_type_inference.specs.Flow.{Flows, StaysBelow}
use Rattle.jvm_type_inference.specs.Frames.{type_frame, IsStill, IsJoin, IsAbove}
use Rattle.jvm_type_inference.proofs.CallLaws.{some-there}
use Rattle.jvm_type_inference.proofs.FlowLaws.{still-flows, changed-flows, changed-below, refused-below}
use Rattle.jvm_type_inference.proofs.flow.Flow.flow.Goals as goal

pub returns-in-Unchanged-clause-flows : goal.returns-in-Unchanged-clause-flows
returns-in-Unchanged-clause-flows c _ =
    let a = c.args in
    let frames = a.self.now.frames.items in
    let inside : a.to < length frames = let i = c.has_line.ensures.within c.if-not-has_line.false in let size = c.requires.size in omega (arith, i, size) in
    let old : c.index.result.now ≡ get_or frames a.to None = get_or_read frames a.to c.index.result.now inside c.index.ensures None in
    let line = some-there _ (sym c.has_line.ensures.found ∙ c.if-not-has_line.false) in
    let still = rw c.in-Unchanged.is at c.in_ok-meet.ensures in
    still-flows a.code.now.method.now a.limit frames a.self.now.work.items a.frame a.to line.0 line.1 (subst (λ o. IsStill o a.frame) old still)

pub returns-in_ok-put-in-Changed-clause-flows : goal.returns-in_ok-put-in-Changed-clause-flows
returns-in_ok-put-in-Changed-clause-flows c _ =
    let a = c.args in
    let m = a.code.now.method.now in
    let frames = a.self.now.frames.items in
    let work = a.self.now.work.items in
    let h = c.in-Changed.met in
    let inside : a.to < length frames = let i = c.has_line.ensures.within c.if-not-has_line.false in let size = c.requires.size in omega (arith, i, size) in
    let old : c.index.result.now ≡ get_or frames a.to None = get_or_read frames a.to c.index.result.now inside c.index.ensures None in
    let line = some-there _ (sym c.has_line.ensures.found ∙ c.if-not-has_line.false) in
    let join = rw c.in-Changed.is at c.in_ok-meet.ensures in
    let flows = changed-flows m a.limit frames work a.frame h a.to line.0 line.1 inside (subst (λ o. IsJoin o a.frame h) old join) c.requires.formed c.requires.frame in
    subst (λ x. Flows m a.limit (type_frame a.frame) a.to frames work x c.put.new.self.work.items) (sym c.in_ok-put-in-Changed.ensures.frames)
    (subst (λ x. Flows m a.limit (type_frame a.frame) a.to frames work (set frames a.to (Some h)) x) (sym c.in_ok-put-in-Changed.ensures.work) flows)

pub returns-in_ok-put-in-Changed-clause-below : goal.returns-in_ok-put-in-Changed-clause-below
returns-in_ok-put-in-Changed-clause-below c =
    let a = c.args in
    let m = a.code.now.method.now in
    let frames = a.self.now.frames.items in
    let h = c.in-Changed.met in
    let inside : a.to < length frames = let i = c.has_line.ensures.within c.if-not-has_line.false in let size = c.requires.size in omega (arith, i, size) in
    let old : c.index.result.now ≡ get_or frames a.to None = get_or_read frames a.to c.index.result.now inside c.index.ensures None in
    let join = rw c.in-Changed.is at c.in_ok-meet.ensures in
    subst (λ x. StaysBelow m (type_frame a.frame) a.to frames true x) (sym c.in_ok-put-in-Changed.ensures.frames)
    (changed-below m frames a.frame h a.to inside (subst (λ o. IsJoin o a.frame h) old join))

pub returns-in-Refused-clause-below : goal.returns-in-Refused-clause-below
returns-in-Refused-clause-below c =
    let a = c.args in
    let frames = a.self.now.frames.items in
    let inside : a.to < length frames = let i = c.has_line.ensures.within c.if-not-has_line.false in let size = c.requires.size in omega (arith, i, size) in
    let old : c.index.result.now ≡ get_or frames a.to None = get_or_read frames a.to c.index.result.now inside c.index.ensures None in
    let refuse = rw c.in-Refused.is at c.in_ok-meet.ensures in
    refused-below a.code.now.method.now frames frames a.frame a.to (λ u above. refuse u (subst (λ o. IsAbove o a.frame u) (sym old) above))
