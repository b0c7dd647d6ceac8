use Rattle.std.proofs.Common.{rules, ◌≡◌, [], ◌∷◌, sym, ap, subst, ◌∙◌, arith, length}
use Rattle.std.proofs.lemmas.List.{length-append}
use Rattle.type_verifier.proofs.TypingLaws.{IsListing, first-listing, none-listing, some-listing, all-listed, kept-listed}
use Rattle.type_verifier.proofs.typing.listing.Goals as goal

pub loop-slot-init : goal.loop-slot-init
loop-slot-init c = subst (λ x. IsListing c.args.frames.items c.args.frames.items x) (sym c.new-listed.ensures.items) (first-listing c.args.frames.items)

pub overflow_cast-len : goal.overflow_cast-len
overflow_cast-len c =
    let i = c.loop-slot.invariant in
    omega (arith, c.len.ensures, c.pop.new.self.ok.0, ap length c.in-Some.ensures.items, length-append c.pop.new.self.items (c.in-Some.slot ∷ []), ap length i.whole, length-append c.loop-slot.rest.items i.behind, c.requires)

pub loop-slot-preserved-in-Continue-1 : goal.loop-slot-preserved-in-Continue-1
loop-slot-preserved-in-Continue-1 c =
    let here : c.len.result ≡ length c.pop.new.self.items = omega (arith, c.len.ensures, c.pop.new.self.ok.0) in
    subst (λ x. IsListing c.args.frames.items c.pop.new.self.items x) (sym c.in_ok-push.ensures.items)
    (some-listing c.args.frames.items c.pop.new.self.items c.loop-slot.rest.items c.loop-slot.listed.items c.in-Some.slot c.in-Some.ensures.items c.loop-slot.invariant c.len.result c.in-Some-slot.frame c.in-Some-slot.is here)

pub loop-slot-preserved : goal.loop-slot-preserved
loop-slot-preserved c =
    none-listing c.args.frames.items c.pop.new.self.items c.loop-slot.rest.items c.loop-slot.listed.items c.in-Some.slot c.in-Some.ensures.items c.loop-slot.invariant c.in_default-slot.is

pub returns : goal.returns
returns c =
    let none : c.loop-slot.rest.items ≡ [] = search (rules, c.in_default.ensures) in
    kept-listed c.args.frames.items c.reverse.new.self.items (c.reverse.ensures.items ∙ all-listed c.args.frames.items c.loop-slot.rest.items c.loop-slot.listed.items none c.loop-slot.invariant)
