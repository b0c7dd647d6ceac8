use Rattle.std.proofs.Common.{◌≡◌, ◌+◌, ◌<◌, length, sym, ap, subst, ◌∙◌, Some, arith}
use Rattle.std.specs.Prelude.{slice_get}
use Rattle.class_definition.specs.Linking.{linked_methods, program_of}
use Rattle.jvm_type_inference.specs.Actions.{program_over}
use Rattle.type_verifier.specs.Refusal.{methods_before}
use Rattle.type_verifier.specs.Typings.{AreListed}
use Rattle.type_verifier.proofs.VerifyLaws.{method-there, same-methods, fails-same}
use Rattle.type_verifier.proofs.TypingLaws.{number-within, listed-is}
use Rattle.type_verifier.proofs.typing.typing_of.Goals as goal

pub number_of-number-requires : goal.number_of-number-requires
number_of-number-requires c =
    let l = c.args.linked.now in
    let classes : c.as_slice-classes.result.now ≡ l.classes = c.as_slice-classes.ensures in
    let methods : c.as_slice-methods.result.now ≡ linked_methods l.classes = c.as_slice-methods.ensures ∙ l.methods_are in
    let less = number-within l.classes c.as_slice-methods.result.now c.args.class c.args.method methods c.requires in
    subst (λ x. methods_before x c.args.class + c.args.method < length c.as_slice-methods.result.now) (sym classes) less

pub infer-requires : goal.infer-requires
infer-requires c =
    let l = c.args.linked.now in
    let classes : c.as_slice-classes.result.now ≡ l.classes = c.as_slice-classes.ensures in
    let methods : c.as_slice-methods.result.now ≡ linked_methods l.classes = c.as_slice-methods.ensures ∙ l.methods_are in
    let less = number-within l.classes c.as_slice-methods.result.now c.args.class c.args.method methods c.requires in
    omega (arith, less, c.number_of-number.ensures, ap (λ x. methods_before x c.args.class) classes)

pub listing-requires : goal.listing-requires
listing-requires c =
    let l = c.args.linked.now in
    let classes : c.as_slice-classes.result.now ≡ l.classes = c.as_slice-classes.ensures in
    let methods : c.as_slice-methods.result.now ≡ linked_methods l.classes = c.as_slice-methods.ensures ∙ l.methods_are in
    let within = number-within l.classes c.as_slice-methods.result.now c.args.class c.args.method methods c.requires in
    let less : c.number_of-number.result < length c.as_slice-methods.result.now = omega (arith, within, c.number_of-number.ensures, ap (λ x. methods_before x c.args.class) classes) in
    let there = method-there c.as_slice-methods.result.now c.number_of-number.result less in
    let typed = rw c.in-Typed.is at c.in_ok-frames.ensures in
    omega (arith, (typed there.0 there.1).few, ap length c.into_vec.ensures)

pub returns-in-Fails : goal.returns-in-Fails
returns-in-Fails c = λ m is.
    let l = c.args.linked.now in
    let classes : c.as_slice-classes.result.now ≡ l.classes = c.as_slice-classes.ensures in
    let methods : c.as_slice-methods.result.now ≡ linked_methods l.classes = c.as_slice-methods.ensures ∙ l.methods_are in
    let number = c.number_of-number.ensures ∙ ap (λ x. methods_before x c.args.class + c.args.method) classes in
    let there : slice_get c.as_slice-methods.result.now c.number_of-number.result ≡ Some m = ap (λ x. slice_get x c.number_of-number.result) methods ∙ (ap (slice_get (linked_methods l.classes)) number ∙ is) in
    let fails = rw c.in-Fails.is at c.in_ok-frames.ensures in
    fails-same (program_over c.as_slice-methods.result.now) (program_of l.classes) (same-methods l.classes c.as_slice-methods.result.now methods) m c.in-Fails.at (fails m there)

pub returns-in_ok-listed-in-Typed : goal.returns-in_ok-listed-in-Typed
returns-in_ok-listed-in-Typed c = λ m is.
    let l = c.args.linked.now in
    let classes : c.as_slice-classes.result.now ≡ l.classes = c.as_slice-classes.ensures in
    let methods : c.as_slice-methods.result.now ≡ linked_methods l.classes = c.as_slice-methods.ensures ∙ l.methods_are in
    let number = c.number_of-number.ensures ∙ ap (λ x. methods_before x c.args.class + c.args.method) classes in
    let there : slice_get c.as_slice-methods.result.now c.number_of-number.result ≡ Some m = ap (λ x. slice_get x c.number_of-number.result) methods ∙ (ap (slice_get (linked_methods l.classes)) number ∙ is) in
    let typed = rw c.in-Typed.is at c.in_ok-frames.ensures in
    let listed = c.in_ok-listed-in-Typed.listed.items in
    listed-is l.classes c.as_slice-methods.result.now methods m c.in-Typed.frames listed (typed m there) (subst (λ x. AreListed x listed) c.into_vec.ensures c.in_ok-listed-in-Typed.ensures)
