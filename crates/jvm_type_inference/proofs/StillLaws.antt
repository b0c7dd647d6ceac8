-- Types that are the same, and operands that stay as they are.
use Rattle.std.proofs.Common.{◌≡◌, ℕ, zero, suc, Bool, true, false, List, [], ◌∷◌, refl, sym, ap, subst, ◌∙◌, Option, Some, None}
use Rattle.std.proofs.lemmas.Bool.{and_parts, and_from, false≢true, true≢false}
use Rattle.jvm_definition.specs.declared.kind.Kind.{Kind}
use Rattle.jvm_definition.specs.declared.kind.Kind.TheVariants.{Top, Int, Long, Null, Ints, Pages, Text}
use Rattle.jvm_definition.specs.Typing.{below, stack_below, no_top}
use Rattle.jvm_type_inference.specs.Joins.{joined, joined_stacks, with_operand, locals_below}
use Rattle.jvm_type_inference.specs.Kinds.{code_of}
use Rattle.jvm_type_inference.proofs.KindLaws.{below-refl}
use Rattle.jvm_type_inference.proofs.StackLaws.{no_top-head, no_top-tail}
use Rattle.jvm_type_inference.proofs.JoinLaws.{stack-refl, operand-is}

-- ---- types have numbers of their own

abbrev kind_of : ℕ → Kind
kind_of zero = Top
kind_of (suc zero) = Int
kind_of (suc (suc zero)) = Long
kind_of (suc (suc (suc zero))) = Null
kind_of (suc (suc (suc (suc zero)))) = Ints
kind_of (suc (suc (suc (suc (suc zero))))) = Pages
kind_of _ = Text

kind-back : (k : Kind) → kind_of (code_of k) ≡ k
kind-back Top = refl
kind-back Int = refl
kind-back Long = refl
kind-back Null = refl
kind-back Ints = refl
kind-back Pages = refl
kind-back Text = refl

pub same_code : (k o : Kind) → code_of k ≡ code_of o → k ≡ o
same_code k o e = sym (kind-back k) ∙ (ap kind_of e ∙ kind-back o)

pub same_stack : (ks os : List Kind) → ks ≡ os → stack_below ks os ≡ true
same_stack ks os e = subst (λ x. stack_below ks x ≡ true) e (stack-refl ks)

below-each : (ks : List Kind) → locals_below ks ks ≡ true
below-each [] = refl
below-each (k ∷ ks) = and_from (below k k) (locals_below ks ks) (below-refl k) (below-each ks)

pub same_locals_below : (ks os : List Kind) → ks ≡ os → locals_below ks os ≡ true
same_locals_below ks os e = subst (λ x. locals_below ks x ≡ true) e (below-each ks)

-- ---- what is above others is joined with them already

still-kind : (k o : Kind) → below o k ≡ true → joined k o ≡ k
still-kind Top Top h = refl
still-kind Top Int h = refl
still-kind Top Long h = refl
still-kind Top Null h = refl
still-kind Top Ints h = refl
still-kind Top Pages h = refl
still-kind Top Text h = refl
still-kind Int Top h = absurd (false≢true h)
still-kind Int Int h = refl
still-kind Int Long h = absurd (false≢true h)
still-kind Int Null h = absurd (false≢true h)
still-kind Int Ints h = absurd (false≢true h)
still-kind Int Pages h = absurd (false≢true h)
still-kind Int Text h = absurd (false≢true h)
still-kind Long Top h = absurd (false≢true h)
still-kind Long Int h = absurd (false≢true h)
still-kind Long Long h = refl
still-kind Long Null h = absurd (false≢true h)
still-kind Long Ints h = absurd (false≢true h)
still-kind Long Pages h = absurd (false≢true h)
still-kind Long Text h = absurd (false≢true h)
still-kind Null Top h = absurd (false≢true h)
still-kind Null Int h = absurd (false≢true h)
still-kind Null Long h = absurd (false≢true h)
still-kind Null Null h = refl
still-kind Null Ints h = absurd (false≢true h)
still-kind Null Pages h = absurd (false≢true h)
still-kind Null Text h = absurd (false≢true h)
still-kind Ints Top h = absurd (false≢true h)
still-kind Ints Int h = absurd (false≢true h)
still-kind Ints Long h = absurd (false≢true h)
still-kind Ints Null h = refl
still-kind Ints Ints h = refl
still-kind Ints Pages h = absurd (false≢true h)
still-kind Ints Text h = absurd (false≢true h)
still-kind Pages Top h = absurd (false≢true h)
still-kind Pages Int h = absurd (false≢true h)
still-kind Pages Long h = absurd (false≢true h)
still-kind Pages Null h = refl
still-kind Pages Ints h = absurd (false≢true h)
still-kind Pages Pages h = refl
still-kind Pages Text h = absurd (false≢true h)
still-kind Text Top h = absurd (false≢true h)
still-kind Text Int h = absurd (false≢true h)
still-kind Text Long h = absurd (false≢true h)
still-kind Text Null h = refl
still-kind Text Ints h = absurd (false≢true h)
still-kind Text Pages h = absurd (false≢true h)
still-kind Text Text h = refl

pub joined_still : (ks os : List Kind) → stack_below os ks ≡ true → no_top ks ≡ true → joined_stacks ks os ≡ Some ks
joined_still [] [] h n = refl
joined_still [] (o ∷ os) h n = absurd (false≢true h)
joined_still (k ∷ ks) [] h n = absurd (false≢true h)
joined_still (k ∷ ks) (o ∷ os) h n =
    let p = and_parts (below o k) (stack_below os ks) h in
    ap (λ j. with_operand j (joined_stacks ks os)) (still-kind k o p.0) ∙ operand-is k (joined_stacks ks os) ks (no_top-head k ks n) (joined_still ks os p.1 (no_top-tail k ks n))
