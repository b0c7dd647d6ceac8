-- The order of types and frames.
use Rattle.std.proofs.Common.{◌≡◌, true, List, [], ◌∷◌, refl}
use Rattle.std.specs.Prelude.{Option, Some, None}
use Rattle.std.proofs.lemmas.Bool.{and_parts, and_from, false≢true}
use Rattle.jvm_definition.specs.declared.kind.Kind.{Kind}
use Rattle.jvm_definition.specs.declared.kind.Kind.TheVariants.{Top}
use Rattle.jvm_definition.specs.Typing.{TypeFrame, Below, below, stack_below}
use Rattle.jvm_definition_laws.proofs.KindTrials.{each, each-at, when, when-at}
use Rattle.emit_types_laws.specs.Judging.{Meets}

pub below-refl : (a : Kind) → below a a ≡ true
below-refl a = each-at (λ a. below a a) refl a

pub below-top : (a : Kind) → below a Top ≡ true
below-top a = each-at (λ a. below a Top) refl a

pub below-trans : (a b c : Kind) → below a b ≡ true → below b c ≡ true → below a c ≡ true
below-trans a b c h k =
    let law = λ (a b c : Kind). when (below a b) (when (below b c) (below a c)) in
    let all = each-at (λ c. law a b c) (each-at (λ b. each (λ c. law a b c)) (each-at (λ a. each (λ b. each (λ c. law a b c))) refl a) b) c in
    when-at (below b c) (below a c) (when-at (below a b) (when (below b c) (below a c)) all h) k

stack-refl : (ks : List Kind) → stack_below ks ks ≡ true
stack-refl [] = refl
stack-refl (k ∷ ks) = and_from (below k k) (stack_below ks ks) (below-refl k) (stack-refl ks)

stack-trans : (ks os us : List Kind) → stack_below ks os ≡ true → stack_below os us ≡ true → stack_below ks us ≡ true
stack-trans [] [] us h e = e
stack-trans [] (o ∷ os) us h e = absurd (false≢true h)
stack-trans (k ∷ ks) [] us h e = absurd (false≢true h)
stack-trans (k ∷ ks) (o ∷ os) [] h e = absurd (false≢true e)
stack-trans (k ∷ ks) (o ∷ os) (u ∷ us) h e =
    let p = and_parts (below k o) (stack_below ks os) h in
    let q = and_parts (below o u) (stack_below os us) e in
    and_from (below k u) (stack_below ks us) (below-trans k o u p.0 q.0) (stack-trans ks os us p.1 q.1)

pub same : (f : TypeFrame) → Below f f
same f = record { locals = λ i. below-refl (f.locals i); stack = stack-refl f.stack }

pub through : (f g h : TypeFrame) → Below f g → Below g h → Below f h
through f g h p q = record {
  locals = λ i. below-trans (f.locals i) (g.locals i) (h.locals i) (p.locals i) (q.locals i);
  stack = stack-trans f.stack g.stack h.stack p.stack q.stack;
}

pub meets-below : (f g : TypeFrame) (found : Option TypeFrame) → Below f g → Meets g found → Meets f found
meets-below f g None b m = m
meets-below f g (Some h) b m = through f g h b m
