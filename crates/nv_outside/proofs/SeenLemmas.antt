-- What becomes of sinks that take one text after the other.
use Rattle.std.proofs.Common.{◌≡◌, ℕ, List, [], ◌∷◌, ◌++◌, refl, ap, sym, ◌∙◌, subst, append_assoc}
use Rattle.nv_outside.specs.Faults.{Rises}
use Rattle.nv_outside.specs.Seen.{FailsIn, Seen, Takes}
use Rattle.nv_outside.proofs.WriteLemmas.{Appends-both, Appends-nothing}

pub takes-nothing : (old : Seen (List ℕ)) → Takes old old []
takes-nothing old = (Appends-nothing old.told, refl)

pub takes-both : (old mid new : Seen (List ℕ)) (xs ys : List ℕ) → Takes old mid xs → Takes mid new ys → Takes old new (xs ++ ys)
takes-both old mid new xs ys p q = (Appends-both old.told mid.told new.told xs ys p.0 q.0, q.1 ∙ p.1)

pub rises-from : (a b c : ℕ) → a ≡ b → Rises b c → Rises a c
rises-from a b c same rises = subst (λ n. Rises n c) (sym same) rises

-- a text was taken, and the sink failed in the one behind it
pub fails-behind : (old mid new : Seen (List ℕ)) (xs ys : List ℕ) → Takes old mid xs → FailsIn mid new ys → FailsIn old new (xs ++ ys)
fails-behind old mid new xs ys took fails = (
  record {
    front = xs ++ fails.0.front;
    next = fails.0.next;
    rest = fails.0.rest;
    splits = ap (λ z. xs ++ z) fails.0.splits ∙ sym (append_assoc xs fails.0.front (fails.0.next ∷ fails.0.rest));
    gained = Appends-both old.told mid.told new.told xs fails.0.front took.0 fails.0.gained;
  },
  rises-from old.faults mid.faults new.faults (sym took.1) fails.1,
)

-- it failed in a text, and so in a longer one
pub fails-before : (old new : Seen (List ℕ)) (xs ys : List ℕ) → FailsIn old new xs → FailsIn old new (xs ++ ys)
fails-before old new xs ys fails = (
  record {
    front = fails.0.front;
    next = fails.0.next;
    rest = fails.0.rest ++ ys;
    splits = ap (λ z. z ++ ys) fails.0.splits ∙ append_assoc fails.0.front (fails.0.next ∷ fails.0.rest) ys;
    gained = fails.0.gained;
  },
  fails.1,
)
