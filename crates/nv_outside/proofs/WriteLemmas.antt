-- How far a writing of some bytes has come.
use Rattle.std.proofs.Common.{◌≡◌, ℕ, ◌+◌, List, [], ◌++◌, take, drop, Option, Some, None, sym, ap, ◌∙◌, append_assoc, append-nil, drop-drop, length, ◌<◌, ◌∷◌, arith}
use Rattle.std.proofs.Math.Seq.{take-add}
use Rattle.std.proofs.lemmas.List.{take-append-drop}
use Rattle.std.specs.Io.KnownBytes.{Appends, Keeps}
use Rattle.nv_outside.specs.Gains.{AppendsProperPart}

pub record Wrote (old new : Option (List ℕ)) (bytes rest : List ℕ) : Type 0 where
  pub written : ℕ
  pub took : Appends old new (take written bytes)
  pub left : rest ≡ drop written bytes

pub Appends-nothing : (old : Option (List ℕ)) → Appends old old []
Appends-nothing None = tt
Appends-nothing (Some xs) = sym (append-nil xs)

pub Appends-both : (old mid new : Option (List ℕ)) (xs ys : List ℕ) → Appends old mid xs → Appends mid new ys → Appends old new (xs ++ ys)
Appends-both None mid new xs ys p q = tt
Appends-both (Some o) None new xs ys p q = absurd p
Appends-both (Some o) (Some m) None xs ys p q = absurd q
Appends-both (Some o) (Some m) (Some n) xs ys p q = q ∙ ap (λ z. z ++ ys) p ∙ append_assoc o xs ys

both-kept : (old mid new : Option (List ℕ)) (xs : List ℕ) → Appends old mid xs → Keeps mid new → Appends old new xs
both-kept None mid new xs p q = tt
both-kept (Some o) None new xs p q = absurd p
both-kept (Some o) (Some m) None xs p q = absurd q
both-kept (Some o) (Some m) (Some n) xs p q = q ∙ p

pub Wrote-more : (old mid new : Option (List ℕ)) (bytes rest : List ℕ) (n : ℕ) → Wrote old mid bytes rest → Appends mid new (take n rest) → Wrote old new bytes (drop n rest)
Wrote-more old mid new bytes rest n w took =
    let fits : take n rest ≡ take n (drop w.written bytes) = ap (take n) w.left in
    let more : Appends mid new (take n (drop w.written bytes)) = rw fits at took in
    record {
      written = w.written + n;
      took = rw (take-add w.written n bytes) (Appends-both old mid new _ _ w.took more);
      left = ap (drop n) w.left ∙ drop-drop n w.written bytes;
    }

-- the sink kept what it had taken: a front part, but not all, where something is left
pub Wrote-part : (old mid new : Option (List ℕ)) (bytes rest : List ℕ) → 0 < length rest → Wrote old mid bytes rest → Keeps mid new
    → AppendsProperPart old new bytes
Wrote-part old mid new bytes [] some w kept = absurd (grind (arith, some))
Wrote-part old mid new bytes (next ∷ rest) some w kept = record {
  front = take w.written bytes;
  next = next;
  rest = rest;
  splits = sym (take-append-drop w.written bytes) ∙ ap (λ z. take w.written bytes ++ z) (sym w.left);
  gained = both-kept old mid new _ w.took kept;
}
