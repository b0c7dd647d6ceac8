-- Bytes drawn one after the other.
use Rattle.std.proofs.Common.{◌≡◌, ℕ, ◌+◌, ◌-◌, ◌<◌, ◌≤◌, ◌==◌, false, nat_lt, List, [], ◌∷◌, ◌++◌, length, take, Option, Some, None, refl, ap, sym, ◌∙◌, subst, arith, append_assoc, append-nil, length-append, if◌then◌else◌}
use Rattle.std.specs.Io.KnownBytes.{Consumes, IsAtEnd}
use Rattle.std.proofs.lemmas.Bool.{and_from, lt-ltb}
use Rattle.std.proofs.lemmas.List.{take_all}
use Rattle.std.proofs.Math.Seq.{take-append-add, take-append_seam}
use Rattle.std.proofs.lemmas.List.Folds.{list_all-append}
use Rattle.run_definition.specs.Memory.{patched}
use Rattle.unix_definition.specs.Calls.{first_line}
use Rattle.unix_system.proofs.ReadLemmas.{patched-more}
use Rattle.unix_calls.specs.Drawing.{Draws, IsPlain, Copies, ReadsLine, ReadsSome, known}

pub consumes-nothing : (rest : Option (List ℕ)) → Consumes rest rest []
consumes-nothing None = tt
consumes-nothing (Some xs) = refl

pub consumes-both : (rest mid left : Option (List ℕ)) (xs ys : List ℕ) → Consumes rest mid xs → Consumes mid left ys → Consumes rest left (xs ++ ys)
consumes-both None mid left xs ys p q = tt
consumes-both (Some r) None left xs ys p q = absurd p
consumes-both (Some r) (Some m) None xs ys p q = absurd q
consumes-both (Some r) (Some m) (Some l) xs ys p q = p ∙ (ap (λ z. xs ++ z) q ∙ sym (append_assoc xs ys l))

pub draws-nothing : (ahead : List ℕ) (rest : Option (List ℕ)) → Draws ahead ahead rest rest []
draws-nothing ahead rest = record { got = []; consumed = consumes-nothing rest; is = append-nil ahead }

pub draws-both : (old mid new : List ℕ) (rest between left : Option (List ℕ)) (xs ys : List ℕ) → Draws old mid rest between xs → Draws mid new between left ys → Draws old new rest left (xs ++ ys)
draws-both old mid new rest between left xs ys p q = record {
  got = p.got ++ q.got;
  consumed = consumes-both rest between left p.got q.got p.consumed q.consumed;
  is = sym (append_assoc old p.got q.got) ∙ (ap (λ z. z ++ q.got) p.is ∙ (append_assoc xs mid q.got ∙ (ap (λ z. xs ++ z) q.is ∙ sym (append_assoc xs ys new))));
}

pub draws-none : (old mid new : List ℕ) (rest between left : Option (List ℕ)) (xs : List ℕ) → Draws old mid rest between xs → Draws mid new between left [] → Draws old new rest left xs
draws-none old mid new rest between left xs p q = subst (λ (l : List ℕ). Draws old new rest left l) (append-nil xs) (draws-both old mid new rest between left xs [] p q)

pub plain-nothing : IsPlain []
plain-nothing behind = refl

pub plain-more : (xs : List ℕ) (b : ℕ) → IsPlain xs → (b == 0x0A) ≡ false → IsPlain (xs ++ b ∷ [])
plain-more xs b plain other behind =
    ap first_line (append_assoc xs (b ∷ []) behind)
    ∙ (plain (b ∷ behind)
    ∙ (ap (λ t. xs ++ (if t then b ∷ [] else b ∷ first_line behind)) other ∙ sym (append_assoc xs (b ∷ []) (first_line behind))))

-- the line ends here, in one of three ways
pub line-long : (xs behind : List ℕ) (most : ℕ) → IsPlain xs → length xs ≡ most → take most (first_line (xs ++ behind)) ≡ xs
line-long xs behind most plain long = ap (take most) (plain behind) ∙ (ap (λ n. take n (xs ++ first_line behind)) (sym long) ∙ take-append_seam xs (first_line behind))

pub line-ends : (xs behind : List ℕ) (most : ℕ) → IsPlain xs → behind ≡ [] → length xs ≤ most → take most (first_line (xs ++ behind)) ≡ xs
line-ends xs behind most plain end short =
    ap (take most) (plain behind ∙ (ap (λ z. xs ++ first_line z) end ∙ append-nil xs)) ∙ take_all most xs short

pub line-closed : (xs behind : List ℕ) (b most : ℕ) → IsPlain xs → b ≡ 0x0A → length xs + 1 ≤ most → take most (first_line ((xs ++ b ∷ []) ++ behind)) ≡ xs ++ b ∷ []
line-closed xs behind b most plain is short =
    ap (λ z. take most (first_line z)) (append_assoc xs (b ∷ []) behind)
    ∙ (ap (take most) (plain (b ∷ behind) ∙ ap (λ x. xs ++ first_line (x ∷ behind)) is ∙ ap (λ x. xs ++ x ∷ []) (sym is))
    ∙ take_all most (xs ++ b ∷ []) (omega (arith, length-append xs (b ∷ []))))

-- the line goes on, and has so many bytes at most
pub line-begins : (xs : List ℕ) (most : ℕ) → IsPlain xs → length xs ≤ most → (behind : List ℕ)
    → (more : List ℕ) × (take most (first_line (xs ++ behind)) ≡ xs ++ more)
line-begins xs most plain short behind =
    let on : most ≡ length xs + (most - length xs) = omega (arith, short) in (
      take (most - length xs) (first_line behind),
      ap (take most) (plain behind) ∙ (ap (λ n. take n (xs ++ first_line behind)) on ∙ take-append-add xs (first_line behind) (most - length xs)),
    )

pub copies-nothing : {C : Type 0} (put_at : C → ℕ → ℕ → C) (c : C) (place most : ℕ) → Copies put_at c c place most []
copies-nothing put_at c place most = record { after = refl; small = refl; short = omega arith }

pub copies-more : {C : Type 0} (put_at : C → ℕ → ℕ → C) (c d e : C) (place most b i : ℕ) (xs : List ℕ) → Copies put_at c d place most xs → length xs ≡ i → i < most → b < 256 → e ≡ put_at d (place + i) b → Copies put_at c e place most (xs ++ b ∷ [])
copies-more put_at c d e place most b i xs p long room small put = record {
  after = put ∙ (ap (λ k. put_at k (place + i) b) p.after ∙ (ap (λ n. put_at (patched put_at c place xs) (place + n) b) (sym long) ∙ sym (patched-more put_at c place xs b)));
  small = list_all-append (λ x. nat_lt x 256) xs (b ∷ []) ∙ and_from _ _ p.small (and_from _ _ (lt-ltb b 256 small) refl);
  short = omega (arith, length-append xs (b ∷ []), long, room);
}

at-end : (left : Option (List ℕ)) → IsAtEnd left → known left ≡ []
at-end None e = refl
at-end (Some xs) e = e

-- A reading of a line: it has drawn and copied some bytes that do not end it.
pub record Reading {C : Type 0} (put_at : C → ℕ → ℕ → C) (c d : C) (place most : ℕ) (old new : List ℕ) (rest left : Option (List ℕ)) (i : ℕ) : Type 0 where
  pub bytes : List ℕ
  pub drawn : Draws old new rest left bytes
  pub plain : IsPlain bytes
  pub long : length bytes ≡ i
  pub copied : Copies put_at c d place most bytes

module _ {C : Type 0} (put_at : C → ℕ → ℕ → C) (c : C) (place most : ℕ) (old : List ℕ) (rest : Option (List ℕ)) where
  pub reading-start : Reading put_at c c place most old old rest rest 0
  reading-start = record { bytes = []; drawn = draws-nothing old rest; plain = plain-nothing; long = refl; copied = copies-nothing put_at c place most }

  pub reading-more : (d e : C) (mid new : List ℕ) (between left : Option (List ℕ)) (i b : ℕ) → Reading put_at c d place most old mid rest between i → i < most → b < 256 → Draws mid new between left (b ∷ []) → e ≡ put_at d (place + i) b → (b == 0x0A) ≡ false → Reading put_at c e place most old new rest left (i + 1)
  reading-more d e mid new between left i b r room small drawn put other = record {
    bytes = r.bytes ++ b ∷ [];
    drawn = draws-both old mid new rest between left r.bytes (b ∷ []) r.drawn drawn;
    plain = plain-more r.bytes b r.plain other;
    long = omega (arith, length-append r.bytes (b ∷ []), r.long);
    copied = copies-more put_at c d e place most b i r.bytes r.copied r.long room small put;
  }

  pub reading-closed : (d e : C) (mid new : List ℕ) (between left : Option (List ℕ)) (i b : ℕ) → Reading put_at c d place most old mid rest between i → i < most → b < 256 → Draws mid new between left (b ∷ []) → e ≡ put_at d (place + i) b → b ≡ 0x0A → ReadsLine put_at c e place most old new rest left (i + 1)
  reading-closed d e mid new between left i b r room small drawn put is = record {
    bytes = r.bytes ++ b ∷ [];
    drawn = draws-both old mid new rest between left r.bytes (b ∷ []) r.drawn drawn;
    copied = copies-more put_at c d e place most b i r.bytes r.copied r.long room small put;
    line = ap (λ z. take most (first_line z)) (append_assoc (r.bytes ++ b ∷ []) new (known left)) ∙ line-closed r.bytes (new ++ known left) b most r.plain is (omega (arith, r.long, room));
    all = omega (arith, length-append r.bytes (b ∷ []), r.long);
  }

  pub reading-ends : (d : C) (mid new : List ℕ) (between left : Option (List ℕ)) (i : ℕ) → Reading put_at c d place most old mid rest between i → Draws mid new between left [] → new ≡ [] → IsAtEnd left → ReadsLine put_at c d place most old new rest left i
  reading-ends d mid new between left i r drawn none end = record {
    bytes = r.bytes;
    drawn = draws-none old mid new rest between left r.bytes r.drawn drawn;
    copied = r.copied;
    line = ap (λ z. take most (first_line z)) (append_assoc r.bytes new (known left)) ∙ line-ends r.bytes (new ++ known left) most r.plain (ap (λ z. z ++ known left) none ∙ at-end left end) r.copied.short;
    all = r.long;
  }

  pub reading-long : (d : C) (new : List ℕ) (left : Option (List ℕ)) (i : ℕ) → Reading put_at c d place most old new rest left i → most ≤ i → ReadsLine put_at c d place most old new rest left most
  reading-long d new left i r past =
      let short : length r.bytes ≤ most = r.copied.short in
      let long : length r.bytes ≡ most = omega (arith, short, r.long, past) in
      record {
        bytes = r.bytes;
        drawn = r.drawn;
        copied = r.copied;
        line = ap (λ z. take most (first_line z)) (append_assoc r.bytes new (known left)) ∙ line-long r.bytes (new ++ known left) most r.plain long;
        all = long;
      }

  pub reading-failed : (d : C) (mid new : List ℕ) (between left : Option (List ℕ)) (i : ℕ) → Reading put_at c d place most old mid rest between i → Draws mid new between left [] × (new ≡ []) → ReadsSome put_at c d place most old new rest left
  reading-failed d mid new between left i r drawn = record {
    bytes = r.bytes;
    drawn = draws-none old mid new rest between left r.bytes r.drawn drawn.0;
    copied = r.copied;
    none = drawn.1;
    front = line-begins r.bytes most r.plain r.copied.short;
  }
