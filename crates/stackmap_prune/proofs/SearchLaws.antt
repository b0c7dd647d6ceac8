-- The frame that is listed for an offset is found by halves.
use Rattle.std.proofs.Common.{◌≡◌, ℕ, suc, ◌<◌, ◌≤◌, Bool, true, false, eqb, List, [], ◌∷◌, ◌++◌, take, drop, Option, Some, None, refl, sym, ap, subst, ◌∙◌, arith}
use Rattle.std.specs.Prelude.{if◌then◌else◌, option_map, is_some}
use Rattle.std.proofs.lemmas.Bool.{eq-eqb, ne_eqb}
use Rattle.std.proofs.lemmas.List.{take-append-drop}
use Rattle.jvm_type_inference.specs.declared.frame.Frame.{Frame}
use Rattle.jvm_type_inference.specs.Frames.{type_frame}
use Rattle.type_verifier.specs.Typings.{listed_frames, RisesFrom}
use Rattle.stackmap_prune.specs.Code.{is_listed}
use Rattle.stackmap_prune.specs.Listing.{AreListedBefore, frame_in}

-- ---- the frames that are listed, as such

pub frames-are : (listed : List (ℕ × Frame)) (at : ℕ) → listed_frames listed at ≡ option_map type_frame (frame_in listed at)
frames-are [] at = refl
frames-are (l ∷ listed) at = by-test (eqb l.0 at) (frames-are listed at)
  where
    by-test : (b : Bool) → listed_frames listed at ≡ option_map type_frame (frame_in listed at) → (if b then Some (type_frame l.1) else listed_frames listed at) ≡ option_map type_frame (if b then Some l.1 else frame_in listed at)
    by-test true others = refl
    by-test false others = others

mapped-some : (o : Option Frame) → is_some (option_map type_frame o) ≡ is_some o
mapped-some None = refl
mapped-some (Some f) = refl

pub listed-is : (listed : List (ℕ × Frame)) (at : ℕ) → is_some (frame_in listed at) ≡ is_listed listed at
listed-is listed at = sym (ap is_some (frames-are listed at) ∙ mapped-some (frame_in listed at))

-- ---- offsets that rise

pub record Split (start : ℕ) (below : List (ℕ × Frame)) (m : ℕ × Frame) (others : List (ℕ × Frame)) : Type 0 where
  pub before : AreListedBefore m.0 below
  pub first : RisesFrom start below
  pub from : start ≤ m.0
  pub behind : RisesFrom (suc m.0) others

pub split-rises : (start : ℕ) (below : List (ℕ × Frame)) (m : ℕ × Frame) (others : List (ℕ × Frame)) → RisesFrom start (below ++ m ∷ others) → Split start below m others
split-rises start [] m others r = record { before = tt; first = tt; from = r.0; behind = r.1 }
split-rises start (l ∷ below) m others r =
    let s = split-rises (suc l.0) below m others r.1 in
    record {
      before = (omega (arith, s.from), s.before);
      first = (r.0, s.first);
      from = omega (arith, r.0, s.from);
      behind = s.behind;
    }

pub rises-weak : (start lower : ℕ) (listed : List (ℕ × Frame)) → lower ≤ start → RisesFrom start listed → RisesFrom lower listed
rises-weak start lower [] h r = tt
rises-weak start lower (l ∷ listed) h r = (omega (arith, h, r.0), r.1)

none-before : (listed : List (ℕ × Frame)) (n at : ℕ) → AreListedBefore n listed → n ≤ at → frame_in listed at ≡ None
none-before [] n at b h = refl
none-before (l ∷ listed) n at b h =
    ap (λ t. if t then Some l.1 else frame_in listed at) (ne_eqb l.0 at (λ e. omega (arith, e, h, b.0))) ∙ none-before listed n at b.1 h

none-from : (start : ℕ) (listed : List (ℕ × Frame)) (at : ℕ) → RisesFrom start listed → at < start → frame_in listed at ≡ None
none-from start [] at r h = refl
none-from start (l ∷ listed) at r h =
    ap (λ t. if t then Some l.1 else frame_in listed at) (ne_eqb l.0 at (λ e. omega (arith, e, h, r.0))) ∙ none-from (suc l.0) listed at r.1 (omega (arith, h, r.0))

in-behind : (xs ys : List (ℕ × Frame)) (at : ℕ) → frame_in xs at ≡ None → frame_in (xs ++ ys) at ≡ frame_in ys at
in-behind [] ys at e = refl
in-behind (x ∷ xs) ys at e = by-test (eqb x.0 at) (λ h. in-behind xs ys at h) e
  where
    by-test : (b : Bool) → (frame_in xs at ≡ None → frame_in (xs ++ ys) at ≡ frame_in ys at) → (if b then Some x.1 else frame_in xs at) ≡ None → (if b then Some x.1 else frame_in (xs ++ ys) at) ≡ frame_in ys at
    by-test true others h = absurd cc
    by-test false others h = others h

in-front : (xs ys : List (ℕ × Frame)) (at : ℕ) → frame_in ys at ≡ None → frame_in (xs ++ ys) at ≡ frame_in xs at
in-front [] ys at e = e
in-front (x ∷ xs) ys at e = ap (λ o. if eqb x.0 at then Some x.1 else o) (in-front xs ys at e)

-- ---- one step

abbrev pub Searches : List (ℕ × Frame) → ℕ → List (ℕ × Frame) → Type 0
Searches listed at rest = RisesFrom 0 rest × (frame_in rest at ≡ frame_in listed at)

pub halves : (n : ℕ) (rest below above others : List (ℕ × Frame)) (m : ℕ × Frame) → below ≡ take n rest → above ≡ drop n rest → above ≡ m ∷ others → rest ≡ below ++ m ∷ others
halves n rest below above others m front back is =
    sym (take-append-drop n rest) ∙ (ap (λ x. x ++ drop n rest) (sym front) ∙ ap (λ x. below ++ x) (sym back ∙ is))

module _ (rest below : List (ℕ × Frame)) (m : ℕ × Frame) (others : List (ℕ × Frame)) (at : ℕ) (is : rest ≡ below ++ m ∷ others) (rises : RisesFrom 0 rest) where
  split : Split 0 below m others
  split = split-rises 0 below m others (subst (RisesFrom 0) is rises)

  pub found-middle : m.0 ≡ at → frame_in rest at ≡ Some m.1
  found-middle e =
      ap (λ x. frame_in x at) is
      ∙ (in-behind below (m ∷ others) at (none-before below m.0 at split.before (omega (arith, e)))
      ∙ ap (λ b. if b then Some m.1 else frame_in others at) (eq-eqb m.0 at e))

  pub goes-above : m.0 < at → (RisesFrom 0 others) × (frame_in others at ≡ frame_in rest at)
  goes-above less = (
    rises-weak (suc m.0) 0 others (omega arith) split.behind,
    sym (ap (λ x. frame_in x at) is
        ∙ (in-behind below (m ∷ others) at (none-before below m.0 at split.before (omega (arith, less)))
        ∙ ap (λ b. if b then Some m.1 else frame_in others at) (ne_eqb m.0 at (λ e. omega (arith, e, less))))),
  )

  pub goes-below : at < m.0 → (RisesFrom 0 below) × (frame_in below at ≡ frame_in rest at)
  goes-below less = (
    split.first,
    sym (ap (λ x. frame_in x at) is
        ∙ in-front below (m ∷ others) at
        (ap (λ b. if b then Some m.1 else frame_in others at) (ne_eqb m.0 at (λ e. omega (arith, e, less)))
        ∙ none-from (suc m.0) others at split.behind (omega (arith, less)))),
  )
