-- Pruned lines, one after the other.
use Rattle.std.proofs.Common.{◌≡◌, ℕ, zero, suc, ◌+◌, ◌-◌, ◌<◌, ◌≤◌, Bool, true, false, ◌||◌, eqb, List, [], ◌∷◌, ◌++◌, length, set, append_assoc, append-nil, refl, sym, ap, ◌∙◌, arith}
use Rattle.std.specs.Prelude.{if◌then◌else◌}
use Rattle.std.specs.List.{list_any}
use Rattle.std.proofs.lemmas.List.{nil_from_length}
use Rattle.std.proofs.lemmas.List.Folds.{list_any-append}
use Rattle.jvm_definition.specs.declared.return_name.ReturnName.{ReturnName}
use Rattle.jvm_definition.specs.declared.kind.Kind.{Kind}
use Rattle.jvm_definition.specs.declared.instruction.Instruction.TheVariants.{Return}
use Rattle.jvm_definition.specs.declared.linked_line.LinkedLine.{LinkedLine}
use Rattle.jvm_definition.specs.Program.{LaidFrom}
use Rattle.jvm_type_inference.specs.declared.frame.Frame.{Frame}
use Rattle.stackmap_table.specs.Last.{last_locals}
use Rattle.stackmap_prune.specs.Linked.{is_marked, linked_returns, pruned_linked_line, pruned_linked}
use Rattle.stackmap_prune.proofs.MarkLaws.{marked-at}
use Rattle.stackmap_prune.specs.Listing.{AllBefore, is_entered_by, frame_in, listed_frame, listing}

-- ---- a return in place of each byte

abbrev pub return_at : ReturnName → ℕ → LinkedLine
return_at name at = record { at = at; next = at + 1; instruction = Return name }

pub linked-pushed : (name : ReturnName) (at n : ℕ) → linked_returns name at (suc n) ≡ linked_returns name at n ++ return_at name (at + n) ∷ []
linked-pushed name at zero = let e : at ≡ at + 0 = omega arith in ap (λ (a : ℕ). return_at name a ∷ []) e
linked-pushed name at (suc n) =
    let e : suc at + n ≡ at + suc n = omega arith in
    ap (λ (ls : List LinkedLine). return_at name at ∷ ls) (linked-pushed name (suc at) n ∙ ap (λ (a : ℕ). linked_returns name (suc at) n ++ return_at name a ∷ []) e)

pub linked-next : (name : ReturnName) (at n : ℕ) → linked_returns name at (n + 1) ≡ linked_returns name at n ++ return_at name (at + n) ∷ []
linked-next name at n = let next : n + 1 ≡ suc n = omega arith in ap (linked_returns name at) next ∙ linked-pushed name at n

-- ---- frames that are listed

pub last-append : (before : List Kind) (xs ys : List (ℕ × Frame)) → last_locals before (xs ++ ys) ≡ last_locals (last_locals before xs) ys
last-append before [] ys = refl
last-append before (x ∷ xs) ys = last-append x.1.locals xs ys

module _ (must : ℕ → Bool) (reached : List (ℕ × Frame)) (gives : Bool) where
  abbrev pub listing_from : List Kind → List LinkedLine → List (ℕ × Frame)
  listing_from before lines = listing must reached gives before lines

  pub listing-append : (before : List Kind) (xs ys : List LinkedLine) → listing_from before (xs ++ ys) ≡ listing_from before xs ++ listing_from (last_locals before (listing_from before xs)) ys
  listing-append before [] ys = refl
  listing-append before (l ∷ xs) ys = by-must (must l.at) (listing-append f.locals xs ys) (listing-append before xs ys)
    where
      f : Frame
      f = listed_frame (frame_in reached l.at) gives before

      by-must : (b : Bool) → listing_from f.locals (xs ++ ys) ≡ listing_from f.locals xs ++ listing_from (last_locals f.locals (listing_from f.locals xs)) ys → listing_from before (xs ++ ys) ≡ listing_from before xs ++ listing_from (last_locals before (listing_from before xs)) ys → (if b then (l.at, f) ∷ listing_from f.locals (xs ++ ys) else listing_from before (xs ++ ys)) ≡ (if b then (l.at, f) ∷ listing_from f.locals xs else listing_from before xs) ++ listing_from (last_locals before (if b then (l.at, f) ∷ listing_from f.locals xs else listing_from before xs)) ys
      by-must true one other = ap (λ (ls : List (ℕ × Frame)). (l.at, f) ∷ ls) one
      by-must false one other = other

  module _ (params : List Kind) where
    abbrev pub more : List (ℕ × Frame) → List LinkedLine → List (ℕ × Frame)
    more listed lines = listing_from (last_locals params listed) lines

    pub more-append : (listed : List (ℕ × Frame)) (xs ys : List LinkedLine) → (listed ++ more listed xs) ++ more (listed ++ more listed xs) ys ≡ listed ++ more listed (xs ++ ys)
    more-append listed xs ys =
        append_assoc listed (more listed xs) (more (listed ++ more listed xs) ys)
        ∙ (ap (λ ks. listed ++ (more listed xs ++ listing_from ks ys)) (last-append params listed (more listed xs))
        ∙ ap (λ z. listed ++ z) (sym (listing-append (last_locals params listed) xs ys)))

    -- further lines, behind those of which the frames were listed
    pub listed-more : (old then' new : List (ℕ × Frame)) (xs ys : List LinkedLine) → then' ≡ old ++ more old xs → new ≡ then' ++ more then' ys → new ≡ old ++ more old (xs ++ ys)
    listed-more old then' new xs ys so_far made =
        made ∙ (ap (λ z. z ++ more z ys) so_far ∙ more-append old xs ys)

    -- a line and the others
    pub listed-goes : (kept : ℕ → Bool) (name : ReturnName) (old new : List (ℕ × Frame)) (l : LinkedLine) (rest others : List LinkedLine) (total : List (ℕ × Frame)) → rest ≡ l ∷ others → new ≡ old ++ more old (pruned_linked_line kept name l) → old ++ more old (pruned_linked kept name rest) ≡ total → new ++ more new (pruned_linked kept name others) ≡ total
    listed-goes kept name old new l rest others total first made so_far =
        ap (λ z. z ++ more z (pruned_linked kept name others)) made
        ∙ (more-append old (pruned_linked_line kept name l) (pruned_linked kept name others)
        ∙ (ap (λ ls. old ++ more old (pruned_linked kept name ls)) (sym first) ∙ so_far))

    pub listed-ends : (kept : ℕ → Bool) (name : ReturnName) (listed : List (ℕ × Frame)) (rest : List LinkedLine) (total : List (ℕ × Frame)) → length rest ≡ 0 → listed ++ more listed (pruned_linked kept name rest) ≡ total → listed ≡ total
    listed-ends kept name listed rest total none so_far =
        sym (append-nil listed) ∙ (ap (λ ls. listed ++ more listed (pruned_linked kept name ls)) (sym (nil_from_length rest none)) ∙ so_far)

-- where two tests agree before an offset
pub listing-agrees : (must other : ℕ → Bool) (reached : List (ℕ × Frame)) (gives : Bool) (end : ℕ) → ((at : ℕ) → at < end → must at ≡ other at) → (before : List Kind) (lines : List LinkedLine) → AllBefore end lines → listing must reached gives before lines ≡ listing other reached gives before lines
listing-agrees must other reached gives end same before [] all = refl
listing-agrees must other reached gives end same before (l ∷ lines) all =
    let f = listed_frame (frame_in reached l.at) gives before in
    let one = listing-agrees must other reached gives end same f.locals lines all.1 in
    let none = listing-agrees must other reached gives end same before lines all.1 in
    λ i. if same l.at all.0 i then (l.at, f) ∷ one i else none i

-- ---- marks

or-assoc : (a b c : Bool) → ((a || b) || c) ≡ (a || (b || c))
or-assoc true b c = refl
or-assoc false b c = refl

or-none : (b : Bool) → (b || false) ≡ b
or-none true = refl
or-none false = refl

-- one more return
pub return-marked : (name : ReturnName) (from n at : ℕ) (old marks after : List Bool) → at < length after → length after ≡ length marks → after ≡ set marks (from + n + 1) true → is_marked marks at ≡ (is_marked old at || list_any (is_entered_by at) (linked_returns name from n)) → is_marked after at ≡ (is_marked old at || list_any (is_entered_by at) (linked_returns name from (n + 1)))
return-marked name from n at old marks after inside size made so_far =
    let o = is_marked old at in
    let before = list_any (is_entered_by at) (linked_returns name from n) in
    let here = eqb (from + n + 1) at in
    let all : list_any (is_entered_by at) (linked_returns name from (n + 1)) ≡ (before || here) =
    ap (list_any (is_entered_by at)) (linked-next name from n) ∙ (list_any-append (is_entered_by at) (linked_returns name from n) (return_at name (from + n) ∷ []) ∙ ap (λ b. before || b) (or-none here)) in
    ap (λ ms. is_marked ms at) made
    ∙ (marked-at marks (from + n + 1) at (omega (arith, inside, size))
    ∙ (ap (λ b. b || here) so_far ∙ (or-assoc o before here ∙ ap (λ b. o || b) (sym all))))

-- what became of a line, and the others
pub line-marked : (kept : ℕ → Bool) (name : ReturnName) (at : ℕ) (here then' total : Bool) (l : LinkedLine) (rest others : List LinkedLine) → rest ≡ l ∷ others → then' ≡ (here || list_any (is_entered_by at) (pruned_linked_line kept name l)) → (here || list_any (is_entered_by at) (pruned_linked kept name rest)) ≡ total → (then' || list_any (is_entered_by at) (pruned_linked kept name others)) ≡ total
line-marked kept name at here then' total l rest others first made so_far =
    let line = list_any (is_entered_by at) (pruned_linked_line kept name l) in
    let more = list_any (is_entered_by at) (pruned_linked kept name others) in
    ap (λ b. b || more) made
    ∙ (or-assoc here line more
    ∙ (ap (λ b. here || b) (sym (list_any-append (is_entered_by at) (pruned_linked_line kept name l) (pruned_linked kept name others)))
    ∙ (ap (λ ls. here || list_any (is_entered_by at) (pruned_linked kept name ls)) (sym first) ∙ so_far)))

pub all-marked : (kept : ℕ → Bool) (name : ReturnName) (at : ℕ) (here total : Bool) (rest : List LinkedLine) → length rest ≡ 0 → (here || list_any (is_entered_by at) (pruned_linked kept name rest)) ≡ total → here ≡ total
all-marked kept name at here total rest none so_far =
    sym (or-none here) ∙ (ap (λ ls. here || list_any (is_entered_by at) (pruned_linked kept name ls)) (sym (nil_from_length rest none)) ∙ so_far)

-- ---- each stands before the end

before-append : (end : ℕ) (xs ys : List LinkedLine) → AllBefore end xs → AllBefore end ys → AllBefore end (xs ++ ys)
before-append end [] ys h k = k
before-append end (x ∷ xs) ys h k = (h.0, before-append end xs ys h.1 k)

returns-before : (end : ℕ) (name : ReturnName) (at n : ℕ) → at + n ≤ end → AllBefore end (linked_returns name at n)
returns-before end name at zero h = tt
returns-before end name at (suc n) h = (omega (arith, h), returns-before end name (suc at) n (omega (arith, h)))

line-before : (end : ℕ) (kept : ℕ → Bool) (name : ReturnName) (l : LinkedLine) → l.at < l.next → l.next ≤ end → AllBefore end (pruned_linked_line kept name l)
line-before end kept name l some within = by-kept (kept l.at)
  where
    by-kept : (b : Bool) → AllBefore end (if b then l ∷ [] else linked_returns name l.at (l.next - l.at))
    by-kept true = (omega (arith, some, within), tt)
    by-kept false = returns-before end name l.at (l.next - l.at) (omega (arith, some, within))

-- the last line ends behind each of them
pub pruned-before : (kept : ℕ → Bool) (name : ReturnName) (start : ℕ) (others : List LinkedLine) (last : LinkedLine) → LaidFrom start (others ++ last ∷ []) → AllBefore last.next (pruned_linked kept name (others ++ last ∷ [])) × (start ≤ last.next)
pruned-before kept name start [] last laid = (
  before-append last.next (pruned_linked_line kept name last) [] (line-before last.next kept name last (omega (arith, laid.1)) (omega arith)) tt,
  omega (arith, laid.0, laid.1),
)
pruned-before kept name start (l ∷ others) last laid =
    let r = pruned-before kept name l.next others last laid.2 in (
      before-append last.next (pruned_linked_line kept name l) (pruned_linked kept name (others ++ last ∷ [])) (line-before last.next kept name l (omega (arith, laid.1)) (omega (arith, r.1))) r.0,
      omega (arith, laid.0, laid.1, r.1),
    )
