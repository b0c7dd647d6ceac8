-- The frames that are listed for pruned code are those that have to be.
use Rattle.std.proofs.Common.{◌≡◌, ℕ, zero, suc, ◌⊎◌, inl, inr, Bool, true, false, ◌&&◌, ◌||◌, eqb, List, [], ◌∷◌, Option, Some, None, refl, sym, ap, ◌∙◌, arith, ⊎_elim}
use Rattle.std.specs.Prelude.{if◌then◌else◌, IsSome, is_some, ◌↔◌, Contains, not, option_map}
use Rattle.std.specs.List.{list_any}
use Rattle.std.proofs.lemmas.Bool.{and_parts, and_from, eqb-true, eq-eqb, false≢true}
use Rattle.std.proofs.lemmas.Option.{same_Some, none-some}
use Rattle.jvm_definition.specs.declared.kind.Kind.{Kind}
use Rattle.jvm_definition.specs.declared.linked_line.LinkedLine.{LinkedLine}
use Rattle.jvm_definition.specs.declared.linked_method.LinkedMethod.{LinkedMethod}
use Rattle.jvm_definition.specs.Program.{line_in, LaidFrom, instruction_targets, falls_through}
use Rattle.jvm_definition.specs.Typing.{TypeFrame, Frames, given_by}
use Rattle.jvm_type_inference.specs.declared.frame.Frame.{Frame}
use Rattle.jvm_type_inference.specs.Frames.{type_frame}
use Rattle.jvm_type_inference.specs.Reached.{Reached}
use Rattle.type_verifier.specs.Typings.{listed_frames, RisesFrom}
use Rattle.frame_maps.specs.Framed.{HasLine}
use Rattle.frame_maps.proofs.FramedLaws.{here, there, stands}
use Rattle.stackmap_prune.specs.Listing.{is_entered_by, must_list, frame_in, listed_frame, listing, listing_of}
use Rattle.stackmap_prune.specs.Pruned.{MustList, IsPruned, IsListing}
use Rattle.stackmap_prune.proofs.SearchLaws.{frames-are, rises-weak}

-- ---- which offsets are listed

module _ (must : ℕ → Bool) (reached : List (ℕ × Frame)) (gives : Bool) where
  abbrev framed : ℕ → List Kind → Frame
  framed at before = listed_frame (frame_in reached at) gives before

  abbrev goes : Bool → List Kind → LinkedLine → List LinkedLine → List (ℕ × Frame)
  goes b before l lines = if b then (l.at, framed l.at before) ∷ listing must reached gives (framed l.at before).locals lines else listing must reached gives before lines

  listed-exactly : (before : List Kind) (lines : List LinkedLine) (at : ℕ) → is_some (listed_frames (listing must reached gives before lines) at) ≡ (must at && is_some (line_in lines at))
  listed-exactly before [] at = by-test (must at)
    where
      by-test : (b : Bool) → false ≡ (b && false)
      by-test true = refl
      by-test false = refl
  listed-exactly before (l ∷ lines) at = by-must (must l.at) refl (listed-exactly (framed l.at before).locals lines at) (listed-exactly before lines at)
    where
      by-place : (b : Bool) → eqb l.at at ≡ b → must l.at ≡ true → is_some (listed_frames (listing must reached gives (framed l.at before).locals lines) at) ≡ (must at && is_some (line_in lines at)) → is_some (if b then Some (type_frame (framed l.at before)) else listed_frames (listing must reached gives (framed l.at before).locals lines) at) ≡ (must at && is_some (if b then Some l else line_in lines at))
      by-place true e h others = ap (λ t. t && true) (sym (ap must (sym (eqb-true l.at at e)) ∙ h))
      by-place false e h others = others

      by-other : (b : Bool) → eqb l.at at ≡ b → must l.at ≡ false → is_some (listed_frames (listing must reached gives before lines) at) ≡ (must at && is_some (line_in lines at)) → is_some (listed_frames (listing must reached gives before lines) at) ≡ (must at && is_some (if b then Some l else line_in lines at))
      by-other true e h others =
          let none : must at ≡ false = ap must (sym (eqb-true l.at at e)) ∙ h in
          others ∙ (ap (λ t. t && is_some (line_in lines at)) none ∙ sym (ap (λ t. t && true) none))
      by-other false e h others = others

      by-must : (b : Bool) → must l.at ≡ b → is_some (listed_frames (listing must reached gives (framed l.at before).locals lines) at) ≡ (must at && is_some (line_in lines at)) → is_some (listed_frames (listing must reached gives before lines) at) ≡ (must at && is_some (line_in lines at)) → is_some (listed_frames (goes b before l lines) at) ≡ (must at && is_some (line_in (l ∷ lines) at))
      by-must true h one other = by-place (eqb l.at at) refl h one
      by-must false h one other = by-other (eqb l.at at) refl h other

  -- ---- and which frames

  -- what a listed frame is
  record IsFrameFor (at : ℕ) (f : TypeFrame) : Type 0 where
    pub before : List Kind
    pub is : f ≡ type_frame (framed at before)

  listed-frame : (before : List Kind) (lines : List LinkedLine) (at : ℕ) (f : TypeFrame) → listed_frames (listing must reached gives before lines) at ≡ Some f → IsFrameFor at f
  listed-frame before [] at f e = absurd (none-some f e)
  listed-frame before (l ∷ lines) at f e = by-must (must l.at) (λ h. listed-frame (framed l.at before).locals lines at f h) (λ h. listed-frame before lines at f h) e
    where
      by-place : (b : Bool) → eqb l.at at ≡ b → (listed_frames (listing must reached gives (framed l.at before).locals lines) at ≡ Some f → IsFrameFor at f) → (if b then Some (type_frame (framed l.at before)) else listed_frames (listing must reached gives (framed l.at before).locals lines) at) ≡ Some f → IsFrameFor at f
      by-place true h others k = record { before = before; is = sym (same_Some (type_frame (framed l.at before)) f k) ∙ ap (λ a. type_frame (framed a before)) (eqb-true l.at at h) }
      by-place false h others k = others k

      by-must : (b : Bool) → (listed_frames (listing must reached gives (framed l.at before).locals lines) at ≡ Some f → IsFrameFor at f) → (listed_frames (listing must reached gives before lines) at ≡ Some f → IsFrameFor at f) → listed_frames (goes b before l lines) at ≡ Some f → IsFrameFor at f
      by-must true one other h = by-place (eqb l.at at) refl one h
      by-must false one other h = other h

  pub reached-frame : (before : List Kind) (lines : List LinkedLine) (at : ℕ) (f : TypeFrame) → listed_frames (listing must reached gives before lines) at ≡ Some f → IsSome (listed_frames reached at) → listed_frames reached at ≡ Some f
  reached-frame before lines at f e has =
      let i = listed-frame before lines at f e in
      by-case (frame_in reached at) refl i.before i.is
    where
      by-case : (o : Option Frame) → frame_in reached at ≡ o → (ks : List Kind) → f ≡ type_frame (framed at ks) → listed_frames reached at ≡ Some f
      by-case None h ks is = absurd (false≢true (sym (ap is_some (frames-are reached at ∙ ap (option_map type_frame) h)) ∙ has))
      by-case (Some g) h ks is = frames-are reached at ∙ (ap (option_map type_frame) h ∙ ap (λ x. Some x) (sym (is ∙ ap (λ o. type_frame (listed_frame o gives ks)) h)))

  pub put-in-frame : (before : List Kind) (lines : List LinkedLine) (at : ℕ) (f : TypeFrame) → listed_frames (listing must reached gives before lines) at ≡ Some f → listed_frames reached at ≡ None → f.stack ≡ given_by gives
  put-in-frame before lines at f e none =
      let i = listed-frame before lines at f e in
      by-case (frame_in reached at) refl i.before i.is
    where
      by-case : (o : Option Frame) → frame_in reached at ≡ o → (ks : List Kind) → f ≡ type_frame (framed at ks) → f.stack ≡ given_by gives
      by-case None h ks is = ap (λ x. x.stack) is ∙ ap (λ o. (listed_frame o gives ks).stack) h
      by-case (Some g) h ks is = absurd (none-some (type_frame g) (sym none ∙ (frames-are reached at ∙ ap (option_map type_frame) h)))

  pub listing-rises : (start : ℕ) (before : List Kind) (lines : List LinkedLine) → LaidFrom start lines → RisesFrom start (listing must reached gives before lines)
  listing-rises start before [] laid = tt
  listing-rises start before (l ∷ lines) laid = by-must (must l.at) (listing-rises l.next (framed l.at before).locals lines laid.2) (listing-rises l.next before lines laid.2)
    where
      by-must : (b : Bool) → RisesFrom l.next (listing must reached gives (framed l.at before).locals lines) → RisesFrom l.next (listing must reached gives before lines) → RisesFrom start (goes b before l lines)
      by-must true one other = (
        omega (arith, laid.0),
        rises-weak l.next (suc l.at) (listing must reached gives (framed l.at before).locals lines) (omega (arith, laid.1)) one,
      )
      by-must false one other = rises-weak l.next start (listing must reached gives before lines) (omega (arith, laid.0, laid.1)) other

-- ---- where one has to be listed

or-cases : (a b : Bool) → (a || b) ≡ true → (a ≡ true) ⊎ (b ≡ true)
or-cases true b e = inl refl
or-cases false b e = inr e

or-first : (a b : Bool) → a ≡ true → (a || b) ≡ true
or-first a b e = ap (λ t. t || b) e

or-second : (a b : Bool) → b ≡ true → (a || b) ≡ true
or-second true b e = refl
or-second false b e = e

any-found : (test : LinkedLine → Bool) (start : ℕ) (lines : List LinkedLine) → LaidFrom start lines → list_any test lines ≡ true → (from : ℕ) × (l : LinkedLine) × (line_in lines from ≡ Some l) × (test l ≡ true)
any-found test start [] laid e = absurd (false≢true e)
any-found test start (l ∷ lines) laid e =
    ⊎_elim
    (λ h. (l.at, l, here l lines l.at refl, h))
    (λ h.
    let r = any-found test l.next lines laid.2 h in
    let s = stands l.next lines r.0 r.1 laid.2 r.2 in
    (r.0, r.1, there l lines r.0 (λ same. omega (arith, same, laid.1, s.behind)) ∙ r.2, r.3))
    (or-cases (test l) (list_any test lines) e)

any-there : (test : LinkedLine → Bool) (lines : List LinkedLine) (from : ℕ) (l : LinkedLine) → line_in lines from ≡ Some l → test l ≡ true → list_any test lines ≡ true
any-there test [] from l e h = absurd (none-some l e)
any-there test (k ∷ lines) from l e h = by-place (eqb k.at from) (λ g. any-there test lines from l g h) e
  where
    by-place : (b : Bool) → (line_in lines from ≡ Some l → list_any test lines ≡ true) → (if b then Some k else line_in lines from) ≡ Some l → (test k || list_any test lines) ≡ true
    by-place true others g = or-first (test k) (list_any test lines) (ap test (same_Some k l g) ∙ h)
    by-place false others g = or-second (test k) (list_any test lines) (others g)

target-found : (ts : List ℕ) (at : ℕ) → list_any (λ t. eqb t at) ts ≡ true → Contains ts at
target-found [] at e = absurd (false≢true e)
target-found (t ∷ ts) at e =
    ⊎_elim
    (λ h. (0, omega arith, eqb-true t at h))
    (λ h. let r = target-found ts at h in (suc r.0, omega (arith, r.1), r.2))
    (or-cases (eqb t at) (list_any (λ t. eqb t at) ts) e)

target-there : (ts : List ℕ) (at : ℕ) → Contains ts at → list_any (λ t. eqb t at) ts ≡ true
target-there [] at c = absurd (omega (arith, c.1))
target-there (t ∷ ts) at (zero, inside, is) = or-first (eqb t at) (list_any (λ t. eqb t at) ts) (eq-eqb t at is)
target-there (t ∷ ts) at (suc k, inside, is) = or-second (eqb t at) (list_any (λ t. eqb t at) ts) (target-there ts at (k, omega (arith, inside), is))

not-true : (b : Bool) → not b ≡ true → b ≡ false
not-true true e = absurd (false≢true e)
not-true false e = refl

not-false : (b : Bool) → b ≡ false → not b ≡ true
not-false b e = ap not e

pub must-is : (method : LinkedMethod) (at : ℕ) → LaidFrom 0 method.lines → HasLine method at → must_list method.lines at ≡ true → MustList method at
must-is method at laid has e =
    let r = any-found (is_entered_by at) 0 method.lines laid e in (
      has,
      ⊎_elim
          (λ h. inl (r.0, r.1, r.2, target-found (instruction_targets r.1.instruction) at h))
          (λ h.
          let p = and_parts (not (falls_through r.1.instruction)) (eqb r.1.next at) h in
          inr (r.0, r.1, r.2, not-true (falls_through r.1.instruction) p.0, eqb-true r.1.next at p.1))
          (or-cases (list_any (λ t. eqb t at) (instruction_targets r.1.instruction)) (not (falls_through r.1.instruction) && eqb r.1.next at) r.3),
    )

pub must-there : (method : LinkedMethod) (at : ℕ) → MustList method at → must_list method.lines at ≡ true
must-there method at m =
    ⊎_elim
    (λ t. any-there (is_entered_by at) method.lines t.0 t.1 t.2 (or-first (list_any (λ x. eqb x at) (instruction_targets t.1.instruction)) (not (falls_through t.1.instruction) && eqb t.1.next at) (target-there (instruction_targets t.1.instruction) at t.3)))
    (λ b. any-there (is_entered_by at) method.lines b.0 b.1 b.2 (or-second (list_any (λ x. eqb x at) (instruction_targets b.1.instruction)) (not (falls_through b.1.instruction) && eqb b.1.next at) (and_from (not (falls_through b.1.instruction)) (eqb b.1.next at) (not-false (falls_through b.1.instruction) b.3) (eq-eqb b.1.next at b.4))))
    m.1

-- ---- all of it

module _ (method pruned : LinkedMethod) (reached : List (ℕ × Frame)) (is : IsPruned method pruned) (exactly : (at : ℕ) → IsSome (listed_frames reached at) ↔ Reached method at) where
  abbrev all : Frames
  all at = listed_frames (listing_of pruned reached) at

  exactly-listed : (at : ℕ) → is_some (all at) ≡ (must_list pruned.lines at && is_some (line_in pruned.lines at))
  exactly-listed at = listed-exactly (must_list pruned.lines) reached pruned.gives_int pruned.parameters pruned.lines at

  none-of : (o : Option TypeFrame) → (IsSome o → ⊥) → o ≡ None
  none-of None h = refl
  none-of (Some f) h = absurd (h refl)

  pub is-listing : IsListing method pruned (listed_frames reached) (listed_frames (listing_of pruned reached))
  is-listing = record {
    must = λ at. (
      λ some.
          let p = and_parts (must_list pruned.lines at) (is_some (line_in pruned.lines at)) (sym (exactly-listed at) ∙ some) in
          must-is pruned at is.laid p.1 p.0,
      λ m. exactly-listed at ∙ and_from (must_list pruned.lines at) (is_some (line_in pruned.lines at)) (must-there pruned at m) m.0,
    );
    reached = λ at f e r. reached-frame (must_list pruned.lines) reached pruned.gives_int pruned.parameters pruned.lines at f e ((exactly at).1 r);
    put_in = λ at f e none.
        put-in-frame (must_list pruned.lines) reached pruned.gives_int pruned.parameters pruned.lines at f e (none-of (listed_frames reached at) (λ some. none ((exactly at).0 some)))
        ∙ ap given_by is.gives_int;
  }
