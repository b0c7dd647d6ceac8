-- Ranges of addresses that may be written, and patches.
use Rattle.std.proofs.Common.{◌≡◌, ℕ, zero, suc, ◌+◌, ◌-◌, ◌<◌, ◌≤◌, Bool, true, false, ◌&&◌, List, [], ◌∷◌, length, Some, None, is_some, refl, ap, sym, ◌∙◌, get_or, nat_le, if◌then◌else◌, inl, inr, arith, nat_lt, ◌^◌}
use Rattle.std.specs.List.{list_all}
use Rattle.std.proofs.lemmas.Bool.{and_parts, and_from, cases_Bool, cases_lt, both_ways, lt-ltb, le-leb, leb-true}
use Rattle.run_definition.specs.Memory.{Memory, can_write, patched}
use Rattle.run_definition.specs.Question.{missing, there, room_at}
use Rattle.run_definition.specs.Answer.{fits_room, room_place}

pub can_write-more : (m : Memory) (a n i : ℕ) → i < n → can_write m (a + i) (n - i) ≡ (m.writable (a + i) && can_write m (a + (i + 1)) (n - (i + 1)))
can_write-more m a n i h =
    let e : n - i ≡ suc (n - (i + 1)) = omega arith in
    let f : a + i + 1 ≡ a + (i + 1) = omega arith in
    rw e (ap (λ x. m.writable (a + i) && can_write m x (n - (i + 1))) f)

-- a walk over the addresses of a range, one step on, and where it stops
pub can_write-step : (m : Memory) (a n i at : ℕ) → i < n → can_write m a n ≡ can_write m (a + i) (n - i) → at ≡ a + i → true ≡ m.writable at → can_write m a n ≡ can_write m (a + (i + 1)) (n - (i + 1))
can_write-step m a n i at h so_far e w =
    let here : m.writable (a + i) ≡ true = ap m.writable (sym e) ∙ sym w in
    so_far ∙ can_write-more m a n i h ∙ ap (λ x. x && can_write m (a + (i + 1)) (n - (i + 1))) here

pub can_write-stop : (m : Memory) (a n i at : ℕ) → i < n → can_write m a n ≡ can_write m (a + i) (n - i) → at ≡ a + i → false ≡ m.writable at → false ≡ can_write m a n
can_write-stop m a n i at h so_far e w =
    let here : m.writable (a + i) ≡ false = ap m.writable (sym e) ∙ sym w in
    sym (so_far ∙ can_write-more m a n i h ∙ ap (λ x. x && can_write m (a + (i + 1)) (n - (i + 1))) here)

pub writable_in : (m : Memory) (a n i : ℕ) → can_write m a n ≡ true → i < n → m.writable (a + i) ≡ true
writable_in m a zero i h l = absurd (omega arith)
writable_in m a (suc n) zero h l =
    let e : a + zero ≡ a = omega arith in rw e (and_parts _ _ h).0
writable_in m a (suc n) (suc i) h l =
    let e : a + suc i ≡ a + 1 + i = omega arith in
    rw e (writable_in m (a + 1) n i (and_parts _ _ h).1 (omega arith))

pub can_write-front : (m : Memory) (a n k : ℕ) → can_write m a n ≡ true → k ≤ n → can_write m a k ≡ true
can_write-front m a n zero h l = refl
can_write-front m a zero (suc k) h l = absurd (omega arith)
can_write-front m a (suc n) (suc k) h l =
    let p = and_parts (m.writable a) (can_write m (a + 1) n) h in
    and_from _ _ p.0 (can_write-front m (a + 1) n k p.1 (omega arith))

-- what can be read stands below the end of the addresses, and so does what may be written
module _ (m : Memory) (readable : (x : ℕ) → m.writable x ≡ true → is_some (m.byte x) ≡ true) (ends : (x : ℕ) → 2 ^ 32 ≤ x → m.byte x ≡ None) where
  pub not_writable_past : (x : ℕ) → 2 ^ 32 ≤ x → m.writable x ≡ false
  not_writable_past x h = elim (cases_Bool (m.writable x)) [
    | inl w ↦ absurd (both_ways _ (ap is_some (ends x h)) (readable x w))
    | inr n ↦ n
  ]

  pub below_end : (x : ℕ) → m.writable x ≡ true → x < 2 ^ 32
  below_end x w = elim (cases_lt x (2 ^ 32)) [
    | inl l ↦ l
    | inr h ↦ absurd (both_ways _ (not_writable_past x h) w)
  ]

-- a patch that fits the room of a call stands in memory that may be written
pub room_holds : (m : Memory) (b : ℕ) (bs : List ℕ) (place size : ℕ) (w : Bool) → can_write m place size ≡ w → fits_room (b ∷ bs) (if w then there place size else missing) ≡ true
    → (can_write m (room_place (if w then there place size else missing)) (length (b ∷ bs)) ≡ true) × (list_all (λ x. nat_lt x 256) (b ∷ bs) ≡ true)
room_holds m b bs place size true e h =
    let parts = and_parts (nat_le (length (b ∷ bs)) size) (list_all (λ x. nat_lt x 256) (b ∷ bs)) h in
    (can_write-front m place size (length (b ∷ bs)) e (leb-true (length (b ∷ bs)) size parts.0), parts.1)
room_holds m b bs place size false e h = cc

pub bytes_fit : (bs : List ℕ) → ((i : ℕ) → get_or bs i 0 < 256) → list_all (λ x. nat_lt x 256) bs ≡ true
bytes_fit [] below = refl
bytes_fit (b ∷ bs) below =
    and_from _ _ (lt-ltb b 256 (below 0)) (bytes_fit bs (λ i. below (suc i)))

-- bytes fit a room that is long enough exactly where it may be written
fits_choice : (w : Bool) (b : ℕ) (bs : List ℕ) (place size : ℕ) → ((i : ℕ) → get_or (b ∷ bs) i 0 < 256) → length (b ∷ bs) ≤ size → w ≡ fits_room (b ∷ bs) (if w then there place size else missing)
fits_choice true b bs place size below h =
    sym (and_from _ _ (le-leb (length (b ∷ bs)) size h) (bytes_fit (b ∷ bs) below))
fits_choice false b bs place size below h = refl

pub fits_there : (m : Memory) (bs : List ℕ) (place size : ℕ) → ((i : ℕ) → get_or bs i 0 < 256) → 0 < length bs → length bs ≤ size → can_write m place size ≡ fits_room bs (room_at m (Some (place, size)))
fits_there m [] place size below some h = absurd (omega arith)
fits_there m (b ∷ bs) place size below some h =
    fits_choice (can_write m place size) b bs place size below h

-- what fits a room may be written there
writable_choice : (w : Bool) (b : ℕ) (bs : List ℕ) (place size : ℕ) → fits_room (b ∷ bs) (if w then there place size else missing) ≡ true → (w ≡ true) × (length (b ∷ bs) ≤ size)
writable_choice true b bs place size h =
    (refl, leb-true (length (b ∷ bs)) size (and_parts _ _ h).0)
writable_choice false b bs place size h = cc

pub fits-can_write : (m : Memory) (bs : List ℕ) (place size : ℕ) → fits_room bs (room_at m (Some (place, size))) ≡ true → can_write m place (length bs) ≡ true
fits-can_write m [] place size h = refl
fits-can_write m (b ∷ bs) place size h =
    let w = writable_choice (can_write m place size) b bs place size h in
    can_write-front m place size (length (b ∷ bs)) w.0 w.1

-- a patch that fits is put from the room's place on
pub patched_there : {C : Type 0} (put_at : C → ℕ → ℕ → C) (c : C) (m : Memory) (bs : List ℕ) (place size : ℕ) → fits_room bs (room_at m (Some (place, size))) ≡ true → patched put_at c place bs ≡ patched put_at c (room_place (room_at m (Some (place, size)))) bs
patched_there put_at c m [] place size h = refl
patched_there put_at c m (b ∷ bs) place size h =
    let w : can_write m place size ≡ true = (writable_choice (can_write m place size) b bs place size h).0 in
    ap (λ x. patched put_at c (room_place (if x then there place size else missing)) (b ∷ bs)) (sym w)

pub patched_nowhere : {C : Type 0} (put_at : C → ℕ → ℕ → C) (c : C) (m : Memory) (bs : List ℕ) → fits_room bs (room_at m None) ≡ true → c ≡ patched put_at c (room_place (room_at m None)) bs
patched_nowhere put_at c m [] h = refl
patched_nowhere put_at c m (b ∷ bs) h = cc
