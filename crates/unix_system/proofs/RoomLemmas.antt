-- Bytes that fit a room.
use Rattle.std.proofs.Common.{◌≡◌, ℕ, ◌+◌, ◌<◌, ◌≤◌, true, nat_lt, List, [], ◌∷◌, length, take, get_or, Some, refl, ◌∙◌}
use Rattle.std.specs.List.{list_all}
use Rattle.std.proofs.lemmas.Bool.{and_from, lt-ltb, le-leb}
use Rattle.std.proofs.lemmas.List.Folds.{list_all_more}
use Rattle.run_definition.specs.Memory.{Memory, can_write}
use Rattle.run_definition.specs.Question.{there, room_at}
use Rattle.run_definition.specs.Answer.{fits_room}

pub more-small : (bs : List ℕ) (i : ℕ) → i < length bs → get_or bs i 0 < 256 → list_all (λ x. nat_lt x 256) (take i bs) ≡ true → list_all (λ x. nat_lt x 256) (take (i + 1) bs) ≡ true
more-small bs i h b all = list_all_more (λ x. nat_lt x 256) bs i 0 h ∙ and_from _ _ all (lt-ltb (get_or bs i 0) 256 b)

pub fits-there : (bs : List ℕ) (place size : ℕ) → list_all (λ x. nat_lt x 256) bs ≡ true → length bs ≤ size → fits_room bs (there place size) ≡ true
fits-there [] place size small h = refl
fits-there (b ∷ bs) place size small h = and_from _ _ (le-leb (length (b ∷ bs)) size h) small

pub room-there : (m : Memory) (place size : ℕ) → can_write m place size ≡ true → room_at m (Some (place, size)) ≡ there place size
room-there m place size h = rw h refl
