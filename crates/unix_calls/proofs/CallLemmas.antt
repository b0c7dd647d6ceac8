-- Which call of the definition a number means.
use Rattle.std.proofs.Common.{◌≡◌, ℕ, ◌<◌, ℤ, Some, refl, ap, ◌∙◌, to_z, of_z, w32, rules}
use Rattle.std.specs.Int.Signed.{mag}
use Rattle.run_definition.specs.Answer.{Answer}
use Rattle.run_definition.specs.Memory.{Memory}
use Rattle.run_definition.specs.Question.{Question, asked, asked_text_at, room_at, places_asked}
use Rattle.run_definition.specs.declared.call.Call.{Call}
use Rattle.run_definition.specs.declared.text_place.TextPlace.TheVariants.{Zero, Counted}
use Rattle.unix_definition.specs.System.{System}
use Rattle.unix_definition.specs.Asked.{value_only}
use Rattle.unix_definition.specs.Calls.{begin, open_file, read, write, lseek, sbrk, fstat, unlink, ftruncate, rename}
use Rattle.unix_definition.specs.Unix.{unix}
use Rattle.unix_calls.specs.Access.{read_of, write_of}

module _ (s : System) (q : Question) where
  pub is-begin : q.number ≡ 0 → unix s q ≡ begin s q.a0 q.a1 q.a2 q.a3 q.room
  is-begin e = rw e refl

  pub is-read : q.number ≡ 4 → unix s q ≡ read s q.a0 q.a2 q.room
  is-read e = rw e refl

  pub is-write : q.number ≡ 5 → unix s q ≡ write s q.a0 q.a2 q.text
  is-write e = rw e refl

  pub is-fstat : q.number ≡ 8 → unix s q ≡ fstat s q.a0 q.room
  is-fstat e = rw e refl

  pub is-open : q.number ≡ 2 → unix s q ≡ open_file s q.text q.a1
  is-open e = rw e refl

  pub is-unlink : q.number ≡ 9 → unix s q ≡ unlink s q.text
  is-unlink e = rw e refl

  pub is-rename : q.number ≡ 14 → unix s q ≡ rename s q.text q.second
  is-rename e = rw e refl

module _ (m : Memory) (call : Call) where
  pub path-of-2 : call.number ≡ 2 → (asked call m).text ≡ asked_text_at m (Zero call.a0)
  path-of-2 e = rw e refl

  pub path-of-9 : call.number ≡ 9 → (asked call m).text ≡ asked_text_at m (Zero call.a0)
  path-of-9 e = rw e refl

  pub path-of-14 : call.number ≡ 14 → (asked call m).text ≡ asked_text_at m (Zero call.a0)
  path-of-14 e = rw e refl

  pub second-of-14 : call.number ≡ 14 → (asked call m).second ≡ asked_text_at m (Zero call.a1)
  second-of-14 e = rw e refl

  pub bytes-of-5 : call.number ≡ 5 → (asked call m).text ≡ asked_text_at m (Counted call.a1 call.a2)
  bytes-of-5 e = rw e refl

  pub room-of-4 : call.number ≡ 4 → (asked call m).room ≡ room_at m (Some (call.a1, call.a2))
  room-of-4 e = rw e refl

  pub room-of-8 : call.number ≡ 8 → (asked call m).room ≡ room_at m (Some (call.a1, 16))
  room-of-8 e = rw e refl

module _ (s : System) (q : Question) where
  pub is-sbrk : q.number ≡ 7 → unix s q ≡ sbrk s q.a0
  is-sbrk e = rw e refl

  pub is-lseek : q.number ≡ 6 → unix s q ≡ lseek s q.a0 q.a1 q.a2
  is-lseek e = rw e refl

  pub is-ftruncate : q.number ≡ 11 → unix s q ≡ ftruncate s q.a0 q.a1
  is-ftruncate e = rw e refl

-- a signed answer, as a machine word keeps it
pub signed-back : (r : ℤ) → mag r < 2147483648 → r ≡ to_z w32 (of_z w32 r)
signed-back r small = search rules

pub answered-back : (r : ℤ) (given : Answer × System) (last : System) → mag r < 2147483648 → given ≡ (value_only r, last) → given ≡ (value_only (to_z w32 (of_z w32 r)), last)
answered-back r given last small is = is ∙ ap (λ z. (value_only z, last)) (signed-back r small)

-- the room for the argument block, of a size that is a number only where that is needed
block-place : (call : Call) (size : ℕ) → call.number ≡ 0 → size ≡ 4096 → (places_asked call).room ≡ Some (call.a0, size)
block-place call size e s = rw (e, s) refl

pub room-of-0 : (m : Memory) (call : Call) (size : ℕ) → call.number ≡ 0 → size ≡ 4096 → (asked call m).room ≡ room_at m (Some (call.a0, size))
room-of-0 m call size e s = ap (room_at m) (block-place call size e s)

pub is-read-of : (m : Memory) (call : Call) (s : System) → call.number ≡ 4 → unix s (asked call m) ≡ read_of m call s
is-read-of m call s e = is-read s (asked call m) e ∙ ap (read s call.a0 call.a2) (room-of-4 m call e)

pub is-write-of : (m : Memory) (call : Call) (s : System) → call.number ≡ 5 → unix s (asked call m) ≡ write_of m call s
is-write-of m call s e = is-write s (asked call m) e ∙ ap (write s call.a0 call.a2) (bytes-of-5 m call e)
