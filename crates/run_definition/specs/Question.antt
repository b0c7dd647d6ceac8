-- What a call of the program shows to the system: its number and four words, the texts that its words point to, and the room for
-- an answer. Calls are those of docs/CALLS.md.
use Rattle.std.specs.Prelude.{ℕ, zero, suc, ◌==◌, if◌then◌else◌, List, [], ◌∷◌, Option, Some, None, ◌+◌}
use Rattle.run_definition.specs.Memory.{Memory, bytes_from, can_write}
use Rattle.run_definition.specs.declared.call.Call.{Call}
use Rattle.run_definition.specs.declared.call_places.Places.{Places}
use Rattle.run_definition.specs.declared.text_place.TextPlace.{TextPlace}
use Rattle.run_definition.specs.declared.text_place.TextPlace.TheVariants.{Absent, Zero, Counted}

-- a text as the system finds it
pub data AskedText : Type 0 where
  no_text : AskedText
  unreadable : AskedText
  too_long : AskedText
  bytes : List ℕ → AskedText

-- the room for an answer's bytes: none is wanted, it cannot be written whole, or its place and length
pub data Room : Type 0 where
  no_room : Room
  missing : Room
  there : ℕ → ℕ → Room

pub record Question : Type 0 where
  pub number : ℕ
  pub a0 : ℕ
  pub a1 : ℕ
  pub a2 : ℕ
  pub a3 : ℕ
  pub text : AskedText
  pub second : AskedText
  pub room : Room

-- Which words of a call point to what, by its number.
abbrev pub texts_and_room : TextPlace → TextPlace → Option (ℕ × ℕ) → Places
texts_and_room first second room = record { text = first; second = second; room = room }

abbrev pub places_asked : Call → Places
places_asked call =
    if call.number == 0 then texts_and_room Absent Absent (Some (call.a0, 4096))
    else if call.number == 2 then texts_and_room (Zero call.a0) Absent None
    else if call.number == 4 then texts_and_room Absent Absent (Some (call.a1, call.a2))
    else if call.number == 5 then texts_and_room (Counted call.a1 call.a2) Absent None
    else if call.number == 8 then texts_and_room Absent Absent (Some (call.a1, 16))
    else if call.number == 9 then texts_and_room (Zero call.a0) Absent None
    else if call.number == 14 then texts_and_room (Zero call.a0) (Zero call.a1) None
    else texts_and_room Absent Absent None

-- a byte before a text
abbrev pub after_byte : ℕ → AskedText → AskedText
after_byte b no_text = no_text
after_byte b unreadable = unreadable
after_byte b too_long = too_long
after_byte b (bytes bs) = bytes (b ∷ bs)

-- the bytes from an address up to the first 00, of which at most n bytes are looked at
abbrev pub text_to_zero : Memory → ℕ → ℕ → AskedText
text_to_zero m a zero = too_long
text_to_zero m a (suc n) = elim (m.byte a) [
  | None ↦ unreadable
  | Some b ↦ if b == 0 then bytes [] else after_byte b (text_to_zero m (a + 1) n)
]

-- the text at a place of memory
abbrev pub asked_text_at : Memory → TextPlace → AskedText
asked_text_at m Absent = no_text
asked_text_at m (Zero a) = text_to_zero m a 256
asked_text_at m (Counted a n) = elim (bytes_from m a n) [ None ↦ unreadable | Some bs ↦ bytes bs ]

abbrev pub room_at : Memory → Option (ℕ × ℕ) → Room
room_at m None = no_room
room_at m (Some place) = if can_write m place.0 place.1 then there place.0 place.1 else missing

-- the question that a call asks in a memory
abbrev pub asked : Call → Memory → Question
asked call m = record {
  number = call.number;
  a0 = call.a0;
  a1 = call.a1;
  a2 = call.a2;
  a3 = call.a3;
  text = asked_text_at m (places_asked call).text;
  second = asked_text_at m (places_asked call).second;
  room = room_at m (places_asked call).room;
}
