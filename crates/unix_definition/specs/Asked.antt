-- What the calls read off a question: paths, rooms and flags; and how they answer.
use Rattle.std.specs.Prelude.{ℕ, ℤ, ◌+◌, ◌==◌, ◌||◌, ◌/◌, ◌%◌, Bool, false, nat_le, if◌then◌else◌, List, [], ◌∷◌, ◌++◌, reverse, length, Option, Some, None}
use Rattle.run_definition.specs.Words.{bytes_of_word}
use Rattle.run_definition.specs.declared.order.Order.{Order}
use Rattle.run_definition.specs.declared.order.Order.TheVariants.{Big, Little}
use Rattle.run_definition.specs.Question.{AskedText, no_text, unreadable, too_long, bytes, Room, no_room, missing, there}
use Rattle.run_definition.specs.Answer.{Answer}
use Rattle.unix_definition.specs.Errors.{no_entry, bad_address, invalid}
use Rattle.unix_definition.specs.System.{System}

-- an answer without bytes
abbrev pub value_only : ℤ → Answer
value_only value = record { value = value; patch = [] }

-- A refused call changes nothing.
abbrev pub call_refused : System → ℤ → Answer × System
call_refused s e = (value_only e, s)

-- what a path is refused with, and its bytes
abbrev pub path_error : AskedText → Option ℤ
path_error no_text = Some bad_address
path_error unreadable = Some bad_address
path_error too_long = Some invalid
path_error (bytes []) = Some no_entry
path_error (bytes (b ∷ bs)) = None

abbrev pub bytes_of_text : AskedText → List ℕ
bytes_of_text no_text = []
bytes_of_text unreadable = []
bytes_of_text too_long = []
bytes_of_text (bytes bs) = bs

-- A call goes on with a path, where that is not refused.
abbrev pub with_path : System → AskedText → (List ℕ → Answer × System) → Answer × System
with_path s text go =
    elim (path_error text) [ Some e ↦ call_refused s e | None ↦ go (bytes_of_text text) ]

-- Bytes to be written: they can be read, or the call is refused.
abbrev pub with_bytes_of : System → AskedText → (List ℕ → Answer × System) → Answer × System
with_bytes_of s no_text go = call_refused s bad_address
with_bytes_of s unreadable go = call_refused s bad_address
with_bytes_of s too_long go = call_refused s bad_address
with_bytes_of s (bytes bs) go = go bs

-- the room is there, for so many bytes
abbrev pub has_room : Room → ℕ → Bool
has_room no_room n = false
has_room missing n = false
has_room (there place size) n = nat_le n size

-- the flags of `open`: its access is 0 for reading, 1 for writing, 2 for both
abbrev pub access : ℕ → ℕ
access flags = flags % 4

abbrev pub reads : ℕ → Bool
reads flags = access flags == 0 || access flags == 2

abbrev pub writes : ℕ → Bool
writes flags = access flags == 1 || access flags == 2

abbrev pub has_open_flag : ℕ → ℕ → Bool
has_open_flag flags flag = flags / flag % 2 == 1

abbrev pub appends : ℕ → Bool
appends flags = has_open_flag flags 0x8

abbrev pub creates : ℕ → Bool
creates flags = has_open_flag flags 0x200

abbrev pub truncates : ℕ → Bool
truncates flags = has_open_flag flags 0x400

abbrev pub is_exclusive : ℕ → Bool
is_exclusive flags = has_open_flag flags 0x800

-- the order of bytes that the loader's call names
abbrev pub order_of_number : ℕ → Order
order_of_number n = if n == 1 then Little else Big

-- the four bytes of a word as memory has them
abbrev pub word_in_order : Order → ℕ → List ℕ
word_in_order Big w = bytes_of_word w
word_in_order Little w = reverse (bytes_of_word w)

abbrev pub words_in_order : Order → List ℕ → List ℕ
words_in_order order [] = []
words_in_order order (w ∷ ws) = word_in_order order w ++ words_in_order order ws

-- Texts one after the other, each followed by 00, and the addresses at which they stand.
abbrev pub texts_with_zeros : List (List ℕ) → List ℕ
texts_with_zeros [] = []
texts_with_zeros (text ∷ texts) = text ++ 0 ∷ texts_with_zeros texts

abbrev pub addresses : ℕ → List (List ℕ) → List ℕ
addresses at [] = []
addresses at (text ∷ texts) = at ∷ addresses (at + length text + 1) texts
