-- A description of how values are spelled as bytes and read from the front of bytes: one for both directions, and for what is
-- at fault.
use Rattle.std.specs.Prelude.{ℕ, zero, suc, ℤ, pos, negsuc, min, ◌+◌, ◌-◌, ◌*◌, ◌^◌, ◌&&◌, ◌==◌, Bool, true, false, nat_lt, if◌then◌else◌, List, [], ◌∷◌, ◌++◌, length, take, drop, Option, Some, None, Result, Ok, Err}
use Rattle.std.specs.Int.{Width, w8, byte_len, from_be_bytes, to_be_bytes, cast_signed, cast_unsigned}
use Rattle.class_definition.specs.declared.class_fault.ClassFault.{ClassFault}
use Rattle.class_definition.specs.declared.miss.Miss.{Miss}

-- what is read from the front of bytes: a value and the bytes after it, or a miss
abbrev pub Reading : Type 0 → Type 0
Reading A = Result (A × List ℕ) Miss

-- a format: the bytes of a value, whether a value has any, and what is read
pub record Format (A : Type 0) : Type 0 where
  pub spell : A → List ℕ
  pub fits : A → Bool
  pub read : List ℕ → Result (A × List ℕ) Miss

-- the field at the front of these bytes is at fault
abbrev pub missed : {A : Type 0} → ℕ → List ℕ → Reading A
missed kind bytes = Err (record { kind = kind; left = length bytes })

-- what is read next, after a value
infixl 10 ◌>>=◌
abbrev pub ◌>>=◌ : {A B : Type 0} → Reading A → (A × List ℕ → Reading B) → Reading B
(Ok x) >>= f = f x
(Err m) >>= f = Err m

-- ---- fields

-- an unsigned number, the most significant byte first; cut is the kind of a field that runs past the end
abbrev pub number_format : ℕ → Width → Format ℕ
number_format cut w = record {
  spell = to_be_bytes w;
  fits = λ n. nat_lt n (2 ^ (8 * byte_len w));
  read = λ bytes. if nat_lt (length bytes) (byte_len w) then missed cut bytes
      else Ok (from_be_bytes w (take (byte_len w) bytes), drop (byte_len w) bytes);
}

-- so many bytes, whatever they are
abbrev pub raw : ℕ → ℕ → Format (List ℕ)
raw cut n = record {
  spell = λ bytes. bytes;
  fits = λ bytes. length bytes == n;
  read = λ bytes. if nat_lt (length bytes) n then missed cut bytes
      else Ok (take n bytes, drop n bytes);
}

-- no bytes at all
abbrev pub nothing : Format (Unit {0})
nothing = record { spell = λ _. []; fits = λ _. true; read = λ bytes. Ok (tt, bytes) }

-- nothing is read here: a fault, which stands so many bytes before
abbrev pub refused_format : {A : Type 0} → ℕ → ℕ → Format A
refused_format kind before = record {
  spell = λ _. [];
  fits = λ _. false;
  read = λ bytes. Err (record { kind = kind; left = length bytes + before });
}

-- ---- one after the other

-- a value, and then one whose format may depend on the first
abbrev pub both : {A B : Type 0} → Format A → (A → Format B) → Format (A × B)
both f g = record {
  spell = λ x. f.spell x.0 ++ (g x.0).spell x.1;
  fits = λ x. f.fits x.0 && (g x.0).fits x.1;
  read = λ bytes. f.read bytes >>= λ a. (g a.0).read a.1 >>= λ b. Ok ((a.0, b.0), b.1);
}

-- so many values; the format of each may depend on how many are to come and on a state that goes from one to the next
abbrev pub chain_spelling : {S A : Type 0} → (S → ℕ → Format A) → (S → A → S) → S → List A → List ℕ
chain_spelling g next s [] = []
chain_spelling g next s (x ∷ xs) = (g s (length xs)).spell x ++ chain_spelling g next (next s x) xs

abbrev pub chain_fits : {S A : Type 0} → (S → ℕ → Format A) → (S → A → S) → S → List A → Bool
chain_fits g next s [] = true
chain_fits g next s (x ∷ xs) = (g s (length xs)).fits x && chain_fits g next (next s x) xs

unfoldable pub chain_reading : {S A : Type 0} → (S → ℕ → Format A) → (S → A → S) → S → ℕ → List ℕ
    → Reading (List A)
chain_reading g next s zero bytes = Ok ([], bytes)
chain_reading g next s (suc n) bytes =
    (g s n).read bytes >>= λ x. chain_reading g next (next s x.0) n x.1 >>= λ xs.
    Ok (x.0 ∷ xs.0, xs.1)

abbrev pub chain : {S A : Type 0} → (S → ℕ → Format A) → (S → A → S) → S → ℕ → Format (List A)
chain g next s n = record {
  spell = chain_spelling g next s;
  fits = λ xs. length xs == n && chain_fits g next s xs;
  read = chain_reading g next s n;
}

-- so many values of one format
abbrev pub repeated : {A : Type 0} → Format A → ℕ → Format (List A)
repeated f n = chain {S = Unit {0}} (λ _ _. f) (λ s _. s) tt n

-- ---- of another form

-- the values that make makes; back gives what a value is made of, where it is one
abbrev pub spelled_by : {B : Type 0} → Format B → Option B → List ℕ
spelled_by f None = []
spelled_by f (Some b) = f.spell b

abbrev pub fits_by : {B : Type 0} → Format B → Option B → Bool
fits_by f None = false
fits_by f (Some b) = f.fits b

abbrev pub mapped : {A B : Type 0} → (B → A) → (A → Option B) → Format B → Format A
mapped make back f = record {
  spell = λ a. spelled_by f (back a);
  fits = λ a. fits_by f (back a);
  read = λ bytes. f.read bytes >>= λ b. Ok (make b.0, b.1);
}

-- the values that parse finds; what it does not find is at fault, so many bytes before
abbrev pub found : {A : Type 0} → ℕ → ℕ → Option A → List ℕ → Reading A
found kind left None rest = Err (record { kind = kind; left = left })
found kind left (Some a) rest = Ok (a, rest)

abbrev pub parsed_format : {A B : Type 0} → ℕ → ℕ → (B → Option A) → (A → Bool) → (A → B) → Format B
    → Format A
parsed_format kind back parse test print f = record {
  spell = λ a. f.spell (print a);
  fits = λ a. f.fits (print a) && test a;
  read = λ bytes. f.read bytes >>= λ b. found kind (length bytes + back) (parse b.0) b.1;
}

-- ---- what is at fault although it can be read

-- a value that was read of so many bytes and those after it; its own fault stands so many bytes behind its first one
abbrev pub settled : {A : Type 0} → ℕ → Option ClassFault → A × List ℕ → Reading A
settled size None x = Ok x
settled size (Some fault) x = Err (record { kind = fault.kind; left = size - fault.at })

abbrev pub is_sound : Option ClassFault → Bool
is_sound None = true
is_sound (Some fault) = false

-- the values that have no fault of their own
abbrev pub checked : {A : Type 0} → (A → Option ClassFault) → Format A → Format A
checked fault f = record {
  spell = f.spell;
  fits = λ a. f.fits a && is_sound (fault a);
  read = λ bytes. f.read bytes >>= λ x. settled (length bytes) (fault x.0) x;
}

-- the values that pass a test; else they are at fault where they begin
abbrev pub fault_unless : ℕ → Bool → Option ClassFault
fault_unless kind passes = if passes then None else Some (record { kind = kind; at = 0 })

abbrev pub tested : {A : Type 0} → ℕ → (A → Bool) → Format A → Format A
tested kind test f = checked (λ a. fault_unless kind (test a)) f

-- ---- made of these

-- a number that can only be this one
abbrev pub exactly : ℕ → Width → ℕ → ℕ → Format (Unit {0})
exactly cut w kind n = mapped (λ _. tt) (λ _. Some n) (tested kind (λ m. m == n) (number_format cut w))

-- a value behind what is always the same, and before
abbrev pub behind : {A : Type 0} → Format (Unit {0}) → Format A → Format A
behind c f = record {
  spell = λ a. c.spell tt ++ f.spell a;
  fits = λ a. c.fits tt && f.fits a;
  read = λ bytes. c.read bytes >>= λ u. f.read u.1;
}

abbrev pub before : {A : Type 0} → Format A → Format (Unit {0}) → Format A
before f c = record {
  spell = λ a. f.spell a ++ c.spell tt;
  fits = λ a. f.fits a && c.fits tt;
  read = λ bytes. f.read bytes >>= λ a. c.read a.1 >>= λ u. Ok (a.0, u.1);
}

-- a value behind a number that the value determines
abbrev pub headed : {A : Type 0} → Format ℕ → (A → ℕ) → (ℕ → Format A) → Format A
headed n number_of f = record {
  spell = λ a. n.spell (number_of a) ++ (f (number_of a)).spell a;
  fits = λ a. n.fits (number_of a) && (f (number_of a)).fits a;
  read = λ bytes. n.read bytes >>= λ x. (f x.0).read x.1;
}

-- a two's complement number
abbrev pub fits_signed : Width → ℤ → Bool
fits_signed w (pos n) = nat_lt n (2 ^ (8 * byte_len w - 1))
fits_signed w (negsuc n) = nat_lt n (2 ^ (8 * byte_len w - 1))

abbrev pub bits_of : Width → ℤ → Option ℕ
bits_of w z = if fits_signed w z then Some (cast_unsigned w z) else None

abbrev pub signed : ℕ → Width → Format ℤ
signed cut w = mapped (cast_signed w) (bits_of w) (number_format cut w)

-- so many values, behind their number
abbrev pub counted : {A : Type 0} → ℕ → Width → Format A → Format (List A)
counted cut w f = headed (number_format cut w) length (repeated f)

-- one of several forms, behind a byte that says which
pub record FormatRow (A : Type 0) : Type 0 where
  pub tag : ℕ
  pub form : Format A

abbrev pub form_by_tag : {A : Type 0} → ℕ → List (FormatRow A) → ℕ → Format A
form_by_tag kind [] tag = refused_format kind 1
form_by_tag kind (row ∷ rows) tag = if row.tag == tag then row.form else form_by_tag kind rows tag

abbrev pub tagged : {A : Type 0} → ℕ → ℕ → (A → ℕ) → List (FormatRow A) → Format A
tagged cut kind tag_of rows = headed (number_format cut w8) tag_of (form_by_tag kind rows)

-- ---- from the first byte to the last

-- the only value of these bytes; a byte behind it is at fault
abbrev pub ended : {A : Type 0} → ℕ → A × List ℕ → Result A Miss
ended kind x = if length x.1 == 0 then Ok x.0 else Err (record { kind = kind; left = length x.1 })

abbrev pub read_then_end : {A : Type 0} → ℕ → Reading A → Result A Miss
read_then_end kind (Ok x) = ended kind x
read_then_end kind (Err miss) = Err miss

abbrev pub whole : {A : Type 0} → Format A → ℕ → List ℕ → Result A Miss
whole f kind bytes = read_then_end kind (f.read bytes)

-- the field at fault among bytes that begin at a place
abbrev pub fault_at : ℕ → ℕ → Miss → ClassFault
fault_at start size miss = record {
  kind = miss.kind;
  at = min (start + (size - miss.left)) 0xFFFF_FFFF;
}
