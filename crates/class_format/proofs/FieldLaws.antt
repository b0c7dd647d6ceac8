-- The fields are formats.
use Rattle.std.proofs.Common.{◌≡◌, ℕ, ◌*◌, ◌^◌, ◌<◌, ◌≤◌, Bool, true, false, cond, ltb, eqb, List, [], ◌∷◌, ◌++◌, length, take, drop, Ok, Err, refl, sym, ap, subst, arith, inl, inr}
use Rattle.std.specs.Int.{Width, w8, w16, w32, w64, byte_len, from_be_bytes, to_be_bytes}
use Rattle.std.proofs.lemmas.Bool.{cases_lt, ltb-true, ltb-false, le-ltb, lt-ltb, eqb-true, eq-eqb}
use Rattle.std.proofs.lemmas.List.{take_at, drop_at, take-append-drop, length-append, length-take, length-take-le, get_or-take, get_or_past}
use Rattle.std.proofs.lemmas.Nat.{be_bytes_2, be_bytes_4, be_bytes_8, from_be_bytes-to_be_bytes_2, from_be_bytes-to_be_bytes_4, from_be_bytes-to_be_bytes_8}
use Rattle.class_definition.specs.declared.miss.Miss.{Miss}
use Rattle.class_definition.specs.Format.{number_format, raw, nothing, refused_format}
use Rattle.class_definition.specs.Spelling.{IsBytes, Begins, IsFormat}
use Rattle.class_format.proofs.Readings.{same_value}

-- a width whose numbers and bytes lead to each other
pub record IsWide (w : Width) : Type 0 where
  pub len : (n : ℕ) → length (to_be_bytes w n) ≡ byte_len w
  pub back : (bytes : List ℕ) → length bytes ≡ byte_len w → IsBytes bytes → to_be_bytes w (from_be_bytes w bytes) ≡ bytes
  pub again : (n : ℕ) → n < 2 ^ (8 * byte_len w) → from_be_bytes w (to_be_bytes w n) ≡ n
  pub below : (bytes : List ℕ) → IsBytes bytes → from_be_bytes w bytes < 2 ^ (8 * byte_len w)

one_byte : (bytes : List ℕ) → length bytes ≡ 1 → IsBytes bytes → to_be_bytes w8 (from_be_bytes w8 bytes) ≡ bytes
one_byte [] e h = absurd (omega arith)
one_byte (b ∷ []) e h = ap (λ (n : ℕ). n ∷ []) (omega (arith, h 0))
one_byte (b ∷ c ∷ bytes) e h = absurd (omega arith)

pub wide8 : IsWide w8
wide8 = record {
  len = λ n. refl;
  back = one_byte;
  again = λ n lt. omega arith;
  below = λ bytes fits. omega (arith, fits 0);
}

pub wide16 : IsWide w16
wide16 = record {
  len = λ n. refl;
  back = λ bytes len fits. be_bytes_2 bytes _ len fits refl;
  again = λ n lt. from_be_bytes-to_be_bytes_2 n lt;
  below = λ bytes fits. omega (arith, fits 0, fits 1);
}

pub wide32 : IsWide w32
wide32 = record {
  len = λ n. refl;
  back = λ bytes len fits. be_bytes_4 bytes _ len fits refl;
  again = λ n lt. from_be_bytes-to_be_bytes_4 n lt;
  below = λ bytes fits. omega (arith, fits 0, fits 1, fits 2, fits 3);
}

pub wide64 : IsWide w64
wide64 = record {
  len = λ n. refl;
  back = λ bytes len fits. be_bytes_8 bytes _ len fits refl;
  again = λ n lt. from_be_bytes-to_be_bytes_8 n lt;
  below = λ bytes fits. omega (arith, fits 0, fits 1, fits 2, fits 3, fits 4, fits 5, fits 6, fits 7);
}

past : (n : ℕ) (bytes : List ℕ) (i : ℕ) → n ≤ i → length (take n bytes) ≤ i
past n bytes i le = omega (arith, length-take n bytes)

IsBytes-take : (n : ℕ) (bytes : List ℕ) → IsBytes bytes → IsBytes (take n bytes)
IsBytes-take n bytes h i =
    elim (cases_lt i n) [
      | inl lt ↦ rw (get_or-take n bytes i 0 lt) (h i)
      | inr le ↦ omega (arith, get_or_past (take n bytes) i 0 (past n bytes i le))
    ]

-- a test that did not fail
tested_ok : {A : Type 0} (b : Bool) (d : Miss) (x y : A) → cond b (Err d) (Ok x) ≡ Ok y → (b ≡ false) × (x ≡ y)
tested_ok true d x y e = absurd cc
tested_ok false d x y e = (refl, same_value {E = Miss} x y e)

number_back : (cut : ℕ) (w : Width) → IsWide w → (n : ℕ) (rest : List ℕ) → ltb n (2 ^ (8 * byte_len w)) ≡ true → (number_format cut w).read (to_be_bytes w n ++ rest) ≡ Ok (n, rest)
number_back cut w wide n rest lt =
    let bytes = to_be_bytes w n in
    let len = wide.len n in
    let k : byte_len w ≤ length (bytes ++ rest) = omega (arith, length-append bytes rest) in
    rw (le-ltb _ _ k, take_at bytes rest (byte_len w) len, drop_at bytes rest (byte_len w) len, wide.again n (ltb-true _ _ lt)) refl

number_taken : (cut : ℕ) (w : Width) → IsWide w → (bytes : List ℕ) (n : ℕ) (rest : List ℕ) → IsBytes bytes → (number_format cut w).read bytes ≡ Ok (n, rest) → Begins (number_format cut w) bytes n rest
number_taken cut w wide bytes n rest h e =
    let t = tested_ok (ltb (length bytes) (byte_len w)) _ _ _ e in
    let len : length (take (byte_len w) bytes) ≡ byte_len w = length-take-le (byte_len w) bytes (ltb-false _ _ t.0) in
    let front = IsBytes-take (byte_len w) bytes h in
    let parts : bytes ≡ to_be_bytes w (from_be_bytes w (take (byte_len w) bytes)) ++ drop (byte_len w) bytes = rw (wide.back _ len front) (sym (take-append-drop (byte_len w) bytes)) in
    let P : ℕ × List ℕ → Type 0 = λ x. Begins (number_format cut w) bytes x.0 x.1 in
    subst P t.1 (record { fits = lt-ltb _ _ (wide.below _ front); spelled = parts })

pub number_law : (cut : ℕ) (w : Width) → IsWide w → IsFormat (number_format cut w)
number_law cut w wide = record { back = number_back cut w wide; taken = number_taken cut w wide }

raw_back : (cut n : ℕ) (bytes rest : List ℕ) → eqb (length bytes) n ≡ true → (raw cut n).read (bytes ++ rest) ≡ Ok (bytes, rest)
raw_back cut n bytes rest e =
    let len = eqb-true _ _ e in
    let k : n ≤ length (bytes ++ rest) = omega (arith, length-append bytes rest) in
    rw (le-ltb _ _ k, take_at bytes rest n len, drop_at bytes rest n len) refl

raw_taken : (cut n : ℕ) (bytes front rest : List ℕ) → IsBytes bytes → (raw cut n).read bytes ≡ Ok (front, rest) → Begins (raw cut n) bytes front rest
raw_taken cut n bytes front rest h e =
    let t = tested_ok (ltb (length bytes) n) _ _ _ e in
    let P : List ℕ × List ℕ → Type 0 = λ x. Begins (raw cut n) bytes x.0 x.1 in
    subst P t.1 (record { fits = eq-eqb _ _ (length-take-le n bytes (ltb-false _ _ t.0)); spelled = sym (take-append-drop n bytes) })

pub raw_law : (cut n : ℕ) → IsFormat (raw cut n)
raw_law cut n = record { back = raw_back cut n; taken = raw_taken cut n }

nothing_taken : (bytes : List ℕ) (u : Unit {0}) (rest : List ℕ) → IsBytes bytes → nothing.read bytes ≡ Ok (u, rest) → Begins nothing bytes u rest
nothing_taken bytes u rest h e =
    let P : Unit {0} × List ℕ → Type 0 = λ x. Begins nothing bytes x.0 x.1 in
    subst P (same_value {E = Miss} (tt, bytes) (u, rest) e) (record { fits = refl; spelled = refl })

pub nothing_law : IsFormat nothing
nothing_law = record { back = λ u rest e. refl; taken = nothing_taken }

pub refused_law : {A : Type 0} (kind before : ℕ) → IsFormat {A = A} (refused_format kind before)
refused_law kind before = record { back = λ a rest e. absurd cc; taken = λ bytes a rest h e. absurd cc }
