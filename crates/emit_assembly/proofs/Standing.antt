-- Entries that can stand in a class file, one after the other.
use Rattle.std.proofs.Common.{◌≡◌, ℕ, ℤ, ◌*◌, ◌^◌, ◌<◌, ◌≤◌, Bool, true, false, cond, leb, ltb, List, [], ◌∷◌, ◌++◌, length, refl, arith}
use Rattle.std.specs.Int.{Width, w32, w64, byte_len, cast_signed}
use Rattle.std.proofs.lemmas.Bool.{and_parts, and_from, leb-true, le-leb, lt-ltb}
use Rattle.std.proofs.lemmas.List.{length-append}
use Rattle.class_definition.specs.Kinds.{cut, index}
use Rattle.class_definition.specs.Format.{chain_fits, mapped, signed, refused_format}
use Rattle.class_format.proofs.Signed.{IsSigned, signed32, signed64}
use Rattle.class_definition.specs.declared.entry.Entry.{Entry}
use Rattle.class_definition.specs.declared.entry.Entry.TheVariants.{Utf8, Integer, Long, LongRest, ClassName, Text, FieldRef, MethodRef, NameAnd}
use Rattle.class_definition.specs.PoolEntries.{entry, slot, is_long_entry, long_entry}
use Rattle.constant_pool.specs.Slots.{slots_of_entry}
use Rattle.emit_assembly.specs.Assembling.{can_stand}

long-fits : (n : ℤ) (b c : Bool) → (b ≡ true → c ≡ true) → (cond b (mapped Long long_entry (signed cut w64)) (refused_format index 1)).fits (Long n) ≡ true
    → (cond c (mapped Long long_entry (signed cut w64)) (refused_format index 1)).fits (Long n) ≡ true
long-fits n false c more fits = absurd cc
long-fits n true c more fits = rw (more refl) fits

-- a slot with more to come
fits-before : (after_long : Bool) (few many : ℕ) (e : Entry) → few ≤ many → (slot after_long few).fits e ≡ true → (slot after_long many).fits e ≡ true
unfolding entry
fits-before true few many e more fits = fits
fits-before false few many (Utf8 cs) more fits = fits
fits-before false few many (Integer n) more fits = fits
fits-before false few many (Long n) more fits = long-fits n (leb 1 few) (leb 1 many) (λ some. le-leb 1 many (omega (arith, leb-true 1 few some))) fits
fits-before false few many LongRest more fits = fits
fits-before false few many (ClassName n) more fits = fits
fits-before false few many (Text n) more fits = fits
fits-before false few many (FieldRef n m) more fits = fits
fits-before false few many (MethodRef n m) more fits = fits
fits-before false few many (NameAnd n m) more fits = fits

abbrev pub in_slots : Bool → List Entry → Bool
in_slots after_long es = chain_fits slot (λ _ e. is_long_entry e) after_long es

-- a Long does not stand last
no_long-last : (after_long : Bool) (e : Entry) → (slot after_long 0).fits e ≡ true → is_long_entry e ≡ false
unfolding entry
no_long-last after_long (Utf8 cs) fits = refl
no_long-last after_long (Integer n) fits = refl
no_long-last true (Long n) fits = absurd cc
no_long-last false (Long n) fits = absurd cc
no_long-last after_long LongRest fits = refl
no_long-last after_long (ClassName n) fits = refl
no_long-last after_long (Text n) fits = refl
no_long-last after_long (FieldRef n m) fits = refl
no_long-last after_long (MethodRef n m) fits = refl
no_long-last after_long (NameAnd n m) fits = refl

pub slots-more : (after_long : Bool) (old behind : List Entry) → (length old ≡ 0 → after_long ≡ false) → in_slots after_long old ≡ true → in_slots false behind ≡ true
    → in_slots after_long (old ++ behind) ≡ true
slots-more after_long [] behind first fits more = let no : after_long ≡ false = first refl in rw no more
slots-more after_long (e ∷ old) behind first fits more =
    let p = and_parts ((slot after_long (length old)).fits e) (in_slots (is_long_entry e) old) fits in
    let longer : length old ≤ length (old ++ behind) = omega (arith, length-append old behind) in
    let last : length old ≡ 0 → is_long_entry e ≡ false = λ none. no_long-last after_long e (rw none at p.0) in
    and_from ((slot after_long (length (old ++ behind))).fits e) (in_slots (is_long_entry e) (old ++ behind))
    (fits-before after_long (length old) (length (old ++ behind)) e longer p.0) (slots-more (is_long_entry e) old behind last p.1 more)

pub stand-more : (old behind : List Entry) → can_stand old ≡ true → can_stand behind ≡ true → can_stand (old ++ behind) ≡ true
stand-more old behind fits more = slots-more false old behind (λ _. refl) fits more

-- ---- constants can stand

signed-fits : (w : Width) → IsSigned w → (bits : ℕ) → bits < 2 ^ (8 * byte_len w) → (signed cut w).fits (cast_signed w bits) ≡ true
signed-fits w is bits small = rw (is.fit bits small, is.bits bits small) (lt-ltb bits (2 ^ (8 * byte_len w)) small)

pub int-stands : (bits : ℕ) → bits < 2 ^ 32 → can_stand (slots_of_entry (Integer (cast_signed w32 bits))) ≡ true
unfolding entry
int-stands bits small = and_from ((signed cut w32).fits (cast_signed w32 bits)) true (signed-fits w32 signed32 bits small) refl

pub long-stands : (bits : ℕ) → bits < 2 ^ 64 → can_stand (slots_of_entry (Long (cast_signed w64 bits))) ≡ true
unfolding entry
long-stands bits small = and_from ((signed cut w64).fits (cast_signed w64 bits)) true (signed-fits w64 signed64 bits small) refl

pub text-stands : (text : ℕ) → text < 65536 → can_stand (slots_of_entry (Text text)) ≡ true
unfolding entry
text-stands text small = and_from (ltb text 65536) true (lt-ltb text 65536 small) refl
