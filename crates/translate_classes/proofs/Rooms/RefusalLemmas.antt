-- Where there is room and all is lawful, a class builder refuses nothing.
use Rattle.std.proofs.Common.{◌≡◌, ℕ, ◌+◌, ◌≤◌, ◌<◌, ◌⊎◌, inl, inr, Bool, true, false, List, [], ◌∷◌, length, refl, sym, ◌∙◌, arith}
use Rattle.std.specs.Prelude.{◌&&◌, not}
use Rattle.std.specs.List.{list_any}
use Rattle.std.proofs.lemmas.Bool.{and_parts, or_from, false≢true}
use Rattle.class_definition.specs.declared.entry.Entry.{Entry}
use Rattle.emit_classes.specs.Built.{LacksRoom, is_long_text}
use Rattle.translate_classes.specs.Room.{is_short}

pub either-way : (b : Bool) → b ≡ true → b ≡ false → ⊥
either-way b h g = false≢true (sym g ∙ h)

pub not-long : (b : Bool) → not b ≡ true → b ≡ false
not-long true is = absurd (false≢true is)
not-long false is = refl

pub fits : (pool : List Entry) (slots : ℕ) (texts : List (List ℕ)) → length pool + slots ≤ 65534 → list_any is_long_text texts ≡ false
    → LacksRoom pool slots texts → ⊥
fits pool slots texts room short (inl full) = omega (arith, room, full)
fits pool slots texts room short (inr long) = either-way (list_any is_long_text texts) long short

pub one-fits : (pool : List Entry) (slots : ℕ) (text : List ℕ) → length pool + slots ≤ 65534 → is_long_text text ≡ false
    → LacksRoom pool slots (text ∷ []) → ⊥
one-fits pool slots text room short lacks =
    fits pool slots (text ∷ []) room (or_from (is_long_text text) false short refl) lacks

pub name-fits : (pool : List Entry) (slots : ℕ) (name : List ℕ) (lawful : Bool) → length pool + slots ≤ 65534
    → (lawful && is_short name) ≡ true → LacksRoom pool slots (name ∷ []) → ⊥
name-fits pool slots name lawful room is lacks =
    one-fits pool slots name room (not-long (is_long_text name) (and_parts lawful (is_short name) is).1) lacks

pub member-fits : (pool : List Entry) (slots : ℕ) (name descriptor : List ℕ) (lawful : Bool) → length pool + slots ≤ 65534
    → (lawful && (is_short name && is_short descriptor)) ≡ true → LacksRoom pool slots (name ∷ descriptor ∷ []) → ⊥
member-fits pool slots name descriptor lawful room is lacks =
    let short = and_parts (is_short name) (is_short descriptor) (and_parts lawful (is_short name && is_short descriptor) is).1 in
    fits pool slots (name ∷ descriptor ∷ []) room
    (or_from (is_long_text name) (list_any is_long_text (descriptor ∷ [])) (not-long (is_long_text name) short.0)
    (or_from (is_long_text descriptor) false (not-long (is_long_text descriptor) short.1) refl)) lacks

-- a member, where there are few
pub added-fits : (members : ℕ) (pool : List Entry) (slots : ℕ) (name descriptor : List ℕ) (lawful : Bool) → members < 65535
    → length pool + slots ≤ 65534 → (lawful && (is_short name && is_short descriptor)) ≡ true
    → (65535 ≤ members) ⊎ LacksRoom pool slots (name ∷ descriptor ∷ []) → ⊥
added-fits members pool slots name descriptor lawful few room is (inl many) = omega (arith, few, many)
added-fits members pool slots name descriptor lawful few room is (inr lacks) = member-fits pool slots name descriptor lawful room is lacks
