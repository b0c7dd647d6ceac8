-- Modified UTF-8 in both directions.
use Rattle.std.proofs.Common.{◌≡◌, ℕ, ◌+◌, ◌-◌, ◌*◌, ◌/◌, ◌%◌, ◌<◌, ◌≤◌, ◌&&◌, ◌||◌, Bool, true, false, cond, ltb, leb, eqb, List, [], ◌∷◌, ◌++◌, Option, Some, None, refl, sym, ap, subst, ◌∙◌, append_assoc, arith, inl, inr, ◌⊎◌, ⊎_elim}
use Rattle.std.specs.Prelude.{option_map}
use Rattle.std.proofs.lemmas.Bool.{ltb-true, lt-ltb, le-ltb, leb-true, le-leb, eqb-true, and_parts, and_from, cases_lt, or_cases}
use Rattle.std.proofs.lemmas.Bool.Decides.{nat_tests}
use Rattle.std.proofs.lemmas.List.Concat.{flat_map-cons}
use Rattle.class_format.proofs.Parts.{IsParser}
use Rattle.class_definition.specs.declared.partial.Partial.{Partial}
use Rattle.class_definition.specs.declared.partial.Partial.TheVariants.{Start, Two, Three, Last}
use Rattle.class_definition.specs.declared.step.Step.{Step}
use Rattle.class_definition.specs.declared.step.Step.TheVariants.{More, Character, Wrong}
use Rattle.constant_pool.specs.Answer.{whole_text}
use Rattle.class_definition.specs.Utf8.{character_bytes, text_bytes, has_16_bit_characters, first_step, low_six_bits, two_bytes, three_bytes, gone_on, step, resumed, text_from, text_of_bytes, IsPartial}

-- ---- what is written is found

one_step : (c : ℕ) → 1 ≤ c → c < 0x80 → first_step c ≡ Character c
one_step c low high = grind (arith, nat_tests)

lead_two : (c : ℕ) → c < 0x800 → first_step (0xC0 + c / 64) ≡ More (Two (c / 64))
lead_two c high = grind (arith, nat_tests)

lead_three : (c : ℕ) → c < 0x1_0000 → first_step (0xE0 + c / 4096) ≡ More (Three (c / 4096))
lead_three c high = grind (arith, nat_tests)

low_of : (n : ℕ) → n < 64 → low_six_bits (0x80 + n) ≡ Some n
low_of n high = grind (arith, nat_tests)

two_whole : (c : ℕ) → (c ≡ 0) ⊎ (0x80 ≤ c) → two_bytes c ≡ Character c
two_whole c h = ⊎_elim (λ e. grind (arith, nat_tests)) (λ e. grind (arith, nat_tests)) h

three_whole : (c : ℕ) → 0x800 ≤ c → three_bytes c ≡ Character c
three_whole c h = grind (arith, nat_tests)

two_parts : (c : ℕ) → c / 64 * 64 + c % 64 ≡ c
two_parts c = omega arith

-- one character is found, and then the rest
found_one : (c : ℕ) (bytes : List ℕ) → 1 ≤ c → c < 0x80 → text_from Start (c ∷ bytes) ≡ option_map (λ cs. c ∷ cs) (text_from Start bytes)
unfolding text_from
found_one c bytes low high = rw (one_step c low high) refl

found_two : (c : ℕ) (bytes : List ℕ) → (c ≡ 0) ⊎ (0x80 ≤ c) → c < 0x800
    → text_from Start ((0xC0 + c / 64) ∷ (0x80 + c % 64) ∷ bytes) ≡ option_map (λ cs. c ∷ cs) (text_from Start bytes)
unfolding text_from
found_two c bytes low high = rw (lead_two c high, low_of (c % 64) (omega arith), two_parts c, two_whole c low) refl

three_parts : (c : ℕ) → (c / 4096 * 64 + c / 64 % 64) * 64 + c % 64 ≡ c
three_parts c = omega arith

found_three : (c : ℕ) (bytes : List ℕ) → 0x800 ≤ c → c < 0x1_0000
    → text_from Start ((0xE0 + c / 4096) ∷ (0x80 + c / 64 % 64) ∷ (0x80 + c % 64) ∷ bytes) ≡ option_map (λ cs. c ∷ cs) (text_from Start bytes)
unfolding text_from
found_three c bytes low high =
    rw (lead_three c high, low_of (c / 64 % 64) (omega arith), low_of (c % 64) (omega arith), three_parts c, three_whole c low) refl

character_is_one : (c : ℕ) → 1 ≤ c → c < 0x80 → character_bytes c ≡ c ∷ []
character_is_one c low high = rw (le-leb 1 c low, lt-ltb c 0x80 high) refl

not_one : (c : ℕ) → (c ≡ 0) ⊎ (0x80 ≤ c) → (leb 1 c && ltb c 0x80) ≡ false
not_one c h = ⊎_elim (λ e. grind (arith, nat_tests)) (λ e. grind (arith, nat_tests)) h

character_is_two : (c : ℕ) → (c ≡ 0) ⊎ (0x80 ≤ c) → c < 0x800 → character_bytes c ≡ (0xC0 + c / 64) ∷ (0x80 + c % 64) ∷ []
character_is_two c low high = rw (not_one c low, lt-ltb c 0x800 high) refl

character_is_three : (c : ℕ) → 0x800 ≤ c → character_bytes c ≡ (0xE0 + c / 4096) ∷ (0x80 + c / 64 % 64) ∷ (0x80 + c % 64) ∷ []
character_is_three c low = rw (not_one c (inr (omega arith)), le-ltb c 0x800 low) refl

sized : (c : ℕ) → ((1 ≤ c) × (c < 0x80)) ⊎ ((((c ≡ 0) ⊎ (0x80 ≤ c)) × (c < 0x800)) ⊎ (0x800 ≤ c))
sized c =
    elim (cases_lt c 0x800) [
      | inr le ↦ inr (inr le)
      | inl lt ↦ elim (cases_lt c 0x80) [
        | inr le ↦ inr (inl (inr le, lt))
        | inl low ↦ elim (cases_lt 0 c) [ inl some ↦ inl (omega arith, low) | inr none ↦ inr (inl (inl (omega arith), lt)) ]
      ]
    ]

finds_character : (c : ℕ) (bytes : List ℕ) → c < 0x1_0000 → text_from Start (character_bytes c ++ bytes) ≡ option_map (λ cs. c ∷ cs) (text_from Start bytes)
finds_character c bytes high =
    elim (sized c) [
      | inl one ↦ rw (character_is_one c one.0 one.1) (found_one c bytes one.0 one.1)
      | inr (inl two) ↦ rw (character_is_two c two.0 two.1) (found_two c bytes two.0 two.1)
      | inr (inr three) ↦ rw (character_is_three c three) (found_three c bytes three high)
    ]

pub finds_text : (cs : List ℕ) → has_16_bit_characters cs ≡ true → text_of_bytes (text_bytes cs) ≡ Some cs
unfolding text_from
finds_text [] e = refl
finds_text (c ∷ cs) e =
    let p = and_parts (ltb c 0x1_0000) (has_16_bit_characters cs) e in
    rw (flat_map-cons character_bytes c cs) (finds_character c (text_bytes cs) (ltb-true _ _ p.0) ∙ rw (finds_text cs p.1) refl)

-- ---- what is found was written

-- the bytes of the part of a character that was read
abbrev pub partial_bytes : Partial → List ℕ
partial_bytes Start = []
partial_bytes (Two high) = (0xC0 + high) ∷ []
partial_bytes (Three high) = (0xE0 + high) ∷ []
partial_bytes (Last high) = (0xE0 + high / 64) ∷ (0x80 + high % 64) ∷ []

-- what a step's answer says of the bytes so far
abbrev Stepped : List ℕ → Step → Type 0
Stepped bytes (More next) = (bytes ≡ partial_bytes next) × IsPartial next
Stepped bytes (Character c) = (bytes ≡ character_bytes c) × (c < 0x1_0000)
Stepped bytes Wrong = Unit {0}

chosen_step : (bytes : List ℕ) (b : Bool) (x y : Step) → (b ≡ true → Stepped bytes x) → (b ≡ false → Stepped bytes y) → Stepped bytes (cond b x y)
chosen_step bytes true x y p q = p refl
chosen_step bytes false x y p q = q refl

within : (m n b : ℕ) → (leb m b && ltb b n) ≡ true → (m ≤ b) × (b < n)
within m n b e = let p = and_parts (leb m b) (ltb b n) e in (leb-true _ _ p.0, ltb-true _ _ p.1)

first_stepped : (b : ℕ) → Stepped (b ∷ []) (first_step b)
first_stepped b =
    chosen_step (b ∷ []) (leb 1 b && ltb b 0x80) _ _ (λ e. let p = within 1 0x80 b e in (sym (character_is_one b p.0 p.1), omega arith))
    (λ _. chosen_step (b ∷ []) (leb 0xC0 b && ltb b 0xE0) _ _ (λ e. let p = within 0xC0 0xE0 b e in (ap (λ (n : ℕ). n ∷ []) (omega arith), omega arith))
    (λ _. chosen_step (b ∷ []) (leb 0xE0 b && ltb b 0xF0) _ _ (λ e. let p = within 0xE0 0xF0 b e in (ap (λ (n : ℕ). n ∷ []) (omega arith), omega arith)) (λ _. tt)))

cell2 : (a b c d : ℕ) → a ≡ c → b ≡ d → a ∷ b ∷ [] ≡ c ∷ d ∷ []
cell2 a b c d e f = rw (e, f) refl

cell3 : (a b c x y z : ℕ) → a ≡ x → b ≡ y → c ≡ z → a ∷ b ∷ c ∷ [] ≡ x ∷ y ∷ z ∷ []
cell3 a b c x y z e f g = rw (e, f, g) refl

zero_or : (c : ℕ) → (eqb c 0 || leb 0x80 c) ≡ true → (c ≡ 0) ⊎ (0x80 ≤ c)
zero_or c e = elim (or_cases (eqb c 0) (leb 0x80 c) e) [ inl p ↦ inl (eqb-true _ _ p) | inr p ↦ inr (leb-true _ _ p) ]

two_stepped : (high low : ℕ) → high < 32 → low < 64 → Stepped ((0xC0 + high) ∷ (0x80 + low) ∷ []) (two_bytes (high * 64 + low))
two_stepped high low a b =
    chosen_step ((0xC0 + high) ∷ (0x80 + low) ∷ []) (eqb (high * 64 + low) 0 || leb 0x80 (high * 64 + low)) _ _
    (λ e. (cell2 _ _ _ _ (omega arith) (omega arith) ∙ sym (character_is_two (high * 64 + low) (zero_or (high * 64 + low) e) (omega arith)), omega arith))
    (λ _. tt)

three_stepped : (high low : ℕ) → high < 1024 → low < 64
    → Stepped ((0xE0 + high / 64) ∷ (0x80 + high % 64) ∷ (0x80 + low) ∷ []) (three_bytes (high * 64 + low))
three_stepped high low a b =
    chosen_step ((0xE0 + high / 64) ∷ (0x80 + high % 64) ∷ (0x80 + low) ∷ []) (leb 0x800 (high * 64 + low)) _ _
    (λ e. (cell3 _ _ _ _ _ _ (omega arith) (omega arith) (omega arith) ∙ sym (character_is_three (high * 64 + low) (leb-true _ _ e)), omega arith))
    (λ _. tt)

more_stepped : (high low : ℕ) → high < 16 → low < 64 → Stepped ((0xE0 + high) ∷ (0x80 + low) ∷ []) (More (Last (high * 64 + low)))
more_stepped high low a b = (cell2 _ _ _ _ (omega arith) (omega arith), omega arith)

gone_stepped : (front : List ℕ) (b : ℕ) (f : ℕ → Step) → ((low : ℕ) → low < 64 → Stepped (front ++ (0x80 + low) ∷ []) (f low)) → Stepped (front ++ b ∷ []) (gone_on f (low_six_bits b))
gone_stepped front b f each =
    (elim (leb 0x80 b && ltb b 0xC0) as (λ t. (leb 0x80 b && ltb b 0xC0) ≡ t → Stepped (front ++ b ∷ []) (gone_on f (cond t (Some (b - 0x80)) None))) [
      | true ↦ λ e. let p = within 0x80 0xC0 b e in let same : 0x80 + (b - 0x80) ≡ b = omega arith in
          subst (λ (n : ℕ). Stepped (front ++ n ∷ []) (f (b - 0x80))) same (each (b - 0x80) (omega arith))
      | false ↦ λ e. tt
    ]) refl

stepped : (partial : Partial) (b : ℕ) → IsPartial partial → Stepped (partial_bytes partial ++ b ∷ []) (step partial b)
stepped Start b h = first_stepped b
stepped (Two high) b h = gone_stepped ((0xC0 + high) ∷ []) b (λ low. two_bytes (high * 64 + low)) (λ low lt. two_stepped high low h lt)
stepped (Three high) b h = gone_stepped ((0xE0 + high) ∷ []) b (λ low. More (Last (high * 64 + low))) (λ low lt. more_stepped high low h lt)
stepped (Last high) b h = gone_stepped ((0xE0 + high / 64) ∷ (0x80 + high % 64) ∷ []) b (λ low. three_bytes (high * 64 + low)) (λ low lt. three_stepped high low h lt)

pub one_more : (partial : Partial) (b : ℕ) (bytes : List ℕ) → text_from partial (b ∷ bytes) ≡ resumed (λ next. text_from next bytes) (step partial b)
unfolding text_from
one_more Start b bytes = refl
one_more (Two high) b bytes = refl
one_more (Three high) b bytes = refl
one_more (Last high) b bytes = refl

mapped_some : (f : List ℕ → List ℕ) (o : Option (List ℕ)) (cs : List ℕ) → option_map f o ≡ Some cs → (ds : List ℕ) × (o ≡ Some ds) × (f ds ≡ cs)
mapped_some f None cs e = absurd cc
mapped_some f (Some ds) cs e = (ds, refl, cc)

abbrev IsFound : Partial → List ℕ → List ℕ → Type 0
IsFound partial bytes cs = (has_16_bit_characters cs ≡ true) × (partial_bytes partial ++ bytes ≡ text_bytes cs)

after_step : (partial : Partial) (b : ℕ) (bytes : List ℕ) (s : Step) (cs : List ℕ) → Stepped (partial_bytes partial ++ b ∷ []) s
    → ((next : Partial) (ds : List ℕ) → IsPartial next → text_from next bytes ≡ Some ds → IsFound next bytes ds)
    → resumed (λ next. text_from next bytes) s ≡ Some cs → IsFound partial (b ∷ bytes) cs
after_step partial b bytes (More next) cs so each e =
    let p = each next cs so.1 e in
    (p.0, sym (append_assoc (partial_bytes partial) (b ∷ []) bytes) ∙ ap (λ (xs : List ℕ). xs ++ bytes) so.0 ∙ p.1)
after_step partial b bytes (Character c) cs so each e =
    let m = mapped_some (λ ds. c ∷ ds) (text_from Start bytes) cs e in
    let p = each Start m.0 tt m.1 in
    let q : partial_bytes partial ++ b ∷ bytes ≡ text_bytes (c ∷ m.0) =
    sym (append_assoc (partial_bytes partial) (b ∷ []) bytes) ∙ ap (λ (xs : List ℕ). xs ++ bytes) so.0 ∙ ap (λ (xs : List ℕ). character_bytes c ++ xs) p.1 ∙ sym (flat_map-cons character_bytes c m.0) in
    subst (λ (ds : List ℕ). IsFound partial (b ∷ bytes) ds) m.2 (and_from (ltb c 0x1_0000) (has_16_bit_characters m.0) (lt-ltb _ _ so.1) p.0, q)
after_step partial b bytes Wrong cs so each e = absurd cc

found_nothing : (cs : List ℕ) → text_from Start [] ≡ Some cs → IsFound Start [] cs
unfolding text_from
found_nothing [] e = (refl, refl)
found_nothing (c ∷ cs) e = absurd cc

abbrev IsBegun : Partial → Type 0
IsBegun Start = ⊥
IsBegun (Two high) = Unit {0}
IsBegun (Three high) = Unit {0}
IsBegun (Last high) = Unit {0}

found_none : (partial : Partial) (cs : List ℕ) → IsBegun partial → text_from partial [] ≡ Some cs → ⊥
unfolding text_from
found_none Start cs h e = h
found_none (Two high) cs h e = cc
found_none (Three high) cs h e = cc
found_none (Last high) cs h e = cc

found_from : (partial : Partial) (bytes cs : List ℕ) → IsPartial partial → text_from partial bytes ≡ Some cs → IsFound partial bytes cs
found_from Start [] cs h e = found_nothing cs e
found_from (Two high) [] cs h e = absurd (found_none (Two high) cs tt e)
found_from (Three high) [] cs h e = absurd (found_none (Three high) cs tt e)
found_from (Last high) [] cs h e = absurd (found_none (Last high) cs tt e)
found_from partial (b ∷ bytes) cs h e =
    after_step partial b bytes (step partial b) cs (stepped partial b h) (λ next ds so is. found_from next bytes ds so is) (sym (one_more partial b bytes) ∙ e)

pub text_parser : IsParser text_of_bytes has_16_bit_characters text_bytes
text_parser = record {
  finds = finds_text;
  found_is = λ bytes cs e. let p = found_from Start bytes cs tt e in (p.0, sym p.1);
}

-- ---- one more byte of a text

pub taken_more : (front : List ℕ) (partial next : Partial) (b : ℕ) (rest : List ℕ) → step partial b ≡ More next
    → whole_text front (text_from next rest) ≡ whole_text front (text_from partial (b ∷ rest))
taken_more front partial next b rest e = rw (one_more partial b rest, e) refl

regrouped : (front : List ℕ) (c : ℕ) (o : Option (List ℕ)) → whole_text (front ++ c ∷ []) o ≡ whole_text front (option_map (λ cs. c ∷ cs) o)
regrouped front c None = refl
regrouped front c (Some cs) = ap (λ (xs : List ℕ). Some xs) (append_assoc front (c ∷ []) cs)

pub taken_character : (front : List ℕ) (partial : Partial) (c b : ℕ) (rest : List ℕ) → step partial b ≡ Character c
    → whole_text (front ++ c ∷ []) (text_from Start rest) ≡ whole_text front (text_from partial (b ∷ rest))
taken_character front partial c b rest e = rw (one_more partial b rest, e) (regrouped front c (text_from Start rest))

pub taken_wrong : (front : List ℕ) (partial : Partial) (b : ℕ) (rest : List ℕ) → step partial b ≡ Wrong
    → None ≡ whole_text front (text_from partial (b ∷ rest))
taken_wrong front partial b rest e = rw (one_more partial b rest, e) refl
