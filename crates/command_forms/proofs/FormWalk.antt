-- `clap`'s walk over formed words gives what the definition gives.
use Rattle.std.proofs.Common.{◌≡◌, ◌∙◌, ◌<◌, ◌≤◌, ◌+◌, ◌&&◌, ◌||◌, ℕ, Bool, cond, true, false, zero, suc, refl, sym, ap, ap₂, subst, arith, List, [], ◌∷◌, ◌++◌, map, length, min, Option, Some, None, option_map, inl, inr, true≢false, append-nil}
use Rattle.std.specs.Prelude.{slice_get, option_and_then, ◌==◌, if◌then◌else◌}
use Rattle.std.specs.List.{fold, list_all, list_any, before_first, after_first}
use Rattle.std.specs.Str.{bytes_eq}
use Rattle.std.proofs.lemmas.List.{map-append}
use Rattle.std.proofs.lemmas.Bool.{eqb-true}
use Rattle.nv_values.specs.Names.{Text}
use Rattle.command_forms.specs.Word.{has_some_value, is_equals, is_formed}
use Rattle.command_forms.specs.Given.{Form, Given, FormReading, given_after, given_more, is_given, is_among_texts, value_read}
use Rattle.command_forms.proofs.FormRules.{FindsId, built_option, built_rules, built_shape, built_word, by_id, by_index, by_long, found_long, text_is_itself, value_rule}
use Rattle.clap.specs.Lexer.{usize_max}
use Rattle.clap.specs.Kinds.{Kinds, or_else}
use Rattle.clap.specs.Walk.{Held, Row, Rule, Waiting, Walk, arg_by_index, arg_by_long, at_row, has_row, idle, option, settled_rows, to_positional, used, value, walked, without, with_values, more_values, long_word, after_step}
use Rattle.clap.specs.Faults.{long_fault, settle_fault, step_fault, turn_fault, use_fault, walk_fault}
use Rattle.clap.specs.declared.builder.value_parser.Reading.TheVariants as reading
use Rattle.clap.specs.declared.parser.matches.ValueSource.TheVariants.{CommandLine}
use Rattle.clap.proofs.WalkLemmas.{list_any-map}

-- ---- rows

abbrev pub row_of_given : Given → Row
row_of_given g = record {
  id = g.name;
  values = g.text ∷ [];
  count = None;
  source = Some CommandLine;
  reading = reading.AsWritten;
}

abbrev pub rows_of_given : List Given → List Row
rows_of_given = map row_of_given

row_is_name : (n : Text) (gs : List Given) → has_row n (rows_of_given gs) ≡ is_given n gs
row_is_name n gs = sym (list_any-map (λ (r : Row). bytes_eq r.id n) row_of_given gs)

joins : (n : Text) (change : Row → List Row) (missing rows : List Row) → has_row n rows ≡ false → at_row n change missing rows ≡ rows ++ missing
joins n change missing [] none = refl
joins n change missing (r ∷ rows) none = go (bytes_eq r.id n) refl (joins n change missing rows)
  where
    go : (b : Bool) → bytes_eq r.id n ≡ b → (has_row n rows ≡ false → at_row n change missing rows ≡ rows ++ missing) → at_row n change missing (r ∷ rows) ≡ (r ∷ rows) ++ missing
    go true e rest = absurd (true≢false (simp e at none))
    go false e rest = simp e (ap (λ rs. r ∷ rs) (rest (simp e at none)))

-- a use of a name that has no row yet adds one
row_added : (n text : Text) (long : Option Text) (index : Option ℕ) (gs : List Given) → is_given n gs ≡ false
    → used (value_rule n long index) (text ∷ []) (rows_of_given gs) ≡ rows_of_given (gs ++ record { name = n; text = text } ∷ [])
row_added n text long index gs none =
    let no_row : has_row n (rows_of_given gs) ≡ false = row_is_name n gs ∙ none in
    let cleared : without n (rows_of_given gs) ≡ rows_of_given gs = joins n (λ _. []) [] (rows_of_given gs) no_row ∙ append-nil (rows_of_given gs) in
    ap (with_values n reading.AsWritten CommandLine (text ∷ [])) cleared
    ∙ joins n (more_values CommandLine (text ∷ [])) (row_of_given (record { name = n; text = text }) ∷ []) (rows_of_given gs) no_row ∙ sym (map-append row_of_given gs (record { name = n; text = text } ∷ []))

-- the use fails where there is one
use_passes : (n text : Text) (long : Option Text) (index : Option ℕ) (gs : List Given) → is_given n gs ≡ false
    → use_fault false (value_rule n long index) (text ∷ []) (rows_of_given gs) ≡ []
use_passes n text long index gs none =
    let no_row : has_row n (rows_of_given gs) ≡ false = row_is_name n gs ∙ none in
    simp no_row

use_fails : (n text : Text) (long : Option Text) (index : Option ℕ) (gs : List Given) → is_given n gs ≡ true
    → use_fault false (value_rule n long index) (text ∷ []) (rows_of_given gs) ≡ [] → ⊥
use_fails n text long index gs some =
    let row : has_row n (rows_of_given gs) ≡ true = row_is_name n gs ∙ some in
    simp row (λ e. cc)

-- ---- where the walk stands

abbrev pub held : List Row → Option (Text × List Text) → Held
held rows pending = record { rows = rows; pending = pending; skip = 0 }

abbrev pub at : List Row → Option (Text × List Text) → Waiting → ℕ → Walk
at rows pending waiting p = record { held = held rows pending; waiting = waiting; position = p; is_trailing = false; stopped = None }

-- a plain word, where no option waits
plain_turn : (c : List Rule) (rows : List Row) (pending : Option (Text × List Text)) (p b : ℕ) (bs : Text) → (b == 45) ≡ false
    → turn_fault (built_shape c) [] (at rows pending idle p) (b ∷ bs) ≡ step_fault (built_shape c) p (held rows pending) value
plain_turn c rows pending p b bs other = simp other

plain_walked : (c : List Rule) (rows : List Row) (pending : Option (Text × List Text)) (p b : ℕ) (bs : Text) → (b == 45) ≡ false
    → walked c [] (at rows pending idle p) (b ∷ bs) ≡ to_positional c (arg_by_index c p) (b ∷ bs) (at rows pending idle p) (held rows pending)
unfolding walked
plain_walked c rows pending p b bs other = simp other

-- ---- an option

pub or_else-nil : (k : Kinds) → or_else k [] ≡ k
or_else-nil [] = refl
or_else-nil (x ∷ xs) = refl

first_fails : (a b : Kinds) → (a ≡ [] → ⊥) → or_else a b ≡ [] → ⊥
first_fails [] b h e = h refl
first_fails (x ∷ xs) b h e = h e

-- the name and the value of an option's word
abbrev name_in_word : ℕ → Text → Text
name_in_word x xs = before_first is_equals (x ∷ xs)

abbrev value_in_word : ℕ → Text → Option Text
value_in_word x xs = if list_any is_equals (x ∷ xs) then Some (after_first is_equals (x ∷ xs)) else None

-- what `clap` says of an option's word of this name and value
abbrev named_turn : List Rule → Held → Waiting → ℕ → Text → Text → Option Text → Kinds
named_turn c h waiting p word n v =
    or_else (long_fault c false (arg_by_long c n) v h)
    (step_fault (built_shape c) p (long_word c waiting word n v h).0 (long_word c waiting word n v h).1)

abbrev named_walked : List Rule → Walk → Text → Text → Option Text → Walk
named_walked c w word n v = after_step c word w (long_word c w.waiting word n v w.held).0 (long_word c w.waiting word n v w.held).1

idle_turn : (c : List Rule) (rows : List Row) (pending : Option (Text × List Text)) (p x : ℕ) (xs : Text)
    → turn_fault (built_shape c) [] (at rows pending idle p) (45 ∷ 45 ∷ x ∷ xs)
    ≡ named_turn c (held rows pending) idle p (45 ∷ 45 ∷ x ∷ xs) (name_in_word x xs) (value_in_word x xs)
idle_turn c rows pending p x xs = refl

idle_walked : (c : List Rule) (rows : List Row) (pending : Option (Text × List Text)) (p x : ℕ) (xs : Text)
    → walked c [] (at rows pending idle p) (45 ∷ 45 ∷ x ∷ xs)
    ≡ named_walked c (at rows pending idle p) (45 ∷ 45 ∷ x ∷ xs) (name_in_word x xs) (value_in_word x xs)
unfolding walked
idle_walked c rows pending p x xs = refl

-- an option that the command lacks
unknown_fails : (c : List Rule) (h : Held) (waiting : Waiting) (p : ℕ) (word n : Text) (v : Option Text) → arg_by_long c n ≡ None
    → named_turn c h waiting p word n v ≡ [] → ⊥
unknown_fails c h waiting p word n v unknown = rw unknown (λ e. cc)

-- an option that the command has, where what went before fails
known_fails : (c : List Rule) (h : Held) (waiting : Waiting) (p : ℕ) (word n : Text) (v : Option Text) → arg_by_long c n ≡ Some (built_option n)
    → (settle_fault c false h ≡ [] → ⊥) → named_turn c h waiting p word n v ≡ [] → ⊥
known_fails c h waiting p word n None known fails = simp known (first_fails _ _ fails)
known_fails c h waiting p word n (Some v) known fails = simp known (first_fails _ _ (first_fails _ _ fails))

alone_turn : (c : List Rule) (h : Held) (waiting : Waiting) (p : ℕ) (word n : Text) → arg_by_long c n ≡ Some (built_option n)
    → named_turn c h waiting p word n None ≡ settle_fault c false h
alone_turn c h waiting p word n known = simp known (or_else-nil _)

alone_walked : (c : List Rule) (rows : List Row) (pending : Option (Text × List Text)) (p : ℕ) (word n : Text) → arg_by_long c n ≡ Some (built_option n)
    → named_walked c (at rows pending idle p) word n None ≡ at (settled_rows c pending rows) (Some (n, [])) (option n) p
alone_walked c rows pending p word n known = simp known

valued_turn : (c : List Rule) (h : Held) (waiting : Waiting) (p : ℕ) (word n v : Text) → arg_by_long c n ≡ Some (built_option n)
    → named_turn c h waiting p word n (Some v) ≡ or_else (settle_fault c false h) (use_fault false (built_option n) (v ∷ []) (settled_rows c h.pending h.rows))
valued_turn c h waiting p word n v known = simp known (or_else-nil _)

valued_walked : (c : List Rule) (rows : List Row) (pending : Option (Text × List Text)) (p : ℕ) (word n v : Text) → arg_by_long c n ≡ Some (built_option n)
    → named_walked c (at rows pending idle p) word n (Some v) ≡ at (used (built_option n) (v ∷ []) (settled_rows c pending rows)) None idle p
valued_walked c rows pending p word n v known = simp known

-- ---- a plain word

pub and_no : (b : Bool) → (b && false) ≡ false
and_no true = refl
and_no false = refl

positional_turn : (c : List Rule) (rows : List Row) (pending : Option (Text × List Text)) (p i : ℕ) (n : Text) → arg_by_index c p ≡ Some (built_word i n)
    → step_fault (built_shape c) p (held rows pending) value ≡ settle_fault c false (held rows pending)
positional_turn c rows pending p i n found = simp (found, and_no)

stray_turn : (c : List Rule) (rows : List Row) (pending : Option (Text × List Text)) (p : ℕ) → arg_by_index c p ≡ None
    → step_fault (built_shape c) p (held rows pending) value ≡ [] → ⊥
stray_turn c rows pending p none = simp none (λ e. cc)

positional_walked : (c : List Rule) (rows : List Row) (pending : Option (Text × List Text)) (p i : ℕ) (n word : Text) → arg_by_index c p ≡ Some (built_word i n)
    → to_positional c (arg_by_index c p) word (at rows pending idle p) (held rows pending) ≡ at (settled_rows c pending rows) (Some (n, word ∷ [])) idle (min (p + 1) usize_max)
positional_walked c rows pending p i n word found = simp (found, and_no)

-- the value of an option that waits
value_turn : (c : List Rule) (rows : List Row) (n : Text) (p b : ℕ) (bs : Text) → (b == 45) ≡ false
    → turn_fault (built_shape c) [] (at rows (Some (n, [])) (option n) p) (b ∷ bs) ≡ []
value_turn c rows n p b bs other = simp other

value_walked : (c : List Rule) (rows : List Row) (n : Text) (p b : ℕ) (bs : Text) → (b == 45) ≡ false → (f : FindsId c n)
    → walked c [] (at rows (Some (n, [])) (option n) p) (b ∷ bs) ≡ at rows (Some (n, (b ∷ bs) ∷ [])) idle p
unfolding walked
value_walked c rows n p b bs other f = simp (other, f.found, text_is_itself)

-- a pending value, settled
pending_rows : (c : List Rule) (n text : Text) (gs : List Given) → FindsId c n → is_given n gs ≡ false
    → settled_rows c (Some (n, text ∷ [])) (rows_of_given gs) ≡ rows_of_given (gs ++ record { name = n; text = text } ∷ [])
pending_rows c n text gs f none = simp f.found (row_added n text f.long f.index gs none)

pending_passes : (c : List Rule) (n text : Text) (gs : List Given) → FindsId c n → is_given n gs ≡ false
    → settle_fault c false (held (rows_of_given gs) (Some (n, text ∷ []))) ≡ []
pending_passes c n text gs f none = simp f.found (use_passes n text f.long f.index gs none)

pending_fails : (c : List Rule) (n text : Text) (gs : List Given) → FindsId c n → is_given n gs ≡ true
    → settle_fault c false (held (rows_of_given gs) (Some (n, text ∷ []))) ≡ [] → ⊥
pending_fails c n text gs f some = simp f.found (use_fails n text f.long f.index gs some)

-- an option with no value
empty_fails : (c : List Rule) (n : Text) (rows : List Row) → FindsId c n → settle_fault c false (held rows (Some (n, []))) ≡ [] → ⊥
empty_fails c n rows f = simp f.found (λ e. cc)

-- ---- the words

-- a formed word is a plain word or an option
by_shape : (P : Text → Type 0) → ((b : ℕ) (bs : Text) → (b == 45) ≡ false → P (b ∷ bs))
    → ((x : ℕ) (xs : Text) → has_some_value (value_in_word x xs) ≡ true → P (45 ∷ 45 ∷ x ∷ xs)) → (word : Text) → is_formed word ≡ true → P word
by_shape P plain named [] formed = absurd (true≢false (sym formed))
by_shape P plain named (b ∷ bs) formed = first (b == 45) refl
  where
    third : (xs : Text) → is_formed (45 ∷ 45 ∷ xs) ≡ true → P (45 ∷ 45 ∷ xs)
    third [] f = absurd (true≢false (sym f))
    third (x ∷ xs) f = named x xs f

    second : (ys : Text) → is_formed (45 ∷ ys) ≡ true → P (45 ∷ ys)
    second [] f = absurd (true≢false (sym f))
    second (y ∷ ys) f = with_second (y == 45) refl
      where
        with_second : (t : Bool) → (y == 45) ≡ t → P (45 ∷ y ∷ ys)
        with_second true e = let same : 45 ≡ y = sym (eqb-true y 45 e) in subst (λ k. P (45 ∷ k ∷ ys)) same (third ys (subst (λ k. is_formed (45 ∷ k ∷ ys) ≡ true) (sym same) f))
        with_second false e = absurd (true≢false (sym (simp e at f)))

    first : (t : Bool) → (b == 45) ≡ t → P (b ∷ bs)
    first true e = let same : 45 ≡ b = sym (eqb-true b 45 e) in subst (λ k. P (k ∷ bs)) same (second bs (subst (λ k. is_formed (k ∷ bs) ≡ true) (sym same) formed))
    first false e = plain b bs e

abbrev pub all_fault : List Rule → Walk → List Text → Kinds
all_fault c w words = or_else (walk_fault (built_shape c) [] w words) (settle_fault c false (fold (walked c []) w words).held)

abbrev pub end_rows : List Rule → Walk → List Text → List Row
end_rows c w words = settled_rows c (fold (walked c []) w words).held.pending (fold (walked c []) w words).held.rows

pub and_first : (a b : Bool) → (a && b) ≡ true → a ≡ true
and_first true b e = refl
and_first false b e = e

pub and_second : (a b : Bool) → (a && b) ≡ true → b ≡ true
and_second true b e = e
and_second false b e = absurd (true≢false (sym e))

-- where the definition takes the words, `clap` takes them with these rows, and else it refuses them
abbrev pub Agrees : Option (List Given) → Kinds → List Row → Type 0
Agrees (Some given) fault rows = (fault ≡ []) × (rows ≡ rows_of_given given)
Agrees None fault rows = fault ≡ [] → ⊥

go_on : (o : Option (List Given)) (c : List Rule) (w next : Walk) (word : Text) (rest : List Text) → turn_fault (built_shape c) [] w word ≡ [] → walked c [] w word ≡ next
    → Agrees o (all_fault c next rest) (end_rows c next rest) → Agrees o (all_fault c w (word ∷ rest)) (end_rows c w (word ∷ rest))
unfolding walk_fault
go_on o c w next word rest passes is then_agrees = simp (passes, is) then_agrees

turn_stops : (c : List Rule) (w : Walk) (word : Text) (rest : List Text) → (turn_fault (built_shape c) [] w word ≡ [] → ⊥) → all_fault c w (word ∷ rest) ≡ [] → ⊥
unfolding walk_fault
turn_stops c w word rest fails = first_fails _ _ (first_fails _ _ fails)

-- an option's word, where what went before fails
option_fails : (form : Form) (h : Held) (waiting : Waiting) (p : ℕ) (word n : Text) (v : Option Text)
    → (settle_fault (built_rules form) false h ≡ [] → ⊥) → named_turn (built_rules form) h waiting p word n v ≡ [] → ⊥
option_fails form h waiting p word n v fails = go (is_among_texts form.options n) refl
  where
    go : (b : Bool) → is_among_texts form.options n ≡ b → named_turn (built_rules form) h waiting p word n v ≡ [] → ⊥
    go true e = known_fails (built_rules form) h waiting p word n v (by_long form n ∙ ap (λ b. found_long b n) e) fails
    go false e = unknown_fails (built_rules form) h waiting p word n v (by_long form n ∙ ap (λ b. found_long b n) e)

-- a walk whose pending value fails
plain_fails : (form : Form) (rows : List Row) (pending : Option (Text × List Text)) (j b : ℕ) (bs : Text) → (b == 45) ≡ false
    → (settle_fault (built_rules form) false (held rows pending) ≡ [] → ⊥) → turn_fault (built_shape (built_rules form)) [] (at rows pending idle (j + 1)) (b ∷ bs) ≡ [] → ⊥
plain_fails form rows pending j b bs other fails =
    let c = built_rules form in
    rw (plain_turn c rows pending (j + 1) b bs other) (go (slice_get form.words j) refl)
  where
    go : (o : Option Text) → slice_get form.words j ≡ o → step_fault (built_shape (built_rules form)) (j + 1) (held rows pending) value ≡ [] → ⊥
    go None e = stray_turn (built_rules form) rows pending (j + 1) (by_index form j ∙ ap (option_map (built_word (j + 1))) e)
    go (Some n) e = rw (positional_turn (built_rules form) rows pending (j + 1) (j + 1) n (by_index form j ∙ ap (option_map (built_word (j + 1))) e)) fails

doomed : (form : Form) (rows : List Row) (pending : Option (Text × List Text)) (j : ℕ) (words : List Text) → list_all is_formed words ≡ true
    → (settle_fault (built_rules form) false (held rows pending) ≡ [] → ⊥) → all_fault (built_rules form) (at rows pending idle (j + 1)) words ≡ [] → ⊥
unfolding walk_fault
doomed form rows pending j [] formed fails = fails
doomed form rows pending j (word ∷ rest) formed fails =
    turn_stops (built_rules form) (at rows pending idle (j + 1)) word rest
    (by_shape (λ w. turn_fault (built_shape (built_rules form)) [] (at rows pending idle (j + 1)) w ≡ [] → ⊥)
    (λ b bs other. plain_fails form rows pending j b bs other fails)
    (λ x xs has. option_fails form (held rows pending) idle (j + 1) (45 ∷ 45 ∷ x ∷ xs) (name_in_word x xs) (value_in_word x xs) fails)
    word (and_first (is_formed word) _ formed))

abbrev pub reading_at : List Given → Option Text → ℕ → FormReading
reading_at given waits words = record { given = given; waits = waits; words = words }

-- from where no option waits
abbrev pub IdleAgrees : Form → List Text → Type 0
IdleAgrees form words = (given : List Given) (k : ℕ) (rows : List Row) (pending : Option (Text × List Text))
    → settle_fault (built_rules form) false (held rows pending) ≡ [] → settled_rows (built_rules form) pending rows ≡ rows_of_given given
    → Agrees (given_after form (reading_at given None k) words) (all_fault (built_rules form) (at rows pending idle (k + 1)) words)
    (end_rows (built_rules form) (at rows pending idle (k + 1)) words)

-- from where the option n waits for its value
abbrev pub WaitingAgrees : Form → List Text → Type 0
WaitingAgrees form words = (given : List Given) (k : ℕ) (n : Text) → is_among_texts form.options n ≡ true
    → Agrees (given_after form (reading_at given (Some n) k) words) (all_fault (built_rules form) (at (rows_of_given given) (Some (n, [])) (option n) (k + 1)) words)
    (end_rows (built_rules form) (at (rows_of_given given) (Some (n, [])) (option n) (k + 1)) words)

-- a value met: the walk goes on with it pending, or is doomed where its name has one
value_met : (form : Form) (given : List Given) (k : ℕ) (n text : Text) (rest : List Text) → FindsId (built_rules form) n → list_all is_formed rest ≡ true → IdleAgrees form rest
    → Agrees (option_and_then (λ next. given_after form next rest) (given_more n text (reading_at given None k)))
    (all_fault (built_rules form) (at (rows_of_given given) (Some (n, text ∷ [])) idle (k + 1)) rest)
    (end_rows (built_rules form) (at (rows_of_given given) (Some (n, text ∷ [])) idle (k + 1)) rest)
value_met form given k n text rest f formed goes = go (is_given n given) refl
  where
    go : (b : Bool) → is_given n given ≡ b → Agrees (option_and_then (λ next. given_after form next rest) (given_more n text (reading_at given None k)))
        (all_fault (built_rules form) (at (rows_of_given given) (Some (n, text ∷ [])) idle (k + 1)) rest)
        (end_rows (built_rules form) (at (rows_of_given given) (Some (n, text ∷ [])) idle (k + 1)) rest)
    go true e = simp e (doomed form (rows_of_given given) (Some (n, text ∷ [])) k rest formed (pending_fails (built_rules form) n text given f e))
    go false e = simp e (goes (given ++ record { name = n; text = text } ∷ []) k (rows_of_given given) (Some (n, text ∷ []))
        (pending_passes (built_rules form) n text given f e) (pending_rows (built_rules form) n text given f e))

in_range : (xs : List Text) (k : ℕ) (n : Text) → slice_get xs k ≡ Some n → k < length xs
in_range [] k n e = absurd (cc)
in_range (x ∷ xs) zero n e = omega arith
in_range (x ∷ xs) (suc k) n e = omega (arith, in_range xs k n e)

is_among_at : (xs : List Text) (k : ℕ) (n : Text) → slice_get xs k ≡ Some n → is_among_texts xs n ≡ true
is_among_at [] k n e = absurd (cc)
is_among_at (x ∷ xs) zero n e = let same : x ≡ n = cc in rw same (simp text_is_itself)
is_among_at (x ∷ xs) (suc k) n e = or_true (bytes_eq x n) _ (is_among_at xs k n e)
  where
    or_true : (a b : Bool) → b ≡ true → (a || b) ≡ true
    or_true true b h = refl
    or_true false b h = h

idle_plain : (form : Form) → length form.words ≤ 8 → (given : List Given) (k : ℕ) (rows : List Row) (pending : Option (Text × List Text)) (b : ℕ) (bs : Text) (rest : List Text) → (b == 45) ≡ false
    → settle_fault (built_rules form) false (held rows pending) ≡ [] → settled_rows (built_rules form) pending rows ≡ rows_of_given given → list_all is_formed rest ≡ true → IdleAgrees form rest
    → Agrees (given_after form (reading_at given None k) ((b ∷ bs) ∷ rest)) (all_fault (built_rules form) (at rows pending idle (k + 1)) ((b ∷ bs) ∷ rest))
    (end_rows (built_rules form) (at rows pending idle (k + 1)) ((b ∷ bs) ∷ rest))
unfolding given_after
idle_plain form few given k rows pending b bs rest other quiet same formed goes = simp other (go (slice_get form.words k) refl)
  where
    go : (o : Option Text) → slice_get form.words k ≡ o
        → Agrees (option_and_then (λ next. given_after form next rest) (option_and_then (λ name. given_more name (b ∷ bs) (reading_at given None (k + 1))) o))
        (all_fault (built_rules form) (at rows pending idle (k + 1)) ((b ∷ bs) ∷ rest)) (end_rows (built_rules form) (at rows pending idle (k + 1)) ((b ∷ bs) ∷ rest))
    go None e = turn_stops (built_rules form) (at rows pending idle (k + 1)) (b ∷ bs) rest
        (rw (plain_turn (built_rules form) rows pending (k + 1) b bs other)
        (stray_turn (built_rules form) rows pending (k + 1) (by_index form k ∙ ap (option_map (built_word (k + 1))) e)))
    go (Some n) e =
        let found : arg_by_index (built_rules form) (k + 1) ≡ Some (built_word (k + 1) n) = by_index form k ∙ ap (option_map (built_word (k + 1))) e in
        let small : k < length form.words = in_range form.words k n e in
        let next : min (k + 1 + 1) usize_max ≡ k + 1 + 1 = omega arith in
        go_on _ (built_rules form) (at rows pending idle (k + 1)) (at (rows_of_given given) (Some (n, (b ∷ bs) ∷ [])) idle (k + 1 + 1)) (b ∷ bs) rest
        (plain_turn (built_rules form) rows pending (k + 1) b bs other ∙ positional_turn (built_rules form) rows pending (k + 1) (k + 1) n found ∙ quiet)
        (plain_walked (built_rules form) rows pending (k + 1) b bs other ∙ positional_walked (built_rules form) rows pending (k + 1) (k + 1) n (b ∷ bs) found
        ∙ ap₂ (λ rs p. at rs (Some (n, (b ∷ bs) ∷ [])) idle p) same next)
        (value_met form given (k + 1) n (b ∷ bs) rest (by_id form n (inr (is_among_at form.words k n e))) formed goes)

waiting_plain : (form : Form) (given : List Given) (k : ℕ) (n : Text) (b : ℕ) (bs : Text) (rest : List Text) → (b == 45) ≡ false
    → is_among_texts form.options n ≡ true → list_all is_formed rest ≡ true → IdleAgrees form rest
    → Agrees (given_after form (reading_at given (Some n) k) ((b ∷ bs) ∷ rest)) (all_fault (built_rules form) (at (rows_of_given given) (Some (n, [])) (option n) (k + 1)) ((b ∷ bs) ∷ rest))
    (end_rows (built_rules form) (at (rows_of_given given) (Some (n, [])) (option n) (k + 1)) ((b ∷ bs) ∷ rest))
unfolding given_after
waiting_plain form given k n b bs rest other known formed goes =
    let f = by_id form n (inl known) in
    simp other (go_on _ (built_rules form) (at (rows_of_given given) (Some (n, [])) (option n) (k + 1)) (at (rows_of_given given) (Some (n, (b ∷ bs) ∷ [])) idle (k + 1)) (b ∷ bs) rest
    (value_turn (built_rules form) (rows_of_given given) n (k + 1) b bs other)
    (value_walked (built_rules form) (rows_of_given given) n (k + 1) b bs other f)
    (value_met form given k n (b ∷ bs) rest f formed goes))

waiting_named : (form : Form) (given : List Given) (k : ℕ) (n : Text) (x : ℕ) (xs : Text) (rest : List Text) → is_among_texts form.options n ≡ true
    → Agrees (given_after form (reading_at given (Some n) k) ((45 ∷ 45 ∷ x ∷ xs) ∷ rest)) (all_fault (built_rules form) (at (rows_of_given given) (Some (n, [])) (option n) (k + 1)) ((45 ∷ 45 ∷ x ∷ xs) ∷ rest))
    (end_rows (built_rules form) (at (rows_of_given given) (Some (n, [])) (option n) (k + 1)) ((45 ∷ 45 ∷ x ∷ xs) ∷ rest))
unfolding given_after
waiting_named form given k n x xs rest known =
    turn_stops (built_rules form) (at (rows_of_given given) (Some (n, [])) (option n) (k + 1)) (45 ∷ 45 ∷ x ∷ xs) rest
    (option_fails form (held (rows_of_given given) (Some (n, []))) (option n) (k + 1) (45 ∷ 45 ∷ x ∷ xs) (name_in_word x xs) (value_in_word x xs)
    (empty_fails (built_rules form) n (rows_of_given given) (by_id form n (inl known))))

-- an option's word of this name and value, where no option waits
named_read : (form : Form) (given : List Given) (k : ℕ) (rows : List Row) (pending : Option (Text × List Text)) (word n : Text) (v : Option Text) (rest : List Text) → has_some_value v ≡ true
    → settle_fault (built_rules form) false (held rows pending) ≡ [] → settled_rows (built_rules form) pending rows ≡ rows_of_given given
    → turn_fault (built_shape (built_rules form)) [] (at rows pending idle (k + 1)) word ≡ named_turn (built_rules form) (held rows pending) idle (k + 1) word n v
    → walked (built_rules form) [] (at rows pending idle (k + 1)) word ≡ named_walked (built_rules form) (at rows pending idle (k + 1)) word n v
    → arg_by_long (built_rules form) n ≡ Some (built_option n) → is_among_texts form.options n ≡ true
    → IdleAgrees form rest → WaitingAgrees form rest
    → Agrees (option_and_then (λ next. given_after form next rest) (value_read n v (reading_at given None k)))
    (all_fault (built_rules form) (at rows pending idle (k + 1)) (word ∷ rest)) (end_rows (built_rules form) (at rows pending idle (k + 1)) (word ∷ rest))
named_read form given k rows pending word n None rest has quiet same turn step found known goes waits =
    go_on _ (built_rules form) (at rows pending idle (k + 1)) (at (rows_of_given given) (Some (n, [])) (option n) (k + 1)) word rest
    (turn ∙ alone_turn (built_rules form) (held rows pending) idle (k + 1) word n found ∙ quiet)
    (step ∙ alone_walked (built_rules form) rows pending (k + 1) word n found ∙ ap (λ rs. at rs (Some (n, [])) (option n) (k + 1)) same)
    (waits given k n known)
named_read form given k rows pending word n (Some []) rest has quiet same turn step found known goes waits = absurd (true≢false (sym has))
named_read form given k rows pending word n (Some (y ∷ ys)) rest has quiet same turn step found known goes waits = go (is_given n given) refl
  where
    turn_is : turn_fault (built_shape (built_rules form)) [] (at rows pending idle (k + 1)) word ≡ use_fault false (built_option n) ((y ∷ ys) ∷ []) (rows_of_given given)
    turn_is = turn ∙ valued_turn (built_rules form) (held rows pending) idle (k + 1) word n (y ∷ ys) found
        ∙ ap₂ (λ a rs. or_else a (use_fault false (built_option n) ((y ∷ ys) ∷ []) rs)) quiet same

    go : (b : Bool) → is_given n given ≡ b → Agrees (option_and_then (λ next. given_after form next rest) (given_more n (y ∷ ys) (reading_at given None k)))
        (all_fault (built_rules form) (at rows pending idle (k + 1)) (word ∷ rest)) (end_rows (built_rules form) (at rows pending idle (k + 1)) (word ∷ rest))
    go true e = simp e (turn_stops (built_rules form) (at rows pending idle (k + 1)) word rest (rw turn_is (use_fails n (y ∷ ys) (Some n) None given e)))
    go false e = simp e (go_on _ (built_rules form) (at rows pending idle (k + 1)) (at (rows_of_given (given ++ record { name = n; text = y ∷ ys } ∷ [])) None idle (k + 1)) word rest
        (turn_is ∙ use_passes n (y ∷ ys) (Some n) None given e)
        (step ∙ valued_walked (built_rules form) rows pending (k + 1) word n (y ∷ ys) found
        ∙ ap (λ rs. at rs None idle (k + 1)) (ap (used (built_option n) ((y ∷ ys) ∷ [])) same ∙ row_added n (y ∷ ys) (Some n) None given e))
        (goes (given ++ record { name = n; text = y ∷ ys } ∷ []) k (rows_of_given (given ++ record { name = n; text = y ∷ ys } ∷ [])) None refl refl))

idle_named : (form : Form) (given : List Given) (k : ℕ) (rows : List Row) (pending : Option (Text × List Text)) (x : ℕ) (xs : Text) (rest : List Text) → has_some_value (value_in_word x xs) ≡ true
    → settle_fault (built_rules form) false (held rows pending) ≡ [] → settled_rows (built_rules form) pending rows ≡ rows_of_given given
    → IdleAgrees form rest → WaitingAgrees form rest
    → Agrees (given_after form (reading_at given None k) ((45 ∷ 45 ∷ x ∷ xs) ∷ rest)) (all_fault (built_rules form) (at rows pending idle (k + 1)) ((45 ∷ 45 ∷ x ∷ xs) ∷ rest))
    (end_rows (built_rules form) (at rows pending idle (k + 1)) ((45 ∷ 45 ∷ x ∷ xs) ∷ rest))
unfolding given_after
idle_named form given k rows pending x xs rest has quiet same goes waits = go (is_among_texts form.options (name_in_word x xs)) refl
  where
    go : (b : Bool) → is_among_texts form.options (name_in_word x xs) ≡ b
        → Agrees (option_and_then (λ next. given_after form next rest)
        (cond (is_among_texts form.options (name_in_word x xs)) (value_read (name_in_word x xs) (value_in_word x xs) (reading_at given None k)) None))
        (all_fault (built_rules form) (at rows pending idle (k + 1)) ((45 ∷ 45 ∷ x ∷ xs) ∷ rest)) (end_rows (built_rules form) (at rows pending idle (k + 1)) ((45 ∷ 45 ∷ x ∷ xs) ∷ rest))
    go true e = rw e (named_read form given k rows pending (45 ∷ 45 ∷ x ∷ xs) (name_in_word x xs) (value_in_word x xs) rest has quiet same
        (idle_turn (built_rules form) rows pending (k + 1) x xs) (idle_walked (built_rules form) rows pending (k + 1) x xs)
        (by_long form (name_in_word x xs) ∙ ap (λ b. found_long b (name_in_word x xs)) e) e goes waits)
    go false e = rw e (turn_stops (built_rules form) (at rows pending idle (k + 1)) (45 ∷ 45 ∷ x ∷ xs) rest
        (unknown_fails (built_rules form) (held rows pending) idle (k + 1) (45 ∷ 45 ∷ x ∷ xs) (name_in_word x xs) (value_in_word x xs)
        (by_long form (name_in_word x xs) ∙ ap (λ b. found_long b (name_in_word x xs)) e)))

pub agree : (form : Form) → length form.words ≤ 8 → (words : List Text) → list_all is_formed words ≡ true → IdleAgrees form words × WaitingAgrees form words
unfolding given_after walk_fault
agree form few [] formed = (
  λ given k rows pending quiet same. (quiet, same),
  λ given k n known. empty_fails (built_rules form) n (rows_of_given given) (by_id form n (inl known)),
)
agree form few (word ∷ rest) formed =
    let first : is_formed word ≡ true = and_first (is_formed word) (list_all is_formed rest) formed in
    let others : list_all is_formed rest ≡ true = and_second (is_formed word) (list_all is_formed rest) formed in
    let next = agree form few rest others in (
      λ given k rows pending quiet same. by_shape (λ w. Agrees (given_after form (reading_at given None k) (w ∷ rest)) (all_fault (built_rules form) (at rows pending idle (k + 1)) (w ∷ rest))
          (end_rows (built_rules form) (at rows pending idle (k + 1)) (w ∷ rest)))
          (λ b bs other. idle_plain form few given k rows pending b bs rest other quiet same others next.0)
          (λ x xs has. idle_named form given k rows pending x xs rest has quiet same next.0 next.1) word first,
      λ given k n known. by_shape (λ w. Agrees (given_after form (reading_at given (Some n) k) (w ∷ rest)) (all_fault (built_rules form) (at (rows_of_given given) (Some (n, [])) (option n) (k + 1)) (w ∷ rest))
          (end_rows (built_rules form) (at (rows_of_given given) (Some (n, [])) (option n) (k + 1)) (w ∷ rest)))
          (λ b bs other. waiting_plain form given k n b bs rest other known others next.0)
          (λ x xs has. waiting_named form given k n x xs rest known) word first,
    )
