-- What the parse of a form's words needs.
use Rattle.std.proofs.Common.{◌≡◌, ◌∙◌, ◌<◌, ◌+◌, ◌||◌, ◌⊎◌, ℕ, Bool, cond, true, false, suc, refl, sym, ap, subst, arith, List, [], ◌∷◌, ◌++◌, map, length, take, Option, Some, None, is_some, ⊎_elim, true≢false, append_assoc, Err}
use Rattle.std.specs.Prelude.{option_and_then}
use Rattle.std.specs.Borrow.{Bor}
use Rattle.std.specs.List.{list_all, slice_index_or}
use Rattle.std.specs.Option.{option_map_or}
use Rattle.std.proofs.lemmas.List.{length-map, length-take-le, map-append, take_more}
use Rattle.nv_values.specs.Names.{Text}
use Rattle.command_forms.specs.Word.{has_some_value, is_formed, is_plain, option_in}
use Rattle.command_forms.specs.Given.{Form, Given, FormReading, given_after, given_in, is_among_texts, option_read, given_value, word_read}
use Rattle.command_forms.specs.Answers.{MatchesForm, shown, words_error_of}
use Rattle.command_forms.specs.Builder.{option_rule, with_rules, word_rule, word_rules}
use Rattle.command_forms.proofs.FormWalk.{Agrees}
use Rattle.command_forms.proofs.FormReads.{value_of_row}
use Rattle.clap.specs.Words.{first_value, rows_of}
use Rattle.clap.specs.Kinds.{IsAmong, Kinds}
use Rattle.clap.specs.Walk.{Row, first_of}
use Rattle.clap.specs.Simple.{App, with_rule}
use Rattle.clap.specs.declared.error.kind.ErrorKind.{ErrorKind}
use Rattle.clap.specs.declared.error.kind.ErrorKind.TheVariants.{OutOfMemory}
use Rattle.clap.specs.declared.parser.matches.Found.{Found}
use Rattle.clap.proofs.WalkLemmas.{first_value-rows}

-- ---- words that are not formed

or_false : (a b : Bool) → (a || b) ≡ false → (a ≡ false) × (b ≡ false)
or_false true b e = absurd (true≢false e)
or_false false b e = (refl, e)

same_none : {A : Type 0} (b : Bool) → cond {A = Option A} b None None ≡ None
same_none true = refl
same_none false = refl

option_unread : (form : Form) (o : Option (Text × Option Text)) (r : FormReading) (waits : Option Text) → option_map_or (λ p. has_some_value p.1) o false ≡ false → option_read form o r waits ≡ None
option_unread form None r None bad = refl
option_unread form None r (Some other) bad = refl
option_unread form (Some p) r (Some other) bad = refl
option_unread form (Some (n, None)) r None bad = absurd (true≢false bad)
option_unread form (Some (n, Some [])) r None bad = same_none (is_among_texts form.options n)
option_unread form (Some (n, Some (y ∷ ys))) r None bad = absurd (true≢false bad)

word_unread : (form : Form) (word : Text) (r : FormReading) → is_formed word ≡ false → word_read form word r ≡ None
word_unread form word r bad =
    let parts = or_false (is_plain word) _ bad in
    let plain : is_plain word ≡ false = parts.0 in
    rw plain (option_unread form (option_in word) r r.waits parts.1)

pub unformed : (form : Form) (words : List Text) (r : FormReading) → list_all is_formed words ≡ false → given_after form r words ≡ None
unfolding given_after
unformed form [] r bad = absurd (true≢false bad)
unformed form (word ∷ rest) r bad = go (is_formed word) refl (unformed form rest)
  where
    later : (o : Option FormReading) → ((next : FormReading) → given_after form next rest ≡ None) → option_and_then (λ next. given_after form next rest) o ≡ None
    later None h = refl
    later (Some next) h = h next

    go : (b : Bool) → is_formed word ≡ b → ((next : FormReading) → list_all is_formed rest ≡ false → given_after form next rest ≡ None) → option_and_then (λ next. given_after form next rest) (word_read form word r) ≡ None
    go true e h = let others : list_all is_formed rest ≡ false = simp e at bad in later (word_read form word r) (λ next. h next others)
    go false e h = rw (word_unread form word r e) refl

-- ---- what `clap` answers

pub ok_case : (o : Option (List Given)) (fault : Kinds) (rows : List Row) (f : Found) → Agrees o fault rows → fault ≡ [] → rows_of f ≡ rows
    → (is_some o ≡ true) × (first_value f ≡ (λ name. option_and_then (given_value name) o))
ok_case None fault rows f agrees none same = absurd (agrees none)
ok_case (Some given) fault rows f agrees none same =
    (refl, λ i name. (first_value-rows f name ∙ ap (first_of name) (same ∙ agrees.1) ∙ value_of_row given name) i)

refused : (o : Option (List Given)) (fault : Kinds) (rows : List Row) (k : ErrorKind) → Agrees o fault rows → IsAmong k fault → o ≡ None
refused None fault rows k agrees among = refl
refused (Some given) fault rows k agrees among = absurd (subst (IsAmong k) agrees.0 among)

pub err_case : (form : Form) (words : List Text) (fault : Kinds) (rows : List Row) (k : ErrorKind) → Agrees (given_in form words) fault rows → (k ≡ OutOfMemory) ⊎ IsAmong k fault
    → MatchesForm form words (Err (words_error_of k))
err_case form words fault rows OutOfMemory agrees h = tt
err_case form words fault rows k agrees h = ⊎_elim (λ (e : k ≡ OutOfMemory). absurd (cc)) (λ among. refused (given_in form words) fault rows k agrees among) h

-- ---- the builder

one_more : {A : Type 0} (xs : List A) (i : ℕ) (x : A) → i < length xs → x ≡ slice_index_or xs i x → take (i + 1) xs ≡ take i xs ++ x ∷ []
one_more xs i x within at = take_more xs i x within ∙ ap (λ y. take i xs ++ y ∷ []) (sym at)

pub options_step : (os : List (Bor Text)) (i : ℕ) (o : Bor Text) (start now next : App) → i < length os → o ≡ slice_index_or os i o
    → now ≡ with_rules (map option_rule (shown (take i os))) start → next ≡ with_rule now (option_rule o.now)
    → next ≡ with_rules (map option_rule (shown (take (i + 1) os))) start
options_step os i o start now next within at before step =
    let more : map option_rule (shown (take (i + 1) os)) ≡ map option_rule (shown (take i os)) ++ option_rule o.now ∷ [] =
    ap (λ xs. map option_rule (shown xs)) (one_more os i o within at) ∙ ap (map option_rule) (map-append (λ s. s.now) (take i os) (o ∷ []))
    ∙ map-append option_rule (shown (take i os)) (o.now ∷ []) in
    step ∙ ap (λ a. with_rule a (option_rule o.now)) before
    ∙ ap (λ rs. record start { top = record start.top { rules = rs } }) (append_assoc start.top.rules (map option_rule (shown (take i os))) (option_rule o.now ∷ []))
    ∙ ap (λ rs. with_rules rs start) (sym more)

rules_more : (k : ℕ) (ns : List Text) (n : Text) (i : ℕ) → i ≡ k + length ns → word_rules k (ns ++ n ∷ []) ≡ word_rules k ns ++ word_rule i n ∷ []
rules_more k [] n i at = let same : k ≡ i = omega arith in ap (λ j. word_rule j n ∷ []) same
rules_more k (x ∷ ns) n i at = ap (λ rs. word_rule k x ∷ rs) (rules_more (suc k) ns n i (omega arith))

pub words_step : (ns : List (Bor Text)) (i : ℕ) (n : Bor Text) (start now next : App) → i < length ns → n ≡ slice_index_or ns i n
    → now ≡ with_rules (word_rules 1 (shown (take i ns))) start → next ≡ with_rule now (word_rule (i + 1) n.now)
    → next ≡ with_rules (word_rules 1 (shown (take (i + 1) ns))) start
words_step ns i n start now next within at before step =
    let count : length (shown (take i ns)) ≡ i = simp length-map (length-take-le i ns (omega arith)) in
    let more : word_rules 1 (shown (take (i + 1) ns)) ≡ word_rules 1 (shown (take i ns)) ++ word_rule (i + 1) n.now ∷ [] =
    ap (λ xs. word_rules 1 (shown xs)) (one_more ns i n within at) ∙ ap (word_rules 1) (map-append (λ s. s.now) (take i ns) (n ∷ []))
    ∙ rules_more 1 (shown (take i ns)) n.now (i + 1) (omega (arith, count)) in
    step ∙ ap (λ a. with_rule a (word_rule (i + 1) n.now)) before
    ∙ ap (λ rs. record start { top = record start.top { rules = rs } }) (append_assoc start.top.rules (word_rules 1 (shown (take i ns))) (word_rule (i + 1) n.now ∷ []))
    ∙ ap (λ rs. with_rules rs start) (sym more)
