-- How arguments and files are added, one after the other.
use Rattle.std.proofs.Common.{◌≡◌, ◌≤◌, ◌<◌, ◌+◌, ◌-◌, ◌^◌, ℕ, Bool, true, false, nat_lt, if◌then◌else◌, List, [], ◌∷◌, ◌++◌, map, length, take, drop, get_or, Option, Some, None, Result, Ok, Err, refl, sym, ◌∙◌, ap, subst, inl, inr, arith, append_assoc, append-nil, length-append}
use Rattle.std.specs.Prelude.{◌≢◌, not, IsSome, Vec, option_map, String, string_bytes}
use Rattle.std.specs.declared.alloc.Global.{Global}
use Rattle.std.proofs.lemmas.Bool.{and_parts, le-ltb, lt-ltb, or_parts, true≢false}
use Rattle.std.proofs.lemmas.List.{map-append, map_more, take-append-drop, length-map, length-take-le}
use Rattle.std.proofs.lemmas.Grind.{flat_map-append}
use Rattle.std.proofs.lemmas.List.Elements.{All-get_or}
use Rattle.std.proofs.lemmas.List.Folds.{list_any-append}
use Rattle.std.proofs.lemmas.Option.{none-some}
use Rattle.std.proofs.lemmas.Slice.Eq.{bytes_eq-Decides}
use Rattle.std.proofs.Math.Seq.{take-length}
use Rattle.std.proofs.Math.ListN.{get_or-map}
use Rattle.std.specs.List.{All, list_any}
use Rattle.std.specs.Str.{bytes_eq}
use Rattle.nv_outside.specs.Files.{Files}
use Rattle.nv_values.specs.Names.{Text}
use Rattle.command_words.specs.Limits.{IsFileName}
use Rattle.command_words.specs.Values.{all_different}
use Rattle.nv_outside.proofs.FilesLemmas.{agree_before, agree_with, files_with, with-other, with-same}
use Rattle.unix_definition.specs.Files.{GuestFiles, bytes_at, node_named}
use Rattle.unix_definition.specs.Calls.{block_length}
use Rattle.unix_definition.specs.Unix.{blocks_needed}
use Rattle.unix_calls.specs.Held.{Held}
use Rattle.unix_calls.specs.Starting.{Begins, IsOpenToFiles}
use Rattle.unix_calls.specs.declared.unix_error.UnixError.{UnixError}
use Rattle.unix_calls.specs.declared.unix_error.UnixError.TheVariants as unix
use Rattle.command_deeds.proofs.DeedLemmas.{deeds_then, gives_end_as, makes_end_as, makes_gives, over_any, over_as, same_shelf, same_then_load, same_then_shelf, stays, stops_before}
use Rattle.command_deeds.specs.Checks.{Check, after_check, file_at, there, unless_fault}
use Rattle.command_deeds.specs.Deeds.{Deed, StopsDeed, stores}
use Rattle.command_deeds.specs.Ends.{CommandAnswer, GivesEnd, MakesEnd, Over, ShelfDoes, end_of, lacks, says}
use Rattle.command_deeds.specs.World.{Seen, World, world}
use Rattle.command_deeds.specs.declared.done.Done.{Done}
use Rattle.command_deeds.specs.declared.ending.Ending.{Ending}
use Rattle.command_deeds.specs.declared.stop.Stop.{Stop}
use Rattle.command_deeds.specs.declared.stop.Stop.TheVariants.{NoMemory}
use Rattle.command_deeds.specs.Readying.{AddsArgs, AddsFiles, AddsFound, ArgsOr, FilesOr, HasNoFiles, IsReady, IsTooLong}
use Rattle.command_deeds.specs.Stops.{unix_ending}
use Rattle.command_deeds.specs.Runs.{GivenFile, Plan, arguments_of, files_for, found_for, keeping, kept, on_disk, session_files, too_long}

err_ok : (d : CommandAnswer) (found : List GivenFile) → Err d ≡ Ok found → ⊥
err_ok d found e = cc

if_yes : {A : Type 0} (t : Bool) (x y : A) → t ≡ true → (if t then x else y) ≡ x
if_yes t x y e = rw e refl

if_no : {A : Type 0} (t : Bool) (x y : A) → t ≡ false → (if t then x else y) ≡ y
if_no t x y e = rw e refl

-- texts of a list of strings
pub texts_next : (xs : List (String Global)) (i : ℕ) (x : String Global) (bytes : List ℕ) → i < length xs → x ≡ get_or xs i x → bytes ≡ string_bytes x
    → map string_bytes (take (i + 1) xs) ≡ map string_bytes (take i xs) ++ bytes ∷ []
texts_next xs i x bytes h is eq =
    map_more string_bytes xs i x h ∙ ap (λ b. map string_bytes (take i xs) ++ b ∷ []) (ap string_bytes (sym is) ∙ sym eq)

pub texts_split : (xs : List (String Global)) (k : ℕ) → map string_bytes (take k xs) ++ map string_bytes (drop k xs) ≡ map string_bytes xs
texts_split xs k = sym (map-append string_bytes (take k xs) (drop k xs)) ∙ ap (map string_bytes) (take-append-drop k xs)

pub texts_whole : (xs : List (String Global)) (i : ℕ) → i ≡ length xs → map string_bytes (take i xs) ≡ map string_bytes xs
texts_whole xs i e = ap (λ k. map string_bytes (take k xs)) e ∙ ap (map string_bytes) (take-length xs)

-- one argument
fits_none : (args : List Text) (text : Text) → block_length (args ++ text ∷ []) ≤ 4096 → too_long args (text ∷ []) ≡ None
fits_none args text h =
    if_no (nat_lt 4096 (block_length (args ++ text ∷ []))) (Some (block_length (args ++ text ∷ []))) None
    (le-ltb 4096 (block_length (args ++ text ∷ [])) h)

pub argument_added : (old new : Held) (text : Text) (blocks moment : ℕ) (files : List GivenFile) (args : List Text)
    → block_length (old.args ++ text ∷ []) ≤ 4096 → Begins old blocks moment files args → Begins new blocks moment files (args ++ text ∷ [])
    → (too_long args (text ∷ []) ≡ None) × Begins new blocks moment files (args ++ text ∷ [])
argument_added old new text blocks moment files args h b b' =
    let e : old.args ≡ args = ap (λ h. h.args) b.is in
    (fits_none args text (subst (λ a. block_length (a ++ text ∷ []) ≤ 4096) e h), b')

abbrev pub failed : UnixError → Result (Unit {0}) UnixError
failed error = Err error

pub argument_refused : (error : UnixError) (old new : Held) (text : Text) (blocks moment : ℕ) (files : List GivenFile) (args : List Text)
    → ((n : ℕ) → failed error ≡ failed (unix.ArgsTooLong n) → (n ≡ block_length (old.args ++ text ∷ [])) × (4096 < n))
    → ((n : ℕ) → failed error ≡ failed (unix.FilesTooLarge n) → ⊥) → Begins old blocks moment files args
    → ArgsOr blocks moment files args (text ∷ []) new (Err (unix_ending error))
argument_refused (unix.ArgsTooLong n) old new text blocks moment files args long never b =
    let e : old.args ≡ args = ap (λ h. h.args) b.is in
    let p = long n refl in
    let q : n ≡ block_length (args ++ text ∷ []) = p.0 ∙ ap (λ a. block_length (a ++ text ∷ [])) e in
    let over : 4096 < block_length (args ++ text ∷ []) = subst (λ m. 4096 < m) q p.1 in (
      refl,
      (
        n,
        if_yes (nat_lt 4096 (block_length (args ++ text ∷ []))) (Some (block_length (args ++ text ∷ []))) None
            (lt-ltb 4096 (block_length (args ++ text ∷ [])) over) ∙ ap (λ m. Some m) (sym q),
        refl,
      ),
    )
argument_refused (unix.FilesTooLarge n) old new text blocks moment files args long never b = absurd (never n refl)
argument_refused unix.NoMemory old new text blocks moment files args long never b = refl

too_long_next : (before : List Text) (t : Text) (rest : List Text) → nat_lt 4096 (block_length (before ++ t ∷ [])) ≡ false
    → too_long before (t ∷ rest) ≡ too_long (before ++ t ∷ []) rest
too_long_next before t rest e =
    if_no (nat_lt 4096 (block_length (before ++ t ∷ []))) (Some (block_length (before ++ t ∷ []))) (too_long (before ++ t ∷ []) rest) e

too_long_here : (before : List Text) (t : Text) (rest : List Text) → nat_lt 4096 (block_length (before ++ t ∷ [])) ≡ true
    → too_long before (t ∷ rest) ≡ Some (block_length (before ++ t ∷ []))
too_long_here before t rest e =
    if_yes (nat_lt 4096 (block_length (before ++ t ∷ []))) (Some (block_length (before ++ t ∷ []))) (too_long (before ++ t ∷ []) rest) e

too_long_then : (before front rest : List Text) → too_long before front ≡ None → too_long before (front ++ rest) ≡ too_long (before ++ front) rest
too_long_then before [] rest h = ap (λ b. too_long b rest) (sym (append-nil before))
too_long_then before (t ∷ front) rest h = go (nat_lt 4096 (block_length (before ++ t ∷ []))) refl (λ q. too_long_then (before ++ t ∷ []) front rest q)
  where
    go : (b : Bool) → nat_lt 4096 (block_length (before ++ t ∷ [])) ≡ b
        → (too_long (before ++ t ∷ []) front ≡ None → too_long (before ++ t ∷ []) (front ++ rest) ≡ too_long ((before ++ t ∷ []) ++ front) rest)
        → too_long before (t ∷ (front ++ rest)) ≡ too_long (before ++ t ∷ front) rest
    go true e more = absurd (none-some (block_length (before ++ t ∷ [])) (sym h ∙ too_long_here before t front e))
    go false e more =
        too_long_next before t (front ++ rest) e ∙ (more (sym (too_long_next before t front e) ∙ h)
        ∙ ap (λ a. too_long a rest) (append_assoc before (t ∷ []) front))

too_long_known : (before front rest : List Text) (n : ℕ) → too_long before front ≡ Some n → too_long before (front ++ rest) ≡ Some n
too_long_known before [] rest n h = absurd (none-some n h)
too_long_known before (t ∷ front) rest n h =
    go (nat_lt 4096 (block_length (before ++ t ∷ []))) refl (λ q. too_long_known (before ++ t ∷ []) front rest n q)
  where
    go : (b : Bool) → nat_lt 4096 (block_length (before ++ t ∷ [])) ≡ b
        → (too_long (before ++ t ∷ []) front ≡ Some n → too_long (before ++ t ∷ []) (front ++ rest) ≡ Some n)
        → too_long before (t ∷ (front ++ rest)) ≡ Some n
    go true e more = too_long_here before t (front ++ rest) e ∙ (sym (too_long_here before t front e) ∙ h)
    go false e more = too_long_next before t (front ++ rest) e ∙ more (sym (too_long_next before t front e) ∙ h)

args_joined : (blocks moment : ℕ) (files : List GivenFile) (args front rest : List Text) (new : Held) (r : Result (Unit {0}) Ending)
    → too_long args front ≡ None → ArgsOr blocks moment files (args ++ front) rest new r → ArgsOr blocks moment files args (front ++ rest) new r
args_joined blocks moment files args front rest new (Ok done) e q =
    (too_long_then args front rest e ∙ q.0, subst (λ a. Begins new blocks moment files a) (append_assoc args front rest) q.1)
args_joined blocks moment files args front rest new (Err ending) e q =
    makes_end_as (IsTooLong (args ++ front) rest) (IsTooLong args (front ++ rest)) (end_of ending)
    (λ answer h. (h.0, too_long_then args front rest e ∙ h.1, h.2)) q

args_then : (front rest : List Text) (old mid new : Held) (done : Unit {0}) (r : Result (Unit {0}) Ending) → AddsArgs front old mid (Ok done)
    → AddsArgs rest mid new r → AddsArgs (front ++ rest) old new r
args_then front rest old mid new done r p q = λ blocks moment files args b.
    let one = p blocks moment files args b in
    args_joined blocks moment files args front rest new r one.0 (q blocks moment files (args ++ front) one.1)

pub args_known : (front rest : List Text) (old new : Held) (e : Ending) → AddsArgs front old new (Err e) → AddsArgs (front ++ rest) old new (Err e)
args_known front rest old new e p = λ blocks moment files args b.
    makes_end_as (IsTooLong args front) (IsTooLong args (front ++ rest)) (end_of e) (λ answer h. (h.0, too_long_known args front rest h.0 h.1, h.2))
    (p blocks moment files args b)

-- a text of a list of strings is added to a name and the texts before it
pub args_more : (name : Text) (xs : List (String Global)) (i : ℕ) (x : String Global) (bytes : List ℕ) (old mid new : Held) (done : Unit {0})
    (r : Result (Unit {0}) Ending) → i < length xs → x ≡ get_or xs i x → bytes ≡ string_bytes x
    → AddsArgs (name ∷ map string_bytes (take i xs)) old mid (Ok done) → AddsArgs (bytes ∷ []) mid new r
    → AddsArgs (name ∷ map string_bytes (take (i + 1) xs)) old new r
args_more name xs i x bytes old mid new done r h is eq p q =
    subst (λ ts. AddsArgs (name ∷ ts) old new r) (sym (texts_next xs i x bytes h is eq))
    (args_then (name ∷ map string_bytes (take i xs)) (bytes ∷ []) old mid new done r p q)

pub args_stopped : (name : Text) (xs : List (String Global)) (k : ℕ) (old new : Held) (h : Ending)
    → AddsArgs (name ∷ map string_bytes (take k xs)) old new (Err h) → AddsArgs (name ∷ map string_bytes xs) old new (Err h)
args_stopped name xs k old new h p =
    subst (λ ts. AddsArgs (name ∷ ts) old new (Err h)) (texts_split xs k) (args_known (name ∷ map string_bytes (take k xs))
    (map string_bytes (drop k xs)) old new h p)

-- one file

-- how it goes on where a file was looked for
abbrev looked_for : Files → ℕ → ℕ → List GivenFile → Text → List Text → Check (List ℕ) → Check (List GivenFile)
looked_for f blocks word found name rest file =
    after_check file (λ bytes. after_check (on_disk blocks (found ++ (name, bytes) ∷ [])) (λ more. files_for f blocks word more rest))

no_file : (f : Files) (blocks word : ℕ) (found : List GivenFile) (name : Text) (rest : List Text) → f name ≡ None
    → files_for f blocks word found (name ∷ rest) ≡ Err (lacks word name)
no_file f blocks word found name rest e = ap (λ o. looked_for f blocks word found name rest (there word name o)) e

next_file : (f : Files) (blocks word : ℕ) (found : List GivenFile) (name : Text) (bytes : List ℕ) (rest : List Text) → f name ≡ Some bytes
    → nat_lt blocks (blocks_needed (found ++ (name, bytes) ∷ [])) ≡ false
    → files_for f blocks word found (name ∷ rest) ≡ files_for f blocks word (found ++ (name, bytes) ∷ []) rest
next_file f blocks word found name bytes rest e t =
    let more = found ++ (name, bytes) ∷ [] in
    let fits : on_disk blocks more ≡ Ok more = if_no (nat_lt blocks (blocks_needed more)) (Err (says (Done.FilesTooLarge (blocks_needed more)))) (Ok more) t in
    ap (λ o. looked_for f blocks word found name rest (there word name o)) e ∙ ap (λ d. after_check d (λ all. files_for f blocks word all rest)) fits

full_file : (f : Files) (blocks word : ℕ) (found : List GivenFile) (name : Text) (bytes : List ℕ) (rest : List Text) → f name ≡ Some bytes
    → nat_lt blocks (blocks_needed (found ++ (name, bytes) ∷ [])) ≡ true
    → files_for f blocks word found (name ∷ rest) ≡ Err (says (Done.FilesTooLarge (blocks_needed (found ++ (name, bytes) ∷ []))))
full_file f blocks word found name bytes rest e t =
    let more = found ++ (name, bytes) ∷ [] in
    let full : on_disk blocks more ≡ Err (says (Done.FilesTooLarge (blocks_needed more))) =
    if_yes (nat_lt blocks (blocks_needed more)) (Err (says (Done.FilesTooLarge (blocks_needed more)))) (Ok more) t in
    ap (λ o. looked_for f blocks word found name rest (there word name o)) e ∙ ap (λ d. after_check d (λ all. files_for f blocks word all rest)) full

-- a file that was loaded is there
is_there : (word : ℕ) (name bytes : List ℕ) (file : Option (List ℕ)) → Ok bytes ≡ there word name file → file ≡ Some bytes
is_there word name bytes None e = cc
is_there word name bytes (Some b) e = cc

pub file_added : (shelf now : Seen Files) (new : Held) (name bytes : List ℕ) (word blocks moment : ℕ) (found : List GivenFile) (args : List Text)
    → Over (λ files. Ok bytes ≡ file_at files word name) shelf now → Begins new blocks moment (found ++ (name, bytes) ∷ []) args
    → AddsFound shelf now word blocks moment found args (name ∷ []) new
file_added shelf now new name bytes word blocks moment found args o b =
    record {
      more = (name, bytes) ∷ [];
      all = refl;
      begins = b;
      finds = over_as (λ files. Ok bytes ≡ file_at files word name)
          (λ files. files_for files blocks word found (name ∷ []) ≡ Ok (found ++ (name, bytes) ∷ [])) shelf shelf now (same_shelf shelf)
          (λ files e. next_file files blocks word found name bytes [] (is_there word name bytes (files name) e)
          (le-ltb blocks (blocks_needed (found ++ (name, bytes) ∷ [])) b.fits)) o;
    }

pub file_refused : (error : UnixError) (shelf now : Seen Files) (name bytes : List ℕ) (word blocks : ℕ) (found : List GivenFile)
    → Over (λ files. Ok bytes ≡ file_at files word name) shelf now
    → failed error ≡ failed (unix.FilesTooLarge (blocks_needed (found ++ (name, bytes) ∷ [])))
    → blocks < blocks_needed (found ++ (name, bytes) ∷ []) → GivesEnd (λ files answer. files_for files blocks word found (name ∷ []) ≡ Err answer)
    shelf now (end_of (unix_ending error))
file_refused error shelf now name bytes word blocks found o is over =
    let full = says (Done.FilesTooLarge (blocks_needed (found ++ (name, bytes) ∷ []))) in
    let q : error ≡ unix.FilesTooLarge (blocks_needed (found ++ (name, bytes) ∷ [])) = cc in
    subst (λ u. GivesEnd (λ files answer. files_for files blocks word found (name ∷ []) ≡ Err answer) shelf now (end_of (unix_ending u))) (sym q) (
      refl,
      over_as (λ files. Ok bytes ≡ file_at files word name) (λ files. files_for files blocks word found (name ∷ []) ≡ Err full) shelf shelf now
          (same_shelf shelf) (λ files e. full_file files blocks word found name bytes [] (is_there word name bytes (files name) e)
          (lt-ltb blocks (blocks_needed (found ++ (name, bytes) ∷ [])) over)) o,
    )

-- a file that is not there
pub file_lacks : (shelf now : Seen Files) (name : List ℕ) (word blocks : ℕ) (found : List GivenFile) (end : Result CommandAnswer Stop)
    → GivesEnd (λ files answer. Err answer ≡ file_at files word name) shelf now end
    → GivesEnd (λ files answer. files_for files blocks word found (name ∷ []) ≡ Err answer) shelf now end
file_lacks shelf now name word blocks found end q =
    gives_end_as (λ files answer. Err answer ≡ file_at files word name) (λ files answer. files_for files blocks word found (name ∷ []) ≡ Err answer)
    shelf shelf now end (same_shelf shelf) (λ files answer e. ap (looked_for files blocks word found name []) (sym e)) q

-- files after files
then_file : (f : Files) (blocks word : ℕ) (found : List GivenFile) (name : Text) (bytes : List ℕ) (front rest : List Text) (next : List GivenFile)
    (t : Bool) → f name ≡ Some bytes → nat_lt blocks (blocks_needed (found ++ (name, bytes) ∷ [])) ≡ t
    → (files_for f blocks word (found ++ (name, bytes) ∷ []) front ≡ Ok next
    → files_for f blocks word (found ++ (name, bytes) ∷ []) (front ++ rest) ≡ files_for f blocks word next rest)
    → files_for f blocks word found (name ∷ front) ≡ Ok next
    → files_for f blocks word found (name ∷ (front ++ rest)) ≡ files_for f blocks word next rest
then_file f blocks word found name bytes front rest next true e t more h =
    absurd (err_ok (says (Done.FilesTooLarge (blocks_needed (found ++ (name, bytes) ∷ [])))) next
    (sym (full_file f blocks word found name bytes front e t) ∙ h))
then_file f blocks word found name bytes front rest next false e t more h =
    next_file f blocks word found name bytes (front ++ rest) e t ∙ more (sym (next_file f blocks word found name bytes front e t) ∙ h)

files_then : (f : Files) (blocks word : ℕ) (found : List GivenFile) (front rest : List Text) (next : List GivenFile)
    → files_for f blocks word found front ≡ Ok next → files_for f blocks word found (front ++ rest) ≡ files_for f blocks word next rest
files_then f blocks word found [] rest next h =
    let e : found ≡ next = cc in
    ap (λ n. files_for f blocks word n rest) e
files_then f blocks word found (name ∷ front) rest next h =
    go (f name) refl (λ bytes q. files_then f blocks word (found ++ (name, bytes) ∷ []) front rest next q)
  where
    go : (o : Option (List ℕ)) → f name ≡ o → ((bytes : List ℕ) → files_for f blocks word (found ++ (name, bytes) ∷ []) front ≡ Ok next
        → files_for f blocks word (found ++ (name, bytes) ∷ []) (front ++ rest) ≡ files_for f blocks word next rest)
        → files_for f blocks word found (name ∷ (front ++ rest)) ≡ files_for f blocks word next rest
    go None e more = absurd (err_ok (lacks word name) next (sym (no_file f blocks word found name front e) ∙ h))
    go (Some bytes) e more =
        then_file f blocks word found name bytes front rest next (nat_lt blocks (blocks_needed (found ++ (name, bytes) ∷ []))) e refl (more bytes) h

known_file : (f : Files) (blocks word : ℕ) (found : List GivenFile) (name : Text) (bytes : List ℕ) (front rest : List Text) (d : CommandAnswer) (t : Bool)
    → f name ≡ Some bytes → nat_lt blocks (blocks_needed (found ++ (name, bytes) ∷ [])) ≡ t
    → (files_for f blocks word (found ++ (name, bytes) ∷ []) front ≡ Err d
    → files_for f blocks word (found ++ (name, bytes) ∷ []) (front ++ rest) ≡ Err d) → files_for f blocks word found (name ∷ front) ≡ Err d
    → files_for f blocks word found (name ∷ (front ++ rest)) ≡ Err d
known_file f blocks word found name bytes front rest d true e t more h =
    full_file f blocks word found name bytes (front ++ rest) e t ∙ (sym (full_file f blocks word found name bytes front e t) ∙ h)
known_file f blocks word found name bytes front rest d false e t more h =
    next_file f blocks word found name bytes (front ++ rest) e t ∙ more (sym (next_file f blocks word found name bytes front e t) ∙ h)

files_known : (f : Files) (blocks word : ℕ) (found : List GivenFile) (front rest : List Text) (d : CommandAnswer)
    → files_for f blocks word found front ≡ Err d → files_for f blocks word found (front ++ rest) ≡ Err d
files_known f blocks word found [] rest d h = absurd (err_ok d found (sym h))
files_known f blocks word found (name ∷ front) rest d h =
    go (f name) refl (λ bytes q. files_known f blocks word (found ++ (name, bytes) ∷ []) front rest d q)
  where
    go : (o : Option (List ℕ)) → f name ≡ o → ((bytes : List ℕ) → files_for f blocks word (found ++ (name, bytes) ∷ []) front ≡ Err d
        → files_for f blocks word (found ++ (name, bytes) ∷ []) (front ++ rest) ≡ Err d)
        → files_for f blocks word found (name ∷ (front ++ rest)) ≡ Err d
    go None e more = no_file f blocks word found name (front ++ rest) e ∙ (sym (no_file f blocks word found name front e) ∙ h)
    go (Some bytes) e more =
        known_file f blocks word found name bytes front rest d (nat_lt blocks (blocks_needed (found ++ (name, bytes) ∷ []))) e refl (more bytes) h

-- ---- names that are all different

-- two maps have the same files of these names
abbrev pub SameAt : Files → Files → List Text → Type 0
SameAt f g [] = Unit {0}
SameAt f g (name ∷ names) = (f name ≡ g name) × SameAt f g names

same_for : (f g : Files) (blocks word : ℕ) (found : List GivenFile) (names : List Text) → SameAt f g names
    → files_for f blocks word found names ≡ files_for g blocks word found names
same_for f g blocks word found [] h = refl
same_for f g blocks word found (name ∷ names) h =
    λ i. after_check (there word name (h.0 i))
    (λ bytes. after_check (on_disk blocks (found ++ (name, bytes) ∷ [])) (λ more. same_for f g blocks word more names h.1 i))

-- a name is none of these
abbrev pub Apart : Text → List Text → Type 0
Apart name [] = Unit {0}
Apart name (other ∷ others) = (other ≢ name) × Apart name others

not_false : (b : Bool) → not b ≡ true → b ≡ false
not_false true e = cc
not_false false e = refl

none_same : (other name : Text) → bytes_eq name other ≡ false → other ≢ name
none_same other name e same = let own : bytes_eq name other ≡ true = (bytes_eq-Decides name other).1 (sym same) in true≢false (sym own ∙ e)

apart : (front : List Text) (name : Text) (rest : List Text) → all_different (front ++ name ∷ rest) ≡ true → Apart name front
apart [] name rest e = tt
apart (other ∷ front) name rest e =
    let all = and_parts (not (list_any (λ n. bytes_eq n other) (front ++ name ∷ rest))) (all_different (front ++ name ∷ rest)) e in
    let none : list_any (λ n. bytes_eq n other) (front ++ name ∷ rest) ≡ false =
    not_false (list_any (λ n. bytes_eq n other) (front ++ name ∷ rest)) all.0 in
    let both = or_parts (list_any (λ n. bytes_eq n other) front) (list_any (λ n. bytes_eq n other) (name ∷ rest))
    (sym (list_any-append (λ n. bytes_eq n other) front (name ∷ rest)) ∙ none) in
    let here = or_parts (bytes_eq name other) (list_any (λ n. bytes_eq n other) rest) both.1 in
    (none_same other name here.0, apart front name rest all.1)

same_front : (f : Files) (name : Text) (file : Option (List ℕ)) (front : List Text) → Apart name front → SameAt (files_with f name file) f front
same_front f name file [] a = tt
same_front f name file (other ∷ front) a = (with-other f name file other a.0, same_front f name file front a.1)

-- a file behind those before it, which the shelf gave before
joined_over : (a b c : Seen Files) (word blocks : ℕ) (found : List GivenFile) (front : List Text) (name : Text) (next : List GivenFile)
    (r : Check (List GivenFile)) → Apart name front → Over (λ files. files_for files blocks word found front ≡ Ok next) a b
    → Over (λ files. files_for files blocks word next (name ∷ []) ≡ r) b c → Over (λ files. files_for files blocks word found (front ++ name ∷ []) ≡ r) a c
joined_over a b c word blocks found front name next r apart p q =
    let both : Files = files_with p.files name (q.files name) in
    record {
      files = both;
      agree = agree_with a.told p.files q.files name p.agree (agree_before a.told b.told q.files p.same.0 q.agree);
      same = same_then_shelf a b c p.same q.same;
      is = files_then both blocks word found front (name ∷ []) next
          (same_for both p.files blocks word found front (same_front p.files name (q.files name) front apart) ∙ p.is)
          ∙ same_for both q.files blocks word next (name ∷ []) (with-same p.files name (q.files name), tt) ∙ q.is;
    }

joined_end : (a b c : Seen Files) (word blocks : ℕ) (found : List GivenFile) (front : List Text) (name : Text) (next : List GivenFile)
    (end : Result CommandAnswer Stop) → Apart name front → Over (λ files. files_for files blocks word found front ≡ Ok next) a b
    → GivesEnd (λ files answer. files_for files blocks word next (name ∷ []) ≡ Err answer) b c end
    → GivesEnd (λ files answer. files_for files blocks word found (front ++ name ∷ []) ≡ Err answer) a c end
joined_end a b c word blocks found front name next (Err stop) apart p q = same_then_load a b c stop p.same q
joined_end a b c word blocks found front name next (Ok answer) apart p q =
    (q.0, joined_over a b c word blocks found front name next (Err answer) apart p q.1)

files_joined : (a b c : Seen Files) (word blocks moment : ℕ) (found : List GivenFile) (args front : List Text) (name : Text) (mid new : Held)
    (r : Result (Unit {0}) Ending) → Apart name front → (one : AddsFound a b word blocks moment found args front mid)
    → FilesOr b c word blocks moment (found ++ one.more) args (name ∷ []) new r
    → FilesOr a c word blocks moment found args (front ++ name ∷ []) new r
files_joined a b c word blocks moment found args front name mid new (Ok done) apart one q =
    let joined : (found ++ one.more) ++ q.more ≡ found ++ (one.more ++ q.more) = append_assoc found one.more q.more in
    record {
      more = one.more ++ q.more;
      all = omega (arith, length-append one.more q.more, length-append front (name ∷ []), one.all, q.all);
      begins = subst (λ f. Begins new blocks moment f args) joined q.begins;
      finds = subst (λ x. Over (λ files. files_for files blocks word found (front ++ name ∷ []) ≡ Ok x) a c) joined
          (joined_over a b c word blocks found front name (found ++ one.more) (Ok ((found ++ one.more) ++ q.more)) apart one.finds q.finds);
    }
files_joined a b c word blocks moment found args front name mid new (Err ending) apart one q =
    joined_end a b c word blocks found front name (found ++ one.more) (end_of ending) apart one.finds q

-- no file was added yet
pub none_added : (shelf : Seen Files) (word : ℕ) (old : Held) (done : Unit {0}) → AddsFiles shelf shelf word [] old old (Ok done)
none_added shelf word old done = λ blocks moment found args begins. record {
  more = [];
  all = refl;
  begins = subst (λ f. Begins old blocks moment f args) (sym (append-nil found)) begins;
  finds = over_any (λ files. ◌≡◌ {A = Check (List GivenFile)} (Ok found) (Ok (found ++ []))) shelf shelf (same_shelf shelf)
      (λ files. ap (λ f. Ok f) (sym (append-nil found)));
}

-- a name of a list is none of those before it
name_apart : (xs : List (String Global)) (i : ℕ) (x : String Global) (bytes : List ℕ) → i < length xs → x ≡ get_or xs i x → bytes ≡ string_bytes x
    → all_different (map string_bytes xs) ≡ true → Apart bytes (map string_bytes (take i xs))
name_apart xs i x bytes h is eq different =
    let front = map string_bytes (take i xs) in
    let rest = map string_bytes (drop (i + 1) xs) in
    let split : map string_bytes xs ≡ front ++ bytes ∷ rest =
    sym (texts_split xs (i + 1)) ∙ ap (λ l. l ++ rest) (texts_next xs i x bytes h is eq) ∙ append_assoc front (bytes ∷ []) rest in
    apart front bytes rest (sym (ap all_different split) ∙ different)

-- a file of a list of names is added to those before it
pub files_more : (a b c : Seen Files) (word : ℕ) (xs : List (String Global)) (i : ℕ) (x : String Global) (bytes : List ℕ) (old mid new : Held)
    (done : Unit {0}) (r : Result (Unit {0}) Ending) → i < length xs → x ≡ get_or xs i x → bytes ≡ string_bytes x
    → all_different (map string_bytes xs) ≡ true
    → AddsFiles a b word (map string_bytes (take i xs)) old mid (Ok done) → AddsFiles b c word (bytes ∷ []) mid new r
    → AddsFiles a c word (map string_bytes (take (i + 1) xs)) old new r
files_more a b c word xs i x bytes old mid new done r h is eq different p q =
    subst (λ ts. AddsFiles a c word ts old new r) (sym (texts_next xs i x bytes h is eq)) (λ blocks moment found args begins.
    let one = p blocks moment found args begins in
    files_joined a b c word blocks moment found args (map string_bytes (take i xs)) bytes mid new r (name_apart xs i x bytes h is eq different) one
    (q blocks moment (found ++ one.more) args one.begins))

pub files_stopped : (a b : Seen Files) (word : ℕ) (xs : List (String Global)) (k : ℕ) (old new : Held) (e : Ending)
    → AddsFiles a b word (map string_bytes (take k xs)) old new (Err e) → AddsFiles a b word (map string_bytes xs) old new (Err e)
files_stopped a b word xs k old new e p =
    subst (λ ts. AddsFiles a b word ts old new (Err e)) (texts_split xs k) (λ blocks moment found args begins.
    gives_end_as (λ files answer. files_for files blocks word found (map string_bytes (take k xs)) ≡ Err answer)
    (λ files answer. files_for files blocks word found (map string_bytes (take k xs) ++ map string_bytes (drop k xs)) ≡ Err answer)
    a a b (end_of e) (same_shelf a) (λ files answer h. files_known files blocks word found (map string_bytes (take k xs))
    (map string_bytes (drop k xs)) answer h) (p blocks moment found args begins))

pub open_more : (a b : Seen Files) (word : ℕ) (xs : List (String Global)) (i : ℕ) (old now : Held) (done : Unit {0}) → i < length xs
    → length (map string_bytes xs) ≤ 64 → HasNoFiles old → AddsFiles a b word (map string_bytes (take i xs)) old now (Ok done) → IsOpenToFiles now
open_more a b word xs i old now done h few new p =
    let one = p new.blocks new.moment [] new.args new.begins in
    let n : length one.more ≡ length (map string_bytes (take i xs)) = one.all in
    let m : length (map string_bytes (take i xs)) ≡ length (take i xs) = length-map (take i xs) string_bytes in
    let k : length (take i xs) ≡ i = length-take-le i xs (omega arith) in
    let all : length (map string_bytes xs) ≡ length xs = length-map xs string_bytes in
    record { most = 2 ^ 32 - 1; blocks = new.blocks; moment = new.moment; files = one.more; args = new.args; begins = one.begins; few = omega arith }

pub short_name : (xs : List (String Global)) (i : ℕ) (x : String Global) → i < length xs → x ≡ get_or xs i x → All IsFileName (map string_bytes xs)
    → length (string_bytes x) ≤ 255
short_name xs i x h is each =
    let all : length (map string_bytes xs) ≡ length xs = length-map xs string_bytes in
    let named : IsFileName (get_or (map string_bytes xs) i (string_bytes x)) = All-get_or IsFileName (map string_bytes xs) i (string_bytes x)
    (omega arith) each in
    let e : get_or (map string_bytes xs) i (string_bytes x) ≡ string_bytes x = get_or-map string_bytes xs i x ∙ ap string_bytes (sym is) in
    (subst IsFileName e named).short

-- ---- the system

-- its arguments are those of the plan
abbrev pub plan_args : Text → List (String Global) → List Text
plan_args name texts = name ∷ map string_bytes texts

-- what becomes of the files behind arguments that fit
abbrev behind_args : Plan → Files → Option ℕ → Check (List GivenFile)
behind_args plan files long = after_check (unless_fault long Done.ArgsTooLong (arguments_of plan)) (λ arguments. session_files files plan.session)

args_refused : (plan : Plan) (files : Files) (answer : CommandAnswer) → IsTooLong [] (arguments_of plan) answer → found_for plan files ≡ Err answer
args_refused plan files answer h = ap (behind_args plan files) h.1 ∙ ap (λ a. Err a) (sym h.2)

args_fit : (plan : Plan) (files : Files) → too_long [] (arguments_of plan) ≡ None → found_for plan files ≡ session_files files plan.session
args_fit plan files h = ap (behind_args plan files) h

pub too_long_gives : (plan : Plan) (texts : List (String Global)) (new : Held) (shelf : Seen Files) (e : Ending)
    → map string_bytes texts ≡ plan.session.arguments → ArgsOr plan.session.disk plan.moment [] [] (plan_args plan.name texts) new (Err e)
    → GivesEnd (λ files answer. found_for plan files ≡ Err answer) shelf shelf (end_of e)
too_long_gives plan texts new shelf e are q =
    makes_gives (λ files. Unit {0}) (IsTooLong [] (arguments_of plan)) (λ files answer. found_for plan files ≡ Err answer) shelf shelf (end_of e)
    (over_any (λ files. Unit {0}) shelf shelf (same_shelf shelf) (λ files. tt)) (λ files answer so h. args_refused plan files answer h)
    (subst (λ ts. MakesEnd (IsTooLong [] (plan.name ∷ ts)) (end_of e)) are q)

pub not_found_gives : (plan : Plan) (texts names : List (String Global)) (mid new : Held) (shelf now : Seen Files) (e : Ending)
    → map string_bytes texts ≡ plan.session.arguments → map string_bytes names ≡ plan.session.with.names
    → (too_long [] (plan_args plan.name texts) ≡ None) × Begins mid plan.session.disk plan.moment [] (plan_args plan.name texts)
    → AddsFiles shelf now plan.session.with.word (map string_bytes names) mid new (Err e)
    → GivesEnd (λ files answer. found_for plan files ≡ Err answer) shelf now (end_of e)
not_found_gives plan texts names mid new shelf now e are called p q =
    gives_end_as (λ files answer. files_for files plan.session.disk plan.session.with.word [] (map string_bytes names) ≡ Err answer)
    (λ files answer. found_for plan files ≡ Err answer) shelf shelf now (end_of e) (same_shelf shelf)
    (λ files answer h. args_fit plan files (subst (λ ts. too_long [] (plan.name ∷ ts) ≡ None) are p.0)
    ∙ subst (λ ns. files_for files plan.session.disk plan.session.with.word [] ns ≡ Err answer) called h)
    (q plan.session.disk plan.moment [] (plan_args plan.name texts) p.1)

pub ready_gives : (plan : Plan) (texts names : List (String Global)) (mid new : Held) (shelf now : Seen Files) (done : Unit {0})
    → map string_bytes texts ≡ plan.session.arguments → map string_bytes names ≡ plan.session.with.names
    → (too_long [] (plan_args plan.name texts) ≡ None) × Begins mid plan.session.disk plan.moment [] (plan_args plan.name texts)
    → AddsFiles shelf now plan.session.with.word (map string_bytes names) mid new (Ok done) → Over (λ files. IsReady plan files new) shelf now
ready_gives plan texts names mid new shelf now done are called p q =
    let one = q plan.session.disk plan.moment [] (plan_args plan.name texts) p.1 in
    over_as (λ files. files_for files plan.session.disk plan.session.with.word [] (map string_bytes names) ≡ Ok one.more)
    (λ files. IsReady plan files new) shelf shelf now (same_shelf shelf)
    (λ files h. record {
      given = one.more;
      finds = args_fit plan files (subst (λ ts. too_long [] (plan.name ∷ ts) ≡ None) are p.0)
          ∙ subst (λ ns. files_for files plan.session.disk plan.session.with.word [] ns ≡ Ok one.more) called h;
      begins = subst (λ ts. Begins new plan.session.disk plan.moment one.more (plan.name ∷ ts)) are one.begins;
    }) one.finds

-- of its input nothing was read yet
pub none_ahead : (shelf now : Seen Files) (word blocks moment : ℕ) (found : List GivenFile) (args names : List Text) (new : Held)
    → AddsFound shelf now word blocks moment found args names new → length new.ahead ≤ 4096
none_ahead shelf now word blocks moment found args names new added =
    let a : new.ahead ≡ [] = ap (λ h. h.ahead) added.begins.is in
    let n : length new.ahead ≡ 0 = ap length a in
    omega arith

-- ---- files that are kept

none_some : {A : Type 0} (a : A) → None ≡ Some a → ⊥
none_some a e = cc

pub keep_no_memory : (files : GuestFiles) (name : Text) (node : Option ℕ) (shelf : Seen Files) → IsSome node
    → ShelfDoes (keeping files name node) shelf shelf (Err NoMemory)
keep_no_memory files name None shelf some = cc
keep_no_memory files name (Some n) shelf some = λ input out err. inl (stays (world shelf input out err))

pub keep_some : (files : GuestFiles) (node : Option ℕ) (shelf now : Seen Files) (name : List ℕ) (found : Option (Vec ℕ Global)) (v : Vec ℕ Global)
    (bytes : List ℕ) (r : Result (Unit {0}) Stop) → found ≡ Some v → bytes ≡ v.items
    → option_map (λ v. v.items) found ≡ option_map (bytes_at files) node → ShelfDoes (stores name bytes ∷ []) shelf now r
    → ShelfDoes (keeping files name node) shelf now r
keep_some files None shelf now name found v bytes r some is e p = absurd (none_some v.items (sym e ∙ ap (option_map (λ v. v.items)) some))
keep_some files (Some n) shelf now name found v bytes r some is e p =
    let q : Some v.items ≡ Some (bytes_at files n) = sym (ap (option_map (λ v. v.items)) some) ∙ e in
    let same : v.items ≡ bytes_at files n = cc in
    subst (λ b. ShelfDoes (stores name b ∷ []) shelf now r) (is ∙ same) p

pub keep_none : (files : GuestFiles) (node : Option ℕ) (shelf : Seen Files) (name : List ℕ) (found : Option (Vec ℕ Global)) (done : Unit {0})
    → found ≡ None → option_map (λ v. v.items) found ≡ option_map (bytes_at files) node → ShelfDoes (keeping files name node) shelf shelf (Ok done)
keep_none files None shelf name found done none e = λ input out err. stays (world shelf input out err)
keep_none files (Some n) shelf name found done none e = absurd (none_some (bytes_at files n) (sym (ap (option_map (λ v. v.items)) none) ∙ e))

-- deeds on the shelf after deeds on the shelf
pub shelf_does_then : (first deeds : List Deed) (a b c : Seen Files) (done : Unit {0}) (r : Result (Unit {0}) Stop) → ShelfDoes first a b (Ok done)
    → ShelfDoes deeds b c r → ShelfDoes (first ++ deeds) a c r
shelf_does_then first deeds a b c done r p q =
    λ input out err. deeds_then first deeds (world a input out err) (world b input out err) (world c input out err) r (p input out err)
    (q input out err)

pub shelf_stops_before : (first deeds : List Deed) (a b : Seen Files) (stop : Stop) → ShelfDoes first a b (Err stop)
    → ShelfDoes (first ++ deeds) a b (Err stop)
shelf_stops_before first deeds a b stop p =
    λ input out err. stops_before first deeds (world a input out err) (world b input out err) stop (p input out err)

-- a file of a list of names is kept after those before it
abbrev keep_named : GuestFiles → Text → List Deed
keep_named files name = keeping files name (node_named files name)

kept_next : (files : GuestFiles) (names : List Text) (name : Text) → kept files (names ++ name ∷ []) ≡ kept files names ++ keep_named files name
kept_next files names name =
    flat_map-append (keep_named files) names (name ∷ []) ∙ ap (λ ds. kept files names ++ ds) (append-nil (keep_named files name))

pub keep_more : (files : GuestFiles) (xs : List (String Global)) (i : ℕ) (x : String Global) (bytes : List ℕ) (a b c : Seen Files) (done : Unit {0})
    (r : Result (Unit {0}) Stop) → i < length xs → x ≡ get_or xs i x → bytes ≡ string_bytes x
    → ShelfDoes (kept files (map string_bytes (take i xs))) a b (Ok done) → ShelfDoes (keep_named files bytes) b c r
    → ShelfDoes (kept files (map string_bytes (take (i + 1) xs))) a c r
keep_more files xs i x bytes a b c done r h is eq p q =
    subst (λ ts. ShelfDoes (kept files ts) a c r) (sym (texts_next xs i x bytes h is eq))
    (subst (λ ds. ShelfDoes ds a c r) (sym (kept_next files (map string_bytes (take i xs)) bytes))
    (shelf_does_then (kept files (map string_bytes (take i xs))) (keep_named files bytes) a b c done r p q))

pub keep_stops : (files : GuestFiles) (xs : List (String Global)) (k : ℕ) (a b : Seen Files) (stop : Stop)
    → ShelfDoes (kept files (map string_bytes (take k xs))) a b (Err stop) → ShelfDoes (kept files (map string_bytes xs)) a b (Err stop)
keep_stops files xs k a b stop p =
    let e = flat_map-append (keep_named files) (map string_bytes (take k xs)) (map string_bytes (drop k xs)) in
    subst (λ ts. ShelfDoes (kept files ts) a b (Err stop)) (texts_split xs k)
    (subst (λ ds. ShelfDoes ds a b (Err stop)) (sym e) (shelf_stops_before (kept files (map string_bytes (take k xs)))
    (kept files (map string_bytes (drop k xs))) a b stop p))
