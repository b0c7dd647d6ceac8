-- How deeds follow one another.
use Rattle.std.proofs.Common.{◌≡◌, ℕ, Bool, true, false, List, [], ◌∷◌, ◌++◌, Option, Some}
use Rattle.std.proofs.Common.{None, Result, Ok, Err, Vec, Global, option_map, refl, sym, ◌∙◌, ap, subst, inl, inr}
use Rattle.nv_outside.specs.Faults.{CountsFailure, shelf_failed}
use Rattle.nv_outside.specs.Files.{AgreeWith, Files, Finds, OthersStay, SameFiles, SetsFile, Stores}
use Rattle.run_definition.specs.declared.io_fault.IoFault.{IoFault}
use Rattle.run_definition.specs.declared.io_fault.IoFault.TheVariants as io
use Rattle.unix_calls.specs.Stages.{ComesTo, LosesRead, StopsRun}
use Rattle.jvm_definition.specs.Step.{Loaded}
use Rattle.unix_pipe_laws.specs.Pipelines.{Pipeline}
use Rattle.unix_pipe_laws.specs.Stopping.{StopsInTurn}
use Rattle.nv_outside.specs.declared.shelf_error.ShelfError.{ShelfError}
use Rattle.nv_outside.specs.declared.shelf_error.ShelfError.TheVariants as shelf
use Rattle.command_deeds.specs.declared.stop.Stop.{Stop}
use Rattle.command_deeds.specs.declared.stop.Stop.TheVariants.{ReadFault, WriteFault, ShelfFault, NoMemory}
use Rattle.command_deeds.specs.Deeds.{Deed, prepares, stores, prints, plays, pipes, tells, DoesDeed, StopsDeed, StopsPipes, DoesAll, StopsIn}
use Rattle.command_words.specs.declared.named.Named.{Named}
use Rattle.command_deeds.specs.declared.ending.Ending.{Ending}
use Rattle.command_deeds.specs.Checks.{Check, file_at, file_that_is_named, there}
use Rattle.command_deeds.specs.Ends.{CommandAnswer, Comes, DoesOrStops, Due, Gives, GivesEnd}
use Rattle.command_deeds.specs.Ends.{Makes, MakesEnd, Over, Works, answers, end_of, is_stop, lacks}
use Rattle.command_deeds.specs.Stops.{shelf_stop}
use Rattle.command_deeds.specs.World.{FailsIn, OnlyErr, OnlyOut, OnlyShelf, Rises, SameShelf, Seen, Sets, Stays}
use Rattle.command_deeds.specs.World.{StopsLoad, StopsPrint, StopsStore, Takes, World, streams_of, world}
use Rattle.nv_outside.proofs.FilesLemmas.{agree_before, same_then_same, told_agree, told_has, told_or}

-- ---- the shelf

pub same_files : (files : Option Files) → SameFiles files files
same_files None = tt
same_files (Some f) = λ name. refl

pub same_shelf : (shelf : Seen Files) → SameShelf shelf shelf
same_shelf shelf = (same_files shelf.told, refl)

pub same_then_shelf : (a b c : Seen Files) → SameShelf a b → SameShelf b c → SameShelf a c
same_then_shelf a b c p q = (same_then_same a.told b.told c.told p.0 q.0, q.1 ∙ p.1)

pub same_then_rises : (a b c : ℕ) → b ≡ a → Rises b c → Rises a c
same_then_rises a b c e rises = subst (λ n. Rises n c) e rises

same_then_set : (a b c : Option Files) (name bytes : List ℕ) → SameFiles a b → SetsFile b c name bytes → SetsFile a c name bytes
same_then_set None b c name bytes p q = tt
same_then_set (Some a) None c name bytes p q = absurd p
same_then_set (Some a) (Some b) None name bytes p q = absurd q
same_then_set (Some a) (Some b) (Some c) name bytes p q = (q.0, λ other h. q.1 other h ∙ p other)

same_then_sets : (a b c : Seen Files) (name bytes : List ℕ) → SameShelf a b → Sets b c name bytes → Sets a c name bytes
same_then_sets a b c name bytes p q = (same_then_set a.told b.told c.told name bytes p.0 q.0, q.1 ∙ p.1)

same_then_others : (a b c : Option Files) (name : List ℕ) → SameFiles a b → OthersStay b c name → OthersStay a c name
same_then_others None b c name p q = tt
same_then_others (Some a) None c name p q = absurd p
same_then_others (Some a) (Some b) None name p q = absurd q
same_then_others (Some a) (Some b) (Some c) name p q = λ other h. q other h ∙ p other

pub same_then_load : (a b c : Seen Files) (stop : Stop) → SameShelf a b → StopsLoad b c stop → StopsLoad a c stop
same_then_load a b c ReadFault p q = q
same_then_load a b c WriteFault p q = q
same_then_load a b c ShelfFault p q = (same_then_same a.told b.told c.told p.0 q.0, same_then_rises a.faults b.faults c.faults p.1 q.1)
same_then_load a b c NoMemory p q = same_then_shelf a b c p q

same_then_store : (a b c : Seen Files) (name : List ℕ) (stop : Stop) → SameShelf a b → StopsStore b c name stop → StopsStore a c name stop
same_then_store a b c name ReadFault p q = q
same_then_store a b c name WriteFault p q = q
same_then_store a b c name ShelfFault p q = (same_then_others a.told b.told c.told name p.0 q.0, same_then_rises a.faults b.faults c.faults p.1 q.1)
same_then_store a b c name NoMemory p q = same_then_shelf a b c p q

-- ---- nothing has changed yet

pub stays : (w : World) → Stays w w
stays w = (same_shelf w.shelf, (refl, refl, refl))

only_then : (w u v : World) → OnlyShelf w u → OnlyShelf u v → OnlyShelf w v
only_then w u v p q = (q.0 ∙ p.0, q.1 ∙ p.1, q.2 ∙ p.2)

pub stays_then : (w u v : World) → Stays w u → Stays u v → Stays w v
stays_then w u v p q = (same_then_shelf w.shelf u.shelf v.shelf p.0 q.0, only_then w u v p.1 q.1)

only_out_then : (w u v : World) → Stays w u → OnlyOut u v → OnlyOut w v
only_out_then w u v p q = (same_then_shelf w.shelf u.shelf v.shelf p.0 q.0, q.1 ∙ p.1.0, q.2 ∙ p.1.2)

only_err_then : (w u v : World) → Stays w u → OnlyErr u v → OnlyErr w v
only_err_then w u v p q = (same_then_shelf w.shelf u.shelf v.shelf p.0 q.0, q.1 ∙ p.1.0, q.2 ∙ p.1.1)

stays_then_turn : (p : Pipeline Loaded) (failure : Option IoFault) (w u v : World) → OnlyShelf w u → StopsInTurn p failure u.input v.input u.out v.out
    → StopsInTurn p failure w.input v.input w.out v.out
stays_then_turn p failure w u v only q =
    subst (λ o. StopsInTurn p failure w.input v.input o v.out) only.1 (subst (λ i. StopsInTurn p failure i v.input u.out v.out) only.0 q)

stays_then_pipes : (p : Pipeline Loaded) (w u v : World) (stop : Stop) → OnlyShelf w u → StopsPipes p u v stop → StopsPipes p w v stop
stays_then_pipes p w u v ReadFault only q = stays_then_turn p (Some io.ReadFault) w u v only q
stays_then_pipes p w u v WriteFault only q = stays_then_turn p (Some io.WriteFault) w u v only q
stays_then_pipes p w u v ShelfFault only q = absurd q
stays_then_pipes p w u v NoMemory only q = stays_then_turn p None w u v only q

same_streams : (w u : World) → OnlyShelf w u → streams_of u ≡ streams_of w
same_streams w u only = λ i. record { input = only.0 i; out = only.1 i; err = only.2 i }

stays_then_deed : (deed : Deed) (w u v : World) → Stays w u → DoesDeed deed u v → DoesDeed deed w v
stays_then_deed prepares w u v p q = stays_then w u v p q
stays_then_deed (stores name bytes) w u v p q = (same_then_sets w.shelf u.shelf v.shelf name bytes p.0 q.0, only_then w u v p.1 q.1)
stays_then_deed (prints text) w u v p q = (subst (λ o. Takes o v.out text) p.1.1 q.0, only_out_then w u v p q.1)
stays_then_deed (plays turns stage) w u v p q =
    (same_then_shelf w.shelf u.shelf v.shelf p.0 q.0, subst (λ s. ComesTo (stage turns) s (streams_of v)) (same_streams w u p.1) q.1)
stays_then_deed (pipes line left output) w u v p q = (
  same_then_shelf w.shelf u.shelf v.shelf p.0 q.0,
  subst (λ i. LosesRead i v.input left) p.1.0 q.1,
  subst (λ o. Takes o v.out output) p.1.1 q.2,
  q.3 ∙ p.1.2,
)
stays_then_deed (tells text) w u v p q = (subst (λ e. Takes e v.err text) p.1.2 q.0, only_err_then w u v p q.1)

stays_then_stop : (deed : Deed) (w u v : World) (stop : Stop) → Stays w u → StopsDeed deed u v stop → StopsDeed deed w v stop
stays_then_stop prepares w u v stop p q = (q.0, stays_then w u v p q.1)
stays_then_stop (stores name bytes) w u v stop p q = (same_then_store w.shelf u.shelf v.shelf name stop p.0 q.0, only_then w u v p.1 q.1)
stays_then_stop (prints text) w u v stop p q = (subst (λ o. StopsPrint o v.out text stop) p.1.1 q.0, only_out_then w u v p q.1)
stays_then_stop (plays turns stage) w u v stop p q = (
  same_then_shelf w.shelf u.shelf v.shelf p.0 q.0,
  (q.1.0, q.1.1, subst (λ s. StopsRun turns stage q.1.0 s (streams_of v)) (same_streams w u p.1) q.1.2),
)
stays_then_stop (pipes line left output) w u v stop p q =
    (same_then_shelf w.shelf u.shelf v.shelf p.0 q.0, q.1 ∙ p.1.2, stays_then_pipes line w u v stop p.1 q.2)
stays_then_stop (tells text) w u v stop p q = (q.0, subst (λ e. FailsIn e v.err text) p.1.2 q.1, only_err_then w u v p q.2)

pub stays_then_all : (deeds : List Deed) (w u v : World) → Stays w u → DoesAll deeds u v → DoesAll deeds w v
stays_then_all [] w u v p q = stays_then w u v p q
stays_then_all (deed ∷ deeds) w u v p q = (q.0, stays_then_deed deed w u q.0 p q.1, q.2)

pub stays_then_stops : (deeds : List Deed) (w u v : World) (stop : Stop) → Stays w u → StopsIn deeds u v stop → StopsIn deeds w v stop
stays_then_stops [] w u v stop p q = q
stays_then_stops (deed ∷ deeds) w u v stop p (inl q) = inl (stays_then_stop deed w u v stop p q)
stays_then_stops (deed ∷ deeds) w u v stop p (inr q) = inr (q.0, stays_then_deed deed w u q.0 p q.1, q.2)

-- ---- work that begins where nothing has changed yet

pub stays_then_works : (due : Due) (w u v : World) (end : Result CommandAnswer Stop) → Stays w u → Works due u v end → Works due w v end
stays_then_works due w u v (Ok answer) p q = (q.0, q.1, stays_then_all due.deeds w u v p q.2)
stays_then_works due w u v (Err stop) p q = stays_then_stops due.deeds w u v stop p q

-- what is due later is due here
pub stays_then_comes : (loads : Bool) (Later IsDueAt : World → Due → Type 0) (w u v : World) (end : Result CommandAnswer Stop) → Stays w u
    → ((due : Due) → Later u due → IsDueAt w due) → Comes loads Later u v end → Comes loads IsDueAt w v end
stays_then_comes loads Later IsDueAt w u v end p f (inr q) = inr (q.0, f q.0 q.1, stays_then_works q.0 w u v end p q.2)
stays_then_comes loads Later IsDueAt w u v (Ok answer) p f (inl q) = absurd q
stays_then_comes true Later IsDueAt w u v (Err stop) p f (inl q) =
    inl (same_then_load w.shelf u.shelf v.shelf stop p.0 q.0, only_then w u v p.1 q.1)
stays_then_comes false Later IsDueAt w u v (Err stop) p f (inl q) = inl (q.0, stays_then w u v p q.1)

-- what is due is due under another name
pub due_as : (loads : Bool) (Later IsDueAt : World → Due → Type 0) (w v : World) (end : Result CommandAnswer Stop)
    → ((due : Due) → Later w due → IsDueAt w due) → Comes loads Later w v end → Comes loads IsDueAt w v end
due_as loads Later IsDueAt w v end f q = stays_then_comes loads Later IsDueAt w w v end (stays w) f q

-- ---- ends

-- an answer alone is due
answers_due : (IsDueAt : World → Due → Type 0) (answer : CommandAnswer) (w : World) → is_stop answer.done ≡ false → IsDueAt w (answers answer)
    → Comes false IsDueAt w w (Ok answer)
answers_due IsDueAt answer w kind due = inr (answers answer, due, (refl, kind, stays w))

-- memory ran out before any deed
pub no_memory : (IsDueAt : World → Due → Type 0) (w : World) → Comes false IsDueAt w w (Err NoMemory)
no_memory IsDueAt w = inl (refl, stays w)

-- what is so of some files, where nothing had changed before
pub over_as : (IsSo Also : Files → Type 0) (a b c : Seen Files) → SameShelf a b → ((files : Files) → IsSo files → Also files) → Over IsSo b c → Over Also a c
over_as IsSo Also a b c p f q = record {
  files = q.files;
  agree = agree_before a.told b.told q.files p.0 q.agree;
  same = same_then_shelf a b c p q.same;
  is = f q.files q.is;
}

-- what is so of all files
pub over_any : (IsSo : Files → Type 0) (a b : Seen Files) → SameShelf a b → ((files : Files) → IsSo files) → Over IsSo a b
over_any IsSo a b p f = record {
  files = told_or a.told (λ name. None);
  agree = told_agree a.told (λ name. None);
  same = p;
  is = f (told_or a.told (λ name. None));
}

-- a file that was looked for
pub over_found : (old new : Seen Files) (word : ℕ) (name : List ℕ) (found : Option (Vec ℕ Global)) → Finds old.told name found → SameShelf old new
    → Over (λ files. there word name (option_map (λ v. v.items) found) ≡ file_at files word name) old new
over_found old new word name found finds same = record {
  files = told_or old.told (λ other. option_map (λ v. v.items) found);
  agree = told_agree old.told (λ other. option_map (λ v. v.items) found);
  same = same;
  is = ap (there word name) (sym (told_has old.told name found finds));
}

pub load_found : (old new : Seen Files) (word : ℕ) (name : List ℕ) (found : Option (Vec ℕ Global)) (file : Vec ℕ Global) → Finds old.told name found
    → SameShelf old new → found ≡ Some file → Over (λ files. Ok file.items ≡ file_at files word name) old new
load_found old new word name found file finds same is =
    subst (λ f. Over (λ files. there word name (option_map (λ v. v.items) f) ≡ file_at files word name) old new) is
    (over_found old new word name found finds same)

pub load_lacks : (old new : Seen Files) (word : ℕ) (name text : List ℕ) (found : Option (Vec ℕ Global)) → Finds old.told name found
    → SameShelf old new → found ≡ None → text ≡ name → Over (λ files. Err (lacks word text) ≡ file_at files word name) old new
load_lacks old new word name text found finds same is text_is =
    subst (λ n. Over (λ files. Err (lacks word n) ≡ file_at files word name) old new) (sym text_is)
    (subst (λ f. Over (λ files. there word name (option_map (λ v. v.items) f) ≡ file_at files word name) old new) is
    (over_found old new word name found finds same))

-- an end by another name, and where nothing had changed before
pub gives_end_as : (IsRefused Also : Files → CommandAnswer → Type 0) (a b c : Seen Files) (end : Result CommandAnswer Stop) → SameShelf a b
    → ((files : Files) (answer : CommandAnswer) → IsRefused files answer → Also files answer) → GivesEnd IsRefused b c end → GivesEnd Also a c end
gives_end_as IsRefused Also a b c (Err stop) p f q = same_then_load a b c stop p q
gives_end_as IsRefused Also a b c (Ok answer) p f q =
    (q.0, over_as (λ files. IsRefused files answer) (λ files. Also files answer) a b c p (λ files. f files answer) q.1)

pub makes_end_as : (IsRefused Also : CommandAnswer → Type 0) (end : Result CommandAnswer Stop) → ((answer : CommandAnswer) → IsRefused answer → Also answer)
    → MakesEnd IsRefused end → MakesEnd Also end
makes_end_as IsRefused Also (Err stop) f q = q
makes_end_as IsRefused Also (Ok answer) f q = (q.0, f answer q.1)

-- a stage that only takes memory ended, where the shelf was loaded from before
pub makes_gives : (IsSo : Files → Type 0) (IsRefused : CommandAnswer → Type 0) (Also : Files → CommandAnswer → Type 0) (a b : Seen Files)
    (end : Result CommandAnswer Stop) → Over IsSo a b → ((files : Files) (answer : CommandAnswer) → IsSo files → IsRefused answer → Also files answer)
    → MakesEnd IsRefused end → GivesEnd Also a b end
makes_gives IsSo IsRefused Also a b (Err stop) o f q = subst (StopsLoad a b) (sym q) o.same
makes_gives IsSo IsRefused Also a b (Ok answer) o f q =
    (q.0, record { files = o.files; agree = o.agree; same = o.same; is = f o.files answer o.is q.1 })

-- a stage that loads ended the command
pub gives_ends : (IsDueAt : World → Due → Type 0) (IsRefused : Files → CommandAnswer → Type 0) (w v : World) (end : Result CommandAnswer Stop)
    → GivesEnd IsRefused w.shelf v.shelf end → OnlyShelf w v
    → ((files : Files) (answer : CommandAnswer) → AgreeWith w.shelf.told files → IsRefused files answer → IsDueAt w (answers answer))
    → Comes true IsDueAt w v end
gives_ends IsDueAt IsRefused w v (Err stop) q only f = inl (q, only)
gives_ends IsDueAt IsRefused w v (Ok answer) q only f =
    inr (answers answer, f q.1.files answer q.1.agree q.1.is, (refl, q.0, (q.1.same, only)))

-- it gave a value, and the command went on
pub gives_then : (IsDueAt Later : World → Due → Type 0) (IsSo : Files → Type 0) (w u v : World) (end : Result CommandAnswer Stop)
    → Over IsSo w.shelf u.shelf → OnlyShelf w u
    → ((files : Files) (due : Due) → AgreeWith w.shelf.told files → IsSo files → Later u due → IsDueAt w due)
    → Comes true Later u v end → Comes true IsDueAt w v end
gives_then IsDueAt Later IsSo w u v end q only f comes =
    stays_then_comes true Later IsDueAt w u v end (q.same, only) (λ due later. f q.files due q.agree q.is later) comes

-- a stage that takes memory ended a command that loads nothing
pub makes_ends : (IsDueAt : World → Due → Type 0) (IsRefused : CommandAnswer → Type 0) (w : World) (end : Result CommandAnswer Stop) → MakesEnd IsRefused end
    → ((answer : CommandAnswer) → IsRefused answer → IsDueAt w (answers answer)) → Comes false IsDueAt w w end
makes_ends IsDueAt IsRefused w (Ok answer) q f = answers_due IsDueAt answer w q.0 (f answer q.1)
makes_ends IsDueAt IsRefused w (Err stop) q f = rw q (no_memory IsDueAt w)

-- ---- deeds

-- one deed before others
pub works_more : (deed : Deed) (deeds : List Deed) (answer : Option CommandAnswer) (w u v : World) (end : Result CommandAnswer Stop) → DoesDeed deed w u
    → Works (record { deeds = deeds; answer = answer }) u v end → Works (record { deeds = deed ∷ deeds; answer = answer }) w v end
works_more deed deeds answer w u v (Ok d) p q = (q.0, q.1, (u, p, q.2))
works_more deed deeds answer w u v (Err stop) p q = inr (u, p, q)

-- deeds after deeds
pub all_then : (first deeds : List Deed) (w u v : World) → DoesAll first w u → DoesAll deeds u v → DoesAll (first ++ deeds) w v
all_then [] deeds w u v p q = stays_then_all deeds w u v p q
all_then (deed ∷ first) deeds w u v p q = (p.0, p.1, all_then first deeds p.0 u v p.2 q)

pub all_then_stops : (first deeds : List Deed) (w u v : World) (stop : Stop) → DoesAll first w u → StopsIn deeds u v stop
    → StopsIn (first ++ deeds) w v stop
all_then_stops [] deeds w u v stop p q = stays_then_stops deeds w u v stop p q
all_then_stops (deed ∷ first) deeds w u v stop p q = inr (p.0, p.1, all_then_stops first deeds p.0 u v stop p.2 q)

pub deeds_then : (first deeds : List Deed) (w u v : World) (r : Result (Unit {0}) Stop) → DoesAll first w u → DoesOrStops deeds u v r
    → DoesOrStops (first ++ deeds) w v r
deeds_then first deeds w u v (Ok d) p q = all_then first deeds w u v p q
deeds_then first deeds w u v (Err stop) p q = all_then_stops first deeds w u v stop p q

-- deeds before others
pub all_then_works : (first deeds : List Deed) (answer : Option CommandAnswer) (w u v : World) (end : Result CommandAnswer Stop) → DoesAll first w u
    → Works (record { deeds = deeds; answer = answer }) u v end → Works (record { deeds = first ++ deeds; answer = answer }) w v end
all_then_works first deeds answer w u v (Ok d) p q = (q.0, q.1, all_then first deeds w u v p q.2)
all_then_works first deeds answer w u v (Err stop) p q = all_then_stops first deeds w u v stop p q

-- deeds of which one was stopped, and others that are not begun
pub stops_before : (first deeds : List Deed) (w v : World) (stop : Stop) → StopsIn first w v stop → StopsIn (first ++ deeds) w v stop
stops_before [] deeds w v stop p = absurd p
stops_before (deed ∷ first) deeds w v stop (inl p) = inl p
stops_before (deed ∷ first) deeds w v stop (inr p) = inr (p.0, p.1, stops_before first deeds p.0 v stop p.2)

-- a text was written, or a part of it
pub written : (text : List ℕ) (w v : World) (answer : CommandAnswer) → is_stop answer.done ≡ false → Takes w.out v.out text → OnlyOut w v
    → Works (record { deeds = prints text ∷ []; answer = Some answer }) w v (Ok answer)
written text w v answer kind took only = (refl, kind, (v, (took, only), stays v))

-- a file was set, and nothing but the shelf was worked on
pub shelf_set : (old new : Seen Files) (name bytes : List ℕ) → Sets old new name bytes → (input out err : Seen (List ℕ))
    → DoesAll (stores name bytes ∷ []) (world old input out err) (world new input out err)
shelf_set old new name bytes set input out err = (world new input out err, (set, (refl, refl, refl)), stays (world new input out err))

-- a call failed
pub failed : (before now : ℕ) → CountsFailure true before now → Rises before now
failed before now count = record { never_falls = count.never_falls; rose = count.rises refl }

-- The shelf failed, or memory ran out.
pub store_stopped : (error : ShelfError) (old new : Seen Files) (name bytes : List ℕ) → Stores old.told new.told name bytes (Err error)
    → CountsFailure (shelf_failed {A = Unit {0}} (Err error)) old.faults new.faults → StopsStore old new name (shelf_stop error)
store_stopped shelf.Failed old new name bytes left count = (left, failed old.faults new.faults count)
store_stopped shelf.NoMemory old new name bytes left count = (left, count.stays refl)

-- ---- checks

-- a stage that takes memory by another name
pub makes_as : {A : Type 0} (IsChecked Also : Check A → Type 0) (result : Result A Ending) → ((check : Check A) → IsChecked check → Also check)
    → Makes IsChecked result → Makes Also result
makes_as IsChecked Also (Ok value) f q = f (Ok value) q
makes_as IsChecked Also (Err ending) f q =
    makes_end_as (λ answer. IsChecked (Err answer)) (λ answer. Also (Err answer)) (end_of ending) (λ answer h. f (Err answer) h) q

-- a stage that takes memory, behind one that loads
pub makes_over : {A : Type 0} (IsSo : Files → Type 0) (IsMade : Check A → Type 0) (IsChecked : Files → Check A → Type 0) (a b : Seen Files)
    (result : Result A Ending) → Over IsSo a b → ((files : Files) (check : Check A) → IsSo files → IsMade check → IsChecked files check)
    → Makes IsMade result → Gives IsChecked a b result
makes_over IsSo IsMade IsChecked a b (Ok value) o f q =
    over_as IsSo (λ files. IsChecked files (Ok value)) a a b (same_shelf a) (λ files h. f files (Ok value) h q) o
makes_over IsSo IsMade IsChecked a b (Err ending) o f q =
    makes_gives IsSo (λ answer. IsMade (Err answer)) (λ files answer. IsChecked files (Err answer)) a b (end_of ending) o
    (λ files answer h r. f files (Err answer) h r) q

-- a file that was loaded is that of the words
pub file_is : (input : Named) (name file bytes : List ℕ) (files : Files) → name ≡ input.text → bytes ≡ file → Ok file ≡ file_at files input.word name
    → Ok bytes ≡ file_that_is_named files input
file_is input name file bytes files is same found = ap (λ b. Ok b) same ∙ found ∙ ap (file_at files input.word) is

-- and so is one that is not there
pub file_is_not : (input : Named) (name : List ℕ) (files : Files) (answer : CommandAnswer) → name ≡ input.text
    → Err answer ≡ file_at files input.word name → Err answer ≡ file_that_is_named files input
file_is_not input name files answer is lacks = lacks ∙ ap (file_at files input.word) is
