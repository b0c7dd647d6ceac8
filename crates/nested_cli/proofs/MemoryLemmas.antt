-- That a run takes no memory.
use Rattle.std.proofs.Common.{◌≡◌, ◌≢◌, ◌⊎◌, ℕ, Bool, true, false, List, [], ◌∷◌, ◌++◌, ◌&&◌, map, Option, Some, None, Result, Ok, Err, refl, sym, ◌∙◌, ap, subst, inl, inr, append_assoc}
use Rattle.std.specs.List.{list_all}
use Rattle.std.proofs.lemmas.Option.{same_Some}
use Rattle.run_definition.specs.declared.io_fault.IoFault.{IoFault}
use Rattle.run_definition.specs.declared.io_fault.IoFault.TheVariants as io
use Rattle.run_definition.specs.Run.{Run}
use Rattle.run_definition.specs.Turn.{Turn}
use Rattle.unix_definition.specs.System.{System}
use Rattle.unix_definition.specs.Files.{GuestFiles, bytes_at, node_named}
use Rattle.unix_calls.specs.Stages.{ComesTo, LosesRead, Stage, stage_of}
use Rattle.nv_values.specs.Names.{Text}
use Rattle.nv_translate.specs.Made.{AreMade}
use Rattle.command_words.specs.Meaning.{command_of}
use Rattle.command_words.specs.declared.command.Command.{Command}
use Rattle.command_words.specs.declared.command.Command.TheVariants as command
use Rattle.mips_definition.specs.Step.{turn}
use Rattle.elf_definition.specs.Start.{Source, image_of}
use Rattle.elf_definition.specs.Loading.{start_of}
use Rattle.jvm_definition.specs.Step.{Loaded, loaded_program, loaded_turn}
use Rattle.class_definition.specs.Linking.{program_of}
use Rattle.translate_program.specs.declared.named_file.NamedFile.{NamedFile}
use Rattle.command_deeds.specs.Deeds.{Deed, DoesDeed, StopsDeed, StopsIn, pipes, plays, prepares, prints, stores, tells}
use Rattle.command_deeds.specs.Ends.{CommandAnswer, Comes, Due, StopsEarly, answers, done_of_stop, final, is_stop}
use Rattle.command_deeds.specs.Line.{answer_line}
use Rattle.command_deeds.specs.Runs.{GivenFile, Plan, found_for, keeping, kept, run_for, session_run}
use Rattle.command_deeds.specs.Stops.{stop_of}
use Rattle.command_deeds.specs.World.{OnlyShelf, Seen, Takes, World, streams_of}
use Rattle.command_deeds.specs.declared.done.Done.{Done}
use Rattle.command_deeds.specs.declared.done.Done.TheVariants as done
use Rattle.command_deeds.specs.declared.stop.Stop.{Stop}
use Rattle.command_deeds.specs.declared.stop.Stop.TheVariants.{ReadFault, WriteFault, ShelfFault, NoMemory}
use Rattle.command_translate.specs.Go.{IsDueOfTranslated, IsDueOfTranslatedBy, allowed}
use Rattle.command_translate.specs.Metered.{IsDueOfMetered, allowed_by_meter}
use Rattle.command_translate.specs.Stores.{classes_for, program_for, files_stored}
use Rattle.nested_cli.specs.Commands.{Does, IsDueOf, loads_files, plan}
use Rattle.nested_cli.specs.Laws.{RanWhole, RunsTakeNoMemory, kept_by}
use Rattle.nested_cli.proofs.CheckLemmas.{checked-twice, not-told}

-- ---- deeds that read and write nothing

abbrev is_quiet : Deed → Bool
is_quiet prepares = true
is_quiet (stores name bytes) = true
is_quiet (prints text) = false
is_quiet (plays turns stage) = false
is_quiet (pipes line left output) = false
is_quiet (tells text) = false

only-then : (w u v : World) → OnlyShelf w u → OnlyShelf u v → OnlyShelf w v
only-then w u v p q = (q.0 ∙ p.0, q.1 ∙ p.1, q.2 ∙ p.2)

quiet-does : (deed : Deed) (w v : World) → is_quiet deed ≡ true → DoesDeed deed w v → OnlyShelf w v
quiet-does prepares w v h p = p.1
quiet-does (stores name bytes) w v h p = p.1
quiet-does (prints text) w v h p = cc
quiet-does (plays turns stage) w v h p = cc
quiet-does (pipes line left output) w v h p = cc
quiet-does (tells text) w v h p = cc

quiet-stops : (deed : Deed) (w v : World) (stop : Stop) → is_quiet deed ≡ true → StopsDeed deed w v stop → OnlyShelf w v
quiet-stops prepares w v stop h p = p.1.1
quiet-stops (stores name bytes) w v stop h p = p.1
quiet-stops (prints text) w v stop h p = cc
quiet-stops (plays turns stage) w v stop h p = cc
quiet-stops (pipes line left output) w v stop h p = cc
quiet-stops (tells text) w v stop h p = cc

and-parts : (a b : Bool) → (a && b) ≡ true → (a ≡ true) × (b ≡ true)
and-parts true b h = (refl, h)
and-parts false b h = cc

-- a stop in deeds that begin with such ones: there, or behind them
past : (front rear : List Deed) (w v : World) (stop : Stop) → list_all is_quiet front ≡ true → StopsIn (front ++ rear) w v stop
    → OnlyShelf w v ⊎ ((u : World) × OnlyShelf w u × StopsIn rear u v stop)
past [] rear w v stop h stops = inr (w, (refl, refl, refl), stops)
past (deed ∷ front) rear w v stop h (inl stops) = inl (quiet-stops deed w v stop (and-parts (is_quiet deed) (list_all is_quiet front) h).0 stops)
past (deed ∷ front) rear w v stop h (inr stops) =
    let quiet : (is_quiet deed ≡ true) × (list_all is_quiet front ≡ true) = and-parts (is_quiet deed) (list_all is_quiet front) h in
    behind (quiet-does deed w stops.0 quiet.0 stops.1) (past front rear stops.0 v stop quiet.1 stops.2)
  where
    behind : OnlyShelf w stops.0 → OnlyShelf stops.0 v ⊎ ((u : World) × OnlyShelf stops.0 u × StopsIn rear u v stop)
        → OnlyShelf w v ⊎ ((u : World) × OnlyShelf w u × StopsIn rear u v stop)
    behind only (inl there) = inl (only-then w stops.0 v only there)
    behind only (inr later) = inr (later.0, only-then w stops.0 later.0 only later.1, later.2)

all-stop : (deeds : List Deed) (w v : World) (stop : Stop) → list_all is_quiet deeds ≡ true → StopsIn deeds w v stop → OnlyShelf w v
all-stop [] w v stop h stops = absurd stops
all-stop (deed ∷ deeds) w v stop h (inl stops) = quiet-stops deed w v stop (and-parts (is_quiet deed) (list_all is_quiet deeds) h).0 stops
all-stop (deed ∷ deeds) w v stop h (inr stops) =
    let quiet : (is_quiet deed ≡ true) × (list_all is_quiet deeds ≡ true) = and-parts (is_quiet deed) (list_all is_quiet deeds) h in
    only-then w stops.0 v (quiet-does deed w stops.0 quiet.0 stops.1) (all-stop deeds stops.0 v stop quiet.1 stops.2)

keep-quiet : (files : GuestFiles) (name : Text) (node : Option ℕ) (deeds : List Deed) → list_all is_quiet deeds ≡ true
    → list_all is_quiet (keeping files name node ++ deeds) ≡ true
keep-quiet files name None deeds h = h
keep-quiet files name (Some n) deeds h = h

kept-quiet : (files : GuestFiles) (names : List Text) → list_all is_quiet (kept files names) ≡ true
kept-quiet files [] = refl
kept-quiet files (name ∷ names) = keep-quiet files name (node_named files name) (kept files names) (kept-quiet files names)

stored-quiet : (files : List NamedFile) → list_all is_quiet (files_stored files ++ prepares ∷ []) ≡ true
stored-quiet [] = refl
stored-quiet (file ∷ files) = stored-quiet files

-- ---- the deeds of a run

-- a run is made once, behind deeds that read and write nothing, and then files of these names are kept
record RunsOnce (due : Due) (names : List Text) : Type 0 where
  pub front : List Deed
  pub quiet : list_all is_quiet front ≡ true
  pub turns : ℕ
  pub stage : ℕ → Stage
  pub files : GuestFiles
  pub is : due.deeds ≡ front ++ plays turns stage ∷ kept files names

abbrev RunsOnceAtMost : Due → List Text → Type 0
RunsOnceAtMost due names = (due.deeds ≡ []) ⊎ RunsOnce due names

refusing : (due : Due) (names : List Text) (answer : CommandAnswer) → due ≡ answers answer → RunsOnceAtMost due names
refusing due names answer is = inl (ap (λ (d : Due). d.deeds) is)

running : {S : Type 0} (turn : S → Turn S) (s : S) (plan : Plan) (given : List GivenFile) (input : Option (List ℕ)) (pieces : List (List ℕ)) (due : Due)
    → due ≡ session_run turn s plan given input pieces → RunsOnceAtMost due plan.session.keep.names
running turn s plan given input pieces due is = inr (record {
  front = [];
  quiet = refl;
  turns = plan.session.steps;
  stage = λ n. stage_of turn (run_for n turn s plan given input pieces);
  files = (run_for plan.session.steps turn s plan given input pieces).system.files;
  is = ap (λ (d : Due). d.deeds) is;
})

translated : (plan : Plan) (method_bytes : ℕ) (due : Due) (input : Option (List ℕ)) (source : Source) (given : List GivenFile)
    → IsDueOfTranslated AreMade plan method_bytes source given input due → RunsOnceAtMost due plan.session.keep.names
translated plan method_bytes due input source given t =
    let run : ℕ → Run Loaded System = λ n. classes_for plan source given t.translated.classes input t.pieces n in
    let rear : List Deed = plays (allowed plan source) (λ n. stage_of loaded_turn (run n)) ∷ kept (run (allowed plan source)).system.files plan.session.keep.names in
    inr (record {
      front = files_stored t.files ++ prepares ∷ [];
      quiet = stored-quiet t.files;
      turns = allowed plan source;
      stage = λ n. stage_of loaded_turn (run n);
      files = (run (allowed plan source)).system.files;
      is = ap (λ (d : Due). d.deeds) t.is ∙ sym (append_assoc (files_stored t.files) (prepares ∷ []) rear);
    })

metered : (plan : Plan) (method_bytes turns : ℕ) (due : Due) (input : Option (List ℕ)) (source : Source) (given : List GivenFile)
    → IsDueOfMetered AreMade plan method_bytes turns source given input due → RunsOnceAtMost due plan.session.keep.names
metered plan method_bytes turns due input source given t =
    let run : ℕ → Run Loaded System = λ n. classes_for plan source given t.translated.classes input t.pieces n in
    let files : GuestFiles = (program_for plan source given input t.pieces turns).system.files in
    let rear : List Deed = plays (allowed_by_meter turns source) (λ n. stage_of loaded_turn (run n)) ∷ kept files plan.session.keep.names in
    inr (record {
      front = files_stored t.files ++ prepares ∷ [];
      quiet = stored-quiet t.files;
      turns = allowed_by_meter turns source;
      stage = λ n. stage_of loaded_turn (run n);
      files = files;
      is = ap (λ (d : Due). d.deeds) t.is ∙ sym (append_assoc (files_stored t.files) (prepares ∷ []) rear);
    })

translated-by : (meter : Option ℕ) (plan : Plan) (method_bytes : ℕ) (due : Due) (input : Option (List ℕ)) (source : Source) (given : List GivenFile)
    → IsDueOfTranslatedBy AreMade meter plan method_bytes source given input due → RunsOnceAtMost due plan.session.keep.names
translated-by None plan method_bytes due input source given t = translated plan method_bytes due input source given t
translated-by (Some turns) plan method_bytes due input source given t = metered plan method_bytes turns due input source given t

runs-once : (c : Command) (moment : ℕ) (w : World) (due : Due) (names : List Text) → kept_by c ≡ Some names → IsDueOf AreMade c moment w due
    → RunsOnceAtMost due names
runs-once (command.Go input name pages method_bytes meter session) moment w due names is d =
    subst (RunsOnceAtMost due) (same_Some session.keep.names names is)
    (checked-twice (RunsOnceAtMost due session.keep.names)
    (λ image given. IsDueOfTranslatedBy AreMade meter (plan name session moment) method_bytes image given w.input.told due) due d.source d.found
    (λ image. found_for (plan name session moment) d.with_files) (refusing due session.keep.names) d.found_is d.refused d.done
    (translated-by meter (plan name session moment) method_bytes due w.input.told))
runs-once (command.Interp input name pages session) moment w due names is d =
    let made : Plan = plan name session moment in
    subst (RunsOnceAtMost due) (same_Some session.keep.names names is)
    (checked-twice (RunsOnceAtMost due session.keep.names)
    (λ image given. due ≡ session_run turn (start_of (image_of image)) made given w.input.told d.pieces) due d.source d.found
    (λ image. found_for made d.with_files) (refusing due session.keep.names) d.found_is d.refused d.done
    (λ image given. running turn (start_of (image_of image)) made given w.input.told d.pieces due))
runs-once (command.Run class words session) moment w due names is d =
    let made : Plan = plan class.name session moment in
    subst (RunsOnceAtMost due) (same_Some session.keep.names names is)
    (checked-twice (RunsOnceAtMost due session.keep.names)
    (λ accepted given. due ≡ session_run loaded_turn (loaded_program (program_of accepted) words) made given w.input.told d.pieces) due d.classes d.found
    (λ accepted. found_for made d.with_files) (refusing due session.keep.names) d.found_is d.refused d.done
    (λ accepted given. running loaded_turn (loaded_program (program_of accepted) words) made given w.input.told d.pieces due))
runs-once (command.Translate input name pages method_bytes meter) moment w due names is d = cc
runs-once (command.Verify class) moment w due names is d = cc
runs-once (command.Frames class) moment w due names is d = cc
runs-once (command.Check class) moment w due names is d = cc
runs-once (command.Asm input output) moment w due names is d = cc
runs-once (command.List input) moment w due names is d = cc
runs-once (command.Make count method_bytes) moment w due names is d = cc
runs-once (command.Link output inputs entry) moment w due names is d = cc
runs-once (command.Pipe classes words steps disk pipe) moment w due names is d = cc

-- ---- want of memory

no-run-stop : (fault : IoFault) {A : Type 0} → NoMemory ≡ stop_of fault → A
no-run-stop io.ReadFault e = cc
no-run-stop io.WriteFault e = cc

some-names : (files : GuestFiles) (names : List Text) (w v : World) (stop : Stop) → StopsIn (kept files names) w v stop → names ≢ []
some-names files [] w v stop stops = absurd stops
some-names files (name ∷ names) w v stop stops = λ e. cc

-- a run among deeds was made to its end
record Played (due : Due) (w v : World) : Type 0 where
  pub turns : ℕ
  pub stage : ℕ → Stage
  pub front : List Deed
  pub rear : List Deed
  pub runs : due.deeds ≡ front ++ plays turns stage ∷ rear
  pub input : LosesRead w.input v.input (stage turns).left
  pub out : Takes w.out v.out (stage turns).output

abbrev Spares : Due → List Text → World → World → Type 0
Spares due names w v = ((v.input ≡ w.input) × (v.out ≡ w.out)) ⊎ ((names ≢ []) × Played due w v)

stopped-run : (due : Due) (names : List Text) (r : RunsOnce due names) (w u v : World) → OnlyShelf w u
    → StopsIn (plays r.turns r.stage ∷ kept r.files names) u v NoMemory → Spares due names w v
stopped-run due names r w u v only (inl stops) = no-run-stop stops.1.0 stops.1.1
stopped-run due names r w u v only (inr stops) =
    let y : World = stops.0 in
    let came : ComesTo (r.stage r.turns) (streams_of u) (streams_of y) = stops.1.1 in
    let last : OnlyShelf y v = all-stop (kept r.files names) y v NoMemory (kept-quiet r.files names) stops.2 in
    let lost : LosesRead w.input y.input (r.stage r.turns).left = subst (λ (s : Seen (List ℕ)). LosesRead s y.input (r.stage r.turns).left) only.0 came.input in
    let took : Takes w.out y.out (r.stage r.turns).output = subst (λ (s : Seen (List ℕ)). Takes s y.out (r.stage r.turns).output) only.1 came.out in
    inr (
      some-names r.files names y v NoMemory stops.2,
      record {
        turns = r.turns;
        stage = r.stage;
        front = r.front;
        rear = kept r.files names;
        runs = r.is;
        input = subst (λ (s : Seen (List ℕ)). LosesRead w.input s (r.stage r.turns).left) (sym last.0) lost;
        out = subst (λ (s : Seen (List ℕ)). Takes w.out s (r.stage r.turns).output) (sym last.1) took;
      },
    )

stopped : (due : Due) (names : List Text) (w v : World) → RunsOnceAtMost due names → StopsIn due.deeds w v NoMemory → Spares due names w v
stopped due names w v (inl none) stops = absurd (subst (λ deeds. StopsIn deeds w v NoMemory) none stops)
stopped due names w v (inr r) stops =
    by (past r.front (plays r.turns r.stage ∷ kept r.files names) w v NoMemory r.quiet (subst (λ deeds. StopsIn deeds w v NoMemory) r.is stops))
  where
    by : OnlyShelf w v ⊎ ((u : World) × OnlyShelf w u × StopsIn (plays r.turns r.stage ∷ kept r.files names) u v NoMemory) → Spares due names w v
    by (inl only) = inl (only.0, only.1)
    by (inr later) = stopped-run due names r w later.0 v later.1 later.2

no-memory-stop : (stop : Stop) → done.NoMemory ≡ done_of_stop stop → stop ≡ NoMemory
no-memory-stop ReadFault e = cc
no-memory-stop WriteFault e = cc
no-memory-stop ShelfFault e = cc
no-memory-stop NoMemory e = refl

early : (loads : Bool) (w v : World) → StopsEarly loads w v (Err NoMemory) → OnlyShelf w v
early true w v p = p.1
early false w v p = p.1.1

-- what the work of a command leaves that ended so
abbrev SparesBy : Command → ℕ → List Text → World → World → Type 0
SparesBy c moment names w v = ((v.input ≡ w.input) × (v.out ≡ w.out)) ⊎ ((names ≢ []) × RanWhole c moment w v)

work-spares : (c : Command) (moment : ℕ) (names : List Text) (w u : World) (end : Result CommandAnswer Stop) → kept_by c ≡ Some names
    → Comes (loads_files c) (IsDueOf AreMade c moment) w u end → done.NoMemory ≡ (final end).done → SparesBy c moment names w u
work-spares c moment names w u (Ok answer) keeps (inl p) is = absurd p
work-spares c moment names w u (Ok answer) keeps (inr p) is =
    let both : false ≡ true = sym p.2.1 ∙ sym (ap is_stop is) in
    cc
work-spares c moment names w u (Err stop) keeps comes is =
    by (subst (λ s. Comes (loads_files c) (IsDueOf AreMade c moment) w u (Err s)) (no-memory-stop stop is) comes)
  where
    whole : (due : Due) → IsDueOf AreMade c moment w due → Spares due names w u → SparesBy c moment names w u
    whole due d (inl same) = inl same
    whole due d (inr played) = inr (
      played.0,
      record {
        due = due;
        is_due = d;
        turns = played.1.turns;
        stage = played.1.stage;
        front = played.1.front;
        rear = played.1.rear;
        runs = played.1.runs;
        input = played.1.input;
        out = played.1.out;
      },
    )

    by : Comes (loads_files c) (IsDueOf AreMade c moment) w u (Err NoMemory) → SparesBy c moment names w u
    by (inl p) =
        let only : OnlyShelf w u = early (loads_files c) w u p in
        inl (only.0, only.1)
    by (inr p) = whole p.0 p.1 (stopped p.0 names w u (runs-once c moment w p.0 names keeps p.1) p.2)

-- the line writes to error output alone
behind-line : (c : Command) (moment : ℕ) (names : List Text) (w u v : World) → v.input ≡ u.input → v.out ≡ u.out → SparesBy c moment names w u
    → SparesBy c moment names w v
behind-line c moment names w u v input out (inl same) = inl (input ∙ same.0, out ∙ same.1)
behind-line c moment names w u v input out (inr ran) = inr (
  ran.0,
  record {
    due = ran.1.due;
    is_due = ran.1.is_due;
    turns = ran.1.turns;
    stage = ran.1.stage;
    front = ran.1.front;
    rear = ran.1.rear;
    runs = ran.1.runs;
    input = subst (λ (s : Seen (List ℕ)). LosesRead w.input s (ran.1.stage ran.1.turns).left) (sym input) ran.1.input;
    out = subst (λ (s : Seen (List ℕ)). Takes w.out s (ran.1.stage ran.1.turns).output) (sym out) ran.1.out;
  },
)

pub no-memory-in-runs : RunsTakeNoMemory
no-memory-in-runs words moment w v c names means keeps does =
    let is : done.NoMemory ≡ (final does.end).done = not-told (answer_line (final does.end).name (final does.end).done) does.worked.err v.err (final does.end).done done.NoMemory (λ e. cc) does.line.3 in
    behind-line c moment names w does.worked v does.line.1 does.line.2
    (work-spares c moment names w does.worked does.end keeps (does.due c means) is)
