-- What an end says of the counts of faults.
use Rattle.std.proofs.Common.{◌≡◌, ◌⊎◌, ℕ, suc, Bool, true, false, List, [], ◌∷◌, Result, Ok, Err, refl, sym, ap, subst, inl, inr, arith}
use Rattle.run_definition.specs.declared.io_fault.IoFault.{IoFault}
use Rattle.run_definition.specs.declared.io_fault.IoFault.TheVariants as io
use Rattle.nv_outside.specs.Faults.{CountsFailure}
use Rattle.unix_calls.specs.Stages.{FailsCall, OneFailsBehind, Stage}
use Rattle.jvm_definition.specs.Step.{Loaded}
use Rattle.unix_pipe_laws.specs.Pipelines.{Pipeline}
use Rattle.command_deeds.specs.Deeds.{Deed, DoesAll, DoesDeed, StopsDeed, StopsIn, StopsPipes, pipes, plays, prepares, prints, stores, tells}
use Rattle.command_deeds.specs.Ends.{CommandAnswer, Comes, Due, StopsEarly, is_stop}
use Rattle.command_deeds.specs.Stops.{stop_of}
use Rattle.command_deeds.specs.World.{FailsIn, Rises, StopsLoad, StopsPrint, StopsStore, World}
use Rattle.command_deeds.specs.World as world
use Rattle.command_deeds.specs.declared.stop.Stop.{Stop}
use Rattle.command_deeds.specs.declared.stop.Stop.TheVariants.{ReadFault, WriteFault, ShelfFault, NoMemory}
use Rattle.nested_cli.specs.Faults.{Failed, InputFailed, NoneFailed, OutFailed, ShelfFailed}

-- ---- one count

pub count_stays : (a b : ℕ) → b ≡ a → CountsFailure false a b
count_stays a b e = record { never_falls = omega (arith, e); rises = λ failed. cc; stays = λ sound. e }

pub count_rises : (a b : ℕ) → Rises a b → CountsFailure true a b
count_rises a b rises = record { never_falls = rises.never_falls; rises = λ failed. rises.rose; stays = λ sound. cc }

-- behind calls that did not fail, and before such calls
count_behind : (failed : Bool) (a b c : ℕ) → CountsFailure false a b → CountsFailure failed b c → CountsFailure failed a c
count_behind failed a b c before count = subst (λ n. CountsFailure failed n c) (before.stays refl) count

count_before : (failed : Bool) (a b c : ℕ) → CountsFailure failed a b → CountsFailure false b c → CountsFailure failed a c
count_before failed a b c count behind = subst (CountsFailure failed a) (sym (behind.stays refl)) count

-- ---- all counts

pub sound : (w v : World) → v.shelf.faults ≡ w.shelf.faults → v.input.faults ≡ w.input.faults → v.out.faults ≡ w.out.faults
    → v.err.faults ≡ w.err.faults → NoneFailed w v
sound w v shelf input out err = record {
  shelf_count = count_stays w.shelf.faults v.shelf.faults shelf;
  input_count = count_stays w.input.faults v.input.faults input;
  out_count = count_stays w.out.faults v.out.faults out;
  err_count = count_stays w.err.faults v.err.faults err;
}

failed_behind : (shelf input out err : Bool) (w u v : World) → NoneFailed w u → Failed shelf input out err u v → Failed shelf input out err w v
failed_behind shelf input out err w u v p q = record {
  shelf_count = count_behind shelf w.shelf.faults u.shelf.faults v.shelf.faults p.shelf_count q.shelf_count;
  input_count = count_behind input w.input.faults u.input.faults v.input.faults p.input_count q.input_count;
  out_count = count_behind out w.out.faults u.out.faults v.out.faults p.out_count q.out_count;
  err_count = count_behind err w.err.faults u.err.faults v.err.faults p.err_count q.err_count;
}

pub failed_before : (shelf input out err : Bool) (w u v : World) → Failed shelf input out err w u → NoneFailed u v → Failed shelf input out err w v
failed_before shelf input out err w u v p q = record {
  shelf_count = count_before shelf w.shelf.faults u.shelf.faults v.shelf.faults p.shelf_count q.shelf_count;
  input_count = count_before input w.input.faults u.input.faults v.input.faults p.input_count q.input_count;
  out_count = count_before out w.out.faults u.out.faults v.out.faults p.out_count q.out_count;
  err_count = count_before err w.err.faults u.err.faults v.err.faults p.err_count q.err_count;
}

-- error output alone failed behind a failure of other parts
pub err_behind : (shelf input : Bool) (w u v : World) → Failed shelf input false false w u → Failed false false false true u v
    → Failed shelf input false true w v
err_behind shelf input w u v p q = record {
  shelf_count = count_before shelf w.shelf.faults u.shelf.faults v.shelf.faults p.shelf_count q.shelf_count;
  input_count = count_before input w.input.faults u.input.faults v.input.faults p.input_count q.input_count;
  out_count = count_before false w.out.faults u.out.faults v.out.faults p.out_count q.out_count;
  err_count = count_behind true w.err.faults u.err.faults v.err.faults p.err_count q.err_count;
}

-- ---- deeds

-- what a stop says
abbrev pub StopSays : Stop → World → World → Type 0
StopSays ReadFault w v = InputFailed w v
StopSays WriteFault w v = OutFailed w v ⊎ Failed false false false true w v
StopSays ShelfFault w v = ShelfFailed w v
StopSays NoMemory w v = NoneFailed w v

on_shelf : (w v : World) → v.shelf.faults ≡ w.shelf.faults → world.OnlyShelf w v → NoneFailed w v
on_shelf w v shelf only = sound w v shelf (ap (λ i. i.faults) only.0) (ap (λ o. o.faults) only.1) (ap (λ o. o.faults) only.2)

pub stays_sound : (w v : World) → world.Stays w v → NoneFailed w v
stays_sound w v p = on_shelf w v p.0.1 p.1

deed_sound : (deed : Deed) (w v : World) → DoesDeed deed w v → NoneFailed w v
deed_sound prepares w v p = stays_sound w v p
deed_sound (stores name bytes) w v p = on_shelf w v p.0.1 p.1
deed_sound (prints text) w v p = sound w v p.1.0.1 (ap (λ i. i.faults) p.1.1) p.0.1 (ap (λ o. o.faults) p.1.2)
deed_sound (plays turns stage) w v p = sound w v p.0.1 p.1.input.sound p.1.out.1 p.1.err.1
deed_sound (pipes line left output) w v p = sound w v p.0.1 p.1.sound p.2.1 (ap (λ o. o.faults) p.3)
deed_sound (tells text) w v p = sound w v p.1.0.1 (ap (λ i. i.faults) p.1.1) (ap (λ o. o.faults) p.1.2) p.0.1

all_sound : (deeds : List Deed) (w v : World) → DoesAll deeds w v → NoneFailed w v
all_sound [] w v p = stays_sound w v p
all_sound (deed ∷ deeds) w v p = failed_before false false false false w p.0 v (deed_sound deed w p.0 p.1) (all_sound deeds p.0 v p.2)

-- the shelf failed, and nothing else was worked on
shelf_fails : (w v : World) → Rises w.shelf.faults v.shelf.faults → world.OnlyShelf w v → ShelfFailed w v
shelf_fails w v rises only = record {
  shelf_count = count_rises w.shelf.faults v.shelf.faults rises;
  input_count = count_stays w.input.faults v.input.faults (ap (λ i. i.faults) only.0);
  out_count = count_stays w.out.faults v.out.faults (ap (λ o. o.faults) only.1);
  err_count = count_stays w.err.faults v.err.faults (ap (λ o. o.faults) only.2);
}

load_says : (w v : World) (stop : Stop) → StopsLoad w.shelf v.shelf stop → world.OnlyShelf w v → StopSays stop w v
load_says w v ReadFault p only = absurd p
load_says w v WriteFault p only = absurd p
load_says w v ShelfFault p only = shelf_fails w v p.1 only
load_says w v NoMemory p only = on_shelf w v p.1 only

store_says : (w v : World) (name : List ℕ) (stop : Stop) → StopsStore w.shelf v.shelf name stop → world.OnlyShelf w v → StopSays stop w v
store_says w v name ReadFault p only = absurd p
store_says w v name WriteFault p only = absurd p
store_says w v name ShelfFault p only = shelf_fails w v p.1 only
store_says w v name NoMemory p only = on_shelf w v p.1 only

print_says : (w v : World) (text : List ℕ) (stop : Stop) → StopsPrint w.out v.out text stop → world.OnlyOut w v → StopSays stop w v
print_says w v text ReadFault p only = absurd p
print_says w v text ShelfFault p only = absurd p
print_says w v text WriteFault p only = inl (record {
  shelf_count = count_stays w.shelf.faults v.shelf.faults only.0.1;
  input_count = count_stays w.input.faults v.input.faults (ap (λ i. i.faults) only.1);
  out_count = count_rises w.out.faults v.out.faults p.1;
  err_count = count_stays w.err.faults v.err.faults (ap (λ o. o.faults) only.2);
})
print_says w v text NoMemory p only = sound w v only.0.1 (ap (λ i. i.faults) only.1) p.1 (ap (λ o. o.faults) only.2)

one_rises : (w v : World) (before behind : Stage) → v.shelf.faults ≡ w.shelf.faults → v.input.faults ≡ w.input.faults
    → OneFailsBehind before behind (world.streams_of w) (world.streams_of v) → StopSays WriteFault w v
one_rises w v before behind shelf input (inl p) = inl (record {
  shelf_count = count_stays w.shelf.faults v.shelf.faults shelf;
  input_count = count_stays w.input.faults v.input.faults input;
  out_count = count_rises w.out.faults v.out.faults p.0.rises;
  err_count = count_stays w.err.faults v.err.faults p.1.1;
})
one_rises w v before behind shelf input (inr p) = inr (record {
  shelf_count = count_stays w.shelf.faults v.shelf.faults shelf;
  input_count = count_stays w.input.faults v.input.faults input;
  out_count = count_stays w.out.faults v.out.faults p.0.1;
  err_count = count_rises w.err.faults v.err.faults p.1.rises;
})

call_says : (fault : IoFault) (w v : World) (before behind : Stage) → v.shelf.faults ≡ w.shelf.faults
    → FailsCall fault before behind (world.streams_of w) (world.streams_of v) → StopSays (stop_of fault) w v
call_says io.ReadFault w v before behind shelf p = record {
  shelf_count = count_stays w.shelf.faults v.shelf.faults shelf;
  input_count = count_rises w.input.faults v.input.faults p.1.rises;
  out_count = count_stays w.out.faults v.out.faults p.2.1;
  err_count = count_stays w.err.faults v.err.faults p.3.1;
}
call_says io.WriteFault w v before behind shelf p = one_rises w v before behind shelf p.1.sound p.2

pipes_say : (line : Pipeline Loaded) (w v : World) (stop : Stop) → v.shelf.faults ≡ w.shelf.faults → v.err ≡ w.err → StopsPipes line w v stop
    → StopSays stop w v
pipes_say line w v ReadFault shelf err stops = record {
  shelf_count = count_stays w.shelf.faults v.shelf.faults shelf;
  input_count = count_rises w.input.faults v.input.faults stops.fails.input.rises;
  out_count = count_stays w.out.faults v.out.faults stops.fails.output.1;
  err_count = count_stays w.err.faults v.err.faults (ap (λ o. o.faults) err);
}
pipes_say line w v WriteFault shelf err stops = inl (record {
  shelf_count = count_stays w.shelf.faults v.shelf.faults shelf;
  input_count = count_stays w.input.faults v.input.faults stops.fails.input.sound;
  out_count = count_rises w.out.faults v.out.faults stops.fails.output.rises;
  err_count = count_stays w.err.faults v.err.faults (ap (λ o. o.faults) err);
})
pipes_say line w v ShelfFault shelf err stops = absurd stops
pipes_say line w v NoMemory shelf err stops = sound w v shelf stops.fails.input.sound stops.fails.output.1 (ap (λ o. o.faults) err)

tells_say : (w v : World) (text : List ℕ) → FailsIn w.err v.err text → world.OnlyErr w v → StopSays WriteFault w v
tells_say w v text fails only = inr (record {
  shelf_count = count_stays w.shelf.faults v.shelf.faults only.0.1;
  input_count = count_stays w.input.faults v.input.faults (ap (λ i. i.faults) only.1);
  out_count = count_stays w.out.faults v.out.faults (ap (λ o. o.faults) only.2);
  err_count = count_rises w.err.faults v.err.faults fails.1;
})

stop_says : (deed : Deed) (w v : World) (stop : Stop) → StopsDeed deed w v stop → StopSays stop w v
stop_says prepares w v stop p = subst (λ x. StopSays x w v) (sym p.0) (stays_sound w v p.1)
stop_says (stores name bytes) w v stop p = store_says w v name stop p.0 p.1
stop_says (prints text) w v stop p = print_says w v text stop p.0 p.1
stop_says (plays turns stage) w v stop p =
    let run = p.1.2 in
    subst (λ x. StopSays x w v) (sym p.1.1) (call_says p.1.0 w v (stage run.made) (stage (suc run.made)) p.0.1 run.fails)
stop_says (pipes line left output) w v stop p = pipes_say line w v stop p.0.1 p.1 p.2
stop_says (tells text) w v stop p = subst (λ x. StopSays x w v) (sym p.0) (tells_say w v text p.1 p.2)

stop_behind : (w u v : World) (stop : Stop) → NoneFailed w u → StopSays stop u v → StopSays stop w v
stop_behind w u v ReadFault p q = failed_behind false true false false w u v p q
stop_behind w u v WriteFault p (inl q) = inl (failed_behind false false true false w u v p q)
stop_behind w u v WriteFault p (inr q) = inr (failed_behind false false false true w u v p q)
stop_behind w u v ShelfFault p q = failed_behind true false false false w u v p q
stop_behind w u v NoMemory p q = failed_behind false false false false w u v p q

stops_say : (deeds : List Deed) (w v : World) (stop : Stop) → StopsIn deeds w v stop → StopSays stop w v
stops_say [] w v stop p = absurd p
stops_say (deed ∷ deeds) w v stop (inl p) = stop_says deed w v stop p
stops_say (deed ∷ deeds) w v stop (inr p) = stop_behind w p.0 v stop (deed_sound deed w p.0 p.1) (stops_say deeds p.0 v stop p.2)

-- ---- ends

-- what an end says of the counts
abbrev pub EndSays : Result CommandAnswer Stop → World → World → Type 0
EndSays (Ok answer) w v = (is_stop answer.done ≡ false) × NoneFailed w v
EndSays (Err stop) w v = StopSays stop w v

early_says : (loads : Bool) (w v : World) (stop : Stop) → StopsEarly loads w v (Err stop) → StopSays stop w v
early_says true w v stop q = load_says w v stop q.0 q.1
early_says false w v stop q = subst (λ x. StopSays x w v) (sym q.0) (stays_sound w v q.1)

pub comes_says : (loads : Bool) (IsDueAt : World → Due → Type 0) (w v : World) (end : Result CommandAnswer Stop) → Comes loads IsDueAt w v end
    → EndSays end w v
comes_says loads IsDueAt w v (Ok answer) (inl q) = absurd q
comes_says loads IsDueAt w v (Ok answer) (inr q) = (q.2.1, all_sound q.0.deeds w v q.2.2)
comes_says loads IsDueAt w v (Err stop) (inl q) = early_says loads w v stop q
comes_says loads IsDueAt w v (Err stop) (inr q) = stops_say q.0.deeds w v stop q.2
