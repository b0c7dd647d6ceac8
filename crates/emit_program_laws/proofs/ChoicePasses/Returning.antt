-- From a return of the method of a span to its class's method that chooses.
use Rattle.std.proofs.Common.{◌≡◌, ℕ, ◌+◌, Bool, List, [], ◌∷◌, None, refl, ap, sym, subst, ◌∙◌, arith}
use Rattle.run_definition.specs.Turn.{moves}
use Rattle.mips_definition.specs.State as guest
use Rattle.jvm_definition.specs.Program.{Program}
use Rattle.jvm_definition.specs.Effect.{Workspace}
use Rattle.jvm_definition.specs.Step.{JvmState, Frame, returned_to}
use Rattle.emit_steps.specs.Placing.{placed_line, LiesAt}
use Rattle.emit_steps.specs.Returning.{returns}
use Rattle.emit_paths_laws.proofs.Joining.{turn-path, turn-weighs, seen-within}
use Rattle.emit_spans_laws.specs.GuestFollows.Sites.{Site, stands, turn_in}
use Rattle.emit_spans_laws.specs.Resuming.{FieldsHoldAll, ReturnsGiveBack}
use Rattle.trampoline_laws.specs.Classes.{CodeClass, run_of, is_span}
use Rattle.emit_program_laws.specs.Going.{ComesTo, with_frame}
use Rattle.emit_program_laws.specs.Standing.{StandsChoosing, AtRun, AtReturn, span_site}
use Rattle.emit_program_laws.proofs.ChoicePasses.Going.{Moves, moves-path, leads-then, leads-so, comes-so}
use Rattle.emit_program_laws.proofs.ChoicePasses.Classes.{back-chooses}

-- the turn of a return
return-moves : ReturnsGiveBack → (site : Site) (at : ℕ) (w : Workspace) (f : Frame) (others : List Frame) (is_span : ℕ → Bool) → LiesAt site.program site.method at (returns ∷ []) → site.others ≡ f ∷ others → Moves site.program site.words is_span 1 0 0 (stands site at w) (with_frame f others w.fields w.heap)
return-moves gives_back site at w f others is_span lies are =
    let x = stands site at w in
    let y = with_frame f others w.fields w.heap in
    let line = placed_line at returns [] in
    let is : turn_in site x ≡ moves y = gives_back site at w lies ∙ ap (λ frames. returned_to frames None w) are in
    moves-path site.program site.words is_span site.method at (at + 1) 1 0 0 (λ weight. weight line.instruction) x y
    (turn-path site.program site.words site.method at (at + 1) (λ weight. weight line.instruction) x y is
    (λ weight still. let a = turn-weighs site.program site.method at w site.others y line lies.0 weight in omega (arith, a))
    (seen-within site.program site.words site.method at (at + 1) w site.others (omega arith)))
    (record { no_reads = refl; no_chars = refl; no_writes = λ f. refl; few_switches = omega arith; few_entries = omega arith })

pub comes-back : ReturnsGiveBack → FieldsHoldAll → (program : Program) (words : ℕ) (classes : List CodeClass) (choose : ℕ) (t : guest.State) (y : JvmState) → AtReturn program words classes choose y t → ComesTo program words (is_span classes) 13 0 0 (λ z. AtRun program words classes choose z t) y
comes-back gives_back held program words classes choose t y s =
    let numbers = is_span classes in
    let below = s.below in
    let others = below.in_main ∷ below.at_start ∷ [] in
    let w = s.workspace in
    let site = span_site program words s.class s.span s.others in
    let x = stands site s.at w in
    let z = with_frame below.in_class others w.fields w.heap in
    let Chooses : JvmState → Type 0 = λ u. StandsChoosing (run_of s.class) others u t in
    let Runs : JvmState → Type 0 = λ u. AtRun program words classes choose u t in
    let Gives : JvmState → Type 0 = λ u. u ≡ z in
    subst (λ (u : JvmState). ComesTo program words numbers 13 0 0 Runs u) (sym s.is_there)
    (comes-so program words numbers 13 13 0 Runs x (omega arith)
    (leads-so program words numbers 13 0 0 Chooses Runs x
    (λ u at_run. record { number = s.number; class = s.class; there = s.there; in_main = below.in_main; at_start = below.at_start; main_waits = below.main_waits; stands = at_run })
    (leads-then program words numbers 1 12 0 0 0 0 Gives Chooses x
    (record { turns = 1; in_time = omega arith; after = z; way = return-moves gives_back site s.at w below.in_class others numbers s.lies below.others_are; arrives = refl })
    (λ u is. back-chooses program words numbers held (run_of s.class) below.in_class others t w u below.class_waits s.held s.pc_is is))))
