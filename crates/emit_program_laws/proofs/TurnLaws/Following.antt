-- From a path of the classes beside a unit's turns to turns that follow.
use Rattle.std.proofs.Common.{◌≡◌, ℕ, zero, suc, ◌+◌, ◌≤◌, Bool, true, IsTrue, List, [], Option, Some, None, refl, ap, sym, subst, ◌∙◌, arith}
use Rattle.std.specs.Bool.{⊤}
use Rattle.std.specs.List.{sum_by}
use Rattle.run_definition.specs.Question.{Question}
use Rattle.run_definition.specs.Answer.{Answer, answer_fits}
use Rattle.run_definition.specs.Turn.{Turn, moves, ends, leaves, asks}
use Rattle.run_simulation_laws.specs.Trail.{advanced, moved}
use Rattle.run_simulation_laws.specs.Turns.{Follows}
use Rattle.run_simulation_laws.proofs.Passing.{moved_grows, moved_one, first_move}
use Rattle.mips_definition.specs.State as guest
use Rattle.jvm_definition.specs.declared.instruction.Instruction.{Instruction}
use Rattle.jvm_definition.specs.Program.{Program}
use Rattle.jvm_definition.specs.Effect.{Workspace}
use Rattle.jvm_definition.specs.Step.{JvmState, Frame, frame_placed, jvm_turn}
use Rattle.emit_paths_laws.specs.Classes.{executed, reads}
use Rattle.emit_paths_laws.specs.Paths.{LooksAtNoTarget, Path}
use Rattle.emit_spans_laws.specs.GuestFollows.Sites.{Site}
use Rattle.emit_spans_laws.specs.GuestFollows.Following.{ComesToTurn}
use Rattle.emit_spans_laws.specs.Counting.{SparesMoves}
use Rattle.emit_spans_laws.specs.Resuming.{ComesTo, ComesToByAnswers, FollowsInSpan, LastInSpan}
use Rattle.trampoline_laws.specs.Classes.{CodeClass}
use Rattle.emit_program_laws.specs.Counted.{Counted, Reads, Chars, Switches, Entries, weight, paid, credit, pair}
use Rattle.emit_program_laws.proofs.TurnLaws.Inner.{is_outer_turn, first-reads}
use Rattle.emit_program_laws.proofs.TurnLaws.Turning.{HasTurns, Walks, Settles, Answers, IsLike, trail_to, moving-follows, outer-follows}
use Rattle.emit_program_laws.proofs.TurnLaws.Guest.{MovesOrOuter, guest-outer}

-- ---- what is counted of the classes

pub looks : (classes : List CodeClass) (i : Counted) → LooksAtNoTarget (weight classes i)
looks classes Reads = λ name t u. refl
looks classes Chars = λ name t u. refl
looks classes Switches = λ name t u. refl
looks classes Entries = λ name t u. refl

pub spares : (classes : List CodeClass) (i : Counted) → SparesMoves (weight classes i)
spares classes Reads = record { push = λ constant. refl; load = λ kind k. refl; store = λ kind k. refl; get = λ f kind. refl; put = λ f kind below. refl; branch = λ name target. refl; give_back = λ name. refl }
spares classes Chars = record { push = λ constant. refl; load = λ kind k. refl; store = λ kind k. refl; get = λ f kind. refl; put = λ f kind below. refl; branch = λ name target. refl; give_back = λ name. refl }
spares classes Switches = record { push = λ constant. refl; load = λ kind k. refl; store = λ kind k. refl; get = λ f kind. refl; put = λ f kind below. refl; branch = λ name target. refl; give_back = λ name. refl }
spares classes Entries = record { push = λ constant. refl; load = λ kind k. refl; store = λ kind k. refl; get = λ f kind. refl; put = λ f kind below. refl; branch = λ name target. refl; give_back = λ name. refl }

-- A total has no more than so many reads, and nothing else of what is counted.
pub record ReadsAlone (classes : List CodeClass) (most : ℕ) (used : Counted → ℕ) : Type 0 where
  pub few_reads : used Reads ≤ most
  pub no_chars : used Chars ≡ 0
  pub no_switches : used Switches ≡ 0
  pub no_entries : used Entries ≡ 0

pub path-walks : (program : Program) (words : ℕ) (classes : List CodeClass) (m low high n : ℕ) (total : (Instruction → ℕ) → ℕ) (x y : JvmState) → Path program words m low high n total x y → Walks program words classes (λ i. total (weight classes i)) n x y
path-walks program words classes m low high n total x y path = record { comes = path.comes; costs = λ i. path.counts (weight classes i) (looks classes i) }

module _ (program : Program) (words : ℕ) (classes : List CodeClass) where
  -- so many turns that count nothing
  pub none-walks : (used : Counted → ℕ) (n : ℕ) (x y : JvmState) → Walks program words classes used n x y → ((i : Counted) → used i ≡ 0) → Walks program words classes (λ i. 0) n x y
  none-walks used n x y walks none = record { comes = walks.comes; costs = λ i. let cost = walks.costs i in let zero_is = none i in omega (arith, cost, zero_is) }

  pub stays-walks : (x : JvmState) → Walks program words classes (λ i. 0) 0 x x
  stays-walks x = record { comes = refl; costs = λ i. omega arith }

  -- ---- the first of some turns

  one-costs : (used : Counted → ℕ) (n : ℕ) (x y : JvmState) (i : Counted) → Walks program words classes used n x y → 1 ≤ n → used i ≡ 0 → sum_by (executed program (weight classes i)) (moved (jvm_turn program words) 1 x) ≡ 0
  one-costs used n x y i walks some none =
      let grows = moved_grows (jvm_turn program words) (executed program (weight classes i)) 1 n x some in
      let cost = walks.costs i in
      omega (arith, grows, cost, none)

  first-reads-none : (m at n : ℕ) (w : Workspace) (others : List Frame) (y : JvmState) → w.operands ≡ [] → advanced (jvm_turn program words) n (frame_placed m at w others) ≡ Some y → 1 ≤ n → sum_by (executed program reads) (moved (jvm_turn program words) 1 (frame_placed m at w others)) ≡ 0
  first-reads-none m at zero w others y none comes some = absurd (omega (arith, some))
  first-reads-none m at (suc n) w others y none comes some =
      let x = frame_placed m at w others in
      let step = first_move (jvm_turn program words) n x y comes in
      let alone = ap (sum_by (executed program reads)) (moved_one (jvm_turn program words) x step.0 step.1) in
      let cost = first-reads program words m at w others none step.0 (Some step.0) step.1 in
      omega (arith, alone, cost)

  first-none : (used : Counted → ℕ) (most m at n : ℕ) (w : Workspace) (others : List Frame) (y : JvmState) → ReadsAlone classes most used → w.operands ≡ [] → Walks program words classes used n (frame_placed m at w others) y → 1 ≤ n → (i : Counted) → sum_by (executed program (weight classes i)) (moved (jvm_turn program words) 1 (frame_placed m at w others)) ≡ 0
  first-none used most m at n w others y alone none walks some Reads = first-reads-none m at n w others y none walks.comes some
  first-none used most m at n w others y alone none walks some Chars = one-costs used n (frame_placed m at w others) y Chars walks some alone.no_chars
  first-none used most m at n w others y alone none walks some Switches = one-costs used n (frame_placed m at w others) y Switches walks some alone.no_switches
  first-none used most m at n w others y alone none walks some Entries = one-costs used n (frame_placed m at w others) y Entries walks some alone.no_entries

-- ---- where the guest's last turn leads

-- what holds of each state to which a turn leads, whatever the answer
abbrev pub ForEach : (guest.State → Type 0) → Turn guest.State → Type 0
ForEach P (moves t) = P t
ForEach P (ends e) = ⊤
ForEach P (leaves q e) = ⊤
ForEach P (asks q next) = (a : Answer) → P (next a)

-- nothing is used where the system is called
abbrev pub SilentToAsk : (Counted → ℕ) → Turn guest.State → Type 0
SilentToAsk used (asks q next) = used Reads ≡ 0
SilentToAsk used _ = ⊤

silent-all : (classes : List CodeClass) (most : ℕ) (used : Counted → ℕ) → ReadsAlone classes most used → used Reads ≡ 0 → (i : Counted) → used i ≡ 0
silent-all classes most used alone none Reads = none
silent-all classes most used alone none Chars = alone.no_chars
silent-all classes most used alone none Switches = alone.no_switches
silent-all classes most used alone none Entries = alone.no_entries

last-outer : (site : Site) (high most : ℕ) (total : (Instruction → ℕ) → ℕ) (Arrives : JvmState → guest.State → Type 0) (last : Turn guest.State) (used place : ℕ) (y : Turn JvmState) → MovesOrOuter last → LastInSpan site high most total Arrives last used place y → is_outer_turn y ≡ true
last-outer site high most total Arrives (ends e) used place (ends f) outer like = ap (λ d. is_outer_turn {S = JvmState} (ends d)) like ∙ outer
last-outer site high most total Arrives (leaves q e) used place (leaves r f) outer like = refl
last-outer site high most total Arrives (asks q next) used place (asks r then) outer like = refl
last-outer site high most total Arrives _ used place _ outer like = absurd like

module _ (program : Program) (words : ℕ) (classes : List CodeClass) (marked : guest.State → Bool) (Rests : guest.State → JvmState → Type 0) where
  module _ (g : guest.State) (m at : ℕ) (w : Workspace) (others : List Frame) (last : Turn guest.State) (made : HasTurns marked g last) (low high most extra : ℕ) (sum : (Instruction → ℕ) → ℕ) (Arrives : JvmState → guest.State → Type 0) (limit : ℕ → ℕ) where
    abbrev site : Site
    site = record { program = program; words = words; method = m; others = others }

    abbrev start : JvmState
    start = frame_placed m at w others

    abbrev used : Counted → ℕ
    used i = sum (weight classes i)

    -- what may be counted where the guest's last turn leads there
    abbrev pub allowed : Option guest.State → Counted → ℕ
    allowed to i = credit classes i start + sum_by (paid classes i) (trail_to made.earlier g made.before to)

    abbrev pub SettlesAt : guest.State → Type 0
    SettlesAt t = (y : JvmState) → Arrives y t → Settles program words classes marked Rests used (allowed (Some t)) extra t y

    answers : (q : Question) (then : Answer → JvmState) (next : Answer → guest.State) (before place : ℕ) → ((i : Counted) → used i ≡ 0) → ((a : Answer) → SettlesAt (next a)) → (by : ComesToByAnswers site (place + 1) high before most sum (λ y a. Arrives y (next a)) q then) → (a : Answer) → IsTrue (answer_fits a q) → Answers program words classes marked Rests used (allowed (Some (next a))) (by.left + extra) (next a) (then a)
    answers q then next before place none settles by a fit =
        let comes = by.comes a fit in
        let in_time = comes.in_time in
        record {
          turns = comes.turns;
          after = comes.after;
          walks = none-walks program words classes used comes.turns (then a) comes.after (path-walks program words classes m (place + 1) high comes.turns sum (then a) comes.after comes.path) none;
          room = extra;
          settles = settles a comes.after comes.arrives;
          in_time = omega (arith, in_time);
        }

    -- how long the classes are about what follows the last turn
    abbrev behind : (turn_last : Turn guest.State) (n place : ℕ) (y : Turn JvmState) → LastInSpan site high most sum Arrives turn_last n place y → ℕ
    behind (asks q next) n place (asks r then) like = like.1.left + extra
    behind _ n place _ like = 0

    behind-time : (turn_last : Turn guest.State) (n place : ℕ) (y : Turn JvmState) (like : LastInSpan site high most sum Arrives turn_last n place y) → n ≤ most → n + behind turn_last n place y like ≤ most + extra
    behind-time (moves t) n place y like less = absurd like
    behind-time (ends e) n place (ends f) like less = omega (arith, less)
    behind-time (leaves q e) n place (leaves r f) like less = omega (arith, less)
    behind-time (asks q next) n place (asks r then) like less = let time = like.1.in_time in omega (arith, time)
    behind-time _ n place _ like less = absurd like

    is-like : (alone_most : ℕ) → ReadsAlone classes alone_most used → (turn_last : Turn guest.State) (n place : ℕ) (y : Turn JvmState) (like : LastInSpan site high most sum Arrives turn_last n place y) → SilentToAsk used turn_last → ForEach SettlesAt turn_last → IsLike program words classes marked Rests used (λ h. allowed (Some h)) (behind turn_last n place y like) turn_last y
    is-like alone_most alone (ends e) n place (ends f) like silent settles = like
    is-like alone_most alone (leaves q e) n place (leaves r f) like silent settles = like
    is-like alone_most alone (asks q next) n place (asks r then) like silent settles =
        let none = silent-all classes alone_most used alone silent in
        (like.0, none, answers q then next n place none settles like.1)
    is-like alone_most alone _ n place _ like silent settles = absurd like

    stood-for : (paid_reads : used Reads ≤ allowed None Reads) → (alone_most : ℕ) → ReadsAlone classes alone_most used → (i : Counted) → used i ≤ allowed None i
    stood-for paid_reads alone_most alone Reads = paid_reads
    stood-for paid_reads alone_most alone Chars = let none = alone.no_chars in omega (arith, none)
    stood-for paid_reads alone_most alone Switches = let none = alone.no_switches in omega (arith, none)
    stood-for paid_reads alone_most alone Entries = let none = alone.no_entries in omega (arith, none)

    module _ (alone_most : ℕ) (alone : ReadsAlone classes alone_most used) (none : w.operands ≡ []) (paid_reads : used Reads ≤ allowed None Reads) (room : most + extra ≤ limit (made.earlier + 1)) where
      moving : (t : guest.State) → last ≡ moves t → SettlesAt t → ComesTo site low high (made.earlier + 1) most sum (λ y. Arrives y t) start → Follows (pair program words classes marked) Rests limit g start
      moving t is settles comes =
          let sooner = comes.no_sooner in
          let in_time = comes.in_time in
          let walks = path-walks program words classes m low high comes.turns sum start comes.after comes.path in
          moving-follows program words classes marked Rests g start last made used comes.turns comes.after walks
          (λ some. first-none program words classes used alone_most m at comes.turns w others comes.after alone none walks (omega (arith, sooner)))
          limit t is sooner extra (settles comes.after comes.arrives) (omega (arith, in_time, room))

      outer : (turn_last : Turn guest.State) → last ≡ turn_last → SilentToAsk used turn_last → ForEach SettlesAt turn_last → ComesToTurn site low high (made.earlier + 1) most sum (LastInSpan site high most sum Arrives turn_last) start → Follows (pair program words classes marked) Rests limit g start
      outer turn_last is silent settles comes =
          let sooner = comes.no_sooner in
          let in_time = comes.in_time in
          let n = comes.turns + 1 in
          let y = jvm_turn program words comes.before in
          let like : LastInSpan site high most sum Arrives turn_last n comes.place y = comes.last in
          let walks = path-walks program words classes m low comes.place comes.turns sum start comes.before comes.path in
          let guest_outer : MovesOrOuter turn_last = subst MovesOrOuter (made.last_is ∙ is) (guest-outer made.before) in
          let time = behind-time turn_last n comes.place y like in_time in
          outer-follows program words classes marked Rests g start last made used comes.turns comes.before walks
          (λ some. first-none program words classes used alone_most m at comes.turns w others comes.before alone none walks (omega (arith, some, sooner)))
          limit (last-outer site high most sum Arrives turn_last n comes.place y guest_outer like) (omega (arith, sooner)) (stood-for paid_reads alone_most alone)
          (behind turn_last n comes.place y like) (omega (arith, time, room))
          (subst (λ (l : Turn guest.State). IsLike program words classes marked Rests used (λ h. allowed (Some h)) (behind turn_last n comes.place y like) l y) (sym is)
          (is-like alone_most alone turn_last n comes.place y like silent settles))

      -- the classes follow the guest's turns by paths in a method
      pub paths-follow : (turn_last : Turn guest.State) → last ≡ turn_last → SilentToAsk used turn_last → ForEach SettlesAt turn_last → FollowsInSpan site low high (made.earlier + 1) most sum Arrives start turn_last → Follows (pair program words classes marked) Rests limit g start
      paths-follow (moves t) is silent settles follows = moving t is settles follows
      paths-follow (ends e) is silent settles follows = outer (ends e) is silent settles follows
      paths-follow (leaves q e) is silent settles follows = outer (leaves q e) is silent settles follows
      paths-follow (asks q next) is silent settles follows = outer (asks q next) is silent settles follows
