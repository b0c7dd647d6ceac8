-- The loader's call, and what follows an answer.
use Rattle.std.proofs.Common.{◌≡◌, ◌≢◌, ℕ, ◌+◌, ◌<◌, ◌==◌, nat_lt, ◌&&◌, Bool, true, false, if◌then◌else◌, IsTrue, ◌⊎◌, inl, inr, List, [], ◌∷◌, take, drop, Option, Some, refl, ap, sym, subst, ◌∙◌, arith}
use Rattle.std.proofs.lemmas.Bool.{ne_eqb, cases_eq}
use Rattle.std.proofs.lemmas.Nat.Bits.{bit_at-zero}
use Rattle.run_definition.specs.Words.{IsWord, wrapped}
use Rattle.nv_words.proofs.WrapLemmas.{wrapped-word}
use Rattle.run_definition.specs.Memory.{Memory}
use Rattle.run_definition.specs.Question.{asked, places_asked}
use Rattle.run_definition.specs.Answer.{Answer, answer_fits, answered}
use Rattle.run_definition.specs.Turn.{asks}
use Rattle.run_definition.specs.declared.call.Call.{Call}
use Rattle.mips_definition.specs.Memory.{with_byte}
use Rattle.mips_definition.specs.State as guest
use Rattle.mips_definition.specs.State.{argument_page, stack_start}
use Rattle.mips_definition.specs.Step.{loader_question, after_loader}
use Rattle.jvm_definition.specs.declared.instruction.Instruction.{Instruction}
use Rattle.jvm_definition.specs.declared.instruction.Instruction.TheVariants as instructions
use Rattle.jvm_definition.specs.declared.value.Value.{Value}
use Rattle.jvm_definition.specs.declared.value.Value.TheVariants.{Int as int, Array as array}
use Rattle.jvm_definition.specs.Program.{Program}
use Rattle.jvm_definition.specs.Values.{Heap}
use Rattle.jvm_definition.specs.HostMemory as host
use Rattle.jvm_definition.specs.HostMemory.{HostMemory, memory_of}
use Rattle.jvm_definition.specs.Effect.{Workspace, asks_host, enters, instruction_effect}
use Rattle.jvm_definition.specs.Step.{JvmState, Frame, frame_placed, jvm_turn, entered_frame, after_host, host_question}
use Rattle.emit_steps.specs.declared.step.Step.{Step}
use Rattle.emit_steps.specs.declared.step.Step.TheVariants.{Does}
use Rattle.emit_steps.specs.Widths.{bytes_before}
use Rattle.emit_steps.specs.Outcomes.{beyond, later, stopped, outcome, outcome_from, after_instruction}
use Rattle.emit_steps.specs.Placing.{LiesAt}
use Rattle.emit_layout.specs.FieldNumbers.{register_field, hi_field, lo_field, pc_field, readable_field, writable_field}
use Rattle.emit_instructions.specs.Access.{keeps}
use Rattle.emit_instructions.specs.Fields.{linked_field}
use Rattle.emit_loading.specs.declared.beginning.Beginning.{Beginning}
use Rattle.emit_loading.specs.Parts.{call}
use Rattle.emit_loading.specs.Starting.{beginning_call, begun_code}
use Rattle.emit_paths_laws.specs.Classes.{entries, executed, weighed}
use Rattle.emit_paths_laws.specs.Paths.{weigh, Path, PathElsewhere}
use Rattle.emit_paths_laws.proofs.Joining.{paths-join, turn-path, seen-elsewhere}
use Rattle.emit_paths_laws.proofs.Weighing.{lies-line, step-weighs}
use Rattle.emit_simulation_laws.specs.Match.{HoldsMemory, host_memory}
use Rattle.emit_simulation_laws.proofs.Patches.{HoldsMemory-answered}
use Rattle.emit_simulation_laws.specs.Holding.{HoldsOn}
use Rattle.emit_paths_laws.specs.Laws.{CodeIsPathElsewhere}
use Rattle.meter_laws.specs.Meters.{HasLeft}
use Rattle.emit_loading_laws.specs.Leading.{Reaches, IsMethod}
use Rattle.emit_loading_laws.proofs.FillingLaws.Reading.{laters}
use Rattle.emit_loading_laws.specs.Quiet.{Quietly}
use Rattle.emit_loading_laws.specs.Made.{readable_place, writable_place, over, start_of, CountNothing, Begins}
use Rattle.emit_loading_laws.proofs.LoadingCodeLaws.Texts.{plus-none}
use Rattle.emit_loading_laws.proofs.LoadingCodeLaws.Fills.{called}

-- the fields when an answer was given and the guest stands at the entry
abbrev answered_fields : (ℕ → Value) → ℕ → ℕ → ℕ → Value
answered_fields fields value entry = λ g.
    if g == pc_field then int entry
    else if g == register_field 29 then int stack_start
    else if g == register_field 5 then int argument_page
    else if g == register_field 4 then int value
    else fields g

-- no register is in a local variable
none-kept : (r : ℕ) → keeps 0 r ≡ false
none-kept r = ap (λ n. nat_lt r 32 && (n == 1)) (bit_at-zero r) ∙ both (nat_lt r 32)
  where
    both : (t : Bool) → (t && false) ≡ false
    both true = refl
    both false = refl

-- the registers then
abbrev answered_registers : ℕ → ℕ → ℕ
answered_registers value = λ r. if r == 5 then argument_page else if r == 4 then value else if r == 29 then stack_start else 0

register-is : (fields : ℕ → Value) (value entry r : ℕ) → ((f : ℕ) → f < 31 → fields f ≡ int 0) → 0 < r → r < 32 → answered_fields fields value entry (register_field r) ≡ int (answered_registers value r)
register-is fields value entry r zeros above below = by_five (cases_eq r 5) (cases_eq r 4) (cases_eq r 29)
  where
    no_pc : (register_field r == pc_field) ≡ false
    no_pc = ne_eqb (register_field r) pc_field (λ e. absurd (omega (arith, e, below)))

    test : (k : ℕ) → 0 < k → (r ≡ k → ⊥) → (register_field r == register_field k) ≡ false
    test k some ne = ne_eqb (register_field r) (register_field k) (λ e. ne (omega (arith, e, above, some)))

    by_five : (r ≡ 5) ⊎ (r ≡ 5 → ⊥) → (r ≡ 4) ⊎ (r ≡ 4 → ⊥) → (r ≡ 29) ⊎ (r ≡ 29 → ⊥) → answered_fields fields value entry (register_field r) ≡ int (answered_registers value r)
    by_five (inl e) b c =
        subst (λ k. answered_fields fields value entry (register_field k) ≡ int (answered_registers value k)) (sym e) refl
    by_five a (inl e) c =
        subst (λ k. answered_fields fields value entry (register_field k) ≡ int (answered_registers value k)) (sym e) refl
    by_five a b (inl e) =
        subst (λ k. answered_fields fields value entry (register_field k) ≡ int (answered_registers value k)) (sym e) refl
    by_five (inr a) (inr b) (inr c) =
        let low : register_field r < 31 = omega (arith, below, above) in
        simp (no_pc, test 29 (omega arith) c, test 5 (omega arith) a, test 4 (omega arith) b, ne_eqb r 5 a, ne_eqb r 4 b, ne_eqb r 29 c, zeros (register_field r) low) refl

register-word : (value r : ℕ) → IsWord value → IsWord (answered_registers value r)
register-word value r word = three (r == 5) (r == 4) (r == 29)
  where
    three : (a b c : Bool) → IsWord (if a then argument_page else if b then value else if c then stack_start else 0)
    three true b c = omega arith
    three false true c = word
    three false false true = omega arith
    three false false false = omega arith

-- what the fields hold where the call is made
pub record BeginsWith (fields : ℕ → Value) : Type 0 where
  pub zeros : (f : ℕ) → f < 34 → fields f ≡ int 0
  pub unlinked : fields linked_field ≡ int 0
  pub readable_is : fields readable_field ≡ array readable_place
  pub writable_is : fields writable_field ≡ array writable_place

if-none : (b : Bool) → b ≡ false → ◌≡◌ {A = ℕ} (if b then 1 else 0) 0
if-none false e = refl
if-none true e = cc

module _ (paths : CodeIsPathElsewhere) (program : Program) (words own m : ℕ) (is_span : ℕ → Bool) (choose : ℕ) (differ : own ≢ m) (choose_is : IsMethod program choose []) (b : Beginning) (memory : Memory) (code : ℕ → Option ℕ) (locals given_fields : ℕ → Value) (given : BeginsWith given_fields) (heap : Heap) (held : HoldsMemory heap readable_place writable_place memory) (at : ℕ) (lies : LiesAt program own at (begun_code b choose)) where
  abbrev steps : List Step
  steps = begun_code b choose

  abbrev begin : Workspace
  begin = over locals [] given_fields heap

  abbrev c : Call
  c = beginning_call b

  abbrev s : guest.State
  s = start_of b memory code

  abbrev asking : Workspace
  asking = over locals (int c.a3 ∷ int c.a2 ∷ int c.a1 ∷ int c.a0 ∷ int 0 ∷ array writable_place ∷ array readable_place ∷ []) given_fields heap

  abbrev seen : HostMemory
  seen = host_memory heap readable_place writable_place

  host-effect : instruction_effect program words instructions.CallHost asking ≡ asks_host c (Some readable_place) (Some writable_place) begin
  host-effect = simp (held.readable_there, held.writable_there) refl

  asked-runs : outcome program words steps begin ≡ stopped 7 7 asking (asks_host c (Some readable_place) (Some writable_place) begin)
  asked-runs =
      ap (λ v. later (outcome program words (drop 1 steps) (over locals (v ∷ []) given_fields heap))) given.readable_is
      ∙ ap (λ v. later (later (outcome program words (drop 2 steps) (over locals (v ∷ array readable_place ∷ []) given_fields heap)))) given.writable_is
      ∙ ap (λ e. laters 7 (after_instruction asking e (outcome_from program words (drop 8 steps) 0))) host-effect

  same-question : host_question c seen ≡ loader_question s
  same-question = ap (asked c) held.reads

  abbrev place : ℕ
  place = at + bytes_before steps 7

  stop : (low : ℕ) → PathElsewhere program words own m low at 0 steps [] (frame_placed own (at + 0) begin []) (stopped 7 7 asking (asks_host c (Some readable_place) (Some writable_place) begin))
  stop low =
      subst (λ o. PathElsewhere program words own m low at 0 steps [] (frame_placed own (at + 0) begin []) o) asked-runs (paths program words own m low at 0 steps begin [] differ lies)

  pub asking-reached : Quietly program words m is_span 7 (frame_placed own at begin []) (frame_placed own place asking [])
  asking-reached = record {
    total = λ weight. weigh weight (drop 0 (take 7 steps));
    reaches = record {
      turns = 7;
      in_time = omega arith;
      path = λ low. subst (λ a. Path program words m low low 7 (λ weight. weigh weight (drop 0 (take 7 steps))) (frame_placed own a begin []) (frame_placed own place asking [])) (let start : at + 0 ≡ at = omega arith in start) (stop low).0;
    };
    quiet = record { no_reads = refl; no_switches = refl; no_entries = refl };
  }

  pub no-entry : (to : Option JvmState) → executed program (entries is_span) (record { from = frame_placed own place asking []; to = to }) ≡ 0
  no-entry to = ap (weighed (entries is_span)) (lies-line program own 7 steps at (Does instructions.CallHost) lies refl)

  -- ---- by an answer

  abbrev behind : ℕ
  behind = at + bytes_before steps 8

  pub next : Answer → JvmState
  next a = frame_placed own behind (after_host c seen begin a) []

  pub asks-it : jvm_turn program words (frame_placed own place asking []) ≡ asks (loader_question s) next
  unfolding next
  asks-it =
      let stops = (stop 0).1 in
      stops.turns
      ∙ ap (λ n. asks (host_question c seen) (λ a. frame_placed own n (after_host c seen begin a) [])) stops.next_is
      ∙ ap (λ q. asks q (λ a. frame_placed own behind (after_host c seen begin a) [])) same-question

  module _ (a : Answer) (fit : IsTrue (answer_fits a (loader_question s))) where
    abbrev value : ℕ
    value = wrapped a.value

    abbrev heap_after : Heap
    heap_after = (answered host.with_host_byte seen (host_question c seen) a.patch).heap

    abbrev memory_after : Memory
    memory_after = answered with_byte memory (loader_question s) a.patch

    held-after : HoldsMemory heap_after readable_place writable_place memory_after
    held-after =
        subst (λ (x : Heap). HoldsMemory x readable_place writable_place memory_after)
        (ap (λ q. (answered host.with_host_byte seen q a.patch).heap) (sym same-question))
        (HoldsMemory-answered (places_asked c).room a.patch heap readable_place writable_place memory held fit)

    abbrev last_fields : ℕ → Value
    last_fields = answered_fields given_fields value b.entry

    abbrev last : Workspace
    last = over locals [] last_fields heap_after

    behind-runs : outcome_from program words steps 8 (after_host c seen begin a) ≡ stopped 7 15 last (enters choose [] last)
    behind-runs =
        ap (λ e. beyond (beyond (beyond (beyond (beyond (beyond (beyond (beyond (laters 7 (after_instruction last e (outcome_from program words (drop 16 steps) 0)))))))))))
        (called program words choose last choose_is)

    abbrev there : ℕ
    there = at + bytes_before steps 15

    stops : (low : ℕ) → PathElsewhere program words own m low at 8 steps [] (frame_placed own behind (after_host c seen begin a) []) (stopped 7 15 last (enters choose [] last))
    stops low =
        subst (λ o. PathElsewhere program words own m low at 8 steps [] (frame_placed own behind (after_host c seen begin a) []) o) behind-runs (paths program words own m low at 8 steps (after_host c seen begin a) [] differ lies)

    abbrev inside : Workspace
    inside = over (entered_frame choose []).locals [] last_fields heap_after

    abbrev below : Frame
    below = record { method = own; at = (stops 0).1.line.next; locals = locals; operands = [] }

    abbrev inner : JvmState
    inner = frame_placed choose 0 inside (below ∷ [])

    total : (Instruction → ℕ) → ℕ
    total weight = weigh weight (drop 8 (take 15 steps)) + weight (instructions.Call choose)

    enters-it : (low : ℕ) → Path program words m low low 1 (λ weight. weight (instructions.Call choose)) (frame_placed own there last []) inner
    enters-it low =
        turn-path program words m low low (λ weight. weight (instructions.Call choose)) (frame_placed own there last []) inner (stops 0).1.turns
        (step-weighs program own 15 steps at (call choose) lies refl last [] inner)
        (seen-elsewhere program words m own low there last [] differ)

    reached : Reaches program words m 8 total (next a) inner
    unfolding next total
    reached = record {
      turns = 7 + 1;
      in_time = omega arith;
      path = λ low. paths-join program words m low low low 7 1 (λ weight. weigh weight (drop 8 (take 15 steps))) (λ weight. weight (instructions.Call choose)) (next a) (frame_placed own there last []) inner (stops low).0 (enters-it low);
    }

    counts-none : CountNothing choose total
    unfolding total
    counts-none = record {
      no_reads = refl;
      no_chars = refl;
      no_switches = refl;
      no_entries = λ is_span no. plus-none (weigh (entries is_span) (drop 8 (take 15 steps))) (entries is_span (instructions.Call choose)) refl (if-none (is_span choose) no);
    }

    abbrev middle : guest.State
    middle = after_loader s a

    holds-it : HoldsOn 0 (λ r. true) inside (after_loader s a)
    holds-it = record {
      register_is = λ r above under is. ap (λ t. if t then inside.locals r else inside.fields (register_field r)) (none-kept r) ∙ register-is given_fields value b.entry r (λ f low. given.zeros f (omega (arith, low))) above under;
      register_word = λ r above under. register-word value r (wrapped-word a.value);
      hi_is = given.zeros hi_field (omega arith);
      hi_word = omega arith;
      lo_is = given.zeros lo_field (omega arith);
      lo_word = omega arith;
      pc = b.entry;
      pc_is = refl;
      link_is = given.unlinked;
      readable = readable_place;
      readable_is = given.readable_is;
      writable = writable_place;
      writable_is = given.writable_is;
      memory_held = held-after;
    }

    pub begins : Begins program words own m choose 8 (next a) (after_loader s a)
    begins = record {
      total = total;
      counts = counts-none;
      workspace = inside;
      below = below;
      reaches = reached;
      held = holds-it;
      pc_is = refl;
      no_operands = refl;
      waits_in = refl;
    }

    -- what was left on a meter is left
    pub left-there : (left : ℕ) → HasLeft left begin → HasLeft left begins.workspace
    unfolding begins
    left-there left has = has
