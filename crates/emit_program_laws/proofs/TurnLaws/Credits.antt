-- What the classes may still count where they rest, and what they count between.
use Rattle.std.proofs.Common.{◌≡◌, ℕ, ◌+◌, ◌*◌, ◌<◌, ◌≤◌, inl, inr, Bool, true, false, if◌then◌else◌, nat_le, nat_lt, List, [], ◌∷◌, Some, refl, ap, ◌∙◌, arith}
use Rattle.std.proofs.lemmas.Bool.{and_from, and_left, and_right, lt-ltb, le-ltb, le-leb, lt-leb}
use Rattle.std.specs.List.{sum_by}
use Rattle.mips_definition.specs.State as guest
use Rattle.delay_slots.specs.declared.unit.Unit.{Unit}
use Rattle.delay_slots.specs.declared.unit.Unit.TheVariants as units
use Rattle.jvm_definition.specs.Program.{Program}
use Rattle.jvm_definition.specs.Effect.{Workspace}
use Rattle.jvm_definition.specs.Step.{JvmState, Frame, frame_placed}
use Rattle.emit_spans.specs.Neighbours as span
use Rattle.emit_paths_laws.specs.Guest.{crossings, holds}
use Rattle.emit_spans_laws.specs.Resuming.{IsOutside, jumps_by_register}
use Rattle.emit_spans_laws.specs.GuestCodeLaws.Steps.{begins_with_register_jump}
use Rattle.trampoline_laws.specs.Classes.{CodeClass, is_span, span_words, counted_span, counted_spans}
use Rattle.emit_program_laws.specs.Going.{Goes}
use Rattle.emit_program_laws.specs.Counted.{Counted, Reads, Chars, Switches, Entries, weight, paid, owed, credit}
use Rattle.emit_program_laws.proofs.TurnLaws.Turning.{Walks, trail_to}
use Rattle.emit_program_laws.proofs.TurnLaws.Following.{ReadsAlone, looks}

-- what a choice of a span counts
abbrev pub entry : Counted → ℕ
entry Reads = 0
entry Chars = 0
entry Switches = 1
entry Entries = 1

module _ (classes : List CodeClass) where
  -- ---- credits

  pub credit-in-span : (i : Counted) (y : JvmState) (m at : ℕ) (w : Workspace) (others : List Frame) → y ≡ frame_placed m at w others → is_span classes m ≡ true → credit classes i y ≡ 0
  credit-in-span Reads y m at w others is numbered = refl
  credit-in-span Chars y m at w others is numbered = refl
  credit-in-span Switches y m at w others is numbered = ap (λ (s : JvmState). owed classes s.frames) is ∙ ap (λ (b : Bool). if b then 0 else 1) numbered
  credit-in-span Entries y m at w others is numbered = ap (λ (s : JvmState). owed classes s.frames) is ∙ ap (λ (b : Bool). if b then 0 else 1) numbered

  pub credit-choosing : (i : Counted) (y : JvmState) (m at : ℕ) (w : Workspace) (others : List Frame) → y ≡ frame_placed m at w others → is_span classes m ≡ false → credit classes i y ≡ entry i
  credit-choosing Reads y m at w others is numbered = refl
  credit-choosing Chars y m at w others is numbered = refl
  credit-choosing Switches y m at w others is numbered = ap (λ (s : JvmState). owed classes s.frames) is ∙ ap (λ (b : Bool). if b then 0 else 1) numbered
  credit-choosing Entries y m at w others is numbered = ap (λ (s : JvmState). owed classes s.frames) is ∙ ap (λ (b : Bool). if b then 0 else 1) numbered

  owed-few : (b : Bool) → (if b then 0 else 1) ≤ 1
  owed-few true = omega arith
  owed-few false = omega arith

  frames-few : (frames : List Frame) → owed classes frames ≤ 1
  frames-few [] = omega arith
  frames-few (f ∷ others) = owed-few (is_span classes f.method)

  pub credit-few : (i : Counted) (y : JvmState) → credit classes i y ≤ 1
  credit-few Reads y = omega arith
  credit-few Chars y = omega arith
  credit-few Switches y = frames-few y.frames
  credit-few Entries y = frames-few y.frames

  -- ---- at rest behind a unit

  -- what was used and the credit there are paid for, where the unit has read as many words and crossed as many times as the credit
  pub rest-paid : (used : Counted → ℕ) (most : ℕ) (start : Counted → ℕ) (earlier : ℕ) (g before t : guest.State) (e : ℕ) (rest : JvmState) → ReadsAlone classes most used → used Reads ≤ sum_by (paid classes Reads) (trail_to earlier g before (Some t)) → ((i : Counted) → credit classes i rest ≤ e) → e ≤ crossings (counted_spans classes) (trail_to earlier g before (Some t)) → (i : Counted) → used i + credit classes i rest ≤ start i + sum_by (paid classes i) (trail_to earlier g before (Some t))
  rest-paid used most start earlier g before t e rest alone read few crossed Reads = omega (arith, read)
  rest-paid used most start earlier g before t e rest alone read few crossed Chars = let none = alone.no_chars in omega (arith, none)
  rest-paid used most start earlier g before t e rest alone read few crossed Switches =
      let none = alone.no_switches in
      let less = few Switches in
      let paid_for : e ≤ sum_by (paid classes Switches) (trail_to earlier g before (Some t)) = crossed in
      omega (arith, none, less, paid_for)
  rest-paid used most start earlier g before t e rest alone read few crossed Entries =
      let none = alone.no_entries in
      let less = few Entries in
      let paid_for : e ≤ sum_by (paid classes Entries) (trail_to earlier g before (Some t)) = crossed in
      omega (arith, none, less, paid_for)

  -- ---- from one span to the next

  module _ (program : Program) (words n : ℕ) (x y : JvmState) where
    none-cost : (goes : Goes program words (is_span classes) n 0 0 x y) (i : Counted) → goes.total (weight classes i) ≤ 0
    none-cost goes Reads = goes.counts.few_reads
    none-cost goes Chars = let none = goes.counts.no_chars in omega (arith, none)
    none-cost goes Switches = goes.counts.few_switches
    none-cost goes Entries = goes.counts.few_entries

    pub goes-none : Goes program words (is_span classes) n 0 0 x y → Walks program words classes (λ i. 0) n x y
    goes-none goes = record { comes = goes.comes; costs = λ i. let a = goes.weighs (weight classes i) (looks classes i) in let b = none-cost goes i in omega (arith, a, b) }

    one-cost : (goes : Goes program words (is_span classes) n 0 1 x y) (i : Counted) → goes.total (weight classes i) ≤ entry i
    one-cost goes Reads = goes.counts.few_reads
    one-cost goes Chars = let none = goes.counts.no_chars in omega (arith, none)
    one-cost goes Switches = goes.counts.few_switches
    one-cost goes Entries = goes.counts.few_entries

    pub goes-one : Goes program words (is_span classes) n 0 1 x y → Walks program words classes entry n x y
    goes-one goes = record { comes = goes.comes; costs = λ i. let a = goes.weighs (weight classes i) (looks classes i) in let b = one-cost goes i in omega (arith, a, b) }

-- ---- the addresses of a span

pub same-jumps : (unit : Unit) → jumps_by_register unit ≡ begins_with_register_jump unit
same-jumps (units.Plain i) = refl
same-jumps (units.Branch i slot) = refl
same-jumps (units.SlotMissing i) = refl
same-jumps (units.SlotIsBranch i word) = refl
same-jumps units.Call = refl
same-jumps (units.Trap kind value) = refl

module _ (c : CodeClass) (j : ℕ) where
  abbrev first : ℕ
  first = (counted_span c j).first

  abbrev behind : ℕ
  behind = (counted_span c j).first + 4 * (counted_span c j).words

  pub word-inside : (k a : ℕ) → (span_words c j).first ≤ k → k < (span_words c j).end → a ≡ span.address (span_words c j) k → holds (counted_span c j) a ≡ true
  word-inside k a above below is =
      and_from (nat_le first a) (nat_lt a behind) (le-leb first a (omega (arith, above, is))) (lt-ltb a behind (omega (arith, below, is)))

  pub other-outside : (a : ℕ) → IsOutside (span_words c j) a → holds (counted_span c j) a ≡ false
  other-outside a (inl less) = and_left (nat_le first a) (nat_lt a behind) (lt-leb first a (omega (arith, less)))
  other-outside a (inr more) = and_right (nat_le first a) (nat_lt a behind) (le-ltb a behind (omega (arith, more)))
