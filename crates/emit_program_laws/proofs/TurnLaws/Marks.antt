-- Where the classes come to marked states of the guest.
use Rattle.std.proofs.Common.{◌≡◌, ℕ, ◌+◌, ◌<◌, ◌≤◌, Bool, true, false, inl, inr, List, length, Option, Some, refl, ap, sym, ◌∙◌, arith}
use Rattle.std.proofs.lemmas.Bool.{true≢false}
use Rattle.std.proofs.lemmas.Option.{slice_get-get_or}
use Rattle.run_definition.specs.declared.order.Order.{Order}
use Rattle.run_simulation_laws.specs.Trail.{advanced}
use Rattle.run_simulation_laws.specs.Turns.{LawOfMarks}
use Rattle.mips_definition.specs.State as guest
use Rattle.jvm_definition.specs.Program.{Program}
use Rattle.jvm_definition.specs.Step.{JvmState, jvm_turn}
use Rattle.emit_spans_laws.specs.InPieces.{UnitsStandInPieces}
use Rattle.trampoline_laws.specs.Classes.{CodeClass, is_span, span_words}
use Rattle.trampoline_laws.specs.Programs.{IsTranslated}
use Rattle.emit_program_laws.specs.Going.{ComesTo}
use Rattle.emit_program_laws.specs.Choosing.{ChoosesWords}
use Rattle.emit_program_laws.specs.Entered.{IsGuest}
use Rattle.emit_program_laws.specs.Standing.{AtWord, span_site}
use Rattle.emit_program_laws.specs.Counted.{pair}
use Rattle.emit_program_laws.specs.Rests.{AtUnit, Rests, StandsSomewhere}
use Rattle.emit_program_laws.specs.Marks.{AtPiece, MarksPieces}
use Rattle.emit_program_laws.proofs.TurnLaws.Given.{ProgramLaws}
use Rattle.emit_program_laws.proofs.TurnLaws.Spans.{has-span, stands-in}

module _ (in_pieces : UnitsStandInPieces) (laws : ProgramLaws) (program : Program) (words : ℕ) (order : Order) (choose missing : ℕ) (classes : List CodeClass) (code : ℕ → Option ℕ) (is_in : IsTranslated false program order choose missing classes code) (marked : guest.State → Bool) (marks : MarksPieces classes marked) where
  abbrev Rest : guest.State → JvmState → Type 0
  Rest t y = Rests program words order choose classes code t y

  abbrev Words : guest.State → JvmState → Type 0
  Words t z = AtWord program words order classes choose z t

  abbrev Marked : guest.State → JvmState → Type 0
  Marked t z = AtPiece program words order classes choose code t z

  abbrev Comes : guest.State → JvmState → Type 0
  Comes t y = (n : ℕ) × (place : JvmState) × (n ≤ 150) × (advanced (jvm_turn program words) n y ≡ Some place) × Marked t place

  leads : ChoosesWords program words order choose missing classes code
  leads = laws.lead false program words order choose missing classes code is_in

  word-marked : (t : guest.State) (y : JvmState) → IsGuest order code t → marked t ≡ true → Words t y → Marked t y
  word-marked t y guest_is is s = record {
    guest_is = guest_is;
    at_word = s;
    begin = marks.begin t s.number s.class s.span s.word is s.there s.span_below s.stands.above s.stands.below s.stands.pc;
  }

  chosen-marked : (t : guest.State) (y : JvmState) → IsGuest order code t → marked t ≡ true → ComesTo program words (is_span classes) 150 0 1 (Words t) y → Comes t y
  chosen-marked t y guest_is is c = (c.turns, c.after, c.in_time, c.goes.comes, word-marked t c.after guest_is is c.arrives)

  -- code stands where the guest is marked
  marked-code : (t : guest.State) → marked t ≡ true → (w : ℕ) × (code t.pc ≡ Some w)
  marked-code t is =
      let at = marks.in_class t is in
      let stands = stands-in laws program order choose missing classes code is_in at.number at.class at.there in
      let range = stands.range in
      let within = stands.has.is_class.within in
      let below = at.below in
      let c = at.class in
      let k = c.first + at.word in
      let less : k < length c.words = omega (arith, within, below) in
      (_, ap code at.is_there ∙ range.there k less ∙ slice_get-get_or c.words k 0 less)

  unit-marked : (t : guest.State) (y : JvmState) → marked t ≡ true → AtUnit program words order classes choose y t → ⊥
  unit-marked t y is s =
      let c = s.class in
      let own = span_words c s.span in
      let site = span_site program words c s.span s.others in
      let has_span = has-span laws program order choose missing classes code is_in s.number c s.there words s.span s.span_below s.others in
      let here = in_pieces site order c.words c.leads own s.word s.front s.unit s.rest s.workspace t has_span s.held in
      let has = here.has in
      let inner = here.inner s.some_done in
      let begin = marks.begin t s.number c s.span (s.word + length s.front) is s.there s.span_below has.above has.below s.held.pc in
      true≢false (sym begin ∙ inner)

  rest-marked : (t : guest.State) (y : JvmState) (r : Rest t y) → marked t ≡ true → StandsSomewhere program words order classes choose y t → Comes t y
  rest-marked t y r is (inl s) = (0, y, omega arith, refl, word-marked t y r.guest_is is s)
  rest-marked t y r is (inr (inl s)) = absurd (unit-marked t y is s)
  rest-marked t y r is (inr (inr (inl s))) = let at = marked-code t is in chosen-marked t y r.guest_is is (leads.from_run t at.0 y r.guest_is at.1 r.pc_word s)
  rest-marked t y r is (inr (inr (inr s))) = let at = marked-code t is in chosen-marked t y r.guest_is is (leads.from_choose t at.0 y r.guest_is at.1 s)

  pub marks-reached : LawOfMarks (pair program words classes marked) Rest Marked 150
  marks-reached t y r is = rest-marked t y r is r.stands
