-- The units of a piece before, at and behind one of them.
use Rattle.std.proofs.Common.{◌≡◌, ℕ, ◌+◌, ◌*◌, Bool, true, List, [], ◌∷◌, ◌++◌, length, get_or, append_assoc, refl, ap, subst, sym, ◌∙◌, arith}
use Rattle.std.specs.List.{flat_map}
use Rattle.delay_slots.specs.declared.unit.Unit.{Unit as Word}
use Rattle.delay_slots.specs.declared.unit.Unit.TheVariants as units
use Rattle.block_builder.specs.Leaders.{is_plain}
use Rattle.block_builder.specs.Registers.{unit_writes}
use Rattle.emit_steps.specs.declared.step.Step.{Step}
use Rattle.emit_instructions.specs.Units.{unit_code}
use Rattle.word_emitter.specs.Pieces.{is_needed, units_code}
use Rattle.emit_simulation_laws.specs.Knowing.{gained}
use Rattle.emit_simulation_laws.specs.Lawful.{AreAllKnown}
use Rattle.emit_simulation_laws.proofs.PieceSets.{AreLawful, SetLaws, NeedLaws}
use Rattle.emit_instructions_laws.specs.Pieces.{AreStraight}

-- their code
pub code-both : (bank : ℕ) (front more : List Word) (a : ℕ)
    → units_code bank (front ++ more) a ≡ units_code bank front a ++ units_code bank more (a + 4 * length front)
code-both bank [] more a = let here : a ≡ a + 4 * 0 = omega arith in ap (units_code bank more) here
code-both bank (unit ∷ front) more a =
    let first : List Step = unit_code bank unit a in
    let there : a + 4 + 4 * length front ≡ a + 4 * length (unit ∷ front) = omega arith in
    ap (λ c. first ++ c) (code-both bank front more (a + 4))
    ∙ sym (append_assoc first (units_code bank front (a + 4)) (units_code bank more (a + 4 + 4 * length front)))
    ∙ ap (λ b. (first ++ units_code bank front (a + 4)) ++ units_code bank more b) there

pub at-front : (front : List Word) (unit : Word) (rest : List Word) → get_or (front ++ unit ∷ rest) (length front) units.Call ≡ unit
at-front [] unit rest = refl
at-front (first ∷ front) unit rest = at-front front unit rest

-- a unit before another one is Plain
pub straight-at : (front : List Word) (unit next : Word) (rest : List Word) → AreStraight (front ++ unit ∷ next ∷ rest) → is_plain unit ≡ true
straight-at [] unit next rest straight = straight.0
straight-at (first ∷ []) unit next rest straight = straight.1.0
straight-at (first ∷ second ∷ front) unit next rest straight = straight-at (second ∷ front) unit next rest straight.1

-- what the units need from one of them on is known behind the others
pub need-behind : (sets : SetLaws) (need : NeedLaws) (front more : List Word) (known : ℕ → Bool) → AreLawful (front ++ more)
    → AreAllKnown (is_needed (front ++ more)) known → AreAllKnown (is_needed more) (gained (flat_map unit_writes front) known)
need-behind sets need [] more known lawful all = all
need-behind sets need (unit ∷ front) more known lawful all =
    subst (λ k. AreAllKnown (is_needed more) k) (sym (sets.gained_joined (unit_writes unit) (flat_map unit_writes front) known))
    (need-behind sets need front more (gained (unit_writes unit) known) lawful.1 (need.others_known unit (front ++ more) known lawful.0 all))
