-- A place has one part of the code, wherever its units and leaders are kept.
use Rattle.std.proofs.Common.{◌≡◌, ℕ, ◌+◌, ◌*◌, ◌^◌, ◌<◌, ◌≤◌, Bool, List, Option, length, sym, ◌∙◌, subst}
use Rattle.delay_slots.specs.declared.unit.Unit.{Unit}
use Rattle.translate_classes.specs.declared.part.Part.{Part}
use Rattle.translate_program.specs.Places.{Place, IsPartAt}
use Rattle.translate_program.proofs.OneCode.Ranges.{units_same, leads_same}

-- two parts have the same words, with the same units and leaders
pub record AreAlike (p q : Part) : Type 0 where
  pub units : p.units.now ≡ q.units.now
  pub leads : p.leads.now ≡ q.leads.now
  pub start : p.start ≡ q.start
  pub first : p.first ≡ q.first
  pub words : p.words ≡ q.words
  pub metered : p.metered ≡ q.metered

-- a part with other words, kept where its own are
abbrev pub kept_at : Part → (units : List Unit) (leads : List Bool) (metered : Bool) (start first words : ℕ) → length leads ≡ length units
    → start + 4 * length units < 2 ^ 31 → first + words ≤ length units → Part
kept_at p units leads metered start first words same_len low within = record {
  units = record p.units { now = units };
  leads = record p.leads { now = leads };
  metered = metered;
  start = start;
  first = first;
  words = words;
  same_len = same_len;
  low = low;
  within = within;
}

-- what is told of a part with other words is x
abbrev pub Comes : {X : Type 0} → (Part → X) → Part → X → List Unit → List Bool → Bool → ℕ → ℕ → ℕ → Type 0
Comes f p x units leads metered start first words =
    (same_len : length leads ≡ length units) (low : start + 4 * length units < 2 ^ 31) (within : first + words ≤ length units)
    → f (kept_at p units leads metered start first words same_len low within) ≡ x

-- what is told of parts by their words is the same of parts that are alike
pub alike_at : {X : Type 0} (f : Part → X) (p q : Part) → AreAlike p q
    → Comes f p (f q) q.units.now q.leads.now q.metered q.start q.first q.words → f p ≡ f q
alike_at f p q same comes =
    (subst (λ units. Comes f p (f q) units p.leads.now p.metered p.start p.first p.words) (sym same.units)
    (subst (λ leads. Comes f p (f q) q.units.now leads p.metered p.start p.first p.words) (sym same.leads)
    (subst (λ metered. Comes f p (f q) q.units.now q.leads.now metered p.start p.first p.words) (sym same.metered)
    (subst (λ start. Comes f p (f q) q.units.now q.leads.now q.metered start p.first p.words) (sym same.start)
    (subst (λ first. Comes f p (f q) q.units.now q.leads.now q.metered q.start first p.words) (sym same.first)
    (subst (λ words. Comes f p (f q) q.units.now q.leads.now q.metered q.start q.first words) (sym same.words) comes))))))
    p.same_len p.low p.within

pub parts_alike : (code : ℕ → Option ℕ) (place : Place) (p q : Part) → IsPartAt code place p → IsPartAt code place q → p.metered ≡ q.metered
    → AreAlike p q
parts_alike code place p q is is' metered = record {
  units = units_same code place.range p.units.now q.units.now p.leads.now q.leads.now is.range_is is'.range_is;
  leads = leads_same code place.range p.units.now q.units.now p.leads.now q.leads.now is.range_is is'.range_is;
  start = is.start_is ∙ sym is'.start_is;
  first = is.first_is ∙ sym is'.first_is;
  words = is.words_are ∙ sym is'.words_are;
  metered = metered;
}
