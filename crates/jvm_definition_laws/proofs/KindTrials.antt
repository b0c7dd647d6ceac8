-- Laws of types, by trying all of them.
use Rattle.std.proofs.Common.{◌≡◌, Bool, true, false, ◌&&◌}
use Rattle.std.proofs.lemmas.Bool.{and_parts, false≢true}
use Rattle.jvm_definition.specs.declared.kind.Kind.{Kind}
use Rattle.jvm_definition.specs.declared.kind.Kind.TheVariants.{Top, Int, Long, Null, Ints, Pages, Text}

abbrev pub each : (Kind → Bool) → Bool
each p = ((((((p Top && p Int) && p Long) && p Null) && p Ints) && p Pages) && p Text)

pub each-at : (p : Kind → Bool) → each p ≡ true → (kind : Kind) → p kind ≡ true
each-at p h kind =
    let a = and_parts (((((p Top && p Int) && p Long) && p Null) && p Ints) && p Pages) (p Text) h in
    let b = and_parts ((((p Top && p Int) && p Long) && p Null) && p Ints) (p Pages) a.0 in
    let c = and_parts (((p Top && p Int) && p Long) && p Null) (p Ints) b.0 in
    let d = and_parts ((p Top && p Int) && p Long) (p Null) c.0 in
    let e = and_parts (p Top && p Int) (p Long) d.0 in
    let f = and_parts (p Top) (p Int) e.0 in
    elim kind as (λ k. p k ≡ true) [ Top ↦ f.0 | Int ↦ f.1 | Long ↦ e.1 | Null ↦ d.1 | Ints ↦ c.1 | Pages ↦ b.1 | Text ↦ a.1 ]

abbrev pub when : Bool → Bool → Bool
when true b = b
when false b = true

pub when-at : (a b : Bool) → when a b ≡ true → a ≡ true → b ≡ true
when-at true b h e = h
when-at false b h e = absurd (false≢true e)
