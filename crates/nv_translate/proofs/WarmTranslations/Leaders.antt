-- Pieces begin with the words that begin the blocks of their range.
use Rattle.std.proofs.Common.{◌≡◌, ℕ, suc, ◌<◌, Bool, List, [], ◌∷◌, length, slice_get, Some, refl, sym, ap, ◌∙◌, arith}
use Rattle.std.specs.List.{AllZip}
use Rattle.delay_slots.specs.Units.{units_of}
use Rattle.block_builder.specs.Leaders.{is_leader}
use Rattle.elf_definition.specs.Start.{Source, image_of}
use Rattle.emit_program_laws.specs.TrampolineLaws.Classes.{CodeClass}
use Rattle.translate_program.specs.Places.{places_of}
use Rattle.translate_program.specs.Classes.{Placed, AreCodeClasses, IsPlaced}
use Rattle.nv_translate.specs.Standing.{IsClassOf}
use Rattle.nv_translate.proofs.LinkedTranslations.Lists.{zip-second}

long-units : (words : List ℕ) → length (units_of words) ≡ length words
long-units [] = refl
long-units (w ∷ words) = ap suc (long-units words)

pub leads-are : {metered : Bool} (source : Source) (method_bytes : ℕ) (code : List Placed) (classes : List CodeClass)
    → AreCodeClasses metered source method_bytes code
    → AllZip IsClassOf code classes → (n : ℕ) (c : CodeClass) → slice_get classes n ≡ Some c → (k : ℕ) → k < length c.words
    → c.leads k ≡ is_leader (units_of c.words) c.start k
leads-are {metered} source method_bytes code classes are of n c there k below =
    let side = zip-second IsClassOf code classes n c of there in
    let p = side.0 in
    let is = side.2.is in
    let place = zip-second (IsPlaced metered (image_of source).code method_bytes) (places_of are.ranges) code n p are.placed.each side.1 in
    let part = place.2.part_is in
    let long : length p.part.units.now ≡ length c.words = ap length side.2.units_are ∙ long-units c.words in
    let start : place.0.range.first ≡ c.start = sym part.start_is ∙ sym (ap (λ (d : CodeClass). d.start) is) in
    ap (λ (d : CodeClass). d.leads k) is ∙ part.range_is.leads_are.leads k (omega (arith, below, long))
    ∙ (λ i. is_leader (side.2.units_are i) (start i) k)
