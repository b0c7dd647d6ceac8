-- A translation with a meter has it in its main class and in all its classes of code.
use Rattle.std.proofs.Common.{◌≡◌, ℕ, ◌≤◌, Bool, true, false, List, Some, ap, sym, ◌∙◌, slice_get, arith}
use Rattle.std.specs.Prelude.{Option, is_some}
use Rattle.elf_definition.specs.Start.{Source, image_of}
use Rattle.emit_methods_laws.specs.Naming.{fields_of}
use Rattle.translate_classes.specs.declared.content.MainClass.{MainClass}
use Rattle.translate_classes.specs.Content.{main_fields}
use Rattle.translate_program.specs.Classes.{Placed, IsPlaced, AreCodeClasses}
use Rattle.translate_program.specs.Places.{places_of}
use Rattle.nv_translate.proofs.LinkedTranslations.Lists.{zip-second}

pub class-metered : {metered : Bool} (source : Source) (method_bytes : ℕ) (code : List Placed) → AreCodeClasses metered source method_bytes code
    → (i : ℕ) (c : Placed) → slice_get code i ≡ Some c → c.part.metered ≡ metered
class-metered {metered} source method_bytes code are i c at =
    (zip-second (IsPlaced metered (image_of source).code method_bytes) (places_of are.ranges) code i c are.placed.each at).2.metered_is

-- ---- how many fields there are

pub fields-least : (metered : Bool) → 38 ≤ fields_of metered
fields-least true = omega arith
fields-least false = omega arith

-- a class of code names no more than the main class has
pub class-fields : {meter : Option ℕ} (source : Source) (method_bytes : ℕ) (code : List Placed) → AreCodeClasses (is_some meter) source method_bytes code
    → (main : MainClass) → main.meter ≡ meter → (i : ℕ) (c : Placed) → slice_get code i ≡ Some c → fields_of c.part.metered ≤ main_fields main
class-fields source method_bytes code are main meter_is i c at =
    let same = ap fields_of (class-metered source method_bytes code are i c at ∙ sym (ap is_some meter_is)) in
    omega (arith, same)
