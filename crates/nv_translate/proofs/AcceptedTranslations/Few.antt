-- A translation of a program that was accepted has few classes of code.
use Rattle.std.proofs.Common.{ℕ, ◌≤◌, Bool, List, length, arith}
use Rattle.std.proofs.lemmas.Slice.Zip.{AllZip-long}
use Rattle.elf_definition.specs.Start.{Source, image_of}
use Rattle.translate_program.specs.Classes.{Placed, IsPlaced, AreCodeClasses}
use Rattle.translate_program.specs.Places.{places_of}
use Rattle.translate_program.proofs.Counts.PlaceLemmas.{places-most}
use Rattle.nv_translate.specs.AcceptedCode.{HasAcceptedCode}

pub code-few : {metered : Bool} (source : Source) (method_bytes : ℕ) (code : List Placed) → HasAcceptedCode source
    → AreCodeClasses metered source method_bytes code
    → length code ≤ 235
code-few {metered} source method_bytes code has are =
    let long = AllZip-long (IsPlaced metered (image_of source).code method_bytes) (places_of are.ranges) code are.placed.each in
    omega (arith, long, places-most are.ranges (has.whole.words are.ranges are.ranges_are) (has.few are.ranges are.ranges_are))
