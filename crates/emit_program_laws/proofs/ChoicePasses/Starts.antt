-- The starts among which the methods of a translated program choose.
use Rattle.std.proofs.Common.{◌≡◌, ℕ, Bool, List, slice_get, Option, Some}
use Rattle.run_definition.specs.declared.order.Order.{Order}
use Rattle.jvm_definition.specs.Program.{Program}
use Rattle.trampoline_laws.specs.Choosing.{AreStarts}
use Rattle.trampoline_laws.specs.Classes.{CodeClass, span_starts, starts_of}
use Rattle.trampoline_laws.specs.Programs.{IsTranslated, StandsInProgram}
use Rattle.emit_program_laws.proofs.ChoicePasses.Given.{ProgramLaws}

module _ {metered : Bool} (laws : ProgramLaws) (program : Program) (order : Order) (choose missing : ℕ) (classes : List CodeClass) (code : ℕ → Option ℕ)
    (is_in : IsTranslated metered program order choose missing classes code) where
  -- among classes
  pub main-starts : AreStarts program 2048 (starts_of missing classes)
  main-starts =
      let rising = laws.rise metered program order choose missing classes code is_in in
      let methods = laws.methods metered program order choose missing classes code is_in in
      record { some = rising.some; few = is_in.few; rise = rising.rise; methods = methods.of_classes }

  module _ (number : ℕ) (c : CodeClass) (there : slice_get classes number ≡ Some c) where
    pub stands-in : StandsInProgram program code c
    stands-in = laws.stand metered program order choose missing classes code is_in number c there

    -- among the spans of a class
    pub class-starts : AreStarts program 2048 (span_starts c)
    class-starts =
        let rising = laws.classes.rise c stands-in.has.is_class in
        let methods = laws.methods metered program order choose missing classes code is_in in
        record { some = rising.some; few = rising.few; rise = rising.rise; methods = methods.of_spans number c there }
