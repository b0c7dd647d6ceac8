-- Which steps can be the code of a method of a class, over its pool.
use Rattle.std.specs.Prelude.{◌&&◌, Bool, true, List}
use Rattle.std.specs.List.{list_all}
use Rattle.class_definition.specs.declared.entry.Entry.{Entry}
use Rattle.jvm_definition.specs.declared.constant.Constant.TheVariants as constants
use Rattle.jvm_definition.specs.declared.instruction.Instruction.TheVariants.{Push}
use Rattle.emit_steps.specs.declared.step.Step.{Step}
use Rattle.emit_steps.specs.declared.step.Step.TheVariants.{Does}
use Rattle.emit_assembly.specs.declared.references.References.{References}
use Rattle.emit_assembly.specs.Assembling.{can_be_assembled, is_method}
use Rattle.emit_classes.specs.Lawful.{has_text}

-- the text that a step pushes, if it pushes one, stands in its slot
abbrev pub has_its_text : List Entry → Step → Bool
has_its_text pool (Does (Push (constants.Text class slot))) = has_text pool slot
has_its_text pool _ = true

abbrev pub has_texts : List Entry → List Step → Bool
has_texts pool code = list_all (has_its_text pool) code

-- it can be made into the bytes of a method, and its texts are there
abbrev pub is_code : References → List Entry → List Step → Bool
is_code references pool code = (can_be_assembled references code && is_method code)
    && has_texts pool code
