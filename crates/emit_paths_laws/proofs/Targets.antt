-- What the classes' instructions count does not depend on their targets.
use Rattle.std.proofs.Common.{◌≡◌, ℕ, Bool, refl}
use Rattle.jvm_definition.specs.declared.instruction.Instruction.{Instruction}
use Rattle.jvm_definition.specs.declared.instruction.Instruction.TheVariants.{Branch, TableSwitch, LookupSwitch}
use Rattle.jvm_definition_laws.specs.Stretch.{moved_instruction}
use Rattle.emit_paths_laws.specs.Classes.{reads, chars, switches, entries}

pub reads-moved : (by : ℕ) (i : Instruction) → reads (moved_instruction by i) ≡ reads i
reads-moved by (Branch name target) = refl
reads-moved by (TableSwitch s) = refl
reads-moved by (LookupSwitch s) = refl
reads-moved by _ = refl

pub chars-moved : (by : ℕ) (i : Instruction) → chars (moved_instruction by i) ≡ chars i
chars-moved by (Branch name target) = refl
chars-moved by (TableSwitch s) = refl
chars-moved by (LookupSwitch s) = refl
chars-moved by _ = refl

pub switches-moved : (by : ℕ) (i : Instruction) → switches (moved_instruction by i) ≡ switches i
switches-moved by (Branch name target) = refl
switches-moved by (TableSwitch s) = refl
switches-moved by (LookupSwitch s) = refl
switches-moved by _ = refl

pub entries-moved : (is_span : ℕ → Bool) (by : ℕ) (i : Instruction) → entries is_span (moved_instruction by i) ≡ entries is_span i
entries-moved is_span by (Branch name target) = refl
entries-moved is_span by (TableSwitch s) = refl
entries-moved is_span by (LookupSwitch s) = refl
entries-moved is_span by _ = refl
