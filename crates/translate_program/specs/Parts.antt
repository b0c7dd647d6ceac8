-- A range of code, from which the words of a class are taken.
use Rattle.std.specs.Prelude.{◌≡◌, ◌+◌, ◌*◌, ◌^◌, ◌<◌, ℕ, Bool, length}
use Rattle.elf_image_parts.specs.declared.code.RangeCode.{RangeCode}
use Rattle.method_splitter.specs.Shares.{share_at}
use Rattle.translate_classes.specs.declared.part.Part.{Part}
use Rattle.translate_program.specs.Places.{class_words}

-- so many words that end low, with a unit and a flag for each
pub record IsLow (code : RangeCode) (words : ℕ) : Type 0 where
  pub units : length code.units ≡ words
  pub leads : length code.leads.items ≡ words
  pub low : code.start + 4 * words < 2 ^ 31

-- the words of the class of a number among the classes of the range, of a program with a meter or
-- without
pub record IsPartOf (metered : Bool) (code : RangeCode) (words k : ℕ) (part : Part) : Type 0 where
  pub units_are : part.units.now ≡ code.units
  pub leads_are : part.leads.now ≡ code.leads.items
  pub metered_is : part.metered ≡ metered
  pub start_is : part.start ≡ code.start
  pub first_is : part.first ≡ (share_at class_words words k).first
  pub words_are : part.words ≡ (share_at class_words words k).count
