-- The classes of a translation with tables of frames run as the program does.
use Rattle.std.proofs.Common.{List, [], ◌∷◌}
use Rattle.std.specs.List.{AllZip}
use Rattle.run_definition.specs.Answer.{next_answer}
use Rattle.nv_values.specs.Names.{Text}
use Rattle.mips_definition.specs.Step as guest
use Rattle.elf_definition.specs.Loading.{start_of}
use Rattle.elf_definition.specs.Start.{Source, image_of}
use Rattle.class_definition.specs.declared.class.Class.{Class}
use Rattle.class_definition.specs.ClassFile.{Spells}
use Rattle.translate_program.specs.Files.{allow}
use Rattle.translate_program.specs.declared.named_file.NamedFile.{NamedFile}
use Rattle.nv_translate.specs.Translated.{Translated}
use Rattle.stackmap_laws.specs.Framed.{AreFramed}
use Rattle.stackmap_laws.proofs.ClassLaws.{AllFit}
use Rattle.stackmap_laws.proofs.FramedLaws.{framed-links, framed-typed, framed-runs}
use Rattle.command_frames_laws.specs.Alike.{IsAlike}

all-fit : (files : List NamedFile) (classes : List Class) → AllZip (λ (f : NamedFile) (c : Class). Spells f.bytes.items c) files classes → AllFit classes
all-fit [] [] z = tt
all-fit [] (c ∷ classes) z = absurd z
all-fit (f ∷ files) [] z = absurd z
all-fit (f ∷ files) (c ∷ classes) z = (z.0.fits, all-fit files classes z.1)

pub framed-alike : (source : Source) (name : Text) (files : List NamedFile) (framed : List Class) (t : Translated source name files) → AreFramed t.classes framed → IsAlike source framed
framed-alike source name files framed t f =
    let classes = t.classes in
    let kept = all-fit files classes t.held.spelled in
    record {
      accepted = record { links = framed-links classes framed kept f t.held.accepted.links; typed = framed-typed classes framed kept f };
      runs = record {
        same = λ words answers enough.
            framed-runs classes framed kept f words guest.turn next_answer (allow (image_of source).mapped) (start_of (image_of source)) answers (t.runs.same words answers enough);
      };
    }
