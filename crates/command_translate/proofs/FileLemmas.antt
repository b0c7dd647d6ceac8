-- The classes that files spell.
use Rattle.std.proofs.Common.{◌≡◌, ℕ, zero, suc, ◌+◌, ◌<◌, List, [], ◌∷◌, ◌++◌, length, take, get_or, Some, refl, sym, ap, ◌∙◌, subst, arith}
use Rattle.std.proofs.lemmas.List.{take_more}
use Rattle.std.proofs.lemmas.List.Elements.{All-cons, All-nil}
use Rattle.std.proofs.lemmas.Option.{none-some}
use Rattle.std.specs.List.{All}
use Rattle.class_definition.specs.declared.class_fault.ClassFault.{ClassFault}
use Rattle.class_definition.specs.declared.class.Class.{Class}
use Rattle.class_definition_laws.proofs.ClassLaws.{no_fault, same_class}
use Rattle.class_definition.specs.ClassFile as format
use Rattle.class_names.specs.Kept.{IsClass}
use Rattle.translate_program.specs.declared.named_file.NamedFile.{NamedFile}
use Rattle.command_translate.specs.Classes.{HoldAccepted, SpellClasses}

-- files spell one list of classes
pub same_classes : (files : List NamedFile) (classes others : List Class) → SpellClasses files classes → SpellClasses files others → others ≡ classes
same_classes [] [] [] p q = refl
same_classes (f ∷ files) (c ∷ classes) (d ∷ others) p q =
    ap (λ e. e ∷ others) (same_class f.bytes.items c d p.0 q.0) ∙ ap (λ cs. c ∷ cs) (same_classes files classes others p.1 q.1)
same_classes [] [] (d ∷ others) p q = absurd q
same_classes [] (c ∷ classes) others p q = absurd p
same_classes (f ∷ files) [] others p q = absurd p
same_classes (f ∷ files) (c ∷ classes) [] p q = absurd q

-- they are sound
pub all_kept : (files : List NamedFile) (classes : List Class) → SpellClasses files classes → All IsClass classes
all_kept [] [] p = All-nil IsClass
all_kept (f ∷ files) (c ∷ classes) p = All-cons IsClass c classes p.0.fits (all_kept files classes p.1)
all_kept [] (c ∷ classes) p = absurd p
all_kept (f ∷ files) [] p = absurd p

spelled_push : (files : List NamedFile) (classes : List Class) (f : NamedFile) (c : Class) → SpellClasses files classes
    → format.Spells f.bytes.items c → SpellClasses (files ++ f ∷ []) (classes ++ c ∷ [])
spelled_push [] [] f c p spelled = (spelled, tt)
spelled_push (g ∷ files) (d ∷ classes) f c p spelled = (p.0, spelled_push files classes f c p.1 spelled)
spelled_push [] (d ∷ classes) f c p spelled = absurd p
spelled_push (g ∷ files) [] f c p spelled = absurd p

-- one more file is read
pub one_more : (files : List NamedFile) (i : ℕ) (file : NamedFile) (bytes : List ℕ) (class : Class) (before after : List Class) → i < length files
    → file ≡ get_or files i file → bytes ≡ file.bytes.items → format.Spells bytes class → after ≡ before ++ class ∷ []
    → SpellClasses (take i files) before → SpellClasses (take (i + 1) files) after
one_more files i file bytes class before after within is same spelled grown so_far =
    let next : take (i + 1) files ≡ take i files ++ file ∷ [] = take_more files i file within ∙ ap (λ f. take i files ++ f ∷ []) (sym is) in
    subst (λ fs. SpellClasses fs after) (sym next)
    (subst (SpellClasses (take i files ++ file ∷ [])) (sym grown)
    (spelled_push (take i files) before file class so_far (subst (λ b. format.Spells b class) same spelled)))

-- the file at a place spells a class
class_at : (files : List NamedFile) (classes : List Class) (i : ℕ) (file : NamedFile) → SpellClasses files classes → i < length files
    → file ≡ get_or files i file → (c : Class) × format.Spells file.bytes.items c
class_at [] classes i file p within is = absurd (omega (arith, within))
class_at (f ∷ files) [] i file p within is = absurd p
class_at (f ∷ files) (c ∷ classes) zero file p within is = (c, subst (λ g. format.Spells g.bytes.items c) (sym is) p.0)
class_at (f ∷ files) (c ∷ classes) (suc i) file p within is = class_at files classes i file p.1 (omega (arith, within)) is

-- so it is at no fault
pub no_refusal : (files : List NamedFile) (i : ℕ) (file : NamedFile) (bytes : List ℕ) (fault : ClassFault) → HoldAccepted files → i < length files
    → file ≡ get_or files i file → bytes ≡ file.bytes.items → format.class_fault bytes ≡ Some fault → ⊥
no_refusal files i file bytes fault held within is same refused =
    let at = class_at files held.classes i file held.spelled within is in
    none-some fault (sym (no_fault file.bytes.items at.0 at.1) ∙ ap format.class_fault (sym same) ∙ refused)
