use Rattle.std.proofs.Common.{◌≡◌, ◌+◌, ◌∷◌, Some, refl, ap, ◌∙◌, slice_get, arith}
use Rattle.translate_classes_laws.proofs.LinkedNumbers.Programs.{first-kinds}
use Rattle.translate_classes_laws.proofs.linked_numbers.members_of_the_first_class_have_numbers.Goals as goal

pub returns-clause-method : goal.returns-clause-method
returns-clause-method c d others k s once here =
    let none : 0 + k ≡ k = omega arith in
    c.methods_have_numbers.ensures.number (d ∷ others) 0 k d s once refl here ∙ ap (λ n. Some n) none

pub returns-clause-field : goal.returns-clause-field
returns-clause-field c d others k s once here =
    let none : 0 + k ≡ k = omega arith in
    c.fields_have_numbers.ensures.number (d ∷ others) 0 k d s once refl here ∙ ap (λ n. Some n) none

pub returns-clause-all : goal.returns-clause-all
returns-clause-all c d others k none = ap (λ kinds. slice_get kinds k) (first-kinds d others none)
