use Rattle.std.proofs.Common.{◌∷◌, [], ◌++◌, length, ap, ◌∙◌, subst, arith}
use Rattle.emit_assembly.specs.declared.references.References.{References}
use Rattle.translate_classes.specs.Making.{AddsMethods}
use Rattle.translate_classes.specs.Tables.{references_of}
use Rattle.translate_classes.specs.Data.{words_plan}
use Rattle.translate_classes.proofs.class_of_data.with_words.Goals as goal

pub returns-clause-references : goal.returns-clause-references
returns-clause-references c =
    c.with_methods-references.ensures
    ∙ ap (references_of c.args.names c.args.first_method) (c.in_ok-push.ensures.items ∙ ap (λ l. l ++ c.args.words ∷ []) c.new-methods.ensures.items)

pub returns-clause-method : goal.returns-clause-method
returns-clause-method c =
    subst (λ r. AddsMethods c.args.class.now c.add_words.new.class (words_plan r ∷ [])) (returns-clause-references c) c.in_ok-add_words.ensures.method

pub add_words-requires-clause-fields : goal.add_words-requires-clause-fields
add_words-requires-clause-fields c =
    omega (arith, ap (λ (r : References). length r.fields) c.with_methods-references.ensures, c.requires.fields)

pub add_words-requires-clause-few : goal.add_words-requires-clause-few
add_words-requires-clause-few c = omega (arith, ap length c.requires.none)

pub add_words-requires-clause-room : goal.add_words-requires-clause-room
add_words-requires-clause-room c = omega (arith, c.requires.room)
