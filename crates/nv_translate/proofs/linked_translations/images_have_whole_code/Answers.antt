use Rattle.nv_translate.proofs.linked_translations.images_have_whole_code.Goals as goal

pub returns : goal.returns
returns c = record { words = c.laws.ensures.words; whole = c.laws.ensures.whole }
