use Rattle.std.proofs.Common.{◌≡◌, true, string_bytes}
use Rattle.std.proofs.lemmas.Result.{IfOk-weaker}
use Rattle.translate_classes.specs.Called.{class_name}
use Rattle.translate_classes.specs.Room.{is_own_name}
use Rattle.translate_classes.specs.declared.other_class.OtherClass.TheVariants.{Code, Data}
use Rattle.translate_classes.proofs.LawfulNames.OtherLemmas.{other-own}
use Rattle.translate_classes.proofs.other_class.OtherClass.name.Goals as goal

pub returns-in-Code-clause-own : goal.returns-in-Code-clause-own
returns-in-Code-clause-own c =
    let main = c.as_str-main in
    IfOk-weaker c.code_class_name.result (λ text. string_bytes text ≡ class_name Code main.result.now c.args.i) (λ text. is_own_name (string_bytes text) ≡ true)
    (λ text named. other-own Code c.args.main.now main.result.now (string_bytes text) c.args.i main.ensures.lawful c.requires main.ensures.value named)
    c.code_class_name.ensures

pub returns-in-Data-clause-own : goal.returns-in-Data-clause-own
returns-in-Data-clause-own c =
    let main = c.as_str-main in
    IfOk-weaker c.data_class_name.result (λ text. string_bytes text ≡ class_name Data main.result.now c.args.i) (λ text. is_own_name (string_bytes text) ≡ true)
    (λ text named. other-own Data c.args.main.now main.result.now (string_bytes text) c.args.i main.ensures.lawful c.requires main.ensures.value named)
    c.data_class_name.ensures
