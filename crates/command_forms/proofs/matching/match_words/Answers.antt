use Rattle.std.proofs.Common.{◌≡◌, ◌∙◌, ap, sym, arith, false, true, string_bytes, [], length, ◌≤◌, subst}
use Rattle.std.specs.List.{list_all}
use Rattle.std.proofs.lemmas.List.{length-map}
use Rattle.std.proofs.lemmas.List.Folds.{list_all-map}
use Rattle.std.proofs.lemmas.Result.{err_from_is_err_and}
use Rattle.clap.specs.Words.{HasKind, app_of, fault_of, is_simple, is_simple_and_free, matches_of, found_of, rows_of, kind_of}
use Rattle.clap.specs.Simple.{App}
use Rattle.command_forms.specs.Word.{is_formed, texts}
use Rattle.command_forms.specs.Given.{form_from, nothing_given}
use Rattle.command_forms.specs.Builder.{form_app}
use Rattle.command_forms.proofs.FormReads.{clap_agrees, form_is_free, form_is_simple}
use Rattle.command_forms.proofs.MatchLemmas.{err_case, ok_case, unformed}
use Rattle.command_forms.proofs.matching.match_words.Goals as goal

pub returns-then-not-are_formed : goal.returns-then-not-are_formed
returns-then-not-are_formed c =
    let bad : list_all (λ w. is_formed (string_bytes w)) c.args.words.now ≡ false = grind arith in
    unformed (form_from c.args.names.now c.args.options.now) (texts c.args.words.now) nothing_given (list_all-map is_formed string_bytes c.args.words.now ∙ bad)

pub returns-in_err-parser : goal.returns-in_err-parser
returns-in_err-parser c =
    let p = err_from_is_err_and c.from_residual.result c.from_residual.ensures.1 in
    rw (p.1, p.2) tt

pub returns-in_err-matches : goal.returns-in_err-matches
returns-in_err-matches c =
    let p = err_from_is_err_and c.from_residual-in_err-matches.result c.from_residual-in_err-matches.ensures.1 in
    let form = form_from c.args.names.now c.args.options.now in
    let good : list_all (λ w. is_formed (string_bytes w)) c.args.words.now ≡ true = grind arith in
    let app : app_of c.in_ok-parser.parser ≡ form_app form = c.in_ok-parser.ensures in
    let few : length form.words ≤ 8 = simp length-map c.requires in
    let agrees = clap_agrees form few (texts c.args.words.now) (list_all-map is_formed string_bytes c.args.words.now ∙ good) in
    let error = c.in_err-matches.field-0.0 in
    let fails : HasKind (fault_of (form_app form) (texts c.args.words.now)) error =
    subst (λ (a : App). HasKind (fault_of a (texts c.args.words.now)) error) app (c.in_err-matches.ensures.kinds (ap is_simple_and_free app ∙ form_is_free form)) in
    rw (p.1, p.2) (err_case form (texts c.args.words.now) (fault_of (form_app form) (texts c.args.words.now)) (matches_of (form_app form) (texts c.args.words.now))
    (kind_of error) agrees fails)

pub returns : goal.returns
returns c =
    let form = form_from c.args.names.now c.args.options.now in
    let good : list_all (λ w. is_formed (string_bytes w)) c.args.words.now ≡ true = grind arith in
    let app : app_of c.in_ok-parser.parser ≡ form_app form = c.in_ok-parser.ensures in
    let few : length form.words ≤ 8 = simp length-map c.requires in
    let agrees = clap_agrees form few (texts c.args.words.now) (list_all-map is_formed string_bytes c.args.words.now ∙ good) in
    let none : fault_of (form_app form) (texts c.args.words.now) ≡ [] =
    sym (ap (λ (a : App). fault_of a (texts c.args.words.now)) app) ∙ c.in_ok-matches.ensures.kinds (ap is_simple_and_free app ∙ form_is_free form) in
    let rows : rows_of (found_of c.in_ok-matches.matches) ≡ matches_of (form_app form) (texts c.args.words.now) =
    (c.in_ok-matches.ensures.matches (ap is_simple app ∙ form_is_simple form)).0 ∙ ap (λ (a : App). matches_of a (texts c.args.words.now)) app in
    ok_case _ _ _ (found_of c.in_ok-matches.matches) agrees none rows
