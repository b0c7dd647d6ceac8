use Rattle.std.proofs.Common.{◌≡◌, ◌∙◌, rules, sym, ap, true, false, cond, Some, None, string_bytes, not}
use Rattle.std.specs.List.{list_all}
use Rattle.std.proofs.lemmas.List.Folds.{list_all-map}
use Rattle.command_forms.specs.Word.{texts}
use Rattle.command_words.specs.Values.{has_zero}
use Rattle.command_words.proofs.read.arguments_in.Goals as goal

pub returns-then-not-are_arguments : goal.returns-then-not-are_arguments
returns-then-not-are_arguments c =
    let bad : list_all (λ a. not (has_zero (string_bytes a))) c.args.arguments.now ≡ false = grind rules in
    ap (λ b. cond b (Some (texts c.args.arguments.now)) None) (list_all-map (λ a. not (has_zero a)) string_bytes c.args.arguments.now ∙ bad)

pub returns : goal.returns
returns c =
    let good : list_all (λ a. not (has_zero (string_bytes a))) c.args.arguments.now ≡ true = grind rules in
    let is : c.new.result ≡ texts c.args.arguments.now = search rules in
    ap (λ b. cond b (Some (texts c.args.arguments.now)) None) (list_all-map (λ a. not (has_zero a)) string_bytes c.args.arguments.now ∙ good) ∙ ap Some (sym is)
