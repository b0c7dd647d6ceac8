use Rattle.emit_paths_laws.proofs.Joining.{seen-within, seen-elsewhere}
use Rattle.emit_paths_laws.proofs.Through.{code-path}
use Rattle.emit_paths_laws.proofs.laws.code_is_a_path.Goals as goal

pub returns-clause-within : goal.returns-clause-within
returns-clause-within c program words m at k code w others lies =
    code-path program words m m (λ a. a) others (λ a b v less. seen-within program words m a b v others less) code at k w lies
    (c.code_does_what_it_says.ensures program words m at k code w others lies)

pub returns-clause-elsewhere : goal.returns-clause-elsewhere
returns-clause-elsewhere c program words own m low at k code w others differ lies =
    code-path program words own m (λ a. low) others (λ a b v less. seen-elsewhere program words m own low a v others differ) code at k w lies
    (c.code_does_what_it_says.ensures program words own at k code w others lies)
