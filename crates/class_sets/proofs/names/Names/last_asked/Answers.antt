use Rattle.std.proofs.Common.{◌≡◌, ◌+◌, ◌∙◌, [], take, sym, ap, arith}
use Rattle.class_sets.specs.Waiting.{Queue, last_of, queue, texts}
use Rattle.class_sets.proofs.QueueLemmas.{last_asked_is}
use Rattle.class_sets.proofs.names.Names.last_asked.Goals as goal

pub returns-in-Some : goal.returns-in-Some
returns-in-Some c =
    let keys = c.self.inside.names.keys in
    let next : c.in-Some.last + 1 ≡ c.self.inside.asked = omega (arith, c.in-Some.ensures.0, c.in-Some.ensures.1) in
    c.as_str.ensures.value
    ∙ (sym (last_asked_is keys c.in-Some.last c.index.result.now c.index.ensures)
    ∙ ap last_of (ap (λ n. take n (texts keys)) next ∙ ap (λ (q : Queue). q.asked) c.self.view_is))

pub returns-in-None : goal.returns-in-None
returns-in-None c =
    let none : 0 ≡ c.self.inside.asked = omega (arith, c.in-None.ensures) in
    ap last_of (ap (λ n. take n (texts c.self.inside.names.keys)) none ∙ ap (λ (q : Queue). q.asked) c.self.view_is)
