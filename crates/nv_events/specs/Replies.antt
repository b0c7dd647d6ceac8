-- Answers that are written down beforehand.
use Rattle.std.specs.Prelude.{ℕ, List, map, drop}
use Rattle.run_definition.specs.Answer.{Answer}
use Rattle.nv_events.specs.declared.reply.Reply.{Reply}

abbrev pub answer_of : Reply → Answer
answer_of reply = record { value = reply.value; patch = reply.patch.items }

-- the answers of the replies from a place of their list on
abbrev pub answers_from : List Reply → ℕ → List Answer
answers_from replies place = map answer_of (drop place replies)
