use Rattle.std.proofs.Common.{ap, length, arith}
use Rattle.jvm_link.proofs.CharacterLemmas.{kept_characters}
use Rattle.jvm_link.proofs.linked.Linked.characters_len.Goals as goal

pub overflow_cast-result : goal.overflow_cast-result
overflow_cast-result c = omega (arith, kept_characters c.args.self.now.classes c.args.self.now.kept c.args.class c.args.slot, ap length c.characters.ensures)
