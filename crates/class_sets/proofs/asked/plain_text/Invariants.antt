use Rattle.std.proofs.Common.{◌≡◌, take, string_bytes}
use Rattle.class_sets.proofs.asked.plain_text.Given as goal

abbrev pub invariant-loop-c : goal.invariant-loop-c
invariant-loop-c l = string_bytes l.text ≡ take l.c-index l.characters
