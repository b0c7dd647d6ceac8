use Rattle.std.proofs.Common.{◌≡◌, ◌≤◌, ◌*◌, take, length}
use Rattle.std.specs.List.{flat_map}
use Rattle.class_names.specs.Keys.{method_keys}
use Rattle.class_names.proofs.names.method_keys_of.Given as goal

abbrev pub invariant-loop-class : goal.invariant-loop-class
invariant-loop-class l = record {
  keys : l.keys.items ≡ flat_map method_keys (take l.class-index l.classes);
  few : length l.keys.items ≤ 65536 * l.class-index;
}
