use Rattle.std.specs.Prelude.{◌≡◌, List, [], ◌∷◌, IsTrue, slice_index_or, ◌&&◌, Bool, true, false, refl}
use Rattle.jvm_definition.specs.declared.local_kind.LocalKind.{LocalKind}
use Rattle.jvm_definition.specs.declared.value.Value.{Value}
use Rattle.jvm_definition.specs.declared.value.Value.TheVariants.{Unset as unset}
use Rattle.jvm_definition.specs.Effect.{moves_value}
use Rattle.jvm_activations.specs.Stack.{on_top}
use Rattle.jvm_instructions.specs.Workings.{workspace}
use Rattle.jvm_instructions.proofs.working.Working.store.Goals as goal

and_left : (a b : Bool) → IsTrue (a && b) → IsTrue a
and_left true b h = refl
and_left false b h = h

first : (kind : LocalKind) (operands : List Value) → IsTrue (on_top (moves_value kind ∷ []) operands) → IsTrue (moves_value kind (slice_index_or operands 0 unset))
first kind [] h = let e : false ≡ true = h in absurd cc
first kind (v ∷ operands) h = and_left (moves_value kind v) true h

pub returns-clause-does : goal.returns-clause-does
returns-clause-does c = λ program. c.store.ensures.does c.args.kind (first c.args.kind c.args.self.now.frames.current.operands.items c.requires.operand) program c.args.self.now.heap.region.size (workspace c.args.self.now)
