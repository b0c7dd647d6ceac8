-- How the code behind a word that was read comes to its return.
use Rattle.std.proofs.Common.{◌≡◌, ℕ, ◌+◌, ◌≤◌, List, [], ◌∷◌, ◌++◌, Some, refl, ap, ◌∙◌, arith}
use Rattle.run_definition.specs.Words.{IsWord}
use Rattle.run_definition.specs.declared.order.Order.{Order}
use Rattle.run_definition.specs.declared.order.Order.TheVariants.{Big, Little}
use Rattle.mips_definition.specs.Memory.{word_of_lanes}
use Rattle.jvm_definition.specs.declared.value.Value.{Value}
use Rattle.jvm_definition.specs.declared.value.Value.TheVariants.{Int as int}
use Rattle.jvm_definition.specs.Program.{Program}
use Rattle.jvm_definition.specs.Values.{Heap}
use Rattle.jvm_definition.specs.Effect as effects
use Rattle.emit_steps.specs.declared.step.Step.{Step}
use Rattle.emit_steps.specs.Outcomes.{Outcome, stopped, outcome}
use Rattle.mem_helpers.specs.Parts.{ordered_code}
use Rattle.mem_helpers.specs.Loads.{gives}
use Rattle.mem_helpers_laws.proofs.LoadLaws.Coming.{laters, Comes-after}
use Rattle.mem_helpers_laws.proofs.LoadLaws.Widths.{over_all}
use Rattle.mem_helpers_laws.proofs.LoadLaws.Accessing.{Ends}
use Rattle.mem_helpers_laws.proofs.LoadLaws.Orders.{turns_to, turned_locals, ordered}

few-turns : (order : Order) → turns_to order ≤ 20
few-turns Big = omega arith
few-turns Little = omega arith

-- the word on the stack is returned
pub Ends-returned : (program : Program) (words : ℕ) (locals : ℕ → Value) (fields : ℕ → Value) (heap : Heap) (tail : List Step) (r result : ℕ) → r ≡ result → Ends (outcome program words (gives ++ tail) (over_all locals (int r ∷ []) fields heap)) 0 result fields heap
Ends-returned program words locals fields heap tail r result e =
    let w = over_all locals (int r ∷ []) fields heap in
    record {
      back = w;
      comes = record { turns = 0; step = 0; at = w; is = ap (λ n. stopped 0 0 w (effects.gives (Some (int n)) w)) e; in_time = omega arith };
      fields_are = refl;
      heap_is = refl;
    }

-- so many steps before
pub Ends-after : (n : ℕ) {o p : Outcome} {most more result : ℕ} {left : ℕ → Value} {heap : Heap} → p ≡ laters n o → n + most ≤ more → Ends o most result left heap → Ends p more result left heap
Ends-after n same few e = record {
  back = e.back;
  comes = Comes-after n same few e.comes;
  fields_are = e.fields_are;
  heap_is = e.heap_is;
}

-- the word is put into the guest's order before
pub Ends-ordered : (program : Program) (words : ℕ) (locals : ℕ → Value) (fields : ℕ → Value) (heap : Heap) (order : Order) (free v : ℕ) (code rest : List Step) {most result : ℕ} {left : ℕ → Value} → code ≡ ordered_code order free ++ rest → IsWord v → Ends (outcome program words rest (over_all (turned_locals order free v locals) (int (word_of_lanes order v) ∷ []) fields heap)) most result left heap → Ends (outcome program words code (over_all locals (int v ∷ []) fields heap)) (20 + most) result left heap
Ends-ordered program words locals fields heap order free v code rest same word e =
    let few = few-turns order in
    Ends-after (turns_to order)
    (ap (λ l. outcome program words l (over_all locals (int v ∷ []) fields heap)) same ∙ ordered program words locals fields heap order free v rest word) (omega arith) e
