-- Code that calls a helper method follows the guest by what the method comes to.
use Rattle.std.proofs.Common.{◌≡◌, ℕ, ◌+◌, ◌<◌, ◌≤◌, Bool, ◌⊎◌, inl, inr, List, [], ◌∷◌, ◌++◌, Option, IsTrue, refl, subst, sym, arith}
use Rattle.run_definition.specs.declared.order.Order.{Order}
use Rattle.run_definition.specs.Words.{IsWord}
use Rattle.run_definition.specs.Turn.{Turn, moves, ends, «fault»}
use Rattle.run_definition.specs.declared.fault.Fault.{Fault}
use Rattle.mips_definition.specs.State.{State, with_register}
use Rattle.mips_definition.specs.Step.{advanced}
use Rattle.block_builder.specs.Registers.{Register, general}
use Rattle.jvm_definition.specs.declared.value.Value.{Value}
use Rattle.jvm_definition.specs.declared.value.Value.TheVariants.{Int as int}
use Rattle.jvm_definition.specs.declared.instruction.Instruction.{Instruction}
use Rattle.jvm_definition.specs.declared.instruction.Instruction.TheVariants.{Call}
use Rattle.jvm_definition.specs.Values.{Heap}
use Rattle.jvm_definition.specs.Effect.{Workspace, enters, instruction_effect}
use Rattle.jvm_definition.specs.Step as machine
use Rattle.jvm_definition_laws.specs.Stretch.{caller_workspace}
use Rattle.emit_steps.specs.declared.step.Step.{Step}
use Rattle.emit_steps.specs.declared.step.Step.TheVariants.{Does}
use Rattle.emit_steps.specs.Widths.{size}
use Rattle.emit_steps.specs.Outcomes.{stays_within}
use Rattle.emit_steps.specs.Placing.{LiesAt}
use Rattle.emit_instructions.specs.Access.{put_register}
use Rattle.mem_helpers.specs.Methods.{helper_code}
use Rattle.emit_simulation_laws.specs.Knowing.{gained}
use Rattle.emit_simulation_laws.specs.Outcomes.{Gives, CallsFault}
use Rattle.emit_simulation_laws.specs.Holding.{HoldsOn, with_value}
use Rattle.emit_simulation_laws.proofs.RegisterLaws.Writing.{register-put, register-held, register-kept, register-goal-kept}
use Rattle.emit_simulation_laws.specs.Sites.{Site, stands, whole_weight}
use Rattle.emit_simulation_laws.specs.Following.{ComesToEnd, ComesToTurn, LastTurn}
use Rattle.emit_simulation_laws.specs.Behind.{IsDone}
use Rattle.emit_simulation_laws.proofs.GuestFollows.Ends.{Ends}
use Rattle.emit_simulation_laws.proofs.GuestFollows.CodeLaws.{CallsHelper, CodeLaws}
use Rattle.emit_simulation_laws.proofs.RegisterLaws.Beside.{Agrees, beside, beside-kept, beside-goal-kept, kept-twice, goal-kept-twice}
use Rattle.emit_instructions_laws.specs.Instructions.{IsReady, most_turns}
use Rattle.emit_instructions_laws.proofs.InstructionLaws.Results.{CodeFollows}
use Rattle.emit_instructions_laws.proofs.AccessLaws.Arranging.{Brings}

module _ (site : Site) (low high least most more : ℕ) (total : (Instruction → ℕ) → ℕ) (x : machine.JvmState) (fewer : most ≤ more) where
  end-later : (Arrives : Workspace → Type 0) → ComesToEnd site low high least most total Arrives x → ComesToEnd site low high least more total Arrives x
  end-later Arrives c =
      let few = c.in_time in
      record { turns = c.turns; after = c.after; path = c.path; no_sooner = c.no_sooner; in_time = omega (arith, few, fewer); arrives = c.arrives }

  turn-later : (Last : ℕ → ℕ → Turn machine.JvmState → Type 0) → ComesToTurn site low high least most total Last x → ComesToTurn site low high least more total Last x
  turn-later Last c =
      let few = c.in_time in
      record { turns = c.turns; before = c.before; place = c.place; path = c.path; is_there = c.is_there; below = c.below; no_sooner = c.no_sooner; in_time = omega (arith, few, fewer); last = c.last }

module _ (laws : CodeLaws) (site : Site) (order : Order) (bank : ℕ) (known : ℕ → Bool) (at : ℕ) (w : Workspace) (ready : IsReady site order) where
  module _ (h most : ℕ) (front back : List Step) (v : Workspace) (given : List Value) (written : List Register) (is_helper : h < 18) (within : IsTrue (stays_within front)) (lies : LiesAt site.program site.method at (front ++ Does (Call h) ∷ back)) (front_is : Brings site.program site.words 5 front w v) (calls : instruction_effect site.program site.words (Call h) v ≡ enters h given w) where
    helped : CallsHelper site order at front_is.turns h front back w v given w
    helped =
        let high = ready.no_helper in
        record {
          within = within;
          lies = lies;
          helper = ready.helpers h (omega (arith, is_helper));
          apart = omega (arith, is_helper, high);
          front_is = front_is.comes;
          calls = calls;
        }

    -- the method returns, and the code behind the call ends where the instruction is done
    pub returned-follows : most ≤ 80 → (result : Option Value) (Leaves : (ℕ → Value) → Heap → Type 0) (t : State) → Gives site.program site.words most (helper_code order h) given w result Leaves → ((left : Workspace) → Leaves left.fields left.heap → Ends site.program site.words 1 back (caller_workspace result w left) (λ u. IsDone bank known written w u t)) → CodeFollows site order bank known at w written (front ++ Does (Call h) ∷ back) (moves t)
    returned-follows short result Leaves t method_gives goes_on =
        let few = front_is.in_time in
        let room = ready.few in
        end-later site at (at + size (front ++ Does (Call h) ∷ back)) 1 (front_is.turns + (most + 2) + 1) most_turns (whole_weight order (front ++ Does (Call h) ∷ back)) (stands site at w) (omega (arith, few, short)) (λ u. IsDone bank known written w u t)
        (laws.call_follows site order at front_is.turns most 1 h front back w v w given result Leaves (λ u. IsDone bank known written w u t) helped
        (omega (arith, room)) method_gives goes_on)

    -- the method calls the one that ends the run
    pub faulted-follows : most ≤ 60 → (g : ℕ) (ending : Fault) → (g ≡ 18) ⊎ (g ≡ 19) → CallsFault site.program site.words most (helper_code order) (helper_code order h) given w g ending → CodeFollows site order bank known at w written (front ++ Does (Call h) ∷ back) (ends («fault» ending))
    faulted-follows short g ending is_fault stops =
        let few = front_is.in_time in
        let high = ready.no_helper in
        turn-later site at (at + size (front ++ Does (Call h) ∷ back)) 1 (front_is.turns + (most + 1) + (most + 1) + 1) most_turns (whole_weight order (front ++ Does (Call h) ∷ back)) (stands site at w) (omega (arith, few, short)) (LastTurn site (at + size (front ++ Does (Call h) ∷ back)) most_turns (whole_weight order (front ++ Does (Call h) ∷ back)) (IsDone bank known written w) (ends («fault» ending)))
        (laws.call_fault_follows site order at front_is.turns most h g front back w v w given ending (LastTurn site (at + size (front ++ Does (Call h) ∷ back)) most_turns (whole_weight order (front ++ Does (Call h) ∷ back)) (IsDone bank known written w) (ends («fault» ending))) helped
        (ready.helpers g (below g is_fault)) (omega (arith, high, below g is_fault)) ready.few is_fault stops (λ used place. refl))
      where
        below : (g : ℕ) → (g ≡ 18) ⊎ (g ≡ 19) → g < 20
        below g (inl e) = omega (arith, e)
        below g (inr e) = omega (arith, e)

-- ---- what stands behind the call

module _ (site : Site) (bank : ℕ) (known : ℕ → Bool) (w : Workspace) (fields : ℕ → Value) (heap : Heap) (agrees : Agrees w.fields fields) (t : State) (held : HoldsOn bank known (beside w fields heap) t) where
  -- a register takes the result
  pub put-behind : (d n : ℕ) → d < 32 → IsWord n → Ends site.program site.words 1 (put_register bank d ∷ []) (record { locals = w.locals; operands = int n ∷ w.operands; fields = fields; heap = heap }) (λ u. IsDone bank known (general d ∷ []) w u (advanced (with_register t d n)))
  put-behind d n below word = record {
    turns = 1;
    after = with_value bank d (int n) (beside w fields heap) w.operands;
    comes = register-put site.program site.words bank d n [] (beside w fields heap) w.operands;
    in_time = omega arith;
    arrives = record {
      state = record {
        held = register-held bank d n known (beside w fields heap) t w.operands below word held;
        kept = kept-twice bank w (beside w fields heap) (with_value bank d (int n) (beside w fields heap) w.operands) (beside-kept bank w fields heap agrees) (register-kept bank d n (beside w fields heap));
      };
      goal = goal-kept-twice w (beside w fields heap) (with_value bank d (int n) (beside w fields heap) w.operands) (beside-goal-kept w fields heap agrees) (register-goal-kept bank d n (beside w fields heap) w.operands below);
    };
  }

  -- nothing
  pub nothing-behind : (written : List Register) → gained written known ≡ known → Ends site.program site.words 1 [] (beside w fields heap) (λ u. IsDone bank known written w u (advanced t))
  nothing-behind written none = record {
    turns = 0;
    after = beside w fields heap;
    comes = refl;
    in_time = omega arith;
    arrives = record {
      state = record { held = subst (λ k. HoldsOn bank k (beside w fields heap) t) (sym none) held; kept = beside-kept bank w fields heap agrees };
      goal = beside-goal-kept w fields heap agrees;
    };
  }
