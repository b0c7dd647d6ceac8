-- What holds a guest's state holds it where field pc and the field of the meter are written anew.
use Rattle.std.proofs.Common.{◌≡◌, ℕ, ◌^◌, ◌<◌, ◌==◌, if◌then◌else◌, Option, Some, None, refl, ap, ◌∙◌, arith}
use Rattle.std.proofs.lemmas.Bool.{ne_eqb}
use Rattle.run_definition.specs.Words.{IsWord}
use Rattle.run_definition.specs.declared.order.Order.{Order}
use Rattle.run_definition.specs.Question.{Question}
use Rattle.run_definition.specs.Answer.{Answer}
use Rattle.run_definition.specs.Run.{Run}
use Rattle.mips_definition.specs.State as guest
use Rattle.jvm_definition.specs.declared.value.Value.{Value}
use Rattle.jvm_definition.specs.declared.value.Value.TheVariants.{Int as int}
use Rattle.jvm_definition.specs.Values.{Heap}
use Rattle.jvm_definition.specs.Effect.{Workspace}
use Rattle.jvm_definition.specs.Step.{JvmState}
use Rattle.emit_layout.specs.FieldNumbers.{pc_field, register_field}
use Rattle.emit_instructions.specs.Access.{keeps}
use Rattle.emit_simulation_laws.specs.Holding.{IsLink}
use Rattle.meter.specs.Guards.{left_field}
use Rattle.emit_instructions_laws.specs.Pieces.{HoldsAll}
use Rattle.emit_program_laws.specs.Entered.{IsGuest, work_over}
use Rattle.emit_metered_laws.specs.Slices.{HoldsByMeter, LeavesGuest, refilled}
use Rattle.emit_metered_laws.specs.Spending.{HoldsLeft}
use Rattle.emit_metered_laws.proofs.Slices.Leaving.{LeavesHeld}

module _ (choose at left : ℕ) (fields : ℕ → Value) (heap : Heap) (t : guest.State) where
  abbrev before : Workspace
  before = work_over choose fields heap

  abbrev anew : ℕ → Value
  anew = refilled at left fields

  register-kept : (r : ℕ) → 0 < r → r < 32 → anew (register_field r) ≡ fields (register_field r)
  register-kept r some below =
      ap (λ b. if b then int at else if register_field r == left_field then int left else fields (register_field r)) (ne_eqb (register_field r) pc_field (λ same. omega (arith, same, some, below)))
      ∙ ap (λ b. if b then int left else fields (register_field r)) (ne_eqb (register_field r) left_field (λ same. omega (arith, same, some, below)))

  link-kept : (link : Option ℕ) → IsLink fields link → IsLink anew link
  link-kept None is = is
  link-kept (Some address) is = is

  holds-anew : HoldsAll before t → HoldsAll (work_over choose anew heap) t
  holds-anew h = record {
    register_is = λ r some below is. ap (λ v. if keeps 0 r then before.locals r else v) (register-kept r some below) ∙ h.register_is r some below is;
    register_word = h.register_word;
    hi_is = h.hi_is;
    hi_word = h.hi_word;
    lo_is = h.lo_is;
    lo_word = h.lo_word;
    pc = at;
    pc_is = refl;
    link_is = link-kept t.load_link h.link_is;
    readable = h.readable;
    readable_is = h.readable_is;
    writable = h.writable;
    writable_is = h.writable_is;
    memory_held = h.memory_held;
  }

-- where the meter is spent the host may fill it again
pub holds-refilled : (order : Order) (code : ℕ → Option ℕ) (choose left more : ℕ) (t : guest.State) (y : JvmState) → IsGuest order code t → IsWord t.pc → HoldsLeft left t y → more < 2 ^ 31 → HoldsByMeter order code choose more (refilled t.pc more y.fields) y.heap t
holds-refilled order code choose left more t y guest_is pc_word h small = record {
  holds = record {
    guest_is = guest_is;
    held = holds-anew choose t.pc more y.fields y.heap t
        (h.held (work_over choose y.fields y.heap) (refl, refl));
    pc_is = refl;
    pc_word = pc_word;
  };
  left_is = refl;
  small = small;
}

-- so a run that leaves the guest's state held leaves the guest
pub leaves-guest : {K : Type 0} (reply : K → Question → Option (Answer × K)) (order : Order) (code : ℕ → Option ℕ) (choose left : ℕ) (t : guest.State) (k : K) (run : Run JvmState K) → LeavesHeld reply order code left t k run → LeavesGuest reply order code choose left t k run
leaves-guest reply order code choose left t k run x = record {
  unmade = x.unmade;
  few = x.few;
  within = x.within;
  left_is = x.holds.left_is.field;
  made = x.made;
  made_is = x.made_is;
  goes = x.goes;
  questions = x.questions;
  system = x.system;
  outcome = x.outcome;
  holds = λ more small. holds-refilled order code choose x.unmade more x.made.last run.last x.guest_is x.pc_word x.holds small;
}
