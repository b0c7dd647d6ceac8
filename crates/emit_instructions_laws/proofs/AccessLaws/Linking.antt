-- The code of LL.
use Rattle.std.proofs.Common.{ℕ, ◌==◌, if◌then◌else◌, ◌∙◌, Some, is_none, refl, arith, lit<}
use Rattle.mips_definition.specs.Loads.{access_address, load_aligned, loaded_word}
use Rattle.mips_definition.specs.declared.inst.Inst.TheVariants as inst
use Rattle.mips_definition.specs.declared.names.load_name.LoadName.TheVariants.{Lw}
use Rattle.jvm_definition.specs.declared.value.Value.{Value}
use Rattle.jvm_definition.specs.declared.value.Value.TheVariants.{Int as int}
use Rattle.emit_instructions.specs.Fields.{link_field, linked_field}
use Rattle.emit_instructions.specs.Helpers.{load_linked_helper}
use Rattle.emit_simulation_laws.proofs.GuestFollows.CodeLaws.{CodeLaws}
use Rattle.emit_simulation_laws.proofs.RegisterLaws.Beside.{Agrees, agree-but, other-field, beside-held}
use Rattle.mem_helpers_laws.specs.Loading.{LinkedLoadsAreTheGuests, LoadsWords, linked_fields}
use Rattle.emit_instructions_laws.specs.Instructions.{InstructionFollows}
use Rattle.emit_instructions_laws.proofs.AccessLaws.Loading.{address-load}
use Rattle.emit_instructions_laws.proofs.AccessLaws.Orders.{FollowsInItsOrder, in-each-order}

linked-agree : (fields : ℕ → Value) (a : ℕ) → Agrees fields (linked_fields fields a)
linked-agree fields a =
    agree-but fields (linked_fields fields a)
    (λ f no_hi no_lo no_link no_linked. other-field f linked_field (int 1) (if f == link_field then int a else fields f) no_linked ∙ other-field f link_field (int a) (fields f) no_link)

module _ (laws : CodeLaws) (loads : LinkedLoadsAreTheGuests) (load_words : LoadsWords) (rs rt imm : ℕ) where
  in-order : FollowsInItsOrder (inst.LoadLinked rs rt imm)
  in-order site bank known at w s ready lies fields reads h =
      address-load laws site bank known at w s ready h rs rt imm reads.0 fields.writes.0 load_linked_helper (loaded_word Lw s.order s.memory (access_address s rs imm) 0) (linked_fields w.fields (access_address s rs imm)) (record s { load_link = Some (access_address s rs imm) }) (load_aligned Lw (access_address s rs imm)) (is_none (s.memory.byte (access_address s rs imm))) (lit< tt) refl
      (load_words w.heap h.readable h.writable (access_address s rs imm) 0 s.memory s.order Lw h.memory_held)
      (linked-agree w.fields (access_address s rs imm))
      (beside-held bank known w s h (linked_fields w.fields (access_address s rs imm)) w.heap s.hi s.lo (Some (access_address s rs imm)) s.memory (linked-agree w.fields (access_address s rs imm)) h.hi_is h.hi_word h.lo_is h.lo_word (refl, refl, omega arith) h.memory_held)
      (loads site.program site.words h.readable h.writable (access_address s rs imm) s.pc s.order s.memory w
      (record { helpers = ready.helpers; readable_is = h.readable_is; held = h.memory_held; is_word = omega arith }))
      lies

  pub load-linked-follows : InstructionFollows (inst.LoadLinked rs rt imm)
  load-linked-follows = in-each-order (inst.LoadLinked rs rt imm) in-order
