-- Operations that push constants from the pool.
use Rattle.std.proofs.Common.{◌≡◌, ℕ, ◌^◌, ◌<◌, false, if◌then◌else◌, ℤ, pos, negsuc, List, sym, ap, ◌∙◌, refl, subst, lt-ltb, w64}
use Rattle.std.proofs.lemmas.Int.{of_z-to_z}
use Rattle.std.specs.Int.{cast_signed, cast_unsigned}
use Rattle.run_definition.specs.Words.{signed_of, unsigned_of}
use Rattle.class_definition.specs.declared.entry.Entry.{Entry}
use Rattle.class_definition.specs.declared.entry.Entry.TheVariants as entries
use Rattle.class_definition.specs.declared.op.Op.{Op}
use Rattle.class_definition.specs.declared.pool_name.PoolName.TheVariants.{LdcW, Ldc2W}
use Rattle.jvm_definition.specs.declared.constant.Constant.TheVariants as constants
use Rattle.jvm_definition.specs.declared.instruction.Instruction.TheVariants.{Push}
use Rattle.class_definition.specs.Linking.{word_constant, long_constant}
use Rattle.emit_steps.specs.Widths.{int_width, lies_from}
use Rattle.emit_assembly.specs.declared.references.References.{References}
use Rattle.emit_assembly.specs.Operations.{IsOperation, IsInSlot}
use Rattle.emit_assembly.proofs.Pools.{entry-stays}

pub pushes-int : (r : References) (pool : List Entry) (word : ℕ) (z : ℤ) (op : Op) → z ≡ signed_of word → unsigned_of z ≡ word → lies_from (negsuc 0) (pos 5) z ≡ false → lies_from (negsuc 127) (pos 127) z ≡ false → IsInSlot pool LdcW (entries.Integer z) op → IsOperation r pool (Push (constants.Int word)) op
pushes-int r pool word z op is back long longer made = subst (λ (o : Op). IsOperation r pool (Push (constants.Int word)) o) (sym made.is) (record {
  wide = λ at. sym (ap int_width (sym is) ∙ ap (λ b. if b then 1 else if lies_from (negsuc 127) (pos 127) z then 2 else 3) long ∙ ap (λ b. if b then 2 else 3) longer);
  fits = λ at. lt-ltb made.slot (2 ^ 16) made.small;
  targets = refl;
  linked = λ classes number c gives x known.
      ap (word_constant number) (entry-stays pool c.pool made.slot (entries.Integer z) made.there x)
      ∙ ap (λ w. Push (constants.Int w)) back;
})

pub pushes-long : (r : References) (pool : List Entry) (bits : ℕ) (z : ℤ) (op : Op) → bits < 2 ^ 64 → z ≡ cast_signed w64 bits → IsInSlot pool Ldc2W (entries.Long z) op → IsOperation r pool (Push (constants.Long bits)) op
pushes-long r pool bits z op small is made = subst (λ (o : Op). IsOperation r pool (Push (constants.Long bits)) o) (sym made.is) (record {
  wide = λ at. refl;
  fits = λ at. lt-ltb made.slot (2 ^ 16) made.small;
  targets = refl;
  linked = λ classes number c gives x known.
      ap long_constant (entry-stays pool c.pool made.slot (entries.Long z) made.there x)
      ∙ ap (λ w. Push (constants.Long w)) (ap (cast_unsigned w64) is ∙ of_z-to_z w64 bits small);
})

pub pushes-text : (r : References) (pool : List Entry) (class slot : ℕ) (op : Op) → IsInSlot pool LdcW (entries.Text slot) op → IsOperation r pool (Push (constants.Text class slot)) op
pushes-text r pool class slot op made = subst (λ (o : Op). IsOperation r pool (Push (constants.Text class slot)) o) (sym made.is) (record {
  wide = λ at. refl;
  fits = λ at. lt-ltb made.slot (2 ^ 16) made.small;
  targets = refl;
  linked = λ classes number c gives x known.
      ap (word_constant number) (entry-stays pool c.pool made.slot (entries.Text slot) made.there x)
      ∙ ap (λ n. Push (constants.Text n slot)) (sym known);
})
