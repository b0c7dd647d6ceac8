-- The forms of operands that stand for 16 bits.
use Rattle.mips_asm.specs.declared.half_form.HalfForm.{HalfForm}
use Rattle.mips_asm.specs.declared.half_form.HalfForm.TheVariants as half
use Rattle.mips_asm.specs.Instructions.{OperandForm, Signed, Unsigned, Near, TrapCode}

abbrev pub form_of : HalfForm → OperandForm
form_of half.Signed = Signed
form_of half.Unsigned = Unsigned
form_of half.Near = Near
form_of half.TrapCode = TrapCode
