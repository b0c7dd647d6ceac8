-- The lines of code stand one after the other, and the keys of its switches rise.
use Rattle.std.proofs.Common.{◌≡◌, ℕ, ◌+◌, ◌<◌, Bool, List, [], ◌∷◌, map, ap, subst, sym, arith, lit<}
use Rattle.std.specs.List.{AllByRecursion}
use Rattle.class_definition.specs.declared.class.Class.{Class}
use Rattle.class_definition.specs.declared.line.Line.{Line}
use Rattle.class_definition.specs.declared.op.Op.{Op}
use Rattle.class_definition.specs.declared.op.Op.TheVariants.{TableSwitch, LookupSwitch}
use Rattle.jvm_code.specs.Writing as writing
use Rattle.class_definition.specs.Sizes.{size_at}
use Rattle.jvm_definition.specs.Program.{LaidFrom}
use Rattle.class_definition.specs.Linking.{linked_line}
use Rattle.jvm_code.specs.Order.{LineRises, AreInOrder}
use Rattle.jvm_link.proofs.RiseLaws.{op_rises}

size_some : (at : ℕ) (op : Op) → 0 < size_at at op
size_some at (TableSwitch s) = omega arith
size_some at (LookupSwitch s) = omega arith
size_some at _ = lit< tt

laid_lines : (classes : List Class) (number : ℕ) (c : Class) (gives : Bool) (lines : List Line) (at : ℕ) → writing.AreLaid at lines → LaidFrom at (map (linked_line classes number c gives) lines)
laid_lines classes number c gives [] at laid = tt
laid_lines classes number c gives (l ∷ lines) at laid =
    let some : l.at < l.at + size_at l.at l.op = omega (arith, size_some l.at l.op) in
    let here : at + size_at at l.op ≡ l.at + size_at l.at l.op = ap (λ a. a + size_at a l.op) (sym laid.0) in
    (laid.0, some, subst (λ a. LaidFrom a (map (linked_line classes number c gives) lines)) here (laid_lines classes number c gives lines (at + size_at at l.op) laid.2))

rising_lines : (classes : List Class) (number : ℕ) (c : Class) (gives : Bool) (lines : List Line) (at : ℕ) → writing.AreLaid at lines → AllByRecursion LineRises (map (linked_line classes number c gives) lines)
rising_lines classes number c gives [] at laid = tt
rising_lines classes number c gives (l ∷ lines) at laid =
    (op_rises classes number c gives at l.op laid.1, rising_lines classes number c gives lines (at + size_at at l.op) laid.2)

pub lines_in_order : (classes : List Class) (number : ℕ) (c : Class) (gives : Bool) (lines : List Line) → writing.AreLaid 0 lines → AreInOrder (map (linked_line classes number c gives) lines)
lines_in_order classes number c gives lines laid =
    (laid_lines classes number c gives lines 0 laid, rising_lines classes number c gives lines 0 laid)
