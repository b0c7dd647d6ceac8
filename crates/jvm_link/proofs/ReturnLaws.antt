-- A return of a linked method is of the method's kind.
use Rattle.std.proofs.Common.{◌≡◌, ℕ, zero, suc, Bool, true, false, cond, eqb, List, [], ◌∷◌, ◌++◌, map, Option, Some, None, refl, subst, slice_get}
use Rattle.std.specs.Prelude.{codes}
use Rattle.std.specs.List.{AllByRecursion}
use Rattle.jvm_definition.specs.declared.return_name.ReturnName.{ReturnName}
use Rattle.jvm_definition.specs.declared.return_name.ReturnName.TheVariants as returns
use Rattle.jvm_definition.specs.declared.kind.Kind.{Kind}
use Rattle.jvm_definition.specs.declared.linked_line.LinkedLine.{LinkedLine}
use Rattle.jvm_definition.specs.declared.linked_method.LinkedMethod.{LinkedMethod}
use Rattle.jvm_definition.specs.declared.instruction.Instruction.{Instruction}
use Rattle.jvm_definition.specs.declared.instruction.Instruction.TheVariants.{Wrong, Get, Put, Return}
use Rattle.jvm_definition.specs.Program.{line_in}
use Rattle.jvm_definition.specs.Typing.{GivesAs, returns_int}
use Rattle.class_definition.specs.declared.entry.Entry.{Entry}
use Rattle.class_definition.specs.declared.entry.Entry.TheVariants as entries
use Rattle.class_definition.specs.NameGrammar.{same_text}
use Rattle.class_definition.specs.PoolChecks.{entry_at}
use Rattle.class_definition.specs.declared.class.Class.{Class}
use Rattle.class_definition.specs.declared.line.Line.{Line}
use Rattle.class_definition.specs.declared.method.Method.{Method}
use Rattle.class_definition.specs.declared.op.Op.{Op}
use Rattle.class_definition.specs.declared.op.Op.TheVariants as ops
use Rattle.class_definition.specs.declared.local_name.LocalName.{LocalName}
use Rattle.class_definition.specs.declared.local_name.LocalName.TheVariants.{Iload, Aload, Istore, Astore}
use Rattle.class_definition.specs.declared.pool_name.PoolName.{PoolName}
use Rattle.class_definition.specs.declared.pool_name.PoolName.TheVariants.{LdcW, Ldc2W, Getstatic, Putstatic, Invokevirtual, Invokestatic, Anewarray}
use Rattle.class_definition.specs.MemberNames.{slot_text, class_name_at, Signature, same_signature, signature_at, Reference, reference_to, field_number, method_number, string_name, host_name, length_signature, char_at_signature, host_call_signature, host_fault_signature}
use Rattle.class_definition.specs.Linking.{gives_int, field_of_number, field_instruction, call_of_number, host_method, static_call, string_method, string_call, call_instruction, word_constant, long_constant, pool_instruction, local_instruction, return_instruction, linked_instruction, linked_line, lines_of_code, linked_method, methods_from, linked_methods}

-- a return of a method that gives an int, or nothing
abbrev Gives : Bool → Instruction → Type 0
Gives gives (Return name) = returns_int name ≡ gives
Gives gives _ = Unit {0}

module _ (gives : Bool) where
  either : (b : Bool) (x y : Instruction) → Gives gives x → Gives gives y → Gives gives (cond b x y)
  either true x y a b = a
  either false x y a b = b

  field_by : (make : ℕ → Kind → Instruction) → ((n : ℕ) (k : Kind) → Gives gives (make n k)) → (cs : List Class) (c : Class) (e : Option Entry) → Gives gives (field_instruction cs make c e)
  field_by make h cs c (Some (entries.FieldRef class name)) = by (field_number cs (reference_to (class_name_at c class) (signature_at c name)))
    where
      by : (o : Option ℕ) → Gives gives (field_of_number make o (signature_at c name))
      by None = tt
      by (Some n) = h n _
  field_by make h cs c _ = tt

  call_by : (call : Reference → Instruction) → ((r : Reference) → Gives gives (call r)) → (c : Class) (e : Option Entry) → Gives gives (call_instruction call c e)
  call_by call h c (Some (entries.MethodRef class name)) = h (reference_to (class_name_at c class) (signature_at c name))
  call_by call h c _ = tt

  called : (o : Option ℕ) → Gives gives (call_of_number o)
  called None = tt
  called (Some n) = tt

  host_by : (s : Signature) → Gives gives (host_method s)
  host_by s = either (same_signature s host_call_signature) _ _ tt (either (same_signature s host_fault_signature) _ _ tt tt)

  static_by : (cs : List Class) (r : Reference) → Gives gives (static_call cs r)
  static_by cs r = either (same_text r.class_name host_name) (host_method r.signature) (call_of_number (method_number cs r)) (host_by r.signature) (called (method_number cs r))

  method_by : (s : Signature) → Gives gives (string_method s)
  method_by s = either (same_signature s length_signature) _ _ tt (either (same_signature s char_at_signature) _ _ tt tt)

  string_by : (r : Reference) → Gives gives (string_call r)
  string_by r = either (same_text r.class_name string_name) (string_method r.signature) Wrong (method_by r.signature) tt

  word_by : (number : ℕ) (e : Option Entry) → Gives gives (word_constant number e)
  word_by number (Some (entries.Integer n)) = tt
  word_by number (Some (entries.Text n)) = tt
  word_by number _ = tt

  long_by : (e : Option Entry) → Gives gives (long_constant e)
  long_by (Some (entries.Long n)) = tt
  long_by _ = tt

  pool_by : (cs : List Class) (number : ℕ) (c : Class) (name : PoolName) (slot : ℕ) → Gives gives (pool_instruction cs number c name slot)
  pool_by cs number c LdcW slot = word_by number (entry_at c.pool slot)
  pool_by cs number c Ldc2W slot = long_by (entry_at c.pool slot)
  pool_by cs number c Getstatic slot = field_by Get (λ n k. tt) cs c (entry_at c.pool slot)
  pool_by cs number c Putstatic slot = field_by Put (λ n k. tt) cs c (entry_at c.pool slot)
  pool_by cs number c Invokevirtual slot = call_by string_call string_by c (entry_at c.pool slot)
  pool_by cs number c Invokestatic slot = call_by (static_call cs) (static_by cs) c (entry_at c.pool slot)
  pool_by cs number c Anewarray slot = either (same_text (class_name_at c slot) (codes "[I")) _ _ tt tt

  local_by : (name : LocalName) (i : ℕ) → Gives gives (local_instruction name i)
  local_by Iload i = tt
  local_by Aload i = tt
  local_by Istore i = tt
  local_by Astore i = tt

return_by : (gives : Bool) (name : ReturnName) → Gives gives (return_instruction gives name)
return_by true returns.Ireturn = refl
return_by false returns.Ireturn = tt
return_by true returns.Return = tt
return_by false returns.Return = refl

op_by : (cs : List Class) (number : ℕ) (c : Class) (gives : Bool) (op : Op) → Gives gives (linked_instruction cs number c gives op)
op_by cs number c gives (ops.Ldc slot) = word_by gives number (entry_at c.pool slot)
op_by cs number c gives (ops.Pool name slot) = pool_by gives cs number c name slot
op_by cs number c gives (ops.Local name index) = local_by gives name index
op_by cs number c gives (ops.ShortLocal name index) = local_by gives name _
op_by cs number c gives (ops.Give name) = return_by gives name
op_by cs number c gives _ = tt

-- ---- lines and methods

some_line : (x y : LinkedLine) → Some x ≡ Some y → x ≡ y
some_line x y e = cc

lines_by : (cs : List Class) (number : ℕ) (c : Class) (gives : Bool) (ls : List Line) (at : ℕ) (line : LinkedLine) → line_in (map (linked_line cs number c gives) ls) at ≡ Some line → Gives gives line.instruction
lines_by cs number c gives [] at line h = absurd cc
lines_by cs number c gives (l ∷ ls) at line h = by (eqb l.at at) h (lines_by cs number c gives ls at line)
  where
    by : (b : Bool) → cond b (Some (linked_line cs number c gives l)) (line_in (map (linked_line cs number c gives) ls) at) ≡ Some line → (line_in (map (linked_line cs number c gives) ls) at ≡ Some line → Gives gives line.instruction) → Gives gives line.instruction
    by true e rest =
        let one : linked_line cs number c gives l ≡ line = some_line (linked_line cs number c gives l) line e in
        let P : LinkedLine → Type 0 = λ x. Gives gives x.instruction in
        subst P one (op_by cs number c gives l.op)
    by false e rest = rest e

gives_as : (m : LinkedMethod) (i : Instruction) → Gives m.gives_int i → GivesAs m i
gives_as m (Return name) h = h
gives_as m _ h = tt

abbrev Returns : LinkedMethod → Type 0
Returns m = (at : ℕ) (line : LinkedLine) → line_in m.lines at ≡ Some line → GivesAs m line.instruction

method_returns : (cs : List Class) (number : ℕ) (c : Class) (m : Method) → Returns (linked_method cs number c m)
unfolding linked_method
method_returns cs number c m at line h =
    gives_as (linked_method cs number c m) line.instruction (lines_by cs number c (gives_int (slot_text c m.desc)) (lines_of_code m.code) at line h)

own_return : (cs : List Class) (number : ℕ) (c : Class) (ms : List Method) (others : List LinkedMethod) → AllByRecursion Returns others → AllByRecursion Returns (map (linked_method cs number c) ms ++ others)
own_return cs number c [] others h = h
own_return cs number c (m ∷ ms) others h = (method_returns cs number c m, own_return cs number c ms others h)

all_return : (cs : List Class) (number : ℕ) (ds : List Class) → AllByRecursion Returns (methods_from cs number ds)
all_return cs number [] = tt
all_return cs number (c ∷ ds) = own_return cs number c c.methods (methods_from cs (suc number) ds) (all_return cs (suc number) ds)

some_method : (x y : LinkedMethod) → Some x ≡ Some y → x ≡ y
some_method x y e = cc

one_returns : (ms : List LinkedMethod) → AllByRecursion Returns ms → (n : ℕ) (m : LinkedMethod) → slice_get ms n ≡ Some m → Returns m
one_returns [] h n m e = absurd cc
one_returns (x ∷ ms) h zero m e = subst Returns (some_method x m e) h.0
one_returns (x ∷ ms) h (suc n) m e = one_returns ms h.1 n m e

pub returns_are : (cs : List Class) (n : ℕ) (m : LinkedMethod) → slice_get (linked_methods cs) n ≡ Some m → Returns m
returns_are cs n m e = one_returns (linked_methods cs) (all_return cs 0 cs) n m e
