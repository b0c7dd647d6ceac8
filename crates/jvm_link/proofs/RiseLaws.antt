-- The keys of the switches of linked code rise.
use Rattle.std.proofs.Common.{◌≡◌, ℕ, Bool, true, false, cond, List, length, replicate, Option, Some, None, refl}
use Rattle.std.specs.Prelude.{codes}
use Rattle.std.proofs.lemmas.Bool.{and_parts}
use Rattle.jvm_definition.specs.declared.lookup_switch.LookupSwitch.{LookupSwitch}
use Rattle.jvm_definition.specs.declared.return_name.ReturnName.{ReturnName}
use Rattle.jvm_definition.specs.declared.return_name.ReturnName.TheVariants as returns
use Rattle.jvm_definition.specs.declared.kind.Kind.{Kind}
use Rattle.jvm_definition.specs.declared.instruction.Instruction.{Instruction}
use Rattle.jvm_definition.specs.declared.instruction.Instruction.TheVariants.{Wrong, Get, Put}
use Rattle.class_definition.specs.Format.{repeated, tested, fault_unless, is_sound}
use Rattle.class_definition.specs.declared.entry.Entry.{Entry}
use Rattle.class_definition.specs.declared.entry.Entry.TheVariants as entries
use Rattle.class_definition.specs.NameGrammar.{same_text}
use Rattle.class_definition.specs.PoolChecks.{entry_at}
use Rattle.class_definition.specs.declared.class.Class.{Class}
use Rattle.class_definition.specs.declared.op.Op.{Op}
use Rattle.class_definition.specs.declared.op.Op.TheVariants as ops
use Rattle.class_definition.specs.declared.local_name.LocalName.{LocalName}
use Rattle.class_definition.specs.declared.local_name.LocalName.TheVariants.{Iload, Aload, Istore, Astore}
use Rattle.class_definition.specs.declared.pool_name.PoolName.{PoolName}
use Rattle.class_definition.specs.declared.pool_name.PoolName.TheVariants.{LdcW, Ldc2W, Getstatic, Putstatic, Invokevirtual, Invokestatic, Anewarray}
use Rattle.class_definition.specs.Instructions.{instruction}
use Rattle.class_definition.specs.Switches.{pad_of, LookupHead, lookup_head, pair, rises, lookup_switch}
use Rattle.class_definition.specs.Targets.{switch_keys}
use Rattle.class_definition.specs.MemberNames.{class_name_at, Signature, same_signature, signature_at, Reference, reference_to, field_number, method_number, string_name, host_name, length_signature, char_at_signature, host_call_signature, host_fault_signature}
use Rattle.class_definition.specs.Linking.{field_of_number, field_instruction, call_of_number, host_method, static_call, string_method, string_call, call_instruction, word_constant, long_constant, pool_instruction, local_instruction, return_instruction, linked_instruction}
use Rattle.jvm_code.specs.Order.{KeysRise}

either : (b : Bool) (x y : Instruction) → KeysRise x → KeysRise y → KeysRise (cond b x y)
either true x y a b = a
either false x y a b = b

field_by : (make : ℕ → Kind → Instruction) → ((n : ℕ) (k : Kind) → KeysRise (make n k)) → (cs : List Class) (c : Class) (e : Option Entry) → KeysRise (field_instruction cs make c e)
field_by make h cs c (Some (entries.FieldRef class name)) = by (field_number cs (reference_to (class_name_at c class) (signature_at c name)))
  where
    by : (o : Option ℕ) → KeysRise (field_of_number make o (signature_at c name))
    by None = tt
    by (Some n) = h n _
field_by make h cs c _ = tt

call_by : (call : Reference → Instruction) → ((r : Reference) → KeysRise (call r)) → (c : Class) (e : Option Entry) → KeysRise (call_instruction call c e)
call_by call h c (Some (entries.MethodRef class name)) = h (reference_to (class_name_at c class) (signature_at c name))
call_by call h c _ = tt

called : (o : Option ℕ) → KeysRise (call_of_number o)
called None = tt
called (Some n) = tt

host_by : (s : Signature) → KeysRise (host_method s)
host_by s = either (same_signature s host_call_signature) _ _ tt (either (same_signature s host_fault_signature) _ _ tt tt)

static_by : (cs : List Class) (r : Reference) → KeysRise (static_call cs r)
static_by cs r = either (same_text r.class_name host_name) (host_method r.signature) (call_of_number (method_number cs r)) (host_by r.signature) (called (method_number cs r))

method_by : (s : Signature) → KeysRise (string_method s)
method_by s = either (same_signature s length_signature) _ _ tt (either (same_signature s char_at_signature) _ _ tt tt)

string_by : (r : Reference) → KeysRise (string_call r)
string_by r = either (same_text r.class_name string_name) (string_method r.signature) Wrong (method_by r.signature) tt

word_by : (number : ℕ) (e : Option Entry) → KeysRise (word_constant number e)
word_by number (Some (entries.Integer n)) = tt
word_by number (Some (entries.Text n)) = tt
word_by number _ = tt

long_by : (e : Option Entry) → KeysRise (long_constant e)
long_by (Some (entries.Long n)) = tt
long_by _ = tt

pool_by : (cs : List Class) (number : ℕ) (c : Class) (name : PoolName) (slot : ℕ) → KeysRise (pool_instruction cs number c name slot)
pool_by cs number c LdcW slot = word_by number (entry_at c.pool slot)
pool_by cs number c Ldc2W slot = long_by (entry_at c.pool slot)
pool_by cs number c Getstatic slot = field_by Get (λ n k. tt) cs c (entry_at c.pool slot)
pool_by cs number c Putstatic slot = field_by Put (λ n k. tt) cs c (entry_at c.pool slot)
pool_by cs number c Invokevirtual slot = call_by string_call string_by c (entry_at c.pool slot)
pool_by cs number c Invokestatic slot = call_by (static_call cs) (static_by cs) c (entry_at c.pool slot)
pool_by cs number c Anewarray slot = either (same_text (class_name_at c slot) (codes "[I")) _ _ tt tt

local_by : (name : LocalName) (i : ℕ) → KeysRise (local_instruction name i)
local_by Iload i = tt
local_by Aload i = tt
local_by Istore i = tt
local_by Astore i = tt

return_by : (gives : Bool) (name : ReturnName) → KeysRise (return_instruction gives name)
return_by true returns.Ireturn = tt
return_by false returns.Ireturn = tt
return_by true returns.Return = tt
return_by false returns.Return = tt

lookup_rises : (at : ℕ) (s : LookupSwitch) → (lookup_switch at).fits s ≡ true → rises s.pairs ≡ true
unfolding lookup_switch
lookup_rises at s e =
    let head : LookupHead = (replicate (pad_of at) 0, (s.default, length s.pairs)) in
    let p = and_parts ((lookup_head at).fits head) ((tested switch_keys rises (repeated (pair at) (length s.pairs))).fits s.pairs) e in
    let u = and_parts ((repeated (pair at) (length s.pairs)).fits s.pairs) (is_sound (fault_unless switch_keys (rises s.pairs))) p.1 in
    sound_unless (rises s.pairs) u.1
  where
    sound_unless : (b : Bool) → is_sound (fault_unless switch_keys b) ≡ true → b ≡ true
    sound_unless true h = refl
    sound_unless false h = absurd cc

-- an instruction that can be spelled
pub op_rises : (cs : List Class) (number : ℕ) (c : Class) (gives : Bool) (at : ℕ) (op : Op) → (instruction at).fits op ≡ true → KeysRise (linked_instruction cs number c gives op)
op_rises cs number c gives at (ops.Ldc slot) fits = word_by number (entry_at c.pool slot)
op_rises cs number c gives at (ops.Pool name slot) fits = pool_by cs number c name slot
op_rises cs number c gives at (ops.Local name index) fits = local_by name index
op_rises cs number c gives at (ops.ShortLocal name index) fits = local_by name _
op_rises cs number c gives at (ops.Give name) fits = return_by gives name
op_rises cs number c gives at (ops.LookupSwitch s) fits = lookup_rises at s fits
op_rises cs number c gives at _ fits = tt
