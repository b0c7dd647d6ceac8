-- What linking promises of a program.
use Rattle.std.proofs.Common.{◌≡◌, ℕ, zero, suc, ◌+◌, Bool, true, false, cond, eqb, List, [], ◌∷◌, ◌++◌, map, Option, Some, None, is_some, refl, sym, ap, subst, ◌∙◌, position, slice_get, arith}
use Rattle.std.specs.Prelude.{codes, option_map}
use Rattle.std.specs.List.{AllByRecursion}
use Rattle.std.proofs.lemmas.Bool.{and_parts}
use Rattle.std.proofs.lemmas.List.{map-append}
use Rattle.std.proofs.lemmas.Slice.Eq.{bytes_eq-Decides}
use Rattle.jvm_definition.specs.declared.return_name.ReturnName.{ReturnName}
use Rattle.jvm_definition.specs.declared.return_name.ReturnName.TheVariants as returns
use Rattle.jvm_definition.specs.declared.kind.Kind.{Kind}
use Rattle.jvm_definition.specs.declared.linked_line.LinkedLine.{LinkedLine}
use Rattle.jvm_definition.specs.declared.linked_method.LinkedMethod.{LinkedMethod}
use Rattle.jvm_definition.specs.declared.instruction.Instruction.{Instruction}
use Rattle.jvm_definition.specs.declared.instruction.Instruction.TheVariants.{Wrong, Get, Put}
use Rattle.jvm_definition.specs.Program.{line_in}
use Rattle.jvm_definition.specs.Typing.{NamesField, IsLinked}
use Rattle.class_definition.specs.declared.entry.Entry.{Entry}
use Rattle.class_definition.specs.declared.entry.Entry.TheVariants as entries
use Rattle.class_definition.specs.NameGrammar.{same_text, after_field}
use Rattle.class_definition.specs.PoolChecks.{entry_at}
use Rattle.class_definition.specs.declared.class.Class.{Class}
use Rattle.class_definition.specs.declared.line.Line.{Line}
use Rattle.class_definition.specs.declared.member.Member.{Member}
use Rattle.class_definition.specs.declared.method.Method.{Method}
use Rattle.class_definition.specs.declared.op.Op.{Op}
use Rattle.class_definition.specs.declared.op.Op.TheVariants as ops
use Rattle.class_definition.specs.declared.local_name.LocalName.{LocalName}
use Rattle.class_definition.specs.declared.local_name.LocalName.TheVariants.{Iload, Aload, Istore, Astore}
use Rattle.class_definition.specs.declared.pool_name.PoolName.{PoolName}
use Rattle.class_definition.specs.declared.pool_name.PoolName.TheVariants.{LdcW, Ldc2W, Getstatic, Putstatic, Invokevirtual, Invokestatic, Anewarray}
use Rattle.class_definition.specs.MemberNames.{slot_text, class_name_at, own_name, Signature, same_signature, signature_at, Reference, reference_to, same_reference, field_signature, method_signature, all_fields, field_number, method_number, string_name, host_name, length_signature, char_at_signature, host_call_signature, host_fault_signature}
use Rattle.class_definition.specs.LinkFault.{run_signature, has_run}
use Rattle.class_names.proofs.PlaceLemmas.{position-cons}
use Rattle.class_definition.specs.Linking.{descriptor_kind, parameters_from, parameters_of, gives_int, field_kind, field_kinds, field_of_number, field_instruction, call_of_number, host_method, static_call, string_method, string_call, call_instruction, word_constant, long_constant, pool_instruction, local_instruction, return_instruction, linked_instruction, linked_line, lines_of_code, linked_method, methods_from, linked_methods, first_method, program_of}
use Rattle.jvm_link.proofs.ReturnLaws.{returns_are}
use Rattle.jvm_link.proofs.RunLemmas.{run_found, run_there}

-- ---- what stands at the place that was found

place_back : {X Y : Type 0} (p : X → Bool) (g : X → Y) (x : X) (xs : List X) (b : Bool) → p x ≡ b → (o : Option ℕ) → position p xs ≡ o
    → ((n : ℕ) → position p xs ≡ Some n → (y : X) × (p y ≡ true) × (slice_get (map g xs) n ≡ Some (g y)))
    → (n : ℕ) → cond b (Some 0) (option_map (λ k. 1 + k) o) ≡ Some n → (y : X) × (p y ≡ true) × (slice_get (map g (x ∷ xs)) n ≡ Some (g y))
place_back p g x xs true e o f rest n h =
    let none : 0 ≡ n = cc in
    (x, e, ap (slice_get (map g (x ∷ xs))) (sym none))
place_back p g x xs false e None f rest n h = absurd cc
place_back p g x xs false e (Some k) f rest n h =
    let next : 1 + k ≡ n = cc in
    let found = rest k f in
    (found.0, found.1, ap (slice_get (map g (x ∷ xs))) (sym next ∙ one_more k) ∙ found.2)
  where
    one_more : (k : ℕ) → 1 + k ≡ suc k
    one_more k = omega arith

at_place : {X Y : Type 0} (p : X → Bool) (g : X → Y) (xs : List X) (n : ℕ) → position p xs ≡ Some n → (y : X) × (p y ≡ true) × (slice_get (map g xs) n ≡ Some (g y))
at_place p g [] n h = absurd cc
at_place p g (x ∷ xs) n h = place_back p g x xs (p x) refl (position p xs) refl (at_place p g xs) n (sym (position-cons p x xs) ∙ h)

-- ---- fields

abbrev kind_by : Reference → Kind
kind_by r = descriptor_kind r.signature.descriptor

own_kinds : (c : Class) (fs : List Member) → map (field_kind c) fs ≡ map kind_by (map (reference_to (own_name c)) (map (field_signature c) fs))
own_kinds c [] = refl
own_kinds c (f ∷ fs) = ap (λ (ks : List Kind). field_kind c f ∷ ks) (own_kinds c fs)

kinds_are : (cs : List Class) → field_kinds cs ≡ map kind_by (all_fields cs)
kinds_are [] = refl
kinds_are (c ∷ cs) =
    (λ i. own_kinds c c.fields i ++ kinds_are cs i) ∙ sym (map-append kind_by (map (reference_to (own_name c)) (map (field_signature c) c.fields)) (all_fields cs))

field_kind_is : (cs : List Class) (r : Reference) (n : ℕ) → field_number cs r ≡ Some n → slice_get (field_kinds cs) n ≡ Some (descriptor_kind r.signature.descriptor)
field_kind_is cs r n h =
    let found = at_place (same_reference r) kind_by (all_fields cs) n h in
    let q = found.0 in
    let same = and_parts (same_text r.class_name q.class_name) (same_signature r.signature q.signature) found.1 in
    let parts = and_parts (same_text r.signature.name q.signature.name) (same_text r.signature.descriptor q.signature.descriptor) same.1 in
    let one : r.signature.descriptor ≡ q.signature.descriptor = (bytes_eq-Decides r.signature.descriptor q.signature.descriptor).0 parts.1 in
    ap (λ (ks : List Kind). slice_get ks n) (kinds_are cs) ∙ found.2 ∙ ap (λ d. Some (descriptor_kind d)) (sym one)

-- ---- instructions

module _ (cs : List Class) where
  abbrev Named : Instruction → Type 0
  Named x = NamesField (program_of cs) x

  either : (b : Bool) (x y : Instruction) → Named x → Named y → Named (cond b x y)
  either true x y a b = a
  either false x y a b = b

  get_named : (r : Reference) (o : Option ℕ) → field_number cs r ≡ o → Named (field_of_number Get o r.signature)
  get_named r None e = tt
  get_named r (Some n) e = field_kind_is cs r n e

  put_named : (r : Reference) (o : Option ℕ) → field_number cs r ≡ o → Named (field_of_number Put o r.signature)
  put_named r None e = tt
  put_named r (Some n) e = field_kind_is cs r n e

  get_by : (c : Class) (e : Option Entry) → Named (field_instruction cs Get c e)
  get_by c (Some (entries.FieldRef class name)) = get_named (reference_to (class_name_at c class) (signature_at c name)) (field_number cs (reference_to (class_name_at c class) (signature_at c name))) refl
  get_by c None = tt
  get_by c (Some (entries.Utf8 t)) = tt
  get_by c (Some (entries.Integer n)) = tt
  get_by c (Some (entries.Long n)) = tt
  get_by c (Some entries.LongRest) = tt
  get_by c (Some (entries.ClassName n)) = tt
  get_by c (Some (entries.Text n)) = tt
  get_by c (Some (entries.MethodRef a b)) = tt
  get_by c (Some (entries.NameAnd a b)) = tt

  put_by : (c : Class) (e : Option Entry) → Named (field_instruction cs Put c e)
  put_by c (Some (entries.FieldRef class name)) = put_named (reference_to (class_name_at c class) (signature_at c name)) (field_number cs (reference_to (class_name_at c class) (signature_at c name))) refl
  put_by c None = tt
  put_by c (Some (entries.Utf8 t)) = tt
  put_by c (Some (entries.Integer n)) = tt
  put_by c (Some (entries.Long n)) = tt
  put_by c (Some entries.LongRest) = tt
  put_by c (Some (entries.ClassName n)) = tt
  put_by c (Some (entries.Text n)) = tt
  put_by c (Some (entries.MethodRef a b)) = tt
  put_by c (Some (entries.NameAnd a b)) = tt

  call_by : (call : Reference → Instruction) → ((r : Reference) → Named (call r)) → (c : Class) (e : Option Entry) → Named (call_instruction call c e)
  call_by call h c (Some (entries.MethodRef class name)) = h (reference_to (class_name_at c class) (signature_at c name))
  call_by call h c None = tt
  call_by call h c (Some (entries.Utf8 t)) = tt
  call_by call h c (Some (entries.Integer n)) = tt
  call_by call h c (Some (entries.Long n)) = tt
  call_by call h c (Some entries.LongRest) = tt
  call_by call h c (Some (entries.ClassName n)) = tt
  call_by call h c (Some (entries.Text n)) = tt
  call_by call h c (Some (entries.FieldRef a b)) = tt
  call_by call h c (Some (entries.NameAnd a b)) = tt

  called : (o : Option ℕ) → Named (call_of_number o)
  called None = tt
  called (Some n) = tt

  host_named : (s : Signature) → Named (host_method s)
  host_named s = either (same_signature s host_call_signature) _ _ tt (either (same_signature s host_fault_signature) _ _ tt tt)

  static_named : (r : Reference) → Named (static_call cs r)
  static_named r = either (same_text r.class_name host_name) (host_method r.signature) (call_of_number (method_number cs r)) (host_named r.signature) (called (method_number cs r))

  method_named : (s : Signature) → Named (string_method s)
  method_named s = either (same_signature s length_signature) _ _ tt (either (same_signature s char_at_signature) _ _ tt tt)

  string_named : (r : Reference) → Named (string_call r)
  string_named r = either (same_text r.class_name string_name) (string_method r.signature) Wrong (method_named r.signature) tt

  word_by : (number : ℕ) (e : Option Entry) → Named (word_constant number e)
  word_by number (Some (entries.Integer n)) = tt
  word_by number (Some (entries.Text n)) = tt
  word_by number None = tt
  word_by number (Some (entries.Utf8 t)) = tt
  word_by number (Some (entries.Long n)) = tt
  word_by number (Some entries.LongRest) = tt
  word_by number (Some (entries.ClassName n)) = tt
  word_by number (Some (entries.FieldRef a b)) = tt
  word_by number (Some (entries.MethodRef a b)) = tt
  word_by number (Some (entries.NameAnd a b)) = tt

  long_by : (e : Option Entry) → Named (long_constant e)
  long_by (Some (entries.Long n)) = tt
  long_by None = tt
  long_by (Some (entries.Utf8 t)) = tt
  long_by (Some (entries.Integer n)) = tt
  long_by (Some entries.LongRest) = tt
  long_by (Some (entries.ClassName n)) = tt
  long_by (Some (entries.Text n)) = tt
  long_by (Some (entries.FieldRef a b)) = tt
  long_by (Some (entries.MethodRef a b)) = tt
  long_by (Some (entries.NameAnd a b)) = tt

  pool_named : (number : ℕ) (c : Class) (name : PoolName) (slot : ℕ) → Named (pool_instruction cs number c name slot)
  pool_named number c LdcW slot = word_by number (entry_at c.pool slot)
  pool_named number c Ldc2W slot = long_by (entry_at c.pool slot)
  pool_named number c Getstatic slot = get_by c (entry_at c.pool slot)
  pool_named number c Putstatic slot = put_by c (entry_at c.pool slot)
  pool_named number c Invokevirtual slot = call_by string_call string_named c (entry_at c.pool slot)
  pool_named number c Invokestatic slot = call_by (static_call cs) static_named c (entry_at c.pool slot)
  pool_named number c Anewarray slot = either (same_text (class_name_at c slot) (codes "[I")) _ _ tt tt

  local_named : (name : LocalName) (i : ℕ) → Named (local_instruction name i)
  local_named Iload i = tt
  local_named Aload i = tt
  local_named Istore i = tt
  local_named Astore i = tt

  return_named : (gives : Bool) (name : ReturnName) → Named (return_instruction gives name)
  return_named true returns.Ireturn = tt
  return_named false returns.Ireturn = tt
  return_named true returns.Return = tt
  return_named false returns.Return = tt

  op_named : (number : ℕ) (c : Class) (gives : Bool) (op : Op) → Named (linked_instruction cs number c gives op)
  op_named number c gives ops.Nop = tt
  op_named number c gives ops.AconstNull = tt
  op_named number c gives (ops.Iconst name) = tt
  op_named number c gives (ops.Bipush n) = tt
  op_named number c gives (ops.Sipush n) = tt
  op_named number c gives (ops.Ldc slot) = word_by number (entry_at c.pool slot)
  op_named number c gives (ops.Pool name slot) = pool_named number c name slot
  op_named number c gives (ops.Local name index) = local_named name index
  op_named number c gives (ops.ShortLocal name index) = local_named name _
  op_named number c gives (ops.Array name) = tt
  op_named number c gives (ops.Stack name) = tt
  op_named number c gives (ops.IntArithmetic name) = tt
  op_named number c gives (ops.IntDivision name) = tt
  op_named number c gives (ops.IntShift name) = tt
  op_named number c gives (ops.LongArithmetic name) = tt
  op_named number c gives (ops.LongDivision name) = tt
  op_named number c gives (ops.LongShift name) = tt
  op_named number c gives (ops.Iinc index n) = tt
  op_named number c gives (ops.Convert name) = tt
  op_named number c gives ops.Lcmp = tt
  op_named number c gives (ops.Branch name target) = tt
  op_named number c gives (ops.GotoW target) = tt
  op_named number c gives (ops.TableSwitch s) = tt
  op_named number c gives (ops.LookupSwitch s) = tt
  op_named number c gives (ops.Give name) = return_named gives name
  op_named number c gives ops.Newarray = tt
  op_named number c gives ops.Arraylength = tt

  -- ---- lines

  some_line : (x y : LinkedLine) → Some x ≡ Some y → x ≡ y
  some_line x y e = cc

  lines_named : (number : ℕ) (c : Class) (gives : Bool) (ls : List Line) (at : ℕ) (line : LinkedLine) → line_in (map (linked_line cs number c gives) ls) at ≡ Some line → Named line.instruction
  lines_named number c gives [] at line h = absurd cc
  lines_named number c gives (l ∷ ls) at line h = by (eqb l.at at) h (lines_named number c gives ls at line)
    where
      by : (b : Bool) → cond b (Some (linked_line cs number c gives l)) (line_in (map (linked_line cs number c gives) ls) at) ≡ Some line
          → (line_in (map (linked_line cs number c gives) ls) at ≡ Some line → Named line.instruction) → Named line.instruction
      by true e rest =
          let one : linked_line cs number c gives l ≡ line = some_line (linked_line cs number c gives l) line e in
          let P : LinkedLine → Type 0 = λ (x : LinkedLine). Named x.instruction in
          subst P one (op_named number c gives l.op)
      by false e rest = rest e

  abbrev IsNamed : LinkedMethod → Type 0
  IsNamed m = (at : ℕ) (line : LinkedLine) → line_in m.lines at ≡ Some line → Named line.instruction

  method_lines : (number : ℕ) (c : Class) (m : Method) → IsNamed (linked_method cs number c m)
  unfolding linked_method
  method_lines number c m at line h = lines_named number c (gives_int (slot_text c m.desc)) (lines_of_code m.code) at line h

  own_methods : (number : ℕ) (c : Class) (ms : List Method) (others : List LinkedMethod) → AllByRecursion IsNamed others → AllByRecursion IsNamed (map (linked_method cs number c) ms ++ others)
  own_methods number c [] others h = h
  own_methods number c (m ∷ ms) others h = (method_lines number c m, own_methods number c ms others h)

  all_methods_named : (number : ℕ) (ds : List Class) → AllByRecursion IsNamed (methods_from cs number ds)
  all_methods_named number [] = tt
  all_methods_named number (c ∷ ds) = own_methods number c c.methods (methods_from cs (suc number) ds) (all_methods_named (suc number) ds)

  one_named : (ms : List LinkedMethod) → AllByRecursion IsNamed ms → (n : ℕ) (m : LinkedMethod) → slice_get ms n ≡ Some m → IsNamed m
  one_named [] h n m e = absurd cc
  one_named (x ∷ ms) h zero m e = let P : LinkedMethod → Type 0 = λ y. IsNamed y in let same : x ≡ m = some_method x m e in subst P same h.0
    where
      some_method : (x y : LinkedMethod) → Some x ≡ Some y → x ≡ y
      some_method x y e = cc
  one_named (x ∷ ms) h (suc n) m e = one_named ms h.1 n m e

-- ---- the first method

in_front : {X : Type 0} (xs ys : List X) (n : ℕ) (x : X) → slice_get xs n ≡ Some x → slice_get (xs ++ ys) n ≡ Some x
in_front [] ys n x e = absurd cc
in_front (y ∷ xs) ys zero x e = e
in_front (y ∷ xs) ys (suc n) x e = in_front xs ys n x e

pub record IsFirst (cs : List Class) : Type 0 where
  pub method : LinkedMethod
  pub is : slice_get (linked_methods cs) (first_method cs) ≡ Some method
  pub takes_nothing : method.parameters ≡ []
  pub gives_nothing : method.gives_int ≡ false

no_parameters : parameters_of (codes "()V") ≡ []
unfolding parameters_from after_field
no_parameters = refl

no_result : gives_int (codes "()V") ≡ false
no_result = refl

run_parts : (cs : List Class) (c : Class) (m : Method) → same_signature run_signature (method_signature c m) ≡ true → ((linked_method cs 0 c m).parameters ≡ []) × ((linked_method cs 0 c m).gives_int ≡ false)
unfolding linked_method
run_parts cs c m e =
    let p = and_parts (same_text run_signature.name (slot_text c m.name)) (same_text run_signature.descriptor (slot_text c m.desc)) e in
    let one : run_signature.descriptor ≡ slot_text c m.desc = (bytes_eq-Decides run_signature.descriptor (slot_text c m.desc)).0 p.1 in
    (ap parameters_of (sym one) ∙ no_parameters, ap gives_int (sym one) ∙ no_result)

run_first : (c : Class) (cs : List Class) (n : ℕ) → position (λ m. same_signature run_signature (method_signature c m)) c.methods ≡ Some n → IsFirst (c ∷ cs)
run_first c cs n h =
    let found = at_place (λ m. same_signature run_signature (method_signature c m)) (linked_method (c ∷ cs) 0 c) c.methods n h in
    let front = in_front (map (linked_method (c ∷ cs) 0 c) c.methods) (methods_from (c ∷ cs) 1 cs) n (linked_method (c ∷ cs) 0 c found.0) found.2 in
    let parts = run_parts (c ∷ cs) c found.0 found.1 in
    record {
      method = linked_method (c ∷ cs) 0 c found.0;
      is = ap (slice_get (linked_methods (c ∷ cs))) (sym (run_found (c ∷ cs) cs c n refl h)) ∙ front;
      takes_nothing = parts.0;
      gives_nothing = parts.1;
    }

pub first_is : (cs : List Class) → has_run cs ≡ true → IsFirst cs
first_is [] h = absurd cc
first_is (c ∷ cs) h = by (position (λ m. same_signature run_signature (method_signature c m)) c.methods) refl (run_there (c ∷ cs) cs c refl ∙ h)
  where
    by : (o : Option ℕ) → position (λ m. same_signature run_signature (method_signature c m)) c.methods ≡ o → is_some (position (λ m. same_signature run_signature (method_signature c m)) c.methods) ≡ true → IsFirst (c ∷ cs)
    by (Some n) e there = run_first c cs n e
    by None e there = absurd (let none : is_some (position (λ m. same_signature run_signature (method_signature c m)) c.methods) ≡ false = ap is_some e in cc)

-- ---- all of it

pub linked_if : (cs : List Class) → has_run cs ≡ true → IsLinked (program_of cs)
linked_if cs h =
    let first = first_is cs h in
    record {
      fields = λ m method at line is there. one_named cs (linked_methods cs) (all_methods_named cs 0 cs) m method is at line there;
      returns = λ m method at line is there. returns_are cs m method is at line there;
      first = first.method;
      first_is = first.is;
      takes_nothing = first.takes_nothing;
      gives_nothing = first.gives_nothing;
    }
