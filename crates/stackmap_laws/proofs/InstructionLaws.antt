-- Instructions of classes with longer pools: those that are not wrong mean what they did.
use Rattle.std.proofs.Common.{◌≡◌, ℕ, zero, suc, Bool, true, false, cond, ◌&&◌, List, [], ◌∷◌, length, map, Option, Some, None, refl, sym, ap, subst, ◌∙◌, position, eqb}
use Rattle.std.specs.Prelude.{if◌then◌else◌, unwrap_or, IsSome, is_some, codes, nat_eq, option_map, slice_get}
use Rattle.std.specs.List.{starts_with, list_all}
use Rattle.std.specs.Option.{option_and_then}
use Rattle.std.proofs.lemmas.Bool.{false≢true}
use Rattle.std.proofs.lemmas.Option.{same_Some, none-some}
use Rattle.jvm_definition.specs.declared.branch_name.BranchName.{BranchName}
use Rattle.jvm_definition.specs.declared.return_name.ReturnName.{ReturnName}
use Rattle.jvm_definition.specs.declared.return_name.ReturnName.TheVariants as returns
use Rattle.jvm_definition.specs.declared.kind.Kind.{Kind}
use Rattle.jvm_definition.specs.declared.constant.Constant.TheVariants as constants
use Rattle.jvm_definition.specs.declared.instruction.Instruction.{Instruction}
use Rattle.jvm_definition.specs.declared.instruction.Instruction.TheVariants.{Push, Get, Put, Call, CallHost, FaultHost, Length, CharAt, Wrong}
use Rattle.class_definition.specs.declared.entry.Entry.{Entry}
use Rattle.class_definition.specs.declared.entry.Entry.TheVariants as entries
use Rattle.class_definition.specs.NameGrammar.{same_text}
use Rattle.class_definition.specs.PoolChecks.{entry_at, text_at, class_text_at}
use Rattle.class_definition.specs.PoolChecks as checks
use Rattle.class_definition.specs.declared.class.Class.{Class}
use Rattle.class_definition.specs.declared.op.Op.{Op}
use Rattle.class_definition.specs.declared.op.Op.TheVariants as ops
use Rattle.class_definition.specs.declared.local_name.LocalName.{LocalName}
use Rattle.class_definition.specs.declared.local_name.LocalName.TheVariants.{Iload, Aload, Istore, Astore}
use Rattle.class_definition.specs.declared.pool_name.PoolName.{PoolName}
use Rattle.class_definition.specs.declared.pool_name.PoolName.TheVariants.{LdcW, Ldc2W, Getstatic, Putstatic, Invokevirtual, Invokestatic, Anewarray}
use Rattle.class_definition.specs.MemberNames.{Signature, same_signature, slot_text, class_name_at, signature_at, Reference, reference_to, same_reference, all_fields, all_methods, field_number, method_number, string_name, host_name, length_signature, char_at_signature, host_call_signature, host_fault_signature}
use Rattle.class_definition.specs.Linking.{descriptor_kind, field_of_number, field_instruction, call_of_number, host_method, static_call, string_method, string_call, call_instruction, word_constant, long_constant, array_instruction, pool_instruction, local_instruction, return_instruction, linked_instruction}
use Rattle.stackmap_laws.specs.Alike.{PushesGood}
use Rattle.stackmap_laws.specs.Like.{IsLike}
use Rattle.stackmap_laws.proofs.NameLaws.{some-is, AreLike, same-class, same-all-fields, same-all-methods}
use Rattle.stackmap_laws.proofs.LinkLaws.{sound, field-ref-same, method-ref-same, string-named}

-- ---- what an instruction names

module _ (cs ds : List Class) (all : AreLike cs ds) (c d : Class) (like : IsLike c d) where
  entry-stays : (f : Option Entry → Instruction) (slot : ℕ) → f None ≡ Wrong → (f (entry_at c.pool slot) ≡ Wrong → ⊥) → f (entry_at d.pool slot) ≡ f (entry_at c.pool slot)
  entry-stays f slot none right = by-case (entry_at c.pool slot) refl right
    where
      by-case : (o : Option Entry) → entry_at c.pool slot ≡ o → (f o ≡ Wrong → ⊥) → f (entry_at d.pool slot) ≡ f o
      by-case None e h = absurd (h none)
      by-case (Some x) e h = ap f (like.stays slot x e)

  field-number : (r : Reference) → field_number ds r ≡ field_number cs r
  field-number r = ap (position (same_reference r)) (same-all-fields cs ds all)

  method-number : (r : Reference) → method_number ds r ≡ method_number cs r
  method-number r = ap (position (same_reference r)) (same-all-methods cs ds all)

  call-same : (r : Reference) → static_call ds r ≡ static_call cs r
  call-same r = ap (λ o. if same_text r.class_name host_name then host_method r.signature else call_of_number o) (method-number r)

  -- a reference means the same
  field-by : (make : ℕ → Kind → Instruction) (slot : ℕ) → (field_instruction cs make c (entry_at c.pool slot) ≡ Wrong → ⊥) → field_instruction ds make d (entry_at d.pool slot) ≡ field_instruction cs make c (entry_at c.pool slot)
  field-by make slot right = by-case (entry_at c.pool slot) refl right
    where
      by-case : (o : Option Entry) → entry_at c.pool slot ≡ o → (field_instruction cs make c o ≡ Wrong → ⊥) → field_instruction ds make d (entry_at d.pool slot) ≡ field_instruction cs make c o
      by-case (Some (entries.FieldRef class name)) e h =
          let r = field-ref-same c d like class name (sound c d like slot (entries.FieldRef class name) e) in
          ap (field_instruction ds make d) (like.stays slot (entries.FieldRef class name) e)
          ∙ (ap (λ s. field_of_number make (field_number ds (reference_to (class_name_at d class) s)) s) r.1
          ∙ (ap (λ n. field_of_number make (field_number ds (reference_to n (signature_at c name))) (signature_at c name)) r.0
          ∙ ap (λ o. field_of_number make o (signature_at c name)) (field-number (reference_to (class_name_at c class) (signature_at c name)))))
      by-case None e h = absurd (h refl)
      by-case (Some (entries.Utf8 t)) e h = absurd (h refl)
      by-case (Some (entries.Integer n)) e h = absurd (h refl)
      by-case (Some (entries.Long n)) e h = absurd (h refl)
      by-case (Some entries.LongRest) e h = absurd (h refl)
      by-case (Some (entries.ClassName n)) e h = absurd (h refl)
      by-case (Some (entries.Text n)) e h = absurd (h refl)
      by-case (Some (entries.MethodRef a b)) e h = absurd (h refl)
      by-case (Some (entries.NameAnd a b)) e h = absurd (h refl)

  call-by : (call other : Reference → Instruction) → ((r : Reference) → other r ≡ call r) → (slot : ℕ) → (call_instruction call c (entry_at c.pool slot) ≡ Wrong → ⊥) → call_instruction other d (entry_at d.pool slot) ≡ call_instruction call c (entry_at c.pool slot)
  call-by call other same slot right = by-case (entry_at c.pool slot) refl right
    where
      by-case : (o : Option Entry) → entry_at c.pool slot ≡ o → (call_instruction call c o ≡ Wrong → ⊥) → call_instruction other d (entry_at d.pool slot) ≡ call_instruction call c o
      by-case (Some (entries.MethodRef class name)) e h =
          let r = method-ref-same c d like class name (sound c d like slot (entries.MethodRef class name) e) in
          ap (call_instruction other d) (like.stays slot (entries.MethodRef class name) e)
          ∙ (ap (λ s. other (reference_to (class_name_at d class) s)) r.1
          ∙ (ap (λ n. other (reference_to n (signature_at c name))) r.0
          ∙ same (reference_to (class_name_at c class) (signature_at c name))))
      by-case None e h = absurd (h refl)
      by-case (Some (entries.Utf8 t)) e h = absurd (h refl)
      by-case (Some (entries.Integer n)) e h = absurd (h refl)
      by-case (Some (entries.Long n)) e h = absurd (h refl)
      by-case (Some entries.LongRest) e h = absurd (h refl)
      by-case (Some (entries.ClassName n)) e h = absurd (h refl)
      by-case (Some (entries.Text n)) e h = absurd (h refl)
      by-case (Some (entries.FieldRef a b)) e h = absurd (h refl)
      by-case (Some (entries.NameAnd a b)) e h = absurd (h refl)

  array-by : (slot : ℕ) → (array_instruction (class_name_at c slot) ≡ Wrong → ⊥) → array_instruction (class_name_at d slot) ≡ array_instruction (class_name_at c slot)
  array-by slot right = by-case (class_text_at c.pool slot) refl
    where
      by-case : (o : Option (List ℕ)) → class_text_at c.pool slot ≡ o → array_instruction (class_name_at d slot) ≡ array_instruction (class_name_at c slot)
      by-case None e = absurd (right (ap (λ o. array_instruction (unwrap_or o [])) e))
      by-case (Some name) e = ap array_instruction (same-class c d like slot (some-is (class_text_at c.pool slot) name e))

  pool-same : (number : ℕ) (name : PoolName) (slot : ℕ) → (pool_instruction cs number c name slot ≡ Wrong → ⊥) → pool_instruction ds number d name slot ≡ pool_instruction cs number c name slot
  pool-same number LdcW slot h = entry-stays (word_constant number) slot refl h
  pool-same number Ldc2W slot h = entry-stays long_constant slot refl h
  pool-same number Getstatic slot h = field-by Get slot h
  pool-same number Putstatic slot h = field-by Put slot h
  pool-same number Invokevirtual slot h = call-by string_call string_call (λ r. refl) slot h
  pool-same number Invokestatic slot h = call-by (static_call cs) (static_call ds) call-same slot h
  pool-same number Anewarray slot h = array-by slot h

  pub instruction-same : (number : ℕ) (gives : Bool) (op : Op) → (linked_instruction cs number c gives op ≡ Wrong → ⊥) → linked_instruction ds number d gives op ≡ linked_instruction cs number c gives op
  instruction-same number gives (ops.Ldc slot) h = entry-stays (word_constant number) slot refl h
  instruction-same number gives (ops.Pool name slot) h = pool-same number name slot h
  instruction-same number gives ops.Nop h = refl
  instruction-same number gives ops.AconstNull h = refl
  instruction-same number gives (ops.Iconst name) h = refl
  instruction-same number gives (ops.Bipush n) h = refl
  instruction-same number gives (ops.Sipush n) h = refl
  instruction-same number gives (ops.Local name index) h = refl
  instruction-same number gives (ops.ShortLocal name index) h = refl
  instruction-same number gives (ops.Array name) h = refl
  instruction-same number gives (ops.Stack name) h = refl
  instruction-same number gives (ops.IntArithmetic name) h = refl
  instruction-same number gives (ops.IntDivision name) h = refl
  instruction-same number gives (ops.IntShift name) h = refl
  instruction-same number gives (ops.LongArithmetic name) h = refl
  instruction-same number gives (ops.LongDivision name) h = refl
  instruction-same number gives (ops.LongShift name) h = refl
  instruction-same number gives (ops.Iinc index n) h = refl
  instruction-same number gives (ops.Convert name) h = refl
  instruction-same number gives ops.Lcmp h = refl
  instruction-same number gives (ops.Branch name target) h = refl
  instruction-same number gives (ops.GotoW target) h = refl
  instruction-same number gives (ops.TableSwitch s) h = refl
  instruction-same number gives (ops.LookupSwitch s) h = refl
  instruction-same number gives (ops.Give name) h = refl
  instruction-same number gives ops.Newarray h = refl
  instruction-same number gives ops.Arraylength h = refl

  -- ---- texts that are pushed are those of the pool

  module _ (good : ℕ → ℕ → Bool) (number : ℕ) (is : (slot : ℕ) → IsSome (text_at c.pool slot) → good number slot ≡ true) where
    abbrev Good : Instruction → Type 0
    Good x = PushesGood good x

    either : (b : Bool) (x y : Instruction) → Good x → Good y → Good (cond b x y)
    either true x y a b = a
    either false x y a b = b

    word-good : (slot : ℕ) → Good (word_constant number (entry_at c.pool slot))
    word-good slot = by-case (entry_at c.pool slot) refl
      where
        by-case : (o : Option Entry) → entry_at c.pool slot ≡ o → Good (word_constant number o)
        by-case (Some (entries.Text n)) e = is n (string-named c d like n (sound c d like slot (entries.Text n) e))
        by-case (Some (entries.Integer n)) e = tt
        by-case None e = tt
        by-case (Some (entries.Utf8 t)) e = tt
        by-case (Some (entries.Long n)) e = tt
        by-case (Some entries.LongRest) e = tt
        by-case (Some (entries.ClassName n)) e = tt
        by-case (Some (entries.FieldRef a b)) e = tt
        by-case (Some (entries.MethodRef a b)) e = tt
        by-case (Some (entries.NameAnd a b)) e = tt

    long-good : (e : Option Entry) → Good (long_constant e)
    long-good (Some (entries.Long n)) = tt
    long-good None = tt
    long-good (Some (entries.Utf8 t)) = tt
    long-good (Some (entries.Integer n)) = tt
    long-good (Some entries.LongRest) = tt
    long-good (Some (entries.ClassName n)) = tt
    long-good (Some (entries.Text n)) = tt
    long-good (Some (entries.FieldRef a b)) = tt
    long-good (Some (entries.MethodRef a b)) = tt
    long-good (Some (entries.NameAnd a b)) = tt

    made-good : (make : ℕ → Kind → Instruction) → ((n : ℕ) (k : Kind) → Good (make n k)) → (o : Option ℕ) (s : Signature) → Good (field_of_number make o s)
    made-good make h None s = tt
    made-good make h (Some n) s = h n (descriptor_kind s.descriptor)

    field-good : (make : ℕ → Kind → Instruction) → ((n : ℕ) (k : Kind) → Good (make n k)) → (e : Option Entry) → Good (field_instruction cs make c e)
    field-good make h (Some (entries.FieldRef class name)) = made-good make h (field_number cs (reference_to (class_name_at c class) (signature_at c name))) (signature_at c name)
    field-good make h None = tt
    field-good make h (Some (entries.Utf8 t)) = tt
    field-good make h (Some (entries.Integer n)) = tt
    field-good make h (Some (entries.Long n)) = tt
    field-good make h (Some entries.LongRest) = tt
    field-good make h (Some (entries.ClassName n)) = tt
    field-good make h (Some (entries.Text n)) = tt
    field-good make h (Some (entries.MethodRef a b)) = tt
    field-good make h (Some (entries.NameAnd a b)) = tt

    call-good : (call : Reference → Instruction) → ((r : Reference) → Good (call r)) → (e : Option Entry) → Good (call_instruction call c e)
    call-good call h (Some (entries.MethodRef class name)) = h (reference_to (class_name_at c class) (signature_at c name))
    call-good call h None = tt
    call-good call h (Some (entries.Utf8 t)) = tt
    call-good call h (Some (entries.Integer n)) = tt
    call-good call h (Some (entries.Long n)) = tt
    call-good call h (Some entries.LongRest) = tt
    call-good call h (Some (entries.ClassName n)) = tt
    call-good call h (Some (entries.Text n)) = tt
    call-good call h (Some (entries.FieldRef a b)) = tt
    call-good call h (Some (entries.NameAnd a b)) = tt

    called-good : (o : Option ℕ) → Good (call_of_number o)
    called-good None = tt
    called-good (Some n) = tt

    host-good : (s : Signature) → Good (host_method s)
    host-good s = either (same_signature s host_call_signature) _ _ tt (either (same_signature s host_fault_signature) _ _ tt tt)

    static-good : (r : Reference) → Good (static_call cs r)
    static-good r = either (same_text r.class_name host_name) (host_method r.signature) (call_of_number (method_number cs r)) (host-good r.signature) (called-good (method_number cs r))

    string-method-good : (s : Signature) → Good (string_method s)
    string-method-good s = either (same_signature s length_signature) _ _ tt (either (same_signature s char_at_signature) _ _ tt tt)

    string-good : (r : Reference) → Good (string_call r)
    string-good r = either (same_text r.class_name string_name) (string_method r.signature) Wrong (string-method-good r.signature) tt

    pool-good : (name : PoolName) (slot : ℕ) → Good (pool_instruction cs number c name slot)
    pool-good LdcW slot = word-good slot
    pool-good Ldc2W slot = long-good (entry_at c.pool slot)
    pool-good Getstatic slot = field-good Get (λ n k. tt) (entry_at c.pool slot)
    pool-good Putstatic slot = field-good Put (λ n k. tt) (entry_at c.pool slot)
    pool-good Invokevirtual slot = call-good string_call string-good (entry_at c.pool slot)
    pool-good Invokestatic slot = call-good (static_call cs) static-good (entry_at c.pool slot)
    pool-good Anewarray slot = either (same_text (class_name_at c slot) (codes "[I")) _ _ tt tt

    local-good : (name : LocalName) (i : ℕ) → Good (local_instruction name i)
    local-good Iload i = tt
    local-good Aload i = tt
    local-good Istore i = tt
    local-good Astore i = tt

    return-good : (gives : Bool) (name : ReturnName) → Good (return_instruction gives name)
    return-good true returns.Ireturn = tt
    return-good false returns.Ireturn = tt
    return-good true returns.Return = tt
    return-good false returns.Return = tt

    pub op-good : (gives : Bool) (op : Op) → Good (linked_instruction cs number c gives op)
    op-good gives (ops.Ldc slot) = word-good slot
    op-good gives (ops.Pool name slot) = pool-good name slot
    op-good gives ops.Nop = tt
    op-good gives ops.AconstNull = tt
    op-good gives (ops.Iconst name) = tt
    op-good gives (ops.Bipush n) = tt
    op-good gives (ops.Sipush n) = tt
    op-good gives (ops.Local name index) = local-good name index
    op-good gives (ops.ShortLocal name index) = local-good name _
    op-good gives (ops.Array name) = tt
    op-good gives (ops.Stack name) = tt
    op-good gives (ops.IntArithmetic name) = tt
    op-good gives (ops.IntDivision name) = tt
    op-good gives (ops.IntShift name) = tt
    op-good gives (ops.LongArithmetic name) = tt
    op-good gives (ops.LongDivision name) = tt
    op-good gives (ops.LongShift name) = tt
    op-good gives (ops.Iinc index n) = tt
    op-good gives (ops.Convert name) = tt
    op-good gives ops.Lcmp = tt
    op-good gives (ops.Branch name target) = tt
    op-good gives (ops.GotoW target) = tt
    op-good gives (ops.TableSwitch s) = tt
    op-good gives (ops.LookupSwitch s) = tt
    op-good gives (ops.Give name) = return-good gives name
    op-good gives ops.Newarray = tt
    op-good gives ops.Arraylength = tt
