-- The methods of products and quotients.
use Rattle.std.proofs.Common.{◌≡◌, ◌≢◌, ℕ, ◌*◌, ◌/◌, ◌%◌, ◌^◌, ◌==◌, ◌<◌, ◌≤◌, ◌*ℤ◌, Bool, true, false, if◌then◌else◌, List, [], ◌∷◌, ◌++◌, None, refl, ap, sym, ◌∙◌, arith, lit<, lit≤}
use Rattle.std.specs.Int.{w64, cast_unsigned}
use Rattle.std.specs.Int.RustNames.{int_div, int_rem}
use Rattle.std.proofs.Math.Nat.{div-le_self, mod-le}
use Rattle.std.proofs.lemmas.Bool.{ne_eqb, eqb-false, eqb-true}
use Rattle.run_definition.specs.Words.{IsWord, signed_of, unsigned_of}
use Rattle.run_definition.specs.declared.order.Order.{Order}
use Rattle.mips_definition.specs.Arithmetic.{product_hi, product_lo}
use Rattle.mips_definition.specs.declared.names.product_name.ProductName.{ProductName}
use Rattle.mips_definition.specs.declared.names.product_name.ProductName.TheVariants.{Mult, Multu, Div, Divu}
use Rattle.jvm_definition.specs.declared.int_division.IntDivision.{IntDivision}
use Rattle.jvm_definition.specs.declared.int_division.IntDivision.TheVariants.{Idiv, Irem}
use Rattle.jvm_definition.specs.declared.long_division.LongDivision.{LongDivision}
use Rattle.jvm_definition.specs.declared.long_division.LongDivision.TheVariants.{Ldiv, Lrem}
use Rattle.jvm_definition.specs.declared.value.Value.{Value}
use Rattle.jvm_definition.specs.declared.value.Value.TheVariants.{Int as int, Long as long}
use Rattle.jvm_definition.specs.Program.{Program}
use Rattle.jvm_definition.specs.Effect.{Workspace, gives}
use Rattle.jvm_definition_laws.specs.Stretch.{body_workspace}
use Rattle.jvm_definition.specs.Words.{int_quotient, long_quotient}
use Rattle.emit_steps.specs.Outcomes.{outcome, stopped}
use Rattle.emit_steps.specs.declared.step.Step.{Step}
use Rattle.emit_layout.specs.FieldNumbers.{hi_field, lo_field}
use Rattle.emit_instructions.specs.Helpers.{product_helper}
use Rattle.mem_helpers.specs.Products.{by_zero_code, int_divided, plain_longs, multiplied_code, long_divided, long_quotient as long_quotient_code}
use Rattle.mem_helpers.specs.Stores.{returns_nothing}
use Rattle.mem_helpers.specs.Methods.{helper_code}
use Rattle.emit_simulation_laws.specs.Outcomes.{Gives}
use Rattle.mem_helpers_laws.proofs.StoreLaws.Stopping.{laters, beyonds}
use Rattle.mem_helpers_laws.specs.Multiplying.{LeavesProduct, given_to_product, product_turns}
use Rattle.mem_helpers_laws.proofs.StoreLaws.Tests.{zero-is, zero-is_not}
use Rattle.mem_helpers_laws.proofs.StoreLaws.Factors.{long-product, plain-long, plain-product, plain-quotient, plain-remainder, signed-small, quotient-word, remainder-word}

module _ (program : Program) (words a b : ℕ) (order : Order) (w : Workspace) where
  abbrev begins : Workspace
  begins = body_workspace (given_to_product a b) w

  -- at the return
  abbrev back : ℕ → ℕ → Workspace
  back hi lo = record {
    locals = begins.locals;
    operands = [];
    fields = λ f. if f == hi_field then int hi else if f == lo_field then int lo else w.fields f;
    heap = w.heap;
  }

  neither : (v u : Value) (f g h : ℕ) → f ≢ g → f ≢ h → (if f == g then v else if f == h then u else w.fields f) ≡ w.fields f
  neither v u f g h first second = simp (ne_eqb f g first, ne_eqb f h second) refl

  leaves : (hi lo : ℕ) → LeavesProduct w hi lo (back hi lo).fields (back hi lo).heap
  leaves hi lo = record {
    hi_is = refl;
    lo_is = refl;
    others = λ f first second. neither (int hi) (int lo) f hi_field lo_field first second;
    heap_is = refl;
  }

  gives-both : (name : ProductName) (n i : ℕ) (hi lo : ℕ) → n ≤ product_turns → product_hi name a b ≡ hi → product_lo name a b ≡ lo → outcome program words (helper_code order (product_helper name)) begins ≡ stopped n i (back hi lo) (gives None (back hi lo)) → Gives program words product_turns (helper_code order (product_helper name)) (given_to_product a b) w None (LeavesProduct w (product_hi name a b) (product_lo name a b))
  gives-both name n i hi lo few hi_is lo_is comes = record {
    turns = n;
    step = i;
    at = back hi lo;
    back = back hi lo;
    comes = comes;
    in_time = few;
    leaves = rw (hi_is, lo_is) (leaves hi lo);
  }

  mult-gives : IsWord a → IsWord b → Gives program words product_turns (helper_code order (product_helper Mult)) (given_to_product a b) w None (LeavesProduct w (product_hi Mult a b) (product_lo Mult a b))
  mult-gives ha hb =
      let n = cast_unsigned w64 (signed_of a) * cast_unsigned w64 (signed_of b) % 2 ^ 64 in
      gives-both Mult 12 12 (n / 2 ^ 32 % 2 ^ 32) (n % 2 ^ 32) (lit≤ tt)
      (ap (λ x. x / 2 ^ 32) (sym (long-product a b ha hb)) ∙ omega arith)
      (ap (λ x. x % 2 ^ 32) (sym (long-product a b ha hb)))
      refl

  abbrev having : (ℕ → Value) → List Value → Workspace
  having fields operands = record { locals = begins.locals; operands = operands; fields = fields; heap = w.heap }

  -- both words as longs without their signs
  longs-pushed : IsWord a → IsWord b → (fields : ℕ → Value) (rest : List Step) → outcome program words (plain_longs ++ rest) (having fields []) ≡ laters 8 (outcome program words rest (having fields (long b ∷ long a ∷ [])))
  longs-pushed ha hb fields rest = simp (plain-long a ha, plain-long b hb) refl

  multu-gives : IsWord a → IsWord b → Gives program words product_turns (helper_code order (product_helper Multu)) (given_to_product a b) w None (LeavesProduct w (product_hi Multu a b) (product_lo Multu a b))
  multu-gives ha hb =
      let below = plain-product a b ha hb in
      gives-both Multu 16 16 (a * b % 2 ^ 64 / 2 ^ 32 % 2 ^ 32) (a * b % 2 ^ 64 % 2 ^ 32) (lit≤ tt) (omega arith) (omega arith)
      (longs-pushed ha hb w.fields multiplied_code)

  -- ---- quotients

  -- the divisor is 0
  zero-stops : b ≡ 0 → (rest : List Step) → outcome program words (by_zero_code ++ rest) begins ≡ stopped 6 6 (back a 0xFFFFFFFF) (gives None (back a 0xFFFFFFFF))
  zero-stops zero rest = simp (zero-is b zero) refl

  -- it is not
  divisor-passes : IsWord b → (b == 0) ≡ false → (rest : List Step) → outcome program words (by_zero_code ++ rest) begins ≡ laters 2 (beyonds 5 (outcome program words rest begins))
  divisor-passes hb e rest = simp (zero-is_not b hb (eqb-false b 0 e)) refl

  abbrev with_int_field : (ℕ → Value) → ℕ → ℕ → ℕ → Value
  with_int_field fields f n g = if g == f then int n else fields g

  -- code that puts one result into a field
  abbrev Puts : List Step → ℕ → ℕ → ℕ → Type 0
  Puts code turns f n =
      (fields : ℕ → Value) (rest : List Step) → outcome program words (code ++ rest) (having fields []) ≡ laters turns (outcome program words rest (having (with_int_field fields f n) []))

  int-put : (b == 0) ≡ false → (name : IntDivision) (f : ℕ) → Puts (int_divided name f) 4 f (int_quotient name a b)
  int-put e name f fields rest = simp e refl

  long-divided : (b == 0) ≡ false → (name : LongDivision) (f : ℕ) (fields : ℕ → Value) (rest : List Step) → outcome program words (long_quotient_code name f ++ rest) (having fields (long b ∷ long a ∷ [])) ≡ laters 3 (outcome program words rest (having (with_int_field fields f (long_quotient name a b % 2 ^ 32)) []))
  long-divided e name f fields rest = simp e refl

  long-put : IsWord a → IsWord b → (b == 0) ≡ false → (name : LongDivision) (f : ℕ) → Puts (long_divided name f) 11 f (long_quotient name a b % 2 ^ 32)
  long-put ha hb e name f fields rest =
      longs-pushed ha hb fields (long_quotient_code name f ++ rest) ∙ ap (laters 8) (long-divided e name f fields rest)

  div-gives : IsWord b → (t : Bool) → (b == 0) ≡ t → Gives program words product_turns (helper_code order (product_helper Div)) (given_to_product a b) w None (LeavesProduct w (product_hi Div a b) (product_lo Div a b))
  div-gives hb true e =
      gives-both Div 6 6 a 0xFFFFFFFF (lit≤ tt) (simp e refl) (simp e refl)
      (zero-stops (eqb-true b 0 e) (int_divided Idiv lo_field ++ int_divided Irem hi_field ++ returns_nothing))
  div-gives hb false e =
      let hi = int_quotient Irem a b in
      let lo = int_quotient Idiv a b in
      gives-both Div 10 15 hi lo (lit≤ tt) (simp e refl) (simp e refl)
      (divisor-passes hb e (int_divided Idiv lo_field ++ int_divided Irem hi_field ++ returns_nothing)
      ∙ ap (λ o. laters 2 (beyonds 5 o)) (int-put e Idiv lo_field w.fields (int_divided Irem hi_field ++ returns_nothing))
      ∙ ap (λ o. laters 2 (beyonds 5 (laters 4 o))) (int-put e Irem hi_field (with_int_field w.fields lo_field lo) returns_nothing))

  divu-gives : IsWord a → IsWord b → (t : Bool) → (b == 0) ≡ t → Gives program words product_turns (helper_code order (product_helper Divu)) (given_to_product a b) w None (LeavesProduct w (product_hi Divu a b) (product_lo Divu a b))
  divu-gives ha hb true e =
      gives-both Divu 6 6 a 0xFFFFFFFF (lit≤ tt) (simp e refl) (simp e refl)
      (zero-stops (eqb-true b 0 e) (long_divided Ldiv lo_field ++ long_divided Lrem hi_field ++ returns_nothing))
  divu-gives ha hb false e =
      let hi = long_quotient Lrem a b % 2 ^ 32 in
      let lo = long_quotient Ldiv a b % 2 ^ 32 in
      gives-both Divu 24 29 hi lo (lit≤ tt) (simp e (sym (plain-remainder a b ha hb))) (simp e (sym (plain-quotient a b ha hb)))
      (divisor-passes hb e (long_divided Ldiv lo_field ++ long_divided Lrem hi_field ++ returns_nothing)
      ∙ ap (λ o. laters 2 (beyonds 5 o)) (long-put ha hb e Ldiv lo_field w.fields (long_divided Lrem hi_field ++ returns_nothing))
      ∙ ap (λ o. laters 2 (beyonds 5 (laters 11 o))) (long-put ha hb e Lrem hi_field (with_int_field w.fields lo_field lo) returns_nothing))

  pub product-gives : (name : ProductName) → IsWord a → IsWord b → Gives program words product_turns (helper_code order (product_helper name)) (given_to_product a b) w None (LeavesProduct w (product_hi name a b) (product_lo name a b))
  product-gives Mult ha hb = mult-gives ha hb
  product-gives Multu ha hb = multu-gives ha hb
  product-gives Div ha hb = div-gives hb (b == 0) refl
  product-gives Divu ha hb = divu-gives ha hb (b == 0) refl

-- ---- the results are words

module _ (a b : ℕ) (ha : IsWord a) (hb : IsWord b) where
  long-below : cast_unsigned w64 (signed_of a *ℤ signed_of b) < 2 ^ 64
  long-below = rw (← long-product a b ha hb) (omega arith)

  either-word : (t : Bool) (x y : ℕ) → IsWord x → IsWord y → IsWord (if t then x else y)
  either-word true x y hx hy = hx
  either-word false x y hx hy = hy

  pub hi-word : (name : ProductName) → IsWord (product_hi name a b)
  hi-word Mult = omega (arith, long-below)
  hi-word Multu = omega (arith, plain-product a b ha hb)
  hi-word Div = either-word (b == 0) a (unsigned_of (int_rem (signed_of a) (signed_of b))) ha (remainder-word (signed_of a) (signed_of b) (signed-small a ha))
  hi-word Divu = either-word (b == 0) a (a % b) ha (omega (arith, ha, mod-le a b))

  pub lo-word : (name : ProductName) → IsWord (product_lo name a b)
  lo-word Mult = omega arith
  lo-word Multu = omega arith
  lo-word Div = either-word (b == 0) 0xFFFFFFFF (unsigned_of (int_div (signed_of a) (signed_of b))) (lit< tt) (quotient-word (signed_of a) (signed_of b) (signed-small a ha))
  lo-word Divu = either-word (b == 0) 0xFFFFFFFF (a / b) (lit< tt) (omega (arith, ha, div-le_self a b))
