-- The helpers: the test of their code computes, but for calls of the methods that end the run.
use Rattle.std.proofs.Common.{◌≡◌, ℕ, zero, suc, ◌+◌, ◌<◌, List, [], ◌∷◌, refl, subst, arith}
use Rattle.std.specs.Prelude.{⊤, true, false}
use Rattle.std.proofs.lemmas.Option.{none-some}
use Rattle.run_definition.specs.declared.order.Order.{Order}
use Rattle.run_definition.specs.declared.order.Order.TheVariants.{Big, Little}
use Rattle.jvm_definition.specs.declared.kind.Kind.TheVariants.{Int}
use Rattle.jvm_definition.specs.Program.{Program}
use Rattle.jvm_definition.specs.Typing.{TypeFrame, with_stack}
use Rattle.emit_steps.specs.declared.step.Step.{Step}
use Rattle.emit_instructions.specs.Access.{push_word}
use Rattle.mem_helpers.specs.Methods.{helper_code}
use Rattle.mem_helpers.specs.Loads.{gives}
use Rattle.mem_helpers.specs.Stores.{returns_nothing}
use Rattle.emit_simulation_laws.specs.Helpers.{helper_parameters}
use Rattle.emit_types_laws.specs.Judging.{Rules, TypesFrom}
use Rattle.emit_types_laws.specs.Bodies.{BodyTypes, all_names_below}
use Rattle.emit_types_laws.specs.Flowing.{Flows, FlowsFrom}
use Rattle.emit_types_laws.proofs.TypedSteps.Flow.{flows-from}
use Rattle.emit_types_laws.proofs.TypedSteps.KindOrder.{same}
use Rattle.emit_types_laws.proofs.TypedSteps.Passing.{call-flows}
use Rattle.emit_types_laws.specs.Knowing.{HelperTypes}
use Rattle.emit_types_laws.specs.Methods.{taking, owes_nothing, IsBody, HelpersTyped}

abbrev pub owing : Program → Rules
owing program = record { program = program; owes = owes_nothing; more = 2 }

pub plain-body : (program : Program) (code : List Step) (entry : TypeFrame) → TypesFrom (owing program) code entry []
    → BodyTypes (owing program) code entry
plain-body program code entry t = record { body = t; owed = λ at f e. absurd (none-some f e) }

abbrev HelperFlows : Program → Order → ℕ → Type 0
HelperFlows program order number = FlowsFrom (owing program) (helper_code order number) (taking (helper_parameters number)) []

module _ (program : Program) (helpers : HelperTypes program) where
  lw-big : HelperFlows program Big 0
  lw-big = (
    same _,
    call-flows (owing program) 18 (Int ∷ Int ∷ Int ∷ []) true (with_stack (taking (Int ∷ Int ∷ [])) (Int ∷ Int ∷ Int ∷ [])) [] []
        (Flows (owing program) (gives) []) (helpers 18 (omega arith)) refl refl (tt, tt),
  )

  lw-little : HelperFlows program Little 0
  lw-little = (
    same _,
    call-flows (owing program) 18 (Int ∷ Int ∷ Int ∷ []) true
        (with_stack (taking (Int ∷ Int ∷ [])) (Int ∷ Int ∷ Int ∷ [])) [] [] (Flows (owing program) (gives) []) (helpers 18 (omega arith)) refl refl
        (tt, tt),
  )

  lh-big : HelperFlows program Big 1
  lh-big = (
    same _,
    call-flows (owing program) 18 (Int ∷ Int ∷ Int ∷ []) true (with_stack (taking (Int ∷ Int ∷ [])) (Int ∷ Int ∷ Int ∷ [])) [] []
        (Flows (owing program) (gives) []) (helpers 18 (omega arith)) refl refl (tt, tt),
  )

  lh-little : HelperFlows program Little 1
  lh-little = (
    same _,
    call-flows (owing program) 18 (Int ∷ Int ∷ Int ∷ []) true
        (with_stack (taking (Int ∷ Int ∷ [])) (Int ∷ Int ∷ Int ∷ [])) [] [] (Flows (owing program) (gives) []) (helpers 18 (omega arith)) refl refl
        (tt, tt),
  )

  lhu-big : HelperFlows program Big 2
  lhu-big = (
    same _,
    call-flows (owing program) 18 (Int ∷ Int ∷ Int ∷ []) true
        (with_stack (taking (Int ∷ Int ∷ [])) (Int ∷ Int ∷ Int ∷ [])) [] [] (Flows (owing program) (gives) []) (helpers 18 (omega arith)) refl refl
        (tt, tt),
  )

  lhu-little : HelperFlows program Little 2
  lhu-little = (
    same _,
    call-flows (owing program) 18 (Int ∷ Int ∷ Int ∷ []) true
        (with_stack (taking (Int ∷ Int ∷ [])) (Int ∷ Int ∷ Int ∷ [])) [] [] (Flows (owing program) (gives) []) (helpers 18 (omega arith)) refl refl
        (tt, tt),
  )

  lb-big : HelperFlows program Big 3
  lb-big = (
    same _,
    call-flows (owing program) 18 (Int ∷ Int ∷ Int ∷ []) true (with_stack (taking (Int ∷ Int ∷ [])) (Int ∷ Int ∷ Int ∷ [])) [] []
        (Flows (owing program) (gives) []) (helpers 18 (omega arith)) refl refl (tt, tt),
  )

  lb-little : HelperFlows program Little 3
  lb-little = (
    same _,
    call-flows (owing program) 18 (Int ∷ Int ∷ Int ∷ []) true
        (with_stack (taking (Int ∷ Int ∷ [])) (Int ∷ Int ∷ Int ∷ [])) [] [] (Flows (owing program) (gives) []) (helpers 18 (omega arith)) refl refl
        (tt, tt),
  )

  lbu-big : HelperFlows program Big 4
  lbu-big = (
    same _,
    call-flows (owing program) 18 (Int ∷ Int ∷ Int ∷ []) true
        (with_stack (taking (Int ∷ Int ∷ [])) (Int ∷ Int ∷ Int ∷ [])) [] [] (Flows (owing program) (gives) []) (helpers 18 (omega arith)) refl refl
        (tt, tt),
  )

  lbu-little : HelperFlows program Little 4
  lbu-little = (
    same _,
    call-flows (owing program) 18 (Int ∷ Int ∷ Int ∷ []) true
        (with_stack (taking (Int ∷ Int ∷ [])) (Int ∷ Int ∷ Int ∷ [])) [] [] (Flows (owing program) (gives) []) (helpers 18 (omega arith)) refl refl
        (tt, tt),
  )

  lwl-big : HelperFlows program Big 5
  lwl-big = (
    same _,
    call-flows (owing program) 18 (Int ∷ Int ∷ Int ∷ []) true
        (with_stack (taking (Int ∷ Int ∷ Int ∷ [])) (Int ∷ Int ∷ Int ∷ [])) [] [] (Flows (owing program) (gives) [])
        (helpers 18 (omega arith)) refl refl (tt, tt),
  )

  lwl-little : HelperFlows program Little 5
  lwl-little = (
    same _,
    call-flows (owing program) 18 (Int ∷ Int ∷ Int ∷ []) true
        (with_stack (taking (Int ∷ Int ∷ Int ∷ [])) (Int ∷ Int ∷ Int ∷ [])) [] [] (Flows (owing program) (gives) [])
        (helpers 18 (omega arith)) refl refl (tt, tt),
  )

  lwr-big : HelperFlows program Big 6
  lwr-big = (
    same _,
    call-flows (owing program) 18 (Int ∷ Int ∷ Int ∷ []) true
        (with_stack (taking (Int ∷ Int ∷ Int ∷ [])) (Int ∷ Int ∷ Int ∷ [])) [] [] (Flows (owing program) (gives) [])
        (helpers 18 (omega arith)) refl refl (tt, tt),
  )

  lwr-little : HelperFlows program Little 6
  lwr-little = (
    same _,
    call-flows (owing program) 18 (Int ∷ Int ∷ Int ∷ []) true
        (with_stack (taking (Int ∷ Int ∷ Int ∷ [])) (Int ∷ Int ∷ Int ∷ [])) [] [] (Flows (owing program) (gives) [])
        (helpers 18 (omega arith)) refl refl (tt, tt),
  )

  sw-big : HelperFlows program Big 7
  sw-big = (
    same _,
    call-flows (owing program) 19 (Int ∷ Int ∷ Int ∷ []) false
        (with_stack (taking (Int ∷ Int ∷ Int ∷ [])) (Int ∷ Int ∷ Int ∷ [])) [] [] (Flows (owing program) (returns_nothing) [])
        (helpers 19 (omega arith)) refl refl (tt, tt),
  )

  sw-little : HelperFlows program Little 7
  sw-little = (
    same _,
    call-flows (owing program) 19 (Int ∷ Int ∷ Int ∷ []) false
        (with_stack (taking (Int ∷ Int ∷ Int ∷ [])) (Int ∷ Int ∷ Int ∷ [])) [] [] (Flows (owing program) (returns_nothing) [])
        (helpers 19 (omega arith)) refl refl (tt, tt),
  )

  sh-big : HelperFlows program Big 8
  sh-big = (
    same _,
    call-flows (owing program) 19 (Int ∷ Int ∷ Int ∷ []) false
        (with_stack (taking (Int ∷ Int ∷ Int ∷ [])) (Int ∷ Int ∷ Int ∷ [])) [] [] (Flows (owing program) (returns_nothing) [])
        (helpers 19 (omega arith)) refl refl (tt, tt),
  )

  sh-little : HelperFlows program Little 8
  sh-little = (
    same _,
    call-flows (owing program) 19 (Int ∷ Int ∷ Int ∷ []) false
        (with_stack (taking (Int ∷ Int ∷ Int ∷ [])) (Int ∷ Int ∷ Int ∷ [])) [] [] (Flows (owing program) (returns_nothing) [])
        (helpers 19 (omega arith)) refl refl (tt, tt),
  )

  sb-big : HelperFlows program Big 9
  sb-big = (
    same _,
    call-flows (owing program) 19 (Int ∷ Int ∷ Int ∷ []) false
        (with_stack (taking (Int ∷ Int ∷ Int ∷ [])) (Int ∷ Int ∷ Int ∷ [])) [] [] (Flows (owing program) (returns_nothing) [])
        (helpers 19 (omega arith)) refl refl (tt, tt),
  )

  sb-little : HelperFlows program Little 9
  sb-little = (
    same _,
    call-flows (owing program) 19 (Int ∷ Int ∷ Int ∷ []) false
        (with_stack (taking (Int ∷ Int ∷ Int ∷ [])) (Int ∷ Int ∷ Int ∷ [])) [] [] (Flows (owing program) (returns_nothing) [])
        (helpers 19 (omega arith)) refl refl (tt, tt),
  )

  swl-big : HelperFlows program Big 10
  swl-big = (
    same _,
    call-flows (owing program) 19 (Int ∷ Int ∷ Int ∷ []) false
        (with_stack (taking (Int ∷ Int ∷ Int ∷ [])) (Int ∷ Int ∷ Int ∷ [])) [] [] (Flows (owing program) (returns_nothing) [])
        (helpers 19 (omega arith)) refl refl (tt, tt),
  )

  swl-little : HelperFlows program Little 10
  swl-little = (
    same _,
    call-flows (owing program) 19 (Int ∷ Int ∷ Int ∷ []) false
        (with_stack (taking (Int ∷ Int ∷ Int ∷ [])) (Int ∷ Int ∷ Int ∷ [])) [] [] (Flows (owing program) (returns_nothing) [])
        (helpers 19 (omega arith)) refl refl (tt, tt),
  )

  swr-big : HelperFlows program Big 11
  swr-big = (
    same _,
    call-flows (owing program) 19 (Int ∷ Int ∷ Int ∷ []) false
        (with_stack (taking (Int ∷ Int ∷ Int ∷ [])) (Int ∷ Int ∷ Int ∷ [])) [] [] (Flows (owing program) (returns_nothing) [])
        (helpers 19 (omega arith)) refl refl (tt, tt),
  )

  swr-little : HelperFlows program Little 11
  swr-little = (
    same _,
    call-flows (owing program) 19 (Int ∷ Int ∷ Int ∷ []) false
        (with_stack (taking (Int ∷ Int ∷ Int ∷ [])) (Int ∷ Int ∷ Int ∷ [])) [] [] (Flows (owing program) (returns_nothing) [])
        (helpers 19 (omega arith)) refl refl (tt, tt),
  )

  div-big : HelperFlows program Big 12
  div-big = (tt, tt)

  div-little : HelperFlows program Little 12
  div-little = (tt, tt)

  divu-big : HelperFlows program Big 13
  divu-big = (tt, tt)

  divu-little : HelperFlows program Little 13
  divu-little = (tt, tt)

  mult-big : HelperFlows program Big 14
  mult-big = (tt, tt)

  mult-little : HelperFlows program Little 14
  mult-little = (tt, tt)

  multu-big : HelperFlows program Big 15
  multu-big = (tt, tt)

  multu-little : HelperFlows program Little 15
  multu-little = (tt, tt)

  ll-big : HelperFlows program Big 16
  ll-big = (
    same _,
    call-flows (owing program) 18 (Int ∷ Int ∷ Int ∷ []) true (with_stack (taking (Int ∷ Int ∷ [])) (Int ∷ Int ∷ Int ∷ [])) [] []
        (Flows (owing program) (gives) []) (helpers 18 (omega arith)) refl refl (tt, tt),
  )

  ll-little : HelperFlows program Little 16
  ll-little = (
    same _,
    call-flows (owing program) 18 (Int ∷ Int ∷ Int ∷ []) true
        (with_stack (taking (Int ∷ Int ∷ [])) (Int ∷ Int ∷ Int ∷ [])) [] [] (Flows (owing program) (gives) []) (helpers 18 (omega arith)) refl refl
        (tt, tt),
  )

  sc-big : HelperFlows program Big 17
  sc-big = (
    same _,
    (
      same _,
      call-flows (owing program) 19 (Int ∷ Int ∷ Int ∷ []) false
          (with_stack (taking (Int ∷ Int ∷ Int ∷ [])) (Int ∷ Int ∷ Int ∷ [])) [] [] (Flows (owing program) (push_word 0 ∷ gives) [])
          (helpers 19 (omega arith)) refl refl (tt, tt),
    ),
  )

  sc-little : HelperFlows program Little 17
  sc-little = (
    same _,
    (
      same _,
      call-flows (owing program) 19 (Int ∷ Int ∷ Int ∷ []) false
          (with_stack (taking (Int ∷ Int ∷ Int ∷ [])) (Int ∷ Int ∷ Int ∷ [])) [] [] (Flows (owing program) (push_word 0 ∷ gives) [])
          (helpers 19 (omega arith)) refl refl (tt, tt),
    ),
  )

  rf-big : HelperFlows program Big 18
  rf-big = (same _, (tt, tt))

  rf-little : HelperFlows program Little 18
  rf-little = (same _, (tt, tt))

  wf-big : HelperFlows program Big 19
  wf-big = (same _, (tt, tt))

  wf-little : HelperFlows program Little 19
  wf-little = (same _, (tt, tt))

one : (program : Program) (order : Order) (number : ℕ) → HelperFlows program order number → all_names_below 4 (helper_code order number) ≡ true
    → IsBody program owes_nothing (helper_parameters number) 4 (helper_code order number)
one program order number h names = record {
  names = names;
  types = plain-body program (helper_code order number) (taking (helper_parameters number))
      (flows-from (owing program) (helper_code order number) (taking (helper_parameters number)) [] h);
}

-- a fact of each number from one on, so many
abbrev AllFrom : (ℕ → Type 0) → ℕ → ℕ → Type 0
AllFrom P start zero = ⊤
AllFrom P start (suc count) = P start × AllFrom P (start + 1) count

all-at : (P : ℕ → Type 0) (count start n : ℕ) → AllFrom P start count → n < count → P (start + n)
all-at P zero start n all less = absurd (omega arith)
all-at P (suc count) start zero all less = let e : start ≡ start + 0 = omega arith in subst P e all.0
all-at P (suc count) start (suc n) all less = let e : (start + 1) + n ≡ start + suc n = omega arith in subst P e
    (all-at P count (start + 1) n all.1 (omega arith))

all-big : (program : Program) → HelperTypes program
    → AllFrom (λ number. IsBody program owes_nothing (helper_parameters number) 4 (helper_code Big number)) 0 20
all-big program helpers = (
  one program Big 0 (lw-big program helpers) refl,
  (
    one program Big 1 (lh-big program helpers) refl,
    (
      one program Big 2 (lhu-big program helpers) refl,
      (
        one program Big 3 (lb-big program helpers) refl,
        (
          one program Big 4 (lbu-big program helpers) refl,
          (
            one program Big 5 (lwl-big program helpers) refl,
            (
              one program Big 6 (lwr-big program helpers) refl,
              (
                one program Big 7 (sw-big program helpers) refl,
                (
                  one program Big 8 (sh-big program helpers) refl,
                  (
                    one program Big 9 (sb-big program helpers) refl,
                    (
                      one program Big 10 (swl-big program helpers) refl,
                      (
                        one program Big 11 (swr-big program helpers) refl,
                        (
                          one program Big 12 (div-big program helpers) refl,
                          (
                            one program Big 13 (divu-big program helpers) refl,
                            (
                              one program Big 14 (mult-big program helpers) refl,
                              (
                                one program Big 15 (multu-big program helpers) refl,
                                (
                                  one program Big 16 (ll-big program helpers) refl,
                                  (
                                    one program Big 17 (sc-big program helpers) refl,
                                    (
                                      one program Big 18 (rf-big program helpers) refl,
                                      (
                                        one program Big 19 (wf-big program helpers) refl,
                                        tt,
                                      ),
                                    ),
                                  ),
                                ),
                              ),
                            ),
                          ),
                        ),
                      ),
                    ),
                  ),
                ),
              ),
            ),
          ),
        ),
      ),
    ),
  ),
)

all-little : (program : Program) → HelperTypes program
    → AllFrom (λ number. IsBody program owes_nothing (helper_parameters number) 4 (helper_code Little number)) 0 20
all-little program helpers = (
  one program Little 0 (lw-little program helpers) refl,
  (
    one program Little 1 (lh-little program helpers) refl,
    (
      one program Little 2 (lhu-little program helpers) refl,
      (
        one program Little 3 (lb-little program helpers) refl,
        (
          one program Little 4 (lbu-little program helpers) refl,
          (
            one program Little 5 (lwl-little program helpers) refl,
            (
              one program Little 6 (lwr-little program helpers) refl,
              (
                one program Little 7 (sw-little program helpers) refl,
                (
                  one program Little 8 (sh-little program helpers) refl,
                  (
                    one program Little 9 (sb-little program helpers) refl,
                    (
                      one program Little 10 (swl-little program helpers) refl,
                      (
                        one program Little 11 (swr-little program helpers) refl,
                        (
                          one program Little 12 (div-little program helpers) refl,
                          (
                            one program Little 13 (divu-little program helpers) refl,
                            (
                              one program Little 14 (mult-little program helpers) refl,
                              (
                                one program Little 15 (multu-little program helpers) refl,
                                (
                                  one program Little 16 (ll-little program helpers) refl,
                                  (
                                    one program Little 17 (sc-little program helpers) refl,
                                    (
                                      one program Little 18 (rf-little program helpers) refl,
                                      (
                                        one program Little 19 (wf-little program helpers) refl,
                                        tt,
                                      ),
                                    ),
                                  ),
                                ),
                              ),
                            ),
                          ),
                        ),
                      ),
                    ),
                  ),
                ),
              ),
            ),
          ),
        ),
      ),
    ),
  ),
)

pub helpers-typed : (order : Order) → HelpersTyped order
helpers-typed Big program helpers number few =
    let e : 0 + number ≡ number = omega arith in
    subst (λ n. IsBody program owes_nothing (helper_parameters n) 4 (helper_code Big n)) e
    (all-at (λ n. IsBody program owes_nothing (helper_parameters n) 4 (helper_code Big n)) 20 0 number (all-big program helpers) few)
helpers-typed Little program helpers number few =
    let e : 0 + number ≡ number = omega arith in
    subst (λ n. IsBody program owes_nothing (helper_parameters n) 4 (helper_code Little n)) e
    (all-at (λ n. IsBody program owes_nothing (helper_parameters n) 4 (helper_code Little n)) 20 0 number (all-little program helpers) few)
