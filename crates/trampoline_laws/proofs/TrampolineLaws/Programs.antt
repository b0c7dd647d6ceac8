-- Facts of a translated program.
use Rattle.std.proofs.Common.{◌≡◌, ℕ, ◌+◌, ◌<◌, ◌≤◌, Bool, List, [], ◌∷◌, length, slice_get, Option, Some, None, All, ap, sym, ◌∙◌, arith}
use Rattle.std.proofs.lemmas.List.Elements.{All-weaker}
use Rattle.run_definition.specs.declared.order.Order.{Order}
use Rattle.delay_slots.specs.Turns.{HasRange}
use Rattle.jvm_definition.specs.Program.{Program}
use Rattle.trampoline.specs.declared.start.Start.{Start}
use Rattle.trampoline_laws.specs.Choosing.{chosen, chosen_from, Rise, IsMethod, AreMethods, IsReached}
use Rattle.trampoline_laws.specs.Classes.{CodeClass, IsClass, HasClass, AreOrdered, address, run_of, span_start, span_starts, starts_of}
use Rattle.trampoline_laws.specs.Programs.{IsTranslated}
use Rattle.trampoline_laws.proofs.TrampolineLaws.Elements.{all-at, all-counted, none-past}
use Rattle.trampoline_laws.proofs.TrampolineLaws.Choosing.{chosen-begins}
use Rattle.trampoline_laws.proofs.TrampolineLaws.Words.{word-within, end-low}
use Rattle.trampoline_laws.proofs.TrampolineLaws.Starts.{classes-rise, classes-some, classes-methods, class-chosen, class-reached}
use Rattle.trampoline_laws.proofs.TrampolineLaws.Strays.{IsOutside, outside-missing}

module _ {metered : Bool} (program : Program) (order : Order) (choose missing : ℕ) (classes : List CodeClass) (code : ℕ → Option ℕ) (t : IsTranslated metered program order choose missing classes code) where
  pub are-classes : All IsClass classes
  are-classes = All-weaker (HasClass program) IsClass (λ c has. has.is_class) classes t.has

  pub has-class : (n : ℕ) (c : CodeClass) → slice_get classes n ≡ Some c → HasClass program c
  has-class n c at = all-at (HasClass program) classes n c t.has at

  pub has-range : (n : ℕ) (c : CodeClass) → slice_get classes n ≡ Some c → HasRange code c.start c.words
  has-range n c at = all-at (λ (d : CodeClass). HasRange code d.start d.words) classes n c t.code_is.ranges at

  pub rise : Rise (starts_of missing classes)
  rise = classes-rise missing classes are-classes t.ordered

  pub some : 1 ≤ length (starts_of missing classes)
  some = classes-some missing classes t.some

  pub methods : AreMethods program (starts_of missing classes)
  methods = classes-methods missing program classes t.missing_is t.has

  pub span-methods : (n : ℕ) (c : CodeClass) → slice_get classes n ≡ Some c → AreMethods program (span_starts c)
  span-methods n c at =
      all-counted (λ (s : Start). IsMethod program s.method) (span_start c) 0 (length c.spans)
      (λ j from to. (has-class n c at).spans_are j (omega arith))

  pub word-chosen : (n : ℕ) (c : CodeClass) (k : ℕ) → slice_get classes n ≡ Some c → k < c.count → chosen (starts_of missing classes) (address c k) ≡ run_of c
  word-chosen n c k at below =
      let from = chosen-begins (address c k) (starts_of missing classes) in
      from.1 ∙ class-chosen missing classes n c k from.0 are-classes t.ordered at below

  pub word-reached : (n : ℕ) (c : CodeClass) (k : ℕ) → slice_get classes n ≡ Some c → k < c.count → IsReached (starts_of missing classes) (address c k)
  word-reached n c k at below =
      let is = (has-class n c at).is_class in
      let within = word-within c is k below in
      let low = end-low c is in
      let first = class-reached missing classes n c are-classes t.ordered at in
      (within.0, omega (arith, within.1, first), omega (arith, within.2, low))

  -- ---- outside all code

  outside : (x : ℕ) → code x ≡ None → IsOutside classes x
  outside x none n c k at below is =
      let range = has-range n c at in
      let within = (has-class n c at).is_class.within in
      none-past c.words (c.first + k) (omega (arith, within))
      (sym (range.there (c.first + k) (omega (arith, within))) ∙ ap code (sym is) ∙ none)

stray : (missing : ℕ) (classes : List CodeClass) (x : ℕ) → 1 ≤ length classes → All IsClass classes → AreOrdered classes → IsOutside classes x → IsReached (starts_of missing classes) x → (method : ℕ) → chosen_from method (starts_of missing classes) x ≡ missing
stray missing [] x some are ordered outside reached method = absurd (omega arith)
stray missing (c ∷ classes) x some are ordered outside reached method =
    outside-missing missing x reached.0 reached.2 c classes method are ordered outside
    (λ less. let from = reached.1 in absurd (omega arith))

pub stray-missing : {metered : Bool} (program : Program) (order : Order) (choose missing : ℕ) (classes : List CodeClass) (code : ℕ → Option ℕ) (x : ℕ) → IsTranslated metered program order choose missing classes code → IsReached (starts_of missing classes) x → code x ≡ None → chosen (starts_of missing classes) x ≡ missing
stray-missing program order choose missing classes code x t reached none =
    let from = chosen-begins x (starts_of missing classes) in
    from.1
    ∙ stray missing classes x t.some (are-classes program order choose missing classes code t) t.ordered (outside program order choose missing classes code t x none) reached from.0
