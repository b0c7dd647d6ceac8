-- The lines of the methods of spans follow each other.
use Rattle.std.proofs.Common.{◌≡◌, ℕ, ◌+◌, ◌<◌, List, [], ◌∷◌, length, slice_get, Some, refl, sym, ap, subst, ◌∙◌, arith}
use Rattle.std.specs.List.{AllZip}
use Rattle.jvm_definition.specs.declared.linked_method.LinkedMethod.{LinkedMethod}
use Rattle.jvm_definition.specs.Program.{Program, LaidFrom}
use Rattle.emit_steps.specs.declared.step.Step.{Step}
use Rattle.emit_steps.specs.Widths.{width}
use Rattle.emit_steps.specs.Placing.{laid}
use Rattle.emit_steps.proofs.WidthLemmas.{width-some}
use Rattle.emit_program_laws.specs.TrampolineLaws.Classes.{CodeClass}
use Rattle.translate_classes.specs.Making.{Plan}
use Rattle.translate_classes.specs.Code.{span_plan, span_plans, run_plan}
use Rattle.translate_program.specs.declared.block_info.BlockInfo.{BlockInfo}
use Rattle.translate_program.specs.declared.layout.Layout.{Layout}
use Rattle.translate_program.specs.Classes.{Placed}
use Rattle.nv_translate.specs.Linked.{HasCodeClass, IsPlanned}
use Rattle.nv_translate.specs.Standing.{IsClassOf}
use Rattle.nv_translate.specs.Warm.{IsPieceOf, method_of}
use Rattle.nv_translate.proofs.LinkedTranslations.Lists.{zip-second, mapped-get}
use Rattle.nv_translate.proofs.WarmTranslations.Lists.{get-left}

laid-follow : (at : ℕ) (code : List Step) → LaidFrom at (laid at code)
laid-follow at [] = tt
laid-follow at (s ∷ code) = let some = width-some s in (refl, omega (arith, some), laid-follow (at + width s) code)

planned-follow : (program : Program) (m n : ℕ) (p : Plan) (method : LinkedMethod) → IsPlanned program m p → n ≡ m → program.method n ≡ Some method
    → LaidFrom 0 method.lines
planned-follow program m n p method is same there =
    let both : Some is.method ≡ Some method = sym is.there ∙ ap program.method (sym same) ∙ there in
    let one : is.method ≡ method = cc in
    subst (λ (x : LinkedMethod). LaidFrom 0 x.lines) one (subst (LaidFrom 0) (sym is.lines_are) (laid-follow 0 p.code))

module _ (program : Program) (layout : Layout) (code : List Placed) (classes : List CodeClass) (of : AllZip IsClassOf code classes)
    (code_has : (i : ℕ) (c : Placed) → slice_get code i ≡ Some c → HasCodeClass program c) where
  pub lines-follow : (b : BlockInfo) (p : IsPieceOf classes layout b) (method : LinkedMethod) → program.method (method_of p) ≡ Some method
      → LaidFrom 0 method.lines
  lines-follow b p method there =
      let side = zip-second IsClassOf code classes p.number p.class of p.there in
      let c = side.0 in
      let is = side.2.is in
      let has = code_has p.number c side.1 in
      let below : p.span < length c.spans = subst (λ (d : CodeClass). p.span < length d.spans) is p.span_below in
      let plan = span_plan c.part c.spans has.spans_by p.span in
      let plans = span_plans c.part c.spans has.spans_by (length c.spans) in
      let run = run_plan c.part c.spans c.first_method has.run_by in
      let planned : IsPlanned program (c.first_method + p.span) plan =
      has.planned p.span plan
      (get-left plans (run ∷ []) p.span plan (mapped-get (span_plan c.part c.spans has.spans_by) (length c.spans) p.span below)) in
      let number : method_of p ≡ c.first_method + p.span = ap (λ (d : CodeClass). d.first_method + p.span) is in
      planned-follow program (c.first_method + p.span) (method_of p) plan method planned number there
