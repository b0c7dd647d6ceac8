use Rattle.std.proofs.Common.{◌≡◌, ◌+◌, ◌<◌, length, sym, ap, subst, ◌∙◌, arith}
use Rattle.std.specs.Prelude.{slice_get, All}
use Rattle.std.proofs.lemmas.Option.{same_Some}
use Rattle.class_definition.specs.declared.method.Method.{Method}
use Rattle.class_definition.specs.MemberNames.{slot_text}
use Rattle.jvm_definition.specs.declared.linked_method.LinkedMethod.{LinkedMethod}
use Rattle.jvm_definition.specs.Program.{LaidFrom}
use Rattle.class_definition.specs.Linking.{gives_int, linked_method, linked_methods, program_of}
use Rattle.jvm_code.specs.Order.{IsInOrder}
use Rattle.type_verifier.specs.Refusal.{methods_before}
use Rattle.type_verifier.specs.Typings.{RisesFrom, IsListed}
use Rattle.stackmap_table.specs.Shortest.{AreTabled, IsTableOf}
use Rattle.frame_maps.proofs.CheckLaws.{methods-within}
use Rattle.stackmap_prune.specs.Code.{is_listed, KeepsTargets, IsPrunedMethod}
use Rattle.stackmap_prune.specs.Linked.{listing_behind}
use Rattle.stackmap_laws.specs.Framed.{IsPrunedOf}
use Rattle.stackmap_laws.proofs.ClosedLaws.{keeps-targets}
use Rattle.stackmap_maker.specs.Made.{IsMadeWithin}
use Rattle.stackmap_maker.proofs.Steps.{place-of, own-of, laid-at, gives-of, sound-at, method-fits, own-tabled, not-typed}
use Rattle.stackmap_maker.proofs.methods.method_with_table.Goals as goal

pub method_at-program-requires : goal.method_at-program-requires
method_at-program-requires c =
    let cs = c.args.linked.now.classes in
    let are : c.as_slice.result.now ≡ linked_methods cs = c.as_slice.ensures ∙ c.args.linked.now.methods_are in
    let within = methods-within cs c.as_slice.result.now c.args.number c.args.class.now are c.requires.there in
    omega (arith, within, c.requires.first, c.requires.within)

pub typing_of-requires : goal.typing_of-requires
typing_of-requires c = record {
  of = c.args.class.now;
  of_is = c.requires.there;
  within = omega (arith, c.requires.within, c.in_ok-number_of.ensures);
}

pub pruned_with_table-requires-clause-sound : goal.pruned_with_table-requires-clause-sound
pruned_with_table-requires-clause-sound c =
    sound-at c.args.linked.now.classes c.args.number c.args.class.now c.args.method c.own_at-own.result.now c.args.linked.now.kept c.requires.there c.own_at-own.ensures

pub pruned_with_table-requires-clause-rises : goal.pruned_with_table-requires-clause-rises
pruned_with_table-requires-clause-rises c =
    let cs = c.args.linked.now.classes in
    let class = c.args.class.now in
    let number = c.args.number in
    let i = c.args.method in
    let m = c.own_at-own.result.now in
    let is = c.own_at-own.ensures in
    let reached = c.in-Listed.reached.items in
    let place = ap (λ k. slice_get (linked_methods cs) (methods_before cs number + k)) c.in_ok-number_of.ensures ∙ place-of cs number class i m c.requires.there is in
    let listed : IsListed (program_of cs) (linked_method cs number class m) reached = (rw c.in-Listed.is at c.in_ok-reached.ensures) (linked_method cs number class m) place in
    subst (RisesFrom 0) (sym c.deref.ensures.value) listed.rises

pub pruned_with_table-requires-clause-closed : goal.pruned_with_table-requires-clause-closed
pruned_with_table-requires-clause-closed c = λ lines are.
    let cs = c.args.linked.now.classes in
    let class = c.args.class.now in
    let number = c.args.number in
    let i = c.args.method in
    let m = c.own_at-own.result.now in
    let is = c.own_at-own.ensures in
    let reached = c.in-Listed.reached.items in
    let place = ap (λ k. slice_get (linked_methods cs) (methods_before cs number + k)) c.in_ok-number_of.ensures ∙ place-of cs number class i m c.requires.there is in
    let listed : IsListed (program_of cs) (linked_method cs number class m) reached = (rw c.in-Listed.is at c.in_ok-reached.ensures) (linked_method cs number class m) place in
    subst (λ r. KeepsTargets (is_listed r) lines) (sym c.deref.ensures.value)
    (keeps-targets cs number class m reached lines (sound-at cs number class i m c.args.linked.now.kept c.requires.there is) are listed)

pub pruned_with_table-requires-clause-laid : goal.pruned_with_table-requires-clause-laid
pruned_with_table-requires-clause-laid c =
    laid-at c.as_slice.result.now (c.args.first + c.args.method) c.method_at-program.result.now (subst (All IsInOrder) (sym c.as_slice.ensures) c.args.linked.now.in_order) c.method_at-program.ensures

pub pruned_with_table-requires-clause-tabled : goal.pruned_with_table-requires-clause-tabled
pruned_with_table-requires-clause-tabled c = λ n sound pruned.
    let cs = c.args.linked.now.classes in
    let class = c.args.class.now in
    let number = c.args.number in
    let i = c.args.method in
    let m = c.own_at-own.result.now in
    let is = c.own_at-own.ensures in
    let reached = c.in-Listed.reached.items in
    let place = ap (λ k. slice_get (linked_methods cs) (methods_before cs number + k)) c.in_ok-number_of.ensures ∙ place-of cs number class i m c.requires.there is in
    let listed : IsListed (program_of cs) (linked_method cs number class m) reached = (rw c.in-Listed.is at c.in_ok-reached.ensures) (linked_method cs number class m) place in
    let methods = c.as_slice.result.now in
    let own = c.method_at-program.result.now in
    let are : methods ≡ linked_methods cs = c.as_slice.ensures ∙ c.args.linked.now.methods_are in
    let own-is : own ≡ linked_method cs number class m = own-of cs methods number class i m c.args.first own are c.requires.there is c.requires.first c.method_at-program.ensures in
    let gives : own.gives_int ≡ gives_int (slot_text class m.desc) = ap (λ (x : LinkedMethod). x.gives_int) own-is ∙ gives-of cs number class m in
    let same = c.deref.ensures.value in
    subst (λ (x : LinkedMethod). AreTabled 0 (listing_behind x c.deref.result.now)) (sym own-is)
    (subst (λ r. AreTabled 0 (listing_behind (linked_method cs number class m) r)) (sym same)
    (own-tabled cs number class m n reached (method-fits cs number class i m c.args.linked.now.kept c.requires.there is) sound listed
    (subst (λ b. IsPrunedMethod (is_listed reached) b m n) gives (subst (λ r. IsPrunedMethod (is_listed r) own.gives_int m n) same pruned))))

pub returns-in-Fails : goal.returns-in-Fails
returns-in-Fails c =
    not-typed c.args.linked.now.classes c.args.number c.args.class.now c.args.method c.own_at-own.result.now c.in_ok-number_of.field-0 c.in-Fails._at c.requires.there c.own_at-own.ensures c.in_ok-number_of.ensures
    (rw c.in-Fails.is at c.in_ok-reached.ensures)

pub returns-in_ok-tabled-in-Listed : goal.returns-in_ok-tabled-in-Listed
returns-in_ok-tabled-in-Listed c = λ of of-is.
    let cs = c.args.linked.now.classes in
    let class = c.args.class.now in
    let number = c.args.number in
    let i = c.args.method in
    let m = c.own_at-own.result.now in
    let is = c.own_at-own.ensures in
    let reached = c.in-Listed.reached.items in
    let place = ap (λ k. slice_get (linked_methods cs) (methods_before cs number + k)) c.in_ok-number_of.ensures ∙ place-of cs number class i m c.requires.there is in
    let listed : IsListed (program_of cs) (linked_method cs number class m) reached = (rw c.in-Listed.is at c.in_ok-reached.ensures) (linked_method cs number class m) place in
    let methods = c.as_slice.result.now in
    let own = c.method_at-program.result.now in
    let are : methods ≡ linked_methods cs = c.as_slice.ensures ∙ c.args.linked.now.methods_are in
    let own-is : own ≡ linked_method cs number class m = own-of cs methods number class i m c.args.first own are c.requires.there is c.requires.first c.method_at-program.ensures in
    let gives : own.gives_int ≡ gives_int (slot_text class m.desc) = ap (λ (x : LinkedMethod). x.gives_int) own-is ∙ gives-of cs number class m in
    let same = c.deref.ensures.value in
    let t = c.in_ok-tabled-in-Listed.tabled in
    let pruned : IsPrunedOf cs number class m t.method = record {
      reached = reached;
      listed = listed;
      is = subst (λ b. IsPrunedMethod (is_listed reached) b m t.method) gives (subst (λ r. IsPrunedMethod (is_listed r) own.gives_int m t.method) same c.in_ok-tabled-in-Listed.ensures.pruned);
      sound = c.in_ok-tabled-in-Listed.ensures.sound;
    } in
    let w = c.in_ok-tabled-in-Listed.ensures.tabled in
    let made : IsMadeWithin cs number class c.args.pool.now c.args.room m t.method t.table.bytes t.table.size = record {
      all = w.all;
      is = record {
        is = pruned;
        tabled =
            subst (λ (x : LinkedMethod). IsTableOf c.args.pool.now x.parameters (listing_behind x reached) w.all) own-is
            (subst (λ r. IsTableOf c.args.pool.now own.parameters (listing_behind own r) w.all) same w.is);
      };
      sized = w.sized;
      written = w.written;
    } in
    subst (λ (x : Method). IsMadeWithin cs number class c.args.pool.now c.args.room x t.method t.table.bytes t.table.size) (same_Some m of (sym is ∙ of-is)) made
