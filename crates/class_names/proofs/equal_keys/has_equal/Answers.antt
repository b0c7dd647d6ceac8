use Rattle.std.proofs.Common.{◌≡◌, ◌∙◌, List, [], ◌∷◌, ◌++◌, true, false, refl, sym, ap, append-nil}
use Rattle.std.specs.List.{list_any}
use Rattle.std.proofs.lemmas.Bool.{or_from, not-true, not-false}
use Rattle.std.proofs.lemmas.List.{nil_from_length}
use Rattle.class_names.specs.declared.key.Key.{Key}
use Rattle.class_names.specs.Keys.{same_key, has_equal_keys}
use Rattle.class_names.proofs.MemberLemmas.{seen_more, equal_found, all_split}
use Rattle.class_names.proofs.equal_keys.has_equal.Goals as goal

pub loop-key-init : goal.loop-key-init
loop-key-init c = record {
  done = [];
  all = append-nil c.args.keys.now;
  apart = refl;
  seen = λ k. ap (λ (ks : List Key). list_any (same_key k) ks) c.new-seen.ensures.empty;
}

pub loop-key-preserved : goal.loop-key-preserved
loop-key-preserved c =
    let v = c.loop-key.invariant in
    let x = c.in-Some.key.now in
    let fresh : list_any (same_key x) c.loop-key.seen.keys ≡ false = not-true (list_any (same_key x) c.loop-key.seen.keys) (sym c.in_ok-insert.ensures.added ∙ c.if-not-branch.false) in
    record {
      done = x ∷ v.done;
      all = all_split c.args.keys.now c.loop-key.rest.now c.in-Some.before.now v.done x v.all c.in-Some.ensures.cases.0;
      apart = or_from (list_any (same_key x) v.done) (has_equal_keys v.done) (sym (v.seen x) ∙ fresh) v.apart;
      seen = seen_more c.loop-key.seen.keys c.insert.new.self.keys v.done x v.seen (λ k. c.in_ok-insert.ensures.updates.0 k);
    }

pub returns-then-not-branch : goal.returns-then-not-branch
returns-then-not-branch c =
    let v = c.loop-key.invariant in
    let x = c.in-Some.key.now in
    let again : list_any (same_key x) c.loop-key.seen.keys ≡ true = not-false (list_any (same_key x) c.loop-key.seen.keys) (sym c.in_ok-insert.ensures.added ∙ c.if-not-branch.true) in
    sym (equal_found c.args.keys.now c.loop-key.rest.now c.in-Some.before.now v.done x v.all c.in-Some.ensures.cases.0 (sym (v.seen x) ∙ again))

pub returns : goal.returns
returns c =
    let v = c.loop-key.invariant in
    let none : c.loop-key.rest.now ≡ [] = nil_from_length c.loop-key.rest.now c.in_default.ensures.cases in
    let all : v.done ≡ c.args.keys.now = ap (λ (ks : List Key). ks ++ v.done) (sym none) ∙ v.all in
    sym v.apart ∙ ap has_equal_keys all
