-- The classes that the main class names, one more at a time.
use Rattle.std.proofs.Common.{◌≡◌, ℕ, ◌+◌, List, [], ◌∷◌, ◌++◌, ap, sym, ◌∙◌, subst}
use Rattle.std.specs.List.{flat_map, range_with_len}
use Rattle.std.proofs.lemmas.Grind.{flat_map-append}
use Rattle.class_definition.specs.declared.class.Class.{Class}
use Rattle.translate_classes.specs.Making.{NamesMore}
use Rattle.translate_classes.proofs.ClassMaking.ZipLemmas.{range-more}
use Rattle.translate_classes.proofs.ClassMaking.NamingLemmas.{names-more}
use Rattle.translate_classes.specs.declared.other_class.OtherClass.{OtherClass}
use Rattle.translate_classes.specs.MainMentioned.{other_mention, other_mentions}

pub others-next : (name : List ℕ) (kind : OtherClass) (k : ℕ) → other_mentions name kind (k + 1) ≡ other_mentions name kind k ++ other_mention name kind k
others-next name kind k =
    ap (flat_map (other_mention name kind)) (range-more k) ∙ flat_map-append (other_mention name kind) (range_with_len 0 k) (k ∷ [])

pub names-next : (a b c : Class) (name : List ℕ) (kind : OtherClass) (k : ℕ) → NamesMore a b (other_mentions name kind k)
    → NamesMore b c (other_mention name kind k)
    → NamesMore a c (other_mentions name kind (k + 1))
names-next a b c name kind k before one =
    subst (NamesMore a c) (sym (others-next name kind k)) (names-more a b c (other_mentions name kind k) (other_mention name kind k) before one)
