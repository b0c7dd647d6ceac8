-- One more parameter of a method descriptor.
use Rattle.std.proofs.Common.{◌≡◌, ℕ, zero, suc, List, Some, None, refl, codes}
use Rattle.class_definition.specs.NameGrammar.{after_front, after_field, after_parameters}

-- the ) is there
pub parameters_end : (n : ℕ) (cs rest : List ℕ) → after_front (codes ")") cs ≡ Some rest → after_parameters n cs ≡ Some rest
unfolding after_parameters
parameters_end zero cs rest e = e
parameters_end (suc n) cs rest e = rw e refl

-- there is neither a ) nor a parameter
pub parameters_fail : (n : ℕ) (cs : List ℕ) → after_front (codes ")") cs ≡ None → after_field cs ≡ None → after_parameters n cs ≡ None
unfolding after_parameters
parameters_fail zero cs e none = e
parameters_fail (suc n) cs e none = rw (e, none) refl

-- there is a parameter
pub parameters_more : (n m : ℕ) (cs rest : List ℕ) → n ≡ suc m → after_front (codes ")") cs ≡ None → after_field cs ≡ Some rest → after_parameters n cs ≡ after_parameters m rest
unfolding after_parameters
parameters_more n m cs rest more e is = rw (more, e, is) refl

pub no_parameters : (n : ℕ) (cs : List ℕ) → n ≡ 0 → after_parameters n cs ≡ after_front (codes ")") cs
unfolding after_parameters
no_parameters n cs e = rw e refl
