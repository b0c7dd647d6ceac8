use Rattle.std.proofs.Common.{◌∙◌, sym}
use Rattle.mips_definition.specs.declared.names.store_name.StoreName.TheVariants.{Sw}
use Rattle.mem_helpers_laws.proofs.StoreLaws.Places.{same-word}
use Rattle.mem_helpers_laws.proofs.StoreLaws.Allowed.{allowed-is}
use Rattle.mem_helpers_laws.proofs.StoreLaws.Conditional.{unaligned-conditional, refused-conditional, no-link, other-link, this-link}
use Rattle.mem_helpers_laws.proofs.store_laws.conditional_stores_are_concluded.Goals as goal

pub returns-clause-faulty : goal.returns-clause-faulty
returns-clause-faulty c = record {
  unaligned = λ program words pc value a order w helpers a_word test.
      unaligned-conditional program words pc value a order w a_word helpers test;
  refused = λ program words pc value a readable writable order memory w helpers a_word tables aligned refused.
      refused-conditional program words pc value a order w a_word readable writable memory tables aligned helpers
      refused;
}

pub returns-clause-concluded : goal.returns-clause-concluded
returns-clause-concluded c program words pc value a readable writable order memory w it = record {
  linked = λ at value_word link same.
      this-link program words pc value a order w it.is_word readable writable memory it.held it.aligned
      (sym (allowed-is Sw order memory a (same-word w.heap readable writable memory it.held.held a) it.aligned)
      ∙ it.allowed) at link.linked link.link_is link.is_word value_word same;
  elsewhere = λ at link other.
      other-link program words pc value a order w it.is_word readable writable memory it.held it.aligned
      (sym (allowed-is Sw order memory a (same-word w.heap readable writable memory it.held.held a) it.aligned)
      ∙ it.allowed) at link.linked link.link_is link.is_word other;
  unlinked = λ is.
      no-link program words pc value a order w it.is_word readable writable memory it.held it.aligned
      (sym (allowed-is Sw order memory a (same-word w.heap readable writable memory it.held.held a) it.aligned)
      ∙ it.allowed) is;
}
