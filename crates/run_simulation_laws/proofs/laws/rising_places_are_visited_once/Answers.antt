use Rattle.std.proofs.Common.{sym, subst, List, ℕ}
use Rattle.run_simulation_laws.specs.Places.{Rises, visited}
use Rattle.run_simulation_laws.proofs.Places.{once, rises_length, rises_join, visited_append}
use Rattle.run_simulation_laws.proofs.laws.rising_places_are_visited_once.Goals as goal

pub returns : goal.returns
returns g c place = record {
  once = λ low high trail rises at. (once place at low high trail rises).0;
  many = λ low high trail rises. rises_length low (visited place trail) high rises;
  joined = λ low middle high first next rises then_rises.
      subst (λ (places : List ℕ). Rises low places high) (sym (visited_append place first next))
      (rises_join low (visited place first) middle (visited place next) high rises then_rises);
}
