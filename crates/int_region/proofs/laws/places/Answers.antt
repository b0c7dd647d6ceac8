use Rattle.int_region.proofs.ArrayLemmas.{array_at-position, live_position, there, live_within, live_apart, live_fits}
use Rattle.int_region.proofs.laws.places.Goals as goal

pub returns : goal.returns
returns c = record {
  position = array_at-position;
  live = live_position;
  there = there;
  within = live_within;
  apart = live_apart;
  fits = live_fits;
}
