use Rattle.stackmap_pool.proofs.PoolLaws.{framed-sound, table-named, framed-references}
use Rattle.stackmap_pool.proofs.laws.framed_pools_are_sound.Goals as goal

pub returns : goal.returns
returns c = record {
  fits = λ entries was few. framed-sound entries was few;
  named = λ entries. table-named entries;
  references = λ entries slots was few ints pages text. framed-references entries slots few ints pages text;
}
