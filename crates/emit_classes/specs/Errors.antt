-- An error of the pool as one of the class.
use Rattle.constant_pool.specs.declared.error.PoolError.{PoolError}
use Rattle.constant_pool.specs.declared.error.PoolError.TheVariants as pools
use Rattle.emit_classes.specs.declared.error.BuildError.{BuildError}
use Rattle.emit_classes.specs.declared.error.BuildError.TheVariants.{Full, NoMemory}

abbrev pub of_pool : PoolError → BuildError
of_pool pools.Full = Full
of_pool pools.NoMemory = NoMemory
