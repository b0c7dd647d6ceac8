-- How a call of the program ends whose words are no command line.
use Rattle.std.specs.Prelude.{◌≡◌, ◌⊎◌, Result, Ok, Err}
use Rattle.command_forms.specs.declared.usage.Usage.{Usage}
use Rattle.command_deeds.specs.Ends.{CommandAnswer, says}
use Rattle.command_deeds.specs.Stops.{usage_number}
use Rattle.command_deeds.specs.World.{Stays, World}
use Rattle.command_deeds.specs.declared.done.Done.{Done}
use Rattle.command_deeds.specs.declared.stop.Stop.{Stop}

-- Nothing is done, and the answer says what is wrong with the words, where memory does not run out.
abbrev pub Misuses : Usage → World → World → Result CommandAnswer Stop → Type 0
Misuses usage w v end = Stays w v
    × ((end ≡ Ok (says (Done.Usage (usage_number usage)))) ⊎ (end ≡ Err Stop.NoMemory))
