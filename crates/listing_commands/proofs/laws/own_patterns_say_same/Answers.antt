use Rattle.listing_commands.proofs.OwnPatterns.{results_say_same}
use Rattle.listing_commands.proofs.laws.own_patterns_say_same.Goals as goal

pub returns : goal.returns
returns c = results_say_same
