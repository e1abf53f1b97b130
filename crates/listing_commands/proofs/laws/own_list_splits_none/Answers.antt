use Rattle.listing_commands.proofs.OwnPatterns.{own_list_splits_none}
use Rattle.listing_commands.proofs.laws.own_list_splits_none.Goals as goal

pub returns : goal.returns
returns c = own_list_splits_none
