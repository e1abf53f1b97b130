use Rattle.sim_listing.proofs.TextLemmas.{text_joined}
use Rattle.sim_listing.proofs.laws.blocks_make_the_list.Goals as goal

pub returns : goal.returns
returns c = λ circuit first front back text more one two. text_joined one two
