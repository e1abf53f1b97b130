use Rattle.sim_listing.proofs.TextLemmas.{one_text}
use Rattle.sim_listing.proofs.laws.one_text_each.Goals as goal

pub returns : goal.returns
returns c = λ circuit first vectors is. one_text circuit is first vectors
