use Rattle.net_model.proofs.LoopLaws.{leads_where_reaches}
use Rattle.net_model.proofs.laws.leads_where_reaches.Goals as goal

pub returns : goal.returns
returns c = leads_where_reaches
