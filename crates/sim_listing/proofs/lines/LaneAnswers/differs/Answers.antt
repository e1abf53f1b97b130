use Rattle.sim_listing.proofs.LaneLemmas.{some_place, places_tell}
use Rattle.sim_listing.proofs.lines.LaneAnswers.differs.Goals as goal

pub place-free-requires-clause-number : goal.place-free-requires-clause-number
place-free-requires-clause-number c = some_place c.args.self.now c.requires.lane

pub returns : goal.returns
returns c = λ row is. places_tell c.args.self.now c.requires.lane row is c.args.number c.place-own.result c.place-free.result (c.place-own.ensures row is) (c.place-free.ensures row is)
