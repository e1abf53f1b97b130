use Rattle.sim_listing.proofs.LaneLemmas.{some_place}
use Rattle.sim_listing.proofs.lines.LaneAnswers.push_vector_line.Goals as goal

pub push_answer-requires-clause-number : goal.push_answer-requires-clause-number
push_answer-requires-clause-number c = some_place c.args.self.now c.requires.lane
