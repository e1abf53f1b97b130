use Rattle.std.proofs.Common.{◌∙◌}
use Rattle.sim_listing.specs.LaneAnswers.{lane_answers}
use Rattle.sim_listing.proofs.LaneLemmas.{texts_none, lead_count}
use Rattle.sim_listing.proofs.lines.LaneAnswers.push_vector.Goals as goal

pub push_vector_line-requires-clause-texts : goal.push_vector_line-requires-clause-texts
push_vector_line-requires-clause-texts c = λ row is.
    texts_none (lane_answers c.args.self.now row) c.in_ok-texts.texts.items (c.in_ok-texts.ensures.count ∙ lead_count c.args.self.now c.requires row is c.count.result c.count.ensures) c.in_ok-texts.ensures.none

pub push_fault_lines-requires-clause-few : goal.push_fault_lines-requires-clause-few
push_fault_lines-requires-clause-few c = c.requires.equal.roots.few
