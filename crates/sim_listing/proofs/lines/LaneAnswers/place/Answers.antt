use Rattle.std.proofs.Common.{◌<◌, length, sym, subst}
use Rattle.answer_numbers.specs.AnswerNumbers.{vector_in, IsLeadNumber}
use Rattle.sim_listing.proofs.LaneLemmas.{lead_place}
use Rattle.sim_listing.proofs.lines.LaneAnswers.place.Goals as goal

pub number-requires-clause-place : goal.number-requires-clause-place
number-requires-clause-place c = subst (λ p. p < length c.args.self.now.numbers.now.leads) (sym c.lead.ensures) (c.requires.lane.equal.roots.within c.args.number c.requires.number)

pub returns : goal.returns
returns c = λ row is.
    let l = c.args.self.now in
    let n = l.numbers.now in
    lead_place l c.requires.lane row is c.args.number c.number.result c.requires.number (subst (λ p. IsLeadNumber n.circuit n.leads (vector_in n l.lane) p c.number.result) c.lead.ensures c.number.ensures)
