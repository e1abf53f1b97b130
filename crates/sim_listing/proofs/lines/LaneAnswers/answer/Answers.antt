use Rattle.std.proofs.Common.{◌<◌, length, sym, subst}
use Rattle.net_model.specs.Answer.{IsAnswer}
use Rattle.answer_numbers.specs.AnswerNumbers.{vector_in, lead_fault}
use Rattle.sim_listing.proofs.LaneLemmas.{lead_answer}
use Rattle.sim_listing.proofs.lines.LaneAnswers.answer.Goals as goal

pub answer-requires-clause-place : goal.answer-requires-clause-place
answer-requires-clause-place c = subst (λ p. p < length c.args.self.now.numbers.now.leads) (sym c.lead.ensures) (c.requires.lane.equal.roots.within c.args.number c.requires.number)

pub returns : goal.returns
returns c = λ row is.
    let l = c.args.self.now in
    let n = l.numbers.now in
    lead_answer l c.requires.lane row is c.args.number c.in_ok-own.own c.requires.number (subst (λ p. IsAnswer n.circuit (lead_fault n.circuit n.leads p) (vector_in n l.lane) c.in_ok-own.own) c.lead.ensures c.in_ok-own.ensures)
