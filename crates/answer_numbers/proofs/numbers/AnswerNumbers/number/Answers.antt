use Rattle.std.proofs.Common.{◌≡◌, ◌∙◌, [], get_or, sym, ap, subst}
use Rattle.word_sim.specs.GoodSim.{vectors_of}
use Rattle.answer_numbers.specs.AnswerNumbers.{IsLeadNumber}
use Rattle.answer_numbers.specs.NodeNumbers.{stand_of}
use Rattle.answer_numbers.proofs.FieldLemmas.{moved, lane_known, place_listed}
use Rattle.answer_numbers.proofs.numbers.AnswerNumbers.number.Goals as goal

pub returns : goal.returns
returns c =
    let a = c.self.inside in
    let s = c.args.self.now in
    let n = c.in-Some.numbered in
    let lane = c.args.lane in
    let place = c.args.place in
    let numbers = c.self.invariant.numbers n c.in-Some.is in
    let hl = lane_known a n c.in-Some.is s c.self.view_is lane c.requires.lane in
    let hp = place_listed a n c.in-Some.is s c.self.view_is place c.requires.place in
    let own : c.number.result ≡ get_or n.numbers.numbers.items (stand_of n.trees place lane) 0 = c.number.ensures ∙ ap (λ k. get_or n.numbers.numbers.items k 0) c.stand.ensures in
    moved a n c.in-Some.is s c.self.view_is (λ k ls vs. IsLeadNumber k ls (get_or vs lane []) place c.number.result)
    (subst (IsLeadNumber a.good.circuit a.leads.now (get_or (vectors_of a.good) lane []) place) (sym own) (numbers.number lane place hl hp))
