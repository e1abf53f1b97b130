use Rattle.std.proofs.Common.{◌≡◌, ◌∙◌, ◌<◌, Bool, List, [], length, get_or, sym, ap, subst, All}
use Rattle.net_model.specs.declared.fault.Fault.TheVariants.{Free}
use Rattle.net_model.specs.Answer.{IsAnswer}
use Rattle.word_sim.specs.GoodSim.{vectors_of}
use Rattle.answer_numbers.specs.AnswerNumbers.{lead_fault}
use Rattle.answer_numbers.specs.NodeNumbers.{stand_of}
use Rattle.answer_numbers.specs.Trees.{way_of, turned}
use Rattle.answer_numbers.proofs.FieldLemmas.{moved, held, lane_known, place_listed}
use Rattle.answer_numbers.proofs.OwnLemmas.{way_within, read_back}
use Rattle.answer_numbers.proofs.numbers.AnswerNumbers.answer_over.Goals as goal

pub turn_bits-requires-clause-within : goal.turn_bits-requires-clause-within
turn_bits-requires-clause-within c =
    let a = c.self.inside in
    let s = c.args.self.now in
    let n = c.in-Some.numbered in
    let lane = c.args.lane in
    let place = c.args.place in
    let numbers = c.self.invariant.numbers n c.in-Some.is in
    let hl = lane_known a n c.in-Some.is s c.self.view_is lane c.requires.lane in
    let hp = place_listed a n c.in-Some.is s c.self.view_is place c.requires.place in
    let free = c.args.free.now in
    let free_is = held a n c.in-Some.is s c.self.view_is (λ k ls vs. IsAnswer k Free (get_or vs lane []) free) c.requires.free in
    subst (λ (bits : List Bool). All (λ position. position < length bits) (way_of n.trees.lanes n.trees.nodes.items c.stand-node.result).positions) (sym c.in_ok-answer.ensures)
    (subst (λ k. All (λ position. position < length free) (way_of n.trees.lanes n.trees.nodes.items k).positions) (sym c.stand-node.ensures)
    (way_within a.good.circuit c.self.invariant.circuit a.leads.now (vectors_of a.good) n place lane (numbers.way lane place hl hp) free free_is))

pub returns : goal.returns
returns c =
    let a = c.self.inside in
    let s = c.args.self.now in
    let n = c.in-Some.numbered in
    let lane = c.args.lane in
    let place = c.args.place in
    let numbers = c.self.invariant.numbers n c.in-Some.is in
    let hl = lane_known a n c.in-Some.is s c.self.view_is lane c.requires.lane in
    let hp = place_listed a n c.in-Some.is s c.self.view_is place c.requires.place in
    let free = c.args.free.now in
    let free_is = held a n c.in-Some.is s c.self.view_is (λ k ls vs. IsAnswer k Free (get_or vs lane []) free) c.requires.free in
    let bits : c.turn_bits.new.bits ≡ turned (way_of n.trees.lanes n.trees.nodes.items (stand_of n.trees place lane)).positions free =
    c.turn_bits.ensures
    ∙ (ap (λ (bits : List Bool). turned (way_of n.trees.lanes n.trees.nodes.items c.stand-node.result).positions bits) c.in_ok-answer.ensures)
    ∙ ap (λ k. turned (way_of n.trees.lanes n.trees.nodes.items k).positions free) c.stand-node.ensures in
    moved a n c.in-Some.is s c.self.view_is (λ k ls vs. IsAnswer k (lead_fault k ls place) (get_or vs lane []) c.turn_bits.new.bits)
    (subst (IsAnswer a.good.circuit (lead_fault a.good.circuit a.leads.now place) (get_or (vectors_of a.good) lane [])) (sym bits)
    (read_back a.good.circuit c.self.invariant.circuit a.leads.now (vectors_of a.good) n place lane (numbers.way lane place hl hp) free free_is))
