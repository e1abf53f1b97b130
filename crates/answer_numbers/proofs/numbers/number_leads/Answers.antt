use Rattle.std.proofs.Common.{◌∙◌, ◌*◌, length, refl, sym, subst, arith}
use Rattle.word_sim.specs.GoodSim.{vectors_of}
use Rattle.answer_numbers.specs.Growing.{AreLaneLists, AreWholeTrees}
use Rattle.answer_numbers.proofs.CompareLemmas.{lane_lists}
use Rattle.answer_numbers.proofs.OwnLemmas.{own_lanes, numbers_are}
use Rattle.answer_numbers.proofs.numbers.number_leads.Goals as goal

pub grown-requires-clause-lists : goal.grown-requires-clause-lists
grown-requires-clause-lists c =
    let compared = c.in_ok-compared.compared in
    let vectors = vectors_of c.args.good.now in
    subst (λ n. AreLaneLists n (length c.args.leads.now * n) compared.lists) (sym c.requires.lanes)
    (lane_lists c.args.good.now.circuit c.args.leads.now vectors (omega (arith, c.requires.lanes, c.requires.few)) compared c.in_ok-compared.ensures.compared)

pub of_places-requires-clause-cells : goal.of_places-requires-clause-cells
of_places-requires-clause-cells c =
    let trees = c.in_ok-trees.trees in
    let lists = c.in_ok-compared.compared.lists in
    let limit = length lists.firsts.items in
    own_lanes lists (length c.args.leads.now) limit trees (subst (λ n. AreWholeTrees lists n (length c.args.leads.now) limit trees) (sym c.in_ok-trees.ensures.lanes_are) c.in_ok-trees.ensures)

pub returns-clause-numbers : goal.returns-clause-numbers
returns-clause-numbers c =
    let trees = c.in_ok-trees.trees in
    let compared = c.in_ok-compared.compared in
    let are = c.in_ok-compared.ensures.compared in
    let leads = c.args.leads.now in
    let circuit = c.args.good.now.circuit in
    let whole = subst (λ n. AreWholeTrees compared.lists n (length leads) (length circuit.positions) trees) (sym c.in_ok-trees.ensures.lanes_are)
    (subst (λ n. AreWholeTrees compared.lists c.args.lanes (length leads) n trees) are.count c.in_ok-trees.ensures) in
    numbers_are circuit c.requires.circuit leads (vectors_of c.args.good.now) compared are _ whole (c.in_ok-trees.ensures.lanes_are ∙ c.requires.lanes) c.in_ok-numbers.ensures (omega (arith, c.requires.lanes, c.requires.few)) refl
