use Rattle.bridging_faults.specs.Found.{kind_rank}
use Rattle.bridging_faults.specs.Met.{IsMetKinds}
use Rattle.bridging_faults.specs.Tried.{IsTried}
use Rattle.bridging_faults.proofs.FewBridges.{few_found, fewer_exact}
use Rattle.bridging_faults.proofs.KindSteps.{ok_then, turn_listed, turn_stepped}
use Rattle.bridging_faults.proofs.searching.meet_kind.Goals as goal

pub meet-requires-clause-few : goal.meet-requires-clause-few
meet-requires-clause-few c =
    few_found c.args.cones.now.circuit.now c.requires.ready.circuit c.args.sought.now (IsMetKinds c.args.cones.now.circuit.now c.args.sought.now.rows c.args.sought.now.chosen.items c.args.x c.args.y (kind_rank c.args.kind)) c.args.best.now c.requires.searched

pub meet-requires-clause-exact : goal.meet-requires-clause-exact
meet-requires-clause-exact c =
    fewer_exact c.args.cones.now.circuit.now c.args.sought.now (IsMetKinds c.args.cones.now.circuit.now c.args.sought.now.rows c.args.sought.now.chosen.items c.args.x c.args.y (kind_rank c.args.kind)) c.args.best.now c.requires.searched

pub meet-requires-clause-new : goal.meet-requires-clause-new
meet-requires-clause-new c =
    turn_listed c.args.cones.now.circuit.now c.args.sought.now c.args.kind c.args.x c.args.y c.requires.two c.crossing.result c.crossing.ensures c.args.best.now c.requires.searched

pub returns-clause-searched : goal.returns-clause-searched
returns-clause-searched c =
    let circuit = c.args.cones.now.circuit.now in
    let sought = c.args.sought.now in
    ok_then c.meet.result (IsTried circuit sought c.crossing.result c.args.x c.args.best.now c.meet.new.best) _ c.meet.ensures.tried
    (turn_stepped circuit sought c.args.kind c.args.x c.args.y c.requires.two c.crossing.result c.crossing.ensures c.args.best.now c.meet.new.best c.requires.searched)
