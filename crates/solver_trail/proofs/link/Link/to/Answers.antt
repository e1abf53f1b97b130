use Rattle.solver_trail.specs.LinkCode.{link_of-next}
use Rattle.solver_trail.proofs.link.Link.to.Goals as goal

pub returns : goal.returns
returns c = link_of-next c.args.watch
