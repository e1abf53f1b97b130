use Rattle.std.proofs.Common.{◌∙◌, sym, ap}
use Rattle.solver_trail.specs.LinkCode.{link_of, link_of-some}
use Rattle.solver_trail.proofs.link.Link.get.Goals as goal

pub returns-then-self-eq0 : goal.returns-then-self-eq0
returns-then-self-eq0 c = ap link_of (sym c.if-self-eq0.true) ∙ c.self.view_is

pub returns-else-self-eq0 : goal.returns-else-self-eq0
returns-else-self-eq0 c = link_of-some c.self.inside.code c.if-self-eq0.false ∙ c.self.view_is
