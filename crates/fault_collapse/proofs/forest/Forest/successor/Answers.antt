use Rattle.net_model.specs.FaultList.{fault_numbered}
use Rattle.std.proofs.Common.{◌≡◌, ◌∙◌, ◌<◌, length, sym, ap, subst, arith}
use Rattle.std.proofs.lemmas.List.{get_or_read}
use Rattle.std.specs.Prelude.{None}
use Rattle.net_model.specs.Collapse.{successor}
use Rattle.fault_collapse.specs.Forest.{Forest, IsNumberOf, number_count, successor_of}
use Rattle.fault_collapse.proofs.Settled.{successor_right}
use Rattle.fault_collapse.proofs.forest.Forest.successor.Goals as goal

pub returns-clause-fault : goal.returns-clause-fault
returns-clause-fault c = λ circuit is.
    let within : c.args.number < length c.self.inside.successors.items = omega (arith, c.requires, ap number_count c.self.view_is, c.self.invariant.whole) in
    let value : c.index.result.now ≡ successor_of c.args.self.now c.args.number = get_or_read c.self.inside.successors.items c.args.number c.index.result.now within c.index.ensures None ∙ ap (λ (f : Forest). successor_of f c.args.number) c.self.view_is in
    subst (IsNumberOf circuit (successor circuit (fault_numbered circuit c.args.number))) (sym value) (successor_right circuit c.args.self.now is c.args.number c.requires)
