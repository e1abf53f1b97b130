use Rattle.net_model.specs.FaultList.{fault_numbered}
use Rattle.std.proofs.Common.{◌≡◌, ◌∙◌, ◌<◌, length, ap, arith}
use Rattle.std.proofs.lemmas.List.{get_or_read}
use Rattle.fault_collapse.specs.Forest.{Forest, number_count, root_of}
use Rattle.fault_collapse.proofs.Settled.{root_right}
use Rattle.fault_collapse.proofs.forest.Forest.root.Goals as goal

pub returns-clause-fault : goal.returns-clause-fault
returns-clause-fault c = λ circuit is.
    let within : c.args.number < length c.self.inside.roots.items = omega (arith, c.requires, ap number_count c.self.view_is) in
    let value : c.index.result.now ≡ root_of c.args.self.now c.args.number = get_or_read c.self.inside.roots.items c.args.number c.index.result.now within c.index.ensures 0 ∙ ap (λ (f : Forest). root_of f c.args.number) c.self.view_is in
    ap (fault_numbered circuit) value ∙ root_right circuit c.args.self.now is c.args.number c.requires
