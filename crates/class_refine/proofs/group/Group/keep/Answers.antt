use Rattle.std.proofs.Common.{◌∙◌, ap, rules, filter}
use Rattle.std.proofs.lemmas.Fn.{filter_same}
use Rattle.class_refine.specs.Steps.{is_in}
use Rattle.class_refine.proofs.group.Group.keep.Goals as goal

pub returns : goal.returns
returns c =
    let test = is_in c.args.class_of.now c.args.class in
    filter_same _ test _ (λ x b q h. search rules) _ _ c.retain.ensures.filtered ∙ ap (filter test) c.self.view_is
