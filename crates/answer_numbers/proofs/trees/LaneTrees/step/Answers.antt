use Rattle.std.proofs.Common.{◌≡◌, get_or, refl}
use Rattle.std.proofs.lemmas.List.{get_or_read}
use Rattle.answer_numbers.proofs.ChildLemmas.{stepped}
use Rattle.answer_numbers.proofs.trees.LaneTrees.step.Goals as goal

pub returns : goal.returns
returns c =
    let old = c.args.self.now in
    let stands = old.stands.items in
    let read : c.index-node.result.now ≡ get_or stands c.args.cell 0 = get_or_read stands c.args.cell c.index-node.result.now c.requires.cell c.index-node.ensures 0 in
    stepped old c.child.new.self _ c.index-node.result.now c.args.position c.args.cell c.in_ok-below.below c.requires.trees c.requires.cell read c.in_ok-below.ensures refl refl refl
