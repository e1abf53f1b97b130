use Rattle.std.proofs.Common.{◌∙◌, arith}
use Rattle.std.proofs.lemmas.List.{get_or_default}
use Rattle.samediff_dict.proofs.copying.class_with.Goals as goal

pub unreachable-requires : goal.unreachable-requires
unreachable-requires c = let some = c.requires in c.loop-class.invariant some.0 (omega (arith, some.1, c.loop-class-test.false)) (get_or_default c.args.numbers.now some.0 0 c.args.number some.1 ∙ some.2)
