use Rattle.std.proofs.Common.{◌≡◌, subst, arith}
use Rattle.answer_numbers.specs.NodeNumbers.{AreNumberedTo}
use Rattle.answer_numbers.proofs.node_numbers.NodeNumbers.of_places.Goals as goal

pub returns : goal.returns
returns c =
    let all : c.loop-place.place ≡ c.args.places = omega arith in
    subst (λ n. AreNumberedTo c.args.trees.now (λ lane. n) c.loop-place.numbers) all c.loop-place.invariant
