use Rattle.std.proofs.Common.{◌≡◌, ◌∙◌, ℕ, List, length, reverse, refl, ap, arith}
use Rattle.std.specs.Vec.{with_items}
use Rattle.std.proofs.lemmas.List.{with_items_is}
use Rattle.compact_tests.specs.Remaining.{Answered, remaining}
use Rattle.compact_tests.specs.Thinning.{patterns_at, remaining_from}
use Rattle.compact_tests.proofs.thinning.Thinning.into_needed.Goals as goal

from_first : (numbers : ℕ) (all : List Answered) → remaining_from numbers all 0 ≡ remaining numbers all
unfolding remaining
from_first numbers all = refl

pub returns-clause-needed : goal.returns-clause-needed
returns-clause-needed c = λ n all thinned.
    let needed = c.args.self.needed in
    let turned : (with_items needed c.reverse.new.self).items ≡ reverse needed.items =
    with_items_is needed c.reverse.new.self (omega (arith, c.reverse.ensures.len, ap length c.as_mut_slice.ensures.value, needed.ok.0)) ∙ (c.reverse.ensures.after ∙ ap reverse c.as_mut_slice.ensures.value) in
    ap (patterns_at all) turned ∙ (thinned.needed ∙ from_first n all)
