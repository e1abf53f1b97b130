use Rattle.std.proofs.Common.{◌≡◌, ℕ, get_or, ap, sym, arith}
use Rattle.std.proofs.lemmas.List.{take_all}
use Rattle.std.proofs.lemmas.List.Sums.{sum_by_more}
use Rattle.std.proofs.lemmas.Option.{get_or_from_slice_get}
use Rattle.suspect_scores.specs.declared.choices.Choice.{Choice}
use Rattle.listing_commands.proofs.cover.explained.Goals as goal

pub loop-at-preserved : goal.loop-at-preserved
loop-at-preserved c =
    let choices = c.args.choices.now in
    let one : Choice = c.get.result in
    let count : Choice → ℕ = λ choice. choice.explained in
    let here : get_or choices c.loop-at.at one ≡ one = get_or_from_slice_get choices c.loop-at.at one one c.get.ensures in
    let own : count (get_or choices c.loop-at.at one) ≡ count one = ap count here in
    (omega (arith, c.loop-at.invariant.0, sum_by_more count choices c.loop-at.at one (omega arith), own, c.from-sum.ensures), omega (arith, c.loop-at.invariant.1, c.from-sum.ensures, c.from-sum.type_inv))

pub returns : goal.returns
returns c = rw (sym (take_all c.loop-at.at c.args.choices.now (omega arith))) c.loop-at.invariant.0
