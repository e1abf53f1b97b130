use Rattle.std.proofs.Common.{◌<◌, length, rules}
use Rattle.adaptive_tree.proofs.PlaceLemmas.{place_low}
use Rattle.adaptive_tree.proofs.places.outcome_at.Goals as goal

pub offset_bounds-steps-at : goal.offset_bounds-steps-at
offset_bounds-steps-at c = let low : c.in-Some.at < length c.args.steps.now = place_low c.args.steps.now c.args.place c.in-Some.at c.requires c.in-Some.is in search rules

pub bounds-steps-at : goal.bounds-steps-at
bounds-steps-at c = place_low c.args.steps.now c.args.place c.in-Some.at c.requires c.in-Some.is
