use Rattle.std.proofs.Common.{◌≡◌, All, None, length}
use Rattle.sim_listing.proofs.texts.no_texts.Given as goal

abbrev pub invariant-loop-at : goal.invariant-loop-at
invariant-loop-at l = record {
  count : length l.texts.items ≡ l._at;
  none : All (λ text. text ≡ None) l.texts.items;
}
