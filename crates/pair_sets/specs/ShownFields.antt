-- What holds of the fields of a `Shown`.
use Rattle.std.specs.Prelude.{◌≡◌, not, count_by}
use Rattle.pair_sets.specs.declared.shown.Shown.TheInside.{Inside}
use Rattle.pair_sets.specs.PairSet.{only_equal, only_unequal}

-- `unlike` counts the places whose pairs aren't all equal, and `apart` those whose pairs are all unequal.
pub record AreCounted (a : Inside) : Type 0 where
  pub unlike : a.unlike ≡ count_by (λ s. not (only_equal s)) a.pairs.items
  pub apart : a.apart ≡ count_by only_unequal a.pairs.items
