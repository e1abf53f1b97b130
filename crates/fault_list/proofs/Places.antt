-- The places at which a number occurs in a list, counted starting at a number.
use Rattle.std.proofs.Common.{ℕ, List}
use Rattle.std.specs.Prelude.{filter_map, ◌==◌}
use Rattle.std.specs.Bool.{then_some}
use Rattle.std.specs.List.{enumerate_from}

abbrev pub places_from : ℕ → ℕ → List ℕ → List ℕ
places_from x n xs = filter_map (λ at. then_some (at.1 == x) at.0) (enumerate_from n xs)
