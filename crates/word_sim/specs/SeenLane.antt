-- What the pins of a gate see in one lane.
use Rattle.std.specs.Prelude.{ℕ, Bool, List, [], map, slice_index_or}
use Rattle.net_model.specs.Answer.{bit_at}

abbrev pub seen_lane : List (List Bool) → List ℕ → ℕ → List Bool
seen_lane rows pins lane = map (λ pin. bit_at (slice_index_or rows pin []) lane) pins
