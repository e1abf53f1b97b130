-- What the pins of a gate see, in one lane and in all.
use Rattle.std.proofs.Common.{◌≡◌, ℕ, ◌+◌, ◌<◌, List, [], ◌∷◌, length, get_or, refl, sym, ◌∙◌, ap}
use Rattle.std.specs.Prelude.{Bool, false, All}
use Rattle.std.proofs.lemmas.List.{get_or-map, length-map, get_or_read}
use Rattle.net_model.specs.declared.fault.Fault.TheVariants.{Free}
use Rattle.net_model.specs.Fault.{stuck_pin}
use Rattle.net_model.specs.Answer.{bit_at, seen_bits}
use Rattle.net_model.proofs.Seen.{seen_from, seen_from-all}
use Rattle.word_sim.specs.BlockFields.{column}
use Rattle.word_sim.specs.SeenLane.{seen_lane}
use Rattle.word_sim.proofs.Columns.{column_at}

pub length-seen_lane : (rows : List (List Bool)) (pins : List ℕ) (lane : ℕ) → length (seen_lane rows pins lane) ≡ length pins
length-seen_lane rows pins lane = length-map pins (λ pin. bit_at (get_or rows pin []) lane)

-- what one pin sees
pub seen_at : (rows : List (List Bool)) (pins : List ℕ) (i lane : ℕ) (row : List Bool) → i < length pins → All (λ pin. pin < length rows) pins
    → row ≡ get_or rows (get_or pins i 0) row → get_or (seen_lane rows pins lane) i false ≡ bit_at row lane
seen_at rows pins i lane row h inside read =
    get_or-map (λ pin. bit_at (get_or rows pin []) lane) pins i 0 false h
    ∙ ap (λ r. bit_at r lane) (sym (get_or_read rows (get_or pins i 0) row (inside i 0 h) read []))

-- ---- without a fault no pin is stuck

seen_from-free : (rows : List (List Bool)) (lane line k : ℕ) (pins : List ℕ) → seen_from (stuck_pin Free line) (column rows lane) k pins ≡ seen_lane rows pins lane
seen_from-free rows lane line k [] = refl
seen_from-free rows lane line k (pin ∷ pins) = λ i. column_at rows lane pin i ∷ seen_from-free rows lane line (k + 1) pins i

pub seen_free : (rows : List (List Bool)) (lane line : ℕ) (pins : List ℕ) → seen_bits (stuck_pin Free line) (column rows lane) pins ≡ seen_lane rows pins lane
seen_free rows lane line pins = sym (seen_from-all (stuck_pin Free line) (column rows lane) pins) ∙ seen_from-free rows lane line 0 pins
