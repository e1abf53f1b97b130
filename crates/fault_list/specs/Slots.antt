-- A table that finds the place of a site in a list of sites: row 0 has the observed positions, and the row after a
-- line's number has the line's stem and the pins of its gate.
use Rattle.std.specs.Prelude.{◌≡◌, ℕ, zero, suc, ◌+◌, List, length, Option, None, Some, option_and_then, nat_lt, slice_get, slice_index, if◌then◌else◌}
use Rattle.std.specs.Bool.{then_some}
use Rattle.net_model.specs.declared.fault.Site.{Site}
use Rattle.net_model.specs.declared.fault.Site.TheVariants.{Stem, Pin, Position}
use Rattle.net_model.specs.Circuit.{Circuit, pins_of}

-- the row of a site, and its distance from the row's start
abbrev pub site_row : Site → ℕ × ℕ
site_row (Stem line) = (line + 1, 0)
site_row (Pin gate pin) = (gate + 1, pin + 1)
site_row (Position at) = (0, at)

-- where a row starts in a circuit's table
abbrev pub site_row_start : Circuit → ℕ → ℕ
site_row_start c zero = 0
site_row_start c (suc zero) = length c.positions
site_row_start c (suc (suc line)) = site_row_start c (suc line) + (1 + length (pins_of c line))

-- the slot of a site in a table with these starts of rows, if it has one
abbrev pub slot_of : List ℕ → Site → Option ℕ
slot_of starts site = if nat_lt ((site_row site).0 + 1) (length starts)
    then then_some (nat_lt (slice_index starts (site_row site).0 + (site_row site).1) (slice_index starts ((site_row site).0 + 1))) (slice_index starts (site_row site).0 + (site_row site).1)
    else None

-- The slot of each site has the site's place.
abbrev pub ArePlaces : List ℕ → List ℕ → List Site → Type 0
ArePlaces starts places sites = (place : ℕ) (site : Site) → slice_get sites place ≡ Some site → option_and_then (slice_get places) (slot_of starts site) ≡ Some place
