-- The readers of lines, and how they are added to the destinations of each line.
use Rattle.std.specs.Prelude.{◌≡◌, ℕ, ◌<◌, List, [], ◌++◌, length, map, slice_index_or}
use Rattle.net_model.specs.declared.fault.Site.{Site}
use Rattle.net_model.specs.declared.fault.Site.TheVariants.{Pin, Position}
use Rattle.net_model.specs.FaultList.{places_of}
use Rattle.fault_list.specs.declared.destinations.Readers.{Readers}
use Rattle.fault_list.specs.declared.destinations.Readers.TheVariants.{Gate, Positions}

-- the site of one of the readers
abbrev pub reader_site : Readers → ℕ → Site
reader_site (Gate gate) place = Pin gate place
reader_site Positions place = Position place

-- Each line has, after its destinations so far, the readers that read it. `lines` are the lines that the readers read.
pub record AddsReaders (site : ℕ → Site) (lines : List ℕ) (old new : List (List Site)) : Type 0 where
  pub whole : length new ≡ length old
  pub each : (line : ℕ) → line < length old → slice_index_or new line [] ≡ slice_index_or old line [] ++ map site (places_of line lines)
