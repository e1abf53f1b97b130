-- The faults that a list of sites gives, and their numbers.
use Rattle.std.specs.Prelude.{ℕ, ◌<◌, ◌^◌, List, ◌∷◌, flat_map, length}
use Rattle.net_model.specs.declared.fault.Site.{Site}
use Rattle.net_model.specs.declared.fault.Fault.{Fault}
use Rattle.net_model.specs.declared.fault.Fault.TheVariants.{Free}
use Rattle.net_model.specs.FaultList.{both_stuck}
use Rattle.fault_list.specs.Slots.{ArePlaces}

-- the fault-free circuit, and each site stuck at 0 and at 1
abbrev pub faults_at : List Site → List Fault
faults_at sites = Free ∷ flat_map both_stuck sites

-- There are fewer than 2^26 sites, and the table has the place of each.
pub record HasSiteNumbers (starts places : List ℕ) (sites : List Site) : Type 0 where
  pub few : length sites < 2 ^ 26
  pub places_are : ArePlaces starts places sites
