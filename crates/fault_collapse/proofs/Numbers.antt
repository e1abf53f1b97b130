-- Listed faults are faults of the circuit, and the stuck stems are listed.
use Rattle.std.proofs.Common.{◌≡◌, ℕ, ◌<◌, Bool, true, false, [], ◌∷◌, arith}
use Rattle.std.specs.Prelude.{Contains, Some, slice_get, flat_map}
use Rattle.std.proofs.lemmas.List.Elements.{All-contains}
use Rattle.net_model.specs.declared.fault.Site.{Site}
use Rattle.net_model.specs.declared.fault.Site.TheVariants.{Stem}
use Rattle.net_model.specs.declared.fault.Fault.{Fault}
use Rattle.net_model.specs.declared.fault.Fault.TheVariants.{Free, Stuck}
use Rattle.net_model.specs.Circuit.{Circuit, line_count, all_lines}
use Rattle.net_model.specs.Fault.{IsFaultOf}
use Rattle.net_model.specs.FaultList.{branches, sites_of_line, both_stuck, faults}
use Rattle.net_model.proofs.Copies.{later}
use Rattle.net_model.proofs.Listed.{listed}
use Rattle.net_model.proofs.Orders.{Contains-range}
use Rattle.net_model.proofs.Elements.{Contains-flat_map}
use Rattle.fault_collapse.proofs.Members.{Contains-head, Contains-slice_get, slice_get-Contains}

module _ (c : Circuit) where
  -- a listed fault is one of the circuit's
  pub number_stands : (number : ℕ) (fault : Fault) → slice_get (faults c) number ≡ Some fault → IsFaultOf c fault
  number_stands number fault there = All-contains (IsFaultOf c) (faults c) fault (listed c) (Contains-slice_get (faults c) number fault there)

  both_listed : (site : Site) (bit : Bool) → Contains (both_stuck site) (Stuck site bit)
  both_listed site false = Contains-head (Stuck site false) (Stuck site true ∷ [])
  both_listed site true = later (Stuck site false) (Stuck site true ∷ []) (Stuck site true) (Contains-head (Stuck site true) [])

  site_listed : (line : ℕ) (site : Site) (bit : Bool) → line < line_count c → Contains (sites_of_line c line) site → (number : ℕ) × (slice_get (faults c) number ≡ Some (Stuck site bit))
  unfolding faults
  site_listed line site bit inside has =
      slice_get-Contains (faults c) (Stuck site bit)
      (later Free (flat_map both_stuck (flat_map (sites_of_line c) (all_lines c))) (Stuck site bit)
      (Contains-flat_map both_stuck (flat_map (sites_of_line c) (all_lines c)) site (Stuck site bit)
      (Contains-flat_map (sites_of_line c) (all_lines c) line site (Contains-range 0 (line_count c) line (omega arith) (omega arith)) has)
      (both_listed site bit)))

  -- each stem has a number
  pub stem_listed : (line : ℕ) (bit : Bool) → line < line_count c → (number : ℕ) × (slice_get (faults c) number ≡ Some (Stuck (Stem line) bit))
  stem_listed line bit inside = site_listed line (Stem line) bit inside (Contains-head (Stem line) (branches c line))
