-- What the fields of a `GoodSim` show, and what is true of them.
use Rattle.std.specs.Prelude.{◌≡◌, ℕ, ◌<◌, ◌≤◌, Bool, List, length, take, option_map, unwrap_or}
use Rattle.net_model.specs.declared.fault.Fault.TheVariants.{Free}
use Rattle.net_model.specs.Circuit.{Circuit, IsCircuit, line_count}
use Rattle.net_model.specs.Answer.{Agrees}
use Rattle.word_sim.specs.declared.lanes.TheConstants.{LANES}
use Rattle.word_sim.specs.declared.good_sim.GoodSim.TheInside.{Inside}
use Rattle.word_sim.specs.BlockFields.{column, columns}
use Rattle.word_sim.specs.GoodSim.{GoodSim, good_sim_with}

-- the rows of the sources, which come first
abbrev pub source_rows : Circuit → List (List Bool) → List (List Bool)
source_rows circuit rows = take circuit.sources rows

abbrev pub good_sim_of : Inside → GoodSim
good_sim_of a = good_sim_with a.circuit.now (option_map (columns (source_rows a.circuit.now a.rows.items)) a.live)

pub record AreGoodSimFields (a : Inside) : Type 0 where
  pub circuit : IsCircuit a.circuit.now
  pub wide : length a.rows.items ≡ line_count a.circuit.now
  pub few : unwrap_or a.live 0 ≤ LANES
  pub agrees : (lane : ℕ) → lane < unwrap_or a.live 0 → Agrees a.circuit.now Free (column (source_rows a.circuit.now a.rows.items) lane) (column a.rows.items lane)
