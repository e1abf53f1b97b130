-- What the fields of a `Keeper` show, and what is true of them.
use Rattle.std.specs.Prelude.{◌≡◌, ℕ, [], IsTrue, if◌then◌else◌}
use Rattle.word_sim.specs.StreamState.{stream_at}
use Rattle.kept_vectors.specs.declared.keeper.Keeper.TheInside.{Inside}
use Rattle.kept_vectors.specs.Keeper.{Keeper, IsKeeper}
use Rattle.kept_vectors.specs.Scan.{kept_now, IsScan}
use Rattle.kept_vectors.specs.Standing.{IsStanding}

abbrev pub keeper_of : Inside → Keeper
keeper_of a = record { circuit = a.scan.good.circuit; kept = kept_now a.kept; looked = if a.stands then a.scan.block.vectors else [] }

pub record AreKeeperFields (a : Inside) : Type 0 where
  pub scan : IsScan a.scan
  pub keeper : IsKeeper (keeper_of a)
  pub stream : (done : ℕ) × (a.stream ≡ stream_at a.scan.good.circuit.sources done)
  pub stands : IsTrue a.stands → IsStanding a.scan a.kept.classes
