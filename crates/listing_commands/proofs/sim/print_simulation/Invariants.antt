use Rattle.std.proofs.Common.{◌≡◌}
use Rattle.listing_commands.proofs.SimLemmas.{ArePrinted}
use Rattle.listing_commands.proofs.sim.print_simulation.Given as goal

abbrev pub invariant-loop-number : goal.invariant-loop-number
invariant-loop-number g l = record {
  printed : ArePrinted l.circuit l.vectors l.number (g.S.Shelf.state l.initial.shelf) (g.S.Shelf.state l.shelf);
  circuit_is : l.texts.circuit ≡ l.circuit;
  vectors_are : l.texts.vectors ≡ l.vectors;
}
