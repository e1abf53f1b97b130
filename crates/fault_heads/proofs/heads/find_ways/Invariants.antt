use Rattle.fault_heads.proofs.WayLemmas.{AreWaysSoFar, FromPlace, GatesAndSources}
use Rattle.fault_heads.proofs.heads.find_ways.Given as goal

abbrev pub invariant-loop-i : goal.invariant-loop-i
invariant-loop-i l = AreWaysSoFar l.good (FromPlace l.order l.i) l.ways

abbrev pub invariant-loop-line : goal.invariant-loop-line
invariant-loop-line l = AreWaysSoFar l.good (GatesAndSources l.good.circuit l.line) l.ways
