use Rattle.pair_miter.proofs.SourceBits.{AreSourceBits}
use Rattle.pair_miter.proofs.miter.Miter.vector_of.Given as goal

abbrev pub invariant-loop-line : goal.invariant-loop-line
invariant-loop-line l = AreSourceBits l.self-inside.numbering.circuit l.self-inside.numbering.f l.self-inside.numbering.g l.model l.line-items l.line-index l.v
