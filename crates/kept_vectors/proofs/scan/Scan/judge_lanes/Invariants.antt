use Rattle.std.proofs.Common.{◌≡◌, length, []}
use Rattle.kept_vectors.specs.Scan.{kept_now, IsScan, HasJudged}
use Rattle.kept_vectors.specs.Notes.{noted_by, AreTold}
use Rattle.kept_vectors.specs.Waits.{AreWaiting}
use Rattle.kept_vectors.proofs.scan.Scan.judge_lanes.Given as goal

abbrev pub invariant-loop-lane : goal.invariant-loop-lane
invariant-loop-lane l = record {
  scan : IsScan l.self;
  same : l.self ≡ record l.fn.self { waiting = l.self.waiting; leaving = l.self.leaving };
  told : AreTold l.fn.self.good l.fn.self.block.vectors (noted_by l.fn.self.differences) l.kept.classes;
  waits : AreWaiting l.fn.self.good l.fn.self.differences.units.roots.now l.kept.classes l.lane (length l.fn.self.block.vectors) l.self.waiting.lanes.items [];
  judged : HasJudged l.fn.self.good.circuit l.fn.self.block.vectors l.run l.lane (kept_now l.fn.kept) (kept_now l.kept);
}
