use Rattle.std.proofs.Common.{ap}
use Rattle.pair_scope.specs.PairScope.{PairScope}
use Rattle.pair_miter.specs.MiterView.{miter_with}
use Rattle.pair_miter.proofs.numbering.Numbering.new.Goals as goal

pub returns : goal.returns
returns c = ap (λ (s : PairScope). miter_with s.circuit s.f s.g) c.in_ok-scope.ensures
