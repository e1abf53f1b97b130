use Rattle.std.proofs.Common.{ap}
use Rattle.tests_simulation.proofs.tests.lanes.begun.Goals as goal

pub returns-clause-stream : goal.returns-clause-stream
returns-clause-stream c = ap (λ s. s.sources) (c.fill.ensures.stream 2 0 c.new-stream.ensures)
