use Rattle.std.proofs.Common.{ap, ◌∙◌}
use Rattle.tests_runs.proofs.tests.kept.begun.Goals as goal

pub returns-clause-stream : goal.returns-clause-stream
returns-clause-stream c = ap (λ s. s.sources) (c.fill.ensures.stream c.sources.result 0 c.new-stream.ensures) ∙ c.sources.ensures.value
