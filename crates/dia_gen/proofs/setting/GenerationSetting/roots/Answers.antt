use Rattle.dia_gen.proofs.AheadLemmas.{roots_within}
use Rattle.dia_gen.proofs.setting.GenerationSetting.roots.Goals as goal

pub returns-clause-within : goal.returns-clause-within
returns-clause-within c = rw c.roots.ensures (roots_within c.self.inside.subject.now c.forest.result.now.roots c.forest.ensures.roots)
