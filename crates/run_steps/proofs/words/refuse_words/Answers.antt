use Rattle.run_steps.specs.Texts.{not_understood_text}
use Rattle.run_steps.proofs.PlanEnds.{refused_words}
use Rattle.run_steps.proofs.words.refuse_words.Goals as goal

pub returns : goal.returns
unfolding not_understood_text
returns g c = refused_words c.refuse.ensures
