use Rattle.dia_gen.proofs.DraftSteps.{draft_written, draft_stopped}
use Rattle.dia_gen.proofs.draft.Draft.write_before_search.Goals as goal

pub returns-clause-draft : goal.returns-clause-draft
returns-clause-draft g c = draft_written c.requires.1.0 c.write_out.result c.write_out.ensures.gathers

pub returns-clause-err : goal.returns-clause-err
returns-clause-err g c = draft_stopped c.requires.1.0 c.write_out.result c.write_out.ensures.gathers
