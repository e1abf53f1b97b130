use Rattle.dia_gen.proofs.DraftSteps.{draft_broken}
use Rattle.dia_gen.proofs.draft.Draft.add_pattern.Goals as goal

pub keep_apart-requires : goal.keep_apart-requires
keep_apart-requires g c κs within = (within, (c.in-Ok.ensures.draft g.start (g.S.Shelf.state c.args.shelf.now) c.requires.1.0, rw (c.look_ahead.ensures.kept, c.look_ahead.ensures.marks) c.requires.1.1.0))

pub returns-in-Err-clause-err : goal.returns-in-Err-clause-err
returns-in-Err-clause-err g c = draft_broken c.requires.1.0
