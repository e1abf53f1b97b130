use Rattle.clap.proofs.WalkLemmas.{both}
use Rattle.request_words.proofs.WordLemmas.{kind_left, same_fault}
use Rattle.request_words.proofs.arguments.parse.Goals as goal

pub returns-in-Ok-clause-ok : goal.returns-in-Ok-clause-ok
returns-in-Ok-clause-ok c = (c.in-Ok.ensures.matches (both _ _ c.requires).0).0

pub returns-in-Ok-clause-taken : goal.returns-in-Ok-clause-taken
returns-in-Ok-clause-taken c = c.in-Ok.ensures.kinds c.requires

pub returns-in-Err-clause-refused : goal.returns-in-Err-clause-refused
returns-in-Err-clause-refused c = λ is. kind_left _ c.in-Err.error (c.in-Err.ensures.kinds c.requires) (c.words_fault.ensures (same_fault is))
