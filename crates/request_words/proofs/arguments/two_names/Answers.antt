use Rattle.request_words.proofs.WordLemmas.{named_more}
use Rattle.request_words.proofs.arguments.two_names.Goals as goal

pub returns : goal.returns
returns c = named_more _ _ _ c.with_names.result c.bare_command.ensures.app c.with_names.ensures
