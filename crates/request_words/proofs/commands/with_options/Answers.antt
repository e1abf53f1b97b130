use Rattle.request_words.proofs.WordLemmas.{named_more}
use Rattle.request_words.proofs.commands.with_options.Goals as goal

pub returns : goal.returns
returns c = named_more _ _ _ c.with_search_options.result c.in_ok-command.ensures c.with_search_options.ensures
