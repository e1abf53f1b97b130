use Rattle.request_words.specs.Request.{topup_app}
use Rattle.request_words.proofs.WordLemmas.{named_more}
use Rattle.request_words.proofs.commands.topup_command.Goals as goal

pub returns : goal.returns
unfolding topup_app
returns c = named_more _ _ _ c.with_search_options.result c.in_ok-list_command.ensures c.with_search_options.ensures
