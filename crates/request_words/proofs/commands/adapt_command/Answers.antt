use Rattle.request_words.specs.Request.{adapt_app}
use Rattle.request_words.proofs.WordLemmas.{added_last}
use Rattle.request_words.proofs.commands.adapt_command.Goals as goal

pub returns : goal.returns
unfolding adapt_app
returns c = added_last _ _ c.arg.result c.arg.ensures c.in_ok-two_names.ensures c.name_arg.ensures.rule c.name_arg.ensures.local
