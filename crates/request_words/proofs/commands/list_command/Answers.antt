use Rattle.request_words.proofs.WordLemmas.{added_last}
use Rattle.request_words.proofs.commands.list_command.Goals as goal

pub returns : goal.returns
returns c = added_last _ _ c.arg.result c.arg.ensures c.in_ok-two_names.ensures c.name_arg.ensures.rule c.name_arg.ensures.local
