use Rattle.request_words.specs.Request.{dict_app}
use Rattle.request_words.proofs.WordLemmas.{named_more}
use Rattle.request_words.proofs.commands.dict_command.Goals as goal

pub returns : goal.returns
unfolding dict_app
returns c = named_more _ _ _ c.with_names.result c.in_ok-two_names.ensures c.with_names.ensures
