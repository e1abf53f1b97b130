use Rattle.request_words.specs.Request.{cover_app}
use Rattle.request_words.proofs.WordLemmas.{rule_more}
use Rattle.request_words.proofs.commands.cover_command.Goals as goal

pub returns : goal.returns
unfolding cover_app
returns c = rule_more _ _ c.with_applied.result c.in_ok-log_command.ensures c.with_applied.ensures
