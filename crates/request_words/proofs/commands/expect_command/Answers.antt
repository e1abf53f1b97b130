use Rattle.request_words.specs.Request.{expect_app}
use Rattle.request_words.proofs.WordLemmas.{rule_more}
use Rattle.request_words.proofs.commands.expect_command.Goals as goal

pub returns : goal.returns
unfolding expect_app
returns c = rule_more _ _ c.with_applied.result c.in_ok-log_command.ensures c.with_applied.ensures
