use Rattle.request_words.specs.Request.{faults_app}
use Rattle.request_words.proofs.WordLemmas.{added_last}
use Rattle.request_words.proofs.commands.faults_command.Goals as goal

pub returns : goal.returns
unfolding faults_app
returns c = added_last _ _ c.arg.result c.arg.ensures c.bare_command.ensures.app c.name_arg.ensures.rule c.name_arg.ensures.local
