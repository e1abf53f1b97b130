use Rattle.request_words.specs.Request.{synth_app}
use Rattle.request_words.proofs.WordLemmas.{added, named_more}
use Rattle.request_words.proofs.commands.synth_command.Goals as goal

pub returns : goal.returns
unfolding synth_app
returns c =
    let one = added c.in_ok-command.ensures c.bare_command.ensures.app c.number_arg.ensures.rule c.number_arg.ensures.local in
    named_more _ _ _ c.with_names.result one c.with_names.ensures
