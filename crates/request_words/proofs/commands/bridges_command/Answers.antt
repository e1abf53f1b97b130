use Rattle.std.proofs.Common.{◌∙◌, ap₂, refl}
use Rattle.clap.specs.Words.{with_rule}
use Rattle.request_words.specs.Request.{bridges_app}
use Rattle.request_words.proofs.WordLemmas.{rule_more}
use Rattle.request_words.proofs.commands.bridges_command.Goals as goal

pub returns : goal.returns
unfolding bridges_app
returns c =
    rule_more _ _ c.with_applied.result (c.in_ok-command-3.ensures ∙ ap₂ with_rule (c.in_ok-command-2.ensures ∙ ap₂ with_rule c.in_ok-command.ensures refl) refl) c.with_applied.ensures
