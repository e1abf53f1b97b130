use Rattle.request_words.proofs.WordLemmas.{rule_more}
use Rattle.request_words.proofs.commands.with_search_options.Goals as goal

pub returns : goal.returns
returns c = rule_more _ _ c.with_option-2.result c.in_ok-command.ensures c.with_option-2.ensures
