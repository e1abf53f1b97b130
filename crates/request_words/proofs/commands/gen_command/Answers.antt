use Rattle.std.specs.Prelude.{codes}
use Rattle.clap.specs.Words.{App, with_rule}
use Rattle.result_records.specs.declared.limits.TheConstants.{BLOCKS_LIMIT, CUBES_LIMIT, CONFLICTS_LIMIT}
use Rattle.request_words.specs.Arguments.{option_rule}
use Rattle.request_words.specs.Request.{gen_app}
use Rattle.request_words.proofs.WordLemmas.{more_rules}
use Rattle.request_words.proofs.commands.gen_command.Goals as goal

-- the options that it adds
abbrev with_options : App → App
with_options app = with_rule (with_rule (with_rule app (option_rule (codes "blocks") (codes "4") 0 BLOCKS_LIMIT)) (option_rule (codes "cubes") (codes "64") 0 CUBES_LIMIT)) (option_rule (codes "conflicts") (codes "2000") 0 CONFLICTS_LIMIT)

pub returns : goal.returns
unfolding gen_app
returns c = more_rules _ with_options c.with_options.result c.in_ok-two_names.ensures c.with_options.ensures
