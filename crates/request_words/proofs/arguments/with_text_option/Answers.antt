use Rattle.std.proofs.Common.{refl}
use Rattle.request_words.proofs.WordLemmas.{added_last}
use Rattle.request_words.proofs.arguments.with_text_option.Goals as goal

pub returns : goal.returns
returns c = added_last _ _ c.arg.result c.arg.ensures refl c.text_arg.ensures.rule c.text_arg.ensures.local
