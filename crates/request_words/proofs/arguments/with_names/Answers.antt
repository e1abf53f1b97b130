use Rattle.std.proofs.Common.{refl}
use Rattle.request_words.proofs.WordLemmas.{added, added_last}
use Rattle.request_words.proofs.arguments.with_names.Goals as goal

pub returns : goal.returns
returns c =
    let one = added c.in_ok-arg.ensures refl c.name_arg.ensures.rule c.name_arg.ensures.local in
    added_last _ _ c.arg-2.result c.arg-2.ensures one c.name_arg-2.ensures.rule c.name_arg-2.ensures.local
