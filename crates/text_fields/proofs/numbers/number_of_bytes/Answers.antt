use Rattle.std.proofs.Common.{subst}
use Rattle.std.specs.Str.{IsUtf8}
use Rattle.text_fields.proofs.NumberLemmas.{number_is_text}
use Rattle.text_fields.proofs.numbers.number_of_bytes.Goals as goal

pub returns-in_default : goal.returns-in_default
returns-in_default c = λ n small e. c.in_default.ensures.cases.0 (subst IsUtf8 e (number_is_text n small))
