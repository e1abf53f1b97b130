use Rattle.std.proofs.Common.{◌≡◌, map, subst}
use Rattle.std.specs.Str.{IsUtf8}
use Rattle.result_records.proofs.ReadLemmas.{spelling_ascii}
use Rattle.result_records.proofs.AnswerLemmas.{record_read, record_refused}
use Rattle.result_records.proofs.read.read_record.Goals as goal

pub returns-in_default-clause-refused : goal.returns-in_default-clause-refused
returns-in_default-clause-refused c = λ is r small e. c.in_default.ensures.cases.0 (subst IsUtf8 e (spelling_ascii r small))

pub returns-clause-read : goal.returns-clause-read
returns-clause-read c =
    let same : c.in-Ok.text.now ≡ c.args.line.now = c.in-Ok.ensures.cases.0 in
    record_read c.args.line.now (map (λ f. f.now) c.as_slice.result.now) (rw (c.as_slice.ensures.value, ← same) c.in_ok-fields_of.ensures) c.read_fields.result c.read_fields.ensures

pub returns-clause-refused : goal.returns-clause-refused
returns-clause-refused c =
    let same : c.in-Ok.text.now ≡ c.args.line.now = c.in-Ok.ensures.cases.0 in
    record_refused c.args.line.now (map (λ f. f.now) c.as_slice.result.now) (rw (c.as_slice.ensures.value, ← same) c.in_ok-fields_of.ensures) c.read_fields.result c.read_fields.ensures
