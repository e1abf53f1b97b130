use Rattle.result_records.proofs.FieldLemmas.{no_line_feed}
use Rattle.result_records.proofs.OnceLemmas.{spelling_once}
use Rattle.result_records.proofs.laws.record_is_spelled_once.Goals as goal

pub returns-clause-once : goal.returns-clause-once
returns-clause-once c = spelling_once

pub returns-clause-line : goal.returns-clause-line
returns-clause-line c = no_line_feed
