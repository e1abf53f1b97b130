use Rattle.evidence_rules.proofs.ChainLaws.{ends_or_stops, stopped_has_no_end, stops_once}
use Rattle.evidence_rules.proofs.laws.chain_ends_or_stops.Goals as goal

pub returns : goal.returns
returns c = record { either = ends_or_stops; not_both = stopped_has_no_end; one_rule = stops_once }
