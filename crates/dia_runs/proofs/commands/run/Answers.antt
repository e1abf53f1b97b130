use Rattle.std.proofs.Common.{refl}
use Rattle.dia_runs.proofs.Judged.{EvidenceLaws}
use Rattle.result_commands.proofs.NumberLemmas.{never_with_text}
use Rattle.dia_runs.proofs.RunLemmas.{run_of}
use Rattle.dia_runs.proofs.RankingClauses.{RankingLaws}
use Rattle.dia_runs.proofs.BridgeClauses.{BridgeLaws}
use Rattle.dia_runs.proofs.DictionaryClauses.{diagnoses_alike}
use Rattle.dia_runs.proofs.commands.run.Goals as goal

pub returns-clause-run : goal.returns-clause-run
returns-clause-run g c =
    let laws : EvidenceLaws = record { roots = c.same_root_equal.ensures; covering = c.covering_is_equal.ensures; leaves = c.leaves_are_closed.ensures; bounded = c.full_tree_is_covered.ensures } in
    let ranking : RankingLaws = record { partial = c.whole_log_ranks_as_listed.ensures.partial; reading = c.partial_log_is_read_once.ensures.reading; ranked = c.whole_log_ranks_as_listed.ensures.ranked } in
    let bridging : BridgeLaws = record { nothing = c.expected_log_lists_nothing.ensures.nothing; winners = c.explains_as_one_number.ensures.dominates; spelling = c.record_is_spelled_once.ensures.once; line = c.record_is_spelled_once.ensures.line } in
    (c.dispatch.result, c.status_of.ensures, run_of laws c.list_is_graded.ensures c.valid_is_true.ensures.records c.thin_is_sound.ensures.sound ranking bridging c.written_plan_is_read.ensures.read c.files_are_judged_once.ensures _ c.dispatch.ensures)

pub returns-clause-accepted : goal.returns-clause-accepted
returns-clause-accepted g c = λ n small.
    let is = c.each_number_is_accepted.ensures n small in
    record { netlist = is.netlist; written = is.written; design = record { netlist = is.netlist; accepted = is.accepted; cut = refl; circuit = is.circuit } }

pub returns-clause-numbers : goal.returns-clause-numbers
returns-clause-numbers g c = λ n console small refused. never_with_text (c.no_number_is_refused.ensures n small) refused

pub returns-clause-alike : goal.returns-clause-alike
returns-clause-alike g c = diagnoses_alike c.dictionary_is_read_once.ensures.wrong c.dictionary_is_read_once.ensures.dictionary
