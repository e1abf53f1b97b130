-- The record of a run's plan gives all that is promised of the run.
use Rattle.std.proofs.Common.{Option}
use Rattle.diag_shelf.specs.World.{State}
use Rattle.result_file.specs.Laws.{ValidIsTrue}
use Rattle.dia_gen.specs.Laws.{ListIsGraded}
use Rattle.compact_tests.specs.Laws.{ThinIsSound}
use Rattle.adaptive_tree.specs.Laws.{WrittenIsRead}
use Rattle.request_words.specs.Request.{Request}
use Rattle.run_steps.specs.Ending.{Ending}
use Rattle.dia_runs.specs.Requests.{Ran}
use Rattle.dia_runs.specs.Promises.{FilesAreJudgedOnce}
use Rattle.dia_runs.specs.Run.{IsRunOf}
use Rattle.dia_runs.proofs.Judged.{EvidenceLaws}
use Rattle.dia_runs.proofs.Clauses.{words_of, not_understood_of, keeps_unless_done, made_of, checked_of, synth_made, faults_of, decided_by_files, keeps_refused, is_complete}
use Rattle.dia_runs.proofs.TopUpClauses.{topped_up_of}
use Rattle.dia_runs.proofs.SimulationClauses.{simulated_of}
use Rattle.dia_runs.proofs.CompactionClauses.{compacted_of}
use Rattle.dia_runs.proofs.RankingClauses.{RankingLaws, ranked_of}
use Rattle.dia_runs.proofs.AdaptiveClauses.{adapted_of, followed_of}
use Rattle.dia_runs.proofs.BridgeClauses.{BridgeLaws}
use Rattle.dia_runs.proofs.SuspectClauses.{expected_of, suspected_of, covered_of, bridged_of}
use Rattle.dia_runs.proofs.AppliedClauses.{expected_at_of, suspected_at_of, covered_at_of, bridged_at_of}
use Rattle.dia_runs.proofs.DictionaryClauses.{dictionary_made, converted_of, diagnosed_of}

pub run_of : EvidenceLaws → ListIsGraded → ValidIsTrue → ThinIsSound → RankingLaws → BridgeLaws → WrittenIsRead → FilesAreJudgedOnce → (asked : Option Request) {ending : Ending} {a b : State} → Ran asked ending a b → IsRunOf asked ending a b
run_of laws graded valid sound ranking bridging written once asked {ending} {a} {b} r = record {
  made = λ told. made_of (r.done told) laws;
  checked = λ told. checked_of (r.done told) valid;
  topped_up = λ told. topped_up_of (r.done told) laws graded;
  synth = λ told. synth_made (r.done told) laws;
  dictionary = λ told. dictionary_made (r.done told) valid;
  converted = λ told. converted_of (r.done told);
  diagnosed = λ told. diagnosed_of (r.done told);
  ranked = λ told. ranked_of (r.done told) ranking;
  faults = λ told. faults_of (r.done told);
  simulated = λ told. simulated_of (r.done told);
  compacted = λ told. compacted_of (r.done told) valid sound;
  adapted = λ told. adapted_of (r.done told) valid written;
  followed = λ told. followed_of (r.done told);
  expected = λ told. expected_of (r.done told) valid;
  suspected = λ told. suspected_of (r.done told) valid;
  covered = λ told. covered_of (r.done told) valid;
  bridged = λ told. bridged_of (r.done told) valid bridging;
  expected_at = λ told. expected_at_of (r.done told) valid;
  suspected_at = λ told. suspected_at_of (r.done told) valid;
  covered_at = λ told. covered_at_of (r.done told) valid;
  bridged_at = λ told. bridged_at_of (r.done told) valid bridging;
  ends = r.ends;
  words = words_of asked r.ends;
  not_asked = not_understood_of asked r.ends;
  causes = r.causes;
  stays = r.stays;
  done = r.done;
  read = r.rest;
  unread = r.unread;
  broken_off = r.broken_off;
  others = r.others;
  kept = λ told. keeps_unless_done once asked r told;
  files = λ told. decided_by_files once (r.done told);
  refused = λ told. keeps_refused once asked r told;
  complete = is_complete once r;
  sure = r.sure;
}
