-- Before the first line.
use Rattle.std.proofs.Common.{◌≡◌, ◌<◌, ◌^◌, [], replicate, refl, sym, ap, arith}
use Rattle.std.specs.Prelude.{None}
use Rattle.net_model.specs.Circuit.{Circuit, IsCircuit}
use Rattle.net_model.specs.FaultList.{fault_count}
use Rattle.kept_vectors.specs.Kept.{nothing_kept}
use Rattle.kept_vectors.specs.Keeper.{Keeper, keeper_with}
use Rattle.class_refine.proofs.PatternTables.{table_numbers}
use Rattle.kept_vectors.proofs.KeepLemmas.{keeper_first}
use Rattle.member_marks.proofs.MarkLemmas.{given_none}
use Rattle.result_file.specs.Valid.{AreRightLines}
use Rattle.dia_check.specs.declared.checker.Checker.{Checker}
use Rattle.dia_check.specs.Progress.{no_progress}
use Rattle.dia_check.specs.Checker.{IsCheckOf, IsReadyFor}
use Rattle.dia_check.proofs.ProgressLemmas.{progress_none}
use Rattle.dia_check.proofs.CheckLemmas.{nothing_waits}

-- No line is judged.
pub check_none : (c : Circuit) → IsCircuit c → fault_count c < 2 ^ 27 → (k : Checker) → k.keeper ≡ keeper_with c (nothing_kept (fault_count c)) → k.marks ≡ replicate (fault_count c) None → k.from ≡ 0 → k.progress ≡ no_progress → IsReadyFor c k.evidence
    → k.waiting.items ≡ [] → IsCheckOf c [] k
check_none c circuit few k keeper_is marks_is from_is progress_is ready empty =
    let keeper = keeper_first c circuit in
    let none : AreRightLines c [] = record { spelled = λ at h. absurd (omega arith); right = λ at h. absurd (omega arith) } in
    record {
      seen = [];
      is = record {
        lines = none;
        circuit = ap (λ (k : Keeper). k.circuit) keeper_is;
        keeper = rw keeper_is keeper;
        patterns = rw keeper_is refl;
        marks = rw (keeper_is, marks_is) (given_none (fault_count c) (sym (table_numbers keeper.table)));
        begun = λ n below. absurd (omega (arith, below, from_is));
        complete = λ some. absurd (omega arith);
        progress = rw progress_is progress_none;
        evidence = ready;
        few = few;
      };
      waiting = nothing_waits c [] k.waiting.items empty;
      text_is = rw empty refl;
      short = omega arith;
    }
