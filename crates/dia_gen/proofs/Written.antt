-- What was written of a result that was cut short.
use Rattle.std.proofs.Common.{◌≡◌, ◌∙◌, ℕ, ◌≤◌, ◌^◌, Bool, List, [], ◌∷◌, ◌++◌, length, Option, Some, None, refl, ap, arith}
use Rattle.diag_shelf.specs.World.{World, Files, appended}
use Rattle.diag_shelf.specs.Calls.{Writes}
use Rattle.net_model.specs.Circuit.{Circuit}
use Rattle.result_records.specs.declared.record.Budgets.{Budgets}
use Rattle.result_file.specs.declared.checked.Summary.{Summary}
use Rattle.net_model.specs.FaultList.{fault_count}
use Rattle.result_records.specs.declared.record.Record.TheVariants.{End}
use Rattle.result_file.specs.Meaning.{class_records, member_records}
use Rattle.result_file.specs.Valid.{AreRightLines}
use Rattle.result_file.proofs.Truth.{AreSound, none_open}
use Rattle.dia_gen.specs.Made.{IsMadeFrom, IsCutFile}

pub nothing_right : {c : Circuit} → AreRightLines c []
nothing_right {c} = record { spelled = λ at below. absurd (omega arith); right = λ at below. absurd (omega arith) }

pub nothing_cut : {c : Circuit} → IsCutFile c []
nothing_cut {c} = record { records = []; right = nothing_right; count = 0; cut = refl }

-- With as many cubes as there are vectors, a made file leaves no member open.
pub made_closed : {c : Circuit} {vectors : List (List Bool)} {budgets : Budgets} {summary : Summary} {file : List ℕ} → AreSound c → IsMadeFrom c vectors budgets summary file → 2 ^ c.sources ≤ budgets.cubes → summary.spent ≡ 0
made_closed {c} {vectors} {budgets} sound made enough =
    let s = made.is_true.stated in
    let rest = s.body ++ class_records s.births ++ member_records s.members ++ End ∷ [] in
    ap (λ (x : Summary). x.spent) made.summary_is
    ∙ none_open c s.budgets sound c.sources (length c.positions) (fault_count c) rest made.valid.lines (rw made.is_true.budgets_are enough)

-- Writing nothing changes nothing.
none_appended : (written : Option (List ℕ)) (files : Files) → files ≡ appended written files []
none_appended None files = refl
none_appended (Some name) files = refl

pub writes_none : (w : World) → Writes [] w w
writes_none w = record { files = none_appended w.written w.files; rest = refl; written = refl; console = refl }
