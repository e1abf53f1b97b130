-- Logs for a result that was checked.
use Rattle.std.proofs.Common.{◌≡◌, ◌∙◌, ℕ, List, length, refl, ap, subst}
use Rattle.net_model.specs.Circuit.{Circuit}
use Rattle.result_records.specs.declared.record.Record.{Record}
use Rattle.result_records.specs.Spelling.{text_of}
use Rattle.result_records.specs.Marks.{patterns_in}
use Rattle.result_file.specs.declared.checked.Checked.{Checked}
use Rattle.result_file.specs.Accepted.{IsAccepted}
use Rattle.ranked_diag.specs.PartialLog.{Line, IsPartialLog}
use Rattle.text_fields.specs.Fields.{Text}
use Rattle.run_steps.specs.Logs.{IsRefusedPartialOf}
use Rattle.run_steps.specs.ResultLogs.{AreValidBytes, IsLogAt, IsRefusedAt}

module _ {c : Circuit} {records : List Record} {checked : Checked} (is : IsAccepted c records checked) where
  abbrev pub valid_bytes : AreValidBytes c (text_of records)
  valid_bytes = record { records = records; spelled = refl; valid = is.valid }

  module _ {patterns positions : ℕ} (many : patterns ≡ length checked.patterns) (wide : positions ≡ length c.positions) where
    all_patterns : patterns ≡ length (patterns_in records)
    all_patterns = many ∙ ap length is.patterns

    pub log_at : {bytes : Text} {lines : List Line} → IsPartialLog patterns positions bytes lines → IsLogAt c (text_of records) bytes lines
    log_at {bytes} {lines} log = record {
      of = valid_bytes;
      log = subst (λ (n : ℕ). IsPartialLog n (length c.positions) bytes lines) all_patterns (subst (λ (n : ℕ). IsPartialLog patterns n bytes lines) wide log);
    }

    pub refused_at : {bytes console : Text} → IsRefusedPartialOf patterns positions bytes console → IsRefusedAt c (text_of records) bytes console
    refused_at {bytes} {console} refused = record {
      of = valid_bytes;
      refused = subst (λ (n : ℕ). IsRefusedPartialOf n (length c.positions) bytes console) all_patterns (subst (λ (n : ℕ). IsRefusedPartialOf patterns n bytes console) wide refused);
    }
