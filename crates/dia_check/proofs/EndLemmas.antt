-- The end of a file.
use Rattle.std.proofs.Common.{◌≡◌, ◌≢◌, ◌∙◌, ◌≤◌, false, [], ◌++◌, length, length-append, Err, refl, ap, arith}
use Rattle.std.specs.Prelude.{Contains}
use Rattle.net_model.specs.Circuit.{Circuit}
use Rattle.kept_vectors.proofs.KeepLemmas.{table_patterns}
use Rattle.result_file.specs.declared.fault.ResultKind.TheVariants as why
use Rattle.text_fields.specs.Fields.{Text}
use Rattle.result_records.specs.declared.limits.TheConstants.{RESULT_LIMIT}
use Rattle.result_records.specs.Spelling.{text_of}
use Rattle.result_file.specs.Refusal.{line_length, FileRefused}
use Rattle.result_file.specs.Refusal.RestRefused.{no_line, no_record}
use Rattle.result_file.specs.Refusal.FileRefused.{at_line}
use Rattle.result_file.proofs.FirstLine.{unended, unended_length}
use Rattle.result_file.specs.declared.checked.Checked.{Checked}
use Rattle.dia_check.specs.declared.checker.Checker.{Checker}
use Rattle.dia_check.specs.declared.stop.Stop.{Stop}
use Rattle.dia_check.specs.declared.stop.Stop.TheVariants as stop
use Rattle.dia_check.specs.Checker.{IsCheckOf, IsJudgedWhole, IsJudged, IsWholly, JudgesWaiting, JudgesEnd}
use Rattle.result_file.specs.Accepted.{IsAcceptedText}
use Rattle.dia_check.proofs.CheckLemmas.{fault_behind, text_seen, table_seen}

ends_by : (c : Circuit) (mid new : Checker) (text rest : Text) (s : Stop) → IsJudged c text mid (Err s) → IsWholly c text rest new (Err s)
ends_by c mid new text rest (stop.Refused fault) is = is.refused rest
ends_by c mid new text rest stop.NoMemory is = tt

pub ends_stopped : {c : Circuit} {old mid new : Checker} {rest : Text} (s : Stop) → JudgesWaiting c old mid (Err s) → JudgesEnd c old new rest (Err s)
ends_stopped {c} {old} {mid} {new} {rest} s first = record { judged = λ text is short. ends_by c mid new text rest s (first.judged text is) }

module _ {c : Circuit} {text : Text} {k : Checker} (is : IsCheckOf c text k) (none : k.waiting.items ≡ []) (rest : Text) where
  -- Bytes without LF come after the last line.
  pub end_syntax : ¬ Contains rest 10 → length (text ++ rest) ≤ RESULT_LIMIT → rest ≢ [] → FileRefused c (text ++ rest) (fault_behind why.Syntax k.progress.lines)
  end_syntax one short some =
      let long : line_length rest ≡ length rest = unended_length rest one in
      at_line is.seen rest why.Syntax (record { text = ap (λ (t : Text). t ++ rest) (text_seen is none); right = is.is.lines })
      (omega (arith, short, long, length-append text rest, ap length (text_seen is none))) (no_record (record { some = some; none = unended rest one }) refl)
      (λ i. fault_behind why.Syntax (is.is.progress.lines i))

  -- The end line hasn't come.
  pub end_order : rest ≡ [] → k.progress.ended ≡ false → FileRefused c (text ++ rest) (fault_behind why.Order k.progress.lines)
  end_order nothing going =
      let zero : line_length [] ≡ 0 = omega arith in
      at_line is.seen [] why.Order (record { text = ap (λ (t : Text). t ++ rest) (text_seen is none) ∙ ap (λ (t : Text). text_of is.seen ++ t) nothing; right = is.is.lines })
      (omega (arith, zero, is.short, ap length (text_seen is none))) (no_line (record { nothing = refl; unended = is.is.progress.unended going }) refl)
      (λ i. fault_behind why.Order (is.is.progress.lines i))

-- What the lines state once the end has come.
pub states_all : {c : Circuit} {text : Text} {k : Checker} → IsJudgedWhole c text k → (checked : Checked)
    → checked.summary ≡ record { numbers = k.progress.members; patterns = k.keeper.kept.table.patterns; classes = k.progress.classes; equal = k.progress.marked.equal; spent = k.progress.marked.spent }
    → checked.budgets ≡ k.progress.budgets → checked.patterns ≡ k.keeper.kept.vectors → checked.classes ≡ k.keeper.kept.table → IsAcceptedText c text checked
states_all {c} {text} {k} whole checked summary_is budgets_is patterns_is classes_is =
    let is = whole.is in
    let p = is.is.progress in
    let end = p.ended whole.ended in
    let counts = table_patterns (table_seen is) in
    record {
      records = is.seen;
      accepted = record {
        valid = record { lines = is.is.lines; before = end.before; ended = end.ended };
        short = omega (arith, is.short, ap length (text_seen is whole.none));
        summary = summary_is ∙ (λ i. record { numbers = p.members i; patterns = counts i; classes = p.classes i; equal = p.equal i; spent = p.spent i });
        budgets = budgets_is ∙ p.budgets;
        patterns = patterns_is ∙ is.is.patterns;
        table = rw classes_is (table_seen is);
      };
      text_is = text_seen is whole.none;
    }
