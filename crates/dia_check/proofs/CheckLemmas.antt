-- A line after those that were judged is refused, or is one more.
use Rattle.std.proofs.Common.{◌≡◌, ◌∙◌, ℕ, zero, suc, false, ◌+◌, ◌<◌, ◌≤◌, ◌^◌, Bool, List, [], ◌∷◌, ◌++◌, map, length, length-append, None, Result, Ok, Err, refl, sym, ap, subst, append_assoc, arith}
use Rattle.std.specs.Prelude.{Contains, ◌==◌}
use Rattle.std.proofs.lemmas.List.{append-nil, length-map}
use Rattle.net_model.specs.Circuit.{Circuit}
use Rattle.net_model.specs.PatternRows.{IsTableOf}
use Rattle.result_records.specs.declared.limits.TheConstants.{RESULT_LIMIT}
use Rattle.result_records.specs.declared.record.Record.{Record}
use Rattle.result_records.specs.declared.record.Record.TheVariants.{Pattern}
use Rattle.result_file.specs.declared.fault.ResultKind.{ResultKind}
use Rattle.result_file.specs.declared.fault.ResultKind.TheVariants as why
use Rattle.result_file.specs.declared.fault.ResultFault.{ResultFault}
use Rattle.text_fields.specs.Fields.{Text}
use Rattle.result_records.specs.Spelling.{spelling, text_of, HasSpelling}
use Rattle.result_records.specs.Marks.{pattern_of, evidence_of, patterns_in, evidence_in, class_lines, next_member}
use Rattle.result_file.specs.Lines.{IsInPlace, IsRightContent}
use Rattle.result_file.specs.Refusal.{line_length, ContentRefused, BeginsWithRecord, RestRefused, FileRefused}
use Rattle.result_file.specs.Refusal.RestRefused.{misplaced, wrong}
use Rattle.result_file.specs.Refusal.FileRefused.{at_line}
use Rattle.result_file.proofs.FirstLine.{ended_length}
use Rattle.result_file.proofs.RightLines.{IsNextLine, right_next}
use Rattle.dia_check.specs.declared.progress.Progress.{Progress}
use Rattle.dia_check.specs.declared.checker.Checker.{Checker}
use Rattle.dia_check.specs.declared.stop.Stop.{Stop}
use Rattle.dia_check.specs.declared.stop.Stop.TheVariants as stop
use Rattle.dia_check.specs.Progress.{IsProgress}
use Rattle.dia_check.specs.Checker.{IsChecker, AreUnjudged, IsCheckOf, HasCheck, IsRefusedText, IsJudged, JudgesText, JudgesWaiting, record_line}
use Rattle.dia_check.proofs.Counting.{read_same, text_more, lines_short}

-- A fault of the line after the given number of lines.
abbrev pub fault_behind : ResultKind → ℕ → ResultFault
fault_behind kind lines = record { kind = kind; line = lines + 1 }

pub nothing_waits : (c : Circuit) (seen : List Record) (waiting : List (List Bool)) → waiting ≡ [] → AreUnjudged c seen waiting
nothing_waits c seen waiting none = rw none (record {
  widths = λ k d below. absurd (omega arith);
  few = omega arith;
  lines = λ k d below. absurd (omega arith);
  place = λ some. absurd (omega arith);
})

-- A refused text is refused with more after it.
pub refused_longer : {c : Circuit} {text : Text} {fault : ResultFault} (more : Text) → IsRefusedText c text fault → IsRefusedText c (text ++ more) fault
refused_longer {c} {text} {fault} more is = record { refused = λ rest. subst (λ (file : Text). FileRefused c file fault) (sym (append_assoc text more rest)) (is.refused (more ++ rest)) }

module _ {c : Circuit} {text : Text} {k : Checker} (is : IsCheckOf c text k) where
  pub many_lines : k.progress.lines + length k.waiting.items ≤ RESULT_LIMIT
  many_lines = omega (
    arith,
    is.short,
    is.is.progress.lines,
    ap length is.text_is,
    lines_short (is.seen ++ map Pattern k.waiting.items),
    length-append is.seen (map Pattern k.waiting.items),
    length-map k.waiting.items Pattern,
  )

  pub table_seen : IsTableOf c (patterns_in is.seen) k.keeper.kept.table
  table_seen = rw is.is.patterns at is.is.keeper.table

  module _ (none : k.waiting.items ≡ []) where
    pub text_seen : text ≡ text_of is.seen
    text_seen = is.text_is ∙ ap (λ (w : List (List Bool)). text_of (is.seen ++ map Pattern w)) none ∙ ap text_of (append-nil is.seen)

    -- The line is refused.
    pub refused_line : (line : Text) (reason : ResultKind) → ¬ Contains line 10 → length (text ++ (line ++ 10 ∷ [])) ≤ RESULT_LIMIT → ((more : Text) → RestRefused c is.seen (line ++ 10 ∷ more) reason)
        → IsRefusedText c (text ++ (line ++ 10 ∷ [])) (fault_behind reason k.progress.lines)
    refused_line line reason one short rest = record {
      refused = λ more.
          let whole : (text ++ (line ++ 10 ∷ [])) ++ more ≡ text_of is.seen ++ (line ++ 10 ∷ more) =
          append_assoc text (line ++ 10 ∷ []) more ∙ ap (λ (t : Text). text ++ t) (append_assoc line (10 ∷ []) more) ∙ ap (λ (t : Text). t ++ (line ++ 10 ∷ more)) text_seen in
          let long : line_length (line ++ 10 ∷ more) ≡ length line + 1 = ended_length line more one in
          at_line is.seen (line ++ 10 ∷ more) reason (record { text = whole; right = is.is.lines })
          (omega (arith, short, long, length-append text (line ++ 10 ∷ []), length-append line (10 ∷ []), ap length text_seen)) (rest more)
          (λ i. fault_behind reason (is.is.progress.lines i));
    }

    module _ (r : Record) (spelled : HasSpelling r) (one : ¬ Contains (spelling r) 10) (short : length (text ++ record_line r) ≤ RESULT_LIMIT) where
      begins : (more : Text) → BeginsWithRecord (spelling r ++ 10 ∷ more) r
      begins more = record { spelled = spelled; more = more; text_is = refl }

      pub misplaced_line : ¬ IsInPlace k.keeper.kept.table is.seen r → IsRefusedText c (text ++ record_line r) (fault_behind why.Order k.progress.lines)
      misplaced_line out = refused_line (spelling r) why.Order one short (λ more. misplaced r (begins more) (record { table = k.keeper.kept.table; table_is = table_seen; out = out }) refl)

      pub wrong_line : (reason : ResultKind) → IsInPlace k.keeper.kept.table is.seen r → ContentRefused c k.keeper.kept.table is.seen r reason → IsRefusedText c (text ++ record_line r) (fault_behind reason k.progress.lines)
      wrong_line reason place refused = refused_line (spelling r) reason one short (λ more. wrong r (begins more) (record { table = k.keeper.kept.table; table_is = table_seen; place = place; refused = refused }))

    -- The line is one more.
    pub taken_line : (r : Record) (new : Checker) → length (text ++ record_line r) ≤ RESULT_LIMIT → new.waiting.items ≡ [] → IsChecker c (is.seen ++ r ∷ []) new → IsCheckOf c (text ++ record_line r) new
    taken_line r new short empty next = record {
      seen = is.seen ++ r ∷ [];
      is = next;
      waiting = nothing_waits c (is.seen ++ r ∷ []) new.waiting.items empty;
      text_is =
          ap (λ (t : Text). t ++ record_line r) text_seen ∙ sym (text_more is.seen r) ∙ sym (ap text_of (append-nil (is.seen ++ r ∷ [])))
          ∙ sym (ap (λ (w : List (List Bool)). text_of (is.seen ++ r ∷ [] ++ map Pattern w)) empty);
      short = short;
    }

  pub next_line : (r : Record) → HasSpelling r → IsInPlace k.keeper.kept.table is.seen r → IsRightContent c k.keeper.kept.table is.seen r → IsNextLine c is.seen r
  next_line r spelled place content = record { spelled = spelled; right = record { t = k.keeper.kept.table; table = table_seen; place = place; content = content } }

-- One more line that is no pattern and no evidence.
pub checker_line : {c : Circuit} {seen : List Record} {k : Checker} → IsChecker c seen k → (r : Record) (q : Progress) → IsNextLine c seen r → pattern_of r ≡ None → evidence_of r ≡ None
    → (0 < class_lines (seen ++ r ∷ []) → next_member k.keeper.kept.table (evidence_in seen) ≡ None) → IsProgress (seen ++ r ∷ []) q → IsChecker c (seen ++ r ∷ []) (record k { progress = q })
checker_line {c} {seen} {k} is r q next no_pattern no_evidence complete progress = record {
  lines = right_next is.lines next;
  circuit = is.circuit;
  keeper = is.keeper;
  patterns = is.patterns ∙ sym (read_same seen r pattern_of no_pattern);
  marks = rw (read_same seen r evidence_of no_evidence) is.marks;
  begun = is.begun;
  complete = λ some. rw (read_same seen r evidence_of no_evidence) (complete some);
  progress = progress;
  evidence = is.evidence;
  few = is.few;
}

pub few_lines : {c : Circuit} {k : Checker} → HasCheck c k → k.progress.lines + 1 < 2 ^ 64
few_lines has = omega (arith, many_lines has.is)

-- What is returned if the line of a record is refused and nothing is waiting.
module _ {c : Circuit} {k new : Checker} (none : k.waiting.items ≡ []) (r : Record) (spelled : HasSpelling r) (one : ¬ Contains (spelling r) 10) where
  pub judged_misplaced : ((text : Text) (is : IsCheckOf c text k) → ¬ IsInPlace k.keeper.kept.table is.seen r) → JudgesText c k new (record_line r) (Err (stop.Refused (fault_behind why.Order k.progress.lines)))
  judged_misplaced out = record { judged = λ text is short. misplaced_line is none r spelled one short (out text is) }

  pub judged_wrong : (reason : ResultKind) → ((text : Text) (is : IsCheckOf c text k) → IsInPlace k.keeper.kept.table is.seen r × ContentRefused c k.keeper.kept.table is.seen r reason)
      → JudgesText c k new (record_line r) (Err (stop.Refused (fault_behind reason k.progress.lines)))
  judged_wrong reason broken = record { judged = λ text is short. let both = broken text is in wrong_line is none r spelled one short reason both.0 both.1 }

-- ---- one after another

-- The waiting lines are judged first.
pub judged_then : {c : Circuit} {old mid new : Checker} {line : Text} {x : Unit {0}} {result : Result (Unit {0}) Stop} → JudgesWaiting c old mid (Ok x) → JudgesText c mid new line result → JudgesText c old new line result
judged_then first next = record { judged = λ text is short. next.judged text (first.judged text is) short }

stopped_by : (c : Circuit) (mid new : Checker) (text line : Text) (s : Stop) → IsJudged c text mid (Err s) → IsJudged c (text ++ line) new (Err s)
stopped_by c mid new text line (stop.Refused fault) is = refused_longer line is
stopped_by c mid new text line stop.NoMemory is = tt

pub stopped : {c : Circuit} {old mid new : Checker} {line : Text} (s : Stop) → JudgesWaiting c old mid (Err s) → JudgesText c old new line (Err s)
stopped {c} {old} {mid} {new} {line} s first = record { judged = λ text is short. stopped_by c mid new text line s (first.judged text is) }

pub has_after : {c : Circuit} {old new : Checker} {x : Unit {0}} → HasCheck c old → JudgesWaiting c old new (Ok x) → HasCheck c new
has_after has first = record { text = has.text; is = first.judged has.text has.is }

pub some_by : (n : ℕ) → (n == 0) ≡ false → 0 < n
some_by zero none = absurd (cc)
some_by (suc n) none = omega arith
