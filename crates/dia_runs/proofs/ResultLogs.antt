-- No log for a result is both refused and accepted, and none is accepted as two things.
use Rattle.std.proofs.Common.{◌≡◌, ◌∙◌, ℕ, suc, ◌<◌, List, [], ◌∷◌, ◌++◌, length, refl, sym, ap, ap₂, subst, append_assoc, arith}
use Rattle.std.specs.List.{AllByRecursion}
use Rattle.net_model.specs.Circuit.{Circuit, IsCircuit}
use Rattle.result_records.specs.declared.record.Record.{Record}
use Rattle.text_fields.specs.Fields.{Text}
use Rattle.result_records.specs.Spelling.{spelling, text_of, HasSpelling}
use Rattle.result_records.specs.Marks.{patterns_in}
use Rattle.result_file.specs.Valid.{record_at}
use Rattle.result_records.specs.Laws.{OneSpelling, SpellingIsLine}
use Rattle.text_fields.proofs.Cuts.{cut_once}
use Rattle.ranked_diag.specs.PartialLog.{Line, IsPartialLog, PartialRefused}
use Rattle.ranked_diag.specs.Laws.{RefusedPartialIsWrong, OnePartialRefusal, OnePartialReading}
use Rattle.run_steps.specs.Texts.{log_text}
use Rattle.run_steps.specs.Plan.{IsClearFile}
use Rattle.dia_runs.proofs.FewPatterns.{numbered_patterns}
use Rattle.run_steps.specs.ResultLogs.{AreValidBytes, IsLogAt, IsRefusedAt}

-- ---- bytes are those of one list of records

not_empty : (front back : Text) (byte : ℕ) → front ++ byte ∷ back ≡ [] → ⊥
not_empty [] back byte e = absurd (cc)
not_empty (b ∷ front) back byte e = absurd (cc)

text_more : (r : Record) (records : List Record) → text_of (r ∷ records) ≡ spelling r ++ 10 ∷ text_of records
text_more r records = append_assoc (spelling r) (10 ∷ []) (text_of records)

module _ (once : OneSpelling) (line : SpellingIsLine) where
  text_once : (records others : List Record) → AllByRecursion HasSpelling records → AllByRecursion HasSpelling others → text_of records ≡ text_of others → records ≡ others
  text_once [] [] first second e = refl
  text_once [] (r ∷ others) first second e = absurd (not_empty (spelling r) (text_of others) 10 (sym (e ∙ text_more r others)))
  text_once (r ∷ records) [] first second e = absurd (not_empty (spelling r) (text_of records) 10 (sym (text_more r records) ∙ e))
  text_once (r ∷ records) (o ∷ others) first second e =
      let cut = cut_once 10 (spelling r) (spelling o) (text_of records) (text_of others) (line r first.0) (line o second.0) (sym (text_more r records) ∙ (e ∙ text_more o others)) in
      ap₂ (λ (x : Record) (xs : List Record). x ∷ xs) (once r o first.0 second.0 cut.0) (text_once records others first.1 second.1 cut.1)

  spelled_all : (records : List Record) → ((at : ℕ) → at < length records → HasSpelling (record_at records at)) → AllByRecursion HasSpelling records
  spelled_all [] each = tt
  spelled_all (r ∷ records) each = (each 0 (omega arith), spelled_all records (λ at h. each (suc at) (omega (arith, h))))

  pub records_once : {c : Circuit} {result : Text} (of other : AreValidBytes c result) → of.records ≡ other.records
  records_once of other = text_once of.records other.records (spelled_all of.records of.valid.lines.spelled) (spelled_all other.records other.valid.lines.spelled) (sym of.spelled ∙ other.spelled)

-- ---- logs

module _ (once : OneSpelling) (line : SpellingIsLine) (wrong : RefusedPartialIsWrong) (reading : OnePartialReading) (refusal : OnePartialRefusal) (c : Circuit) (circuit : IsCircuit c) (result : Text) where
  abbrev patterns : AreValidBytes c result → ℕ
  patterns of = length (patterns_in of.records)

  same_patterns : (of other : AreValidBytes c result) → patterns of ≡ patterns other
  same_patterns of other = ap (λ (records : List Record). length (patterns_in records)) (records_once once line of other)

  pub log_is_clear : IsClearFile (List Line) (IsRefusedAt c result) (IsLogAt c result)
  log_is_clear = record {
    apart = λ bytes console lines accepted is.
        let n = patterns accepted.of in
        let refused : PartialRefused n (length c.positions) bytes is.refused.kind is.refused.line =
        subst (λ k. PartialRefused k (length c.positions) bytes is.refused.kind is.refused.line) (same_patterns is.of accepted.of) is.refused.refused in
        wrong n (length c.positions) bytes lines is.refused.kind is.refused.line (numbered_patterns c circuit accepted.of.records accepted.of.valid) refused accepted.log;
    once = λ bytes lines others one two.
        let n = patterns one.of in
        reading n (length c.positions) bytes lines others (numbered_patterns c circuit one.of.records one.of.valid) one.log (subst (λ k. IsPartialLog k (length c.positions) bytes others) (same_patterns two.of one.of) two.log);
    one_refusal = λ bytes console other one two.
        let n = patterns one.of in
        let kind = two.refused.kind in
        let line = two.refused.line in
        let wrong_too : PartialRefused n (length c.positions) bytes kind line = subst (λ k. PartialRefused k (length c.positions) bytes kind line) (same_patterns two.of one.of) two.refused.refused in
        let same : (one.refused.kind ≡ kind) × (one.refused.line ≡ line) =
        refusal n (length c.positions) bytes one.refused.kind kind one.refused.line line (numbered_patterns c circuit one.of.records one.of.valid) one.refused.refused wrong_too in
        one.refused.console_is ∙ ap₂ log_text same.0 same.1 ∙ sym two.refused.console_is;
  }
