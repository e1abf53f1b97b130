-- What a check of a result gives: the widths of its patterns, and the table of their classes.
use Rattle.std.proofs.Common.{◌≡◌, ◌∙◌, ◌+◌, ◌<◌, Bool, List, [], ◌∷◌, ◌++◌, length, length-append, take, refl, sym, subst, arith}
use Rattle.std.specs.Prelude.{All}
use Rattle.std.proofs.lemmas.List.{append_assoc, append-nil, get_or-append-add}
use Rattle.std.proofs.Math.Seq.{take-append-add}
use Rattle.std.proofs.lemmas.List.Elements.{All-nil, All-cons}
use Rattle.net_model.specs.Circuit.{Circuit}
use Rattle.net_model.specs.PatternRows.{IsTableOf}
use Rattle.result_records.specs.declared.record.Record.{Record}
use Rattle.result_records.specs.declared.record.Record.TheVariants.{Pattern, End}
use Rattle.result_records.specs.Marks.{patterns_in}
use Rattle.result_file.specs.declared.checked.Checked.{Checked}
use Rattle.result_file.specs.Accepted.{IsAccepted}
use Rattle.result_file.specs.Valid.{IsValid, AreRightLines, record_at}
use Rattle.result_file.specs.Lines.{IsRightLine}
use Rattle.net_model.specs.FaultList.{fault_count}
use Rattle.net_model.specs.ClassTable.{ClassTable}
use Rattle.dict_rows.specs.AnswerTable.{Answers, AreAnswers}

module _ {c : Circuit} {all : List Record} (right : AreRightLines c all) where
  -- A record after others is right after them.
  right_behind : (before : List Record) (r : Record) (rest : List Record) → all ≡ before ++ r ∷ rest → IsRightLine c before r
  right_behind before r rest e =
      let lines : AreRightLines c (before ++ r ∷ rest) = subst (AreRightLines c) e right in
      let at = length before + 0 in
      let below : at < length (before ++ r ∷ rest) = omega (arith, length-append before (r ∷ rest)) in
      let front : take at (before ++ r ∷ rest) ≡ before = take-append-add before (r ∷ rest) 0 ∙ append-nil before in
      let here : record_at (before ++ r ∷ rest) at ≡ r = get_or-append-add before (r ∷ rest) 0 End in
      rw (front, here) at (lines.right at below)

  widths_from : (before rest : List Record) → all ≡ before ++ rest → All (λ v. length v ≡ c.sources) (patterns_in rest)
  widths_from before [] e = All-nil (λ v. length v ≡ c.sources)
  widths_from before (Pattern bits ∷ rest) e =
      let line = right_behind before (Pattern bits) rest e in
      All-cons (λ v. length v ≡ c.sources) bits (patterns_in rest) line.content.width (widths_from (before ++ Pattern bits ∷ []) rest (e ∙ sym (append_assoc before (Pattern bits ∷ []) rest)))
  widths_from before (r ∷ rest) e = widths_from (before ++ r ∷ []) rest (e ∙ sym (append_assoc before (r ∷ []) rest))

pub valid_widths : {c : Circuit} {records : List Record} → IsValid c records → All (λ v. length v ≡ c.sources) (patterns_in records)
valid_widths {c} {records} valid = widths_from valid.lines [] records refl

-- The patterns that a check returns have this width, and the table is theirs.
module _ {c : Circuit} {records : List Record} {checked : Checked} (is : IsAccepted c records checked) where
  pub checked_widths : All (λ v. length v ≡ c.sources) checked.patterns
  checked_widths = subst (All (λ v. length v ≡ c.sources)) (sym is.patterns) (valid_widths is.valid)

  pub checked_table : IsTableOf c checked.patterns checked.classes
  checked_table = subst (λ (patterns : List (List Bool)). IsTableOf c patterns checked.classes) (sym is.patterns) is.table

-- The answers whose classes a table has.
abbrev pub answers_of_table : {c : Circuit} {patterns : List (List Bool)} {t : ClassTable} → IsTableOf c patterns t → Answers
answers_of_table {c} {patterns} {t} is = record { numbers = fault_count c; positions = length c.positions; rows = is.rows }

pub are_answers : {c : Circuit} {patterns : List (List Bool)} {t : ClassTable} (is : IsTableOf c patterns t) → AreAnswers c patterns (answers_of_table is)
are_answers {c} {patterns} {t} is = record { numbers = refl; positions = refl; rows = is.answers }
