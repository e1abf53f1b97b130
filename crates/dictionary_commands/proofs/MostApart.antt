-- A same/different dictionary with the chosen baselines keeps the most pairs of classes apart.
use Rattle.std.proofs.Common.{◌≡◌, ◌∙◌, ℕ, ◌<◌, Bool, not, List, set, sym, ap, subst, arith}
use Rattle.net_model.specs.Circuit.{Circuit}
use Rattle.net_model.specs.ClassTable.{ClassTable, class_count, representative, same_bits}
use Rattle.net_model.specs.PatternRows.{IsTableOf}
use Rattle.class_refine.specs.Fields.{IsWhole}
use Rattle.class_refine.proofs.Refined.{representative-member}
use Rattle.class_refine.proofs.PatternTables.{table_numbers}
use Rattle.dict_rows.specs.declared.dict.Dict.{Dict}
use Rattle.dict_rows.specs.declared.dict.DictKind.{DictKind}
use Rattle.dict_rows.specs.AnswerTable.{Answers, AreAnswers}
use Rattle.table_dicts.specs.Apart.{has_apart, apart_count}
use Rattle.dict_rows.specs.Entries.{same_diff_entry}
use Rattle.dict_rows.specs.Dictionary.{entry_of, IsDictionary, IsSameDiff}
use Rattle.samediff_dict.specs.Chosen.{pairs_apart, chosen_baselines}
use Rattle.samediff_dict.specs.Laws.{KeepsAsMany, NoRowIsBetter}
use Rattle.samediff_dict.proofs.PairLemmas.{pairs_to, pairs_are, pairs_same}
use Rattle.samediff_dict.proofs.ImproveLemmas.{pairs_apart_are}
use Rattle.dictionary_commands.specs.Dictionaries.{KeepsMostApart, pairs_kept}

-- The pairs that are kept apart are counted among the pairs of classes.
kept_are : (t : ClassTable) (d : Dict) → pairs_kept t d ≡ pairs_to (class_count t) (has_apart t (entry_of d))
unfolding apart_count
kept_are t d = pairs_are (class_count t) (has_apart t (entry_of d))

module _ {c : Circuit} {patterns : List (List Bool)} {t : ClassTable} (table : IsTableOf c patterns t) (whole : IsWhole t) where
  -- The pairs that a dictionary keeps apart are those that its baselines keep apart.
  kept_by : {answers : Answers} {kind : DictKind} {baselines : List (List Bool)} {d : Dict} → AreAnswers c patterns answers → IsDictionary d kind answers baselines (same_diff_entry answers.rows baselines) → pairs_kept t d ≡ pairs_apart t answers.rows baselines
  kept_by {answers} {kind} {baselines} {d} are is =
      let entry = same_diff_entry answers.rows baselines in
      let own : (class : ℕ) → class < class_count t → entry_of d (representative t class) ≡ entry (representative t class) = λ class h.
      is.entries_are (representative t class) (omega (arith, (representative-member t whole class h).0, table_numbers table, are.numbers)) in
      kept_are t d
      ∙ (pairs_same (class_count t) (has_apart t (entry_of d)) (has_apart t entry) (λ low high l h.
      ap (λ (e : List Bool). not (same_bits e (entry_of d (representative t high)))) (own low (omega (arith, l, h)))
      ∙ ap (λ (e : List Bool). not (same_bits (entry (representative t low)) e)) (own high h))
      ∙ sym (pairs_apart_are t answers.rows baselines))

  pub most_apart : KeepsAsMany → NoRowIsBetter → {d : Dict} → ((answers : Answers) → AreAnswers c patterns answers → IsSameDiff answers (chosen_baselines t answers.rows) d) → KeepsMostApart c patterns t d
  most_apart as_many no_better {d} made = record {
    by_free = λ other of. omega (arith, kept_by of.are of.is, kept_by of.are (made of.answers of.are), as_many t of.answers.rows);
    by_row = λ answers pattern row other are is.
        let chosen = made answers are in
        let replaced = subst (λ (bs : List (List Bool)). IsSameDiff answers (set bs pattern row) other) chosen.baselines_are is in
        omega (arith, kept_by are replaced, kept_by are chosen, no_better t answers.rows pattern row);
  }
