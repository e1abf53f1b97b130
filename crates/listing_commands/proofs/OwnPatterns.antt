-- A list splits none of a result's classes if all that is kept of it is among the result's patterns, and with these
-- patterns as the list the same is printed and made as without.
use Rattle.std.proofs.Common.{◌≡◌, ◌∙◌, ℕ, zero, suc, ◌<◌, Bool, List, [], ◌∷◌, ◌++◌, length, get_or, take, sym, ap, ap₂, subst, refl, append_assoc, arith}
use Rattle.std.specs.Prelude.{All, Contains}
use Rattle.std.proofs.lemmas.List.{append-nil}
use Rattle.std.proofs.lemmas.List.Elements.{All-head, All-tail, All-from_get_or, All-contains_itself, Contains-get_or, filter_map-append}
use Rattle.net_model.specs.Circuit.{Circuit, IsCircuit}
use Rattle.net_model.specs.FaultList.{fault_count}
use Rattle.net_model.specs.ClassTable.{ClassTable}
use Rattle.net_model.specs.PatternRows.{IsTableOf, SplitsClass}
use Rattle.net_model.proofs.OneAnswer.{one_table}
use Rattle.class_refine.proofs.PatternTables.{rows_exist}
use Rattle.kept_vectors.specs.Kept.{KeptSoFar, nothing_kept, IsKeptOf, Keeps, SplitInTurn}
use Rattle.kept_vectors.proofs.KeepLemmas.{keeps_more, keeper_first, keeper_after}
use Rattle.kept_vectors.proofs.PartedLemmas.{has_kept, none_splits, nothing_more, splitters_kept}
use Rattle.result_records.specs.declared.record.Record.{Record}
use Rattle.result_records.specs.declared.record.Record.TheVariants.{Pattern, End}
use Rattle.result_records.specs.Marks.{pattern_of, patterns_in}
use Rattle.result_records.specs.Spelling.{spelling, text_of, HasSpelling}
use Rattle.result_file.specs.Valid.{AreRightLines, IsValid}
use Rattle.result_file.proofs.FileLemmas.{next_right}
use Rattle.result_file.proofs.RefusalLemmas.{record_once}
use Rattle.dict_rows.specs.AnswerTable.{Answers, AreAnswers}
use Rattle.table_dicts.proofs.OneTable.{one_answers}
use Rattle.ranked_diag.specs.PartialLog.{Line}
use Rattle.suspect_scores.specs.declared.suspect.Suspect.{Suspect}
use Rattle.suspect_scores.specs.declared.choices.Choice.{Choice}
use Rattle.suspect_scores.specs.Scores.{failing}
use Rattle.suspect_scores.specs.Listed.{AreSuspects}
use Rattle.suspect_scores.specs.Covering.{IsCover}
use Rattle.suspect_scores.specs.Expected.{expected_text}
use Rattle.suspect_scores.proofs.SuspectLemmas.{have_one_listing}
use Rattle.suspect_scores.proofs.CoverLemmas.{have_one_cover}
use Rattle.bridging_faults.specs.BridgeList.{BridgeList}
use Rattle.bridging_faults.specs.Found.{AreListed}
use Rattle.bridging_faults.specs.Texts.{bridges_text}
use Rattle.bridging_faults.specs.Printed.{AreBridgesOf}
use Rattle.bridging_faults.proofs.Listings.{one_list}
use Rattle.text_fields.specs.Fields.{Text}
use Rattle.run_steps.specs.ResultLogs.{AreValidBytes}
use Rattle.run_steps.proofs.CheckedLemmas.{valid_widths}
use Rattle.listing_commands.specs.Texts.{expected_counts_text, suspects_text, cover_text}
use Rattle.listing_commands.specs.Suspects.{AreSuspectsOf, IsCoverOf, IsExpectedOf}
use Rattle.listing_commands.specs.Applied.{AreClassesWith, AreSuspectsAt}
use Rattle.listing_commands.specs.Laws.{OwnListSplitsNone, OwnPatternsSaySame, ResultsSaySame}

-- ---- bytes are those of one list of records

text_more : (r : Record) (records : List Record) → text_of (r ∷ records) ≡ spelling r ++ 10 ∷ text_of records
text_more r records = append_assoc (spelling r) (10 ∷ []) (text_of records)

not_empty : (front back : Text) → front ++ 10 ∷ back ≡ [] → ⊥
not_empty [] back e = absurd (cc)
not_empty (b ∷ front) back e = absurd (cc)

text_once : (records others : List Record) → All HasSpelling records → All HasSpelling others → text_of records ≡ text_of others → records ≡ others
text_once [] [] first second e = refl
text_once [] (r ∷ others) first second e = absurd (not_empty (spelling r) (text_of others) (sym (e ∙ text_more r others)))
text_once (r ∷ records) [] first second e = absurd (not_empty (spelling r) (text_of records) (sym (text_more r records) ∙ e))
text_once (r ∷ records) (o ∷ others) first second e =
    let cut = record_once r o (text_of records) (text_of others) (All-head HasSpelling r records first) (All-head HasSpelling o others second) (sym (text_more r records) ∙ (e ∙ text_more o others)) in
    ap₂ (λ (x : Record) (xs : List Record). x ∷ xs) cut.0 (text_once records others (All-tail HasSpelling r records first) (All-tail HasSpelling o others second) cut.1)

spelled : {c : Circuit} {records : List Record} → IsValid c records → All HasSpelling records
spelled {c} {records} valid = All-from_get_or HasSpelling records End valid.lines.spelled

records_once : {c : Circuit} {result : Text} (of other : AreValidBytes c result) → of.records ≡ other.records
records_once of other = text_once of.records other.records (spelled of.valid) (spelled other.valid) (sym of.spelled ∙ other.spelled)

patterns_once : {c : Circuit} {result : Text} (of other : AreValidBytes c result) → patterns_in of.records ≡ patterns_in other.records
patterns_once of other = ap patterns_in (records_once of other)

-- ---- the patterns of a valid result split classes in turn

-- Each of `vectors` splits a class of the vectors before it, which begin with all of `before`.
abbrev AreSplitting : Circuit → List (List Bool) → List (List Bool) → Type 0
AreSplitting c before vectors = (at : ℕ) → at < length vectors → SplitsClass c (before ++ take at vectors) (get_or vectors at [])

splits_next : (c : Circuit) (before : List (List Bool)) (v : List Bool) (vectors : List (List Bool)) → SplitsClass c before v → AreSplitting c (before ++ v ∷ []) vectors → AreSplitting c before (v ∷ vectors)
splits_next c before v vectors first later zero below = subst (λ (vs : List (List Bool)). SplitsClass c vs v) (sym (append-nil before)) first
splits_next c before v vectors first later (suc at) below =
    subst (λ (vs : List (List Bool)). SplitsClass c vs (get_or vectors at [])) (append_assoc before (v ∷ []) (take at vectors)) (later at (omega arith))

module _ {c : Circuit} {all : List Record} (right : AreRightLines c all) where
  splits_from : (before rest : List Record) → all ≡ before ++ rest → AreSplitting c (patterns_in before) (patterns_in rest)
  splits_from before [] e = λ at below. absurd (omega arith)
  splits_from before (Pattern v ∷ rest) e =
      let line = next_right before (Pattern v) rest right e in
      let later = splits_from (before ++ Pattern v ∷ []) rest (e ∙ sym (append_assoc before (Pattern v ∷ []) rest)) in
      splits_next c (patterns_in before) v (patterns_in rest) line.right.content.splits (subst (λ (vs : List (List Bool)). AreSplitting c vs (patterns_in rest)) (filter_map-append pattern_of before (Pattern v ∷ [])) later)
  splits_from before (r ∷ rest) e =
      subst (λ (vs : List (List Bool)). AreSplitting c vs (patterns_in rest)) (filter_map-append pattern_of before (r ∷ []) ∙ append-nil (patterns_in before)) (splits_from (before ++ r ∷ []) rest (e ∙ sym (append_assoc before (r ∷ []) rest)))

in_turn : {c : Circuit} {records : List Record} → IsValid c records → SplitInTurn c (patterns_in records)
in_turn {c} {records} valid = record { widths = valid_widths valid; splits = splits_from valid.lines [] records refl }

-- ---- classes

one_kept : {c : Circuit} {vectors : List (List Bool)} {old new other : KeptSoFar} → IsCircuit c → Keeps c vectors old new → Keeps c vectors old other → other ≡ new
one_kept {c} {vectors} is one two = let rows = rows_exist c is vectors in two.by_rows rows.0 rows.1 ∙ sym (one.by_rows rows.0 rows.1)

-- Vectors that split no class of patterns that split in turn leave the classes as they are.
classes_stay : (c : Circuit) (patterns vectors kept : List (List Bool)) (t : ClassTable) → IsCircuit c → SplitInTurn c patterns → All (λ v. SplitsClass c patterns v → ⊥) vectors
    → Keeps c (patterns ++ vectors) (nothing_kept (fault_count c)) (record { vectors = kept; table = t }) → IsTableOf c patterns t
classes_stay c patterns vectors kept t is turn none keeps =
    let nothing = nothing_kept (fault_count c) in
    let has = has_kept is (splitters_kept c patterns is turn) in
    let keeper = keeper_after c patterns nothing has.now (keeper_first c is) turn.widths has.keeps in
    let unsplit : All (λ v. SplitsClass c has.now.vectors v → ⊥) vectors = subst (λ (vs : List (List Bool)). All (λ v. SplitsClass c vs v → ⊥) vectors) (sym has.vectors_are) none in
    let same = one_kept is (keeps_more has.keeps (nothing_more c vectors has.now keeper unsplit)) keeps in
    subst (IsTableOf c patterns) (sym (ap (λ (k : KeptSoFar). k.table) same)) has.table

pub own_list_splits_none : OwnListSplitsNone
own_list_splits_none c result of vectors kept t is kept_of among classes =
    let patterns = patterns_in of.records in
    let none : All (λ v. SplitsClass c patterns v → ⊥) vectors = λ k d below. none_splits c vectors kept patterns (get_or vectors k d) is kept_of among (Contains-get_or vectors k d below) in
    let keeps = subst (λ (vs : List (List Bool)). Keeps c (vs ++ vectors) (nothing_kept (fault_count c)) (record { vectors = classes.kept; table = t })) (patterns_once classes.of of) classes.keeps in
    classes_stay c patterns vectors classes.kept t is (in_turn of.valid) none keeps

-- ---- what is printed and made

module _ (c : Circuit) (is : IsCircuit c) (result : Text) (of : AreValidBytes c result) where
  abbrev own : List (List Bool)
  own = patterns_in of.records

  -- The classes are those without the list.
  same_classes : (t u : ClassTable) (other : AreValidBytes c result) → IsTableOf c (patterns_in other.records) t → AreClassesWith c result own u → u ≡ t
  same_classes t u other table classes =
      let turn = in_turn of.valid in
      let joined = own_list_splits_none c result of own own u is (splitters_kept c own is turn) (All-contains_itself own) classes in
      one_table c is joined (subst (λ (vs : List (List Bool)). IsTableOf c vs t) (patterns_once other of) table)

  module _ (patterns : List (List Bool)) (e : patterns ≡ own) where
    -- The answers are those to the result's patterns.
    same_answers : (table other : Answers) → AreAnswers c patterns table → AreAnswers c own other → other ≡ table
    same_answers table other are others = one_answers c is others (subst (λ (vs : List (List Bool)). AreAnswers c vs table) e are)

    same_suspects : (t : ClassTable) (lines : List Line) (most : ℕ) (text other : Text) → AreSuspectsOf c patterns t lines most text → AreSuspectsAt c own t lines most other → other ≡ text
    same_suspects t lines most text other one two =
        let answers = same_answers one.table two.table one.answers two.answers in
        let listed : AreSuspects t one.table lines most two.listed = subst (λ (table : Answers). AreSuspects t table lines most two.listed) answers two.suspects in
        let all = have_one_listing t one.table lines most in
        let same : two.listed ≡ one.listed = all.2 two.listed listed ∙ sym (all.2 one.listed one.suspects) in
        two.text_is ∙ (ap₂ (λ (listed : List Suspect) (table : Answers). suspects_text listed (length (failing table lines)) (length lines)) same answers ∙ sym one.text_is)

    same_cover : (t : ClassTable) (lines : List Line) (text other : Text) → IsCoverOf c patterns t lines text → IsCoverOf c own t lines other → other ≡ text
    same_cover t lines text other one two =
        let answers = same_answers one.table two.table one.answers two.answers in
        let cover : IsCover t one.table lines two.choices = subst (λ (table : Answers). IsCover t table lines two.choices) answers two.cover in
        let all = have_one_cover t one.table lines in
        let same : two.choices ≡ one.choices = all.2 two.choices cover ∙ sym (all.2 one.choices one.cover) in
        two.text_is ∙ (ap₂ (λ (choices : List Choice) (table : Answers). cover_text choices (length (failing table lines))) same answers ∙ sym one.text_is)

    same_bridges : (names : List Text) (lines : List Line) (within most : ℕ) (text other : Text) → AreBridgesOf c names patterns lines within most text → AreBridgesOf c names own lines within most other → other ≡ text
    same_bridges names lines within most text other one two =
        let answers = same_answers one.table two.table one.answers two.answers in
        let first : AreListed c own one.table lines within most one.list = subst (λ (vs : List (List Bool)). AreListed c vs one.table lines within most one.list) e one.bridges in
        let second : AreListed c own one.table lines within most two.list = subst (λ (table : Answers). AreListed c own table lines within most two.list) answers two.bridges in
        let same : two.list ≡ one.list = one_list c own one.table lines within most one.list two.list first second in
        two.text_is ∙ (ap₂ (λ (list : BridgeList) (table : Answers). bridges_text names list (length (failing table lines)) (length lines)) same answers ∙ sym one.text_is)

    same_log : (t u : ClassTable) (file text made said : Text) → IsExpectedOf c patterns t file text → IsExpectedOf c own u made said → (made ≡ file) × (said ≡ text)
    same_log t u file text made said one two =
        let answers = same_answers one.table two.table one.answers two.answers in
        let counts = ap (λ (vs : List (List Bool)). expected_counts_text (length vs) (length c.positions)) (sym e) in
        (two.file_is ∙ (ap expected_text answers ∙ sym one.file_is), two.text_is ∙ (counts ∙ sym one.text_is))

pub results_say_same : ResultsSaySame
results_say_same c result of is = record {
  suspects = λ lines most text other one two.
      let same = same_classes c is result of one.classes two.classes one.of one.classes_are two.classes_are in
      same_suspects c is result of (patterns_in one.of.records) (patterns_once one.of of) one.classes lines most text other one.are (subst (λ (t : ClassTable). AreSuspectsAt c (patterns_in of.records) t lines most other) same two.are);
  covers = λ lines text other one two.
      let same = same_classes c is result of one.classes two.classes one.of one.classes_are two.classes_are in
      same_cover c is result of (patterns_in one.of.records) (patterns_once one.of of) one.classes lines text other one.covers (subst (λ (t : ClassTable). IsCoverOf c (patterns_in of.records) t lines other) same two.covers);
  bridges = λ names lines within most text other one two. same_bridges c is result of (patterns_in one.of.records) (patterns_once one.of of) names lines within most text other one.are two.are;
  expected = λ file text made said one two. same_log c is result of (patterns_in one.of.records) (patterns_once one.of of) one.classes one.classes file text made said one.expected (two.each one.classes);
}
