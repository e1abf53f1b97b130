-- Numbers that answer alike to vectors are of one class of them, and of what is kept of them.
use Rattle.std.proofs.Common.{◌≡◌, ◌∙◌, ℕ, suc, ◌<◌, Bool, true, false, List, [], ◌∷◌, ◌++◌, length, get_or, take, refl, sym, ap, subst, inl, inr, arith, append_assoc}
use Rattle.std.specs.Prelude.{All, Contains, ◌↔◌}
use Rattle.std.specs.List.{zip, fold}
use Rattle.std.proofs.lemmas.List.{append-nil, length-replicate, get_or-replicate}
use Rattle.std.proofs.lemmas.List.Elements.{All-cons, All-head, All-tail, All-contains, Contains-get_or}
use Rattle.net_model.specs.Circuit.{Circuit, IsCircuit}
use Rattle.net_model.specs.Answer.{IsAnswer}
use Rattle.net_model.specs.FaultList.{fault_count, fault_numbered}
use Rattle.net_model.specs.ClassTable.{ClassTable, first_table, refined_table, class_at, class_after, answer_at, cuts_class, SplitBy}
use Rattle.net_model.specs.PatternRows.{IsAnswerRow, AreAnswerRows, IsTableOf, SplitsClass}
use Rattle.net_model.proofs.Listed.{some_number}
use Rattle.net_model.proofs.OneAnswer.{one_answer, one_rows, one_table}
use Rattle.class_refine.specs.Fields.{IsWhole}
use Rattle.class_refine.proofs.Pieces.{IsSound, after_cases}
use Rattle.class_refine.proofs.Refined.{sound_from, class-refined, after_same, same_after, cuts_from, sound-first, sound-refined, whole-first, numbers-refined, split_adds, adds_split, from_cuts}
use Rattle.class_refine.proofs.PatternTables.{answer_in_row, rows_exist, table_numbers}
use Rattle.kept_vectors.specs.Kept.{KeptSoFar, nothing_kept, with_vector, IsKeptOf, Keeps}
use Rattle.kept_vectors.specs.Laws.{AnswerAlike, TablesArePartedBy, KeptTellAsMuch, KeptAnswerAlike, NoneOfListSplits, KeptOnce, NothingMoreIsKept, SplittersAreKept}
use Rattle.kept_vectors.proofs.SameCuts.{whole_kept, none_kept}
use Rattle.kept_vectors.proofs.KeepLemmas.{table_more, whole_fold, whole_after}

-- ---- a row

module _ (t : ClassTable) (row : List (List Bool)) (m n : ℕ) (hm : m < length t.class_of) (hn : n < length t.class_of) where
  -- two numbers stay in one class exactly if they answer alike
  parted_row : IsSound t → (class_at (refined_table t row) m ≡ class_at (refined_table t row) n) ↔ ((class_at t m ≡ class_at t n) × (answer_at t row m ≡ answer_at t row n))
  parted_row sound = (
    λ e. same_after t row sound m n hm hn (sym (class-refined t row m hm) ∙ (e ∙ class-refined t row n hn)),
    λ (class, answer). class-refined t row m hm ∙ (after_same t row m n hm hn class answer ∙ sym (class-refined t row n hn)),
  )

-- if a row cuts no class, each number stays in its class
stays_uncut : (t : ClassTable) (row : List (List Bool)) → IsSound t → cuts_class t row ≡ false → (n : ℕ) → n < length t.class_of → class_after t row n ≡ class_at t n
stays_uncut t row sound uncut n h = elim (after_cases t row sound n h) [
  | inl stays ↦ stays.after
  | inr moves ↦ absurd (let cut : cuts_class t row ≡ true = cuts_from t row (omega (arith, moves.1.within)) in let e : ◌≡◌ {A = Bool} true false = sym cut ∙ uncut in cc)
]

parted_if : (k : KeptSoFar) (v : List Bool) (row : List (List Bool)) (b : Bool) → cuts_class k.table row ≡ b → IsSound k.table → (m n : ℕ) → m < length k.table.class_of → n < length k.table.class_of
    → (class_at (with_vector k (v, row)).table m ≡ class_at (with_vector k (v, row)).table n) ↔ ((class_at k.table m ≡ class_at k.table n) × (answer_at k.table row m ≡ answer_at k.table row n))
parted_if k v row true cuts sound m n hm hn = rw cuts (parted_row k.table row m n hm hn sound)
parted_if k v row false cuts sound m n hm hn = rw cuts (
  λ e. same_after k.table row sound m n hm hn (stays_uncut k.table row sound cuts m hm ∙ (e ∙ sym (stays_uncut k.table row sound cuts n hn))),
  λ p. p.0,
)

-- the same for a vector that is kept or left out
parted_kept : (k : KeptSoFar) (v : List Bool) (row : List (List Bool)) → IsSound k.table → (m n : ℕ) → m < length k.table.class_of → n < length k.table.class_of
    → (class_at (with_vector k (v, row)).table m ≡ class_at (with_vector k (v, row)).table n) ↔ ((class_at k.table m ≡ class_at k.table n) × (answer_at k.table row m ≡ answer_at k.table row n))
parted_kept k v row = parted_if k v row (cuts_class k.table row) refl

-- ---- vectors

module _ (c : Circuit) (is : IsCircuit c) (m n : ℕ) (hm : m < fault_count c) (hn : n < fault_count c) where
  -- the two answer alike to a vector
  abbrev AlikeTo : List Bool → Type 0
  AlikeTo v = (first second : List Bool) → IsAnswer c (fault_numbered c m) v first → IsAnswer c (fault_numbered c n) v second → first ≡ second

  alike_all : (vectors : List (List Bool)) → AnswerAlike c vectors m n → All AlikeTo vectors
  alike_all vectors alike k d below first second = alike (get_or vectors k d) first second (Contains-get_or vectors k d below)

  all_alike : (vectors : List (List Bool)) → All AlikeTo vectors → AnswerAlike c vectors m n
  all_alike vectors all v first second has = All-contains AlikeTo vectors v all has first second

  row_alike : (v : List Bool) (row : List (List Bool)) → IsAnswerRow c v row → AlikeTo v → get_or row m [] ≡ get_or row n []
  row_alike v row answers alike = alike (get_or row m []) (get_or row n []) (answer_in_row c v row answers m hm) (answer_in_row c v row answers n hn)

  alike_row : (v : List Bool) (row : List (List Bool)) → IsAnswerRow c v row → get_or row m [] ≡ get_or row n [] → AlikeTo v
  alike_row v row answers same first second a b =
      one_answer c is (fault_numbered c m) v first (get_or row m []) a (answer_in_row c v row answers m hm) ∙ (same ∙ one_answer c is (fault_numbered c n) v (get_or row n []) second (answer_in_row c v row answers n hn) b)

  -- the table of rows
  parted_table : (t : ClassTable) (vectors : List (List Bool)) (rows : List (List (List Bool))) → AreAnswerRows c vectors rows → IsSound t → length t.class_of ≡ fault_count c
      → (class_at (fold refined_table t rows) m ≡ class_at (fold refined_table t rows) n) ↔ ((class_at t m ≡ class_at t n) × All AlikeTo vectors)
  parted_table t [] [] all sound numbers = (λ e. (e, λ k d below. absurd (omega arith)), λ p. p.0)
  parted_table t [] (row ∷ rows) all sound numbers = absurd all
  parted_table t (v ∷ vectors) [] all sound numbers = absurd all
  parted_table t (v ∷ vectors) (row ∷ rows) all sound numbers =
      let later = parted_table (refined_table t row) vectors rows all.1 (sound-refined t row sound) (numbers-refined t row ∙ numbers) in
      let one = parted_row t row m n (omega (arith, hm, numbers)) (omega (arith, hn, numbers)) sound in (
        λ e. let rest = later.0 e in let here = one.0 rest.0 in (here.0, All-cons AlikeTo v vectors (alike_row v row all.0 here.1) rest.1),
        λ (class, alike). later.1 (one.1 (class, row_alike v row all.0 (All-head AlikeTo v vectors alike)), All-tail AlikeTo v vectors alike),
      )

  -- the table of what is kept
  parted_fold : (k : KeptSoFar) (vectors : List (List Bool)) (rows : List (List (List Bool))) → AreAnswerRows c vectors rows → IsWhole k.table → length k.table.class_of ≡ fault_count c
      → (class_at (fold with_vector k (zip vectors rows)).table m ≡ class_at (fold with_vector k (zip vectors rows)).table n) ↔ ((class_at k.table m ≡ class_at k.table n) × All AlikeTo vectors)
  parted_fold k [] [] all whole numbers = (λ e. (e, λ k d below. absurd (omega arith)), λ p. p.0)
  parted_fold k [] (row ∷ rows) all whole numbers = absurd all
  parted_fold k (v ∷ vectors) [] all whole numbers = absurd all
  parted_fold k (v ∷ vectors) (row ∷ rows) all whole numbers =
      let next = whole_kept k v row whole in
      let later = parted_fold (with_vector k (v, row)) vectors rows all.1 next.0 (next.1.numbers ∙ numbers) in
      let one = parted_kept k v row (sound_from k.table whole) m n (omega (arith, hm, numbers)) (omega (arith, hn, numbers)) in (
        λ e. let rest = later.0 e in let here = one.0 rest.0 in (here.0, All-cons AlikeTo v vectors (alike_row v row all.0 here.1) rest.1),
        λ (class, alike). later.1 (one.1 (class, row_alike v row all.0 (All-head AlikeTo v vectors alike)), All-tail AlikeTo v vectors alike),
      )

-- ---- the tables of patterns, and of what is kept

first_same : (numbers m n : ℕ) → m < numbers → n < numbers → class_at (first_table numbers) m ≡ class_at (first_table numbers) n
first_same numbers m n hm hn = get_or-replicate {A = ℕ} numbers m 0 0 hm ∙ sym (get_or-replicate {A = ℕ} numbers n 0 0 hn)

pub tables_parted : TablesArePartedBy
tables_parted c patterns t is table = record {
  numbers = table_numbers table;
  together = λ m n hm hn.
      let numbers = fault_count c in
      let all = parted_table c is m n hm hn (first_table numbers) patterns table.rows table.answers (sound-first numbers) (length-replicate {A = ℕ} numbers 0) in
      subst (λ (u : ClassTable). (class_at u m ≡ class_at u n) ↔ AnswerAlike c patterns m n) (sym table.table)
      (λ e. all_alike c is m n hm hn patterns (all.0 e).1, λ alike. all.1 (first_same numbers m n hm hn, alike_all c is m n hm hn patterns alike));
}

pub kept_parted : KeptTellAsMuch
kept_parted c vectors kept is keeps =
    let numbers = fault_count c in
    let long = length-replicate {A = ℕ} numbers 0 in
    let whole = whole-first numbers (some_number c) in
    let rows = rows_exist c is vectors in
    record {
      numbers = (whole_after c is vectors (nothing_kept numbers) kept whole keeps).1.numbers ∙ long;
      together = λ m n hm hn.
          let all = parted_fold c is m n hm hn (nothing_kept numbers) vectors rows.0 rows.1 whole long in
          subst (λ (k : KeptSoFar). (class_at k.table m ≡ class_at k.table n) ↔ AnswerAlike c vectors m n) (sym (keeps.by_rows rows.0 rows.1))
          (λ e. all_alike c is m n hm hn vectors (all.0 e).1, λ alike. all.1 (first_same numbers m n hm hn, alike_all c is m n hm hn vectors alike));
    }

table_if : {c : Circuit} (k : KeptSoFar) (v : List Bool) (row : List (List Bool)) (b : Bool) → cuts_class k.table row ≡ b → IsTableOf c k.vectors k.table → IsAnswerRow c v row
    → IsTableOf c (with_vector k (v, row)).vectors (with_vector k (v, row)).table
table_if k v row true cuts table answers = rw cuts (table_more v row table answers)
table_if k v row false cuts table answers = rw cuts table

-- the table of what is kept is that of the kept vectors
table_fold : {c : Circuit} (k : KeptSoFar) (vectors : List (List Bool)) (rows : List (List (List Bool))) → AreAnswerRows c vectors rows → IsTableOf c k.vectors k.table
    → IsTableOf c (fold with_vector k (zip vectors rows)).vectors (fold with_vector k (zip vectors rows)).table
table_fold k [] rows all table = table
table_fold k (v ∷ vectors) [] all table = absurd all
table_fold k (v ∷ vectors) (row ∷ rows) all table = table_fold (with_vector k (v, row)) vectors rows all.1 (table_if k v row (cuts_class k.table row) refl table all.0)

-- These are the kept vectors of a list, with their table.
pub record HasKept (c : Circuit) (vectors kept : List (List Bool)) : Type 0 where
  pub now : KeptSoFar
  pub keeps : Keeps c vectors (nothing_kept (fault_count c)) now
  pub vectors_are : now.vectors ≡ kept
  pub table : IsTableOf c kept now.table

pub has_kept : {c : Circuit} {vectors kept : List (List Bool)} → IsCircuit c → IsKeptOf c vectors kept → HasKept c vectors kept
has_kept {c} {vectors} {kept} is of =
    let nothing = nothing_kept (fault_count c) in
    let now = fold with_vector nothing (zip vectors of.rows) in
    record {
      now = now;
      keeps = record { by_rows = λ rows all. ap (λ (rs : List (List (List Bool))). fold with_vector nothing (zip vectors rs)) (one_rows c is vectors of.rows rows of.answers all) };
      vectors_are = sym of.kept_is;
      table = subst (λ (vs : List (List Bool)). IsTableOf c vs now.table) (sym of.kept_is) (table_fold nothing vectors of.rows of.answers (record { rows = []; answers = tt; table = refl }));
    }

pub kept_alike : KeptAnswerAlike
kept_alike c vectors kept m n is of hm hn =
    let has = has_kept is of in
    let by_list = (kept_parted c vectors has.now is has.keeps).together m n hm hn in
    let by_kept = (tables_parted c kept has.now.table is has.table).together m n hm hn in
    (λ alike. by_list.0 (by_kept.1 alike), λ alike. by_kept.0 (by_list.1 alike))

pub none_splits : NoneOfListSplits
none_splits c vectors kept patterns v is of among has splits =
    let split = splits.split in
    let numbers = table_numbers splits.table in
    let hm : split.first < fault_count c = omega (arith, split.first_below) in
    let hn : split.second < fault_count c = omega (arith, split.second_below) in
    let parted = tables_parted c patterns splits.t is splits.table in
    let alike = (parted.together split.first split.second hm hn).0 split.together in
    let of_kept : AnswerAlike c kept split.first split.second = λ u first second here. alike u first second (All-contains (Contains patterns) kept u among here) in
    let of_list = (kept_alike c vectors kept split.first split.second is of hm hn).0 of_kept in
    split.differ (row_alike c is split.first split.second hm hn v splits.row splits.answers (λ first second. of_list v first second has))

-- ---- a list that came already

-- Two numbers of one class answer alike in the row.
abbrev IsTold : ClassTable → List Bool × List (List Bool) → Type 0
IsTold t pair = (m n : ℕ) → m < length t.class_of → n < length t.class_of → class_at t m ≡ class_at t n → answer_at t pair.1 m ≡ answer_at t pair.1 n

told_fold : (k : KeptSoFar) (pairs : List (List Bool × List (List Bool))) → IsWhole k.table → All (IsTold (fold with_vector k pairs).table) pairs
told_fold k [] whole = λ i d below. absurd (omega arith)
told_fold k (pair ∷ pairs) whole =
    let next = whole_kept k pair.0 pair.1 whole in
    let later = whole_fold (with_vector k pair) pairs next.0 in
    All-cons (IsTold (fold with_vector (with_vector k pair) pairs).table) pair pairs
    (λ m n hm hn e.
    let um : m < length (with_vector k pair).table.class_of = omega (arith, hm, later.1.numbers) in
    let un : n < length (with_vector k pair).table.class_of = omega (arith, hn, later.1.numbers) in
    ((parted_kept k pair.0 pair.1 (sound_from k.table whole) m n (omega (arith, um, next.1.numbers)) (omega (arith, un, next.1.numbers))).0 (later.1.together m n um un e)).1)
    (told_fold (with_vector k pair) pairs next.0)

settled_fold : (k : KeptSoFar) (pairs : List (List Bool × List (List Bool))) → IsWhole k.table → All (IsTold k.table) pairs → fold with_vector k pairs ≡ k
settled_fold k [] whole told = refl
settled_fold k (pair ∷ pairs) whole told =
    ap (λ (j : KeptSoFar). fold with_vector j pairs) (none_kept k pair.0 pair.1 whole (All-head (IsTold k.table) pair pairs told)) ∙ settled_fold k pairs whole (All-tail (IsTold k.table) pair pairs told)

pub kept_settled : KeptOnce
kept_settled c vectors old new whole keeps = record {
  by_rows = λ rows all.
      let e = keeps.by_rows rows all in
      let pairs = zip vectors rows in
      let final = whole_fold old pairs whole in
      sym (subst (λ (k : KeptSoFar). fold with_vector k pairs ≡ k) (sym e) (settled_fold (fold with_vector old pairs) pairs final.0 (told_fold old pairs whole)));
}

-- a row that splits no class is not kept
unsplit : (k : KeptSoFar) (v : List Bool) (row : List (List Bool)) → IsWhole k.table → (SplitBy k.table row → ⊥) → with_vector k (v, row) ≡ k
unsplit k v row whole none = by (cuts_class k.table row) refl
  where
    by : (b : Bool) → cuts_class k.table row ≡ b → with_vector k (v, row) ≡ k
    by true cuts = absurd (none (adds_split k.table row (sound_from k.table whole) (from_cuts k.table row cuts)))
    by false cuts = rw cuts refl

none_fold : (c : Circuit) (k : KeptSoFar) (vectors : List (List Bool)) (rows : List (List (List Bool))) → AreAnswerRows c vectors rows → IsWhole k.table → IsTableOf c k.vectors k.table → All (λ v. SplitsClass c k.vectors v → ⊥) vectors
    → fold with_vector k (zip vectors rows) ≡ k
none_fold c k [] rows all whole table none = refl
none_fold c k (v ∷ vectors) [] all whole table none = absurd all
none_fold c k (v ∷ vectors) (row ∷ rows) all whole table none =
    let NotSplit : List Bool → Type 0 = λ v. SplitsClass c k.vectors v → ⊥ in
    let here = unsplit k v row whole (λ split. All-head NotSplit v vectors none (record { t = k.table; row = row; table = table; answers = all.0; split = split })) in
    ap (λ (j : KeptSoFar). fold with_vector j (zip vectors rows)) here ∙ none_fold c k vectors rows all.1 whole table (All-tail NotSplit v vectors none)

pub nothing_more : NothingMoreIsKept
nothing_more c vectors kept keeper none = record { by_rows = λ rows all. sym (none_fold c kept vectors rows all keeper.whole keeper.table none) }

-- ---- vectors that are all kept

module _ (c : Circuit) (is : IsCircuit c) where
  one_kept : (k : KeptSoFar) (v : List Bool) (row : List (List Bool)) → IsWhole k.table → IsTableOf c k.vectors k.table → IsAnswerRow c v row → SplitsClass c k.vectors v
      → with_vector k (v, row) ≡ record { vectors = k.vectors ++ v ∷ []; table = refined_table k.table row }
  one_kept k v row whole table answers splits =
      let t = one_table c is splits.table table in
      let same = one_rows c is (v ∷ []) (splits.row ∷ []) (row ∷ []) (splits.answers, tt) (answers, tt) in
      let r : splits.row ≡ row = ap (λ (rs : List (List (List Bool))). get_or rs 0 []) same in
      let split : SplitBy k.table row = subst (λ (u : ClassTable). SplitBy u row) t (subst (SplitBy splits.t) r splits.split) in
      let cuts : cuts_class k.table row ≡ true = cuts_from k.table row (split_adds k.table row (sound_from k.table whole) split) in
      rw cuts refl

  all_kept : (k : KeptSoFar) (vectors : List (List Bool)) (rows : List (List (List Bool))) → AreAnswerRows c vectors rows → IsWhole k.table → IsTableOf c k.vectors k.table
      → ((at : ℕ) → at < length vectors → SplitsClass c (k.vectors ++ take at vectors) (get_or vectors at [])) → (fold with_vector k (zip vectors rows)).vectors ≡ k.vectors ++ vectors
  all_kept k [] rows all whole table splits = sym (append-nil k.vectors)
  all_kept k (v ∷ vectors) [] all whole table splits = absurd all
  all_kept k (v ∷ vectors) (row ∷ rows) all whole table splits =
      let next = with_vector k (v, row) in
      let first : SplitsClass c k.vectors v = subst (λ (vs : List (List Bool)). SplitsClass c vs v) (append-nil k.vectors) (splits 0 (omega arith)) in
      let now : next.vectors ≡ k.vectors ++ v ∷ [] = ap (λ (j : KeptSoFar). j.vectors) (one_kept k v row whole table all.0 first) in
      all_kept next vectors rows all.1 (whole_kept k v row whole).0 (table_if k v row (cuts_class k.table row) refl table all.0)
      (λ at below. subst (λ (vs : List (List Bool)). SplitsClass c vs (get_or vectors at [])) (sym (ap (λ (vs : List (List Bool)). vs ++ take at vectors) now ∙ append_assoc k.vectors (v ∷ []) (take at vectors))) (splits (suc at) (omega arith)))
      ∙ (ap (λ (vs : List (List Bool)). vs ++ vectors) now ∙ append_assoc k.vectors (v ∷ []) vectors)

pub splitters_kept : SplittersAreKept
splitters_kept c vectors is turns =
    let rows = rows_exist c is vectors in
    let numbers = fault_count c in
    record {
      rows = rows.0;
      answers = rows.1;
      kept_is = sym (all_kept c is (nothing_kept numbers) vectors rows.0 rows.1 (whole-first numbers (some_number c)) (record { rows = []; answers = tt; table = refl }) turns.splits);
    }
