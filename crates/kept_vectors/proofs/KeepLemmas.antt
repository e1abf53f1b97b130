-- Vectors kept one after another.
use Rattle.std.proofs.Common.{◌≡◌, ℕ, ◌+◌, ◌<◌, ◌≤◌, Bool, true, false, cond, List, [], ◌∷◌, ◌++◌, length, length-append, get_or, take, Option, Some, refl, sym, ap, subst, ◌∙◌, inl, inr, arith, IsTrue}
use Rattle.std.specs.Prelude.{All, unwrap_or, Result, Ok, Err, OnOk, OnErr}
use Rattle.std.specs.List.{AllZip, zip, fold}
use Rattle.std.proofs.lemmas.Bool.{cases_lt}
use Rattle.std.proofs.lemmas.List.{take_more, take-append-le, get_or_append_left}
use Rattle.std.proofs.lemmas.Slice.Zip.{AllZip-long}
use Rattle.std.proofs.Math.Seq.{take-append_seam, take-append-add, get_or-append_seam}
use Rattle.std.proofs.lemmas.List.Sums.{fold-append}
use Rattle.std.proofs.lemmas.List.Elements.{All-append, All-head, All-tail, All-take}
use Rattle.net_model.specs.Circuit.{Circuit, IsCircuit}
use Rattle.net_model.specs.FaultList.{fault_count}
use Rattle.net_model.specs.ClassTable.{ClassTable, first_table, refined_table, cuts_class, class_at, representative, SplitBy}
use Rattle.net_model.specs.PatternRows.{IsAnswerRow, AreAnswerRows, IsTableOf, SplitsClass}
use Rattle.net_model.proofs.Listed.{some_number}
use Rattle.class_refine.specs.Fields.{IsWhole}
use Rattle.class_refine.proofs.Pieces.{representative_lowest}
use Rattle.class_refine.proofs.Refined.{sound_from, from_cuts, adds_split, whole-first, representative-member}
use Rattle.word_sim.specs.GoodSim.{GoodSim, vectors_of}
use Rattle.fault_heads.specs.Turned.{vector_at}
use Rattle.kept_vectors.specs.Kept.{KeptSoFar, nothing_kept, with_vector, Keeps, KeepsFirst, SplitInTurn, IsFiner}
use Rattle.kept_vectors.specs.Keeper.{keeper_with, IsKeeper}
use Rattle.kept_vectors.specs.Notes.{AreAlikeAt}
use Rattle.class_refine.proofs.PatternTables.{answer_in_row, rows_exist}
use Rattle.kept_vectors.proofs.SameCuts.{none_kept, whole_kept}

-- ---- vectors with their rows

-- A list for two lists, one after the other, has a part for each.
record HasParts {A B : Type 0} (R : A → B → Type 0) (xs ys : List A) (zs : List B) : Type 0 where
  first : List B
  second : List B
  parts : zs ≡ first ++ second
  first_is : AllZip R xs first
  second_is : AllZip R ys second

in_parts : {A B : Type 0} (R : A → B → Type 0) (xs ys : List A) (zs : List B) → AllZip R (xs ++ ys) zs → HasParts R xs ys zs
in_parts R [] ys zs all = record { first = []; second = zs; parts = refl; first_is = tt; second_is = all }
in_parts R (x ∷ xs) ys [] all = absurd all
in_parts {A} {B} R (x ∷ xs) ys (z ∷ zs) all =
    let later = in_parts R xs ys zs all.1 in
    record { first = z ∷ later.first; second = later.second; parts = ap (λ (bs : List B). z ∷ bs) later.parts; first_is = (all.0, later.first_is); second_is = later.second_is }

zip-append : {A B : Type 0} (R : A → B → Type 0) (xs ys : List A) (zs ws : List B) → AllZip R xs zs → zip (xs ++ ys) (zs ++ ws) ≡ zip xs zs ++ zip ys ws
zip-append R [] ys [] ws all = refl
zip-append R [] ys (z ∷ zs) ws all = absurd all
zip-append R (x ∷ xs) ys [] ws all = absurd all
zip-append {A} {B} R (x ∷ xs) ys (z ∷ zs) ws all = ap (λ (rest : List (A × B)). (x, z) ∷ rest) (zip-append R xs ys zs ws all.1)

all_zip_more : {A B : Type 0} (R : A → B → Type 0) (xs : List A) (ys : List B) (x : A) (y : B) → AllZip R xs ys → R x y → AllZip R (xs ++ x ∷ []) (ys ++ y ∷ [])
all_zip_more R [] [] x y all one = (one, tt)
all_zip_more R [] (b ∷ ys) x y all one = absurd all
all_zip_more R (a ∷ xs) [] x y all one = absurd all
all_zip_more R (a ∷ xs) (b ∷ ys) x y all one = (all.0, all_zip_more R xs ys x y all.1 one)

-- ---- one after another

none_by : (c : Circuit) (k : KeptSoFar) (rows : List (List (List Bool))) → AreAnswerRows c [] rows → k ≡ fold with_vector k (zip [] rows)
none_by c k [] all = refl
none_by c k (row ∷ rows) all = absurd all

pub keeps_none : (c : Circuit) (k : KeptSoFar) → Keeps c [] k k
keeps_none c k = record { by_rows = none_by c k }

one_by : (c : Circuit) (v : List Bool) (old new : KeptSoFar) → ((row : List (List Bool)) → IsAnswerRow c v row → new ≡ with_vector old (v, row))
    → (rows : List (List (List Bool))) → AreAnswerRows c (v ∷ []) rows → new ≡ fold with_vector old (zip (v ∷ []) rows)
one_by c v old new with_row [] all = absurd all
one_by c v old new with_row (row ∷ []) all = with_row row all.0
one_by c v old new with_row (row ∷ other ∷ rows) all = absurd all.1

-- one vector
pub keeps_one : (c : Circuit) (v : List Bool) (old new : KeptSoFar) → ((row : List (List Bool)) → IsAnswerRow c v row → new ≡ with_vector old (v, row)) → Keeps c (v ∷ []) old new
keeps_one c v old new with_row = record { by_rows = one_by c v old new with_row }

pub keeps_more : {c : Circuit} {xs ys : List (List Bool)} {old mid new : KeptSoFar} → Keeps c xs old mid → Keeps c ys mid new → Keeps c (xs ++ ys) old new
keeps_more {c} {xs} {ys} {old} {mid} {new} one two = record {
  by_rows = λ rows all.
      let parts = in_parts (IsAnswerRow c) xs ys rows all in
      two.by_rows parts.second parts.second_is
      ∙ ap (λ (k : KeptSoFar). fold with_vector k (zip ys parts.second)) (one.by_rows parts.first parts.first_is)
      ∙ sym (fold-append with_vector old (zip xs parts.first) (zip ys parts.second))
      ∙ ap (fold with_vector old) (sym (zip-append (IsAnswerRow c) xs ys parts.first parts.second parts.first_is))
      ∙ ap (λ (rs : List (List (List Bool))). fold with_vector old (zip (xs ++ ys) rs)) (sym parts.parts);
}

pub first_more : {c : Circuit} {xs ys : List (List Bool)} {old mid new : KeptSoFar} → Keeps c xs old mid → KeepsFirst c ys mid new → KeepsFirst c (xs ++ ys) old new
first_more {c} {xs} {ys} {old} {mid} {new} one two = record {
  count = length xs + two.count;
  short = omega (arith, two.short, length-append xs ys);
  keeps = subst (λ (vs : List (List Bool)). Keeps c vs old new) (sym (take-append-add xs ys two.count)) (keeps_more one two.keeps);
}

pub first_longer : {c : Circuit} {xs : List (List Bool)} {old new : KeptSoFar} (ys : List (List Bool)) → KeepsFirst c xs old new → KeepsFirst c (xs ++ ys) old new
first_longer {c} {xs} {old} {new} ys some = record {
  count = some.count;
  short = omega (arith, some.short, length-append xs ys);
  keeps = subst (λ (vs : List (List Bool)). Keeps c vs old new) (sym (take-append-le some.count xs ys (omega (arith, some.short)))) some.keeps;
}

-- what holds of a keeper after a call, with and without an error
pub either_way : {T E P Q R : Type 0} (r : Result T E) → OnOk r P → OnErr r Q → (P → R) → (Q → R) → R
either_way (Ok x) ok err by_ok by_err = by_ok ok
either_way (Err e) ok err by_ok by_err = by_err err

-- ---- tables

patterns-fold : (rows : List (List (List Bool))) (t : ClassTable) → (fold refined_table t rows).patterns ≡ t.patterns + length rows
unfolding refined_table
patterns-fold [] t = omega arith
patterns-fold (row ∷ rows) t = omega (arith, patterns-fold rows (refined_table t row))

-- a table has counted all its patterns
pub table_patterns : {c : Circuit} {patterns : List (List Bool)} {t : ClassTable} → IsTableOf c patterns t → t.patterns ≡ length patterns
table_patterns {c} {patterns} {t} is =
    ap (λ (u : ClassTable). u.patterns) is.table ∙ omega (arith, patterns-fold is.rows (first_table (fault_count c)), AllZip-long (IsAnswerRow c) patterns is.rows is.answers)

pub table_more : {c : Circuit} {patterns : List (List Bool)} {t : ClassTable} (v : List Bool) (row : List (List Bool)) → IsTableOf c patterns t → IsAnswerRow c v row → IsTableOf c (patterns ++ v ∷ []) (refined_table t row)
table_more {c} {patterns} {t} v row is answers = record {
  rows = is.rows ++ row ∷ [];
  answers = all_zip_more (IsAnswerRow c) patterns is.rows v row is.answers answers;
  table = ap (λ (u : ClassTable). refined_table u row) is.table ∙ sym (fold-append refined_table (first_table (fault_count c)) is.rows (row ∷ []));
}

split_more : {c : Circuit} {patterns : List (List Bool)} {v : List Bool} → SplitInTurn c patterns → length v ≡ c.sources → SplitsClass c patterns v → SplitInTurn c (patterns ++ v ∷ [])
split_more {c} {patterns} {v} so_far width one = record {
  widths = All-append (λ v. length v ≡ c.sources) patterns (v ∷ []) so_far.widths (λ k d below. let e : k ≡ 0 = omega arith in rw e width);
  splits = λ at below. elim (cases_lt at (length patterns)) [
    | inl low ↦ rw (take-append-le at patterns (v ∷ []) (omega arith), get_or_append_left patterns (v ∷ []) [] at low) (so_far.splits at low)
    | inr high ↦
        let e : at ≡ length patterns = omega (arith, length-append patterns (v ∷ [])) in
        rw (e, take-append_seam patterns (v ∷ []), get_or-append_seam patterns v [] []) one
  ];
}

-- a row that cuts a class splits it
cuts_split : (t : ClassTable) (row : List (List Bool)) → IsWhole t → IsTrue (cuts_class t row) → SplitBy t row
cuts_split t row w cut = adds_split t row (sound_from t w) (from_cuts t row cut)

-- numbers that were apart before stay apart
pub finer_later : {t u w : ClassTable} → IsFiner t u → IsFiner u w → IsFiner t w
finer_later {t} {u} {w} one two = record {
  numbers = two.numbers ∙ one.numbers;
  together = λ m n hm hn e. one.together m n hm hn (two.together m n (omega (arith, hm, one.numbers)) (omega (arith, hn, one.numbers)) e);
}

-- ---- what is true of a keeper

-- at first nothing is kept
pub keeper_first : (c : Circuit) → IsCircuit c → IsKeeper (keeper_with c (nothing_kept (fault_count c)))
keeper_first c is = record {
  circuit = is;
  splits = record { widths = λ k d below. absurd (omega arith); splits = λ at below. absurd (omega arith) };
  table = record { rows = []; answers = tt; table = refl };
  whole = whole-first (fault_count c) (some_number c);
}

keeper_by : (c : Circuit) (k : KeptSoFar) (v : List Bool) (row : List (List Bool)) (b : Bool) → cuts_class k.table row ≡ b → IsKeeper (keeper_with c k) → length v ≡ c.sources → IsAnswerRow c v row
    → IsKeeper (keeper_with c (with_vector k (v, row)))
keeper_by c k v row true cuts is width answers =
    let next : KeptSoFar = record { vectors = k.vectors ++ v ∷ []; table = refined_table k.table row } in
    let split = cuts_split k.table row is.whole cuts in
    let one : SplitsClass c k.vectors v = record { t = k.table; row = row; table = is.table; answers = answers; split = split } in
    let whole = (whole_kept k v row is.whole).0 in
    let e : with_vector k (v, row) ≡ next = ap (λ (b : Bool). cond b next k) cuts in
    subst (λ (n : KeptSoFar). IsKeeper (keeper_with c n)) (sym e) (record {
      circuit = is.circuit;
      splits = split_more is.splits width one;
      table = table_more v row is.table answers;
      whole = subst (λ (n : KeptSoFar). IsWhole n.table) e whole;
    })
keeper_by c k v row false cuts is width answers =
    let next : KeptSoFar = record { vectors = k.vectors ++ v ∷ []; table = refined_table k.table row } in
    let e : with_vector k (v, row) ≡ k = ap (λ (b : Bool). cond b next k) cuts in
    subst (λ (n : KeptSoFar). IsKeeper (keeper_with c n)) (sym e) is

keeper_fold : (c : Circuit) (k : KeptSoFar) (vectors : List (List Bool)) (rows : List (List (List Bool))) → AreAnswerRows c vectors rows → All (λ v. length v ≡ c.sources) vectors → IsKeeper (keeper_with c k)
    → IsKeeper (keeper_with c (fold with_vector k (zip vectors rows)))
keeper_fold c k [] rows all widths is = is
keeper_fold c k (v ∷ vectors) [] all widths is = absurd all
keeper_fold c k (v ∷ vectors) (row ∷ rows) all widths is =
    keeper_fold c (with_vector k (v, row)) vectors rows all.1 (All-tail (λ v. length v ≡ c.sources) v vectors widths)
    (keeper_by c k v row (cuts_class k.table row) refl is (All-head (λ v. length v ≡ c.sources) v vectors widths) all.0)

-- it stays true after vectors came
pub keeper_after : (c : Circuit) (vectors : List (List Bool)) (old new : KeptSoFar) → IsKeeper (keeper_with c old) → All (λ v. length v ≡ c.sources) vectors → Keeps c vectors old new → IsKeeper (keeper_with c new)
keeper_after c vectors old new is widths keeps =
    let rows = rows_exist c is.circuit vectors in
    subst (λ (k : KeptSoFar). IsKeeper (keeper_with c k)) (sym (keeps.by_rows rows.0 rows.1)) (keeper_fold c old vectors rows.0 rows.1 widths is)

-- it stays true after some of the first vectors came
pub keeper_first_after : (c : Circuit) (vectors : List (List Bool)) (old new : KeptSoFar) → IsKeeper (keeper_with c old) → All (λ v. length v ≡ c.sources) vectors → KeepsFirst c vectors old new → IsKeeper (keeper_with c new)
keeper_first_after c vectors old new is widths some = keeper_after c (take some.count vectors) old new is (All-take (λ v. length v ≡ c.sources) some.count vectors widths) some.keeps

-- the same by pairs of a vector and its row
pub whole_fold : (k : KeptSoFar) (pairs : List (List Bool × List (List Bool))) → IsWhole k.table → IsWhole (fold with_vector k pairs).table × IsFiner k.table (fold with_vector k pairs).table
whole_fold k [] whole = (whole, record { numbers = refl; together = λ m n hm hn e. e })
whole_fold k (pair ∷ pairs) whole =
    let one = whole_kept k pair.0 pair.1 whole in
    let more = whole_fold (with_vector k pair) pairs one.0 in
    (more.0, finer_later one.1 more.1)

-- the table stays whole, and numbers that are apart stay apart
pub whole_after : (c : Circuit) → IsCircuit c → (vectors : List (List Bool)) (old new : KeptSoFar) → IsWhole old.table → Keeps c vectors old new → IsWhole new.table × IsFiner old.table new.table
whole_after c is vectors old new whole keeps =
    let rows = rows_exist c is vectors in
    subst (λ (k : KeptSoFar). IsWhole k.table × IsFiner old.table k.table) (sym (keeps.by_rows rows.0 rows.1)) (whole_fold old (zip vectors rows.0) whole)

-- representatives only rise
pub leads_rise : {t u : ClassTable} → IsWhole u → IsFiner t u → (n : ℕ) → n < length t.class_of → representative t (class_at t n) ≤ representative u (class_at u n)
leads_rise {t} {u} whole finer n below =
    let inside : n < length u.class_of = omega (arith, finer.numbers) in
    let high = representative-member u whole (class_at u n) (whole.classes n inside) in
    let lead = representative u (class_at u n) in
    let same : class_at t lead ≡ class_at t n = finer.together lead n (omega (arith, high.0, finer.numbers)) below high.1 in
    let least = representative_lowest t lead (omega (arith, high.0, finer.numbers)) in
    rw same at least.within

-- ---- lanes

-- the vectors of the block that was run
pub ran_vectors : (good : GoodSim) (all : List (List Bool)) → good.ran ≡ Some all → vectors_of good ≡ all
ran_vectors good all ran = ap (λ (o : Option (List (List Bool))). unwrap_or o []) ran

-- one lane more
pub keeps_lane : {old mid new : KeptSoFar} (good : GoodSim) (all : List (List Bool)) (lane : ℕ) → good.ran ≡ Some all → lane < length all → Keeps good.circuit (take lane all) old mid
    → Keeps good.circuit (vector_at good lane ∷ []) mid new → Keeps good.circuit (take (lane + 1) all) old new
keeps_lane {old} {mid} {new} good all lane ran inside before one =
    let v : get_or all lane [] ≡ vector_at good lane = ap (λ (vs : List (List Bool)). get_or vs lane []) (sym (ran_vectors good all ran)) in
    let more : take (lane + 1) all ≡ take lane all ++ vector_at good lane ∷ [] = take_more all lane [] inside ∙ ap (λ (x : List Bool). take lane all ++ x ∷ []) v in
    subst (λ (vs : List (List Bool)). Keeps good.circuit vs old new) (sym more) (keeps_more before one)

module _ (good : GoodSim) (is : IsCircuit good.circuit) (kept : KeptSoFar) (numbers : length kept.table.class_of ≡ fault_count good.circuit) (lane : ℕ) (live : lane < length (vectors_of good)) where
  -- a lane that splits no class
  pub skipped_lane : IsWhole kept.table → ((m n : ℕ) → m < length kept.table.class_of → n < length kept.table.class_of → class_at kept.table m ≡ class_at kept.table n → AreAlikeAt good lane m n)
      → Keeps good.circuit (vector_at good lane ∷ []) kept kept
  skipped_lane whole alike =
      let v = vector_at good lane in
      keeps_one good.circuit v kept kept (λ answers are.
      sym (none_kept kept v answers whole (λ m n hm hn e. alike m n hm hn e (get_or answers m []) (get_or answers n [])
      (answer_in_row good.circuit v answers are m (omega (arith, hm, numbers))) (answer_in_row good.circuit v answers are n (omega (arith, hn, numbers))))))
