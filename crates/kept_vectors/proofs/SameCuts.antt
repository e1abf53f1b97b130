-- What a row keeps of a table.
use Rattle.std.proofs.Common.{◌≡◌, ◌∙◌, ℕ, ◌<◌, Bool, true, false, cond, List, [], ◌∷◌, ◌++◌, length, refl, sym, ap, ltb}
use Rattle.net_model.specs.ClassTable.{class_at, answer_at, new_lowest, refined_table, cuts_class}
use Rattle.class_refine.specs.Fields.{IsWhole}
use Rattle.class_refine.proofs.Refined.{sound_from, numbers-refined, class-refined, same_after, from_cuts, whole-refined}
use Rattle.class_refine.proofs.Cut.{none_added}
use Rattle.kept_vectors.specs.Kept.{KeptSoFar, with_vector, IsFiner}

-- a row that tells no numbers of a class apart is not kept
pub none_kept : (k : KeptSoFar) (v : List Bool) (row : List (List Bool)) → IsWhole k.table → ((m n : ℕ) → m < length k.table.class_of → n < length k.table.class_of → class_at k.table m ≡ class_at k.table n → answer_at k.table row m ≡ answer_at k.table row n)
    → with_vector k (v, row) ≡ k
unfolding cuts_class
none_kept k v row w none =
    let e : 0 ≡ length (new_lowest k.table row) = none_added k.table row w (λ s. s.differ (none s.first s.second s.first_below s.second_below s.together)) in
    ap (λ (n : ℕ). cond (ltb 0 n) (record { vectors = k.vectors ++ v ∷ []; table = refined_table k.table row }) k) (sym e)

whole_by : (k : KeptSoFar) (v : List Bool) (row : List (List Bool)) → IsWhole k.table → (b : Bool) → cuts_class k.table row ≡ b → IsWhole (with_vector k (v, row)).table × IsFiner k.table (with_vector k (v, row)).table
whole_by k v row w false cuts = rw cuts (w, record { numbers = refl; together = λ m n hm hn e. e })
whole_by k v row w true cuts =
    let t = k.table in
    rw cuts (
      whole-refined t row w (from_cuts t row cuts),
      record {
        numbers = numbers-refined t row;
        together = λ m n hm hn e. (same_after t row (sound_from t w) m n hm hn (sym (class-refined t row m hm) ∙ (e ∙ class-refined t row n hn))).0;
      },
    )

-- the table stays whole, and numbers that are apart stay apart
pub whole_kept : (k : KeptSoFar) (v : List Bool) (row : List (List Bool)) → IsWhole k.table → IsWhole (with_vector k (v, row)).table × IsFiner k.table (with_vector k (v, row)).table
whole_kept k v row w = whole_by k v row w (cuts_class k.table row) refl
