-- The vectors in the lanes of a block's rows.
use Rattle.std.proofs.Common.{◌≡◌, ℕ, ◌+◌, ◌<◌, ◌≤◌, List, [], ◌∷◌, ◌++◌, length, get_or, set, refl, sym, ◌∙◌, subst, arith}
use Rattle.std.specs.Prelude.{Bool, false, All}
use Rattle.std.proofs.Math.ListN.{get_or-map}
use Rattle.std.proofs.lemmas.List.{map-set, length-map, ext_get_or}
use Rattle.std.proofs.lemmas.List.FromFn.{length-map-range_with_len, get_or-map-range_with_len, map-range_with_len_more}
use Rattle.net_model.specs.Answer.{bit_at}
use Rattle.word_sim.specs.declared.lanes.TheConstants.{LANES}
use Rattle.word_sim.specs.Block.{IsBlock, block_with}
use Rattle.word_sim.specs.BlockFields.{column, columns}

pub length-column : (rows : List (List Bool)) (lane : ℕ) → length (column rows lane) ≡ length rows
unfolding column
length-column rows lane = length-map rows (λ row. bit_at row lane)

pub column_at : (rows : List (List Bool)) (lane k : ℕ) → bit_at (column rows lane) k ≡ bit_at (get_or rows k []) lane
unfolding column
column_at rows lane k = get_or-map (λ row. bit_at row lane) rows k []

pub column-set : (rows : List (List Bool)) (lane k : ℕ) (row : List Bool) → column (set rows k row) lane ≡ set (column rows lane) k (bit_at row lane)
unfolding column
column-set rows lane k row = map-set (λ r. bit_at r lane) rows k row

pub column_is : (rows : List (List Bool)) (lane : ℕ) (v : List Bool) → length v ≡ length rows → ((k : ℕ) → k < length rows → bit_at (get_or rows k []) lane ≡ bit_at v k) → column rows lane ≡ v
column_is rows lane v e h =
    ext_get_or false (column rows lane) v (length-column rows lane ∙ sym e)
    (λ k l. let within : k < length rows = subst (λ n. k < n) (length-column rows lane) l in column_at rows lane k ∙ h k within)

pub length-columns : (rows : List (List Bool)) (live : ℕ) → length (columns rows live) ≡ live
unfolding columns
length-columns rows live = length-map-range_with_len (column rows) 0 live

pub columns_at : (rows : List (List Bool)) (live lane : ℕ) (d : List Bool) → lane < live → get_or (columns rows live) lane d ≡ column rows lane
unfolding columns
columns_at rows live lane d h = get_or-map-range_with_len (column rows) 0 live lane lane d h (omega arith)

pub columns_is : (rows : List (List Bool)) (live : ℕ) (vectors : List (List Bool)) → length vectors ≡ live → ((lane : ℕ) → lane < live → column rows lane ≡ get_or vectors lane []) → columns rows live ≡ vectors
columns_is rows live vectors e h =
    ext_get_or [] (columns rows live) vectors (length-columns rows live ∙ sym e)
    (λ lane l. let within : lane < live = subst (λ n. lane < n) (length-columns rows live) l in columns_at rows live lane [] within ∙ h lane within)

pub columns_none : (rows : List (List Bool)) → columns rows 0 ≡ []
unfolding columns
columns_none rows = refl

columns_next : (rows : List (List Bool)) (live : ℕ) → columns rows (live + 1) ≡ columns rows live ++ column rows live ∷ []
unfolding columns
columns_next rows live = map-range_with_len_more (column rows) 0 live live (omega arith)

-- one vector more, if the lanes before it are as they were
pub columns_more : (rows old : List (List Bool)) (live : ℕ) (v : List Bool) → column rows live ≡ v → ((lane : ℕ) → lane < live → column rows lane ≡ column old lane) → columns rows (live + 1) ≡ columns old live ++ v ∷ []
columns_more rows old live v last before =
    let same : columns rows live ≡ columns old live =
    columns_is rows live (columns old live) (length-columns old live) (λ lane h. before lane h ∙ sym (columns_at old live lane [] h)) in
    columns_next rows live ∙ (λ i. same i ++ last i ∷ [])

columns_wide : (rows : List (List Bool)) (live : ℕ) → All (λ v. length v ≡ length rows) (columns rows live)
columns_wide rows live = λ k d h.
    let P : List Bool → Type 0 = λ v. length v ≡ length rows in
    let within : k < live = subst (λ n. k < n) (length-columns rows live) h in
    subst P (sym (columns_at rows live k d within)) (length-column rows k)

pub is_block : (rows : List (List Bool)) (live : ℕ) → live ≤ LANES → IsBlock (block_with (length rows) (columns rows live))
is_block rows live few = record { few = omega (arith, few, length-columns rows live); widths = columns_wide rows live }
