-- Bytes that are appended one after another.
use Rattle.std.proofs.Common.{◌≡◌, ◌∙◌, ℕ, ◌+◌, ◌<◌, List, [], ◌∷◌, ◌++◌, length, get_or, take, map, sym, ap, append_assoc, arith}
use Rattle.std.specs.Prelude.{flat_map}
use Rattle.std.specs.List.{range_with_len}
use Rattle.std.proofs.lemmas.List.{flat_map_more, take_more, map_more}
use Rattle.std.proofs.lemmas.List.{length-map, get_or-map}
use Rattle.std.proofs.lemmas.List.FromFn.{map-range_with_len_more, fill_by_all}
use Rattle.dict_rows.specs.declared.dict.Dict.{Dict}
use Rattle.net_model.specs.Rows.{row_at}
use Rattle.dict_rows.specs.Dictionary.{IsGroupedDict, entry_of}
use Rattle.dict_file.specs.Spelling.{entry_rows}

-- The bytes of one more element.
pub append_more : {X : Type 0} (f : X → List ℕ) (old now : List ℕ) (xs : List X) (i : ℕ) (d : X) → i < length xs → now ≡ old ++ flat_map f (take i xs) → now ++ f (get_or xs i d) ≡ old ++ flat_map f (take (i + 1) xs)
append_more f old now xs i d h is =
    ap (λ n. n ++ f (get_or xs i d)) is ∙ (flat_map_more f old (take i xs) (get_or xs i d) ∙ ap (λ ys. old ++ flat_map f ys) (sym (take_more xs i d h)))

pub map_one_more : (f : ℕ → ℕ) (old now : List ℕ) (i : ℕ) → now ≡ old ++ map f (range_with_len 0 i) → now ++ f i ∷ [] ≡ old ++ map f (range_with_len 0 (i + 1))
map_one_more f old now i is =
    ap (λ n. n ++ f i ∷ []) is ∙ (append_assoc old (map f (range_with_len 0 i)) (f i ∷ []) ∙ ap (λ ys. old ++ ys) (sym (map-range_with_len_more f 0 i i (omega arith))))

-- The bytes of one more picked element.
pub pick_more : {X : Type 0} (f : X → List ℕ) (g : ℕ → X) (old now : List ℕ) (xs : List ℕ) (i : ℕ) → i < length xs → now ≡ old ++ flat_map f (map g (take i xs)) → now ++ f (g (get_or xs i 0)) ≡ old ++ flat_map f (map g (take (i + 1) xs))
pick_more f g old now xs i h is =
    ap (λ n. n ++ f (g (get_or xs i 0))) is ∙ (flat_map_more f old (map g (take i xs)) (g (get_or xs i 0)) ∙ ap (λ ys. old ++ flat_map f ys) (sym (map_more g xs i 0 h)))

-- Two pieces are appended.
pub joined : (first second third xs ys : List ℕ) → second ≡ first ++ xs → third ≡ second ++ ys → third ≡ first ++ (xs ++ ys)
joined first second third xs ys one two = two ∙ (ap (λ b. b ++ ys) one ∙ append_assoc first xs ys)

-- The entry of each number is the row of its group.
pub picked_entries : (d : Dict) → IsGroupedDict d → map (row_at d.entries) d.groups ≡ entry_rows d
picked_entries d is =
    fill_by_all (entry_of d) (map (row_at d.entries) d.groups) d.numbers [] (length-map d.groups (row_at d.entries) ∙ is.one_each)
    (λ n h. get_or-map (row_at d.entries) d.groups n 0 [] (omega (arith, h, is.one_each)))
