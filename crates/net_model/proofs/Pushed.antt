-- The lists that a list of vectors shows, if items are added to one vector.
use Rattle.std.proofs.Common.{◌≡◌, ℕ, ◌<◌, List, [], ◌++◌, length, map, set, get_or, sym, ◌∙◌, ap, arith}
use Rattle.std.proofs.lemmas.List.{length-map, map-set, get_or-map}

pub map-set_pushed : {A B : Type 0} (items : A → List B) (vectors : List A) (lists : List (List B)) (at : ℕ) (old new : A) (more : List B)
    → map items vectors ≡ lists → at < length lists → old ≡ get_or vectors at old → items new ≡ items old ++ more
    → map items (set vectors at new) ≡ set lists at (get_or lists at [] ++ more)
map-set_pushed items vectors lists at old new more shown h is pushed =
    let inside : at < length vectors = omega (arith, ap length shown, length-map vectors items) in
    let here : items old ≡ get_or lists at [] = ap items is ∙ sym (get_or-map items vectors at old [] inside) ∙ ap (λ xs. get_or xs at []) shown in
    map-set items vectors at new ∙ (λ i. set (shown i) at ((pushed ∙ ap (λ xs. xs ++ more) here) i))
