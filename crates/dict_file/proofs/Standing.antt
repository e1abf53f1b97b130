-- Bytes that are in others, starting at a place.
use Rattle.std.proofs.Common.{◌≡◌, ◌∙◌, ℕ, ◌+◌, ◌-◌, ◌<◌, ◌≤◌, List, [], ◌++◌, length, get_or, take, drop, refl, sym, ap, arith, inl, inr}
use Rattle.std.proofs.lemmas.Bool.{cases_lt}
use Rattle.std.proofs.lemmas.List.{length-append, get_or_append_left, get_or-append_right, get_or-append-add, ext_get_or, get_or-take, get_or-drop, length-take-le, length-drop}

pub record IsAt (bytes : List ℕ) (from : ℕ) (part : List ℕ) : Type 0 where
  pub inside : from + length part ≤ length bytes
  pub same : (k : ℕ) → k < length part → get_or bytes (from + k) 0 ≡ get_or part k 0

pub at_itself : (bytes : List ℕ) → IsAt bytes 0 bytes
at_itself bytes = record { inside = omega arith; same = λ k h. let e : 0 + k ≡ k = omega arith in ap (λ i. get_or bytes i 0) e }

pub at_none : (bytes : List ℕ) (from : ℕ) → from ≤ length bytes → IsAt bytes from []
at_none bytes from h = record { inside = omega (arith, h); same = λ k l. absurd (omega (arith, l)) }

pub at_first : {bytes : List ℕ} {from : ℕ} (xs ys : List ℕ) → IsAt bytes from (xs ++ ys) → IsAt bytes from xs
at_first {bytes} {from} xs ys is = record {
  inside = omega (arith, is.inside, length-append xs ys);
  same = λ k h. is.same k (omega (arith, h, length-append xs ys)) ∙ get_or_append_left xs ys 0 k h;
}

pub at_second : {bytes : List ℕ} {from : ℕ} (xs ys : List ℕ) → IsAt bytes from (xs ++ ys) → IsAt bytes (from + length xs) ys
at_second {bytes} {from} xs ys is = record {
  inside = omega (arith, is.inside, length-append xs ys);
  same = λ k h. let e : from + length xs + k ≡ from + (length xs + k) = omega arith in
      ap (λ i. get_or bytes i 0) e ∙ (is.same (length xs + k) (omega (arith, h, length-append xs ys)) ∙ get_or-append-add xs ys k 0);
}

pub at_both : {bytes : List ℕ} {from : ℕ} (xs ys : List ℕ) → IsAt bytes from xs → IsAt bytes (from + length xs) ys → IsAt bytes from (xs ++ ys)
at_both {bytes} {from} xs ys one two = record {
  inside = omega (arith, two.inside, length-append xs ys);
  same = λ k h. elim (cases_lt k (length xs)) [
    | inl low ↦ one.same k low ∙ sym (get_or_append_left xs ys 0 k low)
    | inr over ↦
        let e : from + length xs + (k - length xs) ≡ from + k = omega (arith, over) in
        ap (λ i. get_or bytes i 0) (sym e) ∙ (two.same (k - length xs) (omega (arith, over, h, length-append xs ys)) ∙ sym (get_or-append_right xs ys (length xs) k 0 refl over))
  ];
}

pub at_whole : (bytes part : List ℕ) → IsAt bytes 0 part → length bytes ≤ length part → bytes ≡ part
at_whole bytes part is short =
    ext_get_or 0 bytes part (omega (arith, is.inside, short))
    (λ k h. let e : 0 + k ≡ k = omega arith in ap (λ i. get_or bytes i 0) (sym e) ∙ is.same k (omega (arith, h, is.inside, short)))

-- The same bytes, cut out.
pub at_cut : {bytes : List ℕ} {from : ℕ} (part : List ℕ) → IsAt bytes from part → take (length part) (drop from bytes) ≡ part
at_cut {bytes} {from} part is =
    let long : length (take (length part) (drop from bytes)) ≡ length part = length-take-le (length part) (drop from bytes) (omega (arith, length-drop from bytes, is.inside)) in
    ext_get_or 0 (take (length part) (drop from bytes)) part long
    (λ k h. get_or-take (length part) (drop from bytes) k 0 (omega (arith, h, long)) ∙ (get_or-drop from bytes k 0 ∙ is.same k (omega (arith, h, long))))

pub cut_at : {bytes : List ℕ} {from : ℕ} (part : List ℕ) (n : ℕ) → length part ≡ n → from + n ≤ length bytes → take n (drop from bytes) ≡ part → IsAt bytes from part
cut_at {bytes} {from} part n long inside is = record {
  inside = omega (arith, inside, long);
  same = λ k h. sym (get_or-drop from bytes k 0) ∙ (sym (get_or-take n (drop from bytes) k 0 (omega (arith, h, long))) ∙ ap (λ xs. get_or xs k 0) is);
}
