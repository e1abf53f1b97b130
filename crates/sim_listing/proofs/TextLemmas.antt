-- Texts of rows of answers, one after another, and the texts of vectors.
use Rattle.std.proofs.Common.{◌≡◌, ◌∙◌, ℕ, suc, ◌+◌, ◌<◌, Bool, List, [], ◌∷◌, ◌++◌, length, get_or, take, refl, sym, ap, ap₂, arith, append_assoc}
use Rattle.std.proofs.lemmas.List.{append-nil, take_more, length-take-le}
use Rattle.std.specs.List.{AllZip}
use Rattle.std.proofs.lemmas.Slice.Zip.{AllZip-long}
use Rattle.net_model.specs.Circuit.{Circuit, IsCircuit}
use Rattle.net_model.specs.PatternRows.{IsAnswerRow}
use Rattle.net_model.proofs.OneAnswer.{one_rows}
use Rattle.table_dicts.proofs.OneTable.{answers_exist}
use Rattle.text_fields.specs.Fields.{Text}
use Rattle.sim_listing.specs.SimText.{vector_text, texts_from, IsSimTextFrom}
use Rattle.sim_listing.specs.Laws.{HasOneText}

-- ---- lists of pairs that are related

zip_append : {A B : Type 0} (R : A → B → Type 0) (front back : List A) (xs ys : List B) → AllZip R front xs → AllZip R back ys → AllZip R (front ++ back) (xs ++ ys)
zip_append R [] back [] ys first second = second
zip_append R [] back (x ∷ xs) ys first second = absurd first
zip_append R (a ∷ front) back [] ys first second = absurd first
zip_append R (a ∷ front) back (x ∷ xs) ys first second = (first.0, zip_append R front back xs ys first.1 second)

-- ---- texts of rows

texts_append : (first : ℕ) (front back : List (List (List Bool))) → texts_from first (front ++ back) ≡ texts_from first front ++ texts_from (first + length front) back
texts_append first [] back = ap (λ (n : ℕ). texts_from n back) (omega arith)
texts_append first (row ∷ front) back =
    ap (λ (text : Text). vector_text row first ++ text) (texts_append (first + 1) front back ∙ ap (λ (n : ℕ). texts_from (first + 1) front ++ texts_from n back) (omega arith))
    ∙ sym (append_assoc (vector_text row first) (texts_from (first + 1) front) (texts_from (first + suc (length front)) back))

pub texts_more : (first k : ℕ) (rows : List (List (List Bool))) → k < length rows → texts_from first (take (k + 1) rows) ≡ texts_from first (take k rows) ++ vector_text (get_or rows k []) (first + k)
texts_more first k rows inside =
    let long : length (take k rows) ≡ k = length-take-le k rows (omega (arith, inside)) in
    let one : texts_from (first + length (take k rows)) (get_or rows k [] ∷ []) ≡ vector_text (get_or rows k []) (first + k) =
    append-nil (vector_text (get_or rows k []) (first + length (take k rows))) ∙ ap (λ (n : ℕ). vector_text (get_or rows k []) (first + n)) long in
    ap (texts_from first) (take_more rows k [] inside) ∙ texts_append first (take k rows) (get_or rows k [] ∷ []) ∙ ap (λ (text : Text). texts_from first (take k rows) ++ text) one

-- ---- texts of vectors

pub text_joined : {c : Circuit} {first : ℕ} {front back : List (List Bool)} {text more : Text} → IsSimTextFrom c first front text → IsSimTextFrom c (first + length front) back more → IsSimTextFrom c first (front ++ back) (text ++ more)
text_joined {c} {first} {front} {back} {text} {more} one two = record {
  rows = one.rows ++ two.rows;
  answers = zip_append (IsAnswerRow c) front back one.rows two.rows one.answers two.answers;
  text_is =
      ap₂ (λ (s t : Text). s ++ t) one.text_is (two.text_is ∙ ap (λ (n : ℕ). texts_from (first + n) two.rows) (sym (AllZip-long (IsAnswerRow c) front one.rows one.answers)))
      ∙ sym (texts_append first one.rows two.rows);
}

pub no_text : (c : Circuit) (first : ℕ) → IsSimTextFrom c first [] []
no_text c first = record { rows = []; answers = tt; text_is = refl }

module _ (c : Circuit) (is : IsCircuit c) where
  pub text_once : {first : ℕ} {vectors : List (List Bool)} {text other : Text} → IsSimTextFrom c first vectors text → IsSimTextFrom c first vectors other → text ≡ other
  text_once {first} {vectors} {text} {other} a b = a.text_is ∙ ap (texts_from first) (one_rows c is vectors a.rows b.rows a.answers b.answers) ∙ sym b.text_is

  pub one_text : (first : ℕ) (vectors : List (List Bool)) → HasOneText c first vectors
  one_text first vectors =
      let made = answers_exist c is vectors in
      let whole : IsSimTextFrom c first vectors (texts_from first made.0.rows) = record { rows = made.0.rows; answers = made.1.rows; text_is = refl } in
      record { text = texts_from first made.0.rows; is = whole; only = λ other a. text_once a whole }
