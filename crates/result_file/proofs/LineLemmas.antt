-- The lines of classes and of members, one by one, and the text of one more line.
use Rattle.std.proofs.Common.{◌≡◌, ℕ, ◌+◌, ◌<◌, List, [], ◌∷◌, ◌++◌, map, length, get_or, Option, None, Some, take, sym, ap, ◌∙◌, arith, append_assoc}
use Rattle.std.specs.List.{slice_get, enumerate_from, range_with_len, zip}
use Rattle.std.proofs.lemmas.List.{map-append, length-map, take_more}
use Rattle.std.proofs.lemmas.Slice.Zip.{length-zip, get_or-zip}
use Rattle.std.specs.Option.{option_map}
use Rattle.std.proofs.lemmas.Option.{slice_get-map, slice_get-get_or, get_or_from_slice_get, slice_get_within}
use Rattle.std.proofs.lemmas.List.FromFn.{length-range_with_len, map-range_with_len_more, length-enumerate_from, get_or-enumerate_from, length-map-range_with_len, get_or-map-range_with_len}
use Rattle.result_records.specs.declared.record.Mark.{Mark}
use Rattle.result_records.specs.declared.record.Mark.TheVariants.{Rep}
use Rattle.result_records.specs.declared.record.Record.{Record}
use Rattle.result_records.specs.declared.record.Record.TheVariants.{Class, Member}
use Rattle.text_fields.specs.Fields.{Text}
use Rattle.result_records.specs.Spelling.{text_of}
use Rattle.result_file.specs.Meaning.{class_records, member_records}
use Rattle.result_records.proofs.RecordLists.{text-append}

enumerate_more : {X : Type 0} (n k : ℕ) (xs : List X) (x : X) → n + length xs ≡ k → enumerate_from n (xs ++ x ∷ []) ≡ enumerate_from n xs ++ (k, x) ∷ []
enumerate_more {X} n k [] x at = ap (λ (m : ℕ). let one : List (ℕ × X) = (m, x) ∷ [] in one) (let e : n ≡ k = omega arith in e)
enumerate_more {X} n k (y ∷ xs) x at = ap (λ (zs : List (ℕ × X)). (n, y) ∷ zs) (enumerate_more (n + 1) k xs x (omega arith))

-- the member lines of one more number
pub member_lines_more : (g : ℕ → ℕ × Mark) (k : ℕ) → member_records (map g (range_with_len 0 (k + 1))) ≡ member_records (map g (range_with_len 0 k)) ++ Member k (g k).0 (g k).1 ∷ []
member_lines_more g k =
    let f : ℕ × (ℕ × Mark) → Record = λ x. Member x.0 x.1.0 x.1.1 in
    let so_far = map g (range_with_len 0 k) in
    let count : 0 + length so_far ≡ k = omega (arith, length-map (range_with_len 0 k) g, length-range_with_len 0 k) in
    ap (λ (ms : List (ℕ × Mark)). member_records ms) (map-range_with_len_more g 0 k k (omega arith))
    ∙ ap (λ (xs : List (ℕ × (ℕ × Mark))). map f xs) (enumerate_more 0 k so_far (g k) count)
    ∙ map-append f (enumerate_from 0 so_far) ((k, g k) ∷ [])

-- the record of an element in its place
numbered_at : {X : Type 0} (f : ℕ × X → Record) (xs : List X) (k : ℕ) (d : X) → k < length xs → slice_get (map f (enumerate_from 0 xs)) k ≡ Some (f (k, get_or xs k d))
numbered_at {X} f xs k d below =
    let place : 0 + k ≡ k = omega arith in
    let pair : get_or (enumerate_from 0 xs) k (0, d) ≡ (k, get_or xs k d) = get_or-enumerate_from 0 xs k (0, d) below ∙ ap (λ (n : ℕ). let one : ℕ × X = (n, get_or xs k d) in one) place in
    slice_get-map f (enumerate_from 0 xs) k ∙ ap (option_map f) (slice_get-get_or (enumerate_from 0 xs) k (0, d) (omega (arith, below, length-enumerate_from 0 xs)) ∙ ap Some pair)

pub class_at_place : (births : List (Option (ℕ × ℕ))) (k : ℕ) → k < length births → slice_get (class_records births) k ≡ Some (Class k (get_or births k None))
class_at_place births k below = numbered_at (λ x. Class x.0 x.1) births k None below

pub member_at_place : (g : ℕ → ℕ × Mark) (n k : ℕ) → k < n → slice_get (member_records (map g (range_with_len 0 n))) k ≡ Some (Member k (g k).0 (g k).1)
member_at_place g n k below =
    numbered_at (λ x. Member x.0 x.1.0 x.1.1) (map g (range_with_len 0 n)) k (g k) (omega (arith, below, length-map-range_with_len g 0 n))
    ∙ ap (λ (x : ℕ × Mark). Some (Member k x.0 x.1)) (get_or-map-range_with_len g 0 n k k (g k) below (omega arith))

pub class_count_lines : (births : List (Option (ℕ × ℕ))) → length (class_records births) ≡ length births
class_count_lines births = length-map (enumerate_from 0 births) (λ x. let r : Record = Class x.0 x.1 in r) ∙ length-enumerate_from 0 births

pub member_count_lines : (g : ℕ → ℕ × Mark) (n : ℕ) → length (member_records (map g (range_with_len 0 n))) ≡ n
member_count_lines g n =
    length-map (enumerate_from 0 (map g (range_with_len 0 n))) (λ x. let r : Record = Member x.0 x.1.0 x.1.1 in r) ∙ length-enumerate_from 0 (map g (range_with_len 0 n)) ∙ length-map-range_with_len g 0 n

-- ---- from a class and a mark of each number

pub marked_at_place : (classes : List ℕ) (marks : List Mark) (k : ℕ) → k < length classes → k < length marks → slice_get (member_records (zip classes marks)) k ≡ Some (Member k (get_or classes k 0) (get_or marks k Rep))
marked_at_place classes marks k low below =
    numbered_at (λ x. Member x.0 x.1.0 x.1.1) (zip classes marks) k (0, Rep) (omega (arith, length-zip classes marks))
    ∙ ap (λ (x : ℕ × Mark). Some (Member k x.0 x.1)) (get_or-zip classes marks k (0, Rep) low below)

pub marked_count_lines : (classes : List ℕ) (marks : List Mark) → length marks ≡ length classes → length (member_records (zip classes marks)) ≡ length marks
marked_count_lines classes marks same =
    length-map (enumerate_from 0 (zip classes marks)) (λ x. let r : Record = Member x.0 x.1.0 x.1.1 in r) ∙ length-enumerate_from 0 (zip classes marks) ∙ omega (arith, length-zip classes marks)

-- ---- one more line

module _ (all : List Record) (k : ℕ) (r : Record) (at : slice_get all k ≡ Some r) where
  next_line : take (k + 1) all ≡ take k all ++ r ∷ []
  next_line = take_more all k r (slice_get_within all k r at) ∙ ap (λ (x : Record). take k all ++ x ∷ []) (get_or_from_slice_get all k r r at)

  pub next_text : text_of (take (k + 1) all) ≡ text_of (take k all) ++ text_of (r ∷ [])
  next_text = ap text_of next_line ∙ text-append (take k all) (r ∷ [])

  -- after a text that has the lines before it
  pub text_more : (first : Text) {so_far text : Text} → so_far ≡ first ++ text_of (take k all) → text ≡ so_far ++ text_of (r ∷ []) → text ≡ first ++ text_of (take (k + 1) all)
  text_more first {so_far} {text} before line =
      line ∙ ap (λ (t : Text). t ++ text_of (r ∷ [])) before ∙ append_assoc first (text_of (take k all)) (text_of (r ∷ [])) ∙ ap (λ (t : Text). first ++ t) (sym next_text)
