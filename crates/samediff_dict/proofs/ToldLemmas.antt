-- Pairs apart by groups: two classes have the same entry exactly if each baseline is the answer of both or of neither.
use Rattle.std.proofs.Common.{◌≡◌, ◌∙◌, ℕ, ◌+◌, ◌<◌, Bool, true, false, not, eqb, ◌&&◌, List, [], length, get_or, refl, sym, ap, arith, Decides}
use Rattle.std.specs.Bool.{beq}
use Rattle.std.proofs.lemmas.Bool.{eqb-true, eq-eqb, and_parts, and_from}
use Rattle.std.proofs.lemmas.Bool.Decides.{same_from_decides}
use Rattle.std.proofs.lemmas.List.{get_or-map, length-map}
use Rattle.net_model.specs.Answer.{bit_at}
use Rattle.net_model.specs.ClassTable.{ClassTable, class_count, representative, same_bits}
use Rattle.net_model.proofs.Copies.{same_bits_same_list}
use Rattle.dict_rows.specs.AnswerTable.{answer_in}
use Rattle.dict_rows.specs.Entries.{answers_of, same_diff_entry}
use Rattle.table_dicts.specs.Apart.{has_apart}
use Rattle.dict_rows.proofs.EntryLemmas.{same_bits-Decides, length-differences, difference_at}
use Rattle.samediff_dict.specs.Chosen.{pairs_apart}
use Rattle.samediff_dict.specs.Numbered.{answers_base, AlikeFrom}
use Rattle.samediff_dict.specs.declared.partition.Partition.{Partition}
use Rattle.samediff_dict.specs.PlaceGroups.{gain_at, pairs_where, tells_apart}
use Rattle.samediff_dict.specs.Partition.{group_in, are_together, IsPartition, pairs_between}
use Rattle.samediff_dict.proofs.PairLemmas.{one_if, pairs_to, pairs_are, pairs_same, pairs_both}
use Rattle.samediff_dict.proofs.ImproveLemmas.{pairs_apart_are}

not_once : (a b : Bool) → not a ≡ not b → a ≡ b
not_once true true e = refl
not_once true false e = absurd (cc)
not_once false true e = absurd (cc)
not_once false false e = refl

pub same_beq : (a b : Bool) → beq a b ≡ true → a ≡ b
same_beq true true e = refl
same_beq true false e = absurd (cc)
same_beq false true e = absurd (cc)
same_beq false false e = refl

pub beq_same : (a b : Bool) → a ≡ b → beq a b ≡ true
beq_same true true e = refl
beq_same true false e = absurd (cc)
beq_same false true e = absurd (cc)
beq_same false false e = refl

part : (g b : Bool) → one_if (not g) + one_if (g && not b) ≡ one_if (not (g && b))
part true true = refl
part true false = refl
part false b = refl

pub together_decides : {n : ℕ} {together : ℕ → ℕ → Type 0} {p : Partition} → IsPartition n together p → (low high : ℕ) → low < n → high < n → Decides (are_together p low high) (together low high)
together_decides {n} {together} {p} is low high hl hh = (
  λ so. is.together_are low high hl hh (eqb-true (group_in p low) (group_in p high) so),
  λ alike. eq-eqb (group_in p low) (group_in p high) (is.same low high hl hh alike),
)

module _ (t : ClassTable) (rows : List (List (List Bool))) (baselines : List (List Bool)) (long : length baselines ≡ length rows) where
  entry_bit : (class pattern : ℕ) → pattern < length rows → bit_at (same_diff_entry rows baselines (representative t class)) pattern ≡ not (answers_base t rows baselines pattern class)
  entry_bit class pattern h =
      let answer : List (List Bool) → List Bool = λ row. answer_in row (representative t class) in
      difference_at (answers_of rows (representative t class)) baselines pattern (length-map rows answer ∙ sym long) (omega (arith, h, length-map rows answer))
      ∙ ap (λ (a : List Bool). not (same_bits a (get_or baselines pattern []))) (get_or-map answer rows pattern [] [] h)

  length-entry : (class : ℕ) → length (same_diff_entry rows baselines (representative t class)) ≡ length rows
  length-entry class =
      let answer : List (List Bool) → List Bool = λ row. answer_in row (representative t class) in
      length-differences (answers_of rows (representative t class)) baselines (length-map rows answer ∙ sym long) ∙ length-map rows answer

  pub same_entries : (low high : ℕ) → Decides (same_bits (same_diff_entry rows baselines (representative t low)) (same_diff_entry rows baselines (representative t high))) (AlikeFrom t rows baselines 0 (length rows) low high)
  same_entries low high =
      let a = same_diff_entry rows baselines (representative t low) in
      let b = same_diff_entry rows baselines (representative t high) in
      let test = same_bits-Decides a b in (
        λ so pattern from below. not_once (answers_base t rows baselines pattern low) (answers_base t rows baselines pattern high) (sym (entry_bit low pattern below) ∙ (ap (λ (e : List Bool). bit_at e pattern) (test.0 so) ∙ entry_bit high pattern below)),
        λ alike. test.1 (same_bits_same_list a b (length-entry low ∙ sym (length-entry high))
            (λ pattern h. let below : pattern < length rows = omega (arith, h, length-entry low) in
            entry_bit low pattern below ∙ (ap not (alike pattern (omega arith) below) ∙ sym (entry_bit high pattern below)))),
      )

  -- counted by any test of that
  apart_by : (same : ℕ → ℕ → Bool) → ((low high : ℕ) → low < class_count t → high < class_count t → Decides (same low high) (AlikeFrom t rows baselines 0 (length rows) low high))
      → pairs_apart t rows baselines ≡ pairs_to (class_count t) (λ low high. not (same low high))
  apart_by same decides =
      pairs_apart_are t rows baselines
      ∙ pairs_same (class_count t) (has_apart t (same_diff_entry rows baselines)) (λ low high. not (same low high))
      (λ low high l h. ap not (same_from_decides (same_bits (same_diff_entry rows baselines (representative t low)) (same_diff_entry rows baselines (representative t high))) (same low high)
      (same_entries low high) (decides low high (omega (arith, l, h)) h)))

  -- by a test of what is alike in all baselines
  apart_between : (same : ℕ → ℕ → Bool) → ((low high : ℕ) → low < class_count t → high < class_count t → Decides (same low high) (AlikeFrom t rows baselines 0 (length rows) low high))
      → pairs_apart t rows baselines ≡ pairs_between (class_count t) same
  unfolding pairs_between
  apart_between same decides = apart_by same decides ∙ sym (pairs_are (class_count t) (λ low high. not (same low high)))

  -- by groups of classes that are alike in all baselines
  pub apart_by_groups : (p : Partition) → IsPartition (class_count t) (AlikeFrom t rows baselines 0 (length rows)) p → pairs_apart t rows baselines ≡ pairs_between (class_count t) (are_together p)
  apart_by_groups p is = apart_between (are_together p) (λ low high hl hh. together_decides is low high hl hh)

  -- by a test of what is alike in all other baselines, and which classes answer that of one pattern
  pub apart_by_gain : (together : ℕ → ℕ → Bool) (others : ℕ → ℕ → Type 0) (answers : List ℕ) (answer pattern : ℕ)
      → ((low high : ℕ) → low < class_count t → high < class_count t → Decides (together low high) (others low high)) → length answers ≡ class_count t
      → ((class : ℕ) → class < class_count t → eqb (get_or answers class 0) answer ≡ answers_base t rows baselines pattern class)
      → ((low high : ℕ) → low < class_count t → high < class_count t → AlikeFrom t rows baselines 0 (length rows) low high → others low high × (answers_base t rows baselines pattern low ≡ answers_base t rows baselines pattern high))
      → ((low high : ℕ) → low < class_count t → high < class_count t → others low high × (answers_base t rows baselines pattern low ≡ answers_base t rows baselines pattern high) → AlikeFrom t rows baselines 0 (length rows) low high)
      → pairs_apart t rows baselines ≡ pairs_between (class_count t) together + gain_at together answers answer
  unfolding pairs_between gain_at
  apart_by_gain together others answers answer pattern decides many here into out =
      let n = class_count t in
      let it : ℕ → Bool = λ class. eqb (get_or answers class 0) answer in
      let same : ℕ → ℕ → Bool = λ low high. together low high && beq (it low) (it high) in
      apart_by same (λ low high hl hh. (
        λ so.
            let both = and_parts (together low high) (beq (it low) (it high)) so in
            out low high hl hh ((decides low high hl hh).0 both.0, sym (here low hl) ∙ (same_beq (it low) (it high) both.1 ∙ here high hh)),
        λ alike.
            let both = into low high hl hh alike in
            and_from (together low high) (beq (it low) (it high)) ((decides low high hl hh).1 both.0) (beq_same (it low) (it high) (here low hl ∙ (both.1 ∙ sym (here high hh)))),
      ))
      ∙ (sym (pairs_both n (λ low high. not (together low high)) (tells_apart together answers answer) (λ low high. not (same low high)) (λ low high l h. part (together low high) (beq (it low) (it high))))
      ∙ ((λ i. sym (pairs_are n (λ low high. not (together low high))) i + sym (pairs_are n (tells_apart together answers answer)) i)
      ∙ ap (λ m. pairs_where n (λ low high. not (together low high)) + pairs_where m (tells_apart together answers answer)) (sym many)))
