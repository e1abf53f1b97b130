-- Lists of marked numbers: those of a pair of faults, and of a circuit without faults.
use Rattle.std.proofs.Common.{◌≡◌, ℕ, ◌<◌, List, length, get_or, refl, sym, ◌∙◌, ap, subst, arith, inl, inr}
use Rattle.std.specs.Prelude.{Bool, false, Contains, filter}
use Rattle.std.specs.List.{list_any, range_with_len}
use Rattle.std.proofs.lemmas.Bool.{cases_lt}
use Rattle.std.proofs.lemmas.List.{get_or_past}
use Rattle.std.proofs.lemmas.List.Elements.{Contains-get_or}
use Rattle.std.proofs.lemmas.List.FromFn.{length-range_with_len, get_or-range_with_len}
use Rattle.net_model.specs.declared.fault.Fault.{Fault}
use Rattle.net_model.specs.declared.fault.Fault.TheVariants.{Free}
use Rattle.net_model.specs.Answer.{bit_at}
use Rattle.net_model.specs.Circuit.{Circuit, line_count, all_lines}
use Rattle.net_model.specs.Scope.{leads_to, is_split, is_reached, is_relevant, reached_positions, relevant_lines}
use Rattle.net_model.proofs.Elements.{true_false, Contains-filter, Contains-from_filter}
use Rattle.net_model.proofs.Orders.{Contains-range_from_zero, range-within}
use Rattle.event_queue.specs.Pending.{is_pending}
use Rattle.pair_scope.specs.declared.listed.Listed.{Listed}
use Rattle.pair_scope.specs.Places.{leads_to_shown}
use Rattle.pair_scope.specs.Listed.{AreListed, IsBlank, IsListed}
use Rattle.net_model.proofs.ReachedPositions.{none_reached}
use Rattle.net_model.proofs.ScopeLaws.{none_split}
use Rattle.net_model.proofs.Filtered.{filter_none, filter_same}

-- numbers that pass a test are listed, from a list of all numbers below a count
module _ (count : ℕ) (test : ℕ → Bool) (xs : List ℕ) (a : Listed) where
  pub are_listed : ((n : ℕ) → n < count → Contains xs n) → ((n : ℕ) → Contains xs n → n < count) → IsListed count test (filter test xs) a → AreListed a
  are_listed all inside is = record {
    within = λ k d h.
        let m = subst (λ ys. Contains ys (get_or a.numbers.items k d)) is.numbers (Contains-get_or a.numbers.items k d h) in
        subst (λ n. get_or a.numbers.items k d < n) (sym is.whole) (inside (get_or a.numbers.items k d) (Contains-from_filter test xs (get_or a.numbers.items k d) m).0);
    listed = λ n t. elim (cases_lt n count) [
      | inl below ↦ subst (λ ys. Contains ys n) (sym is.numbers) (Contains-filter test xs n (all n below) (sym (is.marks n below) ∙ t))
      | inr past ↦ true_false (bit_at a.marks.items n) t (get_or_past a.marks.items n false (omega (arith, past, is.whole)))
    ];
    room = omega (arith, is.whole, is.room);
  }

  -- if no number passes, blank marks are right
  pub blank_listed : ((n : ℕ) → test n ≡ false) → IsBlank count a → IsListed count test (filter test xs) a
  blank_listed none blank = record {
    whole = blank.whole;
    marks = λ n h. blank.marks n h ∙ sym (none n);
    numbers = blank.numbers ∙ sym (filter_none test xs none);
    room = blank.room;
  }

pub range_inside : (count n : ℕ) → Contains (range_with_len 0 count) n → n < count
range_inside count n m = omega (arith, (range-within 0 count n m).1)

-- a list stays right for a test that agrees below the count
pub listed_alike : (n count : ℕ) (test other : ℕ → Bool) (a : Listed) → n ≡ count → ((k : ℕ) → k < count → test k ≡ other k)
    → IsListed n test (filter test (range_with_len 0 n)) a → IsListed count other (filter other (range_with_len 0 count)) a
listed_alike n count test other a e alike is =
    let whole = length-range_with_len 0 count in
    let at : (k : ℕ) → k < count → get_or (range_with_len 0 count) k 0 ≡ k = λ k h. get_or-range_with_len 0 count k 0 h ∙ omega arith in
    record {
      whole = is.whole ∙ e;
      marks = λ k h. is.marks k (omega (arith, h, e)) ∙ alike k h;
      numbers = is.numbers ∙ ap (λ m. filter test (range_with_len 0 m)) e
          ∙ filter_same test other (range_with_len 0 count) (λ k h. alike (get_or (range_with_len 0 count) k 0) (let below : k < count = omega (arith, h, whole) in omega (arith, at k below, below)));
      room = omega (arith, is.room, e);
    }

module _ (c : Circuit) (f g : Fault) (a : Listed) where
  pub reached_are_listed : IsListed (length c.positions) (is_reached c f g) (reached_positions c f g) a → AreListed a
  unfolding reached_positions
  reached_are_listed is = are_listed (length c.positions) (is_reached c f g) (range_with_len 0 (length c.positions)) a (Contains-range_from_zero (length c.positions)) (range_inside (length c.positions)) is

  pub relevant_are_listed : IsListed (line_count c) (is_relevant c f g) (relevant_lines c f g) a → AreListed a
  unfolding relevant_lines
  relevant_are_listed is = are_listed (line_count c) (is_relevant c f g) (all_lines c) a (Contains-range_from_zero (line_count c)) (range_inside (line_count c)) is

  pub reached_alike : (queue : List Bool) → length queue ≡ length c.positions → ((k : ℕ) → k < length c.positions → is_pending queue k ≡ is_reached c f g k)
      → IsListed (length queue) (is_pending queue) (filter (is_pending queue) (range_with_len 0 (length queue))) a → IsListed (length c.positions) (is_reached c f g) (reached_positions c f g) a
  unfolding reached_positions
  reached_alike queue e alike is = listed_alike (length queue) (length c.positions) (is_pending queue) (is_reached c f g) a e alike is

  pub relevant_alike : (queue : List Bool) → length queue ≡ line_count c → ((k : ℕ) → k < line_count c → is_pending queue k ≡ is_relevant c f g k)
      → IsListed (length queue) (is_pending queue) (filter (is_pending queue) (range_with_len 0 (length queue))) a → IsListed (line_count c) (is_relevant c f g) (relevant_lines c f g) a
  unfolding relevant_lines
  relevant_alike queue e alike is = listed_alike (length queue) (line_count c) (is_pending queue) (is_relevant c f g) a e alike is

-- what leads to the reached positions is relevant
pub shown_relevant : (c : Circuit) (f g : Fault) (positions : List ℕ) → positions ≡ reached_positions c f g → (line : ℕ) → leads_to_shown c positions line ≡ is_relevant c f g line
unfolding is_relevant
shown_relevant c f g positions e line = ap (λ xs. leads_to_shown c xs line) e

-- ---- without faults

module _ (c : Circuit) where
  none_relevant : (line : ℕ) → is_relevant c Free Free line ≡ false
  unfolding is_relevant reached_positions
  none_relevant line = ap (list_any (λ at. leads_to c line (get_or c.positions at 0))) (filter_none (is_reached c Free Free) (range_with_len 0 (length c.positions)) (none_reached c))

  pub free_split : (lines : List ℕ) (a : Listed) → IsBlank (line_count c) a → IsListed (line_count c) (is_split c Free Free) (filter (is_split c Free Free) lines) a
  free_split lines a blank = blank_listed (line_count c) (is_split c Free Free) lines a (λ n. none_split c Free Free n refl refl) blank

  pub free_reached : (a : Listed) → IsBlank (length c.positions) a → IsListed (length c.positions) (is_reached c Free Free) (reached_positions c Free Free) a
  unfolding reached_positions
  free_reached a blank = blank_listed (length c.positions) (is_reached c Free Free) (range_with_len 0 (length c.positions)) a (none_reached c) blank

  pub free_relevant : (a : Listed) → IsBlank (line_count c) a → IsListed (line_count c) (is_relevant c Free Free) (relevant_lines c Free Free) a
  unfolding relevant_lines
  free_relevant a blank = blank_listed (line_count c) (is_relevant c Free Free) (all_lines c) a none_relevant blank
