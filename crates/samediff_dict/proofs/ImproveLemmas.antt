-- The third step ends, and no step loses pairs.
use Rattle.std.proofs.Common.{◌≡◌, ℕ, zero, suc, ◌+◌, ◌*◌, ◌<◌, ◌≤◌, Bool, ltb, List, Option, Some, None, refl, sym, arith, inl, inr}
use Rattle.std.specs.Option.{option_map_or}
use Rattle.std.proofs.lemmas.Bool.{cases_Bool, ltb-true, ltb-false}
use Rattle.net_model.specs.ClassTable.{ClassTable, class_count}
use Rattle.net_model.proofs.Elements.{found_passes}
use Rattle.dict_rows.specs.Entries.{same_diff_entry, free_baselines}
use Rattle.table_dicts.specs.Apart.{has_apart, apart_count}
use Rattle.samediff_dict.specs.Chosen.{pairs_apart, greedy_baselines, better_baselines, replacements, improvement, improved_baselines, chosen_baselines}
use Rattle.samediff_dict.specs.Laws.{NoneIsLeft, KeepsAsMany}
use Rattle.samediff_dict.proofs.PairLemmas.{pairs_to, pairs_are, pairs-few}

pub pairs_apart_are : (t : ClassTable) (rows : List (List (List Bool))) (baselines : List (List Bool)) → pairs_apart t rows baselines ≡ pairs_to (class_count t) (has_apart t (same_diff_entry rows baselines))
unfolding pairs_apart apart_count
pairs_apart_are t rows baselines = pairs_are (class_count t) (has_apart t (same_diff_entry rows baselines))

module _ (t : ClassTable) (rows : List (List (List Bool))) where
  abbrev score : List (List Bool) → ℕ
  score baselines = pairs_apart t rows baselines

  abbrev all : ℕ
  all = class_count t * class_count t

  pub score-few : (baselines : List (List Bool)) → pairs_apart t rows baselines ≤ class_count t * class_count t
  score-few baselines = omega (arith, pairs_apart_are t rows baselines, pairs-few (class_count t) (has_apart t (same_diff_entry rows baselines)))

  pub improves : (baselines other : List (List Bool)) → improvement t rows baselines ≡ Some other → pairs_apart t rows baselines < pairs_apart t rows other
  unfolding improvement
  improves baselines other e = ltb-true (score baselines) (score other) (found_passes (λ o. ltb (score baselines) (score o)) (replacements t rows baselines) other e)

  -- one step, by what the improvement is
  enough_step : (m n : ℕ) (baselines : List (List Bool)) (o : Option (List (List Bool))) → improvement t rows baselines ≡ o
      → ((other : List (List Bool)) → pairs_apart t rows baselines < pairs_apart t rows other → improved_baselines t rows m other ≡ improved_baselines t rows n other)
      → option_map_or (improved_baselines t rows m) o baselines ≡ option_map_or (improved_baselines t rows n) o baselines
  enough_step m n baselines None e more = refl
  enough_step m n baselines (Some other) e more = more other (improves baselines other e)

  none_more : (n : ℕ) (baselines : List (List Bool)) (o : Option (List (List Bool))) → improvement t rows baselines ≡ o → class_count t * class_count t ≤ pairs_apart t rows baselines
      → option_map_or (improved_baselines t rows n) o baselines ≡ baselines
  none_more n baselines None e h = refl
  none_more n baselines (Some other) e h = absurd (omega (arith, improves baselines other e, score-few other, h))

  -- with enough replacements left, it does not matter how many
  pub improved_enough : (m n : ℕ) (baselines : List (List Bool)) → class_count t * class_count t ≤ m + pairs_apart t rows baselines → class_count t * class_count t ≤ n + pairs_apart t rows baselines
      → improved_baselines t rows m baselines ≡ improved_baselines t rows n baselines
  improved_enough zero zero baselines hm hn = refl
  improved_enough zero (suc n) baselines hm hn = sym (none_more n baselines (improvement t rows baselines) refl (omega (arith, hm)))
  improved_enough (suc m) zero baselines hm hn = none_more m baselines (improvement t rows baselines) refl (omega (arith, hn))
  improved_enough (suc m) (suc n) baselines hm hn =
      enough_step m n baselines (improvement t rows baselines) refl (λ other more. improved_enough m n other (omega (arith, hm, more)) (omega (arith, hn, more)))

  done_step : (n : ℕ) (baselines : List (List Bool)) (o : Option (List (List Bool))) → improvement t rows baselines ≡ o
      → ((other : List (List Bool)) → pairs_apart t rows baselines < pairs_apart t rows other → improvement t rows (improved_baselines t rows n other) ≡ None)
      → improvement t rows (option_map_or (improved_baselines t rows n) o baselines) ≡ None
  done_step n baselines None e more = e
  done_step n baselines (Some other) e more = more other (improves baselines other e)

  full_none : (baselines : List (List Bool)) (o : Option (List (List Bool))) → improvement t rows baselines ≡ o → class_count t * class_count t ≤ pairs_apart t rows baselines → o ≡ None
  full_none baselines None e h = refl
  full_none baselines (Some other) e h = absurd (omega (arith, improves baselines other e, score-few other, h))

  pub improved_done : (n : ℕ) (baselines : List (List Bool)) → class_count t * class_count t ≤ n + pairs_apart t rows baselines → improvement t rows (improved_baselines t rows n baselines) ≡ None
  improved_done zero baselines h = full_none baselines (improvement t rows baselines) refl (omega (arith, h))
  improved_done (suc n) baselines h = done_step n baselines (improvement t rows baselines) refl (λ other more. improved_done n other (omega (arith, h, more)))

  keeps_step : (n : ℕ) (baselines : List (List Bool)) (o : Option (List (List Bool))) → improvement t rows baselines ≡ o
      → ((other : List (List Bool)) → pairs_apart t rows other ≤ pairs_apart t rows (improved_baselines t rows n other))
      → pairs_apart t rows baselines ≤ pairs_apart t rows (option_map_or (improved_baselines t rows n) o baselines)
  keeps_step n baselines None e more = omega arith
  keeps_step n baselines (Some other) e more = omega (arith, improves baselines other e, more other)

  pub improved_keeps : (n : ℕ) (baselines : List (List Bool)) → pairs_apart t rows baselines ≤ pairs_apart t rows (improved_baselines t rows n baselines)
  improved_keeps zero baselines = omega arith
  improved_keeps (suc n) baselines = keeps_step n baselines (improvement t rows baselines) refl (λ other. improved_keeps n other)

  pub better_keeps : pairs_apart t rows (free_baselines rows) ≤ pairs_apart t rows (better_baselines t rows)
  unfolding better_baselines
  better_keeps = elim (cases_Bool (ltb (score (greedy_baselines t rows)) (score (free_baselines rows)))) [
    | inl so ↦ rw so (omega arith)
    | inr not_so ↦ rw not_so (ltb-false (score (greedy_baselines t rows)) (score (free_baselines rows)) not_so)
  ]

pub none_left : NoneIsLeft
unfolding chosen_baselines
none_left t rows = improved_done t rows (class_count t * class_count t) (better_baselines t rows) (omega arith)

pub keeps : KeepsAsMany
unfolding chosen_baselines
keeps t rows = omega (arith, better_keeps t rows, improved_keeps t rows (class_count t * class_count t) (better_baselines t rows))
