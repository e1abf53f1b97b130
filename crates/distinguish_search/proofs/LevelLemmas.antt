-- The levels that are set so far.
use Rattle.std.proofs.Common.{◌≡◌, ◌≢◌, ◌∙◌, ℕ, suc, ◌+◌, ◌<◌, ◌≤◌, ◌^◌, inl, inr, max, List, [], ◌∷◌, length, take, set, get_or, refl, sym, ap, subst, arith, length-take, get_or-take}
use Rattle.std.specs.Prelude.{fold, replicate, Contains, Some}
use Rattle.std.proofs.lemmas.Bool.{cases_eq}
use Rattle.std.proofs.lemmas.List.{take_more, take_all, length-set, length-replicate, get_or-set_same, get_or-set_other}
use Rattle.std.proofs.lemmas.List.Elements.{Contains-push_cases}
use Rattle.std.proofs.lemmas.Option.{slice_get-get_or}
use Rattle.net_model.specs.Circuit.{Circuit, IsCircuit, line_count, pins_of, Feeds}
use Rattle.net_model.specs.Order.{IsOrder}
use Rattle.net_model.proofs.Elements.{get_or-replicate_anywhere}
use Rattle.net_model.proofs.Orders.{order_has, order_only, order_count}
use Rattle.net_model.proofs.SetSoFar.{fits_from}
use Rattle.distinguish_search.specs.Levels.{level_at, highest_level, AreLevels}

-- ---- the highest of some levels

abbrev highest_from : List ℕ → ℕ → List ℕ → ℕ
highest_from levels from lines = fold (λ highest line. max highest (level_at levels line)) from lines

same_highest : (xs ys : List ℕ) (from : ℕ) (lines : List ℕ) → ((line : ℕ) → Contains lines line → level_at xs line ≡ level_at ys line) → highest_from xs from lines ≡ highest_from ys from lines
same_highest xs ys from [] same = refl
same_highest xs ys from (line ∷ lines) same =
    ap (λ highest. highest_from xs (max from highest) lines) (same line (0, omega arith, refl))
    ∙ same_highest xs ys (max from (level_at ys line)) lines (λ other (k, within, there). same other (suc k, omega arith, there))

highest_low : (levels : List ℕ) (bound from : ℕ) (lines : List ℕ) → from ≤ bound → ((line : ℕ) → level_at levels line ≤ bound) → highest_from levels from lines ≤ bound
highest_low levels bound from [] h low = h
highest_low levels bound from (line ∷ lines) h low = highest_low levels bound (max from (level_at levels line)) lines (omega (arith, h, low line)) low

-- ---- the first gates of an order

-- The sources and the first `i` gates of the order have their levels, and no level is above `i`.
pub record LevelsSoFar (c : Circuit) (order : List ℕ) (i : ℕ) (levels : List ℕ) : Type 0 where
  pub whole : length levels ≡ line_count c
  pub low : (line : ℕ) → level_at levels line ≤ i
  pub sources : (line : ℕ) → line < c.sources → level_at levels line ≡ 0
  pub gates : (line : ℕ) → Contains (take i order) line → level_at levels line ≡ highest_level levels (pins_of c line) + 1

pub levels_none : (c : Circuit) (order : List ℕ) → LevelsSoFar c order 0 (replicate (line_count c) 0)
levels_none c order = record {
  whole = length-replicate (line_count c) 0;
  low = λ line. omega (arith, get_or-replicate_anywhere {A = ℕ} (line_count c) line 0);
  sources = λ line source. get_or-replicate_anywhere (line_count c) line 0;
  gates = λ line (k, within, there). absurd (omega (arith, within));
}

module _ (c : Circuit) (w : IsCircuit c) (order : List ℕ) (is : IsOrder c order) (i : ℕ) (levels : List ℕ) (so_far : LevelsSoFar c order i levels) where
  module _ (h : i < length order) where
    abbrev here : ℕ
    here = get_or order i 0

    abbrev level : ℕ
    level = highest_level levels (pins_of c here) + 1

    abbrev later : List ℕ
    later = set levels here level

    range : (c.sources ≤ here) × (here < line_count c)
    range = order_only c (fits_from c w) order is i h

    -- none of the first gates, up to this one, reads this one's line
    set_before : (reader pin : ℕ) → Contains (take (i + 1) order) reader → Feeds c pin reader → pin ≢ here
    set_before reader pin (k, within, there) feeds same =
        let cut = length-take (i + 1) order in
        let short : k < i + 1 = omega (arith, within, cut) in
        let long : k < length order = omega (arith, within, cut) in
        let at : get_or order k reader ≡ reader = sym (get_or-take (i + 1) order k reader short) ∙ there in
        let before : i < k = is.sorted k i here reader (slice_get-get_or order k reader long ∙ ap Some at) (subst (λ n. Feeds c n reader) same feeds) range.0 (slice_get-get_or order i 0 h) in
        omega (arith, before, short)

    level_here : level_at later here ≡ level
    level_here = get_or-set_same levels here level 0 (omega (arith, range.1, so_far.whole))

    level_other : (line : ℕ) → line ≢ here → level_at later line ≡ level_at levels line
    level_other line ne = get_or-set_other levels here line level 0 ne

    highest_same : (reader : ℕ) → Contains (take (i + 1) order) reader → highest_level later (pins_of c reader) ≡ highest_level levels (pins_of c reader)
    highest_same reader has = same_highest later levels 0 (pins_of c reader) (λ pin feeds. level_other pin (set_before reader pin has feeds))

    pub level_low : level ≤ i + 1
    level_low = omega (arith, highest_low levels i 0 (pins_of c here) (omega arith) so_far.low)

    pub level_fits : level < 2 ^ 32
    level_fits = omega (arith, level_low, h, order_count c (fits_from c w) order is, w.small)

    pub levels_more : LevelsSoFar c order (i + 1) later
    levels_more = record {
      whole = length-set levels here level ∙ so_far.whole;
      low = λ line. elim (cases_eq line here) [
        | inl same ↦ omega (arith, ap (level_at later) same ∙ level_here, level_low)
        | inr ne ↦ omega (arith, level_other line ne, so_far.low line)
      ];
      sources = λ line source. level_other line (omega (arith, source, range.0)) ∙ so_far.sources line source;
      gates = λ line has. elim (cases_eq line here) [
        | inl same ↦ ap (level_at later) same ∙ level_here ∙ ap (λ n. highest_level levels (pins_of c n) + 1) (sym same) ∙ ap (λ n. n + 1) (sym (highest_same line has))
        | inr ne ↦ elim (Contains-push_cases (take i order) here line (rw (take_more order i 0 h) at has)) [
          | inl earlier ↦ level_other line ne ∙ so_far.gates line earlier ∙ ap (λ n. n + 1) (sym (highest_same line has))
          | inr same ↦ absurd (ne (sym same))
        ]
      ];
    }

  -- once all gates are set, each line has its level
  pub levels_all : length order ≤ i → AreLevels c levels
  levels_all past = record {
    whole = so_far.whole;
    sources = so_far.sources;
    gates = λ line above below. so_far.gates line (rw (take_all i order past) (order_has c (fits_from c w) order is line above below));
  }
