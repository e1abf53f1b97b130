-- What lines say of the entries of a dictionary, one line after another.
use Rattle.std.proofs.Common.{◌≡◌, ◌∙◌, ℕ, ◌+◌, ◌*◌, ◌<◌, ◌≤◌, Bool, true, false, cond, ltb, List, [], ◌∷◌, map, length, get_or, take, drop, refl, sym, ap, subst, arith}
use Rattle.std.specs.Prelude.{All, Some, slice_get, nat_lt}
use Rattle.std.proofs.lemmas.Bool.{lt-ltb}
use Rattle.std.proofs.lemmas.List.{length-map, get_or-map, take-append-drop, take_all}
use Rattle.std.proofs.lemmas.List.Elements.{Contains-get_or}
use Rattle.std.proofs.lemmas.List.FromFn.{fill_by_all}
use Rattle.std.proofs.lemmas.List.Kept.{AllPairs-from_increasing}
use Rattle.std.proofs.lemmas.List.Sums.{sum_by_more}
use Rattle.std.proofs.lemmas.Nat.{mul-le}
use Rattle.std.proofs.lemmas.Option.{get_or_from_slice_get, slice_get_within}
use Rattle.net_model.specs.Answer.{bit_at}
use Rattle.dict_rows.specs.declared.dict.Dict.{Dict}
use Rattle.dict_rows.specs.declared.dict.DictKind.{DictKind}
use Rattle.dict_rows.specs.declared.dict.DictKind.TheVariants.{PassFail, Full, SameDiff}
use Rattle.dict_rows.specs.Dictionary.{entry_of, entry_width, baseline_count, IsGroupedDict, IsShaped}
use Rattle.ranked_diag.specs.declared.partial.Seen.{Seen}
use Rattle.ranked_diag.specs.declared.seen_word.SeenWord.{SeenWord}
use Rattle.ranked_diag.specs.Seen.{differs, differing_bits}
use Rattle.ranked_diag.specs.PartialLog.{Line, patterns_of, ArePartial}
use Rattle.ranked_diag.specs.Mismatches.{seen_part, part_width, line_mismatches, entry_mismatches, mismatch_count, mismatch_counts}
use Rattle.ranked_diag.specs.SeenWords.{seen_mismatches, AreSeenBefore, IsSeenToo, AreWordsOf}
use Rattle.ranked_diag.proofs.SeenLemmas.{one_differs, differing-cons, differing-append, differing-more, nothing_before, before_more}

-- ---- some bit that differs

some_bit : (s : Seen) (bit : Bool) → differs s bit ≡ true → one_differs (s, bit) ≡ 1
some_bit s bit e = ap (λ (b : Bool). cond {A = ℕ} b 1 0) e

none_bit : (s : Seen) (bit : Bool) → differs s bit ≡ false → one_differs (s, bit) ≡ 0
none_bit s bit e = ap (λ (b : Bool). cond {A = ℕ} b 1 0) e

module _ (seen : List Seen) (bits : List Bool) (k : ℕ) (s : Seen) (bit : Bool) (wide : length bits ≡ length seen) (inside : k < length seen) (here : get_or seen k s ≡ s) (is : bit ≡ bit_at bits k) where
  one_more : differing_bits (take (k + 1) seen) bits ≡ differing_bits (take k seen) bits + one_differs (s, bit)
  one_more = differing-more seen k s bits inside (omega (arith, inside, wide)) here ∙ ap (λ (b : Bool). differing_bits (take k seen) bits + one_differs (s, b)) (sym is)

  pub some-differ : true ≡ differs s bit → true ≡ nat_lt 0 (differing_bits seen bits)
  some-differ differ =
      let one = some_bit s bit (sym differ) in
      let whole : differing_bits seen bits ≡ differing_bits (take (k + 1) seen) bits + differing_bits (drop (k + 1) seen) (drop (length (take (k + 1) seen)) bits) =
      ap (λ (xs : List Seen). differing_bits xs bits) (sym (take-append-drop (k + 1) seen)) ∙ differing-append (take (k + 1) seen) (drop (k + 1) seen) bits in
      sym (lt-ltb 0 (differing_bits seen bits) (omega (arith, one_more, one, whole)))

  pub none-differs_more : false ≡ differs s bit → differing_bits (take k seen) bits ≡ 0 → differing_bits (take (k + 1) seen) bits ≡ 0
  none-differs_more same none = let no = none_bit s bit (sym same) in omega (arith, one_more, no, none)

pub none-differs_all : (seen : List Seen) (bits : List Bool) (k : ℕ) → length seen ≤ k → differing_bits (take k seen) bits ≡ 0 → false ≡ nat_lt 0 (differing_bits seen bits)
none-differs_all seen bits k past none = sym (ap (λ (n : ℕ). ltb 0 n) (sym (ap (λ (xs : List Seen). differing_bits xs bits) (take_all k seen past)) ∙ none))

-- ---- parts of an entry

differing-take : (seen : List Seen) (bits : List Bool) → differing_bits seen (take (length seen) bits) ≡ differing_bits seen bits
differing-take [] bits = refl
differing-take (s ∷ seen) [] = refl
differing-take (s ∷ seen) (bit ∷ bits) =
    differing-cons s bit seen (take (length seen) bits) ∙ (ap (λ (n : ℕ). one_differs (s, bit) + n) (differing-take seen bits) ∙ sym (differing-cons s bit seen bits))

pub part-wide : (kind : DictKind) (baselines : List (List Bool)) (positions : ℕ) (line : Line) → length line.1 ≡ positions → length (seen_part kind baselines line) ≡ part_width kind positions
part-wide PassFail baselines positions line wide = refl
part-wide Full baselines positions line wide = wide
part-wide SameDiff baselines positions line wide = refl

parts_wide : (kind : DictKind) (patterns positions : ℕ) → entry_width kind patterns positions ≡ patterns * part_width kind positions
parts_wide PassFail patterns positions = omega arith
parts_wide Full patterns positions = refl
parts_wide SameDiff patterns positions = omega arith

baseline-there : (kind : DictKind) (patterns positions pattern : ℕ) (baselines : List (List Bool)) → (kind ≡ Full → ⊥) → length baselines ≡ baseline_count kind patterns → pattern < patterns → pattern < length baselines
baseline-there PassFail patterns positions pattern baselines other count below = omega (arith, count, below)
baseline-there Full patterns positions pattern baselines other count below = absurd (other refl)
baseline-there SameDiff patterns positions pattern baselines other count below = omega (arith, count, below)

-- ---- words that have what some lines say

module _ (d : Dict) (lines : List Line) where
  abbrev width : ℕ
  width = part_width d.kind d.positions

  abbrev pattern : ℕ → ℕ
  pattern k = get_or (patterns_of lines) k 0

  -- The words have what the first `count` lines say, and nothing after it.
  pub record AreWordsSoFar (count : ℕ) (words : List SeenWord) : Type 0 where
    pub before : (place : ℕ) → ((k : ℕ) → k < count → (pattern k + 1) * width ≤ place) → AreSeenBefore place words
    pub counts : (entry : List Bool) → length entry ≡ entry_width d.kind d.patterns d.positions → seen_mismatches words entry ≡ entry_mismatches d (take count lines) entry

  pub words_none : AreWordsSoFar 0 []
  words_none = record { before = λ place past. nothing_before place; counts = λ entry wide. refl }

  module _ (are : ArePartial d.patterns d.positions lines) where
    named : length (patterns_of lines) ≡ length lines
    named = length-map lines (λ (line : Line). line.0)

    pattern-below : (k : ℕ) → k < length lines → pattern k < d.patterns
    pattern-below k h = are.order.below k 0 (omega (arith, h, named))

    pattern-rises : (j k : ℕ) → j < k → k < length lines → pattern j < pattern k
    pattern-rises j k less h = AllPairs-from_increasing (patterns_of lines) are.order.ascend j k 0 less (omega (arith, h, named))

    part-ends : (p q : ℕ) → p < q → (p + 1) * width ≤ q * width
    part-ends p q less = mul-le (p + 1) width q width (omega (arith, less)) (omega arith)

    module _ (count : ℕ) (line : Line) (there : slice_get lines count ≡ Some line) where
      inside : count < length lines
      inside = slice_get_within lines count line there

      own_pattern : pattern count ≡ line.0
      own_pattern = get_or-map (λ (l : Line). l.0) lines count line 0 inside ∙ ap (λ (l : Line). l.0) (get_or_from_slice_get lines count line line there)

      pub line_pattern : line.0 < d.patterns
      line_pattern = omega (arith, own_pattern, pattern-below count inside)

      pub line_wide : length line.1 ≡ d.positions
      line_wide = subst (λ (l : Line). length l.1 ≡ d.positions) (get_or_from_slice_get lines count line line there) (are.wide count line inside)

      pub line_before : (words : List SeenWord) → AreWordsSoFar count words → AreSeenBefore (line.0 * width) words
      line_before words so_far = so_far.before (line.0 * width) (λ k h. part-ends (pattern k) line.0 (omega (arith, pattern-rises k count h inside, own_pattern)))

      pub words_more : (old new : List SeenWord) → AreWordsSoFar count old → IsSeenToo old new (line.0 * width) (seen_part d.kind d.baselines line) → AreWordsSoFar (count + 1) new
      words_more old new so_far too =
          let part = seen_part d.kind d.baselines line in
          let size : length part ≡ width = part-wide d.kind d.baselines d.positions line line_wide in
          record {
            before = λ place past.
                let own = past count (omega arith) in
                let end : (pattern count + 1) * width ≡ line.0 * width + width = ap (λ (n : ℕ). (n + 1) * width) own_pattern ∙ omega arith in
                before_more (line.0 * width + length part) place new too.before (omega (arith, own, end, size));
            counts = λ entry wide.
                let ends = part-ends line.0 d.patterns line_pattern in
                let room : line.0 * width + length part ≤ length entry = omega (arith, ends, size, wide, parts_wide d.kind d.patterns d.positions) in
                let part_is : differing_bits part (drop (line.0 * width) entry) ≡ line_mismatches d entry line =
                sym (ap (λ (n : ℕ). differing_bits part (take n (drop (line.0 * width) entry))) (sym size) ∙ differing-take part (drop (line.0 * width) entry)) in
                let one : line_mismatches d entry (get_or lines count line) ≡ line_mismatches d entry line = ap (line_mismatches d entry) (get_or_from_slice_get lines count line line there) in
                omega (arith, too.counts entry room, so_far.counts entry wide, part_is, one, sum_by_more (line_mismatches d entry) lines count line inside);
          }

    pub words_all : (count : ℕ) (words : List SeenWord) → AreWordsSoFar count words → length lines ≤ count → count ≤ length lines → AreWordsOf d lines words
    words_all count words so_far past within =
        let whole = parts_wide d.kind d.patterns d.positions in
        record {
          before = so_far.before (entry_width d.kind d.patterns d.positions) (λ k h. omega (arith, part-ends (pattern k) d.patterns (pattern-below k (omega (arith, h, within))), whole));
          counts = λ entry wide. so_far.counts entry wide ∙ ap (λ (ls : List Line). entry_mismatches d ls entry) (take_all count lines past);
        }

-- ---- counts of the numbers

module _ (d : Dict) (grouped : IsGroupedDict d) (shaped : IsShaped d) where
  pub groups-inside : All (λ group. group < length d.entries) d.groups
  groups-inside k e h = (grouped.used (get_or d.groups k e)).0 (Contains-get_or d.groups k e h)

  pub counts-are : (lines : List Line) (words : List SeenWord) → AreWordsOf d lines words → map (λ group. get_or (map (seen_mismatches words) d.entries) group 0) d.groups ≡ mismatch_counts d lines
  unfolding mismatch_count
  counts-are lines words of =
      let of_group : ℕ → ℕ = λ group. get_or (map (seen_mismatches words) d.entries) group 0 in
      fill_by_all (mismatch_count d lines) (map of_group d.groups) d.numbers 0 (length-map d.groups of_group ∙ grouped.one_each) (λ k h.
      let inside : k < length d.groups = omega (arith, h, grouped.one_each) in
      let group : get_or d.groups k 0 < length d.entries = groups-inside k 0 inside in
      get_or-map of_group d.groups k 0 0 inside
      ∙ (get_or-map (seen_mismatches words) d.entries (get_or d.groups k 0) [] 0 group
      ∙ of.counts (entry_of d k) (shaped.entries (get_or d.groups k 0) [] group)))
