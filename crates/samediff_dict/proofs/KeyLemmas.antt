-- The keys of classes: two have the same one exactly if they are alike at the patterns in a range.
use Rattle.std.proofs.Common.{◌≡◌, ◌≢◌, ◌∙◌, ℕ, ◌+◌, ◌-◌, ◌/◌, ◌<◌, ◌≤◌, ◌^◌, Bool, true, false, not, cond, eqb, ◌&&◌, List, [], length, get_or, refl, sym, ap, subst, arith, inl, inr}
use Rattle.std.specs.Prelude.{nat_lt}
use Rattle.std.specs.List.{position_or_len}
use Rattle.std.proofs.lemmas.Bool.{cases_eq, cases_lt, eq-eqb, ne_eqb, lt-ltb, le-ltb}
use Rattle.std.proofs.lemmas.List.FromFn.{get_or-map-range_with_len, length-map-range_with_len}
use Rattle.net_model.specs.Rows.{IsPacked, bit_of, row_at, row_bit, word_bit}
use Rattle.net_model.proofs.SingleWords.{same_number}
use Rattle.samediff_dict.specs.declared.partition.Partition.{Partition}
use Rattle.samediff_dict.specs.declared.descending.Descent.{Descent}
use Rattle.samediff_dict.specs.Partition.{AreKeysOf, AreTogether, IsListed, IsPartition, TogetherBy}
use Rattle.samediff_dict.specs.GainTable.{alike_at}
use Rattle.samediff_dict.specs.Copied.{class_entry}
use Rattle.samediff_dict.specs.Descent.{AreAlikeIn, CanDescend, IsKeyIn, IsNarrowed, numbers_at}
use Rattle.samediff_dict.proofs.CandidateLemmas.{none as no_candidates}
use Rattle.samediff_dict.proofs.DifferingLemmas.{class_entry_at, length-class_entry}
use Rattle.samediff_dict.proofs.ToldLemmas.{same_beq, beq_same}
use Rattle.samediff_dict.proofs.ListedLemmas.{placed, position_at}
use Rattle.samediff_dict.proofs.DescentLemmas.{itself}

unlike : (a b : Bool) → not a ≡ not b → a ≡ b
unlike true true e = refl
unlike true false e = absurd (cc)
unlike false true e = absurd (cc)
unlike false false e = refl

module _ (d : Descent) (can : CanDescend d) where
  abbrev has_chosen : ℕ → ℕ → Bool
  has_chosen pattern class = eqb (get_or (numbers_at d pattern) class 0) (get_or d.chosen.now pattern 0)

  entry_is : (class : ℕ) → class < d.count → row_at d.entries.now class ≡ class_entry d.patterns.now d.chosen.now class
  entry_is class h = ap (λ (rows : List (List Bool)). row_at rows class) can.entries_are ∙ get_or-map-range_with_len (class_entry d.patterns.now d.chosen.now) 0 d.count class class [] h (omega arith)

  pub entries_long : length d.entries.now ≡ d.count
  entries_long = ap length can.entries_are ∙ length-map-range_with_len (class_entry d.patterns.now d.chosen.now) 0 d.count

  length-entry : (class : ℕ) → class < d.count → length (row_at d.entries.now class) ≡ length d.patterns.now
  length-entry class h = ap length (entry_is class h) ∙ (length-class_entry d.patterns.now d.chosen.now (sym can.one_chosen) class ∙ can.one_chosen)

  entry_bit : (class pattern : ℕ) → class < d.count → pattern < length d.patterns.now → row_bit d.entries.now class pattern ≡ not (has_chosen pattern class)
  entry_bit class pattern hc hp =
      ap (λ (row : List Bool). get_or row pattern false) (entry_is class hc)
      ∙ class_entry_at d.patterns.now d.chosen.now (sym can.one_chosen) class pattern no_candidates (omega (arith, hp, can.one_chosen))

  -- ---- the key of a class

  module _ (first end class : ℕ) (within : end ≤ length d.patterns.now) (hc : class < d.count) (words : List ℕ) (packed : IsPacked (row_at d.entries.now class) words) (word bits : ℕ)
      (begun : (k : ℕ) → k < 64 → bit_of word k ≡ word_bit words 0 (first + k)) (low : (k : ℕ) → k < 64 → bit_of bits k ≡ (nat_lt k (end - first) && bit_of word k)) where
    abbrev shows : ℕ → Bool
    shows k = nat_lt (first + k) end && (not (eqb (first + k) d.out) && row_bit d.entries.now class (first + k))

    past : (k : ℕ) → k < 64 → end ≤ first + k → bit_of bits k ≡ shows k
    past k l over =
        let out : end - first ≤ k = omega (arith, over) in
        low k l ∙ (ap (λ b. b && bit_of word k) (le-ltb k (end - first) out) ∙ sym (ap (λ b. b && (not (eqb (first + k) d.out) && row_bit d.entries.now class (first + k))) (le-ltb (first + k) end over)))

    bit_is : (k : ℕ) → k < 64 → first + k ≢ d.out → bit_of bits k ≡ shows k
    bit_is k l ne = elim (cases_lt (first + k) end) [
      | inl below ↦
          let inside : (first + k) / 64 < length words = let long = length-entry class hc in omega (arith, below, within, long, packed.count) in
          let here : k < end - first = omega (arith, below) in
          let yes = lt-ltb (first + k) end below in
          let no = ne_eqb (first + k) d.out ne in
          low k l ∙ (ap (λ b. b && bit_of word k) (lt-ltb k (end - first) here) ∙ (begun k l ∙ (packed.bits (first + k) inside ∙ sym (λ i. yes i && (not (no i) && row_bit d.entries.now class (first + k))))))
      | inr over ↦ past k l over
    ]

    pub plain_key : bits < 2 ^ 64 → ((k : ℕ) → first + k < end → first + k ≢ d.out) → IsKeyIn d first end class bits
    plain_key fits apart = record {
      fits = fits;
      bits = λ k l. elim (cases_eq (first + k) d.out) [
        | inr ne ↦ bit_is k l ne
        | inl same ↦ elim (cases_lt (first + k) end) [ inl below ↦ absurd (apart k below same) | inr over ↦ past k l over ]
      ];
    }

    pub cleared_key : (key : ℕ) → key < 2 ^ 64 → first ≤ d.out → d.out < end → ((k : ℕ) → k < 64 → bit_of key k ≡ cond (eqb k (d.out - first)) false (bit_of bits k)) → IsKeyIn d first end class key
    cleared_key key fits from below are = record {
      fits = fits;
      bits = λ k l. elim (cases_eq (first + k) d.out) [
        | inr ne ↦
            let apart : k ≢ d.out - first = λ e. ne (omega (arith, e, from)) in
            are k l ∙ (ap (λ b. cond b false (bit_of bits k)) (ne_eqb k (d.out - first) apart) ∙ bit_is k l ne)
        | inl same ↦
            let here : k ≡ d.out - first = omega (arith, same) in
            let yes = lt-ltb (first + k) end (omega (arith, same, below)) in
            let out = eq-eqb (first + k) d.out same in
            are k l ∙ (ap (λ b. cond b false (bit_of bits k)) (eq-eqb k (d.out - first) here) ∙ sym (λ i. yes i && (not (out i) && row_bit d.entries.now class (first + k))))
      ];
    }

  -- two classes are alike at a pattern exactly if their entries are the same there
  module _ (low high pattern : ℕ) (hl : low < d.count) (hh : high < d.count) (within : pattern < length d.patterns.now) where
    alike_by_bits : row_bit d.entries.now low pattern ≡ row_bit d.entries.now high pattern → alike_at d.patterns.now d.chosen.now pattern low high ≡ true
    alike_by_bits e = beq_same (has_chosen pattern low) (has_chosen pattern high) (unlike (has_chosen pattern low) (has_chosen pattern high) (sym (entry_bit low pattern hl within) ∙ (e ∙ entry_bit high pattern hh within)))

    bits_by_alike : alike_at d.patterns.now d.chosen.now pattern low high ≡ true → row_bit d.entries.now low pattern ≡ row_bit d.entries.now high pattern
    bits_by_alike so = entry_bit low pattern hl within ∙ (ap not (same_beq (has_chosen pattern low) (has_chosen pattern high) so) ∙ sym (entry_bit high pattern hh within))

  -- ---- the keys of two classes

  module _ (first end : ℕ) (few : end ≤ first + 64) (within : end ≤ length d.patterns.now) (low high left right : ℕ) (hl : low < d.count) (hh : high < d.count) (is_left : IsKeyIn d first end low left) (is_right : IsKeyIn d first end high right) where
    abbrev bit : ℕ → ℕ → Bool
    bit class k = row_bit d.entries.now class (first + k)

    abbrev shown : ℕ → ℕ → Bool
    shown class k = nat_lt (first + k) end && (not (eqb (first + k) d.out) && bit class k)

    shown_alike : AreAlikeIn d first end low high → (k : ℕ) → shown low k ≡ shown high k
    shown_alike alike k = elim (cases_lt (first + k) end) [
      | inr over ↦
          let no = le-ltb (first + k) end over in
          ap (λ b. b && (not (eqb (first + k) d.out) && bit low k)) no ∙ sym (ap (λ b. b && (not (eqb (first + k) d.out) && bit high k)) no)
      | inl below ↦ elim (cases_eq (first + k) d.out) [
        | inl out ↦
            let so = eq-eqb (first + k) d.out out in
            ap (λ b. nat_lt (first + k) end && (not b && bit low k)) so ∙ sym (ap (λ b. nat_lt (first + k) end && (not b && bit high k)) so)
        | inr ne ↦ ap (λ b. nat_lt (first + k) end && (not (eqb (first + k) d.out) && b)) (bits_by_alike low high (first + k) hl hh (omega (arith, below, within)) (alike (first + k) (omega arith) below ne))
      ]
    ]

    pub same_key : AreAlikeIn d first end low high → left ≡ right
    same_key alike = same_number 64 left right is_left.fits is_right.fits (λ k l. is_left.bits k l ∙ (shown_alike alike k ∙ sym (is_right.bits k l)))

    pub alike_by_key : left ≡ right → AreAlikeIn d first end low high
    alike_by_key e q from below ne =
        let k = q - first in
        let at : first + k ≡ q = omega (arith, from) in
        let l : k < 64 = omega (arith, below, few) in
        let yes = lt-ltb (first + k) end (omega (arith, at, below)) in
        let no = ne_eqb (first + k) d.out (λ out. ne (sym at ∙ out)) in
        let own : (class : ℕ) → shown class k ≡ bit class k = λ class. (λ i. yes i && (not (no i) && bit class k)) in
        let same : bit low k ≡ bit high k = sym (own low) ∙ (sym (is_left.bits k l) ∙ (ap (λ n. bit_of n k) e ∙ (is_right.bits k l ∙ own high))) in
        subst (λ (p : ℕ). alike_at d.patterns.now d.chosen.now p low high ≡ true) at (alike_by_bits low high (first + k) hl hh (omega (arith, at, below, within)) same)

  -- ---- a partition that is cut by keys

  pub keyed_narrows : {part cut : Partition} (first end : ℕ) → end ≤ first + 64 → end ≤ length d.patterns.now → IsListed d.count part → (keys : List ℕ) → length keys ≡ length part.classes.items
      → ((k : ℕ) → k < length part.classes.items → IsKeyIn d first end (get_or part.classes.items k 0) (get_or keys k 0))
      → ((classes : ℕ) (key : ℕ → ℕ) → IsListed classes part → AreKeysOf key part.classes.items keys → IsPartition classes (TogetherBy part key) cut) → IsNarrowed d first end part cut
  keyed_narrows {part} {cut} first end few within listed keys long each made =
      let key : ℕ → ℕ = λ class. get_or keys (position_or_len (λ other. eqb other class) part.classes.items) 0 in
      let at : (k : ℕ) → k < length part.classes.items → key (get_or part.classes.items k 0) ≡ get_or keys k 0 = λ k h. ap (λ i. get_or keys i 0) (position_at listed k h) in
      let own : IsPartition d.count (TogetherBy part key) cut = made d.count key listed (record { one_each = long; each = λ k h. sym (at k h) }) in
      let is : (class k : ℕ) → k < length part.classes.items → get_or part.classes.items k 0 ≡ class → IsKeyIn d first end class (key class) = λ class k h e.
      subst (λ n. IsKeyIn d first end class n) (sym (at k h) ∙ ap key e) (subst (λ n. IsKeyIn d first end n (get_or keys k 0)) e (each k h)) in
      let both_are : (low high : ℕ) → low ≢ high → AreTogether part low high → IsKeyIn d first end low (key low) × IsKeyIn d first end high (key high) = λ low high ne together.
      let p = placed listed low high ne together in (is low p.low_at p.low_within p.low_is, is high p.high_at p.high_within p.high_is) in
      record {
        listed = own.listed;
        within = λ low high hl hh e.
            let both = own.together_are low high hl hh e in (
              both.0,
              elim (cases_eq low high) [
                | inl same ↦ itself d first end low high same
                | inr ne ↦ let keyed = both_are low high ne both.0 in alike_by_key first end few within low high (key low) (key high) hl hh keyed.0 keyed.1 both.1
              ],
            );
        counted = λ low high hl hh both so. own.same low high hl hh (
          both.0,
          elim (cases_eq low high) [
            | inl same ↦ ap key same
            | inr ne ↦ let keyed = both_are low high ne both.0 in same_key first end few within low high (key low) (key high) hl hh keyed.0 keyed.1 both.1
          ],
        );
      }
