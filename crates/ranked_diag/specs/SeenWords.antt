-- What was seen of an entry, by words of 64 bits.
use Rattle.std.specs.Prelude.{◌≡◌, ℕ, ◌+◌, ◌*◌, ◌<◌, ◌≤◌, ◌==◌, Bool, true, false, List, All, length, drop, sum_by, count_by, if◌then◌else◌}
use Rattle.std.specs.List.{range_with_len}
use Rattle.net_model.specs.Answer.{bit_at}
use Rattle.net_model.specs.Rows.{bit_of}
use Rattle.ranked_diag.specs.declared.partial.Seen.{Seen}
use Rattle.ranked_diag.specs.declared.partial.Seen.TheVariants.{Unseen}
use Rattle.ranked_diag.specs.declared.seen_word.SeenWord.{SeenWord}
use Rattle.dict_rows.specs.declared.dict.Dict.{Dict}
use Rattle.dict_rows.specs.Dictionary.{entry_width}
use Rattle.ranked_diag.specs.Seen.{seen_of, differs, differing_bits}
use Rattle.ranked_diag.specs.PartialLog.{Line}
use Rattle.ranked_diag.specs.Mismatches.{entry_mismatches}

-- what was seen of a bit of a word
abbrev pub seen_in : SeenWord → ℕ → Seen
seen_in w k = if bit_of w.seen k then seen_of (bit_of w.ones k) else Unseen

-- how many bits that were seen in a word differ from an entry
unfoldable pub word_mismatches : List Bool → SeenWord → ℕ
word_mismatches entry w = count_by (λ k. differs (seen_in w k) (bit_at entry (w.word * 64 + k))) (range_with_len 0 64)

-- how many bits that were seen differ from an entry
abbrev pub seen_mismatches : List SeenWord → List Bool → ℕ
seen_mismatches words entry = sum_by (word_mismatches entry) words

-- Only bits before `place` of the entry were seen, in words that begin before it, and no entry has more than `place`
-- mismatches.
pub record AreSeenBefore (place : ℕ) (words : List SeenWord) : Type 0 where
  pub begun : All (λ w. w.word * 64 < place) words
  pub free : All (λ w. (k : ℕ) → k < 64 → place ≤ w.word * 64 + k → bit_of w.seen k ≡ false) words
  pub few : (entry : List Bool) → seen_mismatches words entry ≤ place

-- The new words have nothing after the bits starting at `place`. The mismatches of each entry that has these bits are
-- those with the old words and with what was seen of these bits, together.
pub record IsSeenToo (old new : List SeenWord) (place : ℕ) (seen : List Seen) : Type 0 where
  pub before : AreSeenBefore (place + length seen) new
  pub counts : (entry : List Bool) → place + length seen ≤ length entry → seen_mismatches new entry ≡ seen_mismatches old entry + differing_bits seen (drop place entry)

-- The new word has what the old one has, and bit `at` is seen as `one`.
pub record IsBitSeen (old new : SeenWord) (at : ℕ) (one : Bool) : Type 0 where
  pub word : new.word ≡ old.word
  pub seen : (k : ℕ) → k < 64 → bit_of new.seen k ≡ (if k == at then true else bit_of old.seen k)
  pub ones : (k : ℕ) → k < 64 → bit_of new.ones k ≡ (if k == at then one else bit_of old.ones k)

-- The words have what the lines say of an entry of the dictionary: a row of an entry's width has as many mismatches
-- with the words as with the lines.
pub record AreWordsOf (d : Dict) (lines : List Line) (words : List SeenWord) : Type 0 where
  pub before : AreSeenBefore (entry_width d.kind d.patterns d.positions) words
  pub counts : (entry : List Bool) → length entry ≡ entry_width d.kind d.patterns d.positions → seen_mismatches words entry ≡ entry_mismatches d lines entry
