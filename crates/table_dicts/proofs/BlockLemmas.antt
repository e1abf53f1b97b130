-- Blocks of patterns: what is written of them, and that it is right.
use Rattle.std.proofs.Common.{◌≡◌, ◌≢◌, ◌∙◌, ℕ, ◌+◌, ◌-◌, ◌<◌, ◌≤◌, ◌↔◌, Bool, true, false, not, cond, List, [], ◌∷◌, ◌++◌, length, get_or, take, drop, refl, sym, ap, subst, arith, inl, inr, IsTrue}
use Rattle.std.specs.Prelude.{slice_range}
use Rattle.std.proofs.lemmas.Bool.{cases_lt, cases_eq, false≢true, false_from_ne_true}
use Rattle.std.proofs.lemmas.List.{ext_get_or, take_more, get_or-take, get_or-drop, length-drop, length-take-le}
use Rattle.std.proofs.lemmas.Slice.Zip.{AllZip-long}
use Rattle.net_model.specs.declared.fault.Fault.{Fault}
use Rattle.net_model.specs.declared.fault.Fault.TheVariants.{Free}
use Rattle.net_model.specs.Circuit.{Circuit, IsCircuit}
use Rattle.net_model.specs.Fault.{stuck_position}
use Rattle.net_model.specs.Answer.{bit_at, IsAnswer, Agrees}
use Rattle.net_model.specs.FaultList.{faults, fault_count, fault_numbered}
use Rattle.net_model.specs.PatternRows.{IsAnswerRow, AreAnswerRows}
use Rattle.net_model.specs.ClassTable.{same_bits}
use Rattle.net_model.proofs.Copies.{same_bits_same_list}
use Rattle.class_refine.proofs.Ranges.{zip_at}
use Rattle.fault_heads.proofs.SeenPins.{seen_at}
use Rattle.class_refine.proofs.PatternTables.{answer_exists, answer_width, answer_in_row}
use Rattle.class_refine.proofs.PatternTables.{rows_exist}
use Rattle.dict_rows.proofs.EntryLemmas.{same_bits-Decides}
use Rattle.dict_rows.specs.AnswerTable.{Answers, answer_to, answer_bit, HasSizes, IsTable, AreAnswers, IsNumberSet}
use Rattle.table_dicts.specs.declared.simulating.Kept.{Kept}
use Rattle.table_dicts.specs.declared.simulating.Kept.TheVariants.{Bits, Fails}
use Rattle.table_dicts.specs.Blocks.{IsAnswerBit, IsFailBit, IsKeptBit, IsListedBit, AreNumbersSet, AreRightBits}

-- ---- what is written

pub same_sizes : (t : Answers) → HasSizes t (length t.rows) t.numbers t.positions
same_sizes t = record { patterns_are = refl; numbers_are = refl; positions_are = refl }

pub sizes_later : (old mid new : Answers) → HasSizes mid (length old.rows) old.numbers old.positions → HasSizes new (length mid.rows) mid.numbers mid.positions → HasSizes new (length old.rows) old.numbers old.positions
sizes_later old mid new one two = record { patterns_are = two.patterns_are ∙ one.patterns_are; numbers_are = two.numbers_are ∙ one.numbers_are; positions_are = two.positions_are ∙ one.positions_are }

pub numbers_none : (right : ℕ → ℕ → ℕ → Bool → Type 0) (count : ℕ) (t : Answers) (first : ℕ) → AreNumbersSet right count t t 0 first
numbers_none right count t first = record { sizes = same_sizes t; here = λ lane n k hl hn hk. absurd (omega (arith, hn)); others = λ p n k low hp hn hk. refl }

pub numbers_more : {right : ℕ → ℕ → ℕ → Bool → Type 0} {count : ℕ} {old mid new : Answers} {number first : ℕ} (positions : ℕ) → AreNumbersSet right count old mid number first → IsNumberSet right count mid new number first positions → positions ≡ old.positions
    → first + count ≤ length old.rows → number < old.numbers → AreNumbersSet right count old new (number + 1) first
numbers_more {right} {count} {old} {mid} {new} {number} {first} positions so_far one all inside hn = record {
  sizes = sizes_later old mid new so_far.sizes one.sizes;
  here = λ lane n k hl hm hk. elim (cases_eq n number) [
    | inl same ↦ subst (λ m. right lane m k (answer_bit new (first + lane) m k)) (sym same) (one.here lane k hl (omega (arith, hk, all)))
    | inr ne ↦
        subst (right lane n k)
        (sym (one.others (first + lane) n k (omega (arith, hl, inside, so_far.sizes.patterns_are)) (omega (arith, hm, hn, so_far.sizes.numbers_are)) (omega (arith, hk, so_far.sizes.positions_are)) (inr ne)))
        (so_far.here lane n k hl (omega (arith, hm, ne)) hk)
  ];
  others = λ p n k low hp hm hk.
      one.others p n k (omega (arith, hp, so_far.sizes.patterns_are)) (omega (arith, hm, so_far.sizes.numbers_are)) (omega (arith, hk, so_far.sizes.positions_are)) (inl low)
      ∙ so_far.others p n k low hp hm hk;
}

-- ---- that it is right

-- The vector of a lane of a block is a pattern.
pub lane_pattern : (patterns : List (List Bool)) (first end lane : ℕ) → lane < end - first → get_or (slice_range patterns first end) lane [] ≡ get_or patterns (first + lane) []
lane_pattern patterns first end lane h = get_or-take (end - first) (drop first patterns) lane [] h ∙ get_or-drop first patterns lane []

pub block_length : (patterns : List (List Bool)) (first end : ℕ) → first ≤ end → end ≤ length patterns → length (slice_range patterns first end) ≡ end - first
block_length patterns first end order within = length-take-le (end - first) (drop first patterns) (omega (arith, length-drop first patterns, order, within))

pub right_none : (right : ℕ → ℕ → ℕ → Bool → Type 0) (patterns numbers positions : ℕ) (t : Answers) → HasSizes t patterns numbers positions → AreRightBits right patterns numbers positions 0 t
right_none right patterns numbers positions t sizes = record { sizes = sizes; each = λ p n k hp hn hk. absurd (omega (arith, hp)) }

-- One more block, whose written bits are right.
pub right_more : {right over : ℕ → ℕ → ℕ → Bool → Type 0} {patterns numbers positions count first : ℕ} {old new : Answers} (end : ℕ) → AreRightBits over patterns numbers positions first old → AreNumbersSet right count old new numbers first
    → ((lane n k : ℕ) (bit : Bool) → lane < count → right lane n k bit → over (first + lane) n k bit) → end ≡ first + count → end ≤ patterns → AreRightBits over patterns numbers positions end new
right_more {right} {over} {patterns} {numbers} {positions} {count} {first} {old} {new} end so_far one moved is within = record {
  sizes = record {
    patterns_are = one.sizes.patterns_are ∙ so_far.sizes.patterns_are;
    numbers_are = one.sizes.numbers_are ∙ so_far.sizes.numbers_are;
    positions_are = one.sizes.positions_are ∙ so_far.sizes.positions_are;
  };
  each = λ p n k hp hn hk. elim (cases_lt p first) [
    | inl low ↦
        subst (over p n k) (sym (one.others p n k low (omega (arith, low, is, within, so_far.sizes.patterns_are)) (omega (arith, hn, so_far.sizes.numbers_are)) (omega (arith, hk, so_far.sizes.positions_are)))) (so_far.each p n k low hn hk)
    | inr high ↦
        let lane = p - first in
        let at : first + lane ≡ p = omega (arith, high) in
        let live : lane < count = omega (arith, hp, high, is) in
        subst (λ j. over j n k (answer_bit new j n k)) at (moved lane n k (answer_bit new (first + lane) n k) live (one.here lane n k live hn (omega (arith, hk, so_far.sizes.positions_are))))
  ];
}

module _ (c : Circuit) (patterns vectors : List (List Bool)) (first end : ℕ) (is : vectors ≡ slice_range patterns first end) (order : first ≤ end) (within : end ≤ length patterns) where
  -- The vectors of a block are patterns.
  pub block_end : end ≡ first + length vectors
  block_end = omega (arith, ap length is, block_length patterns first end order within, order)

  vector_is : (lane : ℕ) → lane < length vectors → get_or vectors lane [] ≡ get_or patterns (first + lane) []
  vector_is lane h = ap (λ (vs : List (List Bool)). get_or vs lane []) is ∙ lane_pattern patterns first end lane (omega (arith, h, block_end))

  pub answer_moved : (lane n k : ℕ) (bit : Bool) → lane < length vectors → IsAnswerBit c vectors lane n k bit → IsAnswerBit c patterns (first + lane) n k bit
  answer_moved lane n k bit h right answer of = right answer (subst (λ v. IsAnswer c (fault_numbered c n) v answer) (sym (vector_is lane h)) of)

  pub fail_moved : (lane n k : ℕ) (bit : Bool) → lane < length vectors → IsFailBit c vectors lane n k bit → IsFailBit c patterns (first + lane) n k bit
  fail_moved lane n k bit h right answer free of none =
      right answer free (subst (λ v. IsAnswer c (fault_numbered c n) v answer) (sym (vector_is lane h)) of) (subst (λ v. IsAnswer c Free v free) (sym (vector_is lane h)) none)

  pub kept_moved : (kept : Kept) (lane n k : ℕ) (bit : Bool) → lane < length vectors → IsKeptBit kept c vectors lane n k bit → IsKeptBit kept c patterns (first + lane) n k bit
  kept_moved Bits lane n k bit h right = answer_moved lane n k bit h right
  kept_moved Fails lane n k bit h right = fail_moved lane n k bit h right

  pub listed_moved : (kept : Kept) (numbers : List ℕ) (lane place k : ℕ) (bit : Bool) → lane < length vectors → IsListedBit kept c vectors numbers lane place k bit → IsListedBit kept c patterns numbers (first + lane) place k bit
  listed_moved kept numbers lane place k bit h right = kept_moved kept lane (get_or numbers place 0) k bit h right

-- A table whose bits are all right has the circuit's answers.
pub right_all : {c : Circuit} {patterns : List (List Bool)} {t : Answers} (end : ℕ) → IsCircuit c → IsTable t → AreRightBits (IsAnswerBit c patterns) (length patterns) (fault_count c) (length c.positions) end t → length patterns ≤ end → AreAnswers c patterns t
right_all {c} {patterns} {t} end is table right over =
    let rows = rows_exist c is patterns in
    let many : length rows.0 ≡ length patterns = AllZip-long (IsAnswerRow c) patterns rows.0 rows.1 in
    let sizes = right.sizes in
    let same : t.rows ≡ rows.0 =
    ext_get_or [] t.rows rows.0 (sizes.patterns_are ∙ sym many) (λ p h.
    let inside : p < length patterns = omega (arith, h, sizes.patterns_are) in
    let row : IsAnswerRow c (get_or patterns p []) (get_or rows.0 p []) = zip_at (IsAnswerRow c) patterns rows.0 p [] [] rows.1 inside in
    let wide : length (get_or rows.0 p []) ≡ fault_count c = AllZip-long (λ f answer. IsAnswer c f (get_or patterns p []) answer) (faults c) (get_or rows.0 p []) row in
    let numbers : length (get_or t.rows p []) ≡ fault_count c = table.numbers p h ∙ sizes.numbers_are in
    ext_get_or [] (get_or t.rows p []) (get_or rows.0 p []) (numbers ∙ sym wide) (λ n hn.
    let number : n < fault_count c = omega (arith, hn, numbers) in
    let of = answer_in_row c (get_or patterns p []) (get_or rows.0 p []) row n number in
    let long : length (answer_to t p n) ≡ length c.positions = table.positions p n h (omega (arith, number, sizes.numbers_are)) ∙ sizes.positions_are in
    same_bits_same_list (answer_to t p n) (get_or (get_or rows.0 p []) n []) (long ∙ sym (answer_width of)) (λ k hk. right.each p n k (omega (arith, inside, over)) number (omega (arith, hk, long)) (get_or (get_or rows.0 p []) n []) of))) in
    record { numbers = sizes.numbers_are; positions = sizes.positions_are; rows = subst (AreAnswerRows c patterns) (sym same) rows.1 }

-- ---- what is simulated

flipped : (answer free differs : Bool) → IsTrue differs ↔ (answer ≢ free) → cond free (not differs) differs ≡ answer
flipped true true true h = absurd (h.0 refl refl)
flipped true true false h = refl
flipped true false true h = refl
flipped true false false h = absurd (false≢true (h.1 (λ e. false≢true (sym e))))
flipped false true true h = refl
flipped false true false h = absurd (false≢true (h.1 false≢true))
flipped false false true h = absurd (h.0 refl refl)
flipped false false false h = refl

-- The fault-free bit, turned where the fault differs, is that of the fault's answer.
pub shown_bit : (c : Circuit) → IsCircuit c → (f : Fault) (v answer : List Bool) (position line : ℕ) (good differs : Bool) → position < length c.positions → line ≡ get_or c.positions position 0
    → ((answer free : List Bool) → IsAnswer c f v answer → IsAnswer c Free v free → IsTrue differs ↔ (bit_at answer position ≢ bit_at free position))
    → ((bits : List Bool) → Agrees c Free v bits → good ≡ bit_at bits line) → IsAnswer c f v answer → cond good (not differs) differs ≡ bit_at answer position
shown_bit c is f v answer position line good differs h at differ free_bit of =
    let free = answer_exists c is Free v in
    let shows : bit_at free.0 position ≡ bit_at free.1.bits line =
    ap (λ (xs : List Bool). bit_at xs position) free.1.shows ∙ (seen_at (stuck_position Free) free.1.bits c.positions position h ∙ ap (bit_at free.1.bits) (sym at)) in
    let good_is : good ≡ bit_at free.0 position = free_bit free.1.bits free.1.agrees ∙ sym shows in
    ap (λ b. cond b (not differs) differs) good_is ∙ flipped (bit_at answer position) (bit_at free.0 position) differs (differ answer free.0 of free.1)

-- ---- a range of patterns

pub range_none : (patterns : List (List Bool)) (first : ℕ) → slice_range patterns first first ≡ []
range_none patterns first = let none : first - first ≡ 0 = omega arith in ap (λ n. take n (drop first patterns)) none

pub range_more : (patterns : List (List Bool)) (first at : ℕ) (v : List Bool) → first ≤ at → at < length patterns → v ≡ get_or patterns at v → slice_range patterns first (at + 1) ≡ slice_range patterns first at ++ v ∷ []
range_more patterns first at v order inside is =
    let rest = drop first patterns in
    let count : at + 1 - first ≡ (at - first) + 1 = omega (arith, order) in
    let place : first + (at - first) ≡ at = omega (arith, order) in
    ap (λ n. take n rest) count
    ∙ (take_more rest (at - first) v (omega (arith, length-drop first patterns, order, inside))
    ∙ ap (λ (x : List Bool). take (at - first) rest ++ x ∷ []) (get_or-drop first patterns (at - first) v ∙ (ap (λ j. get_or patterns j v) place ∙ sym is)))

-- The lane of a block at which some position differs.
pub fail_bit : (c : Circuit) (f : Fault) (v answer free : List Bool) (bit : Bool) (differs : ℕ → Bool) → IsAnswer c f v answer → IsAnswer c Free v free
    → ((position : ℕ) → position < length c.positions → IsTrue (differs position) ↔ (bit_at answer position ≢ bit_at free position))
    → IsTrue bit ↔ ((position : ℕ) × (position < length c.positions) × IsTrue (differs position)) → bit ≡ not (same_bits answer free)
fail_bit c f v answer free true differs of none each some =
    let at = some.0 refl in
    let test = same_bits-Decides answer free in
    sym (ap not (false_from_ne_true (same_bits answer free) (λ yes. (each at.0 at.1).0 at.2 (ap (λ (xs : List Bool). bit_at xs at.0) (test.0 yes)))))
fail_bit c f v answer free false differs of none each some =
    let same = same_bits_same_list answer free (answer_width of ∙ sym (answer_width none)) (λ position h.
    let inside : position < length c.positions = omega (arith, h, answer_width of) in
    same_where (bit_at answer position) (bit_at free position) (λ ne. false≢true (some.1 (position, inside, (each position inside).1 ne)))) in
    sym (ap not ((same_bits-Decides answer free).1 same))
  where
    same_where : (a b : Bool) → (a ≢ b → ⊥) → a ≡ b
    same_where true true h = refl
    same_where false false h = refl
    same_where true false h = absurd (h (λ e. false≢true (sym e)))
    same_where false true h = absurd (h (λ e. false≢true e))
