-- What is known of the lines of a circuit, noted for one block of a log's lines after another.
use Rattle.std.proofs.Common.{◌≡◌, ◌≢◌, ◌∙◌, ℕ, ◌+◌, ◌-◌, ◌*◌, ◌/◌, ◌%◌, ◌<◌, ◌≤◌, List, [], length, get_or, refl, sym, ap, subst, arith, inl, inr}
use Rattle.std.specs.Prelude.{Bool, not, ◌==◌, nat_lt, slice_range}
use Rattle.std.proofs.lemmas.Bool.{cases_lt, cases_eq}
use Rattle.std.proofs.lemmas.List.{get_or-map}
use Rattle.net_model.specs.declared.fault.Site.TheVariants.{Stem}
use Rattle.net_model.specs.declared.fault.Fault.{Fault}
use Rattle.net_model.specs.declared.fault.Fault.TheVariants.{Free, Stuck}
use Rattle.net_model.specs.Circuit.{Circuit, IsCircuit, line_count}
use Rattle.net_model.specs.Answer.{bit_at, Agrees, IsAnswer}
use Rattle.net_model.specs.Rows.{bit_of, row_at, row_bit, HaveSameShape, IsWordSet}
use Rattle.net_model.proofs.Evaluation.{Agrees-exists}
use Rattle.net_model.proofs.Listed.{some_number}
use Rattle.net_model.proofs.OneAnswer.{one_answer}
use Rattle.fault_sim.specs.FaultSim.{IsDifference, lanes_at}
use Rattle.dict_rows.specs.AnswerTable.{Answers, answer_to}
use Rattle.dict_rows.specs.Rows.{AreRows}
use Rattle.dict_rows.proofs.RowLemmas.{same_shape, shape_later, rows_later, width_at}
use Rattle.table_dicts.specs.declared.setting.Setting.{Setting}
use Rattle.table_dicts.specs.Setting.{AreAnswersAt}
use Rattle.table_dicts.proofs.BlockLemmas.{lane_pattern, block_end}
use Rattle.table_dicts.proofs.FailLemmas.{answer_is}
use Rattle.ranked_diag.specs.Seen.{differing_bits}
use Rattle.ranked_diag.specs.PartialLog.{Line}
use Rattle.suspect_scores.specs.declared.logged.Logged.{Logged}
use Rattle.suspect_scores.specs.Marks.{logged_line, IsLogged}
use Rattle.suspect_scores.specs.Scored.{row_bits}
use Rattle.suspect_scores.proofs.PatternSimLemmas.{many, lane_fits}
use Rattle.suspect_scores.proofs.BlockScores.{zero_test}
use Rattle.suspect_scores.proofs.FailedLemmas.{bits_wrong}
use Rattle.bridging_faults.specs.declared.line_rows.LineRows.{LineRows}
use Rattle.bridging_faults.specs.LineRows.{vector_at, does_fit, AreLineRows}
use Rattle.bridging_faults.specs.Simulated.{IsFreeValue, IsTurnedBit, IsTurnedLane, AreKnown, HaveRoom, AreLanesNoted, IsLineNoted, AreLinesNoted}
use Rattle.bridging_faults.proofs.Computed.{answer_table, table_answers}
use Rattle.bridging_faults.proofs.SearchEnd.{first_free}

-- ---- words of a row

-- The row has these bits at `count` lines of the log starting at `first`, as far as they are in the first `words`
-- words.
pub record AreWordsNoted (bits : ℕ → Bool) (first count words : ℕ) (old new : List (List Bool)) (row : ℕ) : Type 0 where
  pub shape : HaveSameShape old new
  pub here : (lane : ℕ) → lane < count → lane < words * 64 → row_bit new row (first + lane) ≡ bits lane
  pub before : (k : ℕ) → k < first → row_bit new row k ≡ row_bit old row k
  pub others : (r : ℕ) → r ≢ row → row_at new r ≡ row_at old r

pub words_none : (bits : ℕ → Bool) (first count : ℕ) (rows : List (List Bool)) (row : ℕ) → AreWordsNoted bits first count 0 rows rows row
words_none bits first count rows row = record { shape = same_shape; here = λ lane live low. absurd (omega (arith, low)); before = λ k low. refl; others = λ r ne. refl }

pub words_more : (bits : ℕ → Bool) (first count word at set row : ℕ) (old mid new : List (List Bool)) → AreWordsNoted bits first count word old mid row → IsWordSet mid new row at set → at ≡ first / 64 + word → first % 64 ≡ 0 → first + count ≤ length (row_at old row)
    → ((k : ℕ) → k < 64 → word * 64 + k < count → bit_of set k ≡ bits (word * 64 + k)) → AreWordsNoted bits first count (word + 1) old new row
words_more bits first count word at set row old mid new so_far one is aligned wide told = record {
  shape = shape_later so_far.shape one.shape;
  here = λ lane live low. elim (cases_lt lane (word * 64)) [
    | inl early ↦ one.beside (first + lane) (λ e. omega (arith, e, is, aligned, early)) ∙ so_far.here lane live early
    | inr late ↦
        let k = lane - word * 64 in
        let own : word * 64 + k ≡ lane = omega (arith, late) in
        let inside : first + lane < length (row_at mid row) = omega (arith, live, wide, so_far.shape.widths row) in
        let there : (first + lane) / 64 ≡ at = omega (arith, is, aligned, late, low) in
        let place : (first + lane) % 64 ≡ k = omega (arith, aligned, late, low) in
        one.here (first + lane) inside there ∙ ((λ i. bit_of set (place i)) ∙ (told k (omega (arith, late, low)) (omega (arith, own, live)) ∙ ap bits own))
  ];
  before = λ k low. one.beside k (λ e. omega (arith, e, is, aligned, low)) ∙ so_far.before k low;
  others = λ r ne. one.others r ne ∙ so_far.others r ne;
}

pub words_all : (bits : ℕ → Bool) (first count words row : ℕ) (old new : List (List Bool)) → AreWordsNoted bits first count words old new row → count ≤ words * 64 → AreLanesNoted bits first count old new row
words_all bits first count words row old new so_far all = record { shape = so_far.shape; here = λ lane live. so_far.here lane live (omega (arith, live, all)); before = so_far.before; others = so_far.others }

-- ---- lines

pub room_kept : (lines first count : ℕ) (old new : List (List Bool)) → HaveRoom lines first count old → HaveSameShape old new → HaveRoom lines first count new
room_kept lines first count old new room shape = record { many = shape.count ∙ room.many; wide = λ line h. omega (arith, room.wide line h, shape.widths line) }

module _ (right : ℕ → ℕ → Bool → Type 0) (first count : ℕ) where
  pub line_noted : (bits : ℕ → Bool) (line : ℕ) (old new : List (List Bool)) → AreLanesNoted bits first count old new line → ((lane : ℕ) (bit : Bool) → lane < count → bit ≡ bits lane → right line lane bit) → IsLineNoted right first count old new line
  line_noted bits line old new noted is = record { shape = noted.shape; here = λ lane live. is lane (row_bit new line (first + lane)) live (noted.here lane live); before = noted.before; others = noted.others }

  pub lines_none : (rows : List (List Bool)) → AreLinesNoted right first count rows rows 0
  lines_none rows = record { shape = same_shape; here = λ line lane h live. absurd (omega (arith, h)); before = λ line k low. refl }

  pub lines_more : (line : ℕ) (old mid new : List (List Bool)) → AreLinesNoted right first count old mid line → IsLineNoted right first count mid new line → AreLinesNoted right first count old new (line + 1)
  lines_more line old mid new so_far one = record {
    shape = shape_later so_far.shape one.shape;
    here = λ p lane low live. elim (cases_eq p line) [
      | inl same ↦ subst (λ (q : ℕ). right q lane (row_bit new q (first + lane))) (sym same) (one.here lane live)
      | inr ne ↦ subst (λ (row : List Bool). right p lane (bit_at row (first + lane))) (sym (one.others p ne)) (so_far.here p lane (omega (arith, low, ne)) live)
    ];
    before = λ p k low. elim (cases_eq p line) [
      | inl same ↦ (λ i. row_bit new (same i) k) ∙ (one.before k low ∙ ((λ i. row_bit mid (sym same i) k) ∙ so_far.before p k low))
      | inr ne ↦ ap (λ (row : List Bool). bit_at row k) (one.others p ne) ∙ so_far.before p k low
    ];
  }

-- ---- blocks

module _ (right : ℕ → ℕ → Bool → Type 0) (lines logged : ℕ) where
  pub known_begun : (rows : List (List Bool)) → AreRows lines logged rows → AreKnown right lines logged 0 rows
  known_begun rows are = record { are = are; each = λ line k h low. absurd (omega (arith, low)) }

  pub known_room : (done first count : ℕ) (rows : List (List Bool)) → AreKnown right lines logged done rows → first + count ≤ logged → HaveRoom lines first count rows
  known_room done first count rows known inside = record { many = known.are.count_is; wide = λ line h. omega (arith, width_at known.are line h, inside) }

  pub known_more : (part : ℕ → ℕ → Bool → Type 0) (first end count : ℕ) (old new : List (List Bool)) → AreKnown right lines logged first old → AreLinesNoted part first count old new lines → end ≡ first + count
      → ((line lane : ℕ) (bit : Bool) → lane < count → part line lane bit → right line (first + lane) bit) → AreKnown right lines logged end new
  known_more part first end count old new known noted last is = record {
    are = rows_later noted.shape known.are;
    each = λ line k h low. elim (cases_lt k first) [
      | inl before ↦ subst (right line k) (sym (noted.before line k before)) (known.each line k h before)
      | inr past ↦
          let lane = k - first in
          let at : first + lane ≡ k = omega (arith, past) in
          let live : lane < count = omega (arith, low, past, last) in
          subst (λ (n : ℕ). right line n (row_bit new line n)) at (is line lane (row_bit new line (first + lane)) live (noted.here line lane h live))
    ];
  }

module _ (s : Setting) (logged : Logged) (vectors : List (List Bool)) (first end : ℕ) (block : vectors ≡ slice_range logged.patterns.items first end) (order : first ≤ end) (within : end ≤ length logged.patterns.items) where
  pub last_is : end ≡ first + length vectors
  last_is = block_end s.subject.now logged.patterns.items vectors first end block order within

  pattern_of : (lane : ℕ) → lane < length vectors → get_or vectors lane [] ≡ get_or logged.patterns.items (first + lane) []
  pattern_of lane live = ap (λ (vs : List (List Bool)). get_or vs lane []) block ∙ lane_pattern logged.patterns.items first end lane (omega (arith, live, last_is))

  pub value_moved : (line lane : ℕ) (bit : Bool) → lane < length vectors → IsFreeValue s.subject.now vectors line lane bit → IsFreeValue s.subject.now logged.patterns.items line (first + lane) bit
  value_moved line lane bit live is bits agrees = is bits (subst (λ (v : List Bool). Agrees s.subject.now Free v bits) (sym (pattern_of lane live)) agrees)

  pub turned_moved : (line lane : ℕ) (bit : Bool) → lane < length vectors → IsTurnedLane s.subject.now vectors logged.columns first line lane bit → IsTurnedBit s logged line (first + lane) bit
  turned_moved line lane bit live is lines table free answer own are agrees answers =
      let c = s.subject.now in
      let f : Fault = Stuck (Stem line) (not (bit_at free line)) in
      let same = pattern_of lane live in
      let inside : first + lane < length lines = omega (arith, live, last_is, within, many s lines table logged own are) in
      is.is ∙ lane_fits s lines table logged own are is.sim first lane f answer is.circuit inside answers
      (λ position h. subst (λ (v : List Bool). IsDifference c f v position (bit_at (lanes_at is.sim position) lane)) same (is.differ position free h (subst (λ (v : List Bool). Agrees c Free v free) (sym same) agrees)))

-- ---- all lines of a log

module _ (s : Setting) (lines : List Line) (logged : Logged) (is : IsLogged s lines logged) (w : IsCircuit s.subject.now) where
  abbrev table : Answers
  table = answer_table s.subject.now s.patterns.now

  answers : AreAnswersAt s table
  answers = table_answers s.subject.now s.patterns.now w

  pub logged_many : length logged.patterns.items ≡ length lines
  logged_many = many s lines table logged is answers

  vector_is : (k : ℕ) → k < length lines → get_or logged.patterns.items k [] ≡ vector_at s.patterns.now lines k
  vector_is k h = ap (λ (ps : List (List Bool)). get_or ps k []) is.patterns_are ∙ get_or-map (λ (l : Line). get_or s.patterns.now l.0 []) lines k (0, []) [] h

  pub rows_known : (m : LineRows) (done : ℕ) → done ≡ length logged.patterns.items → AreKnown (IsFreeValue s.subject.now logged.patterns.items) (line_count s.subject.now) done done m.good → AreKnown (IsTurnedBit s logged) (line_count s.subject.now) done done m.turned
      → ((k : ℕ) → k < length lines → bit_at m.free k ≡ not (nat_lt 0 (row_bits (row_at logged.marks.wrong k)))) → AreLineRows s.subject.now s.patterns.now lines m
  rows_known m done all goods turneds passes = record { good = good; turned = turned; free = free }
    where
      c : Circuit
      c = s.subject.now

      within : (k : ℕ) → k < length lines → k < done
      within k h = omega (arith, h, all, logged_many)

      good : (line k : ℕ) (bits : List Bool) → line < line_count s.subject.now → k < length lines → Agrees s.subject.now Free (vector_at s.patterns.now lines k) bits → row_bit m.good line k ≡ bit_at bits line
      good line k bits hl hk agrees = goods.each line k hl (within k hk) bits (subst (λ (v : List Bool). Agrees s.subject.now Free v bits) (sym (vector_is k hk)) agrees)

      turned : (line k : ℕ) (answer : List Bool) → line < line_count s.subject.now → k < length lines → IsAnswer s.subject.now (Stuck (Stem line) (not (row_bit m.good line k))) (vector_at s.patterns.now lines k) answer → row_bit m.turned line k ≡ does_fit lines k answer
      turned line k answer hl hk own =
          let v = vector_at s.patterns.now lines k in
          let one = Agrees-exists s.subject.now Free v w in
          let value = good line k one.0 hl hk one.1 in
          let same = sym (vector_is k hk) in
          let stuck = subst (λ (bit : Bool). IsAnswer s.subject.now (Stuck (Stem line) (not bit)) v answer) value own in
          turneds.each line k hl (within k hk) lines table one.0 answer is answers (subst (λ (u : List Bool). Agrees s.subject.now Free u one.0) same one.1)
          (subst (λ (u : List Bool). IsAnswer s.subject.now (Stuck (Stem line) (not (bit_at one.0 line))) u answer) same stuck)

      free : (k : ℕ) (answer : List Bool) → k < length lines → IsAnswer s.subject.now Free (vector_at s.patterns.now lines k) answer → bit_at m.free k ≡ does_fit lines k answer
      free k answer hk own =
          let line = logged_line lines k in
          let expected = answer_to table line.0 0 in
          let marked = (is.marks_are table answers).wrongs.begun k hk in
          let v = vector_at s.patterns.now lines k in
          let first = subst (λ (f : Fault). IsAnswer s.subject.now f v expected) (first_free s.subject.now) (answer_is s.subject.now s.patterns.now table answers line.0 0 (is.inside k (0, []) hk) (some_number s.subject.now)) in
          let one = one_answer s.subject.now w Free v expected answer first own in
          passes k hk
          ∙ (ap (λ (row : List Bool). not (nat_lt 0 (row_bits row))) marked
          ∙ (ap (λ (n : ℕ). not (nat_lt 0 n)) (bits_wrong expected line.1) ∙ (zero_test (differing_bits line.1 expected) ∙ ap (λ (own : List Bool). differing_bits line.1 own == 0) one)))
