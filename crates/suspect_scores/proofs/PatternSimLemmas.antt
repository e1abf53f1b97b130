-- A block of lines: what is known of numbers by where their answers differ.
use Rattle.std.proofs.Common.{◌≡◌, ◌≢◌, ◌∙◌, ℕ, ◌+◌, ◌-◌, ◌*◌, ◌/◌, ◌%◌, ◌<◌, ◌≤◌, ◌↔◌, ◌^◌, Bool, true, false, not, List, [], length, map, take, set, get_or, refl, sym, ap, subst, arith, inl, inr, IsTrue}
use Rattle.std.specs.Prelude.{◌&&◌, ◌==◌, All, sum_by, slice_range, nat_lt}
use Rattle.std.specs.Bool.{beq}
use Rattle.std.specs.List.{range_with_len}
use Rattle.std.proofs.lemmas.Bool.{cases_lt, cases_eq, false≢true, lt-ltb}
use Rattle.std.proofs.lemmas.List.{get_or-map, length-map, length-set, get_or-set_same, get_or-set_other, ext_get_or}
use Rattle.std.proofs.lemmas.Nat.{mul-le}
use Rattle.std.proofs.Math.Seq.{take-length}
use Rattle.net_model.specs.declared.fault.Fault.{Fault}
use Rattle.net_model.specs.declared.fault.Fault.TheVariants.{Free}
use Rattle.net_model.specs.Circuit.{Circuit}
use Rattle.net_model.specs.Answer.{bit_at, IsAnswer}
use Rattle.class_refine.proofs.PatternTables.{answer_width}
use Rattle.net_model.specs.FaultList.{faults, fault_count, fault_numbered}
use Rattle.net_model.specs.Rows.{bit_of, row_at, row_bit, HaveSameShape, IsWordSet}
use Rattle.net_model.proofs.Listed.{some_number}
use Rattle.net_model.proofs.Copies.{same_bits_same_list}
use Rattle.fault_sim.specs.FaultSim.{FaultSim, AreDifferences, IsDifference, lanes_at}
use Rattle.table_dicts.specs.declared.setting.Setting.{Setting}
use Rattle.dict_rows.specs.AnswerTable.{Answers, answer_to}
use Rattle.dict_rows.specs.Rows.{AreRows}
use Rattle.table_dicts.specs.Setting.{AreAnswersAt}
use Rattle.table_dicts.proofs.BlockLemmas.{lane_pattern, block_end}
use Rattle.table_dicts.proofs.FailLemmas.{is_table, patterns_are, answer_is}
use Rattle.dict_rows.proofs.RowLemmas.{width_at, rows_later, same_shape, shape_later}
use Rattle.ranked_diag.specs.declared.partial.Seen.TheVariants.{Unseen}
use Rattle.ranked_diag.specs.Seen.{is_seen, differs, differing_bits}
use Rattle.ranked_diag.specs.PartialLog.{Line}
use Rattle.word_sim.specs.declared.lanes.TheConstants.{LANES}
use Rattle.table_dicts.specs.declared.pattern_sim.PatternSim.{PatternSim}
use Rattle.suspect_scores.specs.declared.columns.LogColumns.{LogColumns}
use Rattle.suspect_scores.specs.declared.logged.Logged.{Logged}
use Rattle.suspect_scores.specs.declared.scoring.LineScore.{LineScore}
use Rattle.suspect_scores.specs.declared.suspect.Suspect.{Suspect}
use Rattle.suspect_scores.specs.Scores.{is_failing, explains, explained_count, hit_bits, missed_bits, false_bits}
use Rattle.suspect_scores.specs.Listed.{suspect_of}
use Rattle.suspect_scores.specs.Marks.{logged_line, IsLogged}
use Rattle.suspect_scores.specs.Scored.{score_to, does_explain, meets_all, suspect_begun}
use Rattle.suspect_scores.specs.Columns.{lane_score, AreColumnRows, AreSame, HasBlockMore, CanAddBlock}
use Rattle.table_dicts.specs.Blocks.{HasRunPatterns}
use Rattle.suspect_scores.specs.NotedRows.{IsAdded, AreAdded, IsNoted, IsNotedAt, AreNoted}
use Rattle.suspect_scores.specs.Chosen.{explained_by}
use Rattle.suspect_scores.proofs.MarkLemmas.{tested_at}
use Rattle.suspect_scores.proofs.RangeSums.{count_small, sum_small}
use Rattle.suspect_scores.proofs.ScoredLemmas.{IsScoreOf, line_right, fits_told, suspect_more}

-- a bit that says whether two others differ
changed_is : (bit own free : Bool) → IsTrue bit ↔ (own ≢ free) → bit ≡ not (beq own free)
changed_is true true true h = absurd (h.0 refl refl)
changed_is true true false h = refl
changed_is true false true h = refl
changed_is true false false h = absurd (h.0 refl refl)
changed_is false true true h = refl
changed_is false true false h = absurd (false≢true (h.1 (λ e. false≢true (sym e))))
changed_is false false true h = absurd (false≢true (h.1 false≢true))
changed_is false false false h = refl

-- ---- the line of a lane

module _ (s : Setting) (lines : List Line) (table : Answers) (logged : Logged) (is : IsLogged s lines logged) (are : AreAnswersAt s table) where
  abbrev c : Circuit
  c = s.subject.now

  pub many : length logged.patterns.items ≡ length lines
  many = ap length is.patterns_are ∙ length-map lines (λ (l : Line). get_or s.patterns.now l.0 [])

  module _ (line number : ℕ) (h : line < length lines) (known : number < fault_count c) where
    abbrev one : Line
    one = logged_line lines line

    inside : one.0 < length s.patterns.now
    inside = is.inside line (0, []) h

    in_table : one.0 < length table.rows
    in_table = omega (arith, inside, patterns_are c s.patterns.now table are)

    wide : length one.1 ≡ length c.positions
    wide = is.wide line (0, []) h

    frees : length (answer_to table one.0 0) ≡ length one.1
    frees = (is_table c s.patterns.now table are).positions one.0 0 in_table (omega (arith, some_number c, are.numbers)) ∙ (are.positions ∙ sym wide)

    owns : length (answer_to table one.0 number) ≡ length one.1
    owns = (is_table c s.patterns.now table are).positions one.0 number in_table (omega (arith, known, are.numbers)) ∙ (are.positions ∙ sym wide)

    own_answer : IsAnswer c (fault_numbered c number) (get_or s.patterns.now one.0 []) (answer_to table one.0 number)
    own_answer = answer_is c s.patterns.now table are one.0 number inside known

    free_answer : IsAnswer c Free (get_or s.patterns.now one.0 []) (answer_to table one.0 0)
    unfolding faults
    free_answer = answer_is c s.patterns.now table are one.0 0 inside (some_number c)

    pattern_is : get_or logged.patterns.items line [] ≡ get_or s.patterns.now one.0 []
    pattern_is = ap (λ (ps : List (List Bool)). get_or ps line []) is.patterns_are ∙ get_or-map (λ (l : Line). get_or s.patterns.now l.0 []) lines line (0, []) [] h

    wrong_is : (k : ℕ) → k < length one.1 → row_bit logged.columns.wrong k line ≡ differs (get_or one.1 k Unseen) (bit_at (answer_to table one.0 0) k)
    wrong_is k low =
        is.answered.columns.wrongs.bits k line (omega (arith, low, wide)) (omega (arith, h, many))
        ∙ ((λ i. bit_at ((is.marks_are table are).wrongs.begun line h i) k) ∙ tested_at differs (answer_to table one.0 0) one.1 k Unseen frees low)

    right_is : (k : ℕ) → k < length one.1 → row_bit logged.columns.right k line ≡ (is_seen (get_or one.1 k Unseen) && not (differs (get_or one.1 k Unseen) (bit_at (answer_to table one.0 0) k)))
    right_is k low =
        is.answered.columns.rights.bits k line (omega (arith, low, wide)) (omega (arith, h, many))
        ∙ ((λ i. bit_at ((is.marks_are table are).rights.begun line h i) k) ∙ tested_at (λ s b. is_seen s && not (differs s b)) (answer_to table one.0 0) one.1 k Unseen frees low)

  -- the score of a lane is that of its line
  pub lane_right : (sim : FaultSim) (vectors : List (List Bool)) (first end lane number : ℕ) → sim.circuit ≡ c → vectors ≡ slice_range logged.patterns.items first end → first ≤ end → end ≤ length logged.patterns.items → number < fault_count c
      → AreDifferences c (fault_numbered c number) vectors sim.differences → lane < length vectors → IsScoreOf table number (logged_line lines (first + lane)) (lane_score logged.columns sim first lane)
  unfolding lane_score
  lane_right sim vectors first end lane number circuit block order within known differ live =
      let line = first + lane in
      let last = block_end c logged.patterns.items vectors first end block order within in
      let h : line < length lines = omega (arith, live, last, within, many) in
      let vector : get_or vectors lane [] ≡ get_or s.patterns.now (logged_line lines line).0 [] =
      ap (λ (vs : List (List Bool)). get_or vs lane []) block ∙ (lane_pattern logged.patterns.items first end lane (omega (arith, live, last)) ∙ pattern_is line number h known) in
      let changes : (k : ℕ) → k < length (logged_line lines line).1 → bit_at (lanes_at sim k) lane ≡ not (beq (bit_at (answer_to table (logged_line lines line).0 number) k) (bit_at (answer_to table (logged_line lines line).0 0) k)) =
      λ k low.
      changed_is (bit_at (lanes_at sim k) lane) (bit_at (answer_to table (logged_line lines line).0 number) k) (bit_at (answer_to table (logged_line lines line).0 0) k)
      (differ.live k lane (omega (arith, low, wide line number h known)) live (answer_to table (logged_line lines line).0 number) (answer_to table (logged_line lines line).0 0)
      (subst (λ v. IsAnswer c (fault_numbered c number) v (answer_to table (logged_line lines line).0 number)) (sym vector) (own_answer line number h known))
      (subst (λ v. IsAnswer c Free v (answer_to table (logged_line lines line).0 0)) (sym vector) (free_answer line number h known))) in
      let positions : length (logged_line lines line).1 ≡ length sim.circuit.positions = wide line number h known ∙ sym (ap (λ (k : Circuit). length k.positions) circuit) in
      let score = score_to (λ k. bit_at (lanes_at sim k) lane) (λ k. row_bit logged.columns.wrong k line) (λ k. row_bit logged.columns.right k line) in
      subst (λ (n : ℕ). IsScoreOf table number (logged_line lines line) (score n)) positions
      (line_right table number (logged_line lines line) (frees line number h known) (owns line number h known) (λ k. bit_at (lanes_at sim k) lane) (λ k. row_bit logged.columns.wrong k line) (λ k. row_bit logged.columns.right k line) changes
      (wrong_is line number h known) (right_is line number h known))

  -- a lane fits exactly if the answers of a fault, whose differences it has, have each observed bit of its line
  pub lane_fits : (sim : FaultSim) (first lane : ℕ) (f : Fault) (answer : List Bool) → sim.circuit ≡ c → first + lane < length lines → IsAnswer c f (get_or logged.patterns.items (first + lane) []) answer
      → ((position : ℕ) → position < length c.positions → IsDifference c f (get_or logged.patterns.items (first + lane) []) position (bit_at (lanes_at sim position) lane))
      → meets_all (lane_score logged.columns sim first lane) ≡ (differing_bits (logged_line lines (first + lane)).1 answer == 0)
  unfolding lane_score
  lane_fits sim first lane f answer circuit h own differ =
      let line = first + lane in
      let known = some_number c in
      let seen = (logged_line lines line).1 in
      let free = answer_to table (logged_line lines line).0 0 in
      let free_long : length free ≡ length seen = frees line 0 h known in
      let own_long : length answer ≡ length seen = answer_width own ∙ sym (wide line 0 h known) in
      let positions : length seen ≡ length sim.circuit.positions = wide line 0 h known ∙ sym (ap (λ (k : Circuit). length k.positions) circuit) in
      let changed : ℕ → Bool = λ k. bit_at (lanes_at sim k) lane in
      let wrong : ℕ → Bool = λ k. row_bit logged.columns.wrong k line in
      let right : ℕ → Bool = λ k. row_bit logged.columns.right k line in
      let changes : (k : ℕ) → k < length seen → changed k ≡ not (beq (bit_at answer k) (bit_at free k)) =
      λ k low. changed_is (changed k) (bit_at answer k) (bit_at free k) (differ k (omega (arith, low, wide line 0 h known)) answer free own (subst (λ v. IsAnswer c Free v free) (sym (pattern_is line 0 h known)) (free_answer line 0 h known))) in
      fits_told seen free answer free_long own_long changed wrong right (length sim.circuit.positions) positions changes (wrong_is line 0 h known) (right_is line 0 h known)

-- ---- scores

-- The sums are at most those of `lines` lines.
pub record IsSmall (lines : ℕ) (suspect : Suspect) : Type 0 where
  pub explained : suspect.explained ≤ lines
  pub hit : suspect.hit_bits ≤ lines * 4294967296
  pub missed : suspect.missed_bits ≤ lines * 4294967296
  pub wrong : suspect.false_bits ≤ lines * 4294967296

pub can_add : (first count positions : ℕ) (suspect : Suspect) → IsSmall first suspect → first + count < 2 ^ 32 → positions < 2 ^ 32 → CanAddBlock count positions suspect
can_add first count positions suspect small few wide =
    let most = mul-le count positions count 4294967296 (omega arith) (omega (arith, wide)) in
    record { explained = omega (arith, small.explained, few); hit = omega (arith, small.hit, most, few); missed = omega (arith, small.missed, most, few); wrong = omega (arith, small.wrong, most, few) }

small_more : (columns : LogColumns) (sim : FaultSim) (first start count : ℕ) (old new : Suspect) → IsSmall start old → length sim.circuit.positions < 2 ^ 32 → HasBlockMore (lane_score columns sim first) count old new → IsSmall (start + count) new
unfolding lane_score score_to
small_more columns sim first start count old new small wide more =
    let score = lane_score columns sim first in
    let positions = length sim.circuit.positions in
    let changed : ℕ → ℕ → Bool = λ lane k. bit_at (lanes_at sim k) lane in
    let wrong : ℕ → ℕ → Bool = λ lane k. row_bit columns.wrong k (first + lane) in
    let right : ℕ → ℕ → Bool = λ lane k. row_bit columns.right k (first + lane) in
    let below : (f : LineScore → ℕ) → ((lane : ℕ) → f (score lane) ≤ positions) → sum_by (λ lane. f (score lane)) (range_with_len 0 count) ≤ count * 4294967296 = λ f each. sum_small (λ lane. f (score lane)) 4294967296 count (λ lane. omega (arith, each lane, wide)) in
    record {
      explained = omega (arith, more.explained, small.explained, count_small (λ lane. does_explain (score lane)) count);
      hit = omega (arith, more.hit, small.hit, below (λ s. s.hit_bits) (λ lane. count_small (λ k. wrong lane k && changed lane k) positions));
      missed = omega (arith, more.missed, small.missed, below (λ s. s.missed_bits) (λ lane. count_small (λ k. wrong lane k && not (changed lane k)) positions));
      wrong = omega (arith, more.wrong, small.wrong, below (λ s. s.false_bits) (λ lane. count_small (λ k. right lane k && changed lane k) positions));
    }

-- Each score is that of the first `first` lines.
pub record AreScored (s : Setting) (logged : Logged) (numbers : List ℕ) (first : ℕ) (scores : List Suspect) : Type 0 where
  pub count : length scores ≡ length numbers
  pub numbered : (place : ℕ) (none : Suspect) → place < length numbers → (get_or scores place none).number ≡ get_or numbers place 0
  pub small : (place : ℕ) (none : Suspect) → place < length numbers → IsSmall first (get_or scores place none)
  pub are : (lines : List Line) (table : Answers) → IsLogged s lines logged → AreAnswersAt s table → (place : ℕ) (none : Suspect) → place < length numbers → get_or scores place none ≡ suspect_of table (take first lines) (get_or numbers place 0)

pub scored_begun : (s : Setting) (logged : Logged) (numbers : List ℕ) (scores : List Suspect) → scores ≡ map suspect_begun numbers → AreScored s logged numbers 0 scores
unfolding suspect_of explained_count hit_bits missed_bits false_bits
scored_begun s logged numbers scores begun =
    let at : (place : ℕ) (none : Suspect) → place < length numbers → get_or scores place none ≡ suspect_begun (get_or numbers place 0) =
    λ place none h. ap (λ (xs : List Suspect). get_or xs place none) begun ∙ get_or-map suspect_begun numbers place 0 none h in
    record {
      count = ap length begun ∙ length-map numbers suspect_begun;
      numbered = λ place none h. ap (λ (x : Suspect). x.number) (at place none h);
      small = λ place none h. subst (IsSmall 0) (sym (at place none h)) (record { explained = omega arith; hit = omega arith; missed = omega arith; wrong = omega arith });
      are = λ lines table is are place none h. at place none h;
    }

module _ (s : Setting) (logged : Logged) (numbers : List ℕ) (vectors : List (List Bool)) (first end : ℕ) (block : vectors ≡ slice_range logged.patterns.items first end) (order : first ≤ end) (within : end ≤ length logged.patterns.items)
    (known : All (λ number. number < fault_count s.subject.now) numbers) where
  last_is : end ≡ first + length vectors
  last_is = block_end s.subject.now logged.patterns.items vectors first end block order within

  pub scored_more : (old new : List Suspect) → length s.subject.now.positions < 2 ^ 32 → AreScored s logged numbers first old → AreAdded s.subject.now vectors logged.columns first old new → AreScored s logged numbers end new
  scored_more old new wide so_far added =
      let one : (place : ℕ) (none : Suspect) → place < length numbers → IsAdded s.subject.now vectors logged.columns first (get_or old place none) (get_or new place none) = λ place none h. added.each place none (omega (arith, h, so_far.count)) in
      record {
        count = added.count ∙ so_far.count;
        numbered = λ place none h. (one place none h).more.number ∙ so_far.numbered place none h;
        small = λ place none h.
            let o = one place none h in
            subst (λ (n : ℕ). IsSmall n (get_or new place none)) (sym last_is)
            (small_more logged.columns o.sim first first (length vectors) (get_or old place none) (get_or new place none) (so_far.small place none h) (omega (arith, wide, ap (λ (k : Circuit). length k.positions) o.circuit)) o.more);
        are = λ lines table is are place none h.
            let o = one place none h in
            let number = get_or numbers place 0 in
            let differ = subst (λ (n : ℕ). AreDifferences s.subject.now (fault_numbered s.subject.now n) vectors o.sim.differences) (so_far.numbered place none h) o.differ in
            let inside : first + length vectors ≤ length lines = omega (arith, last_is, within, many s lines table logged is are) in
            subst (λ (n : ℕ). get_or new place none ≡ suspect_of table (take n lines) number) (sym last_is)
            (suspect_more table lines number first (length vectors) inside (lane_score logged.columns o.sim first)
            (λ lane live. lane_right s lines table logged is are o.sim vectors first end lane number o.circuit block order within (known place 0 h) differ live)
            (get_or old place none) (get_or new place none) (so_far.are lines table is are place none h) o.more);
      }

pub scored_all : (s : Setting) (logged : Logged) (numbers : List ℕ) (scores : List Suspect) (first : ℕ) → first ≡ length logged.patterns.items → AreScored s logged numbers first scores
    → (lines : List Line) (table : Answers) → IsLogged s lines logged → AreAnswersAt s table → scores ≡ map (suspect_of table lines) numbers
scored_all s logged numbers scores first all so_far lines table is are =
    let none = suspect_begun 0 in
    let whole : take first lines ≡ lines = ap (λ (n : ℕ). take n lines) (all ∙ many s lines table logged is are) ∙ take-length lines in
    ext_get_or none scores (map (suspect_of table lines) numbers) (so_far.count ∙ sym (length-map numbers (suspect_of table lines))) (λ place h.
    let low : place < length numbers = omega (arith, h, so_far.count) in
    so_far.are lines table is are place none low ∙ ((λ i. suspect_of table (whole i) (get_or numbers place 0)) ∙ sym (get_or-map (suspect_of table lines) numbers place 0 none low)))

-- ---- rows of lines

-- The rows have which of the first `first` lines each number explains.
pub record AreExplained (s : Setting) (logged : Logged) (numbers : List ℕ) (first : ℕ) (rows : List (List Bool)) : Type 0 where
  pub shape : AreRows (length numbers) (length logged.patterns.items) rows
  pub are : (lines : List Line) (table : Answers) → IsLogged s lines logged → AreAnswersAt s table → (place k : ℕ) → place < length numbers → k < first
      → row_bit rows place k ≡ (is_failing table (logged_line lines k) && explains table (get_or numbers place 0) (logged_line lines k))

module _ (s : Setting) (logged : Logged) (numbers : List ℕ) (vectors : List (List Bool)) (first end : ℕ) (block : vectors ≡ slice_range logged.patterns.items first end) (order : first ≤ end) (within : end ≤ length logged.patterns.items)
    (known : All (λ number. number < fault_count s.subject.now) numbers) where
  pub explained_more : (old new : List (List Bool)) → AreExplained s logged numbers first old → AreNoted s.subject.now vectors logged.columns first old new numbers (length numbers) → AreExplained s logged numbers end new
  explained_more old new so_far noted = record {
    shape = rows_later noted.shape so_far.shape;
    are = λ lines table is are place k h low. elim (cases_lt k first) [
      | inl before ↦ noted.before place k before ∙ so_far.are lines table is are place k h before
      | inr past ↦
          let lane = k - first in
          let at : first + lane ≡ k = omega (arith, past) in
          let live : lane < length vectors = omega (arith, low, past, block_end s.subject.now logged.patterns.items vectors first end block order within) in
          let o = noted.here place lane h live in
          let number = get_or numbers place 0 in
          let right = lane_right s lines table logged is are o.sim vectors first end lane number o.circuit block order within (known place 0 h) o.differ live in
          subst (λ (n : ℕ). row_bit new place n ≡ (is_failing table (logged_line lines n) && explains table number (logged_line lines n))) at (o.is ∙ right.explains_it)
    ];
  }

pub explained_all : (s : Setting) (logged : Logged) (numbers : List ℕ) (rows : List (List Bool)) (first : ℕ) → first ≡ length logged.patterns.items → AreExplained s logged numbers first rows
    → (lines : List Line) (table : Answers) → IsLogged s lines logged → AreAnswersAt s table → (place : ℕ) → place < length numbers → row_at rows place ≡ explained_by table lines (get_or numbers place 0)
explained_all s logged numbers rows first all so_far lines table is are place h =
    let number = get_or numbers place 0 in
    let test : Line → Bool = λ line. is_failing table line && explains table number line in
    let wide = width_at so_far.shape place h ∙ (many s lines table logged is are ∙ sym (length-map lines test)) in
    same_bits_same_list (row_at rows place) (explained_by table lines number) wide (λ k low.
    let inside : k < length lines = omega (arith, low, wide, length-map lines test) in
    so_far.are lines table is are place k h (omega (arith, inside, all, many s lines table logged is are)) ∙ sym (get_or-map test lines k (0, []) false inside))

-- ---- a block, number by number and word by word

module _ (c : Circuit) (vectors : List (List Bool)) (columns : LogColumns) (first : ℕ) where
  -- The block is added to the first `done` scores.
  pub record AreAddedTo (old new : List Suspect) (done : ℕ) : Type 0 where
    pub count : length new ≡ length old
    pub each : (place : ℕ) (none : Suspect) → place < done → IsAdded c vectors columns first (get_or old place none) (get_or new place none)
    pub rest : (place : ℕ) (none : Suspect) → done ≤ place → get_or new place none ≡ get_or old place none

  pub added_none : (old : List Suspect) → AreAddedTo old old 0
  added_none old = record { count = refl; each = λ place none h. absurd (omega (arith, h)); rest = λ place none h. refl }

  pub added_more : (old mid : List Suspect) (place : ℕ) (before after : Suspect) → AreAddedTo old mid place → place < length old → ((none : Suspect) → before ≡ get_or mid place none) → IsAdded c vectors columns first before after → AreAddedTo old (set mid place after) (place + 1)
  added_more old mid place before after so_far h is one = record {
    count = length-set mid place after ∙ so_far.count;
    each = λ p none low. elim (cases_eq p place) [
      | inl same ↦
          let own : get_or old p none ≡ before = sym (so_far.rest p none (omega (arith, same))) ∙ ((λ i. get_or mid (same i) none) ∙ sym (is none)) in
          let put : get_or (set mid place after) p none ≡ after = (λ i. get_or (set mid place after) (same i) none) ∙ get_or-set_same mid place after none (omega (arith, h, so_far.count)) in
          subst (λ (x : Suspect). IsAdded c vectors columns first x (get_or (set mid place after) p none)) (sym own) (subst (λ (x : Suspect). IsAdded c vectors columns first before x) (sym put) one)
      | inr ne ↦ subst (λ (x : Suspect). IsAdded c vectors columns first (get_or old p none) x) (sym (get_or-set_other mid place p after none ne)) (so_far.each p none (omega (arith, low, ne)))
    ];
    rest = λ p none past. get_or-set_other mid place p after none (λ e. omega (arith, e, past)) ∙ so_far.rest p none (omega (arith, past));
  }

  pub notes_none : (rows : List (List Bool)) (numbers : List ℕ) → AreNoted c vectors columns first rows rows numbers 0
  notes_none rows numbers = record { shape = same_shape; here = λ place lane h live. absurd (omega (arith, h)); before = λ place k low. refl; others = λ place h. refl }

  pub notes_more : (old mid new : List (List Bool)) (numbers : List ℕ) (place : ℕ) → AreNoted c vectors columns first old mid numbers place → IsNoted c vectors columns first mid new place (get_or numbers place 0) → AreNoted c vectors columns first old new numbers (place + 1)
  notes_more old mid new numbers place so_far one = record {
    shape = shape_later so_far.shape one.noted.shape;
    here = λ p lane low live. elim (cases_eq p place) [
      | inl same ↦
          subst (λ (q : ℕ). IsNotedAt c vectors columns first (get_or numbers q 0) lane (row_bit new q (first + lane))) (sym same)
          (record { sim = one.sim; circuit = one.circuit; differ = one.differ; is = one.noted.here lane live })
      | inr ne ↦
          subst (λ (row : List Bool). IsNotedAt c vectors columns first (get_or numbers p 0) lane (bit_at row (first + lane))) (sym (one.noted.others p ne)) (so_far.here p lane (omega (arith, low, ne)) live)
    ];
    before = λ p k low. elim (cases_eq p place) [
      | inl same ↦ (λ i. row_bit new (same i) k) ∙ (one.noted.before k low ∙ ((λ i. row_bit mid (sym same i) k) ∙ so_far.before p k low))
      | inr ne ↦ ap (λ (row : List Bool). bit_at row k) (one.noted.others p ne) ∙ so_far.before p k low
    ];
    others = λ p past. one.noted.others p (λ e. omega (arith, e, past)) ∙ so_far.others p (omega (arith, past));
  }

-- The row has for each of `count` lines, starting at `first`, whether it is explained, as far as the first `words`
-- words go.
pub record AreWordsNoted (score : ℕ → LineScore) (first count words : ℕ) (old new : List (List Bool)) (row : ℕ) : Type 0 where
  pub shape : HaveSameShape old new
  pub here : (lane : ℕ) → lane < count → lane < words * 64 → row_bit new row (first + lane) ≡ does_explain (score lane)
  pub before : (k : ℕ) → k < first → row_bit new row k ≡ row_bit old row k
  pub others : (r : ℕ) → r ≢ row → row_at new r ≡ row_at old r

pub words_none : (score : ℕ → LineScore) (first count : ℕ) (rows : List (List Bool)) (row : ℕ) → AreWordsNoted score first count 0 rows rows row
words_none score first count rows row = record { shape = same_shape; here = λ lane live low. absurd (omega (arith, low)); before = λ k low. refl; others = λ r ne. refl }

pub words_more : (score : ℕ → LineScore) (first count word at bits row : ℕ) (old mid new : List (List Bool)) → AreWordsNoted score first count word old mid row → IsWordSet mid new row at bits → at ≡ first / 64 + word → first % 64 ≡ 0 → first + count ≤ length (row_at old row)
    → ((k : ℕ) → k < 64 → bit_of bits k ≡ (nat_lt (word * 64 + k) count && does_explain (score (word * 64 + k)))) → AreWordsNoted score first count (word + 1) old new row
words_more score first count word at bits row old mid new so_far one is aligned wide told = record {
  shape = shape_later so_far.shape one.shape;
  here = λ lane live low. elim (cases_lt lane (word * 64)) [
    | inl early ↦ one.beside (first + lane) (λ e. omega (arith, e, is, aligned, early)) ∙ so_far.here lane live early
    | inr late ↦
        let k = lane - word * 64 in
        let own : word * 64 + k ≡ lane = omega (arith, late) in
        let inside : first + lane < length (row_at mid row) = omega (arith, live, wide, so_far.shape.widths row) in
        let there : (first + lane) / 64 ≡ at = omega (arith, is, aligned, late, low) in
        let place : (first + lane) % 64 ≡ k = omega (arith, aligned, late, low) in
        one.here (first + lane) inside there
        ∙ ((λ i. bit_of bits (place i))
        ∙ (told k (omega (arith, late, low))
        ∙ ((λ i. nat_lt (own i) count && does_explain (score (own i))) ∙ (λ i. lt-ltb lane count live i && does_explain (score lane)))))
  ];
  before = λ k low. one.beside k (λ e. omega (arith, e, is, aligned, low)) ∙ so_far.before k low;
  others = λ r ne. one.others r ne ∙ so_far.others r ne;
}

-- ---- a number that was injected

module _ (old new : PatternSim) (number : ℕ) (kept : new ≡ record old { sim = new.sim }) (run : HasRunPatterns new) (differ : AreDifferences new.good.circuit (fault_numbered new.good.circuit number) new.block.vectors new.sim.differences) where
  pub injected_circuit : new.sim.circuit ≡ old.good.circuit
  injected_circuit = run.pattern_sim.sim ∙ ap (λ (b : PatternSim). b.good.circuit) kept

  pub injected_vectors : new.block.vectors ≡ old.block.vectors
  injected_vectors = ap (λ (b : PatternSim). b.block.vectors) kept

  pub injected_differ : AreDifferences old.good.circuit (fault_numbered old.good.circuit number) old.block.vectors new.sim.differences
  injected_differ = subst (λ (b : PatternSim). AreDifferences b.good.circuit (fault_numbered b.good.circuit number) b.block.vectors new.sim.differences) kept differ

  pub injected_same : (count : ℕ) → count ≡ length new.block.vectors → AreSame new.sim count LANES
  injected_same count is position lane low past live = differ.past position lane (omega (arith, low, ap (λ (k : Circuit). length k.positions) run.pattern_sim.sim)) (omega (arith, past, is)) live

  pub injected_columns : (columns : LogColumns) → AreColumnRows (length old.good.circuit.positions) columns → AreColumnRows (length new.sim.circuit.positions) columns
  injected_columns columns are = subst (λ (k : Circuit). AreColumnRows (length k.positions) columns) (sym injected_circuit) are
