use Rattle.std.proofs.Common.{◌≡◌, ◌∙◌, ◌<◌, ℕ, Bool, List, [], ◌∷◌, length, get_or, sym, ap, subst, arith}
use Rattle.std.specs.Prelude.{All}
use Rattle.std.proofs.lemmas.List.{length-map}
use Rattle.net_model.specs.Circuit.{Circuit}
use Rattle.net_model.proofs.Listed.{some_number}
use Rattle.dict_rows.specs.AnswerTable.{answer_to}
use Rattle.ranked_diag.specs.PartialLog.{Line}
use Rattle.suspect_scores.specs.Columns.{AreColumns}
use Rattle.suspect_scores.specs.Marks.{logged_line, logged_vectors}
use Rattle.suspect_scores.proofs.MarkLemmas.{marks_as, mark_rows, sized}
use Rattle.suspect_scores.proofs.LoggedLemmas.{lines_inside, few_lines, vectors_answerable, are_logged}
use Rattle.suspect_scores.proofs.logged.Logged.new.Goals as goal

pub logged_patterns-requires : goal.logged_patterns-requires
logged_patterns-requires c =
    subst (λ (ps : List (List Bool)). All (λ (line : Line). line.0 < length ps) c.args.partial.now) (sym c.as_slice.ensures)
    (lines_inside (length c.args.setting.now.patterns.now) (length c.args.setting.now.subject.now.positions) c.args.partial.now c.requires.partial)

pub number_answers_at-requires-clause-numbers : goal.number_answers_at-requires-clause-numbers
number_answers_at-requires-clause-numbers c = λ k d h. let zero : k ≡ 0 = omega (arith, h) in rw zero (some_number c.args.setting.now.subject.now)

pub number_answers_at-requires-clause-answerable : goal.number_answers_at-requires-clause-answerable
number_answers_at-requires-clause-answerable c =
    let s = c.args.setting.now in
    let lines = c.args.partial.now in
    let patterns = length s.patterns.now in
    let positions = length s.subject.now.positions in
    vectors_answerable s.subject.now s lines c.as_slice-logged.result.now c.requires.setting.answerable (lines_inside patterns positions lines c.requires.partial) (few_lines patterns positions lines c.requires.partial)
    (c.as_slice-logged.ensures.value ∙ (c.in_ok-patterns.ensures ∙ ap (λ (ps : List (List Bool)). logged_vectors ps lines) c.as_slice.ensures))

pub returns : goal.returns
returns c =
    let s = c.args.setting.now in
    let lines = c.args.partial.now in
    let patterns = length s.patterns.now in
    let positions = length s.subject.now.positions in
    let inside = lines_inside patterns positions lines c.requires.partial in
    let vectors = c.in_ok-patterns.patterns.items in
    let are : vectors ≡ logged_vectors s.patterns.now lines = c.in_ok-patterns.ensures ∙ ap (λ (ps : List (List Bool)). logged_vectors ps lines) c.as_slice.ensures in
    let slice_are : c.as_slice-logged.result.now ≡ logged_vectors s.patterns.now lines = c.as_slice-logged.ensures.value ∙ are in
    let many : length lines ≡ length vectors = sym (ap length are ∙ length-map lines (λ (l : Line). get_or s.patterns.now l.0 [])) in
    let count : c.len.result ≡ length vectors = omega (arith, c.len.ensures, c.in_ok-patterns.patterns.ok.0) in
    record {
      answered = record {
        answerable = vectors_answerable s.subject.now s lines vectors c.requires.setting.answerable inside (few_lines patterns positions lines c.requires.partial) are;
        marks = sized (length lines) c.in_ok-free.free.positions (length vectors) positions c.in_ok-marks.marks many c.in_ok-free.ensures.sizes.positions_are
            (mark_rows (λ k. answer_to c.in_ok-free.free k 0) c.in_ok-free.free.positions lines (length lines) c.in_ok-marks.marks c.in_ok-marks.ensures);
        columns = subst (λ (n : ℕ). AreColumns n positions c.in_ok-marks.marks c.in_ok-columns.columns) count (subst (λ (n : ℕ). AreColumns c.len.result n c.in_ok-marks.marks c.in_ok-columns.columns) (ap length (c.positions.ensures.value ∙ ap (λ (k : Circuit). k.positions) c.circuit.ensures.value)) c.in_ok-columns.ensures);
      };
      inside = inside;
      wide = c.requires.partial.wide;
      patterns_are = are;
      marks_are = λ table answers.
          let logged = are_logged s.subject.now s.patterns.now c.as_slice-logged.result.now lines table (0 ∷ []) c.in_ok-free.free answers inside slice_are c.in_ok-free.ensures.sizes c.in_ok-free.ensures.answers in
          marks_as (λ k. answer_to c.in_ok-free.free k 0) (λ k. answer_to table (logged_line lines k).0 0) c.in_ok-free.free.positions table.positions lines c.in_ok-marks.marks logged.sizes.positions_are (λ k h. logged.each k 0 h (omega arith)) c.in_ok-marks.ensures;
    }
