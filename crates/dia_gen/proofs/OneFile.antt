-- Without budgets of cubes and conflicts there is one made file: each line follows from those before it.
use Rattle.std.proofs.Common.{◌≡◌, ◌∙◌, ℕ, ◌<◌, ◌≤◌, List, [], ◌∷◌, ◌++◌, map, length, get_or, cond, Option, Some, refl, sym, ap, subst, append_assoc, arith}
use Rattle.std.specs.Prelude.{All, ⊤, Bool}
use Rattle.std.specs.List.{slice_get, fold, enumerate_from}
use Rattle.std.proofs.lemmas.List.Elements.{All-append, All-map, All-head, All-tail, filter_map-append}
use Rattle.std.proofs.lemmas.List.{append-nil}
use Rattle.std.proofs.lemmas.List.Sums.{sum_by-append}
use Rattle.std.proofs.lemmas.Option.{slice_get-get_or, slice_get_within}
use Rattle.net_model.specs.declared.fault.Fault.{Fault}
use Rattle.net_model.specs.Circuit.{Circuit, IsCircuit}
use Rattle.net_model.specs.FaultList.{fault_count, fault_numbered}
use Rattle.net_model.specs.ClassTable.{ClassTable, class_count, class_at, representative, refined_table, first_table}
use Rattle.net_model.specs.PatternRows.{IsTableOf}
use Rattle.net_model.proofs.OneAnswer.{one_table}
use Rattle.class_refine.proofs.Refined.{count-refined}
use Rattle.pair_sets.specs.declared.tree.Token.{Token}
use Rattle.pair_sets.specs.declared.tree.Token.TheVariants.{Rest}
use Rattle.pair_sets.specs.Tree.{IsCovering}
use Rattle.pair_miter.specs.ChainView.{ChainView}
use Rattle.result_records.specs.declared.record.Budgets.{Budgets}
use Rattle.result_records.specs.declared.record.Evidence.{Evidence}
use Rattle.result_records.specs.declared.record.Mark.{Mark}
use Rattle.result_records.specs.declared.record.Proof.{Proof}
use Rattle.result_records.specs.declared.record.Proof.TheVariants as proof
use Rattle.result_records.specs.declared.record.Record.{Record}
use Rattle.result_records.specs.declared.record.Record.TheVariants.{Head, Budget, Pattern, Same, Class, Member, End}
use Rattle.result_file.specs.declared.checked.Summary.{Summary}
use Rattle.text_fields.specs.Fields.{Text}
use Rattle.result_records.specs.Spelling.{text_of}
use Rattle.result_records.specs.Marks.{pattern_of, patterns_in, is_class, is_end, class_lines, end_lines}
use Rattle.result_file.specs.Lines.{budgets_in, IsInPlace, HasRightRoots, IsRightProof, IsRightEvidence, IsRightContent}
use Rattle.result_file.specs.Valid.{AreRightLines}
use Rattle.result_file.specs.Summary.{summary_of}
use Rattle.result_file.specs.Meaning.{stated_records, class_records, member_records}
use Rattle.result_file.proofs.FileLemmas.{next_right}
use Rattle.result_file.proofs.RightLines.{IsNextLine}
use Rattle.word_sim.specs.Stream.{stream}
use Rattle.kept_vectors.proofs.ListLemmas.{one_list_kept}
use Rattle.dia_gen.specs.Made.{HasNoSearch, HasNoRefutation, IsMadeFrom}
use Rattle.dia_gen.specs.Laws.{stream_budgets, OneFileOfStream, OneFileOfList}
use Rattle.dia_gen.proofs.DraftResult.{count_end}

-- The record isn't a pattern, and evidence has no search and isn't a refutation.
abbrev IsWithoutChoice : Record → Type 0
IsWithoutChoice (Pattern v) = ⊥
IsWithoutChoice (Same e) = HasNoSearch e.proof × HasNoRefutation e.proof
IsWithoutChoice _ = ⊤

-- The table has at least one class.
some_after : (t : ClassTable) (rows : List (List (List Bool))) → 0 < class_count t → 0 < class_count (fold refined_table t rows)
some_after t [] some = some
some_after t (row ∷ rows) some = some_after (refined_table t row) rows (omega (arith, count-refined t row))

some_class : {c : Circuit} {patterns : List (List Bool)} {t : ClassTable} → IsTableOf c patterns t → 0 < class_count t
some_class {c} {patterns} {t} table = subst (λ (u : ClassTable). 0 < class_count u) (sym table.table) (some_after (first_table (fault_count c)) table.rows (omega arith))

-- ---- one proof

module _ (c : Circuit) (f g : Fault) (budgets : Budgets) (cubes : budgets.cubes ≡ 0) (conflicts : budgets.conflicts ≡ 0) where
  -- An open leaf alone covers nothing.
  open_covers_none : (tree : List Token) → IsCovering c f g budgets.cubes tree → tree ≡ Rest ∷ [] → ⊥
  open_covers_none tree covering is = covering.covered (rw is (0, omega arith, refl))

  empty_log : (log : List ChainView) → length log ≡ budgets.conflicts → log ≡ []
  empty_log [] full = refl
  empty_log (chain ∷ log) full = absurd (omega (arith, full, conflicts))

  proof_once : (p q : Proof) → HasRightRoots c f g p → HasRightRoots c f g q → IsRightProof c f g budgets p → IsRightProof c f g budgets q → HasNoSearch p → HasNoSearch q → HasNoRefutation p → HasNoRefutation q → p ≡ q
  proof_once proof.Collapse proof.Collapse roots roots' right right' alone alone' plain plain' = refl
  proof_once proof.Collapse (proof.Covered tree) roots roots' right right' alone alone' plain plain' = absurd (roots' roots)
  proof_once proof.Collapse (proof.Refuted tree log) roots roots' right right' alone alone' plain plain' = absurd plain'
  proof_once proof.Collapse (proof.Spent tree log) roots roots' right right' alone alone' plain plain' = absurd (roots' roots)
  proof_once (proof.Covered tree) q roots roots' right right' alone alone' plain plain' = absurd (open_covers_none tree right alone)
  proof_once (proof.Refuted tree log) q roots roots' right right' alone alone' plain plain' = absurd plain
  proof_once (proof.Spent tree log) proof.Collapse roots roots' right right' alone alone' plain plain' = absurd (roots roots')
  proof_once (proof.Spent tree log) (proof.Covered tree') roots roots' right right' alone alone' plain plain' = absurd (open_covers_none tree' right' alone')
  proof_once (proof.Spent tree log) (proof.Refuted tree' log') roots roots' right right' alone alone' plain plain' = absurd plain'
  proof_once (proof.Spent tree log) (proof.Spent tree' log') roots roots' right right' alone alone' plain plain' =
      let trees : tree ≡ tree' = alone ∙ sym alone' in
      let logs : log ≡ log' = empty_log log right.1.full ∙ sym (empty_log log' right'.1.full) in
      λ i. proof.Spent (trees i) (logs i)

-- ---- one line

module _ (c : Circuit) (t : ClassTable) (before : List Record) (some : 0 < class_count t) (two : 2 ≤ length before) (cubes : (budgets_in before).cubes ≡ 0) (conflicts : (budgets_in before).conflicts ≡ 0) where
  evidence_once : (e other : Evidence) → IsRightEvidence c t before e → IsRightEvidence c t before other → HasNoSearch e.proof × HasNoRefutation e.proof → HasNoSearch other.proof × HasNoRefutation other.proof → e ≡ other
  evidence_once e other right right' free free' =
      let members : e.member ≡ other.member = (let a = right.next.member in let b = right'.next.member in cc) in
      let partners : e.partner ≡ other.partner = right.next.partner ∙ ap (λ (n : ℕ). representative t (class_at t n)) members ∙ sym right'.next.partner in
      let f = fault_numbered c e.partner in
      let g = fault_numbered c e.member in
      let roots : HasRightRoots c f g other.proof = rw (members, partners) right'.roots in
      let proves : IsRightProof c f g (budgets_in before) other.proof = rw (members, partners) right'.right in
      let proofs = proof_once c f g (budgets_in before) cubes conflicts e.proof other.proof right.roots roots right.right proves free.0 free'.0 free.1 free'.1 in
      λ i. record { member = members i; partner = partners i; proof = proofs i }

  line_once : (r other : Record) → IsInPlace t before r → IsInPlace t before other → IsRightContent c t before r → IsRightContent c t before other → IsWithoutChoice r → IsWithoutChoice other → r ≡ other
  line_once (Head s p n) other place place' right right' free free' = absurd (omega (arith, ap length place, two))
  line_once (Budget b) other place place' right right' free free' = absurd (omega (arith, place, two))
  line_once (Pattern v) other place place' right right' free free' = absurd free
  line_once (Same e) (Head s p n) place place' right right' free free' = absurd (omega (arith, ap length place', two))
  line_once (Same e) (Budget b) place place' right right' free free' = absurd (omega (arith, place', two))
  line_once (Same e) (Pattern v) place place' right right' free free' = absurd free'
  line_once (Same e) (Same e') place place' right right' free free' = ap (λ (x : Evidence). Same x) (evidence_once e e' right right' free free')
  line_once (Same e) (Class n birth) place place' right right' free free' = absurd (let a = right.next.member in let b = right'.complete in cc)
  line_once (Same e) (Member n k m) place place' right right' free free' = absurd (omega (arith, place.1, place'.0, some))
  line_once (Same e) End place place' right right' free free' = absurd (omega (arith, place.1, place'.0, some))
  line_once (Class n birth) (Head s p m) place place' right right' free free' = absurd (omega (arith, ap length place', two))
  line_once (Class n birth) (Budget b) place place' right right' free free' = absurd (omega (arith, place', two))
  line_once (Class n birth) (Pattern v) place place' right right' free free' = absurd free'
  line_once (Class n birth) (Same e) place place' right right' free free' = absurd (let a = right'.next.member in let b = right.complete in cc)
  line_once (Class n birth) (Class n' birth') place place' right right' free free' =
      let numbers : n ≡ n' = right.next ∙ sym right'.next in
      let births : birth ≡ birth' = (let a = right.birth_is in let b = right'.birth_is in cc) in
      λ i. Class (numbers i) (births i)
  line_once (Class n birth) (Member n' k m) place place' right right' free free' = absurd (omega (arith, right.next, slice_get_within t.births n birth right.birth_is, place'.0))
  line_once (Class n birth) End place place' right right' free free' = absurd (omega (arith, right.next, slice_get_within t.births n birth right.birth_is, place'.0))
  line_once (Member n k m) (Head s p n') place place' right right' free free' = absurd (omega (arith, ap length place', two))
  line_once (Member n k m) (Budget b) place place' right right' free free' = absurd (omega (arith, place', two))
  line_once (Member n k m) (Pattern v) place place' right right' free free' = absurd free'
  line_once (Member n k m) (Same e) place place' right right' free free' = absurd (omega (arith, place'.1, place.0, some))
  line_once (Member n k m) (Class n' birth) place place' right right' free free' = absurd (omega (arith, right'.next, slice_get_within t.births n' birth right'.birth_is, place.0))
  line_once (Member n k m) (Member n' k' m') place place' right right' free free' =
      let numbers : n ≡ n' = right.next ∙ sym right'.next in
      let classes : k ≡ k' = right.class_is ∙ ap (class_at t) numbers ∙ sym right'.class_is in
      let marks : m ≡ m' = (let a = right.mark_is in let b = right'.mark_is in cc) in
      λ i. Member (numbers i) (classes i) (marks i)
  line_once (Member n k m) End place place' right right' free free' = absurd (omega (arith, right.next, right.inside, place'.1))
  line_once End (Head s p n) place place' right right' free free' = absurd (omega (arith, ap length place', two))
  line_once End (Budget b) place place' right right' free free' = absurd (omega (arith, place', two))
  line_once End (Pattern v) place place' right right' free free' = absurd free'
  line_once End (Same e) place place' right right' free free' = absurd (omega (arith, place'.1, place.0, some))
  line_once End (Class n birth) place place' right right' free free' = absurd (omega (arith, right'.next, slice_get_within t.births n birth right'.birth_is, place.0))
  line_once End (Member n k m) place place' right right' free free' = absurd (omega (arith, right'.next, right'.inside, place.1))
  line_once End End place place' right right' free free' = refl

  -- No line comes after the end.
  line_after_end : (r : Record) → IsInPlace t before r → IsRightContent c t before r → class_lines before ≡ class_count t → 0 < end_lines before → ⊥
  line_after_end (Head s p n) place right whole ended = omega (arith, ap length place, two)
  line_after_end (Budget b) place right whole ended = omega (arith, place, two)
  line_after_end (Pattern v) place right whole ended = omega (arith, place.1, whole, some)
  line_after_end (Same e) place right whole ended = omega (arith, place.1, whole, some)
  line_after_end (Class n birth) place right whole ended = omega (arith, right.next, slice_get_within t.births n birth right.birth_is, whole)
  line_after_end (Member n k m) place right whole ended = omega (arith, place.1, ended)
  line_after_end End place right whole ended = omega (arith, place.2, ended)

-- ---- all lines

module _ (c : Circuit) (circuit : IsCircuit c) (sources positions numbers : ℕ) (b : Budgets) (cubes : b.cubes ≡ 0) (conflicts : b.conflicts ≡ 0) where
  -- These lines after the first two.
  abbrev behind : List Record → List Record
  behind rest = Head sources positions numbers ∷ Budget b ∷ rest

  next_once : (rest : List Record) (r other : Record) → IsNextLine c (behind rest) r → IsNextLine c (behind rest) other → IsWithoutChoice r → IsWithoutChoice other → r ≡ other
  next_once rest r other next next' free free' =
      let same : next'.right.t ≡ next.right.t = one_table c circuit next'.right.table next.right.table in
      line_once c next.right.t (behind rest) (some_class next.right.table) (omega arith) cubes conflicts r other next.right.place (subst (λ (u : ClassTable). IsInPlace u (behind rest) other) same next'.right.place) next.right.content (subst (λ (u : ClassTable). IsRightContent c u (behind rest) other) same next'.right.content) free free'

  none_after : (rest : List Record) (r : Record) → IsNextLine c (behind rest) End → IsNextLine c (behind rest ++ End ∷ []) r → ⊥
  none_after rest r last after =
      let patterns : patterns_in (behind rest ++ End ∷ []) ≡ patterns_in (behind rest) = filter_map-append pattern_of (behind rest) (End ∷ []) ∙ append-nil (patterns_in (behind rest)) in
      let same : after.right.t ≡ last.right.t = one_table c circuit (rw patterns at after.right.table) last.right.table in
      let one : ◌≡◌ {A = ℕ} (cond (is_end End) 1 0) 1 = refl in
      line_after_end c last.right.t (behind rest ++ End ∷ []) (some_class last.right.table) (omega arith) cubes conflicts r (subst (λ (u : ClassTable). IsInPlace u (behind rest ++ End ∷ []) r) same after.right.place) (subst (λ (u : ClassTable). IsRightContent c u (behind rest ++ End ∷ []) r) same after.right.content)
      (count_end is_class (behind rest) refl ∙ last.right.place.0)
      (omega (arith, one, sum_by-append (λ r. cond (is_end r) 1 0) (behind rest) (End ∷ [])))

  none_left : {all : List Record} (rest more : List Record) → AreRightLines c all → all ≡ behind rest ++ End ∷ (more ++ End ∷ []) → ⊥
  none_left rest [] right is =
      none_after rest End (next_right (behind rest) End (End ∷ []) right is) (next_right (behind rest ++ End ∷ []) End [] right (is ∙ sym (append_assoc (behind rest) (End ∷ []) (End ∷ []))))
  none_left rest (r ∷ more) right is =
      none_after rest r (next_right (behind rest) End (r ∷ (more ++ End ∷ [])) right is) (next_right (behind rest ++ End ∷ []) r (more ++ End ∷ []) right (is ∙ sym (append_assoc (behind rest) (End ∷ []) (r ∷ (more ++ End ∷ [])))))

  lines_once : {all others : List Record} (rest rs os : List Record) → AreRightLines c all → all ≡ behind rest ++ rs ++ End ∷ [] → AreRightLines c others → others ≡ behind rest ++ os ++ End ∷ [] → All IsWithoutChoice rs → All IsWithoutChoice os → rs ≡ os
  lines_once rest [] [] right is right' is' free free' = refl
  lines_once rest [] (o ∷ os) right is right' is' free free' =
      let last = next_right (behind rest) End [] right (is ∙ ap (λ (rs : List Record). rs ++ End ∷ []) (append-nil (behind rest))) in
      let line = is' ∙ append_assoc (behind rest) (o ∷ os) (End ∷ []) in
      let same = next_once rest End o last (next_right (behind rest) o (os ++ End ∷ []) right' line) tt (All-head IsWithoutChoice o os free') in
      absurd (none_left rest os right' (line ∙ ap (λ (r : Record). behind rest ++ r ∷ (os ++ End ∷ [])) (sym same)))
  lines_once rest (r ∷ rs) [] right is right' is' free free' =
      let last = next_right (behind rest) End [] right' (is' ∙ ap (λ (rs : List Record). rs ++ End ∷ []) (append-nil (behind rest))) in
      let line = is ∙ append_assoc (behind rest) (r ∷ rs) (End ∷ []) in
      let same = next_once rest End r last (next_right (behind rest) r (rs ++ End ∷ []) right line) tt (All-head IsWithoutChoice r rs free) in
      absurd (none_left rest rs right (line ∙ ap (λ (r : Record). behind rest ++ r ∷ (rs ++ End ∷ [])) (sym same)))
  lines_once rest (r ∷ rs) (o ∷ os) right is right' is' free free' =
      let line = is ∙ append_assoc (behind rest) (r ∷ rs) (End ∷ []) in
      let line' = is' ∙ append_assoc (behind rest) (o ∷ os) (End ∷ []) in
      let same = next_once rest r o (next_right (behind rest) r (rs ++ End ∷ []) right line) (next_right (behind rest) o (os ++ End ∷ []) right' line') (All-head IsWithoutChoice r rs free) (All-head IsWithoutChoice o os free') in
      let one = λ (x : Record) (xs : List Record). ap (λ (ls : List Record). ls ++ End ∷ []) (sym (append_assoc (behind rest) (x ∷ []) xs)) in
      let more = lines_once (rest ++ r ∷ []) rs os right (is ∙ one r rs) right' (is' ∙ one o os ∙ ap (λ (x : Record). behind (rest ++ x ∷ []) ++ os ++ End ∷ []) (sym same)) (All-tail IsWithoutChoice r rs free) (All-tail IsWithoutChoice o os free') in
      λ i. same i ∷ more i

-- ---- the file

module _ {c : Circuit} {vectors : List (List Bool)} {blocks : ℕ} {summary : Summary} {file : Text} (made : IsMadeFrom c vectors (stream_budgets blocks) summary file) where
  -- The lines after the kept patterns, up to the end.
  abbrev rest : List Record
  rest = made.later ++ class_records made.is_true.stated.births ++ member_records made.is_true.stated.members

  abbrev first : List Record
  first = Head c.sources (length c.positions) (fault_count c) ∷ Budget (stream_budgets blocks) ∷ map Pattern made.kept

  lines_are : stated_records c made.is_true.stated ≡ first ++ rest ++ End ∷ []
  lines_are =
      let classes = class_records made.is_true.stated.births in
      let members = member_records made.is_true.stated.members in
      let stated : stated_records c made.is_true.stated ≡ first ++ made.later ++ classes ++ members ++ End ∷ [] =
      λ i. Head c.sources (length c.positions) (fault_count c) ∷ Budget (made.is_true.budgets_are i) ∷ made.body i ++ classes ++ members ++ End ∷ [] in
      let joined : first ++ made.later ++ classes ++ members ≡ first ++ rest =
      append_assoc (first ++ made.later) classes members ∙ append_assoc first made.later (classes ++ members) ∙ ap (λ (rs : List Record). first ++ rs) (sym (append_assoc made.later classes members)) in
      stated ∙ ap (λ (rs : List Record). rs ++ End ∷ []) joined

  line_free : (at : ℕ) (r : Record) → slice_get made.later at ≡ Some r → IsWithoutChoice r
  line_free at (Head s p n) there = tt
  line_free at (Budget b) there = tt
  line_free at (Pattern v) there = made.no_choice at v refl refl there
  line_free at (Same e) there = (made.no_search at e refl there, made.no_refutation at e refl there)
  line_free at (Class n birth) there = tt
  line_free at (Member n k m) there = tt
  line_free at End there = tt

  rest_free : All IsWithoutChoice rest
  rest_free =
      let classes = class_records made.is_true.stated.births in
      let members = member_records made.is_true.stated.members in
      All-append IsWithoutChoice (made.later ++ classes) members
      (All-append IsWithoutChoice made.later classes (λ at d below. line_free at (get_or made.later at d) (slice_get-get_or made.later at d below))
      (All-map IsWithoutChoice (λ (x : ℕ × Option (ℕ × ℕ)). Class x.0 x.1) (enumerate_from 0 made.is_true.stated.births) (λ at d below. tt)))
      (All-map IsWithoutChoice (λ (x : ℕ × (ℕ × Mark)). Member x.0 x.1.0 x.1.1) (enumerate_from 0 made.is_true.stated.members) (λ at d below. tt))

pub one_file : OneFileOfList
one_file c vectors blocks summary other file text circuit made made' =
    let kept = one_list_kept circuit made.kept_are made'.kept_are in
    let lines' : stated_records c made'.is_true.stated ≡ first made ++ rest made' ++ End ∷ [] =
    lines_are made' ∙ ap (λ (vs : List (List Bool)). Head c.sources (length c.positions) (fault_count c) ∷ Budget (stream_budgets blocks) ∷ map Pattern vs ++ rest made' ++ End ∷ []) (sym kept) in
    let same : rest made ≡ rest made' =
    lines_once c circuit c.sources (length c.positions) (fault_count c) (stream_budgets blocks) refl refl (map Pattern made.kept) (rest made) (rest made') made.valid.lines (lines_are made) made'.valid.lines lines' (rest_free made) (rest_free made') in
    let records : stated_records c made.is_true.stated ≡ stated_records c made'.is_true.stated = lines_are made ∙ ap (λ (rs : List Record). first made ++ rs ++ End ∷ []) same ∙ sym lines' in
    (made.is_true.text ∙ ap text_of records ∙ sym made'.is_true.text, made.summary_is ∙ ap summary_of records ∙ sym made'.summary_is)

pub one_stream_file : OneFileOfStream
one_stream_file c blocks = one_file c (stream c.sources blocks) blocks
