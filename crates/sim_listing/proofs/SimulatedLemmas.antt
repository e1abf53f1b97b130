-- A vector among those that were simulated last.
use Rattle.std.proofs.Common.{◌≡◌, ◌∙◌, ℕ, ◌+◌, ◌-◌, ◌<◌, ◌≤◌, Bool, List, [], ◌∷◌, length, get_or, take, drop, sym, ap, subst, arith}
use Rattle.std.specs.Prelude.{slice_range, All}
use Rattle.std.proofs.lemmas.List.{append-nil, take_more, get_or-drop, length-drop}
use Rattle.std.proofs.lemmas.List.Elements.{All-take, All-drop}
use Rattle.net_model.specs.Circuit.{IsCircuit}
use Rattle.net_model.specs.PatternRows.{IsAnswerRow, AreAnswerRows}
use Rattle.class_refine.proofs.PatternTables.{row_exists}
use Rattle.table_dicts.proofs.BlockLemmas.{lane_pattern}
use Rattle.answer_numbers.specs.AnswerNumbers.{AnswerNumbers, numbered_vectors, vector_in}
use Rattle.sim_listing.specs.LaneAnswers.{AreEqualRoots, HaveEqualLeads}
use Rattle.text_fields.specs.Fields.{Text}
use Rattle.sim_listing.specs.SimText.{vector_text, IsSimTextFrom}

-- the range of one vector
one_at : (vectors : List (List Bool)) (number : ℕ) → number < length vectors → slice_range vectors number (number + 1) ≡ get_or vectors number [] ∷ []
one_at vectors number inside =
    let one : (number + 1) - number ≡ 0 + 1 = omega arith in
    let some : 0 < length (drop number vectors) = omega (arith, length-drop number vectors, inside) in
    let end : number + 0 ≡ number = omega arith in
    ap (λ (k : ℕ). take k (drop number vectors)) one
    ∙ (take_more (drop number vectors) 0 [] some ∙ ap (λ (v : List Bool). v ∷ []) (get_or-drop number vectors 0 [] ∙ ap (λ (k : ℕ). get_or vectors k []) end))

-- each number is equal to the lead at its place in that lane
pub lane_known : (n : AnswerNumbers) (places : List ℕ) (vectors : List (List Bool)) (first end : ℕ) → AreEqualRoots n.circuit n.leads places → All (λ (v : List Bool). length v ≡ n.circuit.sources) vectors → numbered_vectors n ≡ slice_range vectors first end → HaveEqualLeads n places
lane_known n places vectors first end roots wide numbered =
    let own = λ (v : List Bool). length v ≡ n.circuit.sources in
    record { roots = roots; widths = subst (λ (vs : List (List Bool)). All own vs) (sym numbered) (All-take own _ _ (All-drop own first vectors wide)) }

-- the lines of one of these vectors are its text
pub lane_is : (n : AnswerNumbers) (vectors : List (List Bool)) (first count number : ℕ) (text : Text) → IsCircuit n.circuit → numbered_vectors n ≡ slice_range vectors first (first + count) → first + count ≤ length vectors → first ≤ number → number < first + count
    → ((row : List (List Bool)) → IsAnswerRow n.circuit (vector_in n (number - first)) row → text ≡ vector_text row number) → IsSimTextFrom n.circuit number (slice_range vectors number (number + 1)) text
lane_is n vectors first count number text is numbered within from below own =
    let lane = number - first in
    let row = row_exists n.circuit is (vector_in n lane) in
    let there : first + lane ≡ number = omega (arith, from) in
    let at : vector_in n lane ≡ get_or vectors number [] =
    ap (λ (vs : List (List Bool)). get_or vs lane []) numbered ∙ (lane_pattern vectors first (first + count) lane (omega (arith, from, below)) ∙ ap (λ (k : ℕ). get_or vectors k []) there) in
    record {
      rows = row.0 ∷ [];
      answers = subst (λ (vs : List (List Bool)). AreAnswerRows n.circuit vs (row.0 ∷ [])) (sym (one_at vectors number (omega (arith, below, within)))) (subst (λ (v : List Bool). IsAnswerRow n.circuit v row.0) at row.1, tt);
      text_is = own row.0 row.1 ∙ sym (append-nil (vector_text row.0 number));
    }
