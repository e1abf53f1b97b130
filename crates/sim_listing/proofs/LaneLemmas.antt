-- What the leads of a lane say of all numbers, and the texts of the different answers.
use Rattle.std.proofs.Common.{◌≡◌, ◌∙◌, ℕ, ◌<◌, Bool, not, List, [], ◌++◌, length, get_or, set, map, Some, None, sym, ap, subst, arith, inl, inr}
use Rattle.std.specs.Prelude.{⊤, All, IfSome, IsSome, Option, String, string_bytes, ◌==◌}
use Rattle.std.proofs.lemmas.Bool.{cases_eq, cases_lt, eq-eqb, ne_eqb, false≢true, false_from_ne_true}
use Rattle.std.proofs.lemmas.List.{length-map, length-set, get_or-map, get_or-set_same, get_or-set_other, get_or_past}
use Rattle.std.proofs.lemmas.Slice.Zip.{AllZip-long}
use Rattle.std.specs.declared.alloc.Global.{Global}
use Rattle.net_model.specs.Answer.{IsAnswer}
use Rattle.net_model.specs.BitText.{bits_text}
use Rattle.net_model.specs.Circuit.{Circuit}
use Rattle.net_model.specs.FaultList.{faults, fault_numbered}
use Rattle.net_model.specs.ClassTable.{same_bits}
use Rattle.net_model.specs.Rows.{row_at}
use Rattle.net_model.proofs.Listed.{some_number}
use Rattle.class_refine.proofs.PatternTables.{answer_in_row, row_exists}
use Rattle.dict_rows.specs.AnswerTable.{answer_in}
use Rattle.dict_rows.proofs.EntryLemmas.{same_bits-Decides}
use Rattle.answer_numbers.specs.AnswerNumbers.{vector_in, lead_fault, AreLeadAnswers, IsLeadNumber, IsLeadCount}
use Rattle.answer_numbers.proofs.DistinctLemmas.{distinct_apart}
use Rattle.sim_listing.specs.declared.lines.LaneAnswers.{LaneAnswers}
use Rattle.sim_listing.specs.LaneAnswers.{IsKnownLane, IsLaneRow, lane_answers, IsAnswerPlace, IsNumberPlace, AreTextsOf, AreLaneTexts}
use Rattle.sim_listing.specs.SimText.{answers_otherwise}

-- ---- answers

module _ (l : LaneAnswers) (known : IsKnownLane l) (row : List (List Bool)) (is : IsLaneRow l row) where
  abbrev pub circuit : Circuit
  circuit = l.numbers.now.circuit

  abbrev pub leads : List ℕ
  leads = l.numbers.now.leads

  abbrev pub vector : List Bool
  vector = vector_in l.numbers.now l.lane

  leads_answer : AreLeadAnswers circuit leads vector (map (answer_in row) leads)
  leads_answer = record {
    one_each = length-map leads (answer_in row);
    each = λ place h.
        subst (λ answer. IsAnswer circuit (lead_fault circuit leads place) vector answer) (sym (get_or-map (answer_in row) leads place 0 [] h))
        (answer_in_row circuit vector row is (get_or leads place 0) (known.equal.roots.known place 0 h));
  }

  wide : length vector ≡ circuit.sources
  wide = known.equal.widths l.lane [] known.lane

  of_number : (number : ℕ) → number < length l.places.now → IsAnswer circuit (fault_numbered circuit number) vector (answer_in row number)
  of_number number h = answer_in_row circuit vector row is number (omega (arith, h, known.equal.roots.one_each))

  -- the lead at a number's place answers as it does
  pub lead_answer : (number : ℕ) (answer : List Bool) → number < length l.places.now → IsAnswer circuit (lead_fault circuit leads (get_or l.places.now number 0)) vector answer → answer ≡ answer_in row number
  lead_answer number answer h of = known.equal.roots.equal number h vector answer (answer_in row number) wide of (of_number number h)

  -- so its answer's number is the place of the number's answer
  pub lead_place : (number place : ℕ) → number < length l.places.now → IsLeadNumber circuit leads vector (get_or l.places.now number 0) place → IsAnswerPlace (lane_answers l row) (answer_in row number) place
  lead_place number place h numbered =
      let found = numbered (map (answer_in row) leads) leads_answer in
      let lead = get_or l.places.now number 0 in
      let of = leads_answer.each lead (known.equal.roots.within number h) in
      record { within = found.within; own = found.own ∙ lead_answer number (row_at (map (answer_in row) leads) lead) h of }

  pub lead_count : (count : ℕ) → IsLeadCount circuit leads vector count → count ≡ length (lane_answers l row)
  lead_count count counted = counted (map (answer_in row) leads) leads_answer

  pub row_long : length row ≡ length l.places.now
  row_long = AllZip-long (λ f answer. IsAnswer circuit f vector answer) (faults circuit) row is ∙ sym known.equal.roots.one_each

  -- answers at different places differ
  pub places_tell : (number place free : ℕ) → IsAnswerPlace (lane_answers l row) (answer_in row number) place → IsAnswerPlace (lane_answers l row) (answer_in row 0) free → not (place == free) ≡ answers_otherwise row number
  places_tell number place free a b = elim (cases_eq place free) [
    | inl same ↦
        let alike : answer_in row number ≡ answer_in row 0 = sym a.own ∙ (ap (row_at (lane_answers l row)) same ∙ b.own) in
        ap not (eq-eqb place free same) ∙ sym (ap not ((same_bits-Decides (answer_in row number) (answer_in row 0)).1 alike))
    | inr other ↦
        let differ : answer_in row number ≡ answer_in row 0 → ⊥ = λ alike. other (distinct_apart (map (answer_in row) leads) place free a.within b.within (a.own ∙ (alike ∙ sym b.own))) in
        ap not (ne_eqb place free other) ∙ sym (ap not (false_from_ne_true (same_bits (answer_in row number) (answer_in row 0)) (λ yes. differ ((same_bits-Decides (answer_in row number) (answer_in row 0)).0 yes))))
  ]

pub some_place : (l : LaneAnswers) → IsKnownLane l → 0 < length l.places.now
some_place l known = omega (arith, known.equal.roots.one_each, some_number l.numbers.now.circuit)

-- ---- texts

-- there is room for a text at each answer's place
pub place_inside : (l : LaneAnswers) (texts : List (Option (String Global))) (number place : ℕ) → IsKnownLane l → AreLaneTexts l texts → IsNumberPlace l number place → place < length texts
place_inside l texts number place known are at =
    let row = row_exists l.numbers.now.circuit known.equal.roots.circuit (vector_in l.numbers.now l.lane) in
    omega (arith, (at row.0 row.1).within, (are row.0 row.1).one_each)

none_or : {x : Option (String Global)} {text : String Global} → x ≡ None → x ≡ Some text → ⊥
none_or {x} {text} none some = subst {A = Option (String Global)} (λ y. match_none y) (sym none ∙ some) tt
  where
    match_none : Option (String Global) → Type 0
    match_none None = ⊤
    match_none (Some t) = ⊥

pub texts_none : (answers : List (List Bool)) (texts : List (Option (String Global))) → length texts ≡ length answers → All (λ text. text ≡ None) texts → AreTextsOf answers texts
texts_none answers texts long none = record {
  one_each = long;
  right = λ place text some. elim (cases_lt place (length texts)) [
    | inl low ↦ absurd (none_or (none place None low) some)
    | inr over ↦ absurd (none_or (get_or_past texts place None over) some)
  ];
}

some_text : {a b : String Global} → Some a ≡ Some b → a ≡ b
some_text {a} {b} e = ap (λ x. text_or x) e
  where
    text_or : Option (String Global) → String Global
    text_or None = a
    text_or (Some t) = t

-- one text more
pub text_set : (answers : List (List Bool)) (texts : List (Option (String Global))) (place : ℕ) (text : String Global) → AreTextsOf answers texts → place < length texts → string_bytes text ≡ bits_text (row_at answers place) → AreTextsOf answers (set texts place (Some text))
text_set answers texts place text are inside is = record {
  one_each = length-set texts place (Some text) ∙ are.one_each;
  right = λ p t some. elim (cases_eq p place) [
    | inl same ↦
        let here : Some text ≡ Some t = sym (get_or-set_same texts place (Some text) None inside) ∙ (ap (λ k. get_or (set texts place (Some text)) k None) (sym same) ∙ some) in
        ap string_bytes (sym (some_text here)) ∙ (is ∙ ap (λ k. bits_text (row_at answers k)) (sym same))
    | inr other ↦ are.right p t (sym (get_or-set_other texts place p (Some text) None other) ∙ some)
  ];
}

-- what a text that is there appends is the text of the answer
pub written_is : (answers : List (List Bool)) (texts : List (Option (String Global))) (place : ℕ) (held : Option (String Global)) (before after : List ℕ) → AreTextsOf answers texts → IsSome (get_or texts place None) → held ≡ get_or texts place None → IfSome held (λ own. after ≡ before ++ string_bytes own) → after ≡ before ++ bits_text (row_at answers place)
written_is answers texts place None before after are some is pushed = absurd (false≢true (subst (λ (o : Option (String Global)). IsSome o) (sym is) some))
written_is answers texts place (Some text) before after are some is pushed = pushed ∙ ap (λ (bytes : List ℕ). before ++ bytes) (are.right place text (sym is))
