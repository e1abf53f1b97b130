-- Places compared with the fault-free answers, one after another.
use Rattle.std.proofs.Common.{◌≡◌, ◌≢◌, ◌∙◌, ℕ, ◌+◌, ◌*◌, ◌<◌, ◌≤◌, Bool, false, not, cond, List, [], ◌∷◌, ◌++◌, length, get_or, Option, None, sym, ap, subst, arith, inl, inr, IsTrue, ◌↔◌}
use Rattle.std.specs.Prelude.{unwrap_or, slice_get, Some}
use Rattle.std.proofs.lemmas.Option.{get_or_from_slice_get, slice_get_within}
use Rattle.net_model.specs.Fault.{IsFaultOf}
use Rattle.net_model.specs.FaultList.{faults, fault_numbered}
use Rattle.net_model.proofs.Listed.{listed}
use Rattle.std.proofs.lemmas.Bool.{cases_Bool, cases_lt, false_from_ne_true}
use Rattle.std.proofs.lemmas.List.{length_push, get_or_append_left, get_or_push}
use Rattle.std.proofs.lemmas.Nat.{row_fits}
use Rattle.net_model.specs.declared.fault.Fault.{Fault}
use Rattle.net_model.specs.declared.fault.Fault.TheVariants.{Free}
use Rattle.net_model.specs.Circuit.{Circuit}
use Rattle.net_model.specs.Answer.{bit_at, IsAnswer}
use Rattle.net_model.proofs.Elements.{true_false}
use Rattle.word_sim.specs.declared.lanes.TheConstants.{LANES}
use Rattle.fault_sim.specs.FaultSim.{FaultSim, lanes_at, IsDifference, AreDifferences, IsSomeDifference}
use Rattle.answer_numbers.specs.declared.numbers.Compared.{Compared}
use Rattle.answer_numbers.specs.AnswerNumbers.{lead_fault, DiffersFromFree}
use Rattle.answer_numbers.specs.Compared.{DiffersAtPosition, AreDiffering, AreCompared}
use Rattle.answer_numbers.specs.Differences.{found_at, differs_at, end_count, AreLists, HasPlace}
use Rattle.answer_numbers.specs.Growing.{AreLaneLists}
use Rattle.answer_numbers.proofs.FreeLemmas.{bit_by, same_answers}

-- the fault of a number in the circuit's list, and that it is a fault of the circuit
pub lead_is : (c : Circuit) (all : List Fault) (number : ℕ) (fault : Fault) → all ≡ faults c → slice_get all number ≡ Some fault → fault ≡ fault_numbered c number
lead_is c all number fault same got = sym (get_or_from_slice_get all number fault Free got) ∙ ap (λ (fs : List Fault). get_or fs number Free) same

pub lead_stands : (c : Circuit) (all : List Fault) (number : ℕ) (fault : Fault) → all ≡ faults c → slice_get all number ≡ Some fault → IsFaultOf c fault
lead_stands c all number fault same got =
    let there : slice_get (faults c) number ≡ Some fault = ap (λ (fs : List Fault). slice_get fs number) (sym same) ∙ got in
    subst (IsFaultOf c) (get_or_from_slice_get (faults c) number fault Free there) (listed c number Free (slice_get_within (faults c) number fault there))

-- an answer differs exactly if some position does
differs_by_any : (c : Circuit) (f : Fault) (v : List Bool) (any : Bool) (at : ℕ → Bool) → IsTrue any ↔ ((position : ℕ) × (position < length c.positions) × IsTrue (at position))
    → ((position : ℕ) → position < length c.positions → IsDifference c f v position (at position)) → (answer free : List Bool) → IsAnswer c f v answer → IsAnswer c Free v free → IsTrue any ↔ (answer ≢ free)
differs_by_any c f v any at some each answer free a b = (
  λ t e. let w = some.0 t in (each w.0 w.1 answer free a b).0 w.2 (ap (λ (bits : List Bool). bit_at bits w.0) e),
  λ ne. elim (cases_Bool any) [
    | inl so ↦ so
    | inr none ↦
        let off : (position : ℕ) → position < length c.positions → at position ≡ false = λ position h. false_from_ne_true (at position) (λ on. true_false any (some.1 (position, h, on)) none) in
        absurd (ne (same_answers a b (λ position h.
        bit_by (at position) (bit_at answer position) (bit_at free position) (each position h answer free a b) ∙ ap (λ t. cond t (not (bit_at free position)) (bit_at free position)) (off position h))))
  ],
)

module _ (c : Circuit) (leads : List ℕ) (vectors : List (List Bool)) (few : length vectors ≤ LANES) where
  -- no place is compared yet
  pub compared_none : (compared : Compared) → end_count compared.lists ≡ length c.positions → AreLists compared.lists → compared.differing.items ≡ []
      → ((position place : ℕ) → position < length c.positions → found_at compared.lists position place ≡ None) → AreCompared c leads vectors 0 compared
  compared_none compared count lists none absent = record {
    count = count;
    lists = lists;
    differing = record {
      one_each = ap length none;
      live = λ place lane h. absurd (omega (arith, h));
      past = λ place lane h. absurd (omega (arith, h));
    };
    few = λ position place h l. absent position place h;
    live = λ place position lane h. absurd (omega (arith, h));
    past = λ place position lane h. absurd (omega (arith, h));
  }

  -- one place more
  module _ (place : ℕ) (sim : FaultSim) (same : sim.circuit ≡ c) (differ : AreDifferences c (lead_fault c leads place) vectors sim.differences) (row : List Bool)
      (any : (lane : ℕ) → lane < LANES → IsTrue (bit_at row lane) ↔ IsSomeDifference sim lane) where
    any_at : (lane : ℕ) → lane < LANES → IsTrue (bit_at row lane) ↔ ((position : ℕ) × (position < length c.positions) × IsTrue (bit_at (lanes_at sim position) lane))
    any_at lane h = subst (λ (k : Circuit). IsTrue (bit_at row lane) ↔ ((position : ℕ) × (position < length k.positions) × IsTrue (bit_at (lanes_at sim position) lane))) same (any lane h)

    differing_more : (rows more : List (List Bool)) → AreDiffering c leads vectors place rows → more ≡ rows ++ row ∷ [] → AreDiffering c leads vectors (place + 1) more
    differing_more rows more are e = subst (AreDiffering c leads vectors (place + 1)) (sym e) (record {
      one_each = omega (arith, length_push rows row, are.one_each);
      live = λ p lane h l. elim (cases_lt p place) [
        | inl low ↦ subst (λ (r : List Bool). DiffersFromFree c leads (get_or vectors lane []) p (bit_at r lane)) (sym (get_or_append_left rows (row ∷ []) [] p (omega (arith, low, are.one_each)))) (are.live p lane low l)
        | inr high ↦
            let last : p ≡ place = omega (arith, h, high) in
            subst (λ (r : List Bool). DiffersFromFree c leads (get_or vectors lane []) p (bit_at r lane)) (sym (get_or_push rows row [] p (omega (arith, last, are.one_each))))
            (subst (λ k. DiffersFromFree c leads (get_or vectors lane []) k (bit_at row lane)) (sym last)
            (differs_by_any c (lead_fault c leads place) (get_or vectors lane []) (bit_at row lane) (λ position. bit_at (lanes_at sim position) lane) (any_at lane (omega (arith, l, few))) (λ position b. differ.live position lane b l)))
      ];
      past = λ p lane h l b. elim (cases_lt p place) [
        | inl low ↦ ap (λ (r : List Bool). bit_at r lane) (get_or_append_left rows (row ∷ []) [] p (omega (arith, low, are.one_each))) ∙ are.past p lane low l b
        | inr high ↦
            let last : p ≡ place = omega (arith, h, high) in
            ap (λ (r : List Bool). bit_at r lane) (get_or_push rows row [] p (omega (arith, last, are.one_each)))
            ∙ false_from_ne_true (bit_at row lane) (λ on. let w = (any_at lane b).0 on in true_false (bit_at (lanes_at sim w.0) lane) w.2 (differ.past w.0 lane w.1 l b))
      ];
    })

    pub compared_more : (old new : Compared) → AreCompared c leads vectors place old → HasPlace sim place old.lists new.lists → new.differing.items ≡ old.differing.items ++ row ∷ [] → AreCompared c leads vectors (place + 1) new
    compared_more old new are has pushed =
        let kept : (position p : ℕ) → position < length c.positions → p ≢ place → found_at new.lists position p ≡ found_at old.lists position p = λ position p h ne. has.others position p (omega (arith, h, are.count)) ne in
        let here : (position lane : ℕ) → position < length c.positions → lane < LANES → differs_at new.lists place position lane ≡ bit_at (lanes_at sim position) lane =
        λ position lane h l. has.here position lane (omega (arith, h, are.count)) l in
        let as_before : (p position lane : ℕ) → position < length c.positions → p ≢ place → differs_at new.lists p position lane ≡ differs_at old.lists p position lane =
        λ p position lane h ne. ap (λ (o : Option (List Bool)). bit_at (unwrap_or o []) lane) (kept position p h ne) in
        record {
          count = has.count ∙ are.count;
          lists = has.lists;
          differing = differing_more old.differing.items new.differing.items are.differing pushed;
          few = λ position p h l. let ne : p ≢ place = omega (arith, l) in kept position p h ne ∙ are.few position p h (omega (arith, l));
          live = λ p position lane h b l. elim (cases_lt p place) [
            | inl low ↦
                let ne : p ≢ place = omega (arith, low) in
                subst (DiffersAtPosition c leads (get_or vectors lane []) p position) (sym (as_before p position lane b ne)) (are.live p position lane low b l)
            | inr high ↦
                let last : place ≡ p = omega (arith, h, high) in
                subst (λ k. DiffersAtPosition c leads (get_or vectors lane []) k position (differs_at new.lists k position lane)) last
                (subst (DiffersAtPosition c leads (get_or vectors lane []) place position) (sym (here position lane b (omega (arith, l, few)))) (differ.live position lane b l))
          ];
          past = λ p position lane h b l r. elim (cases_lt p place) [
            | inl low ↦ let ne : p ≢ place = omega (arith, low) in as_before p position lane b ne ∙ are.past p position lane low b l r
            | inr high ↦
                let last : p ≡ place = omega (arith, h, high) in
                ap (λ k. differs_at new.lists k position lane) last ∙ (here position lane b r ∙ differ.past position lane b l r)
          ];
        }

  -- the lists have only the leads' places and the vectors' lanes
  pub lane_lists : (compared : Compared) → AreCompared c leads vectors (length leads) compared → AreLaneLists (length vectors) (length leads * length vectors) compared.lists
  lane_lists compared are = record {
    linked = are.lists;
    few = λ position place h l. elim (cases_lt place (length leads)) [
      | inr high ↦ are.few position place (omega (arith, h, are.count)) high
      | inl low ↦ let row : place * length vectors + length vectors ≤ length leads * length vectors = row_fits place (length vectors) (length leads) (length vectors) low (omega arith) in absurd (omega (arith, row, l))
    ];
    past = λ position place lane h l b. elim (cases_lt place (length leads)) [
      | inl low ↦ are.past place position lane low (omega (arith, h, are.count)) l b
      | inr high ↦ ap (λ (o : Option (List Bool)). bit_at (unwrap_or o []) lane) (are.few position place (omega (arith, h, are.count)) high)
    ];
  }
