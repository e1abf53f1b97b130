-- The answers of a circuit as a function of it: a plain evaluation by as many rounds over all lines as gates can need.
use Rattle.std.proofs.Common.{◌≡◌, ◌∙◌, ℕ, zero, suc, ◌<◌, Bool, false, List, [], ◌∷◌, map, length, get_or, refl, sym, ap, arith}
use Rattle.std.specs.Prelude.{unwrap_or}
use Rattle.std.specs.List.{AllZip}
use Rattle.std.proofs.lemmas.List.{get_or-map}
use Rattle.std.proofs.lemmas.List.FromFn.{get_or-map-range_with_len, length-map-range_with_len}
use Rattle.net_model.specs.declared.fault.Fault.{Fault}
use Rattle.net_model.specs.Circuit.{Circuit, IsCircuit, line_count, all_lines, gate_at, Feeds}
use Rattle.net_model.specs.Fault.{stuck_stem}
use Rattle.net_model.specs.Answer.{bit_at, driven_bit, line_bit, Agrees, shown_bits, IsAnswer}
use Rattle.net_model.specs.FaultList.{faults, fault_count}
use Rattle.net_model.specs.PatternRows.{IsAnswerRow}
use Rattle.net_model.proofs.Copies.{same_driven, pins_inside, same_bits_same_list}
use Rattle.net_model.proofs.Evaluation.{rounds, Agrees-exists}
use Rattle.dict_rows.specs.AnswerTable.{Answers, AreAnswers, answer_to}

-- what the circuit answers after the rounds
abbrev pub evaluated : Circuit → Fault → List Bool → List Bool
evaluated c f v = shown_bits c f (rounds c f v (suc (length c.gates)))

abbrev pub evaluated_row : Circuit → List Bool → List (List Bool)
evaluated_row c v = map (λ f. evaluated c f v) (faults c)

abbrev pub evaluated_answers : Circuit → List (List Bool) → Answers
evaluated_answers c patterns = record { numbers = fault_count c; positions = length c.positions; rows = map (evaluated_row c) patterns }

module _ (c : Circuit) (is : IsCircuit c) (f : Fault) (v bits : List Bool) (agrees : Agrees c f v bits) where
  -- a line has the same bit under two valuations if the lines that it reads have
  read_alike : (x : List Bool) (line : ℕ) → ((read : ℕ) → Feeds c read line → bit_at x read ≡ bit_at bits read) → line_bit c f v x line ≡ line_bit c f v bits line
  unfolding line_bit driven_bit
  read_alike x line same = ap (unwrap_or (stuck_stem f line)) (same_driven c f f v x bits line (gate_at c line) (λ pin. refl) same)

  round_bit : (x : List Bool) (line : ℕ) → line < line_count c → ((read : ℕ) → Feeds c read line → bit_at x read ≡ bit_at bits read) → bit_at (map (line_bit c f v x) (all_lines c)) line ≡ bit_at bits line
  round_bit x line h same = get_or-map-range_with_len (line_bit c f v x) 0 (line_count c) line line false h (omega arith) ∙ (read_alike x line same ∙ sym (agrees.each line h))

  -- a line has its bit after more rounds than its rank
  settled : (n line : ℕ) → line < line_count c → is.acyclic.rank line < n → bit_at (rounds c f v n) line ≡ bit_at bits line
  settled zero line h l = absurd (omega (arith, l))
  settled (suc n) line h l = round_bit (rounds c f v n) line h (λ read feeds. settled n read (pins_inside c is line read feeds) (omega (arith, is.acyclic.rises read line feeds, l)))

  rounds_are : rounds c f v (suc (length c.gates)) ≡ bits
  rounds_are =
      let long : length (rounds c f v (suc (length c.gates))) ≡ line_count c = length-map-range_with_len (line_bit c f v (rounds c f v (length c.gates))) 0 (line_count c) in
      same_bits_same_list (rounds c f v (suc (length c.gates))) bits (long ∙ sym agrees.whole) (λ line h. settled (suc (length c.gates)) line (omega (arith, h, long)) (omega (arith, is.acyclic.bounded line)))

evaluated_is : (c : Circuit) → IsCircuit c → (f : Fault) (v : List Bool) → IsAnswer c f v (evaluated c f v)
evaluated_is c is f v =
    let made = Agrees-exists c f v is in
    record { bits = made.0; agrees = made.1; shows = ap (shown_bits c f) (rounds_are c is f v made.0 made.1) }

all_zip_map : {A B : Type 0} (R : A → B → Type 0) (f : A → B) → ((x : A) → R x (f x)) → (xs : List A) → AllZip R xs (map f xs)
all_zip_map R f each [] = tt
all_zip_map R f each (x ∷ xs) = (each x, all_zip_map R f each xs)

pub evaluated_are : (c : Circuit) → IsCircuit c → (patterns : List (List Bool)) → AreAnswers c patterns (evaluated_answers c patterns)
evaluated_are c is patterns = record {
  numbers = refl;
  positions = refl;
  rows = all_zip_map (IsAnswerRow c) (evaluated_row c) (λ v. all_zip_map (λ f answer. IsAnswer c f v answer) (λ f. evaluated c f v) (λ f. evaluated_is c is f v) (faults c)) patterns;
}

-- the answers to a pattern are those of its bits
pub evaluated_at : (c : Circuit) (patterns : List (List Bool)) (pattern number : ℕ) → pattern < length patterns → answer_to (evaluated_answers c patterns) pattern number ≡ get_or (evaluated_row c (get_or patterns pattern [])) number []
evaluated_at c patterns pattern number h = ap (λ (row : List (List Bool)). get_or row number []) (get_or-map (evaluated_row c) patterns pattern [] [] h)
