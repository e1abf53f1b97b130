-- Tables of a circuit's patterns: each fault has an answer to a vector, each vector a row of them, and a table all
-- fault numbers.
use Rattle.std.proofs.Common.{◌≡◌, ℕ, ◌<◌, Bool, List, [], ◌∷◌, length, get_or, refl, ap, ◌∙◌}
use Rattle.std.specs.List.{AllZip}
use Rattle.std.proofs.lemmas.List.{length-map, length-replicate}
use Rattle.std.proofs.lemmas.List.FromFn.{length-enumerate_from}
use Rattle.net_model.specs.declared.fault.Fault.{Fault}
use Rattle.net_model.specs.declared.fault.Fault.TheVariants.{Free}
use Rattle.net_model.specs.Circuit.{Circuit, IsCircuit}
use Rattle.net_model.specs.Fault.{readings}
use Rattle.net_model.specs.Answer.{shown_bits, IsAnswer}
use Rattle.net_model.specs.ClassTable.{ClassTable, first_table}
use Rattle.net_model.specs.FaultList.{faults, fault_count, fault_numbered}
use Rattle.net_model.specs.PatternRows.{IsAnswerRow, AreAnswerRows, IsTableOf}
use Rattle.net_model.proofs.Evaluation.{Agrees-exists}
use Rattle.class_refine.proofs.Names.{numbers_after}
use Rattle.class_refine.proofs.Ranges.{zip_at}

-- an answer has a bit for each observed position
pub answer_width : {c : Circuit} {f : Fault} {v answer : List Bool} → IsAnswer c f v answer → length answer ≡ length c.positions
unfolding readings
answer_width {c} {f} {v} {answer} is = ap length is.shows ∙ length-map _ _ ∙ length-enumerate_from 0 c.positions

pub answer_exists : (c : Circuit) → IsCircuit c → (f : Fault) (v : List Bool) → (answer : List Bool) × IsAnswer c f v answer
answer_exists c is f v =
    let one = Agrees-exists c f v is in
    (shown_bits c f one.0, record { bits = one.0; agrees = one.1; shows = refl })

answers_exist : (c : Circuit) → IsCircuit c → (v : List Bool) (fs : List Fault) → (row : List (List Bool)) × AllZip (λ f answer. IsAnswer c f v answer) fs row
answers_exist c is v [] = ([], tt)
answers_exist c is v (f ∷ fs) =
    let one = answer_exists c is f v in
    let more = answers_exist c is v fs in
    (one.0 ∷ more.0, (one.1, more.1))

pub row_exists : (c : Circuit) → IsCircuit c → (v : List Bool) → (row : List (List Bool)) × IsAnswerRow c v row
row_exists c is v = answers_exist c is v (faults c)

-- the answer of a number in a row
pub answer_in_row : (c : Circuit) (v : List Bool) (row : List (List Bool)) → IsAnswerRow c v row → (number : ℕ) → number < fault_count c → IsAnswer c (fault_numbered c number) v (get_or row number [])
answer_in_row c v row all number h = zip_at (λ f answer. IsAnswer c f v answer) (faults c) row number Free [] all h

-- each vector has a row of answers
pub rows_exist : (c : Circuit) → IsCircuit c → (vectors : List (List Bool)) → (rows : List (List (List Bool))) × AreAnswerRows c vectors rows
rows_exist c is [] = ([], tt)
rows_exist c is (v ∷ vectors) =
    let one = row_exists c is v in
    let more = rows_exist c is vectors in
    (one.0 ∷ more.0, (one.1, more.1))

-- the table of a circuit has all its fault numbers
pub table_numbers : {c : Circuit} {patterns : List (List Bool)} {t : ClassTable} → IsTableOf c patterns t → length t.class_of ≡ fault_count c
table_numbers {c} {patterns} {t} is = ap (λ (u : ClassTable). length u.class_of) is.table ∙ numbers_after is.rows (first_table (fault_count c)) ∙ length-replicate (fault_count c) 0
