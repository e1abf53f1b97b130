-- A vector has one answer for each fault, and patterns have one row each and one table.
use Rattle.std.proofs.Common.{◌≡◌, ◌∙◌, Bool, List, [], ◌∷◌, refl, sym, ap, ap₂}
use Rattle.std.specs.List.{AllZip}
use Rattle.net_model.specs.declared.fault.Fault.{Fault}
use Rattle.net_model.specs.Circuit.{Circuit, IsCircuit}
use Rattle.net_model.specs.Answer.{shown_bits, IsAnswer}
use Rattle.net_model.specs.FaultList.{faults, fault_count}
use Rattle.net_model.specs.ClassTable.{ClassTable, class_table}
use Rattle.net_model.specs.PatternRows.{IsAnswerRow, AreAnswerRows, IsTableOf}
use Rattle.net_model.proofs.Copies.{Agrees-unique}

-- if a relation gives one element to each, two lists that it relates to the same list are equal
zip_once : {A B : Type 0} (R : A → B → Type 0) → ((a : A) (x y : B) → R a x → R a y → x ≡ y) → (ks : List A) (xs ys : List B) → AllZip R ks xs → AllZip R ks ys → xs ≡ ys
zip_once {A} {B} R one (a ∷ ks) (x ∷ xs) (y ∷ ys) first second = ap₂ (λ (z : B) (zs : List B). z ∷ zs) (one a x y first.0 second.0) (zip_once R one ks xs ys first.1 second.1)
zip_once R one [] [] [] first second = refl
zip_once R one [] [] (y ∷ ys) first second = absurd second
zip_once R one [] (x ∷ xs) ys first second = absurd first
zip_once R one (a ∷ ks) [] ys first second = absurd first
zip_once R one (a ∷ ks) (x ∷ xs) [] first second = absurd second

pub one_answer : (c : Circuit) → IsCircuit c → (f : Fault) (v first second : List Bool) → IsAnswer c f v first → IsAnswer c f v second → first ≡ second
one_answer c is f v first second a b = a.shows ∙ (ap (shown_bits c f) (Agrees-unique c is f v a.bits b.bits a.agrees b.agrees) ∙ sym b.shows)

pub one_rows : (c : Circuit) → IsCircuit c → (patterns : List (List Bool)) (rows other : List (List (List Bool))) → AreAnswerRows c patterns rows → AreAnswerRows c patterns other → rows ≡ other
one_rows c is = zip_once (IsAnswerRow c) (λ v. zip_once (λ f answer. IsAnswer c f v answer) (λ f. one_answer c is f v) (faults c))

pub one_table : (c : Circuit) → IsCircuit c → {patterns : List (List Bool)} {t other : ClassTable} → IsTableOf c patterns t → IsTableOf c patterns other → t ≡ other
one_table c is {patterns} first second =
    first.table ∙ ap (λ (rows : List (List (List Bool))). class_table (fault_count c) rows) (one_rows c is patterns first.rows second.rows first.answers second.answers) ∙ sym second.table
