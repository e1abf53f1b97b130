-- The answers of a circuit's faults lead to their classes.
use Rattle.std.proofs.Common.{◌≡◌, ℕ, zero, suc, ◌<◌, ap, subst, sym, arith}
use Rattle.std.specs.Prelude.{List, [], ◌∷◌, length, slice_index_or}
use Rattle.std.specs.List.{AllZip}
use Rattle.std.proofs.lemmas.List.Elements.{All-weaker}
use Rattle.net_model.specs.declared.fault.Fault.TheVariants.{Free}
use Rattle.net_model.specs.Answer.{IsAnswer}
use Rattle.net_model.specs.FaultList.{faults, fault_numbered}
use Rattle.net_model.specs.PatternRows.{IsAnswerRow}
use Rattle.adaptive_planner.specs.Promises.{LeadsHome, IsInTable, IsOfFault}
use Rattle.adaptive_planner.specs.Laws.{FaultsLeadHome}

zip_at : {A B : Type 0} (R : A → B → Type 0) (xs : List A) (ys : List B) → AllZip R xs ys → (k : ℕ) (x : A) (y : B) → k < length xs → R (slice_index_or xs k x) (slice_index_or ys k y)
zip_at R [] [] all k x y low = absurd (omega (arith, low))
zip_at R [] (b ∷ ys) all k x y low = absurd all
zip_at R (a ∷ xs) [] all k x y low = absurd all
zip_at R (a ∷ xs) (b ∷ ys) all zero x y low = all.0
zip_at R (a ∷ xs) (b ∷ ys) all (suc k) x y low = zip_at R xs ys all.1 k x y (omega (arith, low))

zip-length : {A B : Type 0} (R : A → B → Type 0) (xs : List A) (ys : List B) → AllZip R xs ys → length xs ≡ length ys
zip-length R [] [] all = omega arith
zip-length R [] (b ∷ ys) all = absurd all
zip-length R (a ∷ xs) [] all = absurd all
zip-length R (a ∷ xs) (b ∷ ys) all = ap suc (zip-length R xs ys all.1)

pub faults_lead_home : FaultsLeadHome
faults_lead_home c patterns t table plan number are good low =
    let long : length patterns ≡ length table.rows = zip-length (IsAnswerRow c) patterns table.rows are.rows in
    let home : LeadsHome plan (IsInTable table number) _ = good.home number (omega (arith, low, are.numbers)) in
    record {
      root = home.root;
      answers = home.answers;
      right = home.right;
      own = All-weaker (IsInTable table number) (IsOfFault c patterns (fault_numbered c number)) (λ answer own. record {
        within = omega (arith, own.within, long);
        is = subst (IsAnswer c (fault_numbered c number) (slice_index_or patterns answer.pattern [])) (sym own.bits_are)
            (zip_at (λ f bits. IsAnswer c f (slice_index_or patterns answer.pattern []) bits) (faults c) (slice_index_or table.rows answer.pattern []) (zip_at (IsAnswerRow c) patterns table.rows are.rows answer.pattern [] [] (omega (arith, own.within, long))) number Free [] low);
      }) home.answers home.own;
      home = home.home;
    }
