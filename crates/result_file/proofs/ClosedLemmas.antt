-- If no member is open the classes are those of faults that no vector tells apart.
use Rattle.std.proofs.Common.{◌≡◌, ◌∙◌, ℕ, ◌<◌, length, Option, find, unwrap_or, refl, sym, ap, subst, arith, inl, inr, ◌==◌}
use Rattle.std.specs.List.{range_with_len}
use Rattle.std.proofs.lemmas.Bool.{cases_eq, eq-eqb}
use Rattle.net_model.specs.Circuit.{Circuit, IsCircuit}
use Rattle.net_model.specs.Answer.{IsAnswer, AreEqual}
use Rattle.net_model.specs.FaultList.{fault_count, fault_numbered}
use Rattle.net_model.proofs.OneAnswer.{one_answer}
use Rattle.class_refine.proofs.PatternTables.{answer_exists}
use Rattle.result_records.specs.declared.record.Mark.{Mark}
use Rattle.result_records.specs.declared.record.Mark.TheVariants as mark
use Rattle.result_records.proofs.Marked.{find_some}
use Rattle.result_file.specs.Meaning.{StatedResult, stated_class, stated_mark, lowest_mate, IsTrueResult}
use Rattle.result_file.specs.Laws.{HasNoOpen, ClosedClassesAreEqual}

-- numbers of one class have the same lowest number
lowest_of_class : (s : StatedResult) (m n : ℕ) → m < length s.members → stated_class s m ≡ stated_class s n → lowest_mate s m ≡ lowest_mate s n
lowest_of_class s m n below same =
    let first : ℕ → Option ℕ = λ class. find (λ k. stated_class s k == class) (range_with_len 0 (length s.members)) in
    let found = find_some (λ k. stated_class s k == stated_class s m) 0 (length s.members) m (omega arith) (omega arith) (eq-eqb (stated_class s m) (stated_class s m) refl) in
    ap (λ (o : Option ℕ). unwrap_or o m) found.1 ∙ sym (ap (λ (o : Option ℕ). unwrap_or o n) (ap first (sym same) ∙ found.1))

module _ (c : Circuit) (is : IsCircuit c) (s : StatedResult) (holds : IsTrueResult c s) (closed : HasNoOpen c s) where
  lowest_by : (n : ℕ) → n < fault_count c → (m : Mark) → stated_mark s n ≡ m → AreEqual c (fault_numbered c n) (fault_numbered c (lowest_mate s n))
  lowest_by n below mark.Rep e = subst (λ k. AreEqual c (fault_numbered c n) (fault_numbered c k)) (sym (holds.representatives n below e)) (λ v first second width a b. one_answer c is (fault_numbered c n) v first second a b)
  lowest_by n below mark.Equal e = holds.equal n below e
  lowest_by n below mark.Spent e = absurd (closed n below e)

  -- the lowest of its class answers as the number does
  lowest_equal : (n : ℕ) → n < fault_count c → AreEqual c (fault_numbered c n) (fault_numbered c (lowest_mate s n))
  lowest_equal n below = lowest_by n below (stated_mark s n) refl

  mates_equal : (m n : ℕ) → m < fault_count c → n < fault_count c → stated_class s m ≡ stated_class s n → AreEqual c (fault_numbered c m) (fault_numbered c n)
  mates_equal m n hm hn same v first second width a b =
      let low = lowest_mate s m in
      let answer = answer_exists c is (fault_numbered c low) v in
      let lows : low ≡ lowest_mate s n = lowest_of_class s m n (omega (arith, hm, holds.numbers)) same in
      lowest_equal m hm v first answer.0 width a answer.1
      ∙ sym (lowest_equal n hn v second answer.0 width b (subst (λ k. IsAnswer c (fault_numbered c k) v answer.0) lows answer.1))

  equal_mates : (m n : ℕ) → m < fault_count c → n < fault_count c → AreEqual c (fault_numbered c m) (fault_numbered c n) → stated_class s m ≡ stated_class s n
  equal_mates m n hm hn equal = elim (cases_eq (stated_class s m) (stated_class s n)) [
    | inl same ↦ same
    | inr differ ↦ let apart = holds.apart m n hm hn differ in absurd (apart.differ (equal _ apart.first apart.second apart.width apart.first_is apart.second_is))
  ]

pub closed_equal : ClosedClassesAreEqual
closed_equal c s m n is holds closed hm hn = (mates_equal c is s holds closed m n hm hn, equal_mates c is s holds closed m n hm hn)
