-- What the fields of `AnswerNumbers` say of the value that they show.
use Rattle.std.proofs.Common.{◌≡◌, ◌∙◌, ◌<◌, ℕ, Bool, List, [], length, Option, Some, sym, ap, subst, arith}
use Rattle.std.specs.Prelude.{unwrap_or, option_and_then}
use Rattle.net_model.specs.Circuit.{Circuit}
use Rattle.word_sim.specs.GoodSim.{vectors_of}
use Rattle.answer_numbers.specs.declared.numbers.AnswerNumbers.TheInside.{Inside}
use Rattle.answer_numbers.specs.declared.numbers.Numbered.{Numbered}
use Rattle.answer_numbers.specs.AnswerNumbers.{AnswerNumbers, numbered_vectors}
use Rattle.answer_numbers.specs.AnswerNumbersFields.{answer_numbers_of}

module _ (a : Inside) (n : Numbered) (is : a.numbered ≡ Some n) (s : AnswerNumbers) (view : answer_numbers_of a ≡ s) where
  pub same_vectors : vectors_of a.good ≡ numbered_vectors s
  same_vectors = sym (ap (λ (o : Option Numbered). unwrap_or (option_and_then (λ m. a.good.ran) o) []) is) ∙ ap numbered_vectors view

  pub same_leads : a.leads.now ≡ s.leads
  same_leads = ap (λ (x : AnswerNumbers). x.leads) view

  -- what holds of the fields holds of the value
  pub moved : (P : Circuit → List ℕ → List (List Bool) → Type 0) → P a.good.circuit a.leads.now (vectors_of a.good) → P s.circuit s.leads (numbered_vectors s)
  moved P holds =
      subst (λ vs. P s.circuit s.leads vs) same_vectors (subst (λ ls. P s.circuit ls (vectors_of a.good)) same_leads (subst (λ k. P k a.leads.now (vectors_of a.good)) (ap (λ (x : AnswerNumbers). x.circuit) view) holds))

  -- what holds of the value holds of the fields
  pub held : (P : Circuit → List ℕ → List (List Bool) → Type 0) → P s.circuit s.leads (numbered_vectors s) → P a.good.circuit a.leads.now (vectors_of a.good)
  held P holds =
      subst (λ vs. P a.good.circuit a.leads.now vs) (sym same_vectors) (subst (λ ls. P a.good.circuit ls (numbered_vectors s)) (sym same_leads) (subst (λ k. P k s.leads (numbered_vectors s)) (sym (ap (λ (x : AnswerNumbers). x.circuit) view)) holds))

  pub lane_known : (lane : ℕ) → lane < length (numbered_vectors s) → lane < length (vectors_of a.good)
  lane_known lane h = omega (arith, h, ap length same_vectors)

  pub place_listed : (place : ℕ) → place < length s.leads → place < length a.leads.now
  place_listed place h = omega (arith, h, ap length same_leads)
