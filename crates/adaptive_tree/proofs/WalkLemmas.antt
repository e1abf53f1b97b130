-- A log of answers that is followed so far.
use Rattle.std.proofs.Common.{◌≡◌, ◌∙◌, ℕ, zero, suc, ◌+◌, ◌<◌, ◌≤◌, refl, ap, sym, subst, arith, append_assoc, append-nil, length-append, eqb, inl, inr}
use Rattle.std.specs.Prelude.{◌⊎◌, Bool, List, [], ◌∷◌, ◌++◌, length, map, take, Option, Some, option_and_then}
use Rattle.std.proofs.lemmas.List.{map-append, length-map, nil_from_length}
use Rattle.std.proofs.lemmas.List.Sums.{fold-append}
use Rattle.diagnose.specs.declared.fault.LogKind.{LogKind}
use Rattle.text_fields.specs.Fields.{Text, digit_bits}
use Rattle.diagnose.specs.Lines.{text_limit}
use Rattle.diagnose.specs.LogText.{log_line}
use Rattle.adaptive_tree.specs.declared.steps.Plan.{Plan}
use Rattle.adaptive_tree.specs.declared.outcome.Outcome.{Outcome}
use Rattle.adaptive_tree.specs.PlanNode.{PlanNode, HasNode}
use Rattle.adaptive_tree.specs.Walk.{next_node, node_after}
use Rattle.adaptive_tree.specs.AnswerLog.{Answer, IsRightAnswer, AreRightAnswers, log_answer_at, outcome_after, walk_text, AnswerRefused, LeadsTo, WalkRefused, at_line}
use Rattle.adaptive_tree.specs.Places.{IsWalkAt, IsAnswerLine}

abbrev pub bits_in : List Answer → List (List Bool)
bits_in answers = map (λ answer. answer.bits) answers

-- Some right answers come before `rest`, and the walk has come to where they lead.
pub record IsWalkSoFar (plan : Plan) (root : PlanNode) (text : Text) (place : Option ℕ) (number : ℕ) (rest : Text) : Type 0 where
  pub answers : List Answer
  pub right : AreRightAnswers plan.positions root answers
  pub text_is : text ≡ walk_text answers ++ rest
  pub at : IsWalkAt plan.steps place (node_after root (bits_in answers))
  pub number_is : number ≡ length answers + 1
  pub room : number + length rest ≤ length text + 1

pub walk_begins : (plan : Plan) (root : HasNode plan) (text : Text) → IsWalkSoFar plan root.node text (Some 0) 1 text
walk_begins plan root text = record {
  answers = [];
  right = λ at low. absurd (omega (arith, low));
  text_is = refl;
  at = record { rest = []; there = root.steps_are ∙ sym (append-nil _) };
  number_is = refl;
  room = omega arith;
}

-- ---- one more answer

last_or_before : (at n : ℕ) → at < n + 1 → (at ≡ n) ⊎ (at < n)
last_or_before at n low = grind (arith, low)

take_front : (before : List Answer) (answer : Answer) (at : ℕ) → at < length before → take at (before ++ answer ∷ []) ≡ take at before
take_front [] answer at low = absurd (omega (arith, low))
take_front (x ∷ before) answer zero low = refl
take_front (x ∷ before) answer (suc at) low = ap (λ (rest : List Answer). x ∷ rest) (take_front before answer at (omega (arith, low)))

at_front : (before : List Answer) (answer : Answer) (at : ℕ) → at < length before → log_answer_at (before ++ answer ∷ []) at ≡ log_answer_at before at
at_front [] answer at low = absurd (omega (arith, low))
at_front (x ∷ before) answer zero low = refl
at_front (x ∷ before) answer (suc at) low = at_front before answer at (omega (arith, low))

take_last : (before : List Answer) (answer : Answer) → take (length before) (before ++ answer ∷ []) ≡ before
take_last [] answer = refl
take_last (x ∷ before) answer = ap (λ (rest : List Answer). x ∷ rest) (take_last before answer)

at_last : (before : List Answer) (answer : Answer) → log_answer_at (before ++ answer ∷ []) (length before) ≡ answer
at_last [] answer = refl
at_last (x ∷ before) answer = at_last before answer

module _ (positions : ℕ) (root : PlanNode) where
  right_at : (before : List Answer) (answer : Answer) → AreRightAnswers positions root before → IsRightAnswer positions root before answer → (at : ℕ) → (at ≡ length before) ⊎ (at < length before)
      → IsRightAnswer positions root (take at (before ++ answer ∷ [])) (log_answer_at (before ++ answer ∷ []) at)
  right_at before answer right is at (inl here) =
      subst (λ (k : ℕ). IsRightAnswer positions root (take k (before ++ answer ∷ [])) (log_answer_at (before ++ answer ∷ []) k)) (sym here)
      (subst (λ (front : List Answer). IsRightAnswer positions root front (log_answer_at (before ++ answer ∷ []) (length before))) (sym (take_last before answer))
      (subst (IsRightAnswer positions root before) (sym (at_last before answer)) is))
  right_at before answer right is at (inr low) =
      subst (λ (front : List Answer). IsRightAnswer positions root front (log_answer_at (before ++ answer ∷ []) at)) (sym (take_front before answer at low))
      (subst (IsRightAnswer positions root (take at before)) (sym (at_front before answer at low)) (right at low))

  one_more_answer : (before : List Answer) (answer : Answer) → AreRightAnswers positions root before → IsRightAnswer positions root before answer → AreRightAnswers positions root (before ++ answer ∷ [])
  one_more_answer before answer right is = λ at low. right_at before answer right is at (last_or_before at (length before) (omega (arith, low, length-append before (answer ∷ []))))

text_more : (before : List Answer) (pattern : ℕ) (bits : List Bool) (rest : Text) → walk_text (before ++ record { pattern = pattern; bits = bits } ∷ []) ++ rest ≡ walk_text before ++ (log_line pattern bits ++ 10 ∷ rest)
text_more [] pattern bits rest = append_assoc (log_line pattern bits ++ 10 ∷ []) [] rest ∙ append_assoc (log_line pattern bits) (10 ∷ []) rest
text_more (x ∷ before) pattern bits rest =
    append_assoc (log_line x.pattern x.bits ++ 10 ∷ []) (walk_text (before ++ record { pattern = pattern; bits = bits } ∷ [])) rest
    ∙ ap (λ (text : Text). (log_line x.pattern x.bits ++ 10 ∷ []) ++ text) (text_more before pattern bits rest)
    ∙ sym (append_assoc (log_line x.pattern x.bits ++ 10 ∷ []) (walk_text before) (log_line pattern bits ++ 10 ∷ rest))

shorter : (front more rest : Text) → rest ≡ front ++ 10 ∷ more → length more + 1 ≤ length rest
shorter front more rest is = omega (arith, ap (λ (t : Text). length t) is, length-append front (10 ∷ more))

pub line_shorter : (positions : ℕ) (end : Outcome) (rest : Text) (pattern : ℕ) (digits more : Text) → IsAnswerLine positions end rest pattern digits more → length more < length rest
line_shorter positions end rest pattern digits more line = omega (arith, shorter (log_line pattern (digit_bits digits)) more rest line.begins.1)

pub walk_more : (plan : Plan) (root : PlanNode) (text : Text) (place next : Option ℕ) (number : ℕ) (rest more : Text) (pattern : ℕ) (digits : Text) (end : Outcome) → (s : IsWalkSoFar plan root text place number rest)
    → end ≡ outcome_after root s.answers → IsAnswerLine plan.positions end rest pattern digits more → ((node : Option PlanNode) → IsWalkAt plan.steps place node → IsWalkAt plan.steps next (option_and_then (next_node (digit_bits digits)) node))
    → IsWalkSoFar plan root text next (number + 1) more
walk_more plan root text place next number rest more pattern digits end s end_is line moves =
    let answer : Answer = record { pattern = pattern; bits = digit_bits digits } in
    let right : IsRightAnswer plan.positions root s.answers answer = record { asked = sym end_is ∙ line.asked; width = length-map digits (λ digit. eqb digit 49) ∙ line.width } in
    let bits : bits_in (s.answers ++ answer ∷ []) ≡ bits_in s.answers ++ digit_bits digits ∷ [] = map-append (λ (a : Answer). a.bits) s.answers (answer ∷ []) in
    let node : node_after root (bits_in (s.answers ++ answer ∷ [])) ≡ option_and_then (next_node (digit_bits digits)) (node_after root (bits_in s.answers))
    = ap (node_after root) bits ∙ fold-append (λ n b. option_and_then (next_node b) n) (Some root) (bits_in s.answers) (digit_bits digits ∷ []) in
    record {
      answers = s.answers ++ answer ∷ [];
      right = one_more_answer plan.positions root s.answers answer s.right right;
      text_is = s.text_is ∙ ap (λ (t : Text). walk_text s.answers ++ t) line.begins.1 ∙ sym (text_more s.answers pattern (digit_bits digits) more);
      at = subst (IsWalkAt plan.steps next) (sym node) (moves (node_after root (bits_in s.answers)) s.at);
      number_is = omega (arith, s.number_is, length-append s.answers (answer ∷ []));
      room = omega (arith, s.room, shorter (log_line pattern (digit_bits digits)) more rest line.begins.1);
    }

pub walk_ends : (plan : Plan) (root : HasNode plan) (text : Text) (place : Option ℕ) (number : ℕ) (rest : Text) (end : Outcome) → (s : IsWalkSoFar plan root.node text place number rest) → length text ≤ text_limit → length rest ≡ 0 → end ≡ outcome_after root.node s.answers → LeadsTo plan text end
walk_ends plan root text place number rest end s short none is = record {
  root = root;
  answers = s.answers;
  right = s.right;
  text_is = s.text_is ∙ ap (λ (t : Text). walk_text s.answers ++ t) (nil_from_length rest none) ∙ append-nil (walk_text s.answers);
  short = short;
  end_is = is;
}

pub walk_refused : (plan : Plan) (root : HasNode plan) (text : Text) (place : Option ℕ) (number : ℕ) (rest : Text) (end : Outcome) (kind : LogKind) → (s : IsWalkSoFar plan root.node text place number rest) → length text ≤ text_limit → end ≡ outcome_after root.node s.answers
    → ((node : PlanNode) (before : List Answer) → end ≡ outcome_after node before → AnswerRefused plan.positions node before rest kind) → WalkRefused plan text kind number
walk_refused plan root text place number rest end kind s short is refused = at_line root s.answers rest short s.right s.text_is (refused root.node s.answers is) s.number_is
