-- Lines of a plan that have been read so far, and what is refused after them.
use Rattle.std.proofs.Common.{◌≡◌, ◌∙◌, ℕ, ◌+◌, ◌<◌, ◌≤◌, refl, ap, sym, subst, arith, append_assoc, append-nil, length-append, inl, inr}
use Rattle.std.specs.Borrow.{Bor}
use Rattle.std.specs.Prelude.{◌⊎◌, List, [], ◌∷◌, ◌++◌, length, map, take, flat_map, true, false}
use Rattle.std.proofs.lemmas.List.{map-append, nil_from_length}
use Rattle.std.proofs.lemmas.List.Elements.{All-cons, All-nil}
use Rattle.std.proofs.lemmas.List.Concat.{flat_map-append}
use Rattle.std.proofs.lemmas.List.Folds.{flat_map-map}
use Rattle.text_fields.specs.Fields.{Text, digit_bits}
use Rattle.diagnose.specs.Lines.{text_limit}
use Rattle.adaptive_tree.specs.declared.fault.PlanKind.{PlanKind}
use Rattle.adaptive_tree.specs.declared.fault.PlanKind.TheVariants.{Order}
use Rattle.adaptive_tree.specs.declared.line.Form.{Form}
use Rattle.adaptive_tree.specs.declared.line.Form.TheVariants as form
use Rattle.adaptive_tree.specs.declared.steps.Step.{Step}
use Rattle.adaptive_tree.specs.declared.steps.Step.TheVariants.{Ask, On, Class}
use Rattle.adaptive_tree.specs.declared.steps.Plan.{Plan}
use Rattle.adaptive_tree.specs.declared.reader.Reader.{Reader}
use Rattle.adaptive_tree.specs.PlanNode.{HasNode, leaf}
use Rattle.adaptive_tree.specs.PlanText.{PlanLine, head, step, end, plan_line, plan_lines_text, plan_lines, plan_text, HasPlanSpelling}
use Rattle.adaptive_tree.specs.WellFormed.{BeginPlan, IsRightPlanLine, AreRightPlanLines, IsTextOf, line_at, with_line}
use Rattle.adaptive_tree.specs.Refusal.{BeginsWithPlanLine, PlanRestRefused, cut_short, misplaced, wrong, PlanRefused, at_line}
use Rattle.adaptive_tree.specs.Forms.{form_line, IsFirstForm}
use Rattle.adaptive_tree.specs.Growth.{grown, steps_so_far}
use Rattle.adaptive_tree.specs.Reading.{IsReadingPlan, goes_on, lines_so_far, IsRightNext, IsRightForm, IsWrongLine, may_not_come, has_wrong_values, IsLineAdded}
use Rattle.adaptive_tree.proofs.ReadingSteps.{one_more_line}
use Rattle.adaptive_tree.proofs.GrowthLemmas.{step_misplaced, head_misplaced, end_misplaced, more_misplaced, not_whole, end_begins_plan, head_begins}
use Rattle.adaptive_tree.proofs.ReaderLemmas.{right_place, right_values, at_end, not_grown}

-- ---- what is refused after lines

pub ends_early : (plan : Plan) (rest : Text) → length rest ≡ 0 → PlanRestRefused (lines_so_far plan) rest Order
ends_early plan rest none = cut_short (nil_from_length rest none) (not_whole plan.positions plan.patterns plan.classes plan.steps) refl

pub wrong_line_refused : (plan : Plan) (rest : Text) (f : Form) (more : Text) (kind : PlanKind) → IsFirstForm rest f more → IsWrongLine plan (form_line f) kind → PlanRestRefused (lines_so_far plan) rest kind
wrong_line_refused plan rest f more kind first (may_not_come place order) = misplaced (form_line f) more first.begins place order
wrong_line_refused plan rest f more kind first (has_wrong_values place values value) = wrong (form_line f) more first.begins place values value

-- what a form is if it is none of the others
abbrev IsHead : Form → Type 0
IsHead f = (a : ℕ) × (b : ℕ) × (c : ℕ) × (f ≡ form.Head a b c)

abbrev IsAsk : Form → Type 0
IsAsk f = (pattern : ℕ) × (branches : ℕ) × (f ≡ form.Ask pattern branches)

abbrev IsOn : Form → Type 0
IsOn f = (digits : Bor (List ℕ)) × (f ≡ form.On digits)

abbrev IsClass : Form → Type 0
IsClass f = (class : ℕ) × (f ≡ form.Class class)

pub head_or_end_wrong : (r : Reader) (f : Form) → IsReadingPlan r → goes_on r.next ≡ true → IsHead f ⊎ (f ≡ form.End) → IsWrongLine r.plan (form_line f) Order
head_or_end_wrong r f given goes (inl is) =
    subst (λ (g : Form). IsWrongLine r.plan (form_line g) Order) (sym is.3) (may_not_come (head_misplaced r.plan.positions r.plan.patterns r.plan.classes r.plan.steps is.0 is.1 is.2) refl)
head_or_end_wrong r f given goes (inr is) =
    subst (λ (g : Form). IsWrongLine r.plan (form_line g) Order) (sym is)
    (may_not_come (λ b. end_misplaced r.plan.positions r.plan.patterns r.plan.classes given.so_far given.at.room (not_grown r.next given.so_far given.at.next_is goes)
    (subst (λ (steps : List Step). BeginPlan (head r.plan.positions r.plan.patterns r.plan.classes ∷ (map step steps ++ end ∷ []))) given.steps_are b)) refl)

grown_step : (plan : Plan) (root : HasNode plan) (s : Step) → ¬ BeginPlan (lines_so_far plan ++ step s ∷ [])
grown_step plan root s b =
    step_misplaced plan.positions plan.patterns plan.classes (grown root.node) s tt (λ may. may)
    (subst (λ (steps : List Step). BeginPlan (head plan.positions plan.patterns plan.classes ∷ (map step steps ++ step s ∷ []))) root.steps_are b)

behind_grown : (plan : Plan) (root : HasNode plan) (rest : Text) (f g : Form) (more : Text) → IsFirstForm rest f more → f ≡ g → ¬ BeginPlan (lines_so_far plan ++ form_line g ∷ []) → PlanRestRefused (lines_so_far plan) rest Order
behind_grown plan root rest f g more first is blocked = misplaced (form_line f) more first.begins (subst (λ (x : Form). ¬ BeginPlan (lines_so_far plan ++ form_line x ∷ [])) (sym is) blocked) refl

-- after a whole node only the last line may come
pub only_end : (plan : Plan) (root : HasNode plan) (rest : Text) (f : Form) (more : Text) → IsFirstForm rest f more → IsHead f ⊎ (IsAsk f ⊎ (IsOn f ⊎ IsClass f)) → PlanRestRefused (lines_so_far plan) rest Order
only_end plan root rest f more first (inl is) = behind_grown plan root rest f (form.Head is.0 is.1 is.2) more first is.3 (head_misplaced plan.positions plan.patterns plan.classes plan.steps is.0 is.1 is.2)
only_end plan root rest f more first (inr (inl is)) = behind_grown plan root rest f (form.Ask is.0 is.1) more first is.2 (grown_step plan root (Ask is.0 is.1))
only_end plan root rest f more first (inr (inr (inl is))) = behind_grown plan root rest f (form.On is.0) more first is.1 (grown_step plan root (On (digit_bits is.0.now)))
only_end plan root rest f more first (inr (inr (inr is))) = behind_grown plan root rest f (form.Class is.0) more first is.1 (grown_step plan root (Class is.0))

pub nothing_comes : (plan : Plan) (rest : Text) (f : Form) (more : Text) → IsFirstForm rest f more → PlanRestRefused (lines_so_far plan ++ end ∷ []) rest Order
nothing_comes plan rest f more first = misplaced (form_line f) more first.begins (more_misplaced plan.positions plan.patterns plan.classes plan.steps (form_line f)) refl

first_kind : List PlanLine → ℕ
first_kind [] = 0
first_kind (head a b c ∷ lines) = 1
first_kind (step s ∷ lines) = 2
first_kind (end ∷ lines) = 3

not_first : (rest : Text) (f g : Form) (more : Text) → IsFirstForm rest f more → f ≡ g → (first_kind (form_line g ∷ []) ≡ 1 → ⊥) → PlanRestRefused [] rest Order
unfolding first_kind
not_first rest f g more first is other =
    misplaced (form_line f) more first.begins (subst (λ (x : Form). ¬ BeginPlan (form_line x ∷ [])) (sym is) (λ b. other (same_kind (form_line g) b.more (sym (ap first_kind b.begins))))) refl
  where
    same_kind : (line : PlanLine) (lines : List PlanLine) → first_kind (line ∷ lines) ≡ 1 → first_kind (line ∷ []) ≡ 1
    same_kind (head a b c) lines e = e
    same_kind (step s) lines e = e
    same_kind end lines e = e

-- a plan begins with its sizes
pub only_head : (rest : Text) (f : Form) (more : Text) → IsFirstForm rest f more → IsAsk f ⊎ (IsOn f ⊎ (IsClass f ⊎ (f ≡ form.End))) → PlanRestRefused [] rest Order
unfolding first_kind
only_head rest f more first (inl is) = not_first rest f (form.Ask is.0 is.1) more first is.2 (λ e. omega (arith, e))
only_head rest f more first (inr (inl is)) = not_first rest f (form.On is.0) more first is.1 (λ e. omega (arith, e))
only_head rest f more first (inr (inr (inl is))) = not_first rest f (form.Class is.0) more first is.1 (λ e. omega (arith, e))
only_head rest f more first (inr (inr (inr is))) = not_first rest f form.End more first is (λ e. omega (arith, e))

-- ---- lines that have been read so far

pub record IsReadSoFar (text : Text) (lines : List PlanLine) (number : ℕ) (rest : Text) : Type 0 where
  pub right : AreRightPlanLines lines
  pub text_is : text ≡ plan_lines_text lines ++ rest
  pub number_is : number ≡ length lines + 1
  pub room : number + length rest ≤ length text + 1

lines_more : (before : List PlanLine) (line : PlanLine) (rest : Text) → plan_lines_text (before ++ line ∷ []) ++ rest ≡ plan_lines_text before ++ (plan_line line ++ 10 ∷ rest)
lines_more [] line rest = append_assoc (plan_line line ++ 10 ∷ []) [] rest ∙ append_assoc (plan_line line) (10 ∷ []) rest
lines_more (x ∷ before) line rest =
    append_assoc (plan_line x ++ 10 ∷ []) (plan_lines_text (before ++ line ∷ [])) rest
    ∙ ap (λ (text : Text). (plan_line x ++ 10 ∷ []) ++ text) (lines_more before line rest)
    ∙ sym (append_assoc (plan_line x ++ 10 ∷ []) (plan_lines_text before) (plan_line line ++ 10 ∷ rest))

shorter : (front more rest : Text) → rest ≡ front ++ 10 ∷ more → length more + 1 ≤ length rest
shorter front more rest is = omega (arith, ap (λ (t : Text). length t) is, length-append front (10 ∷ more))

pub form_shorter : (rest : Text) (f : Form) (more : Text) → IsFirstForm rest f more → length more < length rest
form_shorter rest f more first = omega (arith, shorter (plan_line (form_line f)) more rest first.begins.1)

pub line_read : (text : Text) (lines : List PlanLine) (number : ℕ) (rest : Text) (line : PlanLine) (more : Text) → IsReadSoFar text lines number rest → BeginsWithPlanLine rest line more → BeginPlan (lines ++ line ∷ []) → IsRightPlanLine lines line
    → IsReadSoFar text (lines ++ line ∷ []) (number + 1) more
line_read text lines number rest line more s begins place values = record {
  right = one_more_line lines line s.right begins.0 place values;
  text_is = s.text_is ∙ ap (λ (t : Text). plan_lines_text lines ++ t) begins.1 ∙ sym (lines_more lines line more);
  number_is = omega (arith, s.number_is, length-append lines (line ∷ []));
  room = omega (arith, s.room, shorter (plan_line line) more rest begins.1);
}

pub head_read : (text : Text) (a b c : ℕ) (rest : Text) → BeginsWithPlanLine text (head a b c) rest → IsReadSoFar text (head a b c ∷ []) 2 rest
head_read text a b c rest begins = record {
  right = record {
    spelled = All-cons HasPlanSpelling (head a b c) [] begins.0 (All-nil HasPlanSpelling);
    places = head_begins a b c;
    right = λ at low. one_line at (omega (arith, low));
  };
  text_is = begins.1 ∙ sym (append_assoc (plan_line (head a b c)) (10 ∷ []) rest) ∙ ap (λ (t : Text). t ++ rest) (sym (append-nil (plan_line (head a b c) ++ 10 ∷ [])));
  number_is = refl;
  room = omega (arith, shorter (plan_line (head a b c)) rest text begins.1);
}
  where
    one_line : (at : ℕ) → at ≡ 0 → IsRightPlanLine (take at (head a b c ∷ [])) (line_at (head a b c ∷ []) at)
    one_line at e = subst (λ (k : ℕ). IsRightPlanLine (take k (head a b c ∷ [])) (line_at (head a b c ∷ []) k)) (sym e) tt

step_of_form : (r : Reader) (f : Form) → IsRightForm r f → (s : Step) × (form_line f ≡ step s) × IsRightNext r s
step_of_form r (form.Head a b c) right = absurd right
step_of_form r (form.Ask p n) right = (Ask p n, refl, right)
step_of_form r (form.On digits) right = (On (digit_bits digits.now), refl, right)
step_of_form r (form.Class c) right = (Class c, refl, right)
step_of_form r form.End right = absurd right

lines_with_step : (old new : Plan) (s : Step) → new ≡ with_line old (step s) → lines_so_far new ≡ lines_so_far old ++ step s ∷ []
lines_with_step old new s is = ap lines_so_far is ∙ ap (λ (lines : List PlanLine). head old.positions old.patterns old.classes ∷ lines) (map-append step old.steps (s ∷ []))

pub step_read : (text : Text) (old new : Reader) (number : ℕ) (rest : Text) (f : Form) (more : Text) → IsReadSoFar text (lines_so_far old.plan) number rest → IsReadingPlan old → IsFirstForm rest f more → IsRightForm old f → IsLineAdded old new (form_line f)
    → IsReadSoFar text (lines_so_far new.plan) (number + 1) more
step_read text old new number rest f more s given first right added =
    let found = step_of_form old f right in
    let lines : lines_so_far new.plan ≡ lines_so_far old.plan ++ step found.0 ∷ [] = lines_with_step old.plan new.plan found.0 (added.plan_is ∙ ap (with_line old.plan) found.1) in
    subst (λ (all : List PlanLine). IsReadSoFar text all (number + 1) more) (sym lines)
    (line_read text (lines_so_far old.plan) number rest (step found.0) more s (subst (λ (line : PlanLine). BeginsWithPlanLine rest line more) found.1 first.begins)
    (right_place old found.0 given (found.2.may given)) (right_values old.plan found.0 found.2.right))

pub plan_refused : (text : Text) (lines : List PlanLine) (number : ℕ) (rest : Text) (kind : PlanKind) → IsReadSoFar text lines number rest → length text ≤ text_limit → PlanRestRefused lines rest kind → PlanRefused text kind number
plan_refused text lines number rest kind s short refused = at_line lines rest short s.right s.text_is refused s.number_is

nothing_read : AreRightPlanLines []
nothing_read = record { spelled = All-nil HasPlanSpelling; places = record { plan = record { positions = 0; patterns = 0; classes = 0; steps = Class 0 ∷ [] }; node = record { node = leaf 0; steps_are = refl }; more = _; begins = refl }; right = λ at low. absurd (omega (arith, low)) }

pub head_refused : (text : Text) (kind : PlanKind) → length text ≤ text_limit → PlanRestRefused [] text kind → PlanRefused text kind 1
head_refused text kind short refused = at_line [] text short nothing_read refl refused refl

-- the lines of a plan without steps
pub lines_of_head : (plan : Plan) (a b c : ℕ) → plan.positions ≡ a → plan.patterns ≡ b → plan.classes ≡ c → plan.steps ≡ [] → lines_so_far plan ≡ head a b c ∷ []
lines_of_head plan a b c one two three none =
    ap (λ (n : ℕ). head n plan.patterns plan.classes ∷ map step plan.steps) one ∙ ap (λ (n : ℕ). head a n plan.classes ∷ map step plan.steps) two ∙ ap (λ (n : ℕ). head a b n ∷ map step plan.steps) three
    ∙ ap (λ (steps : List Step). head a b c ∷ map step steps) none

-- ---- the end

pub whole_node : (r : Reader) → IsReadingPlan r → goes_on r.next ≡ false → HasNode r.plan
whole_node r given ends = at_end r.next given.so_far given.at.next_is ends (λ so_far. r.plan.steps ≡ steps_so_far so_far → HasNode r.plan) (λ node are. record { node = node; steps_are = are }) given.steps_are

pub end_read : (text : Text) (plan : Plan) (root : HasNode plan) (number : ℕ) (rest more : Text) → IsReadSoFar text (lines_so_far plan) number rest → BeginsWithPlanLine rest end more → IsReadSoFar text (lines_so_far plan ++ end ∷ []) (number + 1) more
end_read text plan root number rest more s begins =
    line_read text (lines_so_far plan) number rest end more s begins
    (subst (λ (steps : List Step). BeginPlan (head plan.positions plan.patterns plan.classes ∷ (map step steps ++ end ∷ []))) (sym root.steps_are) (end_begins_plan plan.positions plan.patterns plan.classes root.node)) tt

pub plan_read : (text : Text) (plan : Plan) (root : HasNode plan) (number : ℕ) (rest : Text) → IsReadSoFar text (lines_so_far plan ++ end ∷ []) number rest → length text ≤ text_limit → length rest ≡ 0 → IsTextOf plan text
plan_read text plan root number rest s short none = record {
  well_formed = record { node = root; lines = s.right };
  text_is = s.text_is ∙ ap (λ (t : Text). plan_lines_text (plan_lines plan) ++ t) (nil_from_length rest none) ∙ append-nil (plan_text plan);
  short = short;
}

-- ---- a plan that is written

pub written : (plan : Plan) (first second third fourth : Text) → first ≡ [] → second ≡ first ++ plan_lines_text (head plan.positions plan.patterns plan.classes ∷ []) → third ≡ second ++ flat_map (λ s. plan_line (step s) ++ 10 ∷ []) plan.steps
    → fourth ≡ third ++ plan_lines_text (end ∷ []) → fourth ≡ plan_text plan
written plan first second third fourth none one two three =
    let f : PlanLine → Text = λ line. plan_line line ++ 10 ∷ [] in
    let start : Text = f (head plan.positions plan.patterns plan.classes) in
    let steps : third ≡ start ++ flat_map f (map step plan.steps)
    = two ∙ (ap (λ (t : Text). t ++ flat_map (λ s. f (step s)) plan.steps) (one ∙ (ap (λ (t : Text). t ++ plan_lines_text (head plan.positions plan.patterns plan.classes ∷ [])) none ∙ append-nil start)) ∙ ap (λ (t : Text). start ++ t) (sym (flat_map-map f step plan.steps))) in
    three ∙ ap (λ (t : Text). t ++ plan_lines_text (end ∷ [])) steps ∙ append_assoc start (flat_map f (map step plan.steps)) (plan_lines_text (end ∷ [])) ∙ ap (λ (t : Text). start ++ t) (sym (flat_map-append f (map step plan.steps) (end ∷ [])))
