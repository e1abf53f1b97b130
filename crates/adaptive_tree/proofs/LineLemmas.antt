-- A line of a plan has no LF and one spelling.
use Rattle.std.proofs.Common.{◌≡◌, ◌∙◌, ℕ, ◌+◌, ◌*◌, ◌<◌, refl, ap, sym, lit<, arith}
use Rattle.std.specs.Prelude.{Bool, List, [], ◌∷◌, ◌++◌, drop, All, Contains, codes, decimal}
use Rattle.std.specs.List.{AllByRecursion}
use Rattle.std.proofs.lemmas.List.Elements.{All-append, All-cons, All-weaker, All-from_recursion}
use Rattle.net_model.specs.BitText.{bits_text}
use Rattle.text_fields.proofs.NumberLemmas.{number_bytes, number_once, number_without_blank}
use Rattle.text_fields.proofs.BitLemmas.{bits_once, bits_bytes}
use Rattle.text_fields.specs.Fields.{Text, IsNumber}
use Rattle.text_fields.proofs.Cuts.{cut_once, missing_below}
use Rattle.adaptive_tree.specs.declared.steps.Step.{Step}
use Rattle.adaptive_tree.specs.declared.steps.Step.TheVariants.{Ask, On, Class}
use Rattle.adaptive_tree.specs.PlanText.{PlanLine, head, step, end, plan_line, HasPlanSpelling}

-- ---- bytes

abbrev IsInLine : ℕ → Type 0
IsInLine byte = 10 < byte

number_in_line : (n : ℕ) → IsNumber n → All IsInLine (decimal n)
number_in_line n small = All-weaker (λ b. 32 < b) IsInLine (λ b above. omega (arith, above)) (decimal n) (number_bytes n small)

bits_in_line : (bits : List Bool) → All IsInLine (bits_text bits)
bits_in_line bits = All-weaker (λ b. 32 < b) IsInLine (λ b above. omega (arith, above)) (bits_text bits) (bits_bytes bits)

-- a field after another, with a blank between them
with_blank : (front back : Text) → All IsInLine front → All IsInLine back → All IsInLine (front ++ 32 ∷ back)
with_blank front back one two = All-append IsInLine front (32 ∷ back) one (All-cons IsInLine 32 back (omega arith) two)

word_in_line : (word : Text) → AllByRecursion IsInLine word → All IsInLine word
word_in_line word all = All-from_recursion IsInLine word all

line_bytes : (line : PlanLine) → HasPlanSpelling line → All IsInLine (plan_line line)
unfolding plan_line
line_bytes (head positions patterns classes) spelled =
    with_blank (codes "adapt") (codes "1" ++ 32 ∷ (decimal positions ++ 32 ∷ (decimal patterns ++ 32 ∷ decimal classes))) (word_in_line (codes "adapt") (lit< tt, (lit< tt, (lit< tt, (lit< tt, (lit< tt, tt))))))
    (with_blank (codes "1") (decimal positions ++ 32 ∷ (decimal patterns ++ 32 ∷ decimal classes)) (word_in_line (codes "1") (lit< tt, tt))
    (with_blank (decimal positions) (decimal patterns ++ 32 ∷ decimal classes) (number_in_line positions spelled.0) (with_blank (decimal patterns) (decimal classes) (number_in_line patterns spelled.1) (number_in_line classes spelled.2))))
line_bytes (step (Ask pattern branches)) spelled = with_blank (codes "ask") (decimal pattern ++ 32 ∷ decimal branches) (word_in_line (codes "ask") (lit< tt, (lit< tt, (lit< tt, tt)))) (with_blank (decimal pattern) (decimal branches) (number_in_line pattern spelled.0) (number_in_line branches spelled.1))
line_bytes (step (On answer)) spelled = with_blank (codes "on") (bits_text answer) (word_in_line (codes "on") (lit< tt, (lit< tt, tt))) (bits_in_line answer)
line_bytes (step (Class class)) spelled = with_blank (codes "class") (decimal class) (word_in_line (codes "class") (lit< tt, (lit< tt, (lit< tt, (lit< tt, (lit< tt, tt)))))) (number_in_line class spelled)
line_bytes end spelled = word_in_line (codes "end") (lit< tt, (lit< tt, (lit< tt, tt)))

pub line_without_feed : (line : PlanLine) → HasPlanSpelling line → ¬ Contains (plan_line line) 10
line_without_feed line spelled = missing_below 10 (plan_line line) (line_bytes line spelled)

-- ---- one line for a spelling

-- which kind of line it is, and a text by its first two bytes
abbrev pub kind_number : PlanLine → ℕ
kind_number (head positions patterns classes) = 97 * 256 + 100
kind_number (step (Ask pattern branches)) = 97 * 256 + 115
kind_number (step (On answer)) = 111 * 256 + 110
kind_number (step (Class class)) = 99 * 256 + 108
kind_number end = 101 * 256 + 110

abbrev pub first_two : Text → ℕ
first_two [] = 0
first_two (a ∷ []) = 0
first_two (a ∷ b ∷ text) = a * 256 + b

pub kind_shown : (line : PlanLine) → first_two (plan_line line) ≡ kind_number line
unfolding plan_line
kind_shown (head positions patterns classes) = refl
kind_shown (step (Ask pattern branches)) = refl
kind_shown (step (On answer)) = refl
kind_shown (step (Class class)) = refl
kind_shown end = refl

numbers_once : (m n p q : ℕ) → IsNumber m → IsNumber n → IsNumber p → IsNumber q → decimal m ++ 32 ∷ decimal n ≡ decimal p ++ 32 ∷ decimal q → (m ≡ p) × (n ≡ q)
numbers_once m n p q sm sn sp sq e =
    let cut : (decimal m ≡ decimal p) × (decimal n ≡ decimal q) = cut_once 32 (decimal m) (decimal p) (decimal n) (decimal q) (number_without_blank m sm) (number_without_blank p sp) e in
    (number_once m p sm sp cut.0, number_once n q sn sq cut.1)

head_once : (a b c x y z : ℕ) → HasPlanSpelling (head a b c) → HasPlanSpelling (head x y z) → plan_line (head a b c) ≡ plan_line (head x y z) → head a b c ≡ head x y z
unfolding plan_line
head_once a b c x y z one two e =
    let rest : decimal a ++ 32 ∷ (decimal b ++ 32 ∷ decimal c) ≡ decimal x ++ 32 ∷ (decimal y ++ 32 ∷ decimal z) = ap (drop 8) e in
    let cut : (decimal a ≡ decimal x) × (decimal b ++ 32 ∷ decimal c ≡ decimal y ++ 32 ∷ decimal z)
    = cut_once 32 (decimal a) (decimal x) (decimal b ++ 32 ∷ decimal c) (decimal y ++ 32 ∷ decimal z) (number_without_blank a one.0) (number_without_blank x two.0) rest in
    let more : (b ≡ y) × (c ≡ z) = numbers_once b c y z one.1 one.2 two.1 two.2 cut.1 in
    ap (λ n. head n b c) (number_once a x one.0 two.0 cut.0) ∙ (ap (λ n. head x n c) more.0 ∙ ap (head x y) more.1)

step_once : (s other : Step) → HasPlanSpelling (step s) → HasPlanSpelling (step other) → plan_line (step s) ≡ plan_line (step other) → kind_number (step s) ≡ kind_number (step other) → step s ≡ step other
unfolding plan_line
step_once (Ask p n) (Ask q m) one two e kind =
    let same : (p ≡ q) × (n ≡ m) = numbers_once p n q m one.0 one.1 two.0 two.1 (ap (drop 4) e) in
    ap (λ x. step (Ask x n)) same.0 ∙ ap (λ x. step (Ask q x)) same.1
step_once (Ask p n) (On b) one two e kind = absurd (omega (arith, kind))
step_once (Ask p n) (Class d) one two e kind = absurd (omega (arith, kind))
step_once (On a) (Ask q m) one two e kind = absurd (omega (arith, kind))
step_once (On a) (On b) one two e kind = ap (λ x. step (On x)) (bits_once a b (ap (drop 3) e))
step_once (On a) (Class d) one two e kind = absurd (omega (arith, kind))
step_once (Class c) (Ask q m) one two e kind = absurd (omega (arith, kind))
step_once (Class c) (On b) one two e kind = absurd (omega (arith, kind))
step_once (Class c) (Class d) one two e kind = ap (λ x. step (Class x)) (number_once c d one two (ap (drop 6) e))

not_step : (s : Step) → (kind_number (step s) ≡ 97 * 256 + 100 → ⊥) × (kind_number (step s) ≡ 101 * 256 + 110 → ⊥)
not_step (Ask p n) = ((λ e. omega (arith, e)), (λ e. omega (arith, e)))
not_step (On a) = ((λ e. omega (arith, e)), (λ e. omega (arith, e)))
not_step (Class c) = ((λ e. omega (arith, e)), (λ e. omega (arith, e)))

by_kind : (line other : PlanLine) → HasPlanSpelling line → HasPlanSpelling other → plan_line line ≡ plan_line other → kind_number line ≡ kind_number other → line ≡ other
by_kind (head a b c) (head x y z) one two e kind = head_once a b c x y z one two e
by_kind (head a b c) (step s) one two e kind = absurd ((not_step s).0 (sym kind))
by_kind (head a b c) end one two e kind = absurd (omega (arith, kind))
by_kind (step s) (head a b c) one two e kind = absurd ((not_step s).0 kind)
by_kind (step s) (step other) one two e kind = step_once s other one two e kind
by_kind (step s) end one two e kind = absurd ((not_step s).1 kind)
by_kind end (head a b c) one two e kind = absurd (omega (arith, kind))
by_kind end (step s) one two e kind = absurd ((not_step s).1 (sym kind))
by_kind end end one two e kind = refl

pub spelling_once : (line other : PlanLine) → HasPlanSpelling line → HasPlanSpelling other → plan_line line ≡ plan_line other → line ≡ other
spelling_once line other one two e = by_kind line other one two e (sym (kind_shown line) ∙ (ap first_two e ∙ kind_shown other))

-- a text begins with one line
pub line_once : (line other : PlanLine) (more rest : Text) → HasPlanSpelling line → HasPlanSpelling other → plan_line line ++ 10 ∷ more ≡ plan_line other ++ 10 ∷ rest → (line ≡ other) × (more ≡ rest)
line_once line other more rest one two e =
    let cut : (plan_line line ≡ plan_line other) × (more ≡ rest) = cut_once 10 (plan_line line) (plan_line other) more rest (line_without_feed line one) (line_without_feed other two) e in
    (spelling_once line other one two cut.0, cut.1)
