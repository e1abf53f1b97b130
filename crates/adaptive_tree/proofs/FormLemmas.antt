-- The fields of a line as a reader cuts them.
use Rattle.std.proofs.Common.{◌≡◌, ◌≢◌, ◌∙◌, ℕ, ◌<◌, ◌^◌, refl, ap, sym, subst, lit<, arith}
use Rattle.std.specs.Prelude.{Bool, List, ◌∷◌, ◌++◌, drop, Contains, codes, decimal}
use Rattle.std.specs.List.{AllByRecursion}
use Rattle.std.specs.Borrow.{Bor}
use Rattle.std.proofs.lemmas.List.Elements.{Contains-append_right, All-from_recursion}
use Rattle.net_model.specs.BitText.{bits_text}
use Rattle.text_fields.specs.Fields.{Text, IsNumber, IsCutAt, AreDigitsIn}
use Rattle.text_fields.proofs.Cuts.{cut_once, missing_below}
use Rattle.text_fields.proofs.NumberLemmas.{number_without_blank}
use Rattle.adaptive_tree.specs.declared.line.Form.{Form}
use Rattle.adaptive_tree.specs.declared.line.Form.TheVariants as form
use Rattle.adaptive_tree.specs.declared.steps.Step.TheVariants.{Ask, On, Class}
use Rattle.adaptive_tree.specs.PlanText.{PlanLine, head, step, end, plan_line}
use Rattle.adaptive_tree.specs.Refusal.{HasNoPlanLine}
use Rattle.adaptive_tree.specs.Forms.{IsFormOf, IsFirstForm, IsNoPlanLine, IsPairIn, pair_text, sizes_text}
use Rattle.adaptive_tree.proofs.LineLemmas.{line_without_feed, kind_shown, kind_number, first_two}

-- ---- a text and its first line

pub no_feed : (text : Text) → ¬ Contains text 10 → HasNoPlanLine text
no_feed text none line more begins = none (subst (λ (t : Text). Contains t 10) (sym begins.1) (Contains-append_right (plan_line line) (10 ∷ more) 10 (0, omega arith, refl)))

pub no_form : (text line more : Text) → IsCutAt 10 text line more → IsNoPlanLine line → HasNoPlanLine text
no_form text line more cut none other behind begins =
    none other begins.0 (sym (cut_once 10 line (plan_line other) more behind cut.first (line_without_feed other begins.0) (sym cut.text_is ∙ begins.1)).0)

pub first_is : (text line more : Text) (f : Form) → IsCutAt 10 text line more → IsFormOf line f → IsFirstForm text f more
first_is text line more f cut is = record { begins = (is.spelled, cut.text_is ∙ ap (λ (t : Text). t ++ 10 ∷ more) (sym is.line_is)); digits = is.digits }

-- ---- fields with a blank between

no_blank : (text a b : Text) → ¬ Contains text 32 → a ++ 32 ∷ b ≡ text → ⊥
no_blank text a b none e = none (subst (λ (t : Text). Contains t 32) e (Contains-append_right a (32 ∷ b) 32 (0, omega arith, refl)))

parts : (text front back a b : Text) → IsCutAt 32 text front back → ¬ Contains a 32 → a ++ 32 ∷ b ≡ text → (a ≡ front) × (b ≡ back)
parts text front back a b cut none e = cut_once 32 a front b back none cut.first (e ∙ cut.text_is)

abbrev NoPair : Text → Type 0
NoPair text = (m n : ℕ) → IsNumber m → IsNumber n → pair_text m n ≡ text → ⊥

pub no_pair : (text : Text) → ¬ Contains text 32 → NoPair text
no_pair text none m n one two e = no_blank text (decimal m) (decimal n) none e

pub no_first : (text front back : Text) → IsCutAt 32 text front back → ((n : ℕ) → n < 2 ^ 32 → decimal n ≢ front) → NoPair text
no_first text front back cut none m n one two e = none m one (parts text front back (decimal m) (decimal n) cut (number_without_blank m one) e).0

pub no_second : (text front back : Text) → IsCutAt 32 text front back → ((n : ℕ) → n < 2 ^ 32 → decimal n ≢ back) → NoPair text
no_second text front back cut none m n one two e = none n two (parts text front back (decimal m) (decimal n) cut (number_without_blank m one) e).1

abbrev NoSizes : Text → Type 0
NoSizes text = (a b c : ℕ) → IsNumber a → IsNumber b → IsNumber c → sizes_text a b c ≡ text → ⊥

abbrev IsAboveBlank : ℕ → Type 0
IsAboveBlank byte = 32 < byte

word_without_blank : (word : Text) → AllByRecursion IsAboveBlank word → ¬ Contains word 32
word_without_blank word all = missing_below 32 word (All-from_recursion IsAboveBlank word all)

version_without_blank : ¬ Contains (codes "1") 32
version_without_blank = word_without_blank (codes "1") (lit< tt, tt)

pub no_version : (text : Text) → ¬ Contains text 32 → NoSizes text
no_version text none a b c one two three e = no_blank text (codes "1") (decimal a ++ 32 ∷ pair_text b c) none e

pub other_version : (text front back : Text) → IsCutAt 32 text front back → (front ≡ codes "1" → ⊥) → NoSizes text
other_version text front back cut other a b c one two three e = other (sym (parts text front back (codes "1") (decimal a ++ 32 ∷ pair_text b c) cut version_without_blank e).0)

sizes_behind : (text front back : Text) → IsCutAt 32 text front back → (a b c : ℕ) → sizes_text a b c ≡ text → decimal a ++ 32 ∷ pair_text b c ≡ back
sizes_behind text front back cut a b c e = (parts text front back (codes "1") (decimal a ++ 32 ∷ pair_text b c) cut version_without_blank e).1

pub no_positions : (text front back : Text) → IsCutAt 32 text front back → ¬ Contains back 32 → NoSizes text
no_positions text front back cut none a b c one two three e = no_blank back (decimal a) (pair_text b c) none (sizes_behind text front back cut a b c e)

pub wrong_positions : (text front back first rest : Text) → IsCutAt 32 text front back → IsCutAt 32 back first rest → ((n : ℕ) → n < 2 ^ 32 → decimal n ≢ first) → NoSizes text
wrong_positions text front back first rest cut again none a b c one two three e =
    none a one (parts back first rest (decimal a) (pair_text b c) again (number_without_blank a one) (sizes_behind text front back cut a b c e)).0

pub no_counts : (text front back first rest : Text) → IsCutAt 32 text front back → IsCutAt 32 back first rest → NoPair rest → NoSizes text
no_counts text front back first rest cut again none a b c one two three e =
    none b c two three (parts back first rest (decimal a) (pair_text b c) again (number_without_blank a one) (sizes_behind text front back cut a b c e)).1

pub sizes_are : (text front back first rest : Text) (a b c : ℕ) → IsCutAt 32 text front back → front ≡ codes "1" → IsCutAt 32 back first rest → decimal a ≡ first → IsPairIn rest b c → sizes_text a b c ≡ text
sizes_are text front back first rest a b c cut version again number pair =
    ap (λ (t : Text). codes "1" ++ 32 ∷ (t ++ 32 ∷ pair_text b c)) number
    ∙ ap (λ (t : Text). codes "1" ++ 32 ∷ (first ++ 32 ∷ t)) pair.text_is
    ∙ ap (λ (t : Text). codes "1" ++ 32 ∷ t) (sym again.text_is)
    ∙ ap (λ (t : Text). t ++ 32 ∷ back) (sym version)
    ∙ sym cut.text_is

-- ---- lines by their words

by_word : (line : PlanLine) (text : Text) → plan_line line ≡ text → kind_number line ≡ first_two text
by_word line text e = sym (kind_shown line) ∙ ap first_two e

pub no_ask : (fields : Text) → NoPair fields → IsNoPlanLine (codes "ask" ++ 32 ∷ fields)
unfolding plan_line
no_ask fields none (head a b c) spelled e = absurd (omega (arith, by_word (head a b c) (codes "ask" ++ 32 ∷ fields) e))
no_ask fields none (step (Ask p n)) spelled e = none p n spelled.0 spelled.1 (ap (drop 4) e)
no_ask fields none (step (On x)) spelled e = absurd (omega (arith, by_word (step (On x)) (codes "ask" ++ 32 ∷ fields) e))
no_ask fields none (step (Class x)) spelled e = absurd (omega (arith, by_word (step (Class x)) (codes "ask" ++ 32 ∷ fields) e))
no_ask fields none end spelled e = absurd (omega (arith, by_word end (codes "ask" ++ 32 ∷ fields) e))

pub ask_is : (fields : Text) (p n : ℕ) → IsPairIn fields p n → IsFormOf (codes "ask" ++ 32 ∷ fields) (form.Ask p n)
unfolding plan_line
ask_is fields p n pair = record { spelled = (pair.first, pair.second); digits = tt; line_is = ap (λ (t : Text). codes "ask" ++ 32 ∷ t) pair.text_is }

pub no_on : (field : Text) → ((bits : List Bool) → bits_text bits ≢ field) → IsNoPlanLine (codes "on" ++ 32 ∷ field)
unfolding plan_line
no_on field none (head a b c) spelled e = absurd (omega (arith, by_word (head a b c) (codes "on" ++ 32 ∷ field) e))
no_on field none (step (Ask p n)) spelled e = absurd (omega (arith, by_word (step (Ask p n)) (codes "on" ++ 32 ∷ field) e))
no_on field none (step (On x)) spelled e = none x (ap (drop 3) e)
no_on field none (step (Class x)) spelled e = absurd (omega (arith, by_word (step (Class x)) (codes "on" ++ 32 ∷ field) e))
no_on field none end spelled e = absurd (omega (arith, by_word end (codes "on" ++ 32 ∷ field) e))

pub on_is : (field : Text) (digits : Bor (List ℕ)) → AreDigitsIn field digits.now → IsFormOf (codes "on" ++ 32 ∷ field) (form.On digits)
unfolding plan_line
on_is field digits are = record { spelled = tt; digits = are.digits_are; line_is = ap (λ (t : Text). codes "on" ++ 32 ∷ t) are.field_is }

pub no_class : (field : Text) → ((n : ℕ) → n < 2 ^ 32 → decimal n ≢ field) → IsNoPlanLine (codes "class" ++ 32 ∷ field)
unfolding plan_line
no_class field none (head a b c) spelled e = absurd (omega (arith, by_word (head a b c) (codes "class" ++ 32 ∷ field) e))
no_class field none (step (Ask p n)) spelled e = absurd (omega (arith, by_word (step (Ask p n)) (codes "class" ++ 32 ∷ field) e))
no_class field none (step (On x)) spelled e = absurd (omega (arith, by_word (step (On x)) (codes "class" ++ 32 ∷ field) e))
no_class field none (step (Class x)) spelled e = none x spelled (ap (drop 6) e)
no_class field none end spelled e = absurd (omega (arith, by_word end (codes "class" ++ 32 ∷ field) e))

pub class_is : (field : Text) (n : ℕ) → n < 2 ^ 32 → decimal n ≡ field → IsFormOf (codes "class" ++ 32 ∷ field) (form.Class n)
unfolding plan_line
class_is field n small e = record { spelled = small; digits = tt; line_is = ap (λ (t : Text). codes "class" ++ 32 ∷ t) e }

pub no_head : (fields : Text) → NoSizes fields → IsNoPlanLine (codes "adapt" ++ 32 ∷ fields)
unfolding plan_line
no_head fields none (head a b c) spelled e = none a b c spelled.0 spelled.1 spelled.2 (ap (drop 6) e)
no_head fields none (step (Ask p n)) spelled e = absurd (omega (arith, by_word (step (Ask p n)) (codes "adapt" ++ 32 ∷ fields) e))
no_head fields none (step (On x)) spelled e = absurd (omega (arith, by_word (step (On x)) (codes "adapt" ++ 32 ∷ fields) e))
no_head fields none (step (Class x)) spelled e = absurd (omega (arith, by_word (step (Class x)) (codes "adapt" ++ 32 ∷ fields) e))
no_head fields none end spelled e = absurd (omega (arith, by_word end (codes "adapt" ++ 32 ∷ fields) e))

pub head_is : (fields : Text) (a b c : ℕ) → a < 2 ^ 32 → b < 2 ^ 32 → c < 2 ^ 32 → sizes_text a b c ≡ fields → IsFormOf (codes "adapt" ++ 32 ∷ fields) (form.Head a b c)
unfolding plan_line
head_is fields a b c one two three e = record { spelled = (one, two, three); digits = tt; line_is = ap (λ (t : Text). codes "adapt" ++ 32 ∷ t) e }

pub end_is : (line : Text) → line ≡ codes "end" → IsFormOf line form.End
unfolding plan_line
end_is line e = record { spelled = tt; digits = tt; line_is = sym e }

-- a line without a blank is the last one
pub no_word : (line : Text) → (line ≡ codes "end" → ⊥) → ¬ Contains line 32 → IsNoPlanLine line
unfolding plan_line
no_word line other none (head a b c) spelled e = no_blank line (codes "adapt") (sizes_text a b c) none e
no_word line other none (step (Ask p n)) spelled e = no_blank line (codes "ask") (pair_text p n) none e
no_word line other none (step (On x)) spelled e = no_blank line (codes "on") (bits_text x) none e
no_word line other none (step (Class x)) spelled e = no_blank line (codes "class") (decimal x) none e
no_word line other none end spelled e = other (sym e)

-- a line with another word is no line of a plan
pub other_word : (word fields : Text) → ¬ Contains word 32 → (word ≡ codes "on" → ⊥) → (word ≡ codes "ask" → ⊥) → (word ≡ codes "class" → ⊥) → (word ≡ codes "adapt" → ⊥) → IsNoPlanLine (word ++ 32 ∷ fields)
unfolding plan_line
other_word word fields none on ask class adapt (head a b c) spelled e = adapt (sym (cut_once 32 (codes "adapt") word (sizes_text a b c) fields (word_without_blank (codes "adapt") (lit< tt, (lit< tt, (lit< tt, (lit< tt, (lit< tt, tt)))))) none e).0)
other_word word fields none on ask class adapt (step (Ask p n)) spelled e = ask (sym (cut_once 32 (codes "ask") word (pair_text p n) fields (word_without_blank (codes "ask") (lit< tt, (lit< tt, (lit< tt, tt)))) none e).0)
other_word word fields none on ask class adapt (step (On x)) spelled e = on (sym (cut_once 32 (codes "on") word (bits_text x) fields (word_without_blank (codes "on") (lit< tt, (lit< tt, tt))) none e).0)
other_word word fields none on ask class adapt (step (Class x)) spelled e = class (sym (cut_once 32 (codes "class") word (decimal x) fields (word_without_blank (codes "class") (lit< tt, (lit< tt, (lit< tt, (lit< tt, (lit< tt, tt)))))) none e).0)
other_word word fields none on ask class adapt end spelled e = no_blank (codes "end") word fields (word_without_blank (codes "end") (lit< tt, (lit< tt, (lit< tt, tt)))) (sym e)
