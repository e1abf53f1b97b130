use Rattle.std.proofs.Common.{◌≡◌, ◌∙◌, ℕ, List, [], ◌∷◌, get_or, refl, sym, ap, None, Some}
use Rattle.std.specs.Prelude.{codes, decimal}
use Rattle.std.specs.Cmp.Lexicographic.{same_text, other_text}
use Rattle.std.proofs.lemmas.Bool.{eqb-false}
use Rattle.result_records.specs.declared.record.Record.{Record}
use Rattle.result_records.specs.declared.record.Record.TheVariants.{Head, Budget, Pattern, Same, Class, Member, End}
use Rattle.text_fields.specs.Fields.{Text, IsNumber}
use Rattle.result_records.specs.Spelling.{HasSpelling, fields}
use Rattle.result_records.proofs.AnswerLemmas.{three_texts}
use Rattle.result_records.proofs.OnceLemmas.{lead_byte}
use Rattle.result_records.proofs.read.read_class.Goals.{else-eq-via-then-eq+else-eq-2, else-eq-via-else-eq}
use Rattle.result_records.proofs.read.read_class.Goals as goal

-- the fields of a class line
class_number : (x : Record) (rest : List Text) → HasSpelling x → fields x ≡ codes "class" ∷ rest → (n : ℕ) × IsNumber n × (decimal n ≡ get_or rest 0 [])
class_number (Head s p n) rest is e = absurd (eqb-false 100 99 refl (ap lead_byte e))
class_number (Budget b) rest is e = absurd (eqb-false 98 99 refl (ap lead_byte e))
class_number (Pattern v) rest is e = absurd (eqb-false 112 99 refl (ap lead_byte e))
class_number (Same s) rest is e = absurd (eqb-false 115 99 refl (ap lead_byte e))
class_number (Class n None) rest is e = (n, is.0, ap (λ (xs : List Text). get_or xs 1 []) e)
class_number (Class n (Some b)) rest is e = (n, is.0, ap (λ (xs : List Text). get_or xs 1 []) e)
class_number (Member n class m) rest is e = absurd (eqb-false 109 99 refl (ap lead_byte e))
class_number End rest is e = absurd (eqb-false 101 99 refl (ap lead_byte e))

class_birth : (x : Record) (number parent pattern : Text) → HasSpelling x → fields x ≡ codes "class" ∷ number ∷ parent ∷ pattern ∷ [] → ((a b : ℕ) → IsNumber a → IsNumber b → decimal a ≡ parent → ¬ (decimal b ≡ pattern))
    → (parent ≡ codes "-") × (pattern ≡ codes "-")
class_birth (Head s p n) number parent pattern is e never = absurd (eqb-false 100 99 refl (ap lead_byte e))
class_birth (Budget b) number parent pattern is e never = absurd (eqb-false 98 99 refl (ap lead_byte e))
class_birth (Pattern v) number parent pattern is e never = absurd (eqb-false 112 99 refl (ap lead_byte e))
class_birth (Same s) number parent pattern is e never = absurd (eqb-false 115 99 refl (ap lead_byte e))
class_birth (Class n None) number parent pattern is e never = (ap (λ (xs : List Text). get_or xs 2 []) (sym e), ap (λ (xs : List Text). get_or xs 3 []) (sym e))
class_birth (Class n (Some b)) number parent pattern is e never = absurd (never b.0 b.1 is.1.0 is.1.1 (ap (λ (xs : List Text). get_or xs 2 []) e) (ap (λ (xs : List Text). get_or xs 3 []) e))
class_birth (Member n class m) number parent pattern is e never = absurd (eqb-false 109 99 refl (ap lead_byte e))
class_birth End number parent pattern is e never = absurd (eqb-false 101 99 refl (ap lead_byte e))

pub returns-then-eq-2 : goal.returns-then-eq-2
returns-then-eq-2 c =
    let parent = sym (same_text _ _ c.if-eq.ensures) in
    let pattern = sym (same_text _ _ c.if-eq-2.ensures) in
    let texts = three_texts (λ f. f.now) c.args.rest.now _ c.in-len3.len_at_least c.in-len3.len_below in
    ((c.in-Some.ensures.0, tt), ap (λ (xs : List Text). codes "class" ∷ xs) ((λ i. c.in-Some.ensures.1 i ∷ parent i ∷ pattern i ∷ []) ∙ sym texts))

pub returns-in-Some-two_numbers : goal.returns-in-Some-two_numbers
returns-in-Some-two_numbers c =
    let texts = three_texts (λ f. f.now) c.args.rest.now _ c.in-len3.len_at_least c.in-len3.len_below in
    let number = c.in-Some.ensures in
    let birth = c.in-Some-two_numbers.ensures in
    ((number.0, (birth.0, birth.1)), ap (λ (xs : List Text). codes "class" ∷ xs) ((λ i. number.1 i ∷ birth.2 i ∷ birth.3 i ∷ []) ∙ sym texts))

pub returns-in_default-number_of : goal.returns-in_default-number_of
returns-in_default-number_of c = λ x is e.
    let texts = three_texts (λ f. f.now) c.args.rest.now _ c.in-len3.len_at_least c.in-len3.len_below in
    let k = class_number x _ is e in
    c.in_default-number_of.ensures k.0 k.1 (k.2 ∙ ap (λ (xs : List Text). get_or xs 0 []) texts)

pub returns-in-None : goal.returns-in-None
returns-in-None c = λ x is e.
    let texts = three_texts (λ f. f.now) c.args.rest.now _ c.in-len3.len_at_least c.in-len3.len_below in
    let both = class_birth x _ _ _ is (e ∙ ap (λ (xs : List Text). codes "class" ∷ xs) texts) c.in-None.ensures in
    elim c.else-eq.branch [
      | else-eq-via-then-eq+else-eq-2 w ↦ other_text _ _ w.if-eq-2.ensures both.1
      | else-eq-via-else-eq w ↦ other_text _ _ w.if-eq.ensures both.0
    ]
