-- Lines of vectors, and what is refused after some.
use Rattle.std.proofs.Common.{◌≡◌, ◌≢◌, ◌∙◌, ℕ, ◌+◌, ◌<◌, ◌≤◌, Bool, eqb, List, [], ◌∷◌, ◌++◌, length, refl, sym, ap, subst, arith}
use Rattle.std.specs.Prelude.{Contains}
use Rattle.std.proofs.lemmas.List.{append-nil, length-append, length-map}
use Rattle.std.proofs.lemmas.List.Elements.{All-push, Contains-append_right}
use Rattle.net_model.specs.BitText.{bits_text}
use Rattle.net_model.specs.Rows.{AreWide}
use Rattle.diagnose.specs.declared.fault.LogKind.{LogKind}
use Rattle.diagnose.specs.declared.fault.LogKind.TheVariants.{Syntax, Width}
use Rattle.text_fields.specs.Fields.{Text, digit_bits, IsCutAt}
use Rattle.diagnose.specs.Lines.{text_limit, lines_from, at_line}
use Rattle.diagnose.specs.VectorText.{listed_vector, IsVectorList, HasNoVector, VectorRestRefused, FirstVectorLine, no_vector, wrong_width, VectorsRefused, IsRightVector}
use Rattle.text_fields.proofs.Cuts.{cut_once, not_empty}
use Rattle.text_fields.proofs.BitLemmas.{bits_once, bits_without_feed}
use Rattle.diagnose.proofs.LineLemmas.{lines_more, TellsRow, KeepsRight, OneRule, refused_once, refused_wrong, rows_once}

pub tells_bits : (row other : List Bool) (rest more : Text) → bits_text row ++ 10 ∷ rest ≡ bits_text other ++ 10 ∷ more → (row ≡ other) × (rest ≡ more)
tells_bits row other rest more e =
    let cut = cut_once 10 (bits_text row) (bits_text other) rest more (bits_without_feed row) (bits_without_feed other) e in
    (bits_once row other cut.0, cut.1)

tells_vector : (width : ℕ) → TellsRow listed_vector width
tells_vector width n row other rest more e = tells_bits row other rest more e

module _ (sources : ℕ) where
  -- a right line is never refused
  right_vector : (n : ℕ) (bits : List Bool) (more : Text) (kind : LogKind) → length bits ≡ sources → VectorRestRefused sources n (bits_text bits ++ 10 ∷ more) kind → ⊥
  right_vector n bits more kind wide (no_vector unreadable k) = unreadable.none bits more refl
  right_vector n bits more kind wide (wrong_width line other k) = other (sym (ap (λ (xs : List Bool). length xs) (tells_bits bits line.bits more line.more line.begins).0) ∙ wide)

  keeps_right : KeepsRight listed_vector sources (tells_vector sources) (VectorRestRefused sources)
  keeps_right n m row more rest kind other before wide refused behind = right_vector n row more kind wide refused

  from_no_vector : (n : ℕ) (rest : Text) (kind : LogKind) → HasNoVector rest → VectorRestRefused sources n rest kind → kind ≡ Syntax
  from_no_vector n rest kind never (no_vector unreadable k) = k
  from_no_vector n rest kind never (wrong_width line other k) = absurd (never line.bits line.more line.begins)

  from_width : (n : ℕ) (rest : Text) (kind : LogKind) → FirstVectorLine rest → VectorRestRefused sources n rest kind → kind ≡ Width
  from_width n rest kind line (no_vector unreadable k) = absurd (unreadable.none line.bits line.more line.begins)
  from_width n rest kind line (wrong_width line' other k) = k

  one_rule : OneRule listed_vector sources (tells_vector sources) (VectorRestRefused sources)
  one_rule n rest kind other (no_vector unreadable k) again = k ∙ sym (from_no_vector n rest other unreadable.none again)
  one_rule n rest kind other (wrong_width line wide k) again = k ∙ sym (from_width n rest other line again)

  pub list_refused_once : (text : Text) (kind other : LogKind) (line number : ℕ) → VectorsRefused sources text kind line → VectorsRefused sources text other number → (kind ≡ other) × (line ≡ number)
  list_refused_once = refused_once listed_vector sources (tells_vector sources) (VectorRestRefused sources) one_rule keeps_right

  end_is_right : (n : ℕ) (kind : LogKind) → VectorRestRefused sources n [] kind → ⊥
  end_is_right n kind (no_vector unreadable k) = unreadable.some refl
  end_is_right n kind (wrong_width line other k) = not_empty (bits_text line.bits) line.more 10 (sym line.begins)

  pub list_refused_wrong : (text : Text) (vectors : List (List Bool)) (kind : LogKind) (line : ℕ) → VectorsRefused sources text kind line → ¬ IsVectorList sources text vectors
  list_refused_wrong text vectors kind line refused is =
      refused_wrong listed_vector sources (tells_vector sources) (VectorRestRefused sources) text kind line vectors refused is.short is.wide is.text_is
      (λ rest. end_is_right (length vectors) kind rest)
      (λ n row more below wide rest. right_vector n row more kind wide rest)

  pub list_read_once : (text : Text) (vectors others : List (List Bool)) → IsVectorList sources text vectors → IsVectorList sources text others → vectors ≡ others
  list_read_once text vectors others first second =
      rows_once listed_vector sources (tells_vector sources) vectors others first.wide second.wide (sym first.text_is ∙ second.text_is)

-- ---- a list that is read so far

-- The vectors are those of the lines before `rest`, whose first line has this number.
pub record IsListSoFar (sources : ℕ) (text : Text) (number : ℕ) (vectors : List (List Bool)) (rest : Text) : Type 0 where
  pub wide : AreWide sources vectors
  pub text_is : text ≡ lines_from listed_vector 0 vectors ++ rest
  pub number_is : number ≡ length vectors + 1
  pub left : number + length rest ≤ length text + 1

pub shorter : (rest digits more : Text) → rest ≡ bits_text (digit_bits digits) ++ 10 ∷ more → length more < length rest
shorter rest digits more e = omega (arith, ap (λ (t : Text). length t) e, length-append (bits_text (digit_bits digits)) (10 ∷ more))

pub list_more : (sources : ℕ) (text : Text) (number : ℕ) (vectors : List (List Bool)) (rest digits more : Text) → IsListSoFar sources text number vectors rest → IsRightVector sources rest digits more
    → IsListSoFar sources text (number + 1) (vectors ++ digit_bits digits ∷ []) more
list_more sources text number vectors rest digits more so_far right =
    let bits = digit_bits digits in record {
      wide = All-push (λ row. length row ≡ sources) vectors bits so_far.wide (length-map digits (λ digit. eqb digit 49) ∙ right.width);
      text_is =
          so_far.text_is ∙ ap (λ (t : Text). lines_from listed_vector 0 vectors ++ t) right.begins
          ∙ sym (lines_more listed_vector 0 vectors bits (length vectors) more (omega arith));
      number_is = omega (arith, so_far.number_is, length-append vectors (bits ∷ []));
      left = omega (arith, so_far.left, shorter rest digits more right.begins);
    }

pub list_done : (sources : ℕ) (text : Text) (number : ℕ) (vectors : List (List Bool)) (rest : Text) → IsListSoFar sources text number vectors rest → length text ≤ text_limit → length rest ≡ 0 → IsVectorList sources text vectors
list_done sources text number vectors [] so_far short none = record { short = short; wide = so_far.wide; text_is = so_far.text_is ∙ append-nil (lines_from listed_vector 0 vectors) }
list_done sources text number vectors (b ∷ rest) so_far short none = absurd (omega (arith, none))

pub list_refused : (sources : ℕ) (text : Text) (number : ℕ) (vectors : List (List Bool)) (rest : Text) (kind : LogKind) → IsListSoFar sources text number vectors rest → length text ≤ text_limit
    → ((before : ℕ) → VectorRestRefused sources before rest kind) → VectorsRefused sources text kind number
list_refused sources text number vectors rest kind so_far short refused =
    at_line vectors rest short (record { wide = so_far.wide; text_is = so_far.text_is }) (refused (length vectors)) so_far.number_is

-- ---- the first line of a list

pub no_feed_vector : (text : Text) → ¬ Contains text 10 → HasNoVector text
no_feed_vector text none bits more e = none (subst (λ (t : Text). Contains t 10) (sym e) (Contains-append_right (bits_text bits) (10 ∷ more) 10 (0, omega arith, refl)))

pub no_bits_vector : (text line more : Text) → IsCutAt 10 text line more → ((bits : List Bool) → bits_text bits ≢ line) → HasNoVector text
no_bits_vector text line more cut none bits behind e =
    none bits (sym (cut_once 10 line (bits_text bits) more behind cut.first (bits_without_feed bits) (sym cut.text_is ∙ e)).0)

pub refuse_wide_vector : (sources before : ℕ) (rest digits more : Text) → rest ≡ bits_text (digit_bits digits) ++ 10 ∷ more → (length digits ≡ sources → ⊥) → VectorRestRefused sources before rest Width
refuse_wide_vector sources before rest digits more begins other = wrong_width (record { bits = digit_bits digits; more = more; begins = begins }) (λ e. other (sym (length-map digits (λ digit. eqb digit 49)) ∙ e)) refl
