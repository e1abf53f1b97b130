-- The first line of a text: how long it is, and when it is no record.
use Rattle.std.proofs.Common.{◌≡◌, ◌∙◌, ℕ, suc, ◌+◌, Bool, true, [], ◌∷◌, ◌++◌, length, length-append, take, refl, sym, ap, arith}
use Rattle.std.specs.Prelude.{Contains, not, ◌==◌, take_while}
use Rattle.std.specs.List.{prefix_len}
use Rattle.std.proofs.lemmas.Bool.{ne_eqb}
use Rattle.std.proofs.lemmas.List.{take-append-le, take_all}
use Rattle.text_fields.specs.Fields.{Text}
use Rattle.result_records.specs.Spelling.{spelling, IsNoSpelling}
use Rattle.result_file.specs.Refusal.{line_length, IsNoRecord}
use Rattle.text_fields.proofs.Cuts.{cut_once}
use Rattle.result_records.proofs.FieldLemmas.{no_line_feed}
use Rattle.result_records.proofs.HeldLemmas.{no_line_in}

-- a line that spells no record is refused, whatever comes after its LF
pub syntax_line : (line more : Text) → ¬ Contains line 10 → IsNoSpelling line → IsNoRecord (line ++ 10 ∷ more)
syntax_line line more one never r rest spelled e = never r spelled (sym (cut_once 10 line (spelling r) more rest one (no_line_feed r spelled) e).0)

-- and so is a rest without LF
pub unended : (rest : Text) → ¬ Contains rest 10 → IsNoRecord rest
unended rest one r more spelled e = no_line_in rest (spelling r) more one e

abbrev pub is_inside : ℕ → Bool
is_inside byte = not (byte == 10)

is_other : (b : ℕ) → (b ≡ 10 → ⊥) → is_inside b ≡ true
is_other b other = ap not (ne_eqb b 10 other)

first_size : (line more : Text) → ¬ Contains line 10 → prefix_len is_inside (line ++ 10 ∷ more) ≡ length line
first_size [] more one = refl
first_size (b ∷ line) more one =
    let rest = first_size line more (λ there. one (suc there.0, omega (arith, there.1), there.2)) in
    rw (is_other b (λ e. one (0, omega arith, e))) (omega (arith, rest))

first_part : (line more : Text) → ¬ Contains line 10 → take_while is_inside (line ++ 10 ∷ more) ≡ line
first_part line more one =
    ap (λ (n : ℕ). take n (line ++ 10 ∷ more)) (first_size line more one) ∙ take-append-le (length line) line (10 ∷ more) (omega arith) ∙ take_all (length line) line (omega arith)

whole_size : (rest : Text) → ¬ Contains rest 10 → prefix_len is_inside rest ≡ length rest
whole_size [] one = refl
whole_size (b ∷ rest) one =
    let later = whole_size rest (λ there. one (suc there.0, omega (arith, there.1), there.2)) in
    rw (is_other b (λ e. one (0, omega arith, e))) (omega (arith, later))

whole_part : (rest : Text) → ¬ Contains rest 10 → take_while is_inside rest ≡ rest
whole_part rest one = ap (λ (n : ℕ). take n rest) (whole_size rest one) ∙ take_all (length rest) rest (omega arith)

-- the length of a line with its LF, and of one without
pub ended_length : (line more : Text) → ¬ Contains line 10 → line_length (line ++ 10 ∷ more) ≡ length line + 1
ended_length line more one = rw (first_part line more one) (omega (arith, length-append line (10 ∷ more)))

pub unended_length : (rest : Text) → ¬ Contains rest 10 → line_length rest ≡ length rest
unended_length rest one = rw (whole_part rest one) (omega arith)
