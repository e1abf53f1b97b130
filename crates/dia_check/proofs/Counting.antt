-- What records count and say with one more.
use Rattle.std.proofs.Common.{◌≡◌, ◌∙◌, ℕ, ◌+◌, ◌≤◌, Bool, true, false, cond, List, [], ◌∷◌, ◌++◌, length, length-append, Option, None, refl, ap, arith}
use Rattle.std.specs.List.{count_by, filter_map}
use Rattle.std.proofs.lemmas.List.{append-nil}
use Rattle.std.proofs.lemmas.List.Elements.{filter_map-append}
use Rattle.std.proofs.lemmas.List.Sums.{sum_by-append}
use Rattle.result_records.specs.declared.record.Record.{Record}
use Rattle.text_fields.specs.Fields.{Text}
use Rattle.result_records.specs.Spelling.{spelling, text_of}
use Rattle.result_records.proofs.RecordLists.{text-append}
use Rattle.dia_check.specs.Checker.{record_line}

module _ (rs : List Record) (r : Record) where
  count_one : (p : Record → Bool) (b : Bool) → p r ≡ b → count_by p (rs ++ r ∷ []) ≡ count_by p rs + cond {A = ℕ} b 1 0
  count_one p b is =
      let e : ◌≡◌ {A = ℕ} (cond (p r) 1 0) (cond b 1 0) = ap (λ (b : Bool). cond {A = ℕ} b 1 0) is in
      omega (arith, e, sum_by-append (λ r. cond (p r) 1 0) rs (r ∷ []))

  pub count_same : (p : Record → Bool) → p r ≡ false → count_by p (rs ++ r ∷ []) ≡ count_by p rs
  count_same p is = let e : ◌≡◌ {A = ℕ} (cond false 1 0) 0 = refl in omega (arith, e, count_one p false is)

  pub count_up : (p : Record → Bool) → p r ≡ true → count_by p (rs ++ r ∷ []) ≡ count_by p rs + 1
  count_up p is = let e : ◌≡◌ {A = ℕ} (cond true 1 0) 1 = refl in omega (arith, e, count_one p true is)

  pub read_same : {Y : Type 0} (h : Record → Option Y) → h r ≡ None → filter_map h (rs ++ r ∷ []) ≡ filter_map h rs
  read_same {Y} h none =
      let e : filter_map h (r ∷ []) ≡ [] = rw none refl in
      filter_map-append h rs (r ∷ []) ∙ ap (λ (ys : List Y). filter_map h rs ++ ys) e ∙ append-nil (filter_map h rs)

  pub length_one : length (rs ++ r ∷ []) ≡ length rs + 1
  length_one = omega (arith, length-append rs (r ∷ []))

-- The text with one line more.
pub text_more : (rs : List Record) (r : Record) → text_of (rs ++ r ∷ []) ≡ text_of rs ++ record_line r
text_more rs r = text-append rs (r ∷ []) ∙ ap (λ (t : Text). text_of rs ++ t) (append-nil (record_line r))

-- Each line has a byte.
pub lines_short : (rs : List Record) → length rs ≤ length (text_of rs)
lines_short [] = omega arith
lines_short (r ∷ rs) = omega (arith, lines_short rs, length-append (spelling r ++ 10 ∷ []) (text_of rs), length-append (spelling r) (10 ∷ []))
