-- The rows of a log by positions.
use Rattle.std.proofs.Common.{◌≡◌, ◌∙◌, ℕ, ◌+◌, ◌<◌, ◌≤◌, Bool, true, false, List, [], ◌∷◌, ◌++◌, length, refl, sym, ap, subst, arith, inl, inr}
use Rattle.std.specs.Prelude.{Contains, if◌then◌else◌}
use Rattle.std.proofs.lemmas.Bool.{cases_eq}
use Rattle.std.proofs.lemmas.List.FromFn.{length-map-range_with_len, get_or-map-range_with_len}
use Rattle.std.proofs.lemmas.List.Elements.{All-push, All-weaker, Contains-push, Contains-append_left}
use Rattle.std.proofs.lemmas.List.Quantifiers.{all_pairs_push}
use Rattle.net_model.specs.Answer.{bit_at}
use Rattle.net_model.specs.Rows.{row_bit}
use Rattle.dict_rows.specs.Rows.{AreRowsBegun}
use Rattle.suspect_scores.specs.Columns.{column_of, AreTransposed, AreWrongPositions}

module _ (rows : List (List Bool)) where
  pub column_long : (lines position : ℕ) → length (column_of rows lines position) ≡ lines
  column_long lines position = length-map-range_with_len (λ line. row_bit rows line position) 0 lines

  pub column_bit : (lines position line : ℕ) → line < lines → bit_at (column_of rows lines position) line ≡ row_bit rows line position
  column_bit lines position line h = get_or-map-range_with_len (λ k. row_bit rows k position) 0 lines line line false h (omega arith)

  pub all_transposed : (lines positions done : ℕ) (columns : List (List Bool)) → AreRowsBegun positions lines done (column_of rows lines) columns → positions ≤ done → AreTransposed lines positions rows columns
  all_transposed lines positions done columns begun over = record {
    are = begun.are;
    bits = λ position line hp hl. ap (λ (row : List Bool). bit_at row line) (begun.begun position (omega (arith, hp, over))) ∙ column_bit lines position line hl;
  }

  -- ---- the positions where some bit is set

  pub no_wrong_position : AreWrongPositions rows 0 []
  no_wrong_position = record { within = λ k d h. absurd (omega (arith, h)); ascending = λ i j d lt h. absurd (omega (arith, h)); others = λ p line h away. absurd (omega (arith, h)) }

  positions_kept : (n : ℕ) (listed : List ℕ) → AreWrongPositions rows n listed → ((line : ℕ) → row_bit rows n line ≡ false) → AreWrongPositions rows (n + 1) listed
  positions_kept n listed so_far none = record {
    within = All-weaker (λ p. p < n) (λ p. p < n + 1) (λ p h. omega (arith, h)) listed so_far.within;
    ascending = so_far.ascending;
    others = λ p line h away. elim (cases_eq p n) [
      | inl same ↦ ap (λ (q : ℕ). row_bit rows q line) same ∙ none line
      | inr ne ↦ so_far.others p line (omega (arith, h, ne)) away
    ];
  }

  positions_more : (n : ℕ) (listed : List ℕ) → AreWrongPositions rows n listed → AreWrongPositions rows (n + 1) (listed ++ n ∷ [])
  positions_more n listed so_far = record {
    within = All-push (λ p. p < n + 1) listed n (All-weaker (λ p. p < n) (λ p. p < n + 1) (λ p h. omega (arith, h)) listed so_far.within) (omega arith);
    ascending = all_pairs_push ◌<◌ listed n so_far.ascending so_far.within;
    others = λ p line h away. elim (cases_eq p n) [
      | inl same ↦ absurd (away (subst (Contains (listed ++ n ∷ [])) (sym same) (Contains-push listed n)))
      | inr ne ↦ so_far.others p line (omega (arith, h, ne)) (λ has. away (Contains-append_left listed (n ∷ []) p has))
    ];
  }

  pub positions_step : (n : ℕ) (listed new : List ℕ) (some : Bool) → AreWrongPositions rows n listed → new ≡ (if some then listed ++ n ∷ [] else listed) → (some ≡ false → (line : ℕ) → row_bit rows n line ≡ false) → AreWrongPositions rows (n + 1) new
  positions_step n listed new true so_far is none = subst (AreWrongPositions rows (n + 1)) (sym is) (positions_more n listed so_far)
  positions_step n listed new false so_far is none = subst (AreWrongPositions rows (n + 1)) (sym is) (positions_kept n listed so_far (none refl))
