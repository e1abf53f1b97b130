-- Two readings of one text of lines agree as far as both go.
use Rattle.std.proofs.Common.{◌≡◌, ◌∙◌, ℕ, ◌+◌, ◌<◌, ◌≤◌, Bool, List, [], ◌∷◌, ◌++◌, length, refl, sym, ap, ap₂, subst, inl, inr, append_assoc, arith}
use Rattle.std.specs.Prelude.{◌⊎◌}
use Rattle.std.proofs.lemmas.List.{append-nil}
use Rattle.std.proofs.lemmas.List.Elements.{All-head, All-tail}
use Rattle.net_model.specs.Rows.{AreWide}
use Rattle.diagnose.specs.declared.fault.LogKind.{LogKind}
use Rattle.text_fields.specs.Fields.{Text}
use Rattle.diagnose.specs.Lines.{text_limit, LineForm, lines_from, RestRule, LinesRefused, too_long, at_line}
use Rattle.text_fields.proofs.Cuts.{not_empty}

-- one more row
pub lines_more : (line : LineForm) (n : ℕ) (rows : List (List Bool)) (row : List Bool) (place : ℕ) (rest : Text) → place ≡ n + length rows
    → lines_from line n (rows ++ row ∷ []) ++ rest ≡ lines_from line n rows ++ (line place row ++ 10 ∷ rest)
lines_more line n [] row place rest is = append_assoc (line n row) (10 ∷ []) rest ∙ ap (λ (k : ℕ). line k row ++ 10 ∷ rest) (omega (arith, is))
lines_more line n (x ∷ rows) row place rest is =
    append_assoc (line n x) (10 ∷ lines_from line (n + 1) (rows ++ row ∷ [])) rest
    ∙ (ap (λ (text : Text). line n x ++ 10 ∷ text) (lines_more line (n + 1) rows row place rest (omega (arith, is)))
    ∙ sym (append_assoc (line n x) (10 ∷ lines_from line (n + 1) rows) (line place row ++ 10 ∷ rest)))

module _ (line : LineForm) (width : ℕ) where
  -- One list of rows ends, and the other has a row more there.
  pub record GoesOn (n : ℕ) (rows others : List (List Bool)) (rest : Text) : Type 0 where
    pub longer : length rows < length others
    pub row : List Bool
    pub more : Text
    pub wide : length row ≡ width
    pub place : ℕ
    pub place_is : place ≡ n + length rows
    pub begins : rest ≡ line place row ++ 10 ∷ more

  -- A line determines its row.
  abbrev pub TellsRow : Type 0
  TellsRow = (n : ℕ) (row other : List Bool) (rest more : Text) → line n row ++ 10 ∷ rest ≡ line n other ++ 10 ∷ more → (row ≡ other) × (rest ≡ more)

  abbrev pub Compared : ℕ → List (List Bool) → List (List Bool) → Text → Text → Type 0
  Compared n rows others rest other_rest = ((rows ≡ others) × (rest ≡ other_rest)) ⊎ (GoesOn n rows others rest ⊎ GoesOn n others rows other_rest)

  goes_on : (n : ℕ) (x y : List Bool) (rows others : List (List Bool)) (rest : Text) → GoesOn (n + 1) rows others rest → GoesOn n (x ∷ rows) (y ∷ others) rest
  goes_on n x y rows others rest on = record {
    longer = omega (arith, on.longer);
    row = on.row;
    more = on.more;
    wide = on.wide;
    place = on.place;
    place_is = omega (arith, on.place_is);
    begins = on.begins;
  }

  begin_on : (n : ℕ) (x : List Bool) (others : List (List Bool)) (rest more : Text) → AreWide width (x ∷ others) → rest ≡ (line n x ++ 10 ∷ lines_from line (n + 1) others) ++ more → GoesOn n [] (x ∷ others) rest
  begin_on n x others rest more wide e = record {
    longer = omega arith;
    row = x;
    more = lines_from line (n + 1) others ++ more;
    wide = All-head (λ row. length row ≡ width) x others wide;
    place = n;
    place_is = omega arith;
    begins = e ∙ append_assoc (line n x) (10 ∷ lines_from line (n + 1) others) more;
  }

  pub compare : TellsRow → (n : ℕ) (rows others : List (List Bool)) (rest other_rest : Text) → AreWide width rows → AreWide width others
      → lines_from line n rows ++ rest ≡ lines_from line n others ++ other_rest → Compared n rows others rest other_rest
  compare tells n [] [] rest other_rest first second e = inl (refl, e)
  compare tells n [] (y ∷ others) rest other_rest first second e = inr (inl (begin_on n y others rest other_rest second e))
  compare tells n (x ∷ rows) [] rest other_rest first second e = inr (inr (begin_on n x rows other_rest rest first (sym e)))
  compare tells n (x ∷ rows) (y ∷ others) rest other_rest first second e =
      let both = tells n x y (lines_from line (n + 1) rows ++ rest) (lines_from line (n + 1) others ++ other_rest)
      (sym (append_assoc (line n x) (10 ∷ lines_from line (n + 1) rows) rest) ∙ e ∙ append_assoc (line n y) (10 ∷ lines_from line (n + 1) others) other_rest) in
      elim (compare tells (n + 1) rows others rest other_rest (All-tail (λ row. length row ≡ width) x rows first) (All-tail (λ row. length row ≡ width) y others second) both.1) [
        | inl same ↦ inl (ap₂ (λ (z : List Bool) (zs : List (List Bool)). z ∷ zs) both.0 same.0, same.1)
        | inr on ↦ elim on [
          | inl first_on ↦ inr (inl (goes_on n x y rows others rest first_on))
          | inr second_on ↦ inr (inr (goes_on n y x others rows other_rest second_on))
        ]
      ]

  never_empty : (n : ℕ) (rows others : List (List Bool)) → GoesOn n rows others [] → ⊥
  never_empty n rows others on = not_empty (line on.place on.row) on.more 10 (sym on.begins)

  -- a text is the lines of one list of rows
  pub rows_once : TellsRow → (rows others : List (List Bool)) → AreWide width rows → AreWide width others → lines_from line 0 rows ≡ lines_from line 0 others → rows ≡ others
  rows_once tells rows others first second e =
      elim (compare tells 0 rows others [] [] first second (append-nil (lines_from line 0 rows) ∙ e ∙ sym (append-nil (lines_from line 0 others)))) [
        | inl same ↦ same.0
        | inr on ↦ elim on [
          | inl first_on ↦ absurd (never_empty 0 rows others first_on)
          | inr second_on ↦ absurd (never_empty 0 others rows second_on)
        ]
      ]

  module _ (tells : TellsRow) (Rest : RestRule) where
    -- No right line is refused if another refusal comes after it.
    abbrev pub KeepsRight : Type 0
    KeepsRight = (n m : ℕ) (row : List Bool) (more rest : Text) (kind other : LogKind) → n < m → length row ≡ width → Rest n (line n row ++ 10 ∷ more) kind → Rest m rest other → ⊥

    abbrev pub OneRule : Type 0
    OneRule = (n : ℕ) (rest : Text) (kind other : LogKind) → Rest n rest kind → Rest n rest other → kind ≡ other

    contradict : KeepsRight → (rows others : List (List Bool)) (rest other_rest : Text) (kind other : LogKind) → GoesOn 0 rows others rest → Rest (length rows) rest kind → Rest (length others) other_rest other → ⊥
    contradict keeps rows others rest other_rest kind other on refused behind =
        let place_is : on.place ≡ length rows = omega (arith, on.place_is) in
        keeps (length rows) (length others) on.row on.more other_rest kind other on.longer on.wide
        (subst (λ (text : Text). Rest (length rows) text kind) (on.begins ∙ ap (λ (k : ℕ). line k on.row ++ 10 ∷ on.more) place_is) refused) behind

    at_lines : OneRule → KeepsRight → (rows others : List (List Bool)) (rest other_rest : Text) (kind other : LogKind) → AreWide width rows → AreWide width others
        → lines_from line 0 rows ++ rest ≡ lines_from line 0 others ++ other_rest → Rest (length rows) rest kind → Rest (length others) other_rest other → (kind ≡ other) × (length rows + 1 ≡ length others + 1)
    at_lines once keeps rows others rest other_rest kind other first second e refused again =
        elim (compare tells 0 rows others rest other_rest first second e) [
          | inl same ↦
              let count = ap (λ (xs : List (List Bool)). length xs) same.0 in
              let moved : Rest (length others) other_rest kind = subst (λ (text : Text). Rest (length others) text kind) same.1 (subst (λ (k : ℕ). Rest k rest kind) count refused) in
              (once (length others) other_rest kind other moved again, omega (arith, count))
          | inr on ↦ elim on [
            | inl first_on ↦ absurd (contradict keeps rows others rest other_rest kind other first_on refused again)
            | inr second_on ↦ absurd (contradict keeps others rows other_rest rest other kind second_on again refused)
          ]
        ]

    -- a text is refused by one rule at one line
    pub refused_once : OneRule → KeepsRight → (text : Text) (kind other : LogKind) (number place : ℕ) → LinesRefused line width Rest text kind number → LinesRefused line width Rest text other place → (kind ≡ other) × (number ≡ place)
    refused_once once keeps text kind other number place (too_long long k l) (too_long again k' l') = (k ∙ sym k', l ∙ sym l')
    refused_once once keeps text kind other number place (too_long long k l) (at_line rows rest short begins refused l') = absurd (omega (arith, long, short))
    refused_once once keeps text kind other number place (at_line rows rest short begins refused l) (too_long long k' l') = absurd (omega (arith, long, short))
    refused_once once keeps text kind other number place (at_line rows rest short begins refused l) (at_line others other_rest short' begins' refused' l') =
        let both = at_lines once keeps rows others rest other_rest kind other begins.wide begins'.wide (sym begins.text_is ∙ begins'.text_is) refused refused' in
        (both.0, l ∙ both.1 ∙ sym l')

    -- a refused text isn't the lines of rows if nothing is refused at their end and none of their lines is
    pub refused_wrong : (text : Text) (kind : LogKind) (number : ℕ) (rows : List (List Bool)) → LinesRefused line width Rest text kind number → length text ≤ text_limit → AreWide width rows → text ≡ lines_from line 0 rows
        → (Rest (length rows) [] kind → ⊥) → ((n : ℕ) (row : List Bool) (more : Text) → n < length rows → length row ≡ width → Rest n (line n row ++ 10 ∷ more) kind → ⊥) → ⊥
    refused_wrong text kind number rows (too_long long k l) short wide is last each = omega (arith, long, short)
    refused_wrong text kind number rows (at_line others rest short' begins refused l) short wide is last each =
        elim (compare tells 0 others rows rest [] begins.wide wide (sym begins.text_is ∙ is ∙ sym (append-nil (lines_from line 0 rows)))) [
          | inl same ↦
              let count = ap (λ (xs : List (List Bool)). length xs) same.0 in
              last (subst (λ (text : Text). Rest (length rows) text kind) same.1 (subst (λ (k : ℕ). Rest k rest kind) count refused))
          | inr on ↦ elim on [
            | inl first_on ↦
                let place_is : first_on.place ≡ length others = omega (arith, first_on.place_is) in
                each (length others) first_on.row first_on.more first_on.longer first_on.wide
                (subst (λ (text : Text). Rest (length others) text kind) (first_on.begins ∙ ap (λ (k : ℕ). line k first_on.row ++ 10 ∷ first_on.more) place_is) refused)
            | inr second_on ↦ never_empty 0 rows others second_on
          ]
        ]
