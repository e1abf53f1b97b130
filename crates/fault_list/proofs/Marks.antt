-- Marks of lines and positions, one more at a time.
use Rattle.std.proofs.Common.{◌≡◌, ◌∙◌, ℕ, ◌+◌, ◌<◌, ◌⊎◌, inl, inr, Bool, true, false, List, [], ◌∷◌, ◌++◌, length, take, set, get_or, replicate, sym, ap, arith, subst, length-append}
use Rattle.std.specs.Prelude.{Contains}
use Rattle.std.proofs.lemmas.Bool.{cases_eq, cases_lt, false≢true}
use Rattle.std.proofs.lemmas.List.{get_or_append_left, get_or_at, get_or-set_same, get_or-set_other, length-set, length-replicate, take_more}
use Rattle.std.proofs.lemmas.List.Elements.{Contains-push, Contains-append_left, Contains-push_cases}
use Rattle.net_model.specs.Answer.{bit_at}
use Rattle.net_model.proofs.Elements.{get_or-replicate_anywhere}
use Rattle.fault_list.specs.Scope.{AreMarksOfTest, MarksLines}

pub marks_none : (test : ℕ → Bool) (marks : List Bool) → marks ≡ [] → AreMarksOfTest test 0 marks
marks_none test marks none = record { whole = ap length none; each = λ n h. absurd (omega (arith, h)) }

pub marks_more : (test : ℕ → Bool) (count : ℕ) (marks : List Bool) (bit : Bool) → bit ≡ test count → AreMarksOfTest test count marks → AreMarksOfTest test (count + 1) (marks ++ bit ∷ [])
marks_more test count marks bit is so_far = record {
  whole = omega (arith, length-append marks (bit ∷ []), so_far.whole);
  each = λ n h.
      elim (cases_lt n count) [
        | inl below ↦ get_or_append_left marks (bit ∷ []) false n (omega (arith, so_far.whole)) ∙ so_far.each n below
        | inr above ↦
            let here : n ≡ count = omega arith in
            get_or_at marks bit [] false n (omega (arith, so_far.whole)) ∙ (is ∙ ap test (sym here))
      ];
}

-- ---- one line marked

module _ (marks : List Bool) (at : ℕ) where
  mark_stays : (line : ℕ) → bit_at marks line ≡ true → at < length marks → bit_at (set marks at true) line ≡ true
  mark_stays line e h =
      elim (cases_eq line at) [
        | inl same ↦ subst (λ n. bit_at (set marks at true) n ≡ true) (sym same) (get_or-set_same marks at true false h)
        | inr other ↦ get_or-set_other marks at line true false other ∙ e
      ]

  mark_was : (line : ℕ) → bit_at (set marks at true) line ≡ true → (bit_at marks line ≡ true) ⊎ (at ≡ line)
  mark_was line e =
      elim (cases_eq line at) [
        | inl same ↦ inr (sym same)
        | inr other ↦ inl (sym (get_or-set_other marks at line true false other) ∙ e)
      ]

pub adds_more : (lines : List ℕ) (k : ℕ) (old now : List Bool) → k < length lines → get_or lines k 0 < length old → MarksLines (take k lines) old now → MarksLines (take (k + 1) lines) old (set now (get_or lines k 0) true)
adds_more lines k old now h inside so_far =
    let at = get_or lines k 0 in
    let fits : at < length now = omega (arith, so_far.whole) in
    let more = take_more lines k 0 h in
    record {
      whole = length-set now at true ∙ so_far.whole;
      lines_are = λ line within m.
          elim (Contains-push_cases (take k lines) at line (subst (λ (xs : List ℕ). Contains xs line) more m)) [
            | inl before ↦ mark_stays now at line (so_far.lines_are line within before) fits
            | inr here ↦ subst (λ n. bit_at (set now at true) n ≡ true) here (get_or-set_same now at true false fits)
          ];
      old_stay = λ line e. mark_stays now at line (so_far.old_stay line e) fits;
      no_others = λ line e.
          elim (mark_was now at line e) [
            | inl before ↦
                elim (so_far.no_others line before) [
                  | inl was ↦ inl was
                  | inr m ↦ inr (subst (λ (xs : List ℕ). Contains xs line) (sym more) (Contains-append_left (take k lines) (at ∷ []) line m))
                ]
            | inr here ↦ inr (subst (λ (xs : List ℕ). Contains xs line) (sym more) (subst (Contains (take k lines ++ at ∷ [])) here (Contains-push (take k lines) at)))
          ];
    }

-- ---- the lines of reached positions

module _ (positions : List ℕ) (reached : List Bool) where
  -- only lines of reached positions are marked, and all lines of those among the first `count` positions
  pub record ShownBelow (count lines : ℕ) (marks : List Bool) : Type 0 where
    pub whole : length marks ≡ lines
    pub shown : (at : ℕ) → at < count → bit_at reached at ≡ true → bit_at marks (get_or positions at 0) ≡ true
    pub no_others : (line : ℕ) → bit_at marks line ≡ true → (at : ℕ) × (at < length positions) × (bit_at reached at ≡ true) × (get_or positions at 0 ≡ line)

  pub shown_none : (lines : ℕ) (marks : List Bool) → marks ≡ replicate lines false → ShownBelow 0 lines marks
  shown_none lines marks none =
      let unmarked : (line : ℕ) → bit_at marks line ≡ false = λ line.
      ap (λ bits. bit_at bits line) none ∙ get_or-replicate_anywhere lines line false in
      record {
        whole = ap length none ∙ length-replicate lines false;
        shown = λ at h. absurd (omega (arith, h));
        no_others = λ line e. absurd (false≢true (sym (unmarked line) ∙ e));
      }

  pub shown_more : (count lines : ℕ) (marks : List Bool) → count < length positions → get_or positions count 0 < lines → bit_at reached count ≡ true
      → ShownBelow count lines marks → ShownBelow (count + 1) lines (set marks (get_or positions count 0) true)
  shown_more count lines marks within inside here so_far =
      let at = get_or positions count 0 in
      let fits : at < length marks = omega (arith, so_far.whole) in
      record {
        whole = length-set marks at true ∙ so_far.whole;
        shown = λ k h r.
            elim (cases_lt k count) [
              | inl below ↦ mark_stays marks at (get_or positions k 0) (so_far.shown k below r) fits
              | inr above ↦
                  let same : count ≡ k = omega arith in
                  subst (λ n. bit_at (set marks at true) (get_or positions n 0) ≡ true) same (get_or-set_same marks at true false fits)
            ];
        no_others = λ line e.
            elim (mark_was marks at line e) [
              | inl before ↦ so_far.no_others line before
              | inr same ↦ (count, within, here, same)
            ];
      }

  pub shown_skip : (count lines : ℕ) (marks : List Bool) → bit_at reached count ≡ false → ShownBelow count lines marks → ShownBelow (count + 1) lines marks
  shown_skip count lines marks unreached so_far = record {
    whole = so_far.whole;
    shown = λ k h r.
        elim (cases_lt k count) [
          | inl below ↦ so_far.shown k below r
          | inr above ↦
              let same : count ≡ k = omega arith in
              absurd (false≢true (sym unreached ∙ (ap (bit_at reached) same ∙ r)))
        ];
    no_others = so_far.no_others;
  }
