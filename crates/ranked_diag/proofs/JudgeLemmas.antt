-- Each text is a partial log, or it is refused.
use Rattle.std.proofs.Common.{◌≡◌, ◌∙◌, ℕ, zero, suc, ◌+◌, ◌<◌, ◌≤◌, ◌^◌, ◌⊎◌, List, [], ◌∷◌, ◌++◌, map, length, refl, sym, ap, ap₂, subst, inl, inr, arith}
use Rattle.std.specs.Prelude.{Contains, codes, decimal, slice_index}
use Rattle.std.proofs.lemmas.Bool.{cases_lt, cases_eq}
use Rattle.std.proofs.lemmas.List.{append-nil, map-append, length-append, get_or_default}
use Rattle.std.proofs.lemmas.List.Elements.{All-nil, All-cons, All-append, Contains-append_right}
use Rattle.text_fields.proofs.Cuts.{tails, cut_once}
use Rattle.diagnose.specs.declared.fault.LogKind.{LogKind}
use Rattle.diagnose.specs.declared.fault.LogKind.TheVariants.{TooLong, Syntax, Order, Width}
use Rattle.text_fields.specs.Fields.{Text, IsCutAt}
use Rattle.diagnose.specs.Lines.{text_limit, line_number}
use Rattle.text_fields.proofs.NumberLemmas.{number_without_blank}
use Rattle.ranked_diag.specs.declared.partial.Seen.{Seen}
use Rattle.ranked_diag.specs.declared.partial.Seen.TheVariants.{Zero, One, Unseen}
use Rattle.ranked_diag.specs.Seen.{seen_digit, seen_text}
use Rattle.ranked_diag.specs.PartialLog.{Line, partial_line, partial_text, patterns_of, AreInOrder, ArePartial, IsPartialLog, BeginsWithPartial, HasNoPartial, MayFollow, PartialRestRefused, no_line, misplaced, wrong_width, PartialRefused, too_long, at_line}
use Rattle.ranked_diag.proofs.PartialLemmas.{line_without_feed, more_text}

-- It holds, or it doesn't.
abbrev IsTold : Type 0 → Type 0
IsTold P = P ⊎ (P → ⊥)

-- if it is decided for each number, some number below a bound has the property, or none has
bounded : (P : ℕ → Type 0) → ((n : ℕ) → IsTold (P n)) → (k : ℕ) → ((n : ℕ) × (n < k) × P n) ⊎ ((n : ℕ) → n < k → P n → ⊥)
bounded P told zero = inr (λ n h p. omega (arith, h))
bounded P told (suc k) = elim (told k) [
  | inl here ↦ inl (k, omega arith, here)
  | inr not_so ↦ elim (bounded P told k) [
    | inl found ↦ inl (found.0, omega (arith, found.1), found.2)
    | inr none ↦ inr (λ n h p. elim (cases_eq n k) [ inl same ↦ not_so (subst P same p) | inr other ↦ none n (below n k h other) p ])
  ]
]
  where
    below : (n k : ℕ) → n < suc k → (n ≡ k → ⊥) → n < k
    below n k h other = elim (cases_lt n k) [ inl lt ↦ lt | inr ge ↦ absurd (other (omega (arith, h, ge))) ]

same_text : (a b : Text) → IsTold (a ≡ b)
same_text [] [] = inl refl
same_text [] (y ∷ b) = inr (λ e. cc)
same_text (x ∷ a) [] = inr (λ e. cc)
same_text (x ∷ a) (y ∷ b) = elim (cases_eq x y) [
  | inl same ↦ elim (same_text a b) [ inl rest ↦ inl (ap₂ (λ (z : ℕ) (zs : Text). z ∷ zs) same rest) | inr not_so ↦ inr (λ e. not_so (tails e).1) ]
  | inr not_so ↦ inr (λ e. not_so (tails e).0)
]

-- ---- cuts

stands_later : (byte b : ℕ) (text : Text) → (b ≡ byte → ⊥) → Contains (b ∷ text) byte → Contains text byte
stands_later byte b text other (zero, low, is) = absurd (other is)
stands_later byte b text other (suc k, low, is) = (k, omega (arith, low), is)

cut_or_none : (byte : ℕ) (text : Text) → ((front : Text) × (back : Text) × IsCutAt byte text front back) ⊎ (Contains text byte → ⊥)
cut_or_none byte [] = inr (λ there. omega (arith, there.1))
cut_or_none byte (b ∷ text) = elim (cases_eq b byte) [
  | inl same ↦ inl ([], text, record { first = λ there. omega (arith, there.1); text_is = ap (λ (x : ℕ). x ∷ text) same })
  | inr other ↦ elim (cut_or_none byte text) [
    | inl cut ↦ inl (b ∷ cut.0, cut.1, record { first = λ there. cut.2.first (stands_later byte b cut.0 other there); text_is = ap (λ (bs : Text). b ∷ bs) cut.2.text_is })
    | inr none ↦ inr (λ there. none (stands_later byte b text other there))
  ]
]

-- ---- what was seen

digit_or_none : (b : ℕ) → ((s : Seen) × (seen_digit s ≡ b)) ⊎ ((s : Seen) → seen_digit s ≡ b → ⊥)
digit_or_none b = elim (cases_eq 48 b) [
  | inl e ↦ inl (Zero, e)
  | inr a ↦ elim (cases_eq 49 b) [
    | inl e ↦ inl (One, e)
    | inr o ↦ elim (cases_eq 120 b) [ inl e ↦ inl (Unseen, e) | inr x ↦ inr (none a o x) ]
  ]
]
  where
    none : (48 ≡ b → ⊥) → (49 ≡ b → ⊥) → (120 ≡ b → ⊥) → (s : Seen) → seen_digit s ≡ b → ⊥
    none a o x Zero = a
    none a o x One = o
    none a o x Unseen = x

digits_or_none : (field : Text) → ((seen : List Seen) × (map seen_digit seen ≡ field)) ⊎ ((seen : List Seen) → map seen_digit seen ≡ field → ⊥)
digits_or_none [] = inl ([], refl)
digits_or_none (b ∷ field) = elim (digit_or_none b) [
  | inl s ↦ elim (digits_or_none field) [
    | inl rest ↦ inl (s.0 ∷ rest.0, ap₂ (λ (z : ℕ) (zs : Text). z ∷ zs) s.1 rest.1)
    | inr none ↦ inr (no_rest none)
  ]
  | inr none ↦ inr (no_first none)
]
  where
    no_rest : ((seen : List Seen) → map seen_digit seen ≡ field → ⊥) → (seen : List Seen) → map seen_digit seen ≡ b ∷ field → ⊥
    no_rest none [] e = absurd (cc)
    no_rest none (s ∷ seen) e = none seen (tails e).1

    no_first : ((s : Seen) → seen_digit s ≡ b → ⊥) → (seen : List Seen) → map seen_digit seen ≡ b ∷ field → ⊥
    no_first none [] e = absurd (cc)
    no_first none (s ∷ seen) e = none s (tails e).0

seen_or_none : (field : Text) → ((seen : List Seen) × (seen_text seen ≡ field)) ⊎ ((seen : List Seen) → seen_text seen ≡ field → ⊥)
seen_or_none field = elim (same_text (codes "-") field) [
  | inl dash ↦ inl ([], dash)
  | inr other ↦ elim (digits_or_none field) [ inl found ↦ by other found.0 found.1 | inr none ↦ inr (no_digits other none) ]
]
  where
    no_digits : (codes "-" ≡ field → ⊥) → ((seen : List Seen) → map seen_digit seen ≡ field → ⊥) → (seen : List Seen) → seen_text seen ≡ field → ⊥
    no_digits other none [] e = other e
    no_digits other none (s ∷ seen) e = none (s ∷ seen) e

    empty : [] ≡ field → (seen : List Seen) → seen_text seen ≡ field → ⊥
    empty none [] e = let clash : ◌≡◌ {A = Text} (codes "-") [] = e ∙ sym none in absurd (cc)
    empty none (s ∷ seen) e = let clash : ◌≡◌ {A = Text} (map seen_digit (s ∷ seen)) [] = e ∙ sym none in absurd (cc)

    by : (codes "-" ≡ field → ⊥) → (seen : List Seen) → map seen_digit seen ≡ field → ((seen : List Seen) × (seen_text seen ≡ field)) ⊎ ((seen : List Seen) → seen_text seen ≡ field → ⊥)
    by other [] e = inr (empty e)
    by other (s ∷ seen) e = inl (s ∷ seen, e)

-- ---- lines

abbrev HasLine : Text → Type 0
HasLine text = (line : Line) × (more : Text) × BeginsWithPartial text line more

module _ (text front back number field : Text) (cut : IsCutAt 10 text front back) (part : IsCutAt 32 front number field) where
  -- the fields of a line that the text begins with are these
  fields_are : (line : Line) (more : Text) → BeginsWithPartial text line more → (decimal line.0 ≡ number) × (seen_text line.1 ≡ field)
  fields_are line more begins =
      let whole : partial_line line ≡ front = (cut_once 10 (partial_line line) front more back (line_without_feed line begins.0) cut.first (sym begins.1 ∙ cut.text_is)).0 in
      cut_once 32 (decimal line.0) number (seen_text line.1) field (number_without_blank line.0 begins.0) part.first (whole ∙ part.text_is)

  by_fields : HasLine text ⊎ HasNoPartial text
  by_fields = elim (bounded (λ n. decimal n ≡ number) (λ n. same_text (decimal n) number) (2 ^ 32)) [
    | inl n ↦ elim (seen_or_none field) [
      | inl seen ↦ inl ((n.0, seen.0), back, (n.1, cut.text_is ∙ ap (λ (t : Text). t ++ 10 ∷ back) (part.text_is ∙ ap₂ (λ (a b : Text). a ++ 32 ∷ b) (sym n.2) (sym seen.1))))
      | inr none ↦ inr (λ line more begins. none line.1 (fields_are line more begins).1)
    ]
    | inr none ↦ inr (λ line more begins. none line.0 begins.0 (fields_are line more begins).0)
  ]

line_or_none : (text : Text) → HasLine text ⊎ HasNoPartial text
line_or_none text = elim (cut_or_none 10 text) [
  | inl cut ↦ elim (cut_or_none 32 cut.0) [
    | inl part ↦ by_fields text cut.0 cut.1 part.0 part.1 cut.2 part.2
    | inr none ↦ inr (λ line more begins.
        let whole : partial_line line ≡ cut.0 = (cut_once 10 (partial_line line) cut.0 more cut.1 (line_without_feed line begins.0) cut.2.first (sym begins.1 ∙ cut.2.text_is)).0 in
        none (subst (λ (t : Text). Contains t 32) whole (Contains-append_right (decimal line.0) (32 ∷ seen_text line.1) 32 (0, omega arith, refl))))
  ]
  | inr none ↦ inr (λ line more begins. none (subst (λ (t : Text). Contains t 10) (sym begins.1) (Contains-append_right (partial_line line) (10 ∷ more) 10 (0, omega arith, refl))))
]

-- ---- the order of patterns

less_or_not : (a b : ℕ) → IsTold (a ≤ b)
less_or_not a b = elim (cases_lt b a) [ inl lt ↦ inr (λ le. omega (arith, lt, le)) | inr ge ↦ inl ge ]

in_order_or_not : (patterns : ℕ) (named : List ℕ) → IsTold (AreInOrder patterns named)
in_order_or_not patterns named = elim (bounded Falls falls_or_not (length named)) [
  | inl falls ↦ inr (λ order. let rise = order.ascend falls.0 falls.2.0 in omega (arith, rise, falls.2.1))
  | inr rises ↦ elim (bounded (λ k. patterns ≤ slice_index named k) (λ k. less_or_not patterns (slice_index named k)) (length named)) [
    | inl high ↦ inr (λ order. let low = order.below high.0 0 high.1 in omega (arith, low, high.2))
    | inr below ↦ inl (record {
      ascend = λ k h. elim (cases_lt (slice_index named k) (slice_index named (k + 1))) [ inl lt ↦ lt | inr ge ↦ absurd (rises k (omega (arith, h)) (h, ge)) ];
      below = λ k d h. let same = get_or_default named k 0 d h in elim (cases_lt (slice_index named k) patterns) [ inl lt ↦ omega (arith, lt, same) | inr ge ↦ absurd (below k h ge) ];
    })
  ]
]
  where
    Falls : ℕ → Type 0
    Falls k = (k + 1 < length named) × (slice_index named (k + 1) ≤ slice_index named k)

    falls_or_not : (k : ℕ) → IsTold (Falls k)
    falls_or_not k = elim (less_or_not (k + 2) (length named)) [
      | inl inside ↦ elim (less_or_not (slice_index named (k + 1)) (slice_index named k)) [ inl low ↦ inl (omega (arith, inside), low) | inr not_so ↦ inr (λ both. not_so both.1) ]
      | inr out ↦ inr (λ both. out (omega (arith, both.0)))
    ]

-- ---- all lines

module _ (patterns positions : ℕ) (text : Text) (short : length text ≤ text_limit) where
  abbrev Outcome : Type 0
  Outcome = ((lines : List Line) × IsPartialLog patterns positions text lines) ⊎ ((kind : LogKind) × (number : ℕ) × PartialRefused patterns positions text kind number)

  refuse : (before : List Line) (rest : Text) (kind : LogKind) → ArePartial patterns positions before → text ≡ partial_text before ++ rest → PartialRestRefused patterns positions before rest kind → Outcome
  refuse before rest kind are text_is refused = inr (kind, length before + 1, at_line before rest short are text_is refused refl)

  more_are : (before : List Line) (line : Line) → ArePartial patterns positions before → MayFollow patterns before line.0 → length line.1 ≡ positions → ArePartial patterns positions (before ++ line ∷ [])
  more_are before line are follows wide = record {
    order = subst (AreInOrder patterns) (sym (map-append (λ (l : Line). l.0) before (line ∷ []))) follows;
    wide = All-append (λ l. length l.1 ≡ positions) before (line ∷ []) are.wide (All-cons (λ l. length l.1 ≡ positions) line [] wide (All-nil (λ l. length l.1 ≡ positions)));
  }

  judge : (fuel : ℕ) (before : List Line) (rest : Text) → length rest ≤ fuel → ArePartial patterns positions before → text ≡ partial_text before ++ rest → Outcome
  judge fuel before [] low are text_is = inl (before, record { short = short; are = are; text_is = text_is ∙ append-nil (partial_text before) })
  judge zero before (x ∷ rest) low are text_is = absurd (omega (arith, low))
  judge (suc fuel) before (x ∷ rest) low are text_is = elim (line_or_none (x ∷ rest)) [
    | inr none ↦ refuse before (x ∷ rest) Syntax are text_is (no_line (λ e. cc) none refl)
    | inl found ↦
        let line = found.0 in
        let more = found.1 in
        let begins = found.2 in
        elim (in_order_or_not patterns (patterns_of before ++ line.0 ∷ [])) [
          | inr unable ↦ refuse before (x ∷ rest) Order are text_is (misplaced line more begins unable refl)
          | inl follows ↦ elim (cases_eq (length line.1) positions) [
            | inr wrong ↦ refuse before (x ∷ rest) Width are text_is (wrong_width line more begins follows wrong refl)
            | inl wide ↦
                judge fuel (before ++ line ∷ []) more
                (omega (arith, low, ap (λ (t : Text). length t) begins.1, length-append (partial_line line) (10 ∷ more), length-append (decimal line.0) (32 ∷ seen_text line.1)))
                (more_are before line are follows wide) (text_is ∙ ap (λ (t : Text). partial_text before ++ t) begins.1 ∙ more_text before line more)
          ]
        ]
  ]

no_lines : (patterns positions : ℕ) → ArePartial patterns positions []
no_lines patterns positions = record { order = record { ascend = λ k h. absurd (omega (arith, h)); below = All-nil (λ p. p < patterns) }; wide = All-nil (λ l. length l.1 ≡ positions) }

pub partial_is_judged : (patterns positions : ℕ) (text : Text) → ((lines : List Line) × IsPartialLog patterns positions text lines) ⊎ ((kind : LogKind) × (number : ℕ) × PartialRefused patterns positions text kind number)
partial_is_judged patterns positions text = elim (cases_lt text_limit (length text)) [
  | inl long ↦ inr (TooLong, line_number text text_limit, too_long long refl refl)
  | inr short ↦ judge patterns positions text short (length text) [] text (omega arith) (no_lines patterns positions) refl
]
