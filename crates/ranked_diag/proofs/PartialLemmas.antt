-- Texts of partial logs: one list of lines each, and one refusal.
use Rattle.std.proofs.Common.{◌≡◌, ◌∙◌, ℕ, ◌+◌, ◌<◌, ◌^◌, List, [], ◌∷◌, ◌++◌, map, length, refl, sym, ap, ap₂, subst, append_assoc, inl, inr, arith, lit<}
use Rattle.std.specs.Prelude.{◌⊎◌, All, Contains, decimal, slice_index}
use Rattle.std.proofs.lemmas.Bool.{eqb-false}
use Rattle.std.proofs.lemmas.Fmt.{decimal_injective}
use Rattle.std.proofs.lemmas.List.{append-nil, map-append, length-append, get_or_append_left}
use Rattle.std.proofs.lemmas.List.Concat.{flat_map-append}
use Rattle.std.proofs.lemmas.List.Elements.{All-nil, All-cons, All-head, All-tail, All-map, All-append, All-weaker}
use Rattle.net_model.proofs.Elements.{All-left}
use Rattle.text_fields.proofs.Cuts.{tails, cut_once, missing_below, not_empty}
use Rattle.text_fields.proofs.NumberLemmas.{first_byte, number_bytes, number_without_blank}
use Rattle.diagnose.specs.declared.fault.LogKind.{LogKind}
use Rattle.text_fields.specs.Fields.{Text}
use Rattle.ranked_diag.specs.declared.partial.Seen.{Seen}
use Rattle.ranked_diag.specs.declared.partial.Seen.TheVariants.{Zero, One, Unseen}
use Rattle.ranked_diag.specs.Seen.{seen_digit, seen_text}
use Rattle.ranked_diag.specs.PartialLog.{Line, partial_line, partial_text, patterns_of, AreInOrder, ArePartial, IsPartialLog, MayFollow, PartialRestRefused, no_line, misplaced, wrong_width, PartialRefused, too_long, at_line}

-- ---- what was seen, as text

digit_once : (s other : Seen) → seen_digit s ≡ seen_digit other → s ≡ other
digit_once Zero Zero e = refl
digit_once Zero One e = absurd (eqb-false 48 49 refl e)
digit_once Zero Unseen e = absurd (eqb-false 48 120 refl e)
digit_once One Zero e = absurd (eqb-false 49 48 refl e)
digit_once One One e = refl
digit_once One Unseen e = absurd (eqb-false 49 120 refl e)
digit_once Unseen Zero e = absurd (eqb-false 120 48 refl e)
digit_once Unseen One e = absurd (eqb-false 120 49 refl e)
digit_once Unseen Unseen e = refl

digits_once : (seen others : List Seen) → map seen_digit seen ≡ map seen_digit others → seen ≡ others
digits_once [] [] e = refl
digits_once [] (other ∷ others) e = absurd (cc)
digits_once (s ∷ seen) [] e = absurd (cc)
digits_once (s ∷ seen) (other ∷ others) e = ap₂ (λ (x : Seen) (xs : List Seen). x ∷ xs) (digit_once s other (tails e).0) (digits_once seen others (tails e).1)

no_dash : (s : Seen) → seen_digit s ≡ 45 → ⊥
no_dash Zero = eqb-false 48 45 refl
no_dash One = eqb-false 49 45 refl
no_dash Unseen = eqb-false 120 45 refl

pub seen_once : (seen others : List Seen) → seen_text seen ≡ seen_text others → seen ≡ others
seen_once [] [] e = refl
seen_once [] (other ∷ others) e = absurd (no_dash other (sym (ap first_byte e)))
seen_once (s ∷ seen) [] e = absurd (no_dash s (ap first_byte e))
seen_once (s ∷ seen) (other ∷ others) e = digits_once (s ∷ seen) (other ∷ others) e

digit_above : (s : Seen) → 32 < seen_digit s
digit_above Zero = lit< tt
digit_above One = lit< tt
digit_above Unseen = lit< tt

pub seen_bytes : (seen : List Seen) → All (λ b. 32 < b) (seen_text seen)
seen_bytes [] = All-cons (λ b. 32 < b) 45 [] (lit< tt) (All-nil (λ b. 32 < b))
seen_bytes (s ∷ seen) = All-map (λ b. 32 < b) seen_digit (s ∷ seen) (λ k d below. digit_above _)

-- ---- lines

pub line_without_feed : (line : Line) → line.0 < 2 ^ 32 → ¬ Contains (partial_line line) 10
line_without_feed line small =
    let weaker : (b : ℕ) → 32 < b → 10 < b = λ b above. omega (arith, above) in
    missing_below 10 (partial_line line)
    (All-append (λ b. 10 < b) (decimal line.0) (32 ∷ seen_text line.1) (All-weaker (λ b. 32 < b) (λ b. 10 < b) weaker (decimal line.0) (number_bytes line.0 small))
    (All-cons (λ b. 10 < b) 32 (seen_text line.1) (omega arith) (All-weaker (λ b. 32 < b) (λ b. 10 < b) weaker (seen_text line.1) (seen_bytes line.1))))

pub fields_once : (line other : Line) → line.0 < 2 ^ 32 → other.0 < 2 ^ 32 → partial_line line ≡ partial_line other → line ≡ other
fields_once line other low high e =
    let cut = cut_once 32 (decimal line.0) (decimal other.0) (seen_text line.1) (seen_text other.1) (number_without_blank line.0 low) (number_without_blank other.0 high) e in
    ap₂ (λ (n : ℕ) (seen : List Seen). (n, seen)) (decimal_injective line.0 other.0 (omega (arith, low)) (omega (arith, high)) cut.0) (seen_once line.1 other.1 cut.1)

-- a line that a text begins with is the only one
pub line_once : (line other : Line) (s t : Text) → line.0 < 2 ^ 32 → other.0 < 2 ^ 32 → partial_line line ++ 10 ∷ s ≡ partial_line other ++ 10 ∷ t → (line ≡ other) × (s ≡ t)
line_once line other s t low high e =
    let cut = cut_once 10 (partial_line line) (partial_line other) s t (line_without_feed line low) (line_without_feed other high) e in
    (fields_once line other low high cut.0, cut.1)

abbrev text_behind : List Line → Text → Text
text_behind lines rest = partial_text lines ++ rest

text_more : (line : Line) (lines : List Line) (rest : Text) → text_behind (line ∷ lines) rest ≡ partial_line line ++ 10 ∷ text_behind lines rest
text_more line lines rest = append_assoc (partial_line line ++ 10 ∷ []) (partial_text lines) rest ∙ append_assoc (partial_line line) (10 ∷ []) (text_behind lines rest)

-- a line after others, or at the end of these
pub more_text : (before : List Line) (line : Line) (more : Text) → partial_text before ++ (partial_line line ++ 10 ∷ more) ≡ partial_text (before ++ line ∷ []) ++ more
more_text before line more =
    ap (λ (t : Text). partial_text before ++ t) (sym (text_more line [] more)) ∙ sym (append_assoc (partial_text before) (partial_text (line ∷ [])) more)
    ∙ ap (λ (t : Text). t ++ more) (sym (flat_map-append (λ (l : Line). partial_line l ++ 10 ∷ []) before (line ∷ [])))

abbrev AreNumbers : List Line → Type 0
AreNumbers lines = All (λ line. line.0 < 2 ^ 32) lines

-- One list of lines goes on where the other ends.
record GoesOn (lines others : List Line) (rest other_rest : Text) : Type 0 where
  more : List Line
  lines_are : others ≡ lines ++ more
  rest_is : rest ≡ text_behind more other_rest

on_behind : (line other : Line) (lines others : List Line) (rest other_rest : Text) → line ≡ other → GoesOn lines others rest other_rest → GoesOn (line ∷ lines) (other ∷ others) rest other_rest
on_behind line other lines others rest other_rest same on = record { more = on.more; lines_are = ap₂ (λ (x : Line) (xs : List Line). x ∷ xs) (sym same) on.lines_are; rest_is = on.rest_is }

-- of two readings of one text one goes on where the other ends
compare : (lines others : List Line) (rest other_rest : Text) → AreNumbers lines → AreNumbers others → text_behind lines rest ≡ text_behind others other_rest → GoesOn lines others rest other_rest ⊎ GoesOn others lines other_rest rest
compare [] others rest other_rest first second e = inl (record { more = others; lines_are = refl; rest_is = e })
compare (line ∷ lines) [] rest other_rest first second e = inr (record { more = line ∷ lines; lines_are = refl; rest_is = sym e })
compare (line ∷ lines) (other ∷ others) rest other_rest first second e =
    let both = line_once line other (text_behind lines rest) (text_behind others other_rest) (All-head (λ l. l.0 < 2 ^ 32) line lines first) (All-head (λ l. l.0 < 2 ^ 32) other others second)
    (sym (text_more line lines rest) ∙ e ∙ text_more other others other_rest) in
    elim (compare lines others rest other_rest (All-tail (λ l. l.0 < 2 ^ 32) line lines first) (All-tail (λ l. l.0 < 2 ^ 32) other others second) both.1) [
      | inl on ↦ inl (on_behind line other lines others rest other_rest both.0 on)
      | inr on ↦ inr (on_behind other line others lines other_rest rest (sym both.0) on)
    ]

-- ---- the order of patterns

numbers_by : (patterns : ℕ) → patterns < 2 ^ 32 → (lines : List Line) → All (λ p. p < patterns) (patterns_of lines) → AreNumbers lines
numbers_by patterns small [] all = All-nil (λ l. l.0 < 2 ^ 32)
numbers_by patterns small (line ∷ lines) all =
    let head = All-head (λ p. p < patterns) line.0 (patterns_of lines) all in
    All-cons (λ l. l.0 < 2 ^ 32) line lines (omega (arith, head, small)) (numbers_by patterns small lines (All-tail (λ p. p < patterns) line.0 (patterns_of lines) all))

-- the first of patterns in order are in order
order_left : (patterns : ℕ) (first behind : List ℕ) → AreInOrder patterns (first ++ behind) → AreInOrder patterns first
order_left patterns first behind order = record {
  ascend = λ k within.
      let below : k + 1 < length (first ++ behind) = omega (arith, within, length-append first behind) in
      let at : slice_index (first ++ behind) k ≡ slice_index first k = get_or_append_left first behind 0 k (omega (arith, within)) in
      let next : slice_index (first ++ behind) (k + 1) ≡ slice_index first (k + 1) = get_or_append_left first behind 0 (k + 1) within in
      omega (arith, order.ascend k below, at, next);
  below = All-left (λ p. p < patterns) first behind order.below;
}

-- a line of a partial log may follow those before it
line_follows : (patterns : ℕ) (before : List Line) (line : Line) (more : List Line) → AreInOrder patterns (patterns_of (before ++ line ∷ more)) → MayFollow patterns before line.0
line_follows patterns before line more order =
    order_left patterns (patterns_of before ++ line.0 ∷ []) (patterns_of more)
    (subst (AreInOrder patterns) (map-append (λ (l : Line). l.0) before (line ∷ more) ∙ sym (append_assoc (patterns_of before) (line.0 ∷ []) (patterns_of more))) order)

all_at : {X : Type 0} (P : X → Type 0) (before : List X) (x : X) (more : List X) → All P (before ++ x ∷ more) → P x
all_at P [] x more all = All-head P x more all
all_at P (y ∷ before) x more all = all_at P before x more (All-tail P y (before ++ x ∷ more) all)

-- ---- what is refused after some lines

module _ (patterns positions : ℕ) (small : patterns < 2 ^ 32) where
  follower_small : (before : List Line) (line : Line) → MayFollow patterns before line.0 → line.0 < 2 ^ 32
  follower_small before line follows = let low = all_at (λ p. p < patterns) (patterns_of before) line.0 [] follows.below in omega (arith, low, small)

  -- a right line that may follow is never refused
  right_line : (before : List Line) (line : Line) (more : Text) (kind : LogKind) → MayFollow patterns before line.0 → length line.1 ≡ positions → PartialRestRefused patterns positions before (partial_line line ++ 10 ∷ more) kind → ⊥
  right_line before line more kind follows wide (no_line some none k) = none line more (follower_small before line follows, refl)
  right_line before line more kind follows wide (misplaced other behind begins unable k) =
      unable (subst (λ (l : Line). MayFollow patterns before l.0) (line_once line other more behind (follower_small before line follows) begins.0 begins.1).0 follows)
  right_line before line more kind follows wide (wrong_width other behind begins may wrong k) =
      wrong (subst (λ (l : Line). length l.1 ≡ positions) (line_once line other more behind (follower_small before line follows) begins.0 begins.1).0 wide)

  -- the end of a text isn't refused
  right_end : (before : List Line) (kind : LogKind) → PartialRestRefused patterns positions before [] kind → ⊥
  right_end before kind (no_line some none k) = some refl
  right_end before kind (misplaced line more begins unable k) = not_empty (partial_line line) more 10 (sym begins.1)
  right_end before kind (wrong_width line more begins may wrong k) = not_empty (partial_line line) more 10 (sym begins.1)

  -- if a right list of lines goes on, nothing is refused there
  goes_on_right : (before others : List Line) (rest other_rest : Text) (kind : LogKind) → ArePartial patterns positions others → GoesOn before others rest other_rest → PartialRestRefused patterns positions before rest kind
      → (before ≡ others) × (rest ≡ other_rest)
  goes_on_right before others rest other_rest kind are on refused = by on.more on.lines_are on.rest_is
    where
      by : (more : List Line) → others ≡ before ++ more → rest ≡ text_behind more other_rest → (before ≡ others) × (rest ≡ other_rest)
      by [] lines_are rest_is = (sym (lines_are ∙ append-nil before), rest_is)
      by (line ∷ more) lines_are rest_is =
          let right : ArePartial patterns positions (before ++ line ∷ more) = subst (ArePartial patterns positions) lines_are are in
          let here : rest ≡ partial_line line ++ 10 ∷ text_behind more other_rest = rest_is ∙ text_more line more other_rest in
          absurd (right_line before line (text_behind more other_rest) kind (line_follows patterns before line more right.order) (all_at (λ l. length l.1 ≡ positions) before line more right.wide)
          (subst (λ (text : Text). PartialRestRefused patterns positions before text kind) here refused))

  refused_kind : (before : List Line) (rest : Text) (kind other : LogKind) → PartialRestRefused patterns positions before rest kind → PartialRestRefused patterns positions before rest other → kind ≡ other
  refused_kind before rest kind other (no_line some none k) (no_line some' none' k') = k ∙ sym k'
  refused_kind before rest kind other (no_line some none k) (misplaced line more begins unable k') = absurd (none line more begins)
  refused_kind before rest kind other (no_line some none k) (wrong_width line more begins may wrong k') = absurd (none line more begins)
  refused_kind before rest kind other (misplaced line more begins unable k) (no_line some none k') = absurd (none line more begins)
  refused_kind before rest kind other (misplaced line more begins unable k) (misplaced line' more' begins' unable' k') = k ∙ sym k'
  refused_kind before rest kind other (misplaced line more begins unable k) (wrong_width line' more' begins' may wrong k') =
      absurd (unable (subst (λ (l : Line). MayFollow patterns before l.0) (line_once line' line more' more begins'.0 begins.0 (sym begins'.1 ∙ begins.1)).0 may))
  refused_kind before rest kind other (wrong_width line more begins may wrong k) (no_line some none k') = absurd (none line more begins)
  refused_kind before rest kind other (wrong_width line more begins may wrong k) (misplaced line' more' begins' unable k') =
      absurd (unable (subst (λ (l : Line). MayFollow patterns before l.0) (line_once line line' more more' begins.0 begins'.0 (sym begins.1 ∙ begins'.1)).0 may))
  refused_kind before rest kind other (wrong_width line more begins may wrong k) (wrong_width line' more' begins' may' wrong' k') = k ∙ sym k'

  are_numbers : (lines : List Line) → ArePartial patterns positions lines → AreNumbers lines
  are_numbers lines are = numbers_by patterns small lines are.order.below

  same_place : (lines others : List Line) (rest other_rest : Text) (kind other : LogKind) → ArePartial patterns positions lines → ArePartial patterns positions others → text_behind lines rest ≡ text_behind others other_rest
      → PartialRestRefused patterns positions lines rest kind → PartialRestRefused patterns positions others other_rest other → (lines ≡ others) × (rest ≡ other_rest)
  same_place lines others rest other_rest kind other are are' e refused refused' =
      elim (compare lines others rest other_rest (are_numbers lines are) (are_numbers others are') e) [
        | inl on ↦ goes_on_right lines others rest other_rest kind are' on refused
        | inr on ↦ let both = goes_on_right others lines other_rest rest other are on refused' in (sym both.0, sym both.1)
      ]

  -- a partial log is refused by one rule at one line
  pub partial_refused_once : (text : Text) (kind other : LogKind) (line number : ℕ) → PartialRefused patterns positions text kind line → PartialRefused patterns positions text other number → (kind ≡ other) × (line ≡ number)
  partial_refused_once text kind other line number (too_long long k l) (too_long long' k' l') = (k ∙ sym k', l ∙ sym l')
  partial_refused_once text kind other line number (too_long long k l) (at_line before rest short are is refused l') = absurd (omega (arith, long, short))
  partial_refused_once text kind other line number (at_line before rest short are is refused l) (too_long long k' l') = absurd (omega (arith, long, short))
  partial_refused_once text kind other line number (at_line before rest short are is refused l) (at_line before' rest' short' are' is' refused' l') =
      let same = same_place before before' rest rest' kind other are are' (sym is ∙ is') refused refused' in
      let moved : PartialRestRefused patterns positions before' rest' kind = subst (λ (text : Text). PartialRestRefused patterns positions before' text kind) same.1 (subst (λ (lines : List Line). PartialRestRefused patterns positions lines rest kind) same.0 refused) in
      (refused_kind before' rest' kind other moved refused', l ∙ ap (λ (lines : List Line). length lines + 1) same.0 ∙ sym l')

  -- a refused one isn't the partial log of any lines
  pub partial_refused_wrong : (text : Text) (lines : List Line) (kind : LogKind) (line : ℕ) → PartialRefused patterns positions text kind line → ¬ IsPartialLog patterns positions text lines
  partial_refused_wrong text lines kind line (too_long long k l) is = absurd (omega (arith, long, is.short))
  partial_refused_wrong text lines kind line (at_line before rest short are text_is refused l) is =
      elim (compare before lines rest [] (are_numbers before are) (are_numbers lines is.are) (sym text_is ∙ is.text_is ∙ sym (append-nil (partial_text lines)))) [
        | inl on ↦ right_end before kind (subst (λ (text : Text). PartialRestRefused patterns positions before text kind) (goes_on_right before lines rest [] kind is.are on refused).1 refused)
        | inr on ↦ by on.more on.rest_is
      ]
    where
      by : (more : List Line) → [] ≡ text_behind more rest → ⊥
      by [] e = right_end before kind (subst (λ (text : Text). PartialRestRefused patterns positions before text kind) (sym e) refused)
      by (line ∷ more) e = not_empty (partial_line line) (text_behind more rest) 10 (sym (e ∙ text_more line more rest))

-- a text is the partial log of one list of lines
pub partial_read_once : (patterns positions : ℕ) (text : Text) (lines others : List Line) → patterns < 2 ^ 32 → IsPartialLog patterns positions text lines → IsPartialLog patterns positions text others → lines ≡ others
partial_read_once patterns positions text lines others small is is' =
    elim (compare lines others [] [] (are_numbers patterns positions small lines is.are) (are_numbers patterns positions small others is'.are) (append-nil (partial_text lines) ∙ sym is.text_is ∙ is'.text_is ∙ sym (append-nil (partial_text others)))) [
      | inl on ↦ by lines others on.more on.lines_are on.rest_is
      | inr on ↦ sym (by others lines on.more on.lines_are on.rest_is)
    ]
  where
    by : (lines others more : List Line) → others ≡ lines ++ more → [] ≡ text_behind more [] → lines ≡ others
    by lines others [] lines_are e = sym (lines_are ∙ append-nil lines)
    by lines others (line ∷ more) lines_are e = absurd (not_empty (partial_line line) (text_behind more []) 10 (sym (e ∙ text_more line more [])))
