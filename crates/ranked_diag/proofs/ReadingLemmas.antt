-- Lines of partial logs as they are read, and what is refused after some.
use Rattle.std.proofs.Common.{◌≡◌, ◌≢◌, ◌∙◌, ℕ, zero, suc, ◌+◌, ◌<◌, ◌≤◌, ◌^◌, List, [], ◌∷◌, ◌++◌, map, length, get_or, refl, sym, ap, ap₂, subst, inl, inr, arith}
use Rattle.std.specs.Prelude.{Contains, codes, decimal, slice_index}
use Rattle.std.proofs.lemmas.Bool.{cases_lt}
use Rattle.std.proofs.lemmas.List.{append-nil, map-append, length-append, length-map, get_or_append_left, get_or-append-add}
use Rattle.std.proofs.lemmas.List.Elements.{All-nil, All-push, Contains-append_right}
use Rattle.diagnose.specs.declared.fault.LogKind.{LogKind}
use Rattle.diagnose.specs.declared.fault.LogKind.TheVariants.{Order, Width}
use Rattle.text_fields.specs.Fields.{Text, IsCutAt}
use Rattle.diagnose.specs.Lines.{text_limit}
use Rattle.text_fields.proofs.Cuts.{cut_once}
use Rattle.text_fields.proofs.NumberLemmas.{number_without_blank}
use Rattle.ranked_diag.specs.declared.partial.Seen.{Seen}
use Rattle.ranked_diag.specs.declared.partial.Seen.TheVariants.{Zero, One, Unseen}
use Rattle.ranked_diag.specs.Seen.{seen_digit, seen_text}
use Rattle.ranked_diag.specs.PartialLog.{Line, partial_line, partial_text, patterns_of, AreInOrder, ArePartial, IsPartialLog, BeginsWithPartial, HasNoPartial, MayFollow, PartialRestRefused, misplaced, wrong_width, PartialRefused, at_line}
use Rattle.ranked_diag.specs.PartialLines.{digit_seen, digits_seen, IsSeenDigit, GoOnFrom, IsRightPartialLine}
use Rattle.ranked_diag.proofs.PartialLemmas.{line_without_feed, more_text}

-- ---- digits that spell a field

digit_back : (byte : ℕ) → IsSeenDigit byte → seen_digit (digit_seen byte) ≡ byte
digit_back byte (inl nought) = ap (λ (b : ℕ). seen_digit (digit_seen b)) nought ∙ sym nought
digit_back byte (inr (inl one)) = ap (λ (b : ℕ). seen_digit (digit_seen b)) one ∙ sym one
digit_back byte (inr (inr none)) = ap (λ (b : ℕ). seen_digit (digit_seen b)) none ∙ sym none

digits_back : (field : Text) → ((k : ℕ) → k < length field → IsSeenDigit (get_or field k 0)) → map seen_digit (digits_seen field) ≡ field
digits_back [] digits = refl
digits_back (byte ∷ field) digits = ap₂ (λ (b : ℕ) (bs : Text). b ∷ bs) (digit_back byte (digits 0 (omega arith))) (digits_back field (λ k below. digits (suc k) (omega (arith, below))))

-- digits spell themselves, if there are some
pub seen_spell : (field : Text) → (length field ≡ 0 → ⊥) → ((k : ℕ) → k < length field → IsSeenDigit (get_or field k 0)) → seen_text (digits_seen field) ≡ field
seen_spell [] some digits = absurd (some refl)
seen_spell (byte ∷ field) some digits = digits_back (byte ∷ field) digits

is_digit : (s : Seen) → IsSeenDigit (seen_digit s)
is_digit Zero = inl refl
is_digit One = inr (inl refl)
is_digit Unseen = inr (inr refl)

all_digits : (seen : List Seen) (k : ℕ) → k < length (map seen_digit seen) → IsSeenDigit (get_or (map seen_digit seen) k 0)
all_digits [] k below = absurd (omega (arith, below))
all_digits (s ∷ seen) zero below = is_digit s
all_digits (s ∷ seen) (suc k) below = all_digits seen k (omega (arith, below))

-- a field with another byte is no text of what was seen, except the dash
pub no_seen : (field : Text) → (field ≡ codes "-" → ⊥) → (((k : ℕ) → k < length field → IsSeenDigit (get_or field k 0)) → ⊥) → (seen : List Seen) → seen_text seen ≡ field → ⊥
no_seen field dash other [] e = dash (sym e)
no_seen field dash other (s ∷ seen) e = other (λ k below. subst (λ (f : Text). IsSeenDigit (get_or f k 0)) e (all_digits (s ∷ seen) k (omega (arith, below, ap length e))))

pub no_empty_seen : (field : Text) → length field ≡ 0 → (seen : List Seen) → seen_text seen ≡ field → ⊥
no_empty_seen field none [] e = omega (arith, none, ap length e)
no_empty_seen field none (s ∷ seen) e = omega (arith, none, ap length e)

-- ---- a line and its fields

-- a text without an LF begins with no line
pub no_feed : (text : Text) → ¬ Contains text 10 → HasNoPartial text
no_feed text none line more begins = none (subst (λ (t : Text). Contains t 10) (sym begins.1) (Contains-append_right (partial_line line) (10 ∷ more) 10 (0, omega arith, refl)))

-- if the first line has no fields, the text begins with no line
pub no_fields : (text front more : Text) → IsCutAt 10 text front more → ((line : Line) → line.0 < 2 ^ 32 → partial_line line ≢ front) → HasNoPartial text
no_fields text front more cut none line behind begins =
    none line begins.0 (sym (cut_once 10 front (partial_line line) more behind cut.first (line_without_feed line begins.0) (sym cut.text_is ∙ begins.1)).0)

-- if a line has no blank, or no number before it, or nothing that was seen after it, no fields spell it
pub no_blank : (front : Text) → ¬ Contains front 32 → (line : Line) → line.0 < 2 ^ 32 → partial_line line ≢ front
no_blank front none line small e = none (subst (λ (t : Text). Contains t 32) e (Contains-append_right (decimal line.0) (32 ∷ seen_text line.1) 32 (0, omega arith, refl)))

pub no_number : (front number field : Text) → IsCutAt 32 front number field → ((n : ℕ) → n < 2 ^ 32 → decimal n ≢ number) → (line : Line) → line.0 < 2 ^ 32 → partial_line line ≢ front
no_number front number field cut none line small e =
    none line.0 small (cut_once 32 (decimal line.0) number (seen_text line.1) field (number_without_blank line.0 small) cut.first (e ∙ cut.text_is)).0

pub no_field : (front number field : Text) → IsCutAt 32 front number field → ((seen : List Seen) → seen_text seen ≢ field) → (line : Line) → line.0 < 2 ^ 32 → partial_line line ≢ front
no_field front number field cut none line small e =
    none line.1 (cut_once 32 (decimal line.0) number (seen_text line.1) field (number_without_blank line.0 small) cut.first (e ∙ cut.text_is)).1

-- ---- the patterns that may follow

-- one more that is above the last
order_more : (patterns p q : ℕ) (named : List ℕ) → AreInOrder patterns (named ++ p ∷ []) → p < q → q < patterns → AreInOrder patterns ((named ++ p ∷ []) ++ q ∷ [])
order_more patterns p q named order rises below = record {
  ascend = λ k h. elim (cases_lt (k + 1) (length first)) [
    | inl inside ↦
        let here : slice_index (first ++ q ∷ []) k ≡ slice_index first k = get_or_append_left first (q ∷ []) 0 k (omega (arith, inside)) in
        let next : slice_index (first ++ q ∷ []) (k + 1) ≡ slice_index first (k + 1) = get_or_append_left first (q ∷ []) 0 (k + 1) inside in
        omega (arith, order.ascend k inside, here, next)
    | inr past ↦
        let last : k ≡ length named + 0 = omega (arith, past, h, size, more) in
        let end : k + 1 ≡ length first + 0 = omega (arith, past, h, size, more) in
        let here : slice_index (first ++ q ∷ []) k ≡ p =
        get_or_append_left first (q ∷ []) 0 k (omega (arith, last, size)) ∙ (ap (slice_index first) last ∙ get_or-append-add named (p ∷ []) 0 0) in
        let next : slice_index (first ++ q ∷ []) (k + 1) ≡ q = ap (slice_index (first ++ q ∷ [])) end ∙ get_or-append-add first (q ∷ []) 0 0 in
        omega (arith, here, next, rises)
  ];
  below = All-push (λ pattern. pattern < patterns) first q order.below below;
}
  where
    first : List ℕ
    first = named ++ p ∷ []

    size : length first ≡ length named + 1
    size = length-append named (p ∷ [])

    more : length (first ++ q ∷ []) ≡ length first + 1
    more = length-append first (q ∷ [])

-- a pattern that is in order after others is above the last of these
order_last : (patterns p q : ℕ) (named : List ℕ) → AreInOrder patterns ((named ++ p ∷ []) ++ q ∷ []) → (p + 1 ≤ q) × (q < patterns)
order_last patterns p q named order =
    let first = named ++ p ∷ [] in
    let size : length first ≡ length named + 1 = length-append named (p ∷ []) in
    let more : length (first ++ q ∷ []) ≡ length first + 1 = length-append first (q ∷ []) in
    let end : length named + 1 ≡ length first + 0 = omega (arith, size) in
    let start : length named ≡ length named + 0 = omega arith in
    let here : slice_index (first ++ q ∷ []) (length named) ≡ p =
    get_or_append_left first (q ∷ []) 0 (length named) (omega (arith, size)) ∙ (ap (slice_index first) start ∙ get_or-append-add named (p ∷ []) 0 0) in
    let next : slice_index (first ++ q ∷ []) (length named + 1) ≡ q = ap (slice_index (first ++ q ∷ [])) end ∙ get_or-append-add first (q ∷ []) 0 0 in
    let rise = order.ascend (length named) (omega (arith, size, more)) in
    let high = order.below (length named + 1) 0 (omega (arith, size, more)) in
    (omega (arith, here, next, rise), omega (arith, next, high))

pub go_on_none : (patterns : ℕ) → GoOnFrom patterns [] 0
go_on_none patterns pattern = (
  (λ order. (omega arith, order.below 0 0 (omega arith))),
  (λ both. record { ascend = λ k h. absurd (omega (arith, h)); below = All-push (λ p. p < patterns) [] pattern (All-nil (λ p. p < patterns)) both.1 }),
)

named_push : (before : List Line) (line : Line) → patterns_of (before ++ line ∷ []) ≡ patterns_of before ++ line.0 ∷ []
named_push before line = map-append (λ (l : Line). l.0) before (line ∷ [])

pub go_on_more : (patterns : ℕ) (before : List Line) (line : Line) → MayFollow patterns before line.0 → GoOnFrom patterns (before ++ line ∷ []) (line.0 + 1)
go_on_more patterns before line may pattern =
    let named = named_push before line in (
      (λ order. order_last patterns line.0 pattern (patterns_of before) (subst (λ (ps : List ℕ). AreInOrder patterns (ps ++ pattern ∷ [])) named order)),
      (λ both. subst (λ (ps : List ℕ). AreInOrder patterns (ps ++ pattern ∷ [])) (sym named) (order_more patterns line.0 pattern (patterns_of before) may (omega (arith, both.0)) both.1)),
    )

-- ---- what is after some lines, as the reader finds it

module _ (patterns positions least : ℕ) (rest : Text) (pattern : ℕ) (digits more : Text) (begins : BeginsWithPartial rest (pattern, digits_seen digits) more) where
  pub refuse_order : (least ≤ pattern → pattern < patterns → ⊥) → (before : List Line) → GoOnFrom patterns before least → PartialRestRefused patterns positions before rest Order
  refuse_order unable before on = misplaced (pattern, digits_seen digits) more begins (λ may. let both = (on pattern).0 may in unable both.0 both.1) refl

  pub refuse_width : least ≤ pattern → pattern < patterns → (length digits ≡ positions → ⊥) → (before : List Line) → GoOnFrom patterns before least → PartialRestRefused patterns positions before rest Width
  refuse_width low high other before on =
      wrong_width (pattern, digits_seen digits) more begins ((on pattern).1 (low, high)) (λ e. other (sym (length-map digits digit_seen) ∙ e)) refl

-- ---- a partial log that is read so far

-- The lines are those before `rest`. Its first line has this number, and the patterns that may follow are those in
-- `least..patterns`.
pub record IsPartialSoFar (patterns positions : ℕ) (text : Text) (number least : ℕ) (lines : List Line) (rest : Text) : Type 0 where
  pub are : ArePartial patterns positions lines
  pub on : GoOnFrom patterns lines least
  pub text_is : text ≡ partial_text lines ++ rest
  pub number_is : number ≡ length lines + 1
  pub left : number + length rest ≤ length text + 1

pub partial_none : (patterns positions : ℕ) (text : Text) → IsPartialSoFar patterns positions text 1 0 [] text
partial_none patterns positions text = record {
  are = record { order = record { ascend = λ k h. absurd (omega (arith, h)); below = All-nil (λ p. p < patterns) }; wide = All-nil (λ l. length l.1 ≡ positions) };
  on = go_on_none patterns;
  text_is = refl;
  number_is = refl;
  left = omega arith;
}

pub shorter : (rest : Text) (line : Line) (more : Text) → BeginsWithPartial rest line more → length more < length rest
shorter rest line more begins = omega (arith, ap (λ (t : Text). length t) begins.1, length-append (partial_line line) (10 ∷ more))

pub partial_more : (patterns positions : ℕ) (text : Text) (number least : ℕ) (lines : List Line) (rest : Text) (pattern : ℕ) (digits more : Text) → IsPartialSoFar patterns positions text number least lines rest
    → IsRightPartialLine patterns positions least rest pattern digits more → IsPartialSoFar patterns positions text (number + 1) (pattern + 1) (lines ++ (pattern, digits_seen digits) ∷ []) more
partial_more patterns positions text number least lines rest pattern digits more so_far right =
    let line : Line = (pattern, digits_seen digits) in
    let may = (so_far.on pattern).1 (right.low, right.high) in record {
      are = record {
        order = subst (AreInOrder patterns) (sym (named_push lines line)) may;
        wide = All-push (λ l. length l.1 ≡ positions) lines line so_far.are.wide (length-map digits digit_seen ∙ right.width);
      };
      on = go_on_more patterns lines line may;
      text_is = so_far.text_is ∙ ap (λ (t : Text). partial_text lines ++ t) right.begins.1 ∙ more_text lines line more;
      number_is = omega (arith, so_far.number_is, length-append lines (line ∷ []));
      left = omega (arith, so_far.left, shorter rest line more right.begins);
    }

pub partial_done : (patterns positions : ℕ) (text : Text) (number least : ℕ) (lines : List Line) (rest : Text) → IsPartialSoFar patterns positions text number least lines rest → length text ≤ text_limit → length rest ≡ 0 → IsPartialLog patterns positions text lines
partial_done patterns positions text number least lines [] so_far short none = record { short = short; are = so_far.are; text_is = so_far.text_is ∙ append-nil (partial_text lines) }
partial_done patterns positions text number least lines (b ∷ rest) so_far short none = absurd (omega (arith, none))

pub partial_refused : (patterns positions : ℕ) (text : Text) (number least : ℕ) (lines : List Line) (rest : Text) (kind : LogKind) → IsPartialSoFar patterns positions text number least lines rest → length text ≤ text_limit
    → ((before : List Line) → GoOnFrom patterns before least → PartialRestRefused patterns positions before rest kind) → PartialRefused patterns positions text kind number
partial_refused patterns positions text number least lines rest kind so_far short refused =
    at_line lines rest short so_far.are so_far.text_is (refused lines so_far.on) so_far.number_is
