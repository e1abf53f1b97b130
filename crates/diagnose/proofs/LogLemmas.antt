-- Lines of logs, and what is refused after some.
use Rattle.std.proofs.Common.{◌≡◌, ◌≢◌, ◌∙◌, ℕ, ◌+◌, ◌<◌, ◌≤◌, ◌^◌, Bool, eqb, List, [], ◌∷◌, ◌++◌, length, set, take, refl, sym, ap, subst, append_assoc, arith}
use Rattle.std.specs.Prelude.{Contains, decimal}
use Rattle.std.proofs.lemmas.Fmt.{decimal_injective}
use Rattle.std.proofs.lemmas.List.{append_cancel_left, append-nil, length-take-le, length-set, length-map, take_more_set, take_all}
use Rattle.std.proofs.lemmas.List.Elements.{All-append, All-cons, All-weaker, All-set, All-take, Contains-append_right}
use Rattle.dict_rows.specs.Rows.{AreRows}
use Rattle.net_model.specs.BitText.{bits_text}
use Rattle.diagnose.specs.declared.fault.LogKind.{LogKind}
use Rattle.diagnose.specs.declared.fault.LogKind.TheVariants.{Syntax, Order, Width, Missing}
use Rattle.text_fields.specs.Fields.{Text, digit_bits, IsCutAt}
use Rattle.diagnose.specs.Lines.{text_limit, lines_from, at_line}
use Rattle.diagnose.specs.LogText.{log_line, IsLog, BeginsWithLine, HasNoLine, FirstLogLine, LogRestRefused, missing, no_line, too_many, misplaced, wrong_width, TesterLogRefused, IsRightLogLine}
use Rattle.text_fields.proofs.Cuts.{tails, cut_once, missing_below, not_empty}
use Rattle.text_fields.proofs.NumberLemmas.{number_bytes, number_without_blank}
use Rattle.text_fields.proofs.BitLemmas.{bits_once, bits_bytes, bits_without_feed}
use Rattle.diagnose.proofs.LineLemmas.{lines_more, TellsRow, KeepsRight, OneRule, refused_once, refused_wrong, rows_once}

-- a line has no LF
pub line_without_feed : (pattern : ℕ) (bits : List Bool) → pattern < 2 ^ 32 → ¬ Contains (log_line pattern bits) 10
line_without_feed pattern bits small =
    let weaker : (b : ℕ) → 32 < b → 10 < b = λ b above. omega (arith, above) in
    missing_below 10 (log_line pattern bits)
    (All-append (λ b. 10 < b) (decimal pattern) (32 ∷ bits_text bits) (All-weaker (λ b. 32 < b) (λ b. 10 < b) weaker (decimal pattern) (number_bytes pattern small))
    (All-cons (λ b. 10 < b) 32 (bits_text bits) (omega arith) (All-weaker (λ b. 32 < b) (λ b. 10 < b) weaker (bits_text bits) (bits_bytes bits))))

-- a line determines its number and its bits
pub fields_once : (m n : ℕ) (xs ys : List Bool) → m < 2 ^ 32 → n < 2 ^ 32 → log_line m xs ≡ log_line n ys → (m ≡ n) × (xs ≡ ys)
fields_once m n xs ys low high e =
    let cut = cut_once 32 (decimal m) (decimal n) (bits_text xs) (bits_text ys) (number_without_blank m low) (number_without_blank n high) e in
    (decimal_injective m n (omega (arith, low)) (omega (arith, high)) cut.0, bits_once xs ys cut.1)

pub line_once : (m n : ℕ) (xs ys : List Bool) (s t : Text) → m < 2 ^ 32 → n < 2 ^ 32 → log_line m xs ++ 10 ∷ s ≡ log_line n ys ++ 10 ∷ t → (m ≡ n) × ((xs ≡ ys) × (s ≡ t))
line_once m n xs ys s t low high e =
    let cut = cut_once 10 (log_line m xs) (log_line n ys) s t (line_without_feed m xs low) (line_without_feed n ys high) e in
    let both = fields_once m n xs ys low high cut.0 in
    (both.0, (both.1, cut.1))

pub tells_row : (width : ℕ) → TellsRow log_line width
tells_row width n row other rest more e =
    let behind = append_cancel_left (decimal n) (32 ∷ (bits_text row ++ 10 ∷ rest)) (32 ∷ (bits_text other ++ 10 ∷ more))
    (sym (append_assoc (decimal n) (32 ∷ bits_text row) (10 ∷ rest)) ∙ e ∙ append_assoc (decimal n) (32 ∷ bits_text other) (10 ∷ more)) in
    let cut = cut_once 10 (bits_text row) (bits_text other) rest more (bits_without_feed row) (bits_without_feed other) (tails behind).1 in
    (bits_once row other cut.0, cut.1)

-- a text that begins with a line isn't empty
line_stands : {text : Text} → FirstLogLine text → text ≡ [] → ⊥
line_stands line none = not_empty (log_line line.pattern line.bits) line.more 10 (sym line.begins.1 ∙ none)

one_first : {text : Text} (line other : FirstLogLine text) → line.pattern ≡ other.pattern
one_first line other = (line_once line.pattern other.pattern line.bits other.bits line.more other.more line.begins.0 other.begins.0 (sym line.begins.1 ∙ other.begins.1)).0

module _ (patterns positions : ℕ) (small : patterns < 2 ^ 32) where
  -- the line that a text begins with is the one that is known
  same_line : (n : ℕ) (bits : List Bool) (more : Text) → n < patterns → (line : FirstLogLine (log_line n bits ++ 10 ∷ more)) → (n ≡ line.pattern) × (bits ≡ line.bits)
  same_line n bits more below line =
      let same = line_once n line.pattern bits line.bits more line.more (omega (arith, below, small)) line.begins.0 line.begins.1 in
      (same.0, same.1.0)

  -- a right line is never refused
  right_line : (n : ℕ) (bits : List Bool) (more : Text) (kind : LogKind) → n < patterns → length bits ≡ positions → LogRestRefused patterns positions n (log_line n bits ++ 10 ∷ more) kind → ⊥
  right_line n bits more kind below wide (missing e l k) = not_empty (log_line n bits) more 10 e
  right_line n bits more kind below wide (no_line unreadable l k) = unreadable.none n bits more (omega (arith, below, small), refl)
  right_line n bits more kind below wide (too_many line all k) = omega (arith, below, all)
  right_line n bits more kind below wide (misplaced line l other k) = other (sym (same_line n bits more below line).0)
  right_line n bits more kind below wide (wrong_width line l same other k) = other (sym (ap (λ (xs : List Bool). length xs) (same_line n bits more below line).1) ∙ wide)

  rest_within : (n : ℕ) (rest : Text) (kind : LogKind) → LogRestRefused patterns positions n rest kind → n ≤ patterns
  rest_within n rest kind (missing e l k) = omega (arith, l)
  rest_within n rest kind (no_line unreadable l k) = l
  rest_within n rest kind (too_many line all k) = omega (arith, all)
  rest_within n rest kind (misplaced line l other k) = omega (arith, l)
  rest_within n rest kind (wrong_width line l same other k) = omega (arith, l)

  keeps_right : KeepsRight log_line positions (tells_row positions) (LogRestRefused patterns positions)
  keeps_right n m row more rest kind other before wide refused behind =
      right_line n row more kind (omega (arith, before, rest_within m rest other behind)) wide refused

  from_missing : (n : ℕ) (rest : Text) (kind : LogKind) → rest ≡ [] → n < patterns → LogRestRefused patterns positions n rest kind → kind ≡ Missing
  from_missing n rest kind none below (missing e l k) = k
  from_missing n rest kind none below (no_line unreadable l k) = absurd (unreadable.some none)
  from_missing n rest kind none below (too_many line all k) = absurd (omega (arith, below, all))
  from_missing n rest kind none below (misplaced line l other k) = absurd (line_stands line none)
  from_missing n rest kind none below (wrong_width line l same other k) = absurd (line_stands line none)

  from_no_line : (n : ℕ) (rest : Text) (kind : LogKind) → (rest ≡ [] → ⊥) → HasNoLine rest → LogRestRefused patterns positions n rest kind → kind ≡ Syntax
  from_no_line n rest kind some never (missing e l k) = absurd (some e)
  from_no_line n rest kind some never (no_line unreadable l k) = k
  from_no_line n rest kind some never (too_many line all k) = absurd (never line.pattern line.bits line.more line.begins)
  from_no_line n rest kind some never (misplaced line l other k) = absurd (never line.pattern line.bits line.more line.begins)
  from_no_line n rest kind some never (wrong_width line l same other k) = absurd (never line.pattern line.bits line.more line.begins)

  module _ (n : ℕ) (rest : Text) (kind : LogKind) (first : FirstLogLine rest) where
    from_too_many : n ≡ patterns → LogRestRefused patterns positions n rest kind → kind ≡ Order
    from_too_many all (missing e l k) = absurd (omega (arith, all, l))
    from_too_many all (no_line unreadable l k) = absurd (unreadable.none first.pattern first.bits first.more first.begins)
    from_too_many all (too_many line all' k) = k
    from_too_many all (misplaced line l other k) = k
    from_too_many all (wrong_width line l same other k) = absurd (omega (arith, all, l))

    from_misplaced : n < patterns → first.pattern ≢ n → LogRestRefused patterns positions n rest kind → kind ≡ Order
    from_misplaced below apart (missing e l k) = absurd (line_stands first e)
    from_misplaced below apart (no_line unreadable l k) = absurd (unreadable.none first.pattern first.bits first.more first.begins)
    from_misplaced below apart (too_many line all k) = k
    from_misplaced below apart (misplaced line l other k) = k
    from_misplaced below apart (wrong_width line l same other k) = absurd (apart (one_first first line ∙ same))

    from_wrong_width : n < patterns → first.pattern ≡ n → length first.bits ≢ positions → LogRestRefused patterns positions n rest kind → kind ≡ Width
    from_wrong_width below same wide (missing e l k) = absurd (line_stands first e)
    from_wrong_width below same wide (no_line unreadable l k) = absurd (unreadable.none first.pattern first.bits first.more first.begins)
    from_wrong_width below same wide (too_many line all k) = absurd (omega (arith, below, all))
    from_wrong_width below same wide (misplaced line l other k) = absurd (other (sym (one_first first line) ∙ same))
    from_wrong_width below same wide (wrong_width line l same' other k) = k

  one_rule : OneRule log_line positions (tells_row positions) (LogRestRefused patterns positions)
  one_rule n rest kind other (missing e l k) again = k ∙ sym (from_missing n rest other e l again)
  one_rule n rest kind other (no_line unreadable l k) again = k ∙ sym (from_no_line n rest other unreadable.some unreadable.none again)
  one_rule n rest kind other (too_many line all k) again = k ∙ sym (from_too_many n rest other line all again)
  one_rule n rest kind other (misplaced line l apart k) again = k ∙ sym (from_misplaced n rest other line l apart again)
  one_rule n rest kind other (wrong_width line l same wide k) again = k ∙ sym (from_wrong_width n rest other line l same wide again)

  pub log_refused_once : (text : Text) (kind other : LogKind) (line number : ℕ) → TesterLogRefused patterns positions text kind line → TesterLogRefused patterns positions text other number → (kind ≡ other) × (line ≡ number)
  log_refused_once = refused_once log_line positions (tells_row positions) (LogRestRefused patterns positions) one_rule keeps_right

  end_is_right : (n : ℕ) (kind : LogKind) → n ≡ patterns → LogRestRefused patterns positions n [] kind → ⊥
  end_is_right n kind all (missing e l k) = omega (arith, all, l)
  end_is_right n kind all (no_line unreadable l k) = unreadable.some refl
  end_is_right n kind all (too_many line all' k) = line_stands line refl
  end_is_right n kind all (misplaced line l other k) = omega (arith, all, l)
  end_is_right n kind all (wrong_width line l same other k) = omega (arith, all, l)

  pub log_refused_wrong : (text : Text) (observed : List (List Bool)) (kind : LogKind) (line : ℕ) → TesterLogRefused patterns positions text kind line → ¬ IsLog patterns positions text observed
  log_refused_wrong text observed kind line refused is =
      refused_wrong log_line positions (tells_row positions) (LogRestRefused patterns positions) text kind line observed refused is.short is.rows.width_is is.text_is
      (λ rest. end_is_right (length observed) kind is.rows.count_is rest)
      (λ n row more below wide rest. right_line n row more kind (omega (arith, below, is.rows.count_is)) wide rest)

pub log_read_once : (patterns positions : ℕ) (text : Text) (rows others : List (List Bool)) → IsLog patterns positions text rows → IsLog patterns positions text others → rows ≡ others
log_read_once patterns positions text rows others first second =
    rows_once log_line positions (tells_row positions) rows others first.rows.width_is second.rows.width_is (sym first.text_is ∙ second.text_is)

-- ---- a log that is read so far

-- The rows before `place` are those of the lines before `rest`.
pub record IsLogSoFar (patterns positions : ℕ) (text : Text) (place : ℕ) (observed : List (List Bool)) (rest : Text) : Type 0 where
  pub rows : AreRows patterns positions observed
  pub text_is : text ≡ lines_from log_line 0 (take place observed) ++ rest

pub log_more : (patterns positions : ℕ) (text : Text) (place : ℕ) (observed : List (List Bool)) (rest digits more : Text) → IsLogSoFar patterns positions text place observed rest → place < patterns → IsRightLogLine positions place rest digits more
    → IsLogSoFar patterns positions text (place + 1) (set observed place (digit_bits digits)) more
log_more patterns positions text place observed rest digits more so_far below right =
    let bits = digit_bits digits in
    let inside : place < length observed = omega (arith, below, so_far.rows.count_is) in
    let front : length (take place observed) ≡ place = length-take-le place observed (omega (arith, inside)) in record {
      rows = record {
        count_is = length-set observed place bits ∙ so_far.rows.count_is;
        width_is = All-set (λ row. length row ≡ positions) observed place bits (length-map digits (λ digit. eqb digit 49) ∙ right.width) so_far.rows.width_is;
      };
      text_is =
          so_far.text_is ∙ ap (λ (t : Text). lines_from log_line 0 (take place observed) ++ t) right.begins.1
          ∙ sym (lines_more log_line 0 (take place observed) bits place more (omega (arith, front)))
          ∙ ap (λ (rows : List (List Bool)). lines_from log_line 0 rows ++ more) (sym (take_more_set observed place bits inside));
    }

pub log_done : (patterns positions : ℕ) (text : Text) (place : ℕ) (observed : List (List Bool)) (rest : Text) → IsLogSoFar patterns positions text place observed rest → patterns ≤ place → length text ≤ text_limit → rest ≡ [] → IsLog patterns positions text observed
log_done patterns positions text place observed rest so_far past short none = record {
  short = short;
  rows = so_far.rows;
  text_is =
      so_far.text_is ∙ ap (λ (t : Text). lines_from log_line 0 (take place observed) ++ t) none ∙ append-nil (lines_from log_line 0 (take place observed))
      ∙ ap (λ (rows : List (List Bool)). lines_from log_line 0 rows) (take_all place observed (omega (arith, past, so_far.rows.count_is)));
}

pub log_refused : (patterns positions : ℕ) (text : Text) (place : ℕ) (observed : List (List Bool)) (rest : Text) (kind : LogKind) → IsLogSoFar patterns positions text place observed rest → place ≤ patterns → length text ≤ text_limit
    → LogRestRefused patterns positions place rest kind → TesterLogRefused patterns positions text kind (place + 1)
log_refused patterns positions text place observed rest kind so_far within short refused =
    let front : length (take place observed) ≡ place = length-take-le place observed (omega (arith, within, so_far.rows.count_is)) in
    at_line (take place observed) rest short (record { wide = All-take (λ row. length row ≡ positions) place observed so_far.rows.width_is; text_is = so_far.text_is })
    (subst (λ (k : ℕ). LogRestRefused patterns positions k rest kind) (sym front) refused) (omega (arith, front))

pub log_refused_at : (patterns positions : ℕ) (text : Text) (place : ℕ) (observed : List (List Bool)) (rest : Text) (kind : LogKind) → IsLogSoFar patterns positions text place observed rest → place ≡ patterns → length text ≤ text_limit
    → LogRestRefused patterns positions patterns rest kind → TesterLogRefused patterns positions text kind (patterns + 1)
log_refused_at patterns positions text place observed rest kind so_far same short refused =
    subst (λ (k : ℕ). TesterLogRefused patterns positions text kind (k + 1)) same
    (log_refused patterns positions text place observed rest kind so_far (omega (arith, same)) short (subst (λ (k : ℕ). LogRestRefused patterns positions k rest kind) (sym same) refused))

-- ---- what is after some lines, as the reader finds it

module _ (patterns positions before : ℕ) (rest : Text) where
  pub refuse_order : (pattern : ℕ) (digits more : Text) → BeginsWithLine rest pattern (digit_bits digits) more → before < patterns → (pattern ≡ before → ⊥) → LogRestRefused patterns positions before rest Order
  refuse_order pattern digits more begins below other = misplaced (record { pattern = pattern; bits = digit_bits digits; more = more; begins = begins }) below other refl

  pub refuse_more : (pattern : ℕ) (digits more : Text) → BeginsWithLine rest pattern (digit_bits digits) more → before ≡ patterns → LogRestRefused patterns positions before rest Order
  refuse_more pattern digits more begins all = too_many (record { pattern = pattern; bits = digit_bits digits; more = more; begins = begins }) all refl

  pub refuse_width : (pattern : ℕ) (digits more : Text) → BeginsWithLine rest pattern (digit_bits digits) more → before < patterns → pattern ≡ before → (length digits ≡ positions → ⊥) → LogRestRefused patterns positions before rest Width
  refuse_width pattern digits more begins below same other =
      wrong_width (record { pattern = pattern; bits = digit_bits digits; more = more; begins = begins }) below same (λ e. other (sym (length-map digits (λ digit. eqb digit 49)) ∙ e)) refl

-- ---- a line and its fields

-- a text without an LF begins with no line
pub no_feed : (text : Text) → ¬ Contains text 10 → HasNoLine text
no_feed text none pattern bits more begins = none (subst (λ (t : Text). Contains t 10) (sym begins.1) (Contains-append_right (log_line pattern bits) (10 ∷ more) 10 (0, omega arith, refl)))

-- if the first line has no fields, the text begins with no line
pub no_fields : (text line more : Text) → IsCutAt 10 text line more → ((pattern : ℕ) (bits : List Bool) → pattern < 2 ^ 32 → log_line pattern bits ≢ line) → HasNoLine text
no_fields text line more cut none pattern bits behind begins =
    none pattern bits begins.0 (sym (cut_once 10 line (log_line pattern bits) more behind cut.first (line_without_feed pattern bits begins.0) (sym cut.text_is ∙ begins.1)).0)

-- if a line has no blank, or no number before it, or no bits after it, no fields spell it
pub no_blank : (line : Text) → ¬ Contains line 32 → (pattern : ℕ) (bits : List Bool) → pattern < 2 ^ 32 → log_line pattern bits ≢ line
no_blank line none pattern bits small e = none (subst (λ (t : Text). Contains t 32) e (Contains-append_right (decimal pattern) (32 ∷ bits_text bits) 32 (0, omega arith, refl)))

pub no_number : (line number field : Text) → IsCutAt 32 line number field → ((n : ℕ) → n < 2 ^ 32 → decimal n ≢ number) → (pattern : ℕ) (bits : List Bool) → pattern < 2 ^ 32 → log_line pattern bits ≢ line
no_number line number field cut none pattern bits small e =
    none pattern small (cut_once 32 (decimal pattern) number (bits_text bits) field (number_without_blank pattern small) cut.first (e ∙ cut.text_is)).0

pub no_field : (line number field : Text) → IsCutAt 32 line number field → ((bits : List Bool) → bits_text bits ≢ field) → (pattern : ℕ) (bits : List Bool) → pattern < 2 ^ 32 → log_line pattern bits ≢ line
no_field line number field cut none pattern bits small e =
    none bits (cut_once 32 (decimal pattern) number (bits_text bits) field (number_without_blank pattern small) cut.first (e ∙ cut.text_is)).1
