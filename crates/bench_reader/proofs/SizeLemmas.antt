-- How many tokens, names and pins a text has.
use Rattle.std.proofs.Common.{◌≡◌, ℕ, suc, ◌+◌, ◌≤◌, Bool, true, false, List, [], ◌∷◌, length, refl, ap, arith, length-append, Option, None, Some}
use Rattle.std.specs.Prelude.{map, flat_map, not, sum_by, option_map, option_and_then, codes, ◌==◌, if◌then◌else◌}
use Rattle.std.specs.Str.{bytes_eq}
use Rattle.std.proofs.lemmas.List.{length-map}
use Rattle.std.proofs.lemmas.List.Sums.{sum_by-cons}
use Rattle.net_model.proofs.Elements.{length-filter-le}
use Rattle.text_fields.specs.Fields.{Text}
use Rattle.bench_reader.specs.Tokens.{without_comments, Piece, pieces, piece_length, placed_pieces, is_blank_piece, Token, tokens_of, open_bracket, close_bracket, comma_mark, equals_mark, name_run}
use Rattle.bench_reader.specs.Grammar.{Named, Driver, gate_driver, flip_flop_driver, driver_of, is_word, Phrase, input_phrase, output_phrase, gate_phrase, phrase_of, driver_pins, gate_pins, observed_phrase, driven_phrase, phrase_names}
use Rattle.bench_reader.specs.Reading.{distinct_names, names_of, statement_of, joined_tokens, ArePhrases}
use Rattle.bench_reader.specs.Driven.{statement_size}
use Rattle.bench_reader.specs.Netlist.{Netlist}
use Rattle.bench_reader.specs.Parsed.{IsParsed}
use Rattle.bench_reader.proofs.Pieces.{few_pieces}
use Rattle.bench_reader.proofs.DriverPins.{Pins, no_pins, some_pins, pins_are}

-- ---- tokens and bytes

placed_length : (byte : ℕ) (ps : List Piece) → length (placed_pieces byte ps) ≡ length ps
placed_length byte [] = refl
placed_length byte (p ∷ ps) = ap suc (placed_length (byte + piece_length p) ps)

plain_length : (inside : Bool) (text : Text) → length (without_comments inside text) ≡ length text
unfolding without_comments
plain_length true [] = refl
plain_length false [] = refl
plain_length true (b ∷ text) = elim (b == 10) as (λ t. length (if t then b ∷ without_comments false text else 32 ∷ without_comments true text) ≡ suc (length text)) [ true ↦ ap suc (plain_length false text) | false ↦ ap suc (plain_length true text) ]
plain_length false (b ∷ text) = elim (b == 35) as (λ t. length (if t then 32 ∷ without_comments true text else b ∷ without_comments false text) ≡ suc (length text)) [ true ↦ ap suc (plain_length true text) | false ↦ ap suc (plain_length false text) ]

pub few_tokens : (text : Text) → length (tokens_of text) ≤ length text
unfolding tokens_of
few_tokens text =
    let plain = without_comments false text in
    omega (arith, length-filter-le (λ token. not (is_blank_piece token.0)) (placed_pieces 0 (pieces plain)), placed_length 0 (pieces plain), few_pieces plain, plain_length false text)

-- ---- names and tokens

pins_size : (tokens : List Token) (pins : List Named) → gate_pins tokens ≡ Some pins → length pins ≤ length tokens
unfolding gate_pins
pins_size ((name_run text, at) ∷ (close_bracket, b) ∷ []) pins e = let f : (text, at) ∷ [] ≡ pins = cc in rw (← f) (omega arith)
pins_size ((name_run text, at) ∷ (comma_mark, b) ∷ tokens) pins e = by (gate_pins tokens) (pins_size tokens) e
  where
    by : (o : Option (List Named)) → ((ps : List Named) → o ≡ Some ps → length ps ≤ length tokens) → option_map (λ ps. (text, at) ∷ ps) o ≡ Some pins → length pins ≤ suc (suc (length tokens))
    by None more e = cc
    by (Some ps) more e = let f : (text, at) ∷ ps ≡ pins = cc in rw (← f) (omega (arith, more ps refl))
pins_size _ pins e = cc

-- a statement has at most `size` names, and its own size is at most `size`
pub record IsSmall (size : ℕ) (p : Phrase) : Type 0 where
  pub names : length (phrase_names p) ≤ size
  pub statement : (text : Text) (names : List Text) → statement_size (statement_of text names p) ≤ size

gate_size : (text : Text) (names : List Text) (size : ℕ) (n : Named) (driver : Driver) (w : Named) (pins : List Named) → suc (suc (length pins)) ≤ size → statement_size (statement_of text names (gate_phrase n driver w pins)) ≤ size
unfolding statement_of
gate_size text names size n (gate_driver kind) w pins h = simp length-map (omega (arith, h))
gate_size text names size n flip_flop_driver w pins h = omega (arith, h)

small_observed : (word : Text) (n : Named) (size : ℕ) (p : Phrase) → observed_phrase word n ≡ Some p → 1 ≤ size → IsSmall size p
unfolding observed_phrase statement_of
small_observed word n size p e h = by (is_word (codes "INPUT") word) (is_word (codes "OUTPUT") word) e
  where
    by : (s t : Bool) → (if s then Some (input_phrase n) else if t then Some (output_phrase n) else None) ≡ Some p → IsSmall size p
    by true t e = let g : input_phrase n ≡ p = cc in rw (← g) (record { names = h; statement = λ text names. h })
    by false true e = let g : output_phrase n ≡ p = cc in rw (← g) (record { names = h; statement = λ text names. h })
    by false false e = cc

driver_size : (driver : Driver) (tokens : List Token) (pins : List Named) → driver_pins driver tokens ≡ Some pins → length pins ≤ length tokens
driver_size driver tokens pins e = by (pins_are driver tokens pins e)
  where
    by : Pins driver tokens pins → length pins ≤ length tokens
    by (no_pins b e f) = rw f (omega arith)
    by (some_pins t m rest e f) = pins_size tokens pins f

small_driven : (n w : Named) (tokens : List Token) (size : ℕ) (p : Phrase) → driven_phrase n w tokens ≡ Some p → suc (suc (length tokens)) ≤ size → IsSmall size p
unfolding driven_phrase
small_driven n w tokens size p e h = by (driver_of w.0) e
  where
    in_driver : (driver : Driver) (o : Option (List Named)) → ((pins : List Named) → o ≡ Some pins → length pins ≤ length tokens) → option_map (gate_phrase n driver w) o ≡ Some p → IsSmall size p
    in_driver driver None more e = cc
    in_driver driver (Some pins) more e =
        let g : gate_phrase n driver w pins ≡ p = cc in
        let few : suc (suc (length pins)) ≤ size = omega (arith, h, more pins refl) in
        rw (← g) (record { names = omega (arith, few); statement = λ text names. gate_size text names size n driver w pins few })

    by : (d : Option Driver) → option_and_then (λ driver. option_map (gate_phrase n driver w) (driver_pins driver tokens)) d ≡ Some p → IsSmall size p
    by None e = cc
    by (Some driver) e = in_driver driver (driver_pins driver tokens) (λ pins f. driver_size driver tokens pins f) e

pub small_phrase : (group : List Token) (p : Phrase) → phrase_of group ≡ Some p → IsSmall (length group) p
unfolding phrase_of
small_phrase ((name_run word, a) ∷ (open_bracket, b) ∷ (name_run text, at) ∷ (close_bracket, d) ∷ []) p e = small_observed word (text, at) 4 p e (omega arith)
small_phrase ((name_run text, at) ∷ (equals_mark, b) ∷ (name_run word, w) ∷ (open_bracket, d) ∷ tokens) p e = small_driven (text, at) (word, w) tokens (suc (suc (suc (suc (length tokens))))) p e (omega arith)
small_phrase _ p e = cc

pub few_in_groups : (groups : List (List Token)) (phrases : List Phrase) → ArePhrases groups phrases → length (flat_map phrase_names phrases) ≤ length (joined_tokens groups)
few_in_groups [] [] a = omega arith
few_in_groups [] (p ∷ ps) a = absurd a
few_in_groups (g ∷ gs) [] a = absurd a
few_in_groups (g ∷ gs) (p ∷ ps) a = omega (arith, length-append (phrase_names p) (flat_map phrase_names ps), length-append g (joined_tokens gs), (small_phrase g p a.0.0).names, few_in_groups gs ps a.1)

pub small_in_groups : (text : Text) (names : List Text) (groups : List (List Token)) (phrases : List Phrase) → ArePhrases groups phrases → sum_by statement_size (map (statement_of text names) phrases) ≤ length (joined_tokens groups)
small_in_groups text names [] [] a = omega arith
small_in_groups text names [] (p ∷ ps) a = absurd a
small_in_groups text names (g ∷ gs) [] a = absurd a
small_in_groups text names (g ∷ gs) (p ∷ ps) a =
    omega (arith, sum_by-cons statement_size (statement_of text names p) (map (statement_of text names) ps), length-append g (joined_tokens gs), (small_phrase g p a.0.0).statement text names, small_in_groups text names gs ps a.1)

pub distinct_length : (xs : List Text) → length (distinct_names xs) ≤ length xs
distinct_length [] = omega arith
distinct_length (x ∷ xs) = omega (arith, length-filter-le (λ other. not (bytes_eq x other)) (distinct_names xs), distinct_length xs)

pub few_names_of : (groups : List (List Token)) (phrases : List Phrase) → ArePhrases groups phrases → length (names_of phrases) ≤ length (joined_tokens groups)
unfolding names_of
few_names_of groups phrases a =
    let names = flat_map phrase_names phrases in
    omega (arith, distinct_length (map (λ n. n.0) names), length-map names (λ n. n.0), few_in_groups groups phrases a)

-- ---- what is parsed

pub few_names : (text : Text) (n : Netlist) → IsParsed text n → length n.names ≤ length text
few_names text n p = let e : length n.names ≡ length (names_of p.phrases) = ap (λ m. length m.names) p.netlist_is in
    omega (arith, e, few_names_of p.is_text.groups p.phrases p.is_text.each, ap length p.is_text.whole, few_tokens text)

pub small_statements : (text : Text) (n : Netlist) → IsParsed text n → sum_by statement_size n.statements ≤ length text
small_statements text n p = let e : sum_by statement_size n.statements ≡ sum_by statement_size (map (statement_of text (names_of p.phrases)) p.phrases) = ap (λ m. sum_by statement_size m.statements) p.netlist_is in
    omega (arith, e, small_in_groups text (names_of p.phrases) p.is_text.groups p.phrases p.is_text.each, ap length p.is_text.whole, few_tokens text)
