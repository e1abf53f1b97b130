-- Statements that can't go on, state by state.
use Rattle.std.proofs.Common.{◌≡◌, ◌∙◌, ℕ, List, [], ◌∷◌, ◌++◌, length, refl, ap, sym, None, Some}
use Rattle.std.specs.Prelude.{◌≢◌, codes}
use Rattle.std.proofs.lemmas.List.{append-nil}
use Rattle.text_fields.specs.Fields.{Text}
use Rattle.bench_reader.specs.declared.fault.NetFault.{NetFault}
use Rattle.bench_reader.specs.declared.fault.NetFault.TheVariants.{At}
use Rattle.bench_reader.specs.declared.scanner.LexemeKind.{LexemeKind}
use Rattle.bench_reader.specs.declared.scanner.LexemeKind.TheVariants.{OpenBracket, CloseBracket, Equals, Name, BadByte, End}
use Rattle.bench_reader.specs.declared.scanner.Lexeme.{Lexeme}
use Rattle.bench_reader.specs.Tokens.{open_bracket, close_bracket, equals_mark, name_run, Token}
use Rattle.bench_reader.specs.Grammar.{Named, Driver, driver_of, Phrase, input_phrase, gate_phrase, driver_pins, gate_pins, observed_phrase, driven_phrase, phrase_of, CanBegin}
use Rattle.bench_reader.specs.Refusal.{stop_of}
use Rattle.bench_reader.specs.Scanning.{tokens_at, tokens_with, tokens_from, lexeme_piece, text_in, token_in, IsPlace, IsNext}
use Rattle.bench_reader.specs.Shapes.{stop_kind}
use Rattle.bench_reader.specs.Stops.{StopsIn, in_token, in_end, IsStop}

stops : (size : ℕ) (tokens part : List Token) (kind : LexemeKind) (run : Text) (byte : ℕ) (more : List Token) → tokens ≡ part ++ tokens_with kind (lexeme_piece kind run, byte) more → (kind ≡ End → (part ≢ []) × (byte ≡ size))
    → CanBegin part → phrase_of part ≡ None → ¬ CanBegin (part ++ (lexeme_piece kind run, byte) ∷ []) → stop_of part (lexeme_piece kind run, byte) ≡ (stop_kind kind, byte) → StopsIn size tokens (stop_kind kind, byte)
stops size tokens part End run byte more e f b n w s =
    let all : tokens ≡ part = e ∙ append-nil part in
    let h = f refl in
    rw (h.1, all) (in_end h.0 b n refl)
stops size tokens part kind run byte more e f b n w s = in_token part (lexeme_piece kind run, byte) more e b w n (sym s)

-- a fault at a lexeme with which the tokens so far can't go on
pub stop_at : (text : Text) (tokens part : List Token) (from : ℕ) (a : Lexeme) (f : NetFault) → IsNext text from a → tokens ≡ part ++ tokens_at text from → f ≡ At (stop_kind a.kind) a.place
    → part ≢ [] → CanBegin part → phrase_of part ≡ None → ¬ CanBegin (part ++ token_in text a ∷ []) → stop_of part (token_in text a) ≡ (stop_kind a.kind, a.place.byte) → IsStop text tokens f
stop_at text tokens part from a f next e is some b n w s =
    rw is (next.lexeme.place, stops (length text) tokens part a.kind (text_in text a) a.place.byte (tokens_at text a.end) (e ∙ ap (λ ts. part ++ ts) next.tokens) (λ k. (some, next.lexeme.end k)) b n w s)

pub nothing_begins : CanBegin []
unfolding phrase_of observed_phrase
nothing_begins = record { more = (name_run (codes "INPUT"), 0) ∷ (open_bracket, 0) ∷ (name_run [], 0) ∷ (close_bracket, 0) ∷ []; phrase = input_phrase ([], 0); is = refl }

pub nothing_partial : phrase_of [] ≡ None
unfolding phrase_of
nothing_partial = refl

-- the same if nothing comes before
pub stop_first : (text : Text) (a : Lexeme) (f : NetFault) → IsPlace text a.place → f ≡ At (stop_kind a.kind) a.place → a.kind ≢ End → a.kind ≢ Name → IsStop text (tokens_from text a) f
unfolding phrase_of
stop_first text a f p is some other = rw is (p, stops (length text) (tokens_from text a) [] a.kind (text_in text a) a.place.byte (tokens_at text a.end) refl (λ k. absurd (some k)) nothing_begins nothing_partial (wrong a.kind (text_in text a) a.place.byte other) (stop a.kind (text_in text a) a.place.byte))
  where
    wrong : (kind : LexemeKind) (run : Text) (byte : ℕ) → kind ≢ Name → ¬ CanBegin ((lexeme_piece kind run, byte) ∷ [])
    wrong Name run byte h c = h refl
    wrong _ run byte h c = let e = c.is in cc

    stop : (kind : LexemeKind) (run : Text) (byte : ℕ) → stop_of [] (lexeme_piece kind run, byte) ≡ (stop_kind kind, byte)
    stop BadByte run byte = refl
    stop _ run byte = refl

-- ---- a name

module _ (w : Text) (a : ℕ) where
  pub one_begins : CanBegin ((name_run w, a) ∷ [])
  unfolding phrase_of driven_phrase driver_of driver_pins gate_pins
  one_begins = record { more = (equals_mark, 0) ∷ (name_run (codes "AND"), 0) ∷ (open_bracket, 0) ∷ (name_run [], 0) ∷ (close_bracket, 0) ∷ []; phrase = _; is = refl }

  pub one_partial : phrase_of ((name_run w, a) ∷ []) ≡ None
  unfolding phrase_of
  one_partial = refl

  pub one_wrong : (kind : LexemeKind) (run : Text) (byte : ℕ) → kind ≢ OpenBracket → kind ≢ Equals → ¬ CanBegin ((name_run w, a) ∷ (lexeme_piece kind run, byte) ∷ [])
  unfolding phrase_of
  one_wrong OpenBracket run byte g h c = g refl
  one_wrong Equals run byte g h c = h refl
  one_wrong _ run byte g h c = let e = c.is in cc

  pub one_stop : (kind : LexemeKind) (run : Text) (byte : ℕ) → kind ≢ OpenBracket → stop_of ((name_run w, a) ∷ []) (lexeme_piece kind run, byte) ≡ (stop_kind kind, byte)
  one_stop OpenBracket run byte g = absurd (g refl)
  one_stop _ run byte g = refl

-- ---- inputs and observed names

-- with a name in brackets the word forms a statement
abbrev pub Observes : Text → Type 0
Observes w = (n : Named) → (p : Phrase) × (observed_phrase w n ≡ Some p)

pub no_word : (w : Text) (a b : ℕ) (more : List Token) (p : Phrase) → ((n : Named) → observed_phrase w n ≡ None) → phrase_of ((name_run w, a) ∷ (open_bracket, b) ∷ more) ≡ Some p → ⊥
unfolding phrase_of
no_word w a b ((name_run text, at) ∷ (close_bracket, d) ∷ []) p o h = let n = o (text, at) in cc
no_word w a b _ p o h = cc

module _ (w : Text) (a b : ℕ) where
  -- an unknown word before an opening bracket
  pub word_wrong : ((n : Named) → observed_phrase w n ≡ None) → ¬ CanBegin ((name_run w, a) ∷ (open_bracket, b) ∷ [])
  word_wrong o c = no_word w a b c.more c.phrase o c.is

  pub two_begins : Observes w → CanBegin ((name_run w, a) ∷ (open_bracket, b) ∷ [])
  unfolding phrase_of
  two_begins o = let h = o ([], 0) in record { more = (name_run [], 0) ∷ (close_bracket, 0) ∷ []; phrase = h.0; is = h.1 }

  pub two_partial : phrase_of ((name_run w, a) ∷ (open_bracket, b) ∷ []) ≡ None
  unfolding phrase_of
  two_partial = refl

  pub two_wrong : (kind : LexemeKind) (run : Text) (byte : ℕ) → kind ≢ Name → ¬ CanBegin ((name_run w, a) ∷ (open_bracket, b) ∷ (lexeme_piece kind run, byte) ∷ [])
  unfolding phrase_of
  two_wrong Name run byte g c = g refl
  two_wrong _ run byte g c = let e = c.is in cc

  pub two_stop : (kind : LexemeKind) (run : Text) (byte : ℕ) → stop_of ((name_run w, a) ∷ (open_bracket, b) ∷ []) (lexeme_piece kind run, byte) ≡ (stop_kind kind, byte)
  two_stop BadByte run byte = refl
  two_stop _ run byte = refl

  module _ (n : Text) (m : ℕ) where
    pub three_begins : Observes w → CanBegin ((name_run w, a) ∷ (open_bracket, b) ∷ (name_run n, m) ∷ [])
    unfolding phrase_of
    three_begins o = let h = o (n, m) in record { more = (close_bracket, 0) ∷ []; phrase = h.0; is = h.1 }

    pub three_partial : phrase_of ((name_run w, a) ∷ (open_bracket, b) ∷ (name_run n, m) ∷ []) ≡ None
    unfolding phrase_of
    three_partial = refl

    pub three_wrong : (kind : LexemeKind) (run : Text) (byte : ℕ) → kind ≢ CloseBracket → ¬ CanBegin ((name_run w, a) ∷ (open_bracket, b) ∷ (name_run n, m) ∷ (lexeme_piece kind run, byte) ∷ [])
    unfolding phrase_of
    three_wrong CloseBracket run byte g c = g refl
    three_wrong _ run byte g c = let e = c.is in cc

    pub three_stop : (kind : LexemeKind) (run : Text) (byte : ℕ) → stop_of ((name_run w, a) ∷ (open_bracket, b) ∷ (name_run n, m) ∷ []) (lexeme_piece kind run, byte) ≡ (stop_kind kind, byte)
    three_stop BadByte run byte = refl
    three_stop _ run byte = refl

    pub observed_whole : (close : ℕ) → phrase_of ((name_run w, a) ∷ (open_bracket, b) ∷ (name_run n, m) ∷ (close_bracket, close) ∷ []) ≡ observed_phrase w (n, m)
    unfolding phrase_of
    observed_whole close = refl

-- ---- the beginning of a gate

module _ (n : Text) (a b : ℕ) where
  pub equals_begins : CanBegin ((name_run n, a) ∷ (equals_mark, b) ∷ [])
  unfolding phrase_of driven_phrase driver_of driver_pins gate_pins
  equals_begins = record { more = (name_run (codes "AND"), 0) ∷ (open_bracket, 0) ∷ (name_run [], 0) ∷ (close_bracket, 0) ∷ []; phrase = _; is = refl }

  pub equals_wrong : (kind : LexemeKind) (run : Text) (byte : ℕ) → kind ≢ Name → ¬ CanBegin ((name_run n, a) ∷ (equals_mark, b) ∷ (lexeme_piece kind run, byte) ∷ [])
  unfolding phrase_of
  equals_wrong Name run byte g c = g refl
  equals_wrong _ run byte g c = let e = c.is in cc

  pub equals_partial : phrase_of ((name_run n, a) ∷ (equals_mark, b) ∷ []) ≡ None
  unfolding phrase_of
  equals_partial = refl

  pub equals_stop : (kind : LexemeKind) (run : Text) (byte : ℕ) → kind ≢ Name → stop_of ((name_run n, a) ∷ (equals_mark, b) ∷ []) (lexeme_piece kind run, byte) ≡ (stop_kind kind, byte)
  equals_stop Name run byte g = absurd (g refl)
  equals_stop _ run byte g = refl

  module _ (word : Text) (w : ℕ) where
    pub no_gate : (more : List Token) (p : Phrase) → driver_of word ≡ None → phrase_of ((name_run n, a) ∷ (equals_mark, b) ∷ (name_run word, w) ∷ more) ≡ Some p → ⊥
    unfolding phrase_of driven_phrase
    no_gate ((open_bracket, d) ∷ tokens) p e h = let f = rw e at h in cc
    no_gate _ p e h = cc

    pub gate_wrong : driver_of word ≡ None → ¬ CanBegin ((name_run n, a) ∷ (equals_mark, b) ∷ (name_run word, w) ∷ [])
    gate_wrong e c = no_gate c.more c.phrase e c.is

    pub gate_begins : (driver : Driver) → driver_of word ≡ Some driver → CanBegin ((name_run n, a) ∷ (equals_mark, b) ∷ (name_run word, w) ∷ [])
    unfolding phrase_of driven_phrase driver_pins gate_pins
    gate_begins driver e = record { more = (open_bracket, 0) ∷ (name_run [], 0) ∷ (close_bracket, 0) ∷ []; phrase = gate_phrase (n, a) driver (word, w) (([], 0) ∷ []); is = rw e refl }

    pub bracket_wrong : (kind : LexemeKind) (run : Text) (byte : ℕ) → kind ≢ OpenBracket → ¬ CanBegin ((name_run n, a) ∷ (equals_mark, b) ∷ (name_run word, w) ∷ (lexeme_piece kind run, byte) ∷ [])
    unfolding phrase_of
    bracket_wrong OpenBracket run byte g c = g refl
    bracket_wrong _ run byte g c = let e = c.is in cc

    pub gate_partial : phrase_of ((name_run n, a) ∷ (equals_mark, b) ∷ (name_run word, w) ∷ []) ≡ None
    unfolding phrase_of
    gate_partial = refl

    pub bracket_stop : (kind : LexemeKind) (run : Text) (byte : ℕ) → stop_of ((name_run n, a) ∷ (equals_mark, b) ∷ (name_run word, w) ∷ []) (lexeme_piece kind run, byte) ≡ (stop_kind kind, byte)
    bracket_stop BadByte run byte = refl
    bracket_stop _ run byte = refl

-- a name after which nothing can go on
pub stop_second : (text : Text) (word a : Lexeme) (f : NetFault) → word.kind ≡ Name → IsNext text word.end a → a.kind ≢ OpenBracket → a.kind ≢ Equals → f ≡ At (stop_kind a.kind) a.place → IsStop text (tokens_from text word) f
stop_second text word a f e next g h is =
    stop_at text (tokens_from text word) ((name_run (text_in text word), word.place.byte) ∷ []) word.end a f next (rw e refl) is (λ e. cc) (one_begins (text_in text word) word.place.byte) (one_partial (text_in text word) word.place.byte)
    (one_wrong (text_in text word) word.place.byte a.kind (text_in text a) a.place.byte g h) (one_stop (text_in text word) word.place.byte a.kind (text_in text a) a.place.byte g)

-- the tokens starting with a name, by the lexeme after it
pub name_first : (text : Text) (word a : Lexeme) → word.kind ≡ Name → IsNext text word.end a → tokens_from text word ≡ token_in text word ∷ tokens_from text a
name_first text word a e next = rw e (ap (λ ts. (name_run (text_in text word), word.place.byte) ∷ ts) next.tokens)
