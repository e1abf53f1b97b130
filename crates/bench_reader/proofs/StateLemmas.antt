-- What a reader returns at each step of a statement.
use Rattle.std.proofs.Common.{◌≡◌, ◌∙◌, List, [], ◌∷◌, ◌++◌, length, refl, ap, sym, None, Some}
use Rattle.std.specs.Prelude.{◌≢◌, IsTrue}
use Rattle.std.proofs.lemmas.List.Elements.{All-nil, All-cons}
use Rattle.text_fields.specs.Fields.{Text}
use Rattle.bench_reader.specs.declared.fault.NetFault.{NetFault}
use Rattle.bench_reader.specs.declared.fault.NetFault.TheVariants.{At}
use Rattle.bench_reader.specs.declared.fault.NetKind.TheVariants as fault
use Rattle.bench_reader.specs.declared.fault.Place.{Place}
use Rattle.bench_reader.specs.declared.scanner.LexemeKind.TheVariants.{OpenBracket, CloseBracket, Equals, Name}
use Rattle.bench_reader.specs.declared.scanner.Lexeme.{Lexeme}
use Rattle.bench_reader.specs.declared.word.Driver as found
use Rattle.bench_reader.specs.declared.word.Port.{Port}
use Rattle.bench_reader.specs.declared.word.Port.TheVariants as says
use Rattle.bench_reader.specs.declared.shape.Shape.TheVariants as shape
use Rattle.bench_reader.specs.Tokens.{open_bracket, close_bracket, equals_mark, name_run, Token, line_of}
use Rattle.bench_reader.specs.Grammar.{Named, Driver, driver_of, Phrase, observed_phrase, has_right_pins}
use Rattle.bench_reader.specs.Scanning.{tokens_at, tokens_from, text_in, named_in, token_in, IsPlace, IsLexeme, IsNext}
use Rattle.bench_reader.specs.Shapes.{stop_kind, port_phrase, head_tokens, IsStatement}
use Rattle.bench_reader.specs.Stops.{StopsIn, in_token, IsStop}
use Rattle.bench_reader.proofs.ScanLemmas.{is_place}
use Rattle.bench_reader.proofs.StopLemmas.{stop_at, one_begins, one_partial, word_wrong, two_begins, two_partial, two_wrong, two_stop, three_begins, three_partial, three_wrong, three_stop, observed_whole, equals_begins, equals_partial, equals_wrong, equals_stop, gate_wrong, gate_begins, gate_partial, bracket_wrong, bracket_stop}

pub place_behind : (text : Text) (a : Lexeme) (place : Place) → IsLexeme text a → place.byte ≡ a.end → place.line ≡ a.place.line → IsPlace text place
place_behind text a place l b e = is_place text place (ap (line_of text) b ∙ l.line ∙ sym e)

-- the token of a lexeme of a known kind, and the tokens starting with it
pub name_token : (text : Text) (a : Lexeme) → a.kind ≡ Name → token_in text a ≡ (name_run (text_in text a), a.place.byte)
name_token text a e = rw e refl

-- ---- inputs and observed names

module _ (text : Text) (word bracket : Lexeme) (is_name : word.kind ≡ Name) (is_bracket : bracket.kind ≡ OpenBracket) where
  abbrev pub ObservedTokens : List Token
  ObservedTokens = token_in text word ∷ tokens_from text bracket

  abbrev pub two : List Token
  two = (name_run (text_in text word), word.place.byte) ∷ (open_bracket, bracket.place.byte) ∷ []

  two_are : ObservedTokens ≡ two ++ tokens_at text bracket.end
  two_are = rw (is_name, is_bracket) refl

  pub observed_unknown : ((n : Named) → observed_phrase (text_in text word) n ≡ None) → StopsIn (length text) ObservedTokens (fault.UnknownGate, word.place.byte)
  observed_unknown o = rw two_are (in_token ((name_run (text_in text word), word.place.byte) ∷ []) (open_bracket, bracket.place.byte) (tokens_at text bracket.end) refl (one_begins (text_in text word) word.place.byte) (word_wrong (text_in text word) word.place.byte bracket.place.byte o) (one_partial (text_in text word) word.place.byte) refl)

  module _ (port : Port) (is_port : (n : Named) → observed_phrase (text_in text word) n ≡ Some (port_phrase port n)) where
    observes : (n : Named) → (p : Phrase) × (observed_phrase (text_in text word) n ≡ Some p)
    observes n = (port_phrase port n, is_port n)

    pub observed_no_name : (name : Lexeme) (f : NetFault) → IsNext text bracket.end name → name.kind ≢ Name → f ≡ At (stop_kind name.kind) name.place → IsStop text ObservedTokens f
    observed_no_name name f next other is =
        stop_at text ObservedTokens two bracket.end name f next two_are is (λ e. cc) (two_begins (text_in text word) word.place.byte bracket.place.byte observes) (two_partial (text_in text word) word.place.byte bracket.place.byte)
        (two_wrong (text_in text word) word.place.byte bracket.place.byte name.kind (text_in text name) name.place.byte other) (two_stop (text_in text word) word.place.byte bracket.place.byte name.kind (text_in text name) name.place.byte)

    module _ (name : Lexeme) (next : IsNext text bracket.end name) (named : name.kind ≡ Name) where
      abbrev pub three : List Token
      three = (name_run (text_in text word), word.place.byte) ∷ (open_bracket, bracket.place.byte) ∷ (name_run (text_in text name), name.place.byte) ∷ []

      three_are : ObservedTokens ≡ three ++ tokens_at text name.end
      three_are = two_are ∙ rw (next.tokens, named) refl

      pub observed_no_close : (close : Lexeme) (f : NetFault) → IsNext text name.end close → close.kind ≢ CloseBracket → f ≡ At (stop_kind close.kind) close.place → IsStop text ObservedTokens f
      observed_no_close close f after other is =
          stop_at text ObservedTokens three name.end close f after three_are is (λ e. cc) (three_begins (text_in text word) word.place.byte bracket.place.byte (text_in text name) name.place.byte observes) (three_partial (text_in text word) word.place.byte bracket.place.byte (text_in text name) name.place.byte)
          (three_wrong (text_in text word) word.place.byte bracket.place.byte (text_in text name) name.place.byte close.kind (text_in text close) close.place.byte other) (three_stop (text_in text word) word.place.byte bracket.place.byte (text_in text name) name.place.byte close.kind (text_in text close) close.place.byte)

      pub observed_is : (close : Lexeme) (place : Place) → IsNext text name.end close → close.kind ≡ CloseBracket → place.byte ≡ close.end → place.line ≡ close.place.line → IsStatement text ObservedTokens (shape.Port port name, place)
      observed_is close place after closes b l = record {
        group = three ++ (close_bracket, close.place.byte) ∷ [];
        whole = three_are ∙ rw (after.tokens, closes, b) refl;
        is = observed_whole (text_in text word) word.place.byte bracket.place.byte (text_in text name) name.place.byte close.place.byte ∙ is_port (named_in text name);
        right = right port;
        names = All-cons (IsLexeme text) name [] next.lexeme (All-nil (IsLexeme text));
        place = place_behind text close place after.lexeme b l;
        within = rw b after.lexeme.within;
      }
        where
          right : (p : Port) → IsTrue (has_right_pins (port_phrase p (named_in text name)))
          right says.Input = refl
          right says.Output = refl

-- ---- the beginning of a gate

module _ (text : Text) (name equals : Lexeme) (is_name : name.kind ≡ Name) (is_equals : equals.kind ≡ Equals) where
  abbrev pub begun : List Token
  begun = (name_run (text_in text name), name.place.byte) ∷ (equals_mark, equals.place.byte) ∷ []

  abbrev pub GateTokens : List Token
  GateTokens = token_in text name ∷ tokens_from text equals

  begun_are : GateTokens ≡ begun ++ tokens_at text equals.end
  begun_are = rw (is_name, is_equals) refl

  pub gate_no_word : (word : Lexeme) (f : NetFault) → IsNext text equals.end word → word.kind ≢ Name → f ≡ At (stop_kind word.kind) word.place → IsStop text GateTokens f
  gate_no_word word f next other is =
      stop_at text GateTokens begun equals.end word f next begun_are is (λ e. cc) (equals_begins (text_in text name) name.place.byte equals.place.byte) (equals_partial (text_in text name) name.place.byte equals.place.byte)
      (equals_wrong (text_in text name) name.place.byte equals.place.byte word.kind (text_in text word) word.place.byte other) (equals_stop (text_in text name) name.place.byte equals.place.byte word.kind (text_in text word) word.place.byte other)

  module _ (word : Lexeme) (next : IsNext text equals.end word) (is_word : word.kind ≡ Name) where
    worded_are : GateTokens ≡ begun ++ (name_run (text_in text word), word.place.byte) ∷ tokens_at text word.end
    worded_are = begun_are ∙ rw (next.tokens, is_word) refl

    pub gate_unknown : driver_of (text_in text word) ≡ None → StopsIn (length text) GateTokens (fault.UnknownGate, word.place.byte)
    gate_unknown e = in_token begun (name_run (text_in text word), word.place.byte) (tokens_at text word.end) worded_are (equals_begins (text_in text name) name.place.byte equals.place.byte)
        (gate_wrong (text_in text name) name.place.byte equals.place.byte (text_in text word) word.place.byte e) (equals_partial (text_in text name) name.place.byte equals.place.byte) refl

    module _ (driver : Driver) (is_driver : driver_of (text_in text word) ≡ Some driver) where
      pub gate_no_bracket : (bracket : Lexeme) (f : NetFault) → IsNext text word.end bracket → bracket.kind ≢ OpenBracket → f ≡ At (stop_kind bracket.kind) bracket.place → IsStop text GateTokens f
      gate_no_bracket bracket f after other is =
          stop_at text GateTokens (begun ++ (name_run (text_in text word), word.place.byte) ∷ []) word.end bracket f after worded_are is (λ e. cc) (gate_begins (text_in text name) name.place.byte equals.place.byte (text_in text word) word.place.byte driver is_driver) (gate_partial (text_in text name) name.place.byte equals.place.byte (text_in text word) word.place.byte)
          (bracket_wrong (text_in text name) name.place.byte equals.place.byte (text_in text word) word.place.byte bracket.kind (text_in text bracket) bracket.place.byte other) (bracket_stop (text_in text name) name.place.byte equals.place.byte (text_in text word) word.place.byte bracket.kind (text_in text bracket) bracket.place.byte)

    pub gate_tokens : (driver : found.Driver) (bracket : Lexeme) → IsNext text word.end bracket → bracket.kind ≡ OpenBracket
        → GateTokens ≡ head_tokens text (record { name = name; equals = equals; word = word; driver = driver; bracket = bracket }) ++ tokens_at text bracket.end
    gate_tokens driver bracket after opens = worded_are ∙ rw (after.tokens, opens, is_name, is_equals, is_word) refl
