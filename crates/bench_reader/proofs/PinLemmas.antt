-- The pins of a gate, one after another.
use Rattle.std.proofs.Common.{◌≡◌, ◌∙◌, ℕ, ◌+◌, ◌<◌, true, false, List, [], ◌∷◌, ◌++◌, length, refl, ap, sym, append_assoc, arith, Option, None, Some}
use Rattle.std.specs.Prelude.{◌≢◌, map, option_map, All, Vec}
use Rattle.std.specs.declared.alloc.Global.{Global}
use Rattle.std.proofs.lemmas.List.{append-nil, map-append, length-map}
use Rattle.std.proofs.lemmas.List.Elements.{All-nil, All-cons, All-push}
use Rattle.text_fields.specs.Fields.{Text}
use Rattle.bench_reader.specs.declared.fault.NetFault.{NetFault}
use Rattle.bench_reader.specs.declared.fault.NetFault.TheVariants.{At}
use Rattle.bench_reader.specs.declared.fault.Place.{Place}
use Rattle.bench_reader.specs.declared.scanner.LexemeKind.{LexemeKind}
use Rattle.bench_reader.specs.declared.scanner.LexemeKind.TheVariants.{CloseBracket, Comma, Name, BadByte}
use Rattle.bench_reader.specs.declared.scanner.Lexeme.{Lexeme}
use Rattle.bench_reader.specs.declared.fault.NetKind.TheVariants.{WrongPins}
use Rattle.bench_reader.specs.declared.shape.Shape.TheVariants.{Gate}
use Rattle.bench_reader.specs.declared.shape.GateHead.{GateHead}
use Rattle.bench_reader.specs.Tokens.{open_bracket, close_bracket, comma_mark, equals_mark, name_run, Token}
use Rattle.bench_reader.specs.Grammar.{Named, Driver, gate_phrase, takes, gate_pins, driver_pins, driven_phrase, phrase_of, CanBegin}
use Rattle.bench_reader.specs.Refusal.{stop_of}
use Rattle.bench_reader.specs.Scanning.{tokens_at, lexeme_piece, text_in, named_in, token_in, IsLexeme, IsNext}
use Rattle.bench_reader.specs.Shapes.{stop_kind, driver_in, head_tokens, IsGateHead, ArePins, IsStatement}
use Rattle.bench_reader.specs.Stops.{StopsIn, in_pins, IsStop}
use Rattle.bench_reader.proofs.DriverPins.{name_first}
use Rattle.bench_reader.proofs.StopLemmas.{stop_at}
use Rattle.bench_reader.proofs.StateLemmas.{place_behind}

-- Up to a byte these pins are read, each with the comma after it, and a name follows.
pub record PinsSoFar (text : Text) (driver : Driver) (from : ℕ) (pins : List Lexeme) (byte : ℕ) : Type 0 where
  pub part : List Token
  pub whole : tokens_at text from ≡ part ++ tokens_at text byte
  pub ends : (t : Text) (m : ℕ) (more : List Token) → driver_pins driver (part ++ (name_run t, m) ∷ more) ≡ option_map (λ rest. map (named_in text) pins ++ rest) (gate_pins ((name_run t, m) ∷ more))
  pub names : All (IsLexeme text) pins

pub no_pins : (text : Text) (driver : Driver) (from : ℕ) → PinsSoFar text driver from [] from
no_pins text driver from = record { part = []; whole = refl; ends = λ t m more. name_first driver t m more ∙ by (gate_pins ((name_run t, m) ∷ more)); names = All-nil (IsLexeme text) }
  where
    by : (o : Option (List Named)) → o ≡ option_map (λ rest. [] ++ rest) o
    by None = refl
    by (Some pins) = refl

no_pin : (kind : LexemeKind) (run : Text) (byte : ℕ) (more : List Token) → kind ≢ Name → gate_pins ((lexeme_piece kind run, byte) ∷ more) ≡ None
unfolding gate_pins
no_pin Name run byte more g = absurd (g refl)
no_pin _ run byte more g = refl

-- what can't come first after the bracket
no_first : (driver : Driver) (kind : LexemeKind) (run : Text) (byte : ℕ) (more : List Token) → kind ≢ Name → (kind ≡ CloseBracket → takes driver 0 ≡ false) → driver_pins driver ((lexeme_piece kind run, byte) ∷ more) ≡ None
unfolding driver_pins gate_pins
no_first driver Name run byte more g h = absurd (g refl)
no_first driver CloseBracket run byte [] g h = rw (h refl) refl
no_first driver _ run byte [] g h = refl
no_first driver _ run byte (x ∷ more) g h = refl

no_mark : (t : Text) (m : ℕ) (kind : LexemeKind) (run : Text) (byte : ℕ) (more : List Token) → kind ≢ Comma → kind ≢ CloseBracket → gate_pins ((name_run t, m) ∷ (lexeme_piece kind run, byte) ∷ more) ≡ None
unfolding gate_pins
no_mark t m Comma run byte more g h = absurd (g refl)
no_mark t m CloseBracket run byte more g h = absurd (h refl)
no_mark t m _ run byte more g h = refl

module _ (text : Text) (head : GateHead) (h : IsGateHead text head) where
  abbrev pub begin : List Token
  begin = (name_run (text_in text head.name), head.name.place.byte) ∷ (equals_mark, head.equals.place.byte) ∷ (name_run (text_in text head.word), head.word.place.byte) ∷ (open_bracket, head.bracket.place.byte) ∷ []

  abbrev pub HeadTokens : List Token
  HeadTokens = head_tokens text head ++ tokens_at text head.bracket.end

  pub head_is : head_tokens text head ≡ begin
  head_is = rw (h.is_name, h.is_equals, h.is_word, h.is_bracket) refl

  abbrev pub driver : Driver
  driver = driver_in head.driver

  pub gate_is : (part : List Token) (pins : List Named) → driver_pins driver part ≡ Some pins → phrase_of (begin ++ part) ≡ Some (gate_phrase (named_in text head.name) (driver_in head.driver) (named_in text head.word) pins)
  unfolding phrase_of driven_phrase
  gate_is part pins e = rw (h.driver, e) refl

  no_gate : (part : List Token) → driver_pins driver part ≡ None → phrase_of (begin ++ part) ≡ None
  unfolding phrase_of driven_phrase
  no_gate part e = rw (h.driver, e) refl

  part_begins : (part more : List Token) (pins : List Named) → driver_pins driver (part ++ more) ≡ Some pins → CanBegin (begin ++ part)
  part_begins part more pins e = record { more = more; phrase = gate_phrase (named_in text head.name) (driver_in head.driver) (named_in text head.word) pins; is = gate_is (part ++ more) pins e }

  part_wrong : (part : List Token) (token : Token) → ((more : List Token) → driver_pins driver (part ++ token ∷ more) ≡ None) → ¬ CanBegin ((begin ++ part) ++ token ∷ [])
  part_wrong part token none c =
      let e : phrase_of (begin ++ (part ++ token ∷ []) ++ c.more) ≡ None = no_gate ((part ++ token ∷ []) ++ c.more) (rw append_assoc (none c.more)) in
      let f : phrase_of (((begin ++ part) ++ token ∷ []) ++ c.more) ≡ Some c.phrase = c.is in
      cc

  part_stop : (part : List Token) (kind : LexemeKind) (run : Text) (byte : ℕ) → stop_of (begin ++ part) (lexeme_piece kind run, byte) ≡ (stop_kind kind, byte)
  part_stop part BadByte run byte = refl
  part_stop part _ run byte = refl

  -- a lexeme with which the pins so far can't go on
  part_stops : (part : List Token) (byte : ℕ) (a : Lexeme) (f : NetFault) → tokens_at text head.bracket.end ≡ part ++ tokens_at text byte → (more : List Token) (pins : List Named) → driver_pins driver (part ++ more) ≡ Some pins → driver_pins driver part ≡ None
      → ((rest : List Token) → driver_pins driver (part ++ token_in text a ∷ rest) ≡ None) → IsNext text byte a → f ≡ At (stop_kind a.kind) a.place → IsStop text HeadTokens f
  part_stops part byte a f whole more pins begins none wrong next is =
      stop_at text HeadTokens (begin ++ part) byte a f next (ap (λ ts. ts ++ tokens_at text head.bracket.end) head_is ∙ ap (λ ts. begin ++ ts) whole) is (λ e. cc)
      (part_begins part more pins begins) (no_gate part none) (part_wrong part (token_in text a) wrong) (part_stop part a.kind (text_in text a) a.place.byte)

  -- a lexeme that can't come first
  pub first_wrong : (a : Lexeme) (f : NetFault) → IsNext text head.bracket.end a → a.kind ≢ Name → (a.kind ≡ CloseBracket → takes driver 0 ≡ false) → f ≡ At (stop_kind a.kind) a.place → IsStop text HeadTokens f
  unfolding gate_pins driver_pins
  first_wrong a f next other closes is =
      part_stops [] head.bracket.end a f refl ((name_run [], 0) ∷ (close_bracket, 0) ∷ []) (([], 0) ∷ []) refl refl (λ rest. no_first driver a.kind (text_in text a) a.place.byte rest other closes) next is

  -- the closing bracket of a gate that takes no pins
  pub none_done : (close : Lexeme) (place : Place) (found : Vec Lexeme Global) → found.items ≡ [] → IsNext text head.bracket.end close → close.kind ≡ CloseBracket → takes driver 0 ≡ true → place.byte ≡ close.end → place.line ≡ close.place.line → ArePins text head (found, place)
  unfolding driver_pins
  none_done close place found is next closes none b l = record {
    group = (close_bracket, close.place.byte) ∷ [];
    whole = rw (next.tokens, closes, b) refl;
    are = rw (none, is) refl;
    names = rw is (All-nil (IsLexeme text));
    place = place_behind text close place next.lexeme b l;
    within = rw b next.lexeme.within;
  }

  module _ (pins : List Lexeme) (byte : ℕ) (s : PinsSoFar text driver head.bracket.end pins byte) where
    module _ (pin : Lexeme) (next : IsNext text byte pin) (is_name : pin.kind ≡ Name) where
      abbrev pub pinned : List Token
      pinned = s.part ++ (name_run (text_in text pin), pin.place.byte) ∷ []

      pinned_whole : tokens_at text head.bracket.end ≡ pinned ++ tokens_at text pin.end
      pinned_whole = s.whole ∙ rw (next.tokens, is_name) (sym (append_assoc s.part ((name_run (text_in text pin), pin.place.byte) ∷ []) (tokens_at text pin.end)))

      pinned_ends : (more : List Token) → driver_pins driver (pinned ++ more) ≡ option_map (λ rest. map (named_in text) pins ++ rest) (gate_pins ((name_run (text_in text pin), pin.place.byte) ∷ more))
      pinned_ends more = ap (driver_pins driver) (append_assoc s.part ((name_run (text_in text pin), pin.place.byte) ∷ []) more) ∙ s.ends (text_in text pin) pin.place.byte more

      pub pins_no_mark : (mark : Lexeme) (f : NetFault) → IsNext text pin.end mark → mark.kind ≢ Comma → mark.kind ≢ CloseBracket → f ≡ At (stop_kind mark.kind) mark.place → IsStop text HeadTokens f
      unfolding gate_pins
      pins_no_mark mark f after g k is =
          part_stops pinned pin.end mark f pinned_whole ((close_bracket, 0) ∷ []) (map (named_in text) pins ++ named_in text pin ∷ []) (pinned_ends ((close_bracket, 0) ∷ [])) (rw append-nil at (pinned_ends []))
          (λ rest. pinned_ends (token_in text mark ∷ rest) ∙ rw (no_mark (text_in text pin) pin.place.byte mark.kind (text_in text mark) mark.place.byte rest g k) refl) after is

      module _ (mark : Lexeme) (after : IsNext text pin.end mark) (comma : mark.kind ≡ Comma) where
        abbrev pub parted : List Token
        parted = pinned ++ (comma_mark, mark.place.byte) ∷ []

        parted_whole : tokens_at text head.bracket.end ≡ parted ++ tokens_at text mark.end
        parted_whole = pinned_whole ∙ rw (after.tokens, comma) (sym (append_assoc pinned ((comma_mark, mark.place.byte) ∷ []) (tokens_at text mark.end)))

        join : (o : Option (List Named)) → option_map (λ rest. map (named_in text) pins ++ rest) (option_map (λ rest. named_in text pin ∷ rest) o) ≡ option_map (λ rest. map (named_in text) (pins ++ pin ∷ []) ++ rest) o
        join None = refl
        join (Some rest) = ap Some (sym (append_assoc (map (named_in text) pins) (named_in text pin ∷ []) rest) ∙ ap (λ ns. ns ++ rest) (sym (map-append (named_in text) pins (pin ∷ []))))

        parted_ends : (more : List Token) → driver_pins driver (parted ++ more) ≡ option_map (λ rest. map (named_in text) (pins ++ pin ∷ []) ++ rest) (gate_pins more)
        unfolding gate_pins
        parted_ends more = ap (driver_pins driver) (append_assoc pinned ((comma_mark, mark.place.byte) ∷ []) more) ∙ pinned_ends ((comma_mark, mark.place.byte) ∷ more) ∙ join (gate_pins more)

        pub pins_more : PinsSoFar text driver head.bracket.end (pins ++ pin ∷ []) mark.end
        pins_more = record { part = parted; whole = parted_whole; ends = λ t m more. parted_ends ((name_run t, m) ∷ more); names = All-push (IsLexeme text) pins pin s.names next.lexeme }

        pub pins_no_name : (a : Lexeme) (f : NetFault) → IsNext text mark.end a → a.kind ≢ Name → f ≡ At (stop_kind a.kind) a.place → IsStop text HeadTokens f
        unfolding gate_pins
        pins_no_name a f beyond other is =
            part_stops parted mark.end a f parted_whole ((name_run [], 0) ∷ (close_bracket, 0) ∷ []) (map (named_in text) (pins ++ pin ∷ []) ++ ([], 0) ∷ []) (parted_ends ((name_run [], 0) ∷ (close_bracket, 0) ∷ [])) (rw append-nil at (parted_ends []))
            (λ rest. parted_ends (token_in text a ∷ rest) ∙ rw (no_pin a.kind (text_in text a) a.place.byte rest other) refl) beyond is

        pub pins_fewer : (a : Lexeme) → IsNext text mark.end a → a.kind ≡ Name → length (tokens_at text a.end) < length (tokens_at text pin.end)
        pins_fewer a beyond named = let e : length (tokens_at text pin.end) ≡ length (tokens_at text a.end) + 2 = rw (after.tokens, comma, beyond.tokens, named) (omega arith) in omega (arith, e)

      pub pins_done : (mark : Lexeme) (place : Place) (found : Vec Lexeme Global) → found.items ≡ pins ++ pin ∷ [] → IsNext text pin.end mark → mark.kind ≡ CloseBracket → place.byte ≡ mark.end → place.line ≡ mark.place.line → ArePins text head (found, place)
      unfolding gate_pins
      pins_done mark place found is after closes b l = record {
        group = pinned ++ (close_bracket, mark.place.byte) ∷ [];
        whole = pinned_whole ∙ rw (after.tokens, closes, b) (sym (append_assoc pinned ((close_bracket, mark.place.byte) ∷ []) (tokens_at text mark.end)));
        are = pinned_ends ((close_bracket, mark.place.byte) ∷ []) ∙ ap Some (sym (ap (map (named_in text)) is ∙ map-append (named_in text) pins (pin ∷ [])));
        names = rw is (All-push (IsLexeme text) pins pin s.names next.lexeme);
        place = place_behind text mark place after.lexeme b l;
        within = rw b after.lexeme.within;
      }

  module _ (tokens : List Token) (same : tokens ≡ HeadTokens) (found : Vec Lexeme Global × Place) (a : ArePins text head found) where
    all_tokens : tokens ≡ (begin ++ a.group) ++ tokens_at text found.1.byte
    all_tokens = same ∙ ap (λ ts. ts ++ tokens_at text head.bracket.end) head_is ∙ ap (λ ts. begin ++ ts) a.whole

    same_count : length (map (named_in text) found.0.items) ≡ length found.0.items
    same_count = length-map found.0.items (named_in text)

    pub gate_refused : takes (driver_in head.driver) (length found.0.items) ≡ false → StopsIn (length text) tokens (WrongPins, head.word.place.byte)
    gate_refused e = in_pins (begin ++ a.group) (named_in text head.name) (driver_in head.driver) (named_in text head.word) (map (named_in text) found.0.items) (tokens_at text found.1.byte) all_tokens (gate_is a.group (map (named_in text) found.0.items) a.are) (ap (takes (driver_in head.driver)) same_count ∙ e) refl

    pub gate_whole : takes (driver_in head.driver) (length found.0.items) ≡ true → IsStatement text tokens (Gate head.name head.driver head.word found.0, found.1)
    gate_whole e = record {
      group = begin ++ a.group;
      whole = all_tokens;
      is = gate_is a.group (map (named_in text) found.0.items) a.are;
      right = ap (takes (driver_in head.driver)) same_count ∙ e;
      names = All-cons (IsLexeme text) head.name found.0.items h.name a.names;
      place = a.place;
      within = a.within;
    }
