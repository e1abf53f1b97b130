-- What a text that spells statements reads as.
use Rattle.std.proofs.Common.{◌≡◌, ◌∙◌, ◌≢◌, ℕ, ◌+◌, ◌<◌, ◌≤◌, inl, inr, Bool, true, false, not, List, [], ◌∷◌, ◌++◌, length, get_or, take, refl, sym, ap, subst, arith, None, Some, length-take, get_or-take}
use Rattle.std.specs.Prelude.{map, filter_map, flat_map, find, All, AllPairs, Contains, IsTrue, codes, option_map, if◌then◌else◌}
use Rattle.std.specs.List.{AllZip, enumerate_from}
use Rattle.std.specs.Str.{bytes_eq}
use Rattle.std.proofs.lemmas.Bool.{cases_Bool, eqb-true}
use Rattle.std.proofs.lemmas.List.{map-append, length-map, get_or-map, get_or_default}
use Rattle.std.proofs.lemmas.List.Elements.{All-nil, All-cons, All-head, All-tail, All-weaker}
use Rattle.std.proofs.lemmas.List.Folds.{list_any_none, list_any_at}
use Rattle.std.proofs.lemmas.Slice.Eq.{bytes_eq-Decides}
use Rattle.text_fields.specs.Fields.{Text}
use Rattle.bench_reader.specs.declared.reading.TheConstants.{NETLIST_LIMIT}
use Rattle.bench_reader.specs.Netlist.{Netlist}
use Rattle.bench_reader.specs.Tokens.{Piece, open_bracket, close_bracket, comma_mark, equals_mark, name_run, Token, tokens_of}
use Rattle.bench_reader.specs.Grammar.{Named, Driver, gate_driver, flip_flop_driver, driver_of, takes, Phrase, input_phrase, output_phrase, gate_phrase, phrase_of, gate_pins, driver_pins, observed_phrase, driven_phrase, has_right_pins, phrase_names}
use Rattle.bench_reader.specs.Reading.{distinct_names, names_of, is_among, driven_names, all_used_names, driven_twice, undriven, name_number, named_word, statement_with, statement_of, netlist_of, joined_tokens, ArePhrases, IsNetlist}
use Rattle.bench_reader.specs.Spelled.{Written, written_input, written_output, written_gate, written_driven, written_used, written_names, HasRightWord, AreRightTogether, spelled, spelled_pins, Spells, ReadsAs, IsAsWritten}
use Rattle.bench_reader.proofs.DriverPins.{name_first}
use Rattle.bench_reader.proofs.NumberLemmas.{find_none}

-- ---- tokens and their pieces

abbrev pub pieces_in : List Token → List Piece
pieces_in tokens = map (λ token. token.0) tokens

one_token : (tokens : List Token) (p : Piece) (ps : List Piece) → pieces_in tokens ≡ p ∷ ps → (at : ℕ) × (more : List Token) × (tokens ≡ (p, at) ∷ more) × (pieces_in more ≡ ps)
one_token [] p ps e = absurd (cc)
one_token (t ∷ ts) p ps e =
    let h : t.0 ≡ p = cc in
    let f : pieces_in ts ≡ ps = cc in
    (t.1, ts, ap (λ q. (q, t.1) ∷ ts) h, f)

no_token : (tokens : List Token) → pieces_in tokens ≡ [] → tokens ≡ []
no_token [] e = refl
no_token (t ∷ ts) e = absurd (cc)

split : (ps qs : List Piece) (tokens : List Token) → pieces_in tokens ≡ ps ++ qs → (group more : List Token) × (tokens ≡ group ++ more) × (pieces_in group ≡ ps) × (pieces_in more ≡ qs)
split [] qs tokens e = ([], tokens, refl, refl, e)
split (p ∷ ps) qs tokens e =
    let t = one_token tokens p (ps ++ qs) e in
    let s = split ps qs t.1 t.3 in
    ((p, t.0) ∷ s.0, s.1, t.2 ∙ ap (λ ts. (p, t.0) ∷ ts) s.2, ap (λ r. p ∷ r) s.3, s.4)

-- ---- one statement

-- the statement as which a phrase was written
abbrev pub written_of : Phrase → Written
written_of (input_phrase n) = written_input n.0
written_of (output_phrase n) = written_output n.0
written_of (gate_phrase n driver word pins) = written_gate n.0 word.0 (map (λ pin. pin.0) pins)

-- the word of a gate means what drives its name
abbrev pub HasWord : Phrase → Type 0
HasWord (input_phrase n) = Unit {0}
HasWord (output_phrase n) = Unit {0}
HasWord (gate_phrase n driver word pins) = driver_of word.0 ≡ Some driver

-- the tokens are those of a phrase that was written as `w`
record IsGroup (w : Written) (group : List Token) : Type 0 where
  phrase : Phrase
  is : phrase_of group ≡ Some phrase
  right : IsTrue (has_right_pins phrase)
  word : HasWord phrase
  written : written_of phrase ≡ w

read_pins : (pin : Text) (pins : List Text) (group : List Token) → pieces_in group ≡ spelled_pins (pin ∷ pins) → (ns : List Named) × (gate_pins group ≡ Some ns) × (map (λ n. n.0) ns ≡ pin ∷ pins)
unfolding gate_pins
read_pins pin [] group e =
    let t = one_token group (name_run pin) (close_bracket ∷ []) e in
    let u = one_token t.1 close_bracket [] t.3 in
    let whole : group ≡ (name_run pin, t.0) ∷ (close_bracket, u.0) ∷ [] = t.2 ∙ ap (λ ts. (name_run pin, t.0) ∷ ts) (u.2 ∙ ap (λ ts. (close_bracket, u.0) ∷ ts) (no_token u.1 u.3)) in
    ((pin, t.0) ∷ [], ap gate_pins whole, refl)
read_pins pin (other ∷ pins) group e =
    let t = one_token group (name_run pin) (comma_mark ∷ spelled_pins (other ∷ pins)) e in
    let u = one_token t.1 comma_mark (spelled_pins (other ∷ pins)) t.3 in
    let whole : group ≡ (name_run pin, t.0) ∷ (comma_mark, u.0) ∷ u.1 = t.2 ∙ ap (λ ts. (name_run pin, t.0) ∷ ts) u.2 in
    let rest = read_pins other pins u.1 u.3 in
    ((pin, t.0) ∷ rest.0, ap gate_pins whole ∙ ap (option_map (λ ns. (pin, t.0) ∷ ns)) rest.1, ap (λ ts. pin ∷ ts) rest.2)

read_driver_pins : (driver : Driver) (pins : List Text) (group : List Token) → pieces_in group ≡ spelled_pins pins → IsTrue (takes driver (length pins)) → (ns : List Named) × (driver_pins driver group ≡ Some ns) × (map (λ n. n.0) ns ≡ pins)
unfolding driver_pins
read_driver_pins driver [] group e right =
    let t = one_token group close_bracket [] e in
    let whole : group ≡ (close_bracket, t.0) ∷ [] = t.2 ∙ ap (λ ts. (close_bracket, t.0) ∷ ts) (no_token t.1 t.3) in
    ([], ap (driver_pins driver) whole ∙ ap (λ b. if b then Some [] else None) right, refl)
read_driver_pins driver (pin ∷ pins) group e right =
    let t = front pins e in
    let read = read_pins pin pins group e in
    (read.0, ap (driver_pins driver) t.2 ∙ name_first driver pin t.0 t.1 ∙ ap gate_pins (sym t.2) ∙ read.1, read.2)
  where
    front : (pins : List Text) → pieces_in group ≡ spelled_pins (pin ∷ pins) → (at : ℕ) × (more : List Token) × (group ≡ (name_run pin, at) ∷ more)
    front [] e = let t = one_token group (name_run pin) (close_bracket ∷ []) e in (t.0, t.1, t.2)
    front (other ∷ pins) e = let t = one_token group (name_run pin) (comma_mark ∷ spelled_pins (other ∷ pins)) e in (t.0, t.1, t.2)

-- the tokens of a port
read_port : (word n : Text) (group : List Token) → pieces_in group ≡ name_run word ∷ open_bracket ∷ name_run n ∷ close_bracket ∷ [] → (at : ℕ) × (phrase_of group ≡ observed_phrase word (n, at))
unfolding phrase_of
read_port word n group e =
    let t = one_token group (name_run word) (open_bracket ∷ name_run n ∷ close_bracket ∷ []) e in
    let u = one_token t.1 open_bracket (name_run n ∷ close_bracket ∷ []) t.3 in
    let v = one_token u.1 (name_run n) (close_bracket ∷ []) u.3 in
    let w = one_token v.1 close_bracket [] v.3 in
    (v.0, ap phrase_of (t.2 ∙ ap (λ ts. (name_run word, t.0) ∷ ts) (u.2 ∙ ap (λ ts. (open_bracket, u.0) ∷ ts) (v.2 ∙ ap (λ ts. (name_run n, v.0) ∷ ts) (w.2 ∙ ap (λ ts. (close_bracket, w.0) ∷ ts) (no_token w.1 w.3))))))

read_gate : (n word : Text) (pins : List Text) (group : List Token) → pieces_in group ≡ spelled (written_gate n word pins) → HasRightWord (written_gate n word pins) → IsGroup (written_gate n word pins) group
unfolding phrase_of driven_phrase
read_gate n word pins group e right =
    let t = one_token group (name_run n) (equals_mark ∷ name_run word ∷ open_bracket ∷ spelled_pins pins) e in
    let u = one_token t.1 equals_mark (name_run word ∷ open_bracket ∷ spelled_pins pins) t.3 in
    let v = one_token u.1 (name_run word) (open_bracket ∷ spelled_pins pins) u.3 in
    let w = one_token v.1 open_bracket (spelled_pins pins) v.3 in
    let read = read_driver_pins right.0 pins w.1 w.3 right.2 in
    let whole : group ≡ (name_run n, t.0) ∷ (equals_mark, u.0) ∷ (name_run word, v.0) ∷ (open_bracket, w.0) ∷ w.1 =
    t.2 ∙ ap (λ ts. (name_run n, t.0) ∷ ts) (u.2 ∙ ap (λ ts. (equals_mark, u.0) ∷ ts) (v.2 ∙ ap (λ ts. (name_run word, v.0) ∷ ts) w.2)) in
    record {
      phrase = gate_phrase (n, t.0) right.0 (word, v.0) read.0;
      is = ap phrase_of whole ∙ rw right.1 (ap (option_map (gate_phrase (n, t.0) right.0 (word, v.0))) read.1);
      right = rw (sym (length-map read.0 (λ (m : Named). m.0)) ∙ ap length read.2) right.2;
      word = right.1;
      written = ap (written_gate n word) read.2;
    }

read_group : (w : Written) (group : List Token) → pieces_in group ≡ spelled w → HasRightWord w → IsGroup w group
unfolding observed_phrase
read_group (written_input n) group e right = let p = read_port (codes "INPUT") n group e in record { phrase = input_phrase (n, p.0); is = p.1; right = refl; word = tt; written = refl }
read_group (written_output n) group e right = let p = read_port (codes "OUTPUT") n group e in record { phrase = output_phrase (n, p.0); is = p.1; right = refl; word = tt; written = refl }
read_group (written_gate n word pins) group e right = read_gate n word pins group e right

-- ---- all statements

-- each gate has its word and a right number of pins
abbrev AreWorded : List Phrase → Type 0
AreWorded [] = Unit {0}
AreWorded (p ∷ ps) = (HasWord p × IsTrue (has_right_pins p)) × AreWorded ps

record AreGroups (ws : List Written) (tokens : List Token) : Type 0 where
  groups : List (List Token)
  phrases : List Phrase
  whole : tokens ≡ joined_tokens groups
  each : ArePhrases groups phrases
  worded : AreWorded phrases
  written : map written_of phrases ≡ ws

read_groups : (ws : List Written) (tokens : List Token) → pieces_in tokens ≡ flat_map spelled ws → All HasRightWord ws → AreGroups ws tokens
read_groups [] tokens e right = record { groups = []; phrases = []; whole = no_token tokens e; each = tt; worded = tt; written = refl }
read_groups (w ∷ ws) tokens e right =
    let s = split (spelled w) (flat_map spelled ws) tokens e in
    let g = read_group w s.0 s.3 (All-head HasRightWord w ws right) in
    let more = read_groups ws s.1 s.4 (All-tail HasRightWord w ws right) in
    record {
      groups = s.0 ∷ more.groups;
      phrases = g.phrase ∷ more.phrases;
      whole = s.2 ∙ ap (λ ts. s.0 ++ ts) more.whole;
      each = ((g.is, g.right), more.each);
      worded = ((g.word, g.right), more.worded);
      written = rw (g.written, more.written) refl;
    }

-- ---- names

abbrev texts_of : List Named → List Text
texts_of names = map (λ (n : Named). n.0) names

driven_texts : (ps : List Phrase) → texts_of (driven_names ps) ≡ filter_map written_driven (map written_of ps)
driven_texts [] = refl
driven_texts (input_phrase n ∷ ps) = ap (λ ts. n.0 ∷ ts) (driven_texts ps)
driven_texts (output_phrase n ∷ ps) = driven_texts ps
driven_texts (gate_phrase n driver word pins ∷ ps) = ap (λ ts. n.0 ∷ ts) (driven_texts ps)

used_texts : (ps : List Phrase) → texts_of (all_used_names ps) ≡ flat_map written_used (map written_of ps)
used_texts [] = refl
used_texts (input_phrase n ∷ ps) = used_texts ps
used_texts (output_phrase n ∷ ps) = ap (λ ts. n.0 ∷ ts) (used_texts ps)
used_texts (gate_phrase n driver word pins ∷ ps) = map-append (λ (m : Named). m.0) pins (all_used_names ps) ∙ ap (λ ts. texts_of pins ++ ts) (used_texts ps)

name_texts : (ps : List Phrase) → texts_of (flat_map phrase_names ps) ≡ flat_map written_names (map written_of ps)
name_texts [] = refl
name_texts (input_phrase n ∷ ps) = ap (λ ts. n.0 ∷ ts) (name_texts ps)
name_texts (output_phrase n ∷ ps) = ap (λ ts. n.0 ∷ ts) (name_texts ps)
name_texts (gate_phrase n driver word pins ∷ ps) = ap (λ ts. n.0 ∷ ts) (map-append (λ (m : Named). m.0) pins (flat_map phrase_names ps) ∙ ap (λ ts. texts_of pins ++ ts) (name_texts ps))

-- ---- names that are driven once

other_bytes : (a b : Text) → a ≢ b → bytes_eq a b ≡ false
other_bytes a b differ = elim (cases_Bool (bytes_eq a b)) [ inl on ↦ absurd (differ ((bytes_eq-Decides a b).0 on)) | inr off ↦ off ]

module _ (ns : List Named) (once : AllPairs (λ a b. a ≢ b) (texts_of ns)) where
  fresh : (d : Named) (j : ℕ) → j < length ns → is_among (take j ns) (get_or ns j d).0 ≡ false
  fresh d j h = list_any_none (λ n. bytes_eq n.0 (get_or ns j d).0) (take j ns) each
    where
      text_at : (k : ℕ) → k < length ns → get_or (texts_of ns) k d.0 ≡ (get_or ns k d).0
      text_at k le = get_or-map (λ (n : Named). n.0) ns k d d.0 le

      each : All (λ n. bytes_eq n.0 (get_or ns j d).0 ≡ false) (take j ns)
      each k e le =
          let lt : k < j = omega (arith, le, length-take j ns, h) in
          let here : get_or (take j ns) k e ≡ get_or ns k e = get_or-take j ns k e lt in
          let same : get_or ns k e ≡ get_or ns k d = get_or_default ns k e d (omega (arith, lt, h)) in
          rw (here, same)
          (other_bytes (get_or ns k d).0 (get_or ns j d).0 (λ equal. once k j d.0 lt (omega (arith, h, length-map ns (λ (n : Named). n.0))) (text_at k (omega (arith, lt, h)) ∙ equal ∙ sym (text_at j h))))

  none_twice : option_map (λ x. x.1) (find (λ x. is_among (take x.0 ns) x.1.0) (enumerate_from 0 ns)) ≡ None
  none_twice =
      let d : Named = ([], 0) in
      find_none (λ x. is_among (take x.0 ns) x.1.0) ns 0 d (λ j h. let z : 0 + j ≡ j = omega arith in rw z (fresh d j h))

-- ---- names that are driven

none_fails : {X : Type 0} (p : X → Bool) (xs : List X) → All (λ x. p x ≡ false) xs → find p xs ≡ None
none_fails p [] each = refl
none_fails p (x ∷ xs) each = rw (All-head (λ y. p y ≡ false) x xs each) (none_fails p xs (All-tail (λ y. p y ≡ false) x xs each))

-- a text of one of these names is among them
among_texts : (ns : List Named) (text : Text) → Contains (texts_of ns) text → is_among ns text ≡ true
among_texts [] text (k, h, e) = absurd (omega (arith, h))
among_texts (n ∷ ns) text (k, h, e) =
    let below : k < length (n ∷ ns) = omega (arith, h, length-map (n ∷ ns) (λ (m : Named). m.0)) in
    let at : get_or (texts_of (n ∷ ns)) k text ≡ (get_or (n ∷ ns) k n).0 = get_or-map (λ (m : Named). m.0) (n ∷ ns) k n text below in
    let same : (get_or (n ∷ ns) k n).0 ≡ text = sym at ∙ e in
    list_any_at (λ m. bytes_eq m.0 text) (n ∷ ns) k n below ((bytes_eq-Decides (get_or (n ∷ ns) k n).0 text).1 same)

texts_driven : (driven : List Text) (ns : List Named) → All (Contains driven) (texts_of ns) → All (λ (n : Named). Contains driven n.0) ns
texts_driven driven [] each = All-nil (λ (n : Named). Contains driven n.0)
texts_driven driven (n ∷ ns) each = All-cons (λ (m : Named). Contains driven m.0) n ns (All-head (Contains driven) n.0 (texts_of ns) each) (texts_driven driven ns (All-tail (Contains driven) n.0 (texts_of ns) each))

none_missing : (driven used : List Named) → All (Contains (texts_of driven)) (texts_of used) → find (λ n. not (is_among driven n.0)) used ≡ None
none_missing driven used each =
    none_fails (λ n. not (is_among driven n.0)) used
    (All-weaker (λ (n : Named). Contains (texts_of driven) n.0) (λ n. not (is_among driven n.0) ≡ false) (λ n has. ap not (among_texts driven n.0 has)) used (texts_driven (texts_of driven) used each))

-- ---- statements

module _ (text : Text) (names : List Text) where
  numbers_of : (pins : List Named) → map (λ p. p.name) (map (named_word text names) pins) ≡ map (name_number names) (texts_of pins)
  numbers_of [] = refl
  numbers_of (pin ∷ pins) = ap (λ ns. name_number names pin.0 ∷ ns) (numbers_of pins)

  reads_one : (p : Phrase) → HasWord p × IsTrue (has_right_pins p) → ReadsAs names (written_of p) (statement_with (named_word text names) p)
  reads_one (input_phrase n) a = refl
  reads_one (output_phrase n) a = refl
  reads_one (gate_phrase n (gate_driver kind) word pins) a = (a.0, refl, numbers_of pins)
  reads_one (gate_phrase n flip_flop_driver word []) a = absurd (omega (arith, eqb-true 0 1 a.1))
  reads_one (gate_phrase n flip_flop_driver word (pin ∷ [])) a = (a.0, refl, refl)
  reads_one (gate_phrase n flip_flop_driver word (pin ∷ other ∷ pins)) a = absurd (omega (arith, eqb-true (length (pin ∷ other ∷ pins)) 1 a.1))

  reads_all : (ps : List Phrase) → AreWorded ps → AllZip (ReadsAs names) (map written_of ps) (map (statement_of text names) ps)
  unfolding statement_of
  reads_all [] a = tt
  reads_all (p ∷ ps) a = (reads_one p a.0, reads_all ps a.1)

pub accepted : (text : Text) (ws : List Written) → length text ≤ NETLIST_LIMIT → Spells text ws → AreRightTogether ws → (netlist : Netlist) × IsNetlist text netlist × IsAsWritten ws netlist
unfolding driven_twice undriven names_of
accepted text ws short spells right =
    let g = read_groups ws (tokens_of text) spells right.words in
    let ps = g.phrases in
    let driven : texts_of (driven_names ps) ≡ filter_map written_driven ws = driven_texts ps ∙ ap (filter_map written_driven) g.written in
    let used : texts_of (all_used_names ps) ≡ flat_map written_used ws = used_texts ps ∙ ap (flat_map written_used) g.written in
    let named : texts_of (flat_map phrase_names ps) ≡ flat_map written_names ws = name_texts ps ∙ ap (flat_map written_names) g.written in
    let once : AllPairs (λ a b. a ≢ b) (texts_of (driven_names ps)) = rw driven right.once in
    let all : All (Contains (texts_of (driven_names ps))) (texts_of (all_used_names ps)) = rw (driven, used) right.driven in (
      netlist_of text ps,
      record {
        phrases = ps;
        is_text = record { short = short; groups = g.groups; whole = g.whole; each = g.each };
        once = none_twice (driven_names ps) once;
        all_driven = none_missing (driven_names ps) (all_used_names ps) all;
        netlist_is = refl;
      },
      record {
        names = ap distinct_names named;
        each = subst (λ (vs : List Written). AllZip (ReadsAs (names_of ps)) vs (map (statement_of text (names_of ps)) ps)) g.written (reads_all text (names_of ps) ps g.worded);
      },
    )
