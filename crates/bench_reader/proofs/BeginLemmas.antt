-- It is decidable whether some statement begins with given tokens.
use Rattle.std.proofs.Common.{◌≡◌, ℕ, true, false, List, [], ◌∷◌, ◌++◌, refl, ◌⊎◌, inl, inr, Option, None, Some}
use Rattle.std.specs.Prelude.{Bool, option_map, codes, if◌then◌else◌}
use Rattle.text_fields.specs.Fields.{Text}
use Rattle.bench_reader.specs.Tokens.{open_bracket, close_bracket, comma_mark, equals_mark, name_run, Token}
use Rattle.bench_reader.specs.Grammar.{Named, Driver, driver_of, takes, is_word, Phrase, input_phrase, output_phrase, gate_phrase, gate_pins, driver_pins, observed_phrase, driven_phrase, phrase_of, CanBegin}
use Rattle.bench_reader.proofs.DriverPins.{name_first, no_pins, some_pins, pins_are}
use Rattle.bench_reader.proofs.StopLemmas.{nothing_begins, one_begins, no_word, Observes, two_begins, three_begins, equals_begins, no_gate, gate_begins}

-- ---- pins

-- these tokens can be continued so that they are pins
abbrev pub Begins : (List Token → Option (List Named)) → List Token → Type 0
Begins form tokens = (more : List Token) × (pins : List Named) × (form (tokens ++ more) ≡ Some pins)

pins_begin : (tokens : List Token) → Dec (Begins gate_pins tokens)
unfolding gate_pins
pins_begin [] = yes ((name_run [], 0) ∷ (close_bracket, 0) ∷ [], ([], 0) ∷ [], refl)
pins_begin ((name_run t, m) ∷ []) = yes ((close_bracket, 0) ∷ [], (t, m) ∷ [], refl)
pins_begin ((name_run t, m) ∷ (close_bracket, b) ∷ []) = yes ([], (t, m) ∷ [], refl)
pins_begin ((name_run t, m) ∷ (comma_mark, b) ∷ tokens) = elim (pins_begin tokens) [ yes p ↦ yes (p.0, (t, m) ∷ p.1, rw p.2 refl) | no n ↦ no (λ p. n (by p.0 p.1 (gate_pins (tokens ++ p.0)) refl p.2)) ]
  where
    by : (more : List Token) (all : List Named) (o : Option (List Named)) → gate_pins (tokens ++ more) ≡ o → option_map (λ pins. (t, m) ∷ pins) o ≡ Some all → Begins gate_pins tokens
    by more all None e f = cc
    by more all (Some pins) e f = (more, pins, e)
pins_begin _ = no (λ p. let e = p.2 in cc)

driver_begins : (driver : Driver) (tokens : List Token) → Dec (Begins (driver_pins driver) tokens)
unfolding driver_pins gate_pins
driver_begins driver [] = yes ((name_run [], 0) ∷ (close_bracket, 0) ∷ [], ([], 0) ∷ [], refl)
driver_begins driver ((name_run t, m) ∷ tokens) =
    elim (pins_begin ((name_run t, m) ∷ tokens)) [ yes p ↦ yes (p.0, p.1, rw name_first p.2) | no n ↦ no (λ p. n (p.0, p.1, rw name_first at p.2)) ]
driver_begins driver ((close_bracket, b) ∷ []) = by (takes driver 0) refl
  where
    by : (none : Bool) → takes driver 0 ≡ none → Dec (Begins (driver_pins driver) ((close_bracket, b) ∷ []))
    by true e = yes ([], [], rw e refl)
    by false e = no (λ p. not_closed p.0 p.1 p.2)
      where
        not_closed : (more : List Token) (pins : List Named) → driver_pins driver ((close_bracket, b) ∷ more) ≡ Some pins → ⊥
        not_closed [] pins f = let g = rw e at f in cc
        not_closed (x ∷ more) pins f = cc
driver_begins driver (x ∷ tokens) = no (λ p. elim (pins_are driver (x ∷ (tokens ++ p.0)) p.1 p.2) [ no_pins b e f ↦ cc | some_pins t m more e f ↦ cc ])

-- ---- words

observes : (w : Text) → Observes w ⊎ ((n : Named) → observed_phrase w n ≡ None)
unfolding observed_phrase
observes w = by (is_word (codes "INPUT") w) (is_word (codes "OUTPUT") w)
  where
    by : (i o : Bool) → ((n : Named) → (p : Phrase) × ((if i then Some (input_phrase n) else if o then Some (output_phrase n) else None) ≡ Some p)) ⊎ ((n : Named) → (if i then Some (input_phrase n) else if o then Some (output_phrase n) else None) ≡ None)
    by true o = inl (λ n. (input_phrase n, refl))
    by false true = inl (λ n. (output_phrase n, refl))
    by false false = inr (λ n. refl)

-- ---- statements

port_begins : (w : Text) (a b : ℕ) (tokens : List Token) → Observes w → Dec (CanBegin ((name_run w, a) ∷ (open_bracket, b) ∷ tokens))
unfolding phrase_of
port_begins w a b [] o = yes (two_begins w a b o)
port_begins w a b ((name_run n, m) ∷ []) o = yes (three_begins w a b n m o)
port_begins w a b ((name_run n, m) ∷ (close_bracket, c) ∷ []) o = let h = o (n, m) in yes (record { more = []; phrase = h.0; is = h.1 })
port_begins w a b _ o = no (λ c. let e = c.is in cc)

gate_goes_on : (n : Text) (a b : ℕ) (w : Text) (m d : ℕ) (tokens : List Token) (driver : Driver) → driver_of w ≡ Some driver → Dec (CanBegin ((name_run n, a) ∷ (equals_mark, b) ∷ (name_run w, m) ∷ (open_bracket, d) ∷ tokens))
unfolding phrase_of driven_phrase
gate_goes_on n a b w m d tokens driver e =
    elim (driver_begins driver tokens) [
      | yes p ↦ yes (record { more = p.0; phrase = gate_phrase (n, a) driver (w, m) p.1; is = rw (e, p.2) refl })
      | no g ↦ no (λ c. let f = rw e at c.is in g (by c.more c.phrase (driver_pins driver (tokens ++ c.more)) refl f))
    ]
  where
    by : (more : List Token) (p : Phrase) (o : Option (List Named)) → driver_pins driver (tokens ++ more) ≡ o → option_map (gate_phrase (n, a) driver (w, m)) o ≡ Some p → Begins (driver_pins driver) tokens
    by more p None e f = cc
    by more p (Some pins) e f = (more, pins, e)

gate_decided : (n : Text) (a b : ℕ) (w : Text) (m : ℕ) (tokens : List Token) (found : Option Driver) → driver_of w ≡ found → Dec (CanBegin ((name_run n, a) ∷ (equals_mark, b) ∷ (name_run w, m) ∷ tokens))
unfolding phrase_of
gate_decided n a b w m tokens None e = no (λ c. no_gate n a b w m (tokens ++ c.more) c.phrase e c.is)
gate_decided n a b w m [] (Some driver) e = yes (gate_begins n a b w m driver e)
gate_decided n a b w m ((open_bracket, d) ∷ tokens) (Some driver) e = gate_goes_on n a b w m d tokens driver e
gate_decided n a b w m _ (Some driver) e = no (λ c. let f = c.is in cc)

pub can_begin : (tokens : List Token) → Dec (CanBegin tokens)
unfolding phrase_of
can_begin [] = yes nothing_begins
can_begin ((name_run w, a) ∷ []) = yes (one_begins w a)
can_begin ((name_run w, a) ∷ (open_bracket, b) ∷ tokens) = elim (observes w) [ inl o ↦ port_begins w a b tokens o | inr o ↦ no (λ c. no_word w a b (tokens ++ c.more) c.phrase o c.is) ]
can_begin ((name_run n, a) ∷ (equals_mark, b) ∷ []) = yes (equals_begins n a b)
can_begin ((name_run n, a) ∷ (equals_mark, b) ∷ (name_run w, m) ∷ tokens) = gate_decided n a b w m tokens (driver_of w) refl
can_begin _ = no (λ c. let e = c.is in cc)
