-- Tokens are statements in one way, and stop in one way.
use Rattle.std.proofs.Common.{◌≡◌, ◌∙◌, ℕ, false, List, [], ◌∷◌, ◌++◌, length, refl, sym, ap, append_assoc, ◌⊎◌, inl, inr, Option, None, Some}
use Rattle.std.specs.Prelude.{option_map, option_and_then, IsTrue}
use Rattle.std.proofs.lemmas.List.{append-nil}
use Rattle.text_fields.specs.Fields.{Text}
use Rattle.bench_reader.specs.declared.fault.NetKind.{NetKind}
use Rattle.bench_reader.specs.Tokens.{Token, open_bracket, close_bracket, comma_mark, equals_mark, name_run, tokens_of}
use Rattle.bench_reader.specs.Grammar.{Named, Driver, Phrase, gate_phrase, driver_of, driver_pins, gate_pins, driven_phrase, phrase_of, has_right_pins, CanBegin}
use Rattle.bench_reader.specs.Reading.{joined_tokens, ArePhrases, IsText}
use Rattle.bench_reader.specs.Refusal.{stop_of, StopsAt, at_token, at_end, at_pins}
use Rattle.bench_reader.specs.Stops.{StopsIn, in_token, in_end, in_pins}
use Rattle.bench_reader.proofs.DriverPins.{name_first, Pins, no_pins, some_pins, pins_are}

-- ---- lists that agree if they are joined

-- the first list begins with the second, or the second continues after the first
abbrev pub Compared : List Token → List Token → List Token → List Token → Type 0
Compared xs ys zs ws = ((t : List Token) × (xs ≡ zs ++ t) × (ws ≡ t ++ ys)) ⊎ ((a : Token) × ((t : List Token) × (zs ≡ xs ++ a ∷ t) × (ys ≡ a ∷ t ++ ws)))

pub compare : (xs ys zs ws : List Token) → xs ++ ys ≡ zs ++ ws → Compared xs ys zs ws
compare xs ys [] ws e = inl (xs, refl, sym e)
compare [] ys (z ∷ zs) ws e = inr (z, (zs, refl, e))
compare (x ∷ xs) ys (z ∷ zs) ws e =
    let h : x ≡ z = cc in
    let f : xs ++ ys ≡ zs ++ ws = cc in
    elim (compare xs ys zs ws f) [ inl a ↦ inl (a.0, rw (h, a.1) refl, a.2) | inr b ↦ inr (b.0, (b.1.0, rw (h, b.1.1) refl, b.1.2)) ]

-- ---- no statement begins another

pins_end : (tokens : List Token) (x : Token) (more : List Token) (pins : List Named) → gate_pins tokens ≡ Some pins → gate_pins (tokens ++ x ∷ more) ≡ None
unfolding gate_pins
pins_end ((name_run text, at) ∷ (close_bracket, b) ∷ []) x more pins e = refl
pins_end ((name_run text, at) ∷ (comma_mark, b) ∷ tokens) x more pins e = by (gate_pins tokens) (λ ps f. pins_end tokens x more ps f) e
  where
    by : (o : Option (List Named)) → ((ps : List Named) → o ≡ Some ps → gate_pins (tokens ++ x ∷ more) ≡ None) → option_map (λ ps. (text, at) ∷ ps) o ≡ Some pins → option_map (λ ps. (text, at) ∷ ps) (gate_pins (tokens ++ x ∷ more)) ≡ None
    by None g e = cc
    by (Some ps) g e = rw (g ps refl) refl
pins_end _ x more pins e = cc

driver_end : (driver : Driver) (tokens : List Token) (x : Token) (more : List Token) (pins : List Named) → driver_pins driver tokens ≡ Some pins → driver_pins driver (tokens ++ x ∷ more) ≡ None
unfolding driver_pins gate_pins
driver_end driver tokens x more pins e = by (pins_are driver tokens pins e)
  where
    by : Pins driver tokens pins → driver_pins driver (tokens ++ x ∷ more) ≡ None
    by (no_pins b e f) = rw e refl
    by (some_pins t m rest e f) =
        let g : gate_pins ((name_run t, m) ∷ (rest ++ x ∷ more)) ≡ None = rw e at (pins_end tokens x more pins f) in
        rw e (name_first driver t m (rest ++ x ∷ more) ∙ g)

driven_end : (n w : Named) (tokens : List Token) (x : Token) (more : List Token) (p : Phrase) → driven_phrase n w tokens ≡ Some p → driven_phrase n w (tokens ++ x ∷ more) ≡ None
unfolding driven_phrase
driven_end n w tokens x more p e = by (driver_of w.0) e
  where
    in_driver : (driver : Driver) (o : Option (List Named)) → ((pins : List Named) → o ≡ Some pins → driver_pins driver (tokens ++ x ∷ more) ≡ None) → option_map (gate_phrase n driver w) o ≡ Some p → option_map (gate_phrase n driver w) (driver_pins driver (tokens ++ x ∷ more)) ≡ None
    in_driver driver None g e = cc
    in_driver driver (Some pins) g e = rw (g pins refl) refl

    by : (d : Option Driver) → option_and_then (λ driver. option_map (gate_phrase n driver w) (driver_pins driver tokens)) d ≡ Some p → option_and_then (λ driver. option_map (gate_phrase n driver w) (driver_pins driver (tokens ++ x ∷ more))) d ≡ None
    by None e = refl
    by (Some driver) e = in_driver driver (driver_pins driver tokens) (λ pins f. driver_end driver tokens x more pins f) e

pub phrase_end : (tokens : List Token) (x : Token) (more : List Token) (p : Phrase) → phrase_of tokens ≡ Some p → phrase_of (tokens ++ x ∷ more) ≡ None
unfolding phrase_of
phrase_end ((name_run word, a) ∷ (open_bracket, b) ∷ (name_run text, at) ∷ (close_bracket, d) ∷ []) x more p e = refl
phrase_end ((name_run text, at) ∷ (equals_mark, b) ∷ (name_run word, w) ∷ (open_bracket, d) ∷ tokens) x more p e = driven_end (text, at) (word, w) tokens x more p e
phrase_end _ x more p e = cc

-- a whole statement is no beginning of tokens that only begin one
no_front : (g : List Token) (p : Phrase) (t : List Token) → phrase_of g ≡ Some p → CanBegin (g ++ t) → phrase_of (g ++ t) ≡ None → ⊥
no_front g p [] e c n = let f : phrase_of g ≡ None = rw append-nil at n in cc
no_front g p (x ∷ t) e c n =
    let f : phrase_of (g ++ x ∷ (t ++ c.more)) ≡ None = phrase_end g x (t ++ c.more) p e in
    let h : phrase_of ((g ++ x ∷ t) ++ c.more) ≡ Some c.phrase = c.is in
    let k : phrase_of (g ++ x ∷ (t ++ c.more)) ≡ Some c.phrase = rw append_assoc at h in
    cc

-- what begins a whole statement can begin one
begins_whole : (part : List Token) (x : Token) (t : List Token) (p : Phrase) → phrase_of (part ++ x ∷ t) ≡ Some p → CanBegin (part ++ x ∷ [])
begins_whole part x t p e = record { more = t; phrase = p; is = rw append_assoc e }

begins_more : (part : List Token) (x : Token) (t : List Token) → CanBegin (part ++ x ∷ t) → CanBegin (part ++ x ∷ [])
begins_more part x t c = begins_whole part x (t ++ c.more) c.phrase (let h : phrase_of ((part ++ x ∷ t) ++ c.more) ≡ Some c.phrase = c.is in rw append_assoc at h)

-- ---- the first statement

pub same_group : (g r h s : List Token) (p q : Phrase) → g ++ r ≡ h ++ s → phrase_of g ≡ Some p → phrase_of h ≡ Some q → (g ≡ h) × (r ≡ s)
same_group g r h s p q e f k = elim (compare g r h s e) [ inl a ↦ left a.0 a.1 a.2 | inr b ↦ right b.0 b.1.0 b.1.1 ]
  where
    left : (t : List Token) → g ≡ h ++ t → s ≡ t ++ r → (g ≡ h) × (r ≡ s)
    left [] u v = (u ∙ append-nil h, sym v)
    left (x ∷ t) u v = let n = phrase_end h x t q k in let m : phrase_of g ≡ None = rw u n in cc

    right : (x : Token) (t : List Token) → h ≡ g ++ x ∷ t → (g ≡ h) × (r ≡ s)
    right x t u = let n = phrase_end g x t p f in let m : phrase_of h ≡ None = rw u n in cc

-- tokens that stop don't begin with a whole statement
pub no_statement : (size : ℕ) (tokens g r : List Token) (p : Phrase) (stop : NetKind × ℕ) → StopsIn size tokens stop → tokens ≡ g ++ r → phrase_of g ≡ Some p → IsTrue (has_right_pins p) → ⊥
no_statement size tokens g r p stop (in_token part token more e begins wrong partial is) f k right =
    elim (compare part (token ∷ more) g r (sym e ∙ f)) [ inl a ↦ front a.0 a.1 | inr b ↦ behind b.0 b.1.0 b.1.1 b.1.2 ]
  where
    front : (t : List Token) → part ≡ g ++ t → ⊥
    front t u = no_front g p t k (rw (← u) begins) (rw (← u) partial)

    behind : (x : Token) (t : List Token) → g ≡ part ++ x ∷ t → token ∷ more ≡ x ∷ t ++ r → ⊥
    behind x t u v =
        let h : token ≡ x = cc in
        wrong (rw h (begins_whole part x t p (rw (← u) k)))
no_statement size tokens g r p stop (in_end some begins partial is) f k right = no_front g p r k (rw (← f) begins) (rw (← f) partial)
no_statement size tokens g r p stop (in_pins part n driver word pins more e whole wrong is) f k right =
    let same = same_group part more g r (gate_phrase n driver word pins) p (sym e ∙ f) whole k in
    let h : gate_phrase n driver word pins ≡ p = let m : phrase_of g ≡ Some (gate_phrase n driver word pins) = rw (← same.0) whole in cc in
    let b : has_right_pins p ≡ false = rw (← h) wrong in
    cc

-- tokens stop in one way
token_token : (part : List Token) (token : Token) (more : List Token) (part' : List Token) (token' : Token) (more' : List Token) → part ++ token ∷ more ≡ part' ++ token' ∷ more' → ¬ CanBegin (part ++ token ∷ []) → ¬ CanBegin (part' ++ token' ∷ []) → CanBegin part → CanBegin part' → stop_of part token ≡ stop_of part' token'
token_token part token more part' token' more' e wrong wrong' begins begins' = elim (compare part (token ∷ more) part' (token' ∷ more') e) [ inl a ↦ front a.0 a.1 a.2 | inr b ↦ behind b.0 b.1.0 b.1.1 b.1.2 ]
  where
    front : (t : List Token) → part ≡ part' ++ t → token' ∷ more' ≡ t ++ token ∷ more → stop_of part token ≡ stop_of part' token'
    front [] u v = let h : token' ≡ token = cc in rw (u ∙ append-nil part', h) refl
    front (x ∷ t) u v = let h : token' ≡ x = cc in absurd (wrong' (rw h (begins_more part' x t (rw (← u) begins))))

    behind : (x : Token) (t : List Token) → part' ≡ part ++ x ∷ t → token ∷ more ≡ x ∷ t ++ token' ∷ more' → stop_of part token ≡ stop_of part' token'
    behind x t u v = let h : token ≡ x = cc in absurd (wrong (rw h (begins_more part x t (rw (← u) begins'))))

token_end : (part : List Token) (token : Token) (more tokens : List Token) → tokens ≡ part ++ token ∷ more → ¬ CanBegin (part ++ token ∷ []) → CanBegin tokens → ⊥
token_end part token more tokens e wrong begins = wrong (begins_more part token more (rw (← e) begins))

token_whole : (part : List Token) (token : Token) (more g r : List Token) (p : Phrase) → part ++ token ∷ more ≡ g ++ r → CanBegin part → phrase_of part ≡ None → ¬ CanBegin (part ++ token ∷ []) → phrase_of g ≡ Some p → ⊥
token_whole part token more g r p e begins partial wrong k = elim (compare part (token ∷ more) g r e) [ inl a ↦ front a.0 a.1 | inr b ↦ behind b.0 b.1.0 b.1.1 b.1.2 ]
  where
    front : (t : List Token) → part ≡ g ++ t → ⊥
    front t u = no_front g p t k (rw (← u) begins) (rw (← u) partial)

    behind : (x : Token) (t : List Token) → g ≡ part ++ x ∷ t → token ∷ more ≡ x ∷ t ++ r → ⊥
    behind x t u v = let h : token ≡ x = cc in wrong (rw h (begins_whole part x t p (rw (← u) k)))

pub one_stop_in : (size : ℕ) (tokens : List Token) (s t : NetKind × ℕ) → StopsIn size tokens s → StopsIn size tokens t → s ≡ t
one_stop_in size tokens s t (in_token part token more e begins wrong partial is) (in_token part' token' more' e' begins' wrong' partial' is') = is ∙ token_token part token more part' token' more' (sym e ∙ e') wrong wrong' begins begins' ∙ sym is'
one_stop_in size tokens s t (in_token part token more e begins wrong partial is) (in_end some begins' partial' is') = absurd (token_end part token more tokens e wrong begins')
one_stop_in size tokens s t (in_token part token more e begins wrong partial is) (in_pins part' n driver word pins more' e' whole' wrong' is') = absurd (token_whole part token more part' more' (gate_phrase n driver word pins) (sym e ∙ e') begins partial wrong whole')
one_stop_in size tokens s t (in_end some begins partial is) (in_token part' token' more' e' begins' wrong' partial' is') = absurd (token_end part' token' more' tokens e' wrong' begins)
one_stop_in size tokens s t (in_end some begins partial is) (in_end some' begins' partial' is') = is ∙ sym is'
one_stop_in size tokens s t (in_end some begins partial is) (in_pins part' n driver word pins more' e' whole' wrong' is') = absurd (no_front part' (gate_phrase n driver word pins) more' whole' (rw (← e') begins) (rw (← e') partial))
one_stop_in size tokens s t (in_pins part n driver word pins more e whole wrong is) (in_token part' token' more' e' begins' wrong' partial' is') = absurd (token_whole part' token' more' part more (gate_phrase n driver word pins) (sym e' ∙ e) begins' partial' wrong' whole)
one_stop_in size tokens s t (in_pins part n driver word pins more e whole wrong is) (in_end some begins' partial' is') = absurd (no_front part (gate_phrase n driver word pins) more whole (rw (← e) begins') (rw (← e) partial'))
one_stop_in size tokens s t (in_pins part n driver word pins more e whole wrong is) (in_pins part' n' driver' word' pins' more' e' whole' wrong' is') =
    let same = same_group part more part' more' (gate_phrase n driver word pins) (gate_phrase n' driver' word' pins') (sym e ∙ e') whole whole' in
    let m : phrase_of part' ≡ Some (gate_phrase n driver word pins) = rw (← same.0) whole in
    let h : gate_phrase n driver word pins ≡ gate_phrase n' driver' word' pins' = cc in
    let w : word ≡ word' = cc in
    is ∙ rw w (sym is')

-- ---- the whole text

none_first : (g r : List Token) (p : Phrase) → [] ≡ g ++ r → phrase_of g ≡ Some p → ⊥
unfolding phrase_of
none_first [] r p e f = cc
none_first (x ∷ g) r p e f = cc

no_stop : (size : ℕ) (tokens : List Token) (stop : NetKind × ℕ) → [] ≡ tokens → StopsIn size tokens stop → ⊥
no_stop size tokens stop n (in_token part token more e begins wrong partial is) = by part (n ∙ e)
  where
    by : (part : List Token) → [] ≡ part ++ token ∷ more → ⊥
    by [] f = cc
    by (x ∷ xs) f = cc
no_stop size tokens stop n (in_end some begins partial is) = some (sym n)
no_stop size tokens stop n (in_pins part name driver word pins more e whole wrong is) = none_first part more (gate_phrase name driver word pins) (n ∙ e) whole

pub one_reading : (groups others : List (List Token)) (phrases qs : List Phrase) → joined_tokens groups ≡ joined_tokens others → ArePhrases groups phrases → ArePhrases others qs → phrases ≡ qs
one_reading [] [] [] [] e a b = refl
one_reading [] [] [] (q ∷ qs) e a b = absurd b
one_reading [] [] (p ∷ ps) qs e a b = absurd a
one_reading [] (h ∷ hs) phrases [] e a b = absurd b
one_reading [] (h ∷ hs) phrases (q ∷ qs) e a b = absurd (none_first h (joined_tokens hs) q e b.0.0)
one_reading (g ∷ gs) others [] qs e a b = absurd a
one_reading (g ∷ gs) [] (p ∷ ps) qs e a b = absurd (none_first g (joined_tokens gs) p (sym e) a.0.0)
one_reading (g ∷ gs) (h ∷ hs) (p ∷ ps) [] e a b = absurd b
one_reading (g ∷ gs) (h ∷ hs) (p ∷ ps) (q ∷ qs) e a b =
    let same = same_group g (joined_tokens gs) h (joined_tokens hs) p q e a.0.0 b.0.0 in
    let m : phrase_of h ≡ Some p = rw (← same.0) a.0.0 in
    let n : phrase_of h ≡ Some q = b.0.0 in
    let f : p ≡ q = cc in
    rw (f, one_reading gs hs ps qs same.1 a.1 b.1) refl

module _ (size : ℕ) (stop : NetKind × ℕ) (tokens : List Token) (stops : StopsIn size tokens stop) where
  pub read_or_stopped : (groups before : List (List Token)) (phrases qs : List Phrase) → joined_tokens groups ≡ joined_tokens before ++ tokens → ArePhrases groups phrases → ArePhrases before qs → ⊥
  read_or_stopped [] [] phrases qs e a b = no_stop size tokens stop e stops
  read_or_stopped (g ∷ gs) before [] qs e a b = a
  read_or_stopped (g ∷ gs) [] (p ∷ ps) qs e a b = no_statement size tokens g (joined_tokens gs) p stop stops (sym e) a.0.0 a.0.1
  read_or_stopped [] (h ∷ hs) phrases [] e a b = b
  read_or_stopped [] (h ∷ hs) phrases (q ∷ qs) e a b = none_first h (joined_tokens hs ++ tokens) q (e ∙ append_assoc h (joined_tokens hs) tokens) b.0.0
  read_or_stopped (g ∷ gs) (h ∷ hs) (p ∷ ps) [] e a b = b
  read_or_stopped (g ∷ gs) (h ∷ hs) (p ∷ ps) (q ∷ qs) e a b =
      read_or_stopped gs hs ps qs (same_group g (joined_tokens gs) h (joined_tokens hs ++ tokens) p q (e ∙ append_assoc h (joined_tokens hs) tokens) a.0.0 b.0.0).1 a.1 b.1

  module _ (other : NetKind × ℕ) (rest : List Token) (others : StopsIn size rest other) where
    pub one_stop : (before behind : List (List Token)) (phrases qs : List Phrase) → joined_tokens before ++ tokens ≡ joined_tokens behind ++ rest → ArePhrases before phrases → ArePhrases behind qs → stop ≡ other
    one_stop [] [] phrases qs e a b = let f : tokens ≡ rest = e in one_stop_in size rest stop other (rw (← f) stops) others
    one_stop (g ∷ gs) behind [] qs e a b = absurd a
    one_stop (g ∷ gs) [] (p ∷ ps) qs e a b = absurd (no_statement size rest g (joined_tokens gs ++ tokens) p other others (sym e ∙ append_assoc g (joined_tokens gs) tokens) a.0.0 a.0.1)
    one_stop [] (h ∷ hs) phrases [] e a b = absurd b
    one_stop [] (h ∷ hs) phrases (q ∷ qs) e a b = absurd (no_statement size tokens h (joined_tokens hs ++ rest) q stop stops (e ∙ append_assoc h (joined_tokens hs) rest) b.0.0 b.0.1)
    one_stop (g ∷ gs) (h ∷ hs) (p ∷ ps) [] e a b = absurd b
    one_stop (g ∷ gs) (h ∷ hs) (p ∷ ps) (q ∷ qs) e a b =
        one_stop gs hs ps qs (same_group g (joined_tokens gs ++ tokens) h (joined_tokens hs ++ rest) p q (sym (append_assoc g (joined_tokens gs) tokens) ∙ e ∙ append_assoc h (joined_tokens hs) rest) a.0.0 b.0.0).1 a.1 b.1

-- the tokens after whole statements stop in the same way
stopped : (text : Text) (before : List (List Token)) (stop : NetKind × ℕ) → StopsAt text before stop → (tokens : List Token) × (tokens_of text ≡ joined_tokens before ++ tokens) × StopsIn (length text) tokens stop
stopped text before stop (at_token part token more e begins wrong partial is) = (part ++ token ∷ more, e ∙ append_assoc (joined_tokens before) part (token ∷ more), in_token part token more refl begins wrong partial is)
stopped text before stop (at_end part e some begins partial is) = (part, e, in_end some begins partial is)
stopped text before stop (at_pins part n driver word pins more e whole wrong is) = (part ++ more, e ∙ append_assoc (joined_tokens before) part more, in_pins part n driver word pins more refl whole wrong is)

-- tokens that stop also stop after whole statements, in the same way
pub stops_behind : (text : Text) (before : List (List Token)) (tokens : List Token) (stop : NetKind × ℕ) → tokens_of text ≡ joined_tokens before ++ tokens → StopsIn (length text) tokens stop → StopsAt text before stop
stops_behind text before tokens stop e (in_token part token more f begins wrong partial is) = at_token part token more (e ∙ ap (λ ts. joined_tokens before ++ ts) f ∙ sym (append_assoc (joined_tokens before) part (token ∷ more))) begins wrong partial is
stops_behind text before tokens stop e (in_end some begins partial is) = at_end tokens e some begins partial is
stops_behind text before tokens stop e (in_pins part n driver word pins more f whole wrong is) = at_pins part n driver word pins more (e ∙ ap (λ ts. joined_tokens before ++ ts) f ∙ sym (append_assoc (joined_tokens before) part more)) whole wrong is

pub same_phrases : (text : Text) (phrases qs : List Phrase) → IsText text phrases → IsText text qs → phrases ≡ qs
same_phrases text phrases qs a b = one_reading a.groups b.groups phrases qs (sym a.whole ∙ b.whole) a.each b.each

pub text_or_stop : (text : Text) (phrases : List Phrase) (before : List (List Token)) (qs : List Phrase) (stop : NetKind × ℕ) → IsText text phrases → ArePhrases before qs → StopsAt text before stop → ⊥
text_or_stop text phrases before qs stop a b s =
    let t = stopped text before stop s in
    read_or_stopped (length text) stop t.0 t.2 a.groups before phrases qs (sym a.whole ∙ t.1) a.each b

pub same_stop : (text : Text) (before behind : List (List Token)) (phrases qs : List Phrase) (stop other : NetKind × ℕ) → ArePhrases before phrases → ArePhrases behind qs → StopsAt text before stop → StopsAt text behind other → stop ≡ other
same_stop text before behind phrases qs stop other a b s r =
    let t = stopped text before stop s in
    let u = stopped text behind other r in
    one_stop (length text) stop t.0 t.2 other u.0 u.2 before behind phrases qs (sym t.1 ∙ u.1) a b
