-- The names of statements, while names are added.
use Rattle.std.proofs.Common.{◌≡◌, ◌∙◌, ℕ, suc, ◌+◌, ◌≤◌, ◌<◌, take, get_or, Bool, true, false, List, [], ◌∷◌, ◌++◌, length, refl, ap, sym, append_assoc, arith, length-append}
use Rattle.std.specs.Prelude.{map, All, filter, flat_map, not, ◌||◌, unwrap_or, position, if◌then◌else◌}
use Rattle.std.specs.Str.{bytes_eq}
use Rattle.std.proofs.lemmas.Slice.Eq.{bytes_eq-Decides}
use Rattle.std.proofs.lemmas.List.{append-nil, map-append, take_more}
use Rattle.std.proofs.lemmas.List.Elements.{filter-append}
use Rattle.std.proofs.lemmas.List.Folds.{list_any-append}
use Rattle.std.proofs.lemmas.Map.Views.{any-filter_same}
use Rattle.std.proofs.lemmas.Grind.{flat_map-append}
use Rattle.text_fields.specs.Fields.{Text}
use Rattle.bench_reader.specs.declared.statement.Word.{Word}
use Rattle.bench_reader.specs.declared.word.Port.{Port}
use Rattle.bench_reader.specs.declared.word.Port.TheVariants as says
use Rattle.bench_reader.specs.declared.scanner.Lexeme.{Lexeme}
use Rattle.bench_reader.specs.Scanning.{text_in, named_in}
use Rattle.bench_reader.specs.Shapes.{port_phrase}
use Rattle.bench_reader.specs.Grammar.{Named, Driver, gate_driver, flip_flop_driver, Phrase, input_phrase, output_phrase, gate_phrase, phrase_names}
use Rattle.bench_reader.specs.Reading.{distinct_names, names_of, named_word, statement_with, statement_of}
use Rattle.bench_reader.specs.Numbering.{is_one_of, with_name, with_names, port_statement, gate_statement}
use Rattle.bench_reader.proofs.Positions.{placed, number_stays}

-- ---- equal texts

symmetric : (x y : Text) → bytes_eq x y ≡ bytes_eq y x
symmetric x y = by (bytes_eq x y) (bytes_eq y x) (λ e. (bytes_eq-Decides y x).1 (sym ((bytes_eq-Decides x y).0 e))) (λ e. (bytes_eq-Decides x y).1 (sym ((bytes_eq-Decides y x).0 e)))
  where
    by : (s t : Bool) → (s ≡ true → t ≡ true) → (t ≡ true → s ≡ true) → s ≡ t
    by true t f g = sym (f refl)
    by false true f g = g refl
    by false false f g = refl

pub same_text : (x : Text) → bytes_eq x x ≡ true
same_text x = (bytes_eq-Decides x x).1 refl

-- ---- a text after others

module _ (x y : Text) where
  keep_one : (b : Bool) → bytes_eq x y ≡ b → filter (λ other. not (bytes_eq x other)) (y ∷ []) ≡ (if b then [] else y ∷ [])
  keep_one true e = rw e refl
  keep_one false e = rw e refl

distinct_more : (xs : List Text) (y : Text) → distinct_names (xs ++ y ∷ []) ≡ (if is_one_of xs y then distinct_names xs else distinct_names xs ++ y ∷ [])
distinct_more [] y = refl
distinct_more (x ∷ xs) y =
    ap (λ ts. x ∷ filter (λ other. not (bytes_eq x other)) ts) (distinct_more xs y) ∙ by (is_one_of xs y) (bytes_eq x y) refl
    ∙ ap (λ b. if b || is_one_of xs y then x ∷ filter (λ other. not (bytes_eq x other)) (distinct_names xs) else x ∷ filter (λ other. not (bytes_eq x other)) (distinct_names xs) ++ y ∷ []) (symmetric x y)
  where
    by : (b t : Bool) → bytes_eq x y ≡ t → x ∷ filter (λ other. not (bytes_eq x other)) (if b then distinct_names xs else distinct_names xs ++ y ∷ [])
        ≡ (if t || b then x ∷ filter (λ other. not (bytes_eq x other)) (distinct_names xs) else x ∷ filter (λ other. not (bytes_eq x other)) (distinct_names xs) ++ y ∷ [])
    by true true e = refl
    by true false e = refl
    by false true e = ap (λ ts. x ∷ ts) (filter-append (λ other. not (bytes_eq x other)) (distinct_names xs) (y ∷ []) ∙ ap (λ ts. filter (λ other. not (bytes_eq x other)) (distinct_names xs) ++ ts) (keep_one x y true e) ∙ append-nil (filter (λ other. not (bytes_eq x other)) (distinct_names xs)))
    by false false e = ap (λ ts. x ∷ ts) (filter-append (λ other. not (bytes_eq x other)) (distinct_names xs) (y ∷ []) ∙ ap (λ ts. filter (λ other. not (bytes_eq x other)) (distinct_names xs) ++ ts) (keep_one x y false e))

-- the distinct names have the same texts
distinct_members : (xs : List Text) (t : Text) → is_one_of (distinct_names xs) t ≡ is_one_of xs t
distinct_members [] t = refl
distinct_members (x ∷ xs) t = by (bytes_eq t x) refl (distinct_members xs t)
  where
    kept : bytes_eq t x ≡ false → (k : Text) → bytes_eq t k ≡ true → not (bytes_eq x k) ≡ true
    kept e k f = let g : bytes_eq x k ≡ false = rw (← (bytes_eq-Decides t k).0 f) (symmetric x t ∙ e) in rw g refl

    by : (b : Bool) → bytes_eq t x ≡ b → is_one_of (distinct_names xs) t ≡ is_one_of xs t → (b || is_one_of (filter (λ other. not (bytes_eq x other)) (distinct_names xs)) t) ≡ (b || is_one_of xs t)
    by true e same = refl
    by false e same = any-filter_same (bytes_eq t) (λ other. not (bytes_eq x other)) true (kept e) (distinct_names xs) ∙ same

distinct_with : (xs : List Text) (y : Text) → distinct_names (xs ++ y ∷ []) ≡ with_name (distinct_names xs) y
distinct_with xs y = distinct_more xs y ∙ ap (λ b. if b then distinct_names xs else distinct_names xs ++ y ∷ []) (sym (distinct_members xs y))

abbrev pub texts : List Named → List Text
texts names = map (λ n. n.0) names

distinct_all : (xs : List Text) (ns : List Named) → distinct_names (xs ++ texts ns) ≡ with_names (distinct_names xs) ns
distinct_all xs [] = ap distinct_names (append-nil xs)
distinct_all xs (n ∷ ns) = ap distinct_names (sym (append_assoc xs (n.0 ∷ []) (texts ns))) ∙ distinct_all (xs ++ n.0 ∷ []) ns ∙ ap (λ ts. with_names ts ns) (distinct_with xs n.0)

pub names_more : (phrases : List Phrase) (p : Phrase) → names_of (phrases ++ p ∷ []) ≡ with_names (names_of phrases) (phrase_names p)
unfolding names_of
names_more phrases p =
    ap (λ ns. distinct_names (texts ns)) (flat_map-append phrase_names phrases (p ∷ [])) ∙ ap distinct_names (map-append (λ n. n.0) (flat_map phrase_names phrases) (phrase_names p ++ []))
    ∙ ap (λ (ns : List Named). distinct_names (texts (flat_map phrase_names phrases) ++ texts ns)) (append-nil (phrase_names p)) ∙ distinct_all (texts (flat_map phrase_names phrases)) (phrase_names p)

pub no_names : names_of [] ≡ []
unfolding names_of
no_names = refl

-- ---- names that are added

-- these texts are all among those
abbrev pub AreAmong : List Text → List Text → Type 0
AreAmong xs [] = Unit {0}
AreAmong xs (y ∷ ys) = (is_one_of xs y ≡ true) × AreAmong xs ys

pub among_more : (xs zs ys : List Text) → AreAmong xs ys → AreAmong (xs ++ zs) ys
among_more xs zs [] a = tt
among_more xs zs (y ∷ ys) a = (list_any-append (bytes_eq y) xs zs ∙ rw a.0 refl, among_more xs zs ys a.1)

-- names grow at their end
pub name_grows : (names : List Text) (t : Text) → (more : List Text) × (with_name names t ≡ names ++ more) × (is_one_of (with_name names t) t ≡ true)
name_grows names t = by (is_one_of names t) refl
  where
    last : (b : Bool) → (b || (bytes_eq t t || false)) ≡ true
    last true = refl
    last false = rw (same_text t) refl

    by : (b : Bool) → is_one_of names t ≡ b → (more : List Text) × ((if b then names else names ++ t ∷ []) ≡ names ++ more) × (is_one_of (if b then names else names ++ t ∷ []) t ≡ true)
    by true e = ([], sym (append-nil names), e)
    by false e = (t ∷ [], refl, list_any-append (bytes_eq t) names (t ∷ []) ∙ last (is_one_of names t))

pub names_grow : (names : List Text) (ns : List Named) → (more : List Text) × (with_names names ns ≡ names ++ more) × AreAmong (with_names names ns) (texts ns)
names_grow names [] = ([], sym (append-nil names), tt)
names_grow names (n ∷ ns) =
    let one = name_grows names n.0 in
    let rest = names_grow (with_name names n.0) ns in
    let e : with_names (with_name names n.0) ns ≡ with_name names n.0 ++ rest.0 = rest.1 in
    (one.0 ++ rest.0, e ∙ ap (λ ts. ts ++ rest.0) one.1 ∙ append_assoc names one.0 rest.0, (rw e (list_any-append (bytes_eq n.0) (with_name names n.0) rest.0 ∙ rw one.2 refl), rest.2))

pub names_push : (names : List Text) (ns : List Named) (n : Named) → with_names names (ns ++ n ∷ []) ≡ with_name (with_names names ns) n.0
names_push names [] n = refl
names_push names (m ∷ ns) n = names_push (with_name names m.0) ns n

name_length : (names : List Text) (t : Text) → length (with_name names t) ≤ length names + 1
name_length names t = by (is_one_of names t)
  where
    by : (b : Bool) → length (if b then names else names ++ t ∷ []) ≤ length names + 1
    by true = omega arith
    by false = omega (arith, length-append names (t ∷ []))

pub names_length : (names : List Text) (ns : List Named) → length (with_names names ns) ≤ length names + length ns
names_length names [] = omega arith
names_length names (n ∷ ns) = omega (arith, name_length names n.0, names_length (with_name names n.0) ns)

-- ---- words that stay

-- the fact holds of each name
abbrev pub AllNamed : (Named → Type 0) → List Named → Type 0
AllNamed P [] = Unit {0}
AllNamed P (n ∷ ns) = P n × AllNamed P ns

map_same : (f g : Named → Word) (ns : List Named) → AllNamed (λ n. f n ≡ g n) ns → map f ns ≡ map g ns
map_same f g [] h = refl
map_same f g (n ∷ ns) h = rw (h.0, map_same f g ns h.1) refl

statement_same : (f g : Named → Word) (p : Phrase) → AllNamed (λ n. f n ≡ g n) (phrase_names p) → statement_with f p ≡ statement_with g p
statement_same f g (input_phrase n) h = rw h.0 refl
statement_same f g (output_phrase n) h = rw h.0 refl
statement_same f g (gate_phrase n (gate_driver kind) word pins) h = rw (h.0, map_same f g pins h.1) refl
statement_same f g (gate_phrase n flip_flop_driver word []) h = rw h.0 refl
statement_same f g (gate_phrase n flip_flop_driver word (pin ∷ pins)) h = rw (h.0, h.1.0) refl

stays : (text : Text) (names more : List Text) (ns : List Named) → AreAmong names (texts ns) → AllNamed (λ n. named_word text names n ≡ named_word text (names ++ more) n) ns
stays text names more [] a = tt
stays text names more (n ∷ ns) a =
    let s = number_stays (bytes_eq n.0) names more a.0 in
    let e : unwrap_or (position (bytes_eq n.0) names) 0 ≡ unwrap_or (position (bytes_eq n.0) (names ++ more)) 0 = (placed (bytes_eq n.0) names a.0).0 ∙ sym s.0 ∙ sym (placed (bytes_eq n.0) (names ++ more) s.1).0 in
    (rw e refl, stays text names more ns a.1)

pub words_stay : (text : Text) (names more : List Text) (ns : List Named) → AreAmong names (texts ns) → map (named_word text names) ns ≡ map (named_word text (names ++ more)) ns
words_stay text names more ns a = map_same (named_word text names) (named_word text (names ++ more)) ns (stays text names more ns a)

pub word_stays : (text : Text) (names more : List Text) (n : Named) → is_one_of names n.0 ≡ true → named_word text names n ≡ named_word text (names ++ more) n
word_stays text names more n a = (stays text names more (n ∷ []) (a, tt)).0

-- every name of these statements is among these
abbrev pub AllKnown : List Text → List Phrase → Type 0
AllKnown names [] = Unit {0}
AllKnown names (p ∷ ps) = AreAmong names (texts (phrase_names p)) × AllKnown names ps

pub known_more : (names more : List Text) (ps : List Phrase) → AllKnown names ps → AllKnown (names ++ more) ps
known_more names more [] a = tt
known_more names more (p ∷ ps) a = (among_more names more (texts (phrase_names p)) a.0, known_more names more ps a.1)

pub known_push : (names : List Text) (ps : List Phrase) (p : Phrase) → AllKnown names ps → AreAmong names (texts (phrase_names p)) → AllKnown names (ps ++ p ∷ [])
known_push names [] p a h = (h, tt)
known_push names (q ∷ ps) p a h = (a.0, known_push names ps p a.1 h)

pub statements_stay : (text : Text) (names more : List Text) (ps : List Phrase) → AllKnown names ps → map (statement_of text names) ps ≡ map (statement_of text (names ++ more)) ps
unfolding statement_of
statements_stay text names more [] a = refl
statements_stay text names more (p ∷ ps) a =
    rw (statement_same (named_word text names) (named_word text (names ++ more)) p (stays text names more (phrase_names p) a.0), statements_stay text names more ps a.1) refl

-- ---- statements by their words

pub port_words : (text : Text) (names : List Text) (port : Port) (n : Named) → port_statement port (named_word text names n) ≡ statement_of text names (port_phrase port n)
unfolding statement_of
port_words text names says.Input n = refl
port_words text names says.Output n = refl

pub gate_words : (text : Text) (names : List Text) (driver : Driver) (n w : Named) (pins : List Named) → gate_statement driver (named_word text names n) (map (named_word text names) pins) ≡ statement_of text names (gate_phrase n driver w pins)
unfolding statement_of
gate_words text names (gate_driver kind) n w pins = refl
gate_words text names flip_flop_driver n w [] = refl
gate_words text names flip_flop_driver n w (pin ∷ pins) = refl

-- ---- pins, one after another

pub pins_push : (text : Text) (old names more : List Text) (pins : List Lexeme) (i : ℕ) (d : Lexeme) (words new : List Word) (word : Word) → i < length pins
    → names ≡ with_names old (map (named_in text) (take i pins)) → words ≡ map (named_word text names) (map (named_in text) (take i pins))
    → more ≡ with_name names (text_in text (get_or pins i d)) → word ≡ named_word text more (named_in text (get_or pins i d)) → new ≡ words ++ word ∷ []
    → (more ≡ with_names old (map (named_in text) (take (i + 1) pins))) × (new ≡ map (named_word text more) (map (named_in text) (take (i + 1) pins)))
pins_push text old names more pins i d words new word h n w m is e =
    let done = map (named_in text) (take i pins) in
    let pin = named_in text (get_or pins i d) in
    let all : map (named_in text) (take (i + 1) pins) ≡ done ++ pin ∷ [] = ap (map (named_in text)) (take_more pins i d h) ∙ map-append (named_in text) (take i pins) (get_or pins i d ∷ []) in
    let grown = name_grows names pin.0 in
    let among : AreAmong names (texts done) = rw n (names_grow old done).2 in
    let longer : more ≡ names ++ grown.0 = m ∙ grown.1 in
    let same : map (named_word text names) done ≡ map (named_word text more) done = rw longer (words_stay text names grown.0 done among) in
    (rw all (m ∙ ap (λ ns. with_name ns pin.0) n ∙ sym (names_push old done pin)), rw all (e ∙ ap (λ ws. ws ++ word ∷ []) (w ∙ same) ∙ ap (λ x. map (named_word text more) done ++ x ∷ []) is ∙ sym (map-append (named_word text more) done (pin ∷ []))))

pub all_tail : (P : Lexeme → Type 0) (x : Lexeme) (xs : List Lexeme) → All P (x ∷ xs) → All P xs
all_tail P x xs a k d h = a (suc k) d (omega arith)
