-- What the drivers of a text's names say about the text.
use Rattle.std.proofs.Common.{◌≡◌, ◌∙◌, ℕ, ◌<◌, ◌≤◌, List, [], ◌∷◌, length, refl, sym, ap, arith}
use Rattle.std.specs.Prelude.{map, filter_map, flat_map, sum_by, All, IsTrue, Option, None, Some, option_map}
use Rattle.std.proofs.lemmas.List.{length-map}
use Rattle.std.proofs.lemmas.List.Elements.{All-nil, All-cons, All-head, All-tail, All-map}
use Rattle.std.proofs.lemmas.Option.{some_pair_parts}
use Rattle.text_fields.specs.Fields.{Text}
use Rattle.bench_reader.specs.declared.reading.TheConstants.{NETLIST_LIMIT}
use Rattle.bench_reader.specs.declared.fault.NetKind.{NetKind}
use Rattle.bench_reader.specs.declared.fault.NetKind.TheVariants.{DrivenTwice, Undriven}
use Rattle.bench_reader.specs.declared.fault.Place.{Place}
use Rattle.bench_reader.specs.declared.statement.Word.{Word}
use Rattle.bench_reader.specs.declared.statement.Statement.{Statement}
use Rattle.bench_reader.specs.Netlist.{Netlist}
use Rattle.bench_reader.specs.Grammar.{Named, gate_driver, flip_flop_driver, Phrase, input_phrase, output_phrase, gate_phrase, has_right_pins}
use Rattle.bench_reader.specs.Reading.{names_of, driven_names, all_used_names, driven_twice, undriven, place_of, statement_with, statement_of, IsNetlist}
use Rattle.bench_reader.specs.Refusal.{TextRefused, by_second, by_missing}
use Rattle.bench_reader.specs.Driven.{takes_its_pins, statement_size, IsDriven}
use Rattle.bench_reader.specs.Parsed.{IsParsed}
use Rattle.bench_reader.specs.Drivers.{driven_word, used_words, second_driver, missing_driver, fault_by, driver_fault, AreNumbered}
use Rattle.bench_reader.proofs.AllLemmas.{All-parts, All-from_contained}
use Rattle.bench_reader.proofs.NumberLemmas.{drivers_once, drivers_named, uses_driven}
use Rattle.bench_reader.proofs.SizeLemmas.{few_names, small_statements}
use Rattle.bench_reader.proofs.PhraseLemmas.{word, number_is, words_driven, words_used, right_pins, driven_known, used_known, second_is, missing_is}

-- ---- nothing is wrong with the drivers

fault_none : (second missing : Option Word) → fault_by second missing ≡ None → (second ≡ None) × (missing ≡ None)
fault_none (Some word) missing e = cc
fault_none None (Some word) e = cc
fault_none None None e = (refl, refl)

map_none : {X Y : Type 0} (f : X → Y) (o : Option X) → option_map f o ≡ None → o ≡ None
map_none f None e = refl
map_none f (Some x) e = cc

arities : (text : Text) (names : List Text) (phrases : List Phrase) → All (λ phrase. IsTrue (has_right_pins phrase)) phrases → All (λ statement. IsTrue (takes_its_pins statement)) (map (statement_with (word text names)) phrases)
arities text names [] right = All-nil (λ (s : Statement). IsTrue (takes_its_pins s))
arities text names (p ∷ ps) right =
    All-cons (λ (s : Statement). IsTrue (takes_its_pins s)) (statement_with (word text names) p) (map (statement_with (word text names)) ps) (one p (All-head (λ (q : Phrase). IsTrue (has_right_pins q)) p ps right))
    (arities text names ps (All-tail (λ (q : Phrase). IsTrue (has_right_pins q)) p ps right))
  where
    one : (p : Phrase) → IsTrue (has_right_pins p) → IsTrue (takes_its_pins (statement_with (word text names) p))
    one (input_phrase n) t = refl
    one (output_phrase n) t = refl
    one (gate_phrase n (gate_driver kind) at pins) t = rw (length-map pins (word text names)) t
    one (gate_phrase n flip_flop_driver at pins) t = refl

module _ (text : Text) (n : Netlist) (p : IsParsed text n) where
  as_word : Named → Word
  as_word = word text (names_of p.phrases)

  right : All (λ phrase. IsTrue (has_right_pins phrase)) p.phrases
  right = right_pins p.is_text.groups p.phrases p.is_text.each

  statements_are : n.statements ≡ map (statement_with as_word) p.phrases
  unfolding statement_of as_word
  statements_are = ap (λ (m : Netlist). m.statements) p.netlist_is

  driven_are : filter_map driven_word n.statements ≡ map as_word (driven_names p.phrases)
  unfolding as_word
  driven_are = ap (filter_map driven_word) statements_are ∙ words_driven text (names_of p.phrases) p.phrases

  used_are : flat_map used_words n.statements ≡ map as_word (all_used_names p.phrases)
  unfolding as_word
  used_are = ap (flat_map used_words) statements_are ∙ words_used text (names_of p.phrases) p.phrases right

  names_are : n.names ≡ names_of p.phrases
  names_are = ap (λ (m : Netlist). m.names) p.netlist_is

  -- the words have numbers of names
  pub numbered : AreNumbered (length n.names) n.statements
  unfolding as_word
  numbered =
      let names = names_of p.phrases in
      let below : Word → Type 0 = λ w. w.name < length names in
      let driven : All below (map (word text names) (driven_names p.phrases)) =
      All-map below (word text names) (driven_names p.phrases) (All-from_contained (λ m. below (word text names m)) (driven_names p.phrases) (λ m has. (number_is names m.0 (driven_known p.phrases m has)).0)) in
      let used : All below (map (word text names) (all_used_names p.phrases)) =
      All-map below (word text names) (all_used_names p.phrases) (All-from_contained (λ m. below (word text names m)) (all_used_names p.phrases) (λ m has. (number_is names m.0 (used_known p.phrases m has)).0)) in
      rw names_are (record { driven = rw driven_are driven; used = All-parts below used_words n.statements (rw used_are used) })

  second : second_driver n.statements ≡ option_map as_word (driven_twice p.phrases)
  unfolding as_word
  second = second_is text p.phrases (filter_map driven_word n.statements) driven_are

  missing : missing_driver n.statements ≡ option_map as_word (undriven p.phrases)
  unfolding as_word missing_driver
  missing = missing_is text p.phrases (filter_map driven_word n.statements) (flat_map used_words n.statements) driven_are used_are

  -- ---- accepted

  pub accepted : driver_fault n.statements ≡ None → IsNetlist text n
  accepted none =
      let parts = fault_none (second_driver n.statements) (missing_driver n.statements) none in
      record {
        phrases = p.phrases;
        is_text = p.is_text;
        once = map_none as_word (driven_twice p.phrases) (sym second ∙ parts.0);
        all_driven = map_none as_word (undriven p.phrases) (sym missing ∙ parts.1);
        netlist_is = p.netlist_is;
      }

  pub all_driven : driver_fault n.statements ≡ None → length n.names ≤ NETLIST_LIMIT → sum_by statement_size n.statements ≤ NETLIST_LIMIT → IsDriven n
  unfolding as_word
  all_driven none few small =
      let parts = fault_none (second_driver n.statements) (missing_driver n.statements) none in
      record {
        once = drivers_once n.statements parts.0;
        named = drivers_named n.statements (length n.names) numbered;
        used = uses_driven n.statements parts.1;
        arities = rw statements_are (arities text (names_of p.phrases) p.phrases right);
        few = few;
        small = small;
      }

  -- if no name is driven twice and each used one is driven, nothing is wrong with the drivers
  pub none_at_fault : driven_twice p.phrases ≡ None → undriven p.phrases ≡ None → driver_fault n.statements ≡ None
  none_at_fault once driven = λ i. fault_by ((second ∙ ap (option_map as_word) once) i) ((missing ∙ ap (option_map as_word) driven) i)

  -- ---- refused

  refused_by : (twice other : Option Named) → driven_twice p.phrases ≡ twice → undriven p.phrases ≡ other → (kind : NetKind) (place : Place) → fault_by (option_map as_word twice) (option_map as_word other) ≡ Some (kind, place)
      → (byte : ℕ) × TextRefused text (kind, byte) × (place ≡ place_of text byte)
  unfolding as_word
  refused_by (Some m) other e f kind place is =
      let same = some_pair_parts DrivenTwice kind (place_of text m.1) place is in
      (m.1, by_second p.phrases m p.is_text e (ap (λ k. (k, m.1)) (sym same.0)), sym same.1)
  refused_by None (Some m) e f kind place is =
      let same = some_pair_parts Undriven kind (place_of text m.1) place is in
      (m.1, by_missing p.phrases m p.is_text e f (ap (λ k. (k, m.1)) (sym same.0)), sym same.1)
  refused_by None None e f kind place is = absurd (let g : ◌≡◌ {A = Option (NetKind × Place)} None (Some (kind, place)) = is in cc)

  pub refused : (kind : NetKind) (place : Place) → driver_fault n.statements ≡ Some (kind, place) → (byte : ℕ) × TextRefused text (kind, byte) × (place ≡ place_of text byte)
  refused kind place is =
      refused_by (driven_twice p.phrases) (undriven p.phrases) refl refl kind place
      (sym (ap (λ o. fault_by o (missing_driver n.statements)) second ∙ ap (fault_by (option_map as_word (driven_twice p.phrases))) missing) ∙ is)

-- in a netlist that is read each name is driven once, and no other is used
pub netlist_driven : (text : Text) (n : Netlist) → IsNetlist text n → IsDriven n
netlist_driven text n is =
    let p : IsParsed text n = record { phrases = is.phrases; is_text = is.is_text; netlist_is = is.netlist_is } in
    all_driven text n p (none_at_fault text n p is.once is.all_driven) (omega (arith, few_names text n p, p.is_text.short)) (omega (arith, small_statements text n p, p.is_text.short))
