-- What is read of a text up to a byte.
use Rattle.std.proofs.Common.{◌≡◌, ◌∙◌, ℕ, ◌+◌, ◌≤◌, ◌<◌, ◌^◌, List, [], ◌∷◌, ◌++◌, length, refl, ap, sym, arith, length-append, append_assoc, Some}
use Rattle.std.specs.Prelude.{map, IsTrue}
use Rattle.std.proofs.lemmas.List.{append-nil, map-append}
use Rattle.std.proofs.lemmas.Grind.{flat_map-append}
use Rattle.indexmap.proofs.SetLemmas.{AllZip-push}
use Rattle.text_fields.specs.Fields.{Text}
use Rattle.bench_reader.specs.declared.reading.TheConstants.{NETLIST_LIMIT}
use Rattle.bench_reader.specs.declared.fault.NetFault.{NetFault}
use Rattle.bench_reader.specs.declared.fault.NetFault.TheVariants.{At, Loop, NoMemory}
use Rattle.bench_reader.specs.declared.fault.NetKind.{NetKind}
use Rattle.bench_reader.specs.declared.fault.NetKind.TheVariants.{TooLong}
use Rattle.bench_reader.specs.declared.fault.Place.{Place}
use Rattle.bench_reader.specs.declared.statement.Statement.{Statement}
use Rattle.bench_reader.specs.declared.shape.Shape.{Shape}
use Rattle.bench_reader.specs.Tokens.{Token, tokens_of}
use Rattle.bench_reader.specs.Grammar.{Phrase, phrase_of, phrase_names, has_right_pins}
use Rattle.bench_reader.specs.Reading.{place_of, names_of, statement_of, joined_tokens, ArePhrases}
use Rattle.bench_reader.specs.Refusal.{TextRefused, too_long, by_grammar}
use Rattle.bench_reader.specs.Parsed.{IsParsed}
use Rattle.bench_reader.specs.Scanning.{tokens_at, IsPlace}
use Rattle.bench_reader.specs.Shapes.{phrase_in, IsStatement}
use Rattle.bench_reader.specs.Stops.{IsStop, IsGrammarFault, IsTextFault}
use Rattle.bench_reader.specs.Numbering.{with_names}
use Rattle.bench_reader.specs.Netlist.{Netlist}
use Rattle.bench_reader.specs.Drivers.{driver_fault}
use Rattle.bench_reader.proofs.DriverLemmas.{refused}
use Rattle.bench_reader.proofs.LawLemmas.{stops_behind}
use Rattle.bench_reader.proofs.ScanLemmas.{whole_text}
use Rattle.bench_reader.proofs.NameLemmas.{AllKnown, known_more, known_push, statements_stay, names_more, no_names, names_grow}
use Rattle.bench_reader.proofs.SizeLemmas.{small_phrase, few_names_of, few_tokens}

pub record ReadSoFar (text : Text) (byte : ℕ) (statements : List Statement) (names : List Text) : Type 0 where
  pub groups : List (List Token)
  pub phrases : List Phrase
  pub whole : tokens_of text ≡ joined_tokens groups ++ tokens_at text byte
  pub each : ArePhrases groups phrases
  pub statements_are : statements ≡ map (statement_of text names) phrases
  pub names_are : names ≡ names_of phrases
  pub known : AllKnown names phrases

pub nothing_read : (text : Text) → ReadSoFar text 0 [] []
nothing_read text = record { groups = []; phrases = []; whole = whole_text text; each = tt; statements_are = refl; names_are = sym no_names; known = tt }

pub some_token : (group : List Token) (p : Phrase) → phrase_of group ≡ Some p → 0 < length group
unfolding phrase_of
some_token [] p e = cc
some_token (t ∷ ts) p e = omega arith

module _ (text : Text) (byte : ℕ) (statements : List Statement) (names : List Text) (r : ReadSoFar text byte statements names) where
  pub all_read : length text ≤ NETLIST_LIMIT → tokens_at text byte ≡ [] → IsParsed text (record { statements = statements; names = names })
  all_read short none = record {
    phrases = r.phrases;
    is_text = record { short = short; groups = r.groups; whole = r.whole ∙ ap (λ ts. joined_tokens r.groups ++ ts) none ∙ append-nil (joined_tokens r.groups); each = r.each };
    netlist_is = rw (r.statements_are, r.names_are) refl;
  }

  module _ (tokens : List Token) (same : tokens_at text byte ≡ tokens) where
    pub refused_here : (f : NetFault) → IsStop text tokens f → IsGrammarFault text f
    refused_here (At kind place) h = (h.0, record { before = r.groups; phrases = r.phrases; whole = r.each; stops = stops_behind text r.groups tokens (kind, place.byte) (r.whole ∙ ap (λ ts. joined_tokens r.groups ++ ts) same) h.1 })
    refused_here (Loop place walk) h = h
    refused_here NoMemory h = tt

    module _ (found : Shape × Place) (s : IsStatement text tokens found) where
      abbrev pub phrase : Phrase
      phrase = phrase_in text found.0

      tokens_now : tokens_of text ≡ (joined_tokens r.groups ++ s.group) ++ tokens_at text found.1.byte
      tokens_now = r.whole ∙ ap (λ ts. joined_tokens r.groups ++ ts) (same ∙ s.whole) ∙ sym (append_assoc (joined_tokens r.groups) s.group (tokens_at text found.1.byte))

      pub few_now : length text ≤ NETLIST_LIMIT → length names + length (phrase_names phrase) < 2 ^ 31
      few_now short =
          let all : length (tokens_of text) ≡ length (joined_tokens r.groups) + length s.group + length (tokens_at text found.1.byte) =
          ap length tokens_now ∙ length-append (joined_tokens r.groups ++ s.group) (tokens_at text found.1.byte) ∙ ap (λ k. k + length (tokens_at text found.1.byte)) (length-append (joined_tokens r.groups) s.group) in
          omega (arith, all, few_tokens text, ap length r.names_are, few_names_of r.groups r.phrases r.each, (small_phrase s.group phrase s.is).names)

      pub fewer_now : length (tokens_at text found.1.byte) < length (tokens_at text byte)
      fewer_now =
          let e : length (tokens_at text byte) ≡ length s.group + length (tokens_at text found.1.byte) = ap length (same ∙ s.whole) ∙ length-append s.group (tokens_at text found.1.byte) in
          omega (arith, e, some_token s.group phrase s.is)

      pub read_more : (next : Statement) (more : List Text) → more ≡ with_names names (phrase_names phrase) → next ≡ statement_of text more phrase → ReadSoFar text found.1.byte (statements ++ next ∷ []) more
      read_more next more n is =
          let grown = names_grow names (phrase_names phrase) in
          let e : more ≡ names ++ grown.0 = n ∙ grown.1 in
          record {
            groups = r.groups ++ s.group ∷ [];
            phrases = r.phrases ++ phrase ∷ [];
            whole = tokens_now ∙ ap (λ ts. ts ++ tokens_at text found.1.byte) (sym (flat_map-append (λ group. group) r.groups (s.group ∷ []) ∙ ap (λ ts. joined_tokens r.groups ++ ts) (append-nil s.group)));
            each = AllZip-push (λ group p. (phrase_of group ≡ Some p) × IsTrue (has_right_pins p)) r.groups r.phrases s.group phrase r.each (s.is, s.right);
            statements_are =
                ap (λ ss. ss ++ next ∷ []) (r.statements_are ∙ statements_stay text names grown.0 r.phrases r.known ∙ ap (λ ns. map (statement_of text ns) r.phrases) (sym e))
                ∙ ap (λ x. map (statement_of text more) r.phrases ++ x ∷ []) is ∙ sym (map-append (statement_of text more) r.phrases (phrase ∷ []));
            names_are = n ∙ ap (λ ns. with_names ns (phrase_names phrase)) r.names_are ∙ sym (names_more r.phrases phrase);
            known = known_push more r.phrases phrase (rw e (known_more names grown.0 r.phrases r.known)) (rw n grown.2);
          }

pub text_fault : (text : Text) (f : NetFault) → length text ≤ NETLIST_LIMIT → IsGrammarFault text f → IsTextFault text f
text_fault text (At kind place) short h = (h.0, by_grammar h.1.before h.1.phrases short h.1.whole h.1.stops)
text_fault text (Loop place walk) short h = h
text_fault text NoMemory short h = tt

pub long_text : (text : Text) (place : Place) → NETLIST_LIMIT < length text → place ≡ place_of text NETLIST_LIMIT → IsPlace text place × TextRefused text (TooLong, place.byte)
long_text text place h e = rw e (refl, too_long h refl)

pub driver_refused : (text : Text) (n : Netlist) → IsParsed text n → (kind : NetKind) (place : Place) → driver_fault n.statements ≡ Some (kind, place) → IsPlace text place × TextRefused text (kind, place.byte)
driver_refused text n p kind place e =
    let h = refused text n p kind place e in
    let b : place.byte ≡ h.0 = ap (λ q. q.byte) h.2 in
    (h.2 ∙ ap (place_of text) (sym b), rw b h.1)
