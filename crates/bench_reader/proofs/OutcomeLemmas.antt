-- Tokens are whole statements, or stop after some.
use Rattle.std.proofs.Common.{◌≡◌, ◌∙◌, ℕ, zero, suc, ◌+◌, ◌≤◌, true, false, List, [], ◌∷◌, ◌++◌, length, refl, ap, sym, append_assoc, arith, length-append, ◌⊎◌, inl, inr, Option, None, Some}
use Rattle.std.specs.Prelude.{◌≢◌, Bool, IsTrue}
use Rattle.std.proofs.lemmas.List.{append-nil}
use Rattle.text_fields.specs.Fields.{Text}
use Rattle.bench_reader.specs.declared.reading.TheConstants.{NETLIST_LIMIT}
use Rattle.bench_reader.specs.declared.fault.NetKind.{NetKind}
use Rattle.bench_reader.specs.declared.fault.NetKind.TheVariants as kind
use Rattle.bench_reader.specs.Tokens.{Token, tokens_of}
use Rattle.bench_reader.specs.Grammar.{Named, Phrase, input_phrase, output_phrase, gate_phrase, phrase_of, has_right_pins, CanBegin}
use Rattle.bench_reader.specs.Netlist.{Netlist}
use Rattle.bench_reader.specs.Reading.{joined_tokens, ArePhrases, IsText, IsNetlist, driven_twice, undriven, netlist_of}
use Rattle.bench_reader.specs.Refusal.{stop_of, TextRefused, by_grammar, by_second, by_missing}
use Rattle.bench_reader.specs.Stops.{StopsIn, in_token, in_end, in_pins}
use Rattle.bench_reader.proofs.StopLemmas.{nothing_begins, nothing_partial}
use Rattle.bench_reader.proofs.BeginLemmas.{can_begin}
use Rattle.bench_reader.proofs.LawLemmas.{stops_behind}
use Rattle.bench_reader.proofs.ReadLemmas.{some_token}

-- ---- one statement

-- Tokens begin with a whole statement, or stop.
data First (size : ℕ) (tokens : List Token) : Type 0 where
  whole : (group rest : List Token) (p : Phrase) → tokens ≡ group ++ rest → phrase_of group ≡ Some p → IsTrue (has_right_pins p) → First size tokens
  stops : (stop : NetKind × ℕ) → StopsIn size tokens stop → First size tokens

-- if a statement is whole, its number of pins is right or wrong
judged : (size : ℕ) (tokens group rest : List Token) (p : Phrase) → tokens ≡ group ++ rest → phrase_of group ≡ Some p → First size tokens
judged size tokens group rest (input_phrase n) e f = whole group rest (input_phrase n) e f refl
judged size tokens group rest (output_phrase n) e f = whole group rest (output_phrase n) e f refl
judged size tokens group rest (gate_phrase n driver word pins) e f = by (has_right_pins (gate_phrase n driver word pins)) refl
  where
    by : (right : Bool) → has_right_pins (gate_phrase n driver word pins) ≡ right → First size tokens
    by true g = whole group rest (gate_phrase n driver word pins) e f g
    by false g = stops (kind.WrongPins, word.1) (in_pins group n driver word pins rest e f g refl)

-- tokens with which a statement can begin continue up to its end, or stop
goes_on : (size : ℕ) (tokens part rest : List Token) → tokens ≡ part ++ rest → tokens ≢ [] → CanBegin part → phrase_of part ≡ None → First size tokens
goes_on size tokens part [] e some begins partial =
    let f : tokens ≡ part = e ∙ append-nil part in
    stops (kind.Expected, size) (in_end some (rw f begins) (rw f partial) refl)
goes_on size tokens part (x ∷ rest) e some begins partial =
    elim (can_begin (part ++ x ∷ [])) [
      | yes more ↦ by (phrase_of (part ++ x ∷ [])) refl (λ none. goes_on size tokens (part ++ x ∷ []) rest longer some more none)
      | no wrong ↦ stops (stop_of part x) (in_token part x rest e begins wrong partial refl)
    ]
  where
    longer : tokens ≡ (part ++ x ∷ []) ++ rest
    longer = e ∙ sym (append_assoc part (x ∷ []) rest)

    by : (found : Option Phrase) → phrase_of (part ++ x ∷ []) ≡ found → (phrase_of (part ++ x ∷ []) ≡ None → First size tokens) → First size tokens
    by None f then = then f
    by (Some p) f then = judged size tokens (part ++ x ∷ []) rest p longer f

-- ---- all statements

-- Tokens are whole statements, or stop after some.
data Outcome (size : ℕ) (tokens : List Token) : Type 0 where
  reads : (groups : List (List Token)) (phrases : List Phrase) → tokens ≡ joined_tokens groups → ArePhrases groups phrases → Outcome size tokens
  halts : (before : List (List Token)) (phrases : List Phrase) (rest : List Token) (stop : NetKind × ℕ) → tokens ≡ joined_tokens before ++ rest → ArePhrases before phrases → StopsIn size rest stop → Outcome size tokens

-- a whole statement before them
behind : (size : ℕ) (tokens group rest : List Token) (p : Phrase) → tokens ≡ group ++ rest → phrase_of group ≡ Some p → IsTrue (has_right_pins p) → Outcome size rest → Outcome size tokens
behind size tokens group rest p e f right (reads groups phrases g each) = reads (group ∷ groups) (p ∷ phrases) (e ∙ ap (λ ts. group ++ ts) g) ((f, right), each)
behind size tokens group rest p e f right (halts before phrases left stop g each s) =
    halts (group ∷ before) (p ∷ phrases) left stop (e ∙ ap (λ ts. group ++ ts) g ∙ sym (append_assoc group (joined_tokens before) left)) ((f, right), each) s

outcome : (count size : ℕ) (tokens : List Token) → length tokens ≤ count → Outcome size tokens
outcome count size [] few = reads [] [] refl tt
outcome zero size (x ∷ tokens) few = absurd (omega arith)
outcome (suc count) size (x ∷ tokens) few = by (goes_on size (x ∷ tokens) [] (x ∷ tokens) refl (λ e. cc) nothing_begins nothing_partial) (λ rest fewer. outcome count size rest fewer)
  where
    by : First size (x ∷ tokens) → ((rest : List Token) → length rest ≤ count → Outcome size rest) → Outcome size (x ∷ tokens)
    by (whole group rest p e f right) then =
        let parts : suc (length tokens) ≡ length group + length rest = ap length e ∙ length-append group rest in
        behind size (x ∷ tokens) group rest p e f right (then rest (omega (arith, few, parts, some_token group p f)))
    by (stops stop s) then = halts [] [] (x ∷ tokens) stop refl tt s

-- ---- the whole text

abbrev pub Decided : Text → Type 0
Decided text = ((netlist : Netlist) × IsNetlist text netlist) ⊎ ((refusal : NetKind × ℕ) × TextRefused text refusal)

-- statements are accepted, or refused by the drivers of their names
names_decide : (text : Text) (phrases : List Phrase) → IsText text phrases → Decided text
names_decide text phrases t = by (driven_twice phrases) (undriven phrases) refl refl
  where
    by : (twice missing : Option Named) → driven_twice phrases ≡ twice → undriven phrases ≡ missing → Decided text
    by (Some n) missing e f = inr ((kind.DrivenTwice, n.1), by_second phrases n t e refl)
    by None (Some n) e f = inr ((kind.Undriven, n.1), by_missing phrases n t e f refl)
    by None None e f = inl (netlist_of text phrases, record { phrases = phrases; is_text = t; once = e; all_driven = f; netlist_is = refl })

pub short_text : (text : Text) → length text ≤ NETLIST_LIMIT → Decided text
short_text text short = by (outcome (length (tokens_of text)) (length text) (tokens_of text) (omega arith))
  where
    by : Outcome (length text) (tokens_of text) → Decided text
    by (reads groups phrases e each) = names_decide text phrases (record { short = short; groups = groups; whole = e; each = each })
    by (halts before phrases rest stop e each s) = inr (stop, by_grammar before phrases short each (stops_behind text before rest stop e s))
