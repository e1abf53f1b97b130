-- The readers of each line, while they are added.
use Rattle.std.proofs.Common.{◌≡◌, ◌≢◌, ◌∙◌, ℕ, ◌+◌, ◌-◌, ◌<◌, ◌≤◌, inl, inr, List, [], ◌∷◌, ◌++◌, length, take, set, get_or, eqb, refl, sym, subst, ap, arith, add-zero, mul-zero, length-append}
use Rattle.std.specs.Prelude.{Bool, true, false, Option, None, Some, replicate, sum_by, slice_get, nat_lt, if◌then◌else◌}
use Rattle.std.specs.Option.{option_map_or}
use Rattle.std.proofs.lemmas.Bool.{cases_lt, cases_eq, ne_eqb, eq-eqb}
use Rattle.std.proofs.lemmas.List.{length-set, get_or-set_same, get_or-set_other, get_or-replicate, length-replicate, take_more, take_all}
use Rattle.std.proofs.lemmas.List.Folds.{sum_by-replicate}
use Rattle.std.proofs.lemmas.List.Sums.{sum_by-set, sum_by_more}
use Rattle.std.proofs.lemmas.Bool.Decides.{nat_tests}
use Rattle.std.proofs.lemmas.Option.{get_or_from_slice_get}
use Rattle.net_model.specs.declared.gate.Gate.{Gate}
use Rattle.net_model.specs.Circuit.{Circuit, line_count, pins_of}
use Rattle.net_model.specs.Topological.{count_of, users_at, AddsUser, AreReaders}
use Rattle.net_model.proofs.Orders.{reader_is_gate}
use Rattle.net_model.proofs.Elements.{slice_get-none}
use Rattle.net_model.proofs.OpenPins.{count_if, count_same, count_other, count_has}

if_zero : (b : Bool) → count_if b 0 ≡ 0
if_zero true = refl
if_zero false = refl

if_more : (b : Bool) (n : ℕ) → count_if b (n + 1) ≡ count_if b n + count_if b 1
if_more true n = refl
if_more false n = refl

pub adds_none : (reader : ℕ) (readers : List (List ℕ)) → AddsUser reader [] readers readers
adds_none reader readers = record {
  whole = refl;
  total = sym (add-zero (sum_by length readers));
  longer = λ line h. sym (add-zero (length (users_at readers line)));
  each = λ line other h. omega (arith, if_zero (eqb other reader));
}

-- ---- the current line gets one user more

module _ (lines : List ℕ) (i user : ℕ) (new : List (List ℕ)) (h : i < length lines) (inside : get_or lines i 0 < length new) where
  abbrev pub added : List (List ℕ)
  added = set new (get_or lines i 0) (users_at new (get_or lines i 0) ++ user ∷ [])

  taken : (line : ℕ) → count_of line (take (i + 1) lines) ≡ count_of line (take i lines ++ get_or lines i 0 ∷ [])
  taken line = ap (count_of line) (take_more lines i 0 h)

  pub here_users : (line : ℕ) → get_or lines i 0 ≡ line → users_at added line ≡ users_at new (get_or lines i 0) ++ user ∷ []
  here_users line same = ap (users_at added) (sym same) ∙ get_or-set_same new (get_or lines i 0) (users_at new (get_or lines i 0) ++ user ∷ []) [] inside

  pub here_count : (line : ℕ) → get_or lines i 0 ≡ line → count_of line (take (i + 1) lines) ≡ count_of line (take i lines) + 1
  here_count line same = taken line ∙ subst (λ l. count_of line (take i lines ++ l ∷ []) ≡ count_of line (take i lines) + 1) (sym same) (count_same line (take i lines))

  pub other_users : (line : ℕ) → get_or lines i 0 ≢ line → users_at added line ≡ users_at new line
  other_users line ne = get_or-set_other new (get_or lines i 0) line (users_at new (get_or lines i 0) ++ user ∷ []) [] (λ e. ne (sym e))

  pub other_count : (line : ℕ) → get_or lines i 0 ≢ line → count_of line (take (i + 1) lines) ≡ count_of line (take i lines)
  other_count line ne = taken line ∙ count_other line (take i lines) (get_or lines i 0) ne

  -- a line has one user more for each of its occurrences in the lines so far
  pub longer_more : (line before : ℕ) → length (users_at new line) ≡ before + count_of line (take i lines) → length (users_at added line) ≡ before + count_of line (take (i + 1) lines)
  longer_more line before was =
      elim (cases_eq (get_or lines i 0) line) [
        | inl same ↦ omega (arith, was, ap length (here_users line same), length-append (users_at new (get_or lines i 0)) (user ∷ []), ap (λ l. length (users_at new l)) same, here_count line same)
        | inr ne ↦ omega (arith, was, ap length (other_users line ne), other_count line ne)
      ]

module _ (reader : ℕ) (lines : List ℕ) (i : ℕ) (old new : List (List ℕ)) (h : i < length lines) (inside : get_or lines i 0 < length old) (is : AddsUser reader (take i lines) old new) where
  pub within : get_or lines i 0 < length new
  within = omega (arith, inside, is.whole)

  -- the current line gets the reader
  here_one : (other : ℕ) → count_of other (users_at new (get_or lines i 0) ++ reader ∷ []) ≡ count_of other (users_at new (get_or lines i 0)) + (count_if (eqb other reader) 1)
  here_one other =
      elim (cases_eq other reader) [
        | inl same ↦
            let one : (count_if (eqb other reader) 1) ≡ 1 = ap (λ b. count_if b 1) (eq-eqb other reader same) in
            let more : count_of other (users_at new (get_or lines i 0) ++ reader ∷ []) ≡ count_of other (users_at new (get_or lines i 0)) + 1 =
            subst (λ r. count_of other (users_at new (get_or lines i 0) ++ r ∷ []) ≡ count_of other (users_at new (get_or lines i 0)) + 1) same (count_same other (users_at new (get_or lines i 0))) in
            omega (arith, one, more)
        | inr ne ↦
            let none : (count_if (eqb other reader) 1) ≡ 0 = ap (λ b. count_if b 1) (ne_eqb other reader ne) in
            omega (arith, none, count_other other (users_at new (get_or lines i 0)) reader (λ e. ne (sym e)))
      ]

  pub adds_more : AddsUser reader (take (i + 1) lines) old (added lines i reader new h within)
  adds_more = record {
    whole = length-set new (get_or lines i 0) (users_at new (get_or lines i 0) ++ reader ∷ []) ∙ is.whole;
    total =
        let longer = length-append (users_at new (get_or lines i 0)) (reader ∷ []) in
        let lines_so_far : length (take (i + 1) lines) ≡ length (take i lines) + 1 = ap length (take_more lines i 0 h) ∙ length-append (take i lines) (get_or lines i 0 ∷ []) in
        omega (arith, sum_by-set length new (get_or lines i 0) (users_at new (get_or lines i 0) ++ reader ∷ []) [] (omega (arith, inside, is.whole)), longer, lines_so_far, is.total);
    longer = λ line below. longer_more lines i reader new h within line (length (users_at old line)) (is.longer line below);
    each = λ line other below.
        elim (cases_eq (get_or lines i 0) line) [
          | inl same ↦
              let one = here_count lines i reader new h within line same in
              let at = here_users lines i reader new h within line same in
              let before : count_of other (users_at new (get_or lines i 0)) ≡ count_of other (users_at old line) + (count_if (eqb other reader) (count_of line (take i lines))) =
              ap (λ l. count_of other (users_at new l)) same ∙ is.each line other below in
              let sums : (count_if (eqb other reader) (count_of line (take (i + 1) lines))) ≡ (count_if (eqb other reader) (count_of line (take i lines))) + (count_if (eqb other reader) 1) =
              ap (λ n. count_if (eqb other reader) n) one ∙ if_more (eqb other reader) (count_of line (take i lines)) in
              omega (arith, ap (count_of other) at, here_one other, before, sums)
          | inr ne ↦
              let same = other_count lines i reader new h within line ne in
              let at = other_users lines i reader new h within line ne in
              ap (count_of other) at ∙ (is.each line other below ∙ ap (λ n. count_of other (users_at old line) + (count_if (eqb other reader) n)) (sym same))
        ];
  }

-- ---- the gates below one gate as readers

-- the gate of a line, and its pins
gate_found : (c : Circuit) (n : ℕ) → c.sources ≤ n → n < line_count c → (gate : Gate) × (slice_get c.gates (n - c.sources) ≡ Some gate) × (pins_of c n ≡ gate.pins)
gate_found c n above under = by (slice_get c.gates (n - c.sources)) refl
  where
    not_source : nat_lt n c.sources ≡ false
    not_source = grind (arith, nat_tests)

    by : (o : Option Gate) → slice_get c.gates (n - c.sources) ≡ o → (gate : Gate) × (slice_get c.gates (n - c.sources) ≡ Some gate) × (pins_of c n ≡ gate.pins)
    by None e = absurd (omega (arith, slice_get-none c.gates (n - c.sources) e))
    by (Some gate) e =
        (gate, e, ap (λ b. option_map_or (λ (g : Gate). g.pins) (if b then None else slice_get c.gates (n - c.sources)) []) not_source ∙ ap (λ o. option_map_or (λ (g : Gate). g.pins) o []) e)

pub record AreReadersBelow (c : Circuit) (n : ℕ) (readers : List (List ℕ)) : Type 0 where
  pub whole : length readers ≡ line_count c
  pub total : sum_by length readers ≡ sum_by (λ gate. length gate.pins) (take (n - c.sources) c.gates)
  pub each : (line reader : ℕ) → line < line_count c → reader < n → count_of reader (users_at readers line) ≡ count_of line (pins_of c reader)
  pub long : (line : ℕ) → line < line_count c → length (users_at readers line) ≡ sum_by (λ gate. count_of line gate.pins) (take (n - c.sources) c.gates)
  pub rest : (line reader : ℕ) → line < line_count c → n ≤ reader → count_of reader (users_at readers line) ≡ 0

-- a line that no gate drives reads nothing
reads_none : (c : Circuit) (line reader : ℕ) → (c.sources ≤ reader → reader < line_count c → ⊥) → count_of line (pins_of c reader) ≡ 0
reads_none c line reader never =
    elim (cases_eq (count_of line (pins_of c reader)) 0) [
      | inl none ↦ none
      | inr some ↦
          let gate = reader_is_gate c line reader (count_has line (pins_of c reader) (omega (arith, some))) in
          absurd (never gate.0 gate.1)
    ]

pub readers_none : (c : Circuit) (readers : List (List ℕ)) → readers ≡ replicate (line_count c) [] → AreReadersBelow c c.sources readers
readers_none c readers e =
    let no_users : (line : ℕ) → line < line_count c → users_at readers line ≡ [] =
    λ line h. ap (λ rs. users_at rs line) e ∙ get_or-replicate {A = List ℕ} (line_count c) line [] [] h in
    let empty : (line reader : ℕ) → line < line_count c → count_of reader (users_at readers line) ≡ 0 =
    λ line reader h. ap (count_of reader) (no_users line h) in
    let no_gates : c.sources - c.sources ≡ 0 = omega arith in
    record {
      whole = ap length e ∙ length-replicate {A = List ℕ} (line_count c) [];
      total = ap (sum_by length) e ∙ sum_by-replicate length (line_count c) [] ∙ mul-zero (line_count c) ∙ sym (ap (λ k. sum_by (λ (gate : Gate). length gate.pins) (take k c.gates)) no_gates);
      long = λ line h. ap length (no_users line h) ∙ sym (ap (λ k. sum_by (λ (gate : Gate). count_of line gate.pins) (take k c.gates)) no_gates);
      each = λ line reader h below. empty line reader h ∙ sym (reads_none c line reader (λ gate _. omega arith));
      rest = λ line reader h _. empty line reader h;
    }

-- the pins of one gate more, in a sum over the pins of gates
pins_more : (part : List ℕ → ℕ) (c : Circuit) (n : ℕ) → c.sources ≤ n → n < line_count c
    → sum_by (λ (gate : Gate). part gate.pins) (take (n + 1 - c.sources) c.gates) ≡ sum_by (λ (gate : Gate). part gate.pins) (take (n - c.sources) c.gates) + part (pins_of c n)
pins_more part c n above under =
    let so_far : ℕ = sum_by (λ (gate : Gate). part gate.pins) (take (n - c.sources) c.gates) in
    let within : n - c.sources < length c.gates = omega arith in
    let next : n + 1 - c.sources ≡ n - c.sources + 1 = omega arith in
    let found = gate_found c n above under in
    ap (λ k. sum_by (λ (gate : Gate). part gate.pins) (take k c.gates)) next
    ∙ sum_by_more (λ (gate : Gate). part gate.pins) c.gates (n - c.sources) found.0 within
    ∙ ap (λ (gate : Gate). so_far + part gate.pins) (get_or_from_slice_get c.gates (n - c.sources) found.0 found.0 found.1)
    ∙ sym (ap (λ pins. so_far + part pins) (found.2))

pub readers_more : (c : Circuit) (n : ℕ) (old new : List (List ℕ)) → c.sources ≤ n → n < line_count c → AreReadersBelow c n old → AddsUser n (pins_of c n) old new → AreReadersBelow c (n + 1) new
readers_more c n old new above under is adds = record {
  whole = adds.whole ∙ is.whole;
  total = adds.total ∙ ap (λ k. k + length (pins_of c n)) is.total ∙ sym (pins_more length c n above under);
  long = λ line h. adds.longer line (omega (arith, h, is.whole)) ∙ ap (λ k. k + count_of line (pins_of c n)) (is.long line h) ∙ sym (pins_more (count_of line) c n above under);
  each = λ line reader h below.
      let sum = adds.each line reader (omega (arith, is.whole)) in
      elim (cases_eq reader n) [
        | inl same ↦
            let all : (count_if (eqb reader n) (count_of line (pins_of c n))) ≡ count_of line (pins_of c reader) =
            ap (λ b. count_if b (count_of line (pins_of c n))) (eq-eqb reader n same) ∙ ap (λ r. count_of line (pins_of c r)) (sym same) in
            omega (arith, sum, all, is.rest line reader h (omega arith))
        | inr ne ↦
            let none : (count_if (eqb reader n) (count_of line (pins_of c n))) ≡ 0 = ap (λ b. count_if b (count_of line (pins_of c n))) (ne_eqb reader n ne) in
            omega (arith, sum, none, is.each line reader h (omega arith))
      ];
  rest = λ line reader h above.
      let none : (count_if (eqb reader n) (count_of line (pins_of c n))) ≡ 0 = ap (λ b. count_if b (count_of line (pins_of c n))) (ne_eqb reader n (λ e. absurd (omega arith))) in
      omega (arith, adds.each line reader (omega (arith, is.whole)), none, is.rest line reader h (omega arith));
}

pub readers_done : (c : Circuit) (readers : List (List ℕ)) → AreReadersBelow c (line_count c) readers → AreReaders c readers
readers_done c readers is = record {
  whole = is.whole;
  total = is.total ∙ ap (sum_by (λ (gate : Gate). length gate.pins)) (take_all (line_count c - c.sources) c.gates (omega arith));
  long = λ line h. is.long line h ∙ ap (sum_by (λ (gate : Gate). count_of line gate.pins)) (take_all (line_count c - c.sources) c.gates (omega arith));
  each = λ line reader h.
      elim (cases_lt reader (line_count c)) [
        | inl below ↦ is.each line reader h below
        | inr above ↦ is.rest line reader h above ∙ sym (reads_none c line reader (λ gate below. omega arith))
      ];
}
