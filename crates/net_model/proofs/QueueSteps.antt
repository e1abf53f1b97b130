-- The queue of ready gates: its start, and one step.
use Rattle.std.proofs.Common.{◌≡◌, ◌≢◌, ◌∙◌, ℕ, ◌+◌, ◌-◌, ◌<◌, ◌≤◌, ◌⊎◌, inl, inr, true, false, List, [], ◌∷◌, ◌++◌, length, take, set, get_or, replicate, eqb, refl, sym, subst, ap, arith, length-append, length-take, get_or-take, append_assoc}
use Rattle.std.specs.Prelude.{Contains, nat_lt}
use Rattle.std.proofs.lemmas.Bool.{cases_lt, cases_eq, lt-ltb, false_from_ne_true}
use Rattle.std.proofs.lemmas.List.{length-set, get_or-set_same, get_or-set_other, get_or_append_left, get_or_push, get_or_default, get_or_past, get_or-replicate, length-replicate, take-append-le, take_more}
use Rattle.std.proofs.lemmas.List.Elements.{Contains-push_cases, Contains-push, Contains-append_left, Contains-append_cases, Contains-get_or}
use Rattle.std.proofs.lemmas.List.Sums.{sum_by-take-le}
use Rattle.net_model.specs.Circuit.{Circuit, line_count, pins_of, Feeds}
use Rattle.net_model.specs.Topological.{count_of, users_at, AreReaders, is_told, open_pins, AreReady, IsTold, IsQueue}
use Rattle.net_model.proofs.Orders.{reader_is_gate}
use Rattle.net_model.proofs.OpenPins.{count_has, count_if, count_other, count_same, has_count, none_open, open_split, told_is}

-- ---- one gate more is ready

ready_more : (waits order : List ℕ) (line : ℕ) → ((k : ℕ) → Contains order k → get_or waits k 0 ≡ 0) → get_or waits line 0 ≡ 0 → ((k : ℕ) → Contains order k → k ≢ line)
    → ((j k : ℕ) → j < k → k < length order → get_or order j 0 ≢ get_or order k 0) → AreReady waits (order ++ line ∷ [])
ready_more waits order line closed none fresh distinct = record {
  closed = λ k m.
      elim (Contains-push_cases order line k m) [
        | inl before ↦ closed k before
        | inr here ↦ ap (λ l. get_or waits l 0) (sym here) ∙ none
      ];
  distinct = λ j k lt h same.
      let len = length-append order (line ∷ []) in
      let one = get_or_append_left order (line ∷ []) 0 j (omega (arith, len)) in
      elim (cases_lt k (length order)) [
        | inl below ↦ distinct j k lt below (sym one ∙ (same ∙ get_or_append_left order (line ∷ []) 0 k below))
        | inr above ↦
            let end = get_or_push order line 0 k (omega (arith, len)) in
            fresh (get_or order j 0) (Contains-get_or order j 0 (omega (arith, len))) (sym one ∙ (same ∙ end))
      ];
}

-- ---- one reader is told

-- the current reader occurs among the readers so far and itself at most as often as it has open pins in `old`
pub enough_so_far : (readers old : List ℕ) (i : ℕ) → i < length readers → ((line : ℕ) → count_of line readers ≤ get_or old line 0) → count_of (get_or readers i 0) (take i readers ++ get_or readers i 0 ∷ []) ≤ get_or old (get_or readers i 0) 0
enough_so_far readers old i h enough =
    let more = ap (count_of (get_or readers i 0)) (take_more readers i 0 h) in
    omega (arith, more, sum_by-take-le (λ y. count_if (eqb y (get_or readers i 0)) 1) readers (i + 1), enough (get_or readers i 0))

module _ (readers old waits order longer : List ℕ) (reader : ℕ) (is : IsTold readers old waits order longer) (enough : count_of reader (readers ++ reader ∷ []) ≤ get_or old reader 0) where
  pub is_open : 0 < get_or waits reader 0
  is_open = omega (arith, enough, count_same reader readers, is.fewer reader)

  pub reader_inside : reader < length waits
  reader_inside =
      elim (cases_lt reader (length waits)) [
        | inl below ↦ below
        | inr past ↦ absurd (omega (arith, is_open, get_or_past waits reader 0 past))
      ]

  less : List ℕ
  less = set waits reader (get_or waits reader 0 - 1)

  at_reader : get_or less reader 0 ≡ get_or waits reader 0 - 1
  unfolding less
  at_reader = get_or-set_same waits reader (get_or waits reader 0 - 1) 0 reader_inside

  at_other : (line : ℕ) → line ≢ reader → get_or less line 0 ≡ get_or waits line 0
  unfolding less
  at_other line ne = get_or-set_other waits reader line (get_or waits reader 0 - 1) 0 ne

  length-less : length less ≡ length old
  unfolding less
  length-less = length-set waits reader (get_or waits reader 0 - 1) ∙ is.whole

  told_fewer : (line : ℕ) → get_or less line 0 + count_of line (readers ++ reader ∷ []) ≡ get_or old line 0
  told_fewer line =
      elim (cases_eq reader line) [
        | inl same ↦
            subst (λ l. get_or less l 0 + count_of l (readers ++ reader ∷ []) ≡ get_or old l 0) same
            (omega (arith, at_reader, is_open, count_same reader readers, is.fewer reader))
        | inr ne ↦ omega (arith, at_other line (λ e. ne (sym e)), count_other line readers reader ne, is.fewer line)
      ]

  not_ready : (line : ℕ) → Contains longer line → line ≢ reader
  not_ready line m e = absurd (omega (arith, is_open, is.ready.closed reader (subst (Contains longer) e m)))

  told_open : get_or waits reader 0 - 1 ≢ 0 → IsTold (readers ++ reader ∷ []) old less order longer
  told_open some = record {
    whole = length-less;
    fewer = told_fewer;
    more = is.more;
    extends = is.extends;
    only = λ line m. Contains-append_left readers (reader ∷ []) line (is.only line m);
    all = λ line m none.
        elim (Contains-push_cases readers reader line m) [
          | inl before ↦ elim (cases_eq line reader) [
            | inl same ↦ absurd (some (sym at_reader ∙ (ap (λ l. get_or less l 0) (sym same) ∙ none)))
            | inr ne ↦ is.all line before (sym (at_other line ne) ∙ none)
          ]
          | inr here ↦ absurd (some (sym at_reader ∙ (ap (λ l. get_or less l 0) here ∙ none)))
        ];
    ready = record {
      closed = λ line m. at_other line (not_ready line m) ∙ is.ready.closed line m;
      distinct = is.ready.distinct;
    };
  }

  told_ready : get_or waits reader 0 - 1 ≡ 0 → IsTold (readers ++ reader ∷ []) old less order (longer ++ reader ∷ [])
  told_ready last = record {
    whole = length-less;
    fewer = told_fewer;
    more = is.more ++ reader ∷ [];
    extends = ap (λ xs. xs ++ reader ∷ []) is.extends ∙ append_assoc order is.more (reader ∷ []);
    only = λ line m.
        elim (Contains-push_cases is.more reader line m) [
          | inl before ↦ Contains-append_left readers (reader ∷ []) line (is.only line before)
          | inr here ↦ subst (Contains (readers ++ reader ∷ [])) here (Contains-push readers reader)
        ];
    all = λ line m none.
        elim (Contains-push_cases readers reader line m) [
          | inl before ↦ elim (cases_eq line reader) [
            | inl same ↦ subst (Contains (longer ++ reader ∷ [])) (sym same) (Contains-push longer reader)
            | inr ne ↦ Contains-append_left longer (reader ∷ []) line (is.all line before (sym (at_other line ne) ∙ none))
          ]
          | inr here ↦ subst (Contains (longer ++ reader ∷ [])) here (Contains-push longer reader)
        ];
    ready = ready_more less longer reader (λ line m. at_other line (not_ready line m) ∙ is.ready.closed line m) (at_reader ∙ last) not_ready is.ready.distinct;
  }

  -- the step of the loop over readers, for the values that it leaves
  pub told_closed : (left : ℕ) (o l : List ℕ) → left ≡ get_or waits reader 0 - 1 → o ≡ set waits reader left → (left ≢ 0) × (l ≡ longer) → IsTold (readers ++ reader ∷ []) old o order l
  unfolding less
  told_closed left o l e f (some, same) = rw (same, f, e) (told_open (λ none. some (e ∙ none)))

  pub told_queued : (left : ℕ) (o l : List ℕ) → left ≡ get_or waits reader 0 - 1 → o ≡ set waits reader left → (left ≡ 0) × (l ≡ longer ++ reader ∷ []) → IsTold (readers ++ reader ∷ []) old o order l
  unfolding less
  told_queued left o l e f (none, same) = rw (same, f, e) (told_ready (sym e ∙ none))

module _ (readers : List ℕ) {old waits order longer : List ℕ} (i : ℕ) (h : i < length readers) (enough : (line : ℕ) → count_of line readers ≤ get_or old line 0) (is : IsTold (take i readers) old waits order longer) where
  pub reader_is_open : 0 < get_or waits (get_or readers i 0) 0
  reader_is_open = is_open (take i readers) old waits order longer (get_or readers i 0) is (enough_so_far readers old i h enough)

  pub reader_is_line : get_or readers i 0 < length waits
  reader_is_line = reader_inside (take i readers) old waits order longer (get_or readers i 0) is (enough_so_far readers old i h enough)

-- ---- the readers of one gate are told

take_longer : (i j : ℕ) (xs : List ℕ) (x : ℕ) → i ≤ j → Contains (take i xs) x → Contains (take j xs) x
take_longer i j xs x le (k, h, e) =
    let short = length-take i xs in
    let long = length-take j xs in
    (k, omega (arith, h, short, long), get_or-take j xs k x (omega (arith, h, short)) ∙ (sym (get_or-take i xs k x (omega (arith, h, short))) ∙ e))

module _ (c : Circuit) (readers : List (List ℕ)) (are : AreReaders c readers) (head : ℕ) (waits order : List ℕ) (is : IsQueue c (take head order) waits order) (here : head < length order) where
  pub head_gate : (c.sources ≤ get_or order head 0) × (get_or order head 0 < line_count c)
  head_gate = is.gates (get_or order head 0) (Contains-get_or order head 0 here)

  untold : is_told c.sources (take head order) (get_or order head 0) ≡ false
  untold =
      false_from_ne_true (is_told c.sources (take head order) (get_or order head 0))
      (λ t. elim (told_is c.sources (take head order) (get_or order head 0) t) [
        | inl source ↦ absurd (omega (arith, head_gate.0))
        | inr (k, h, e) ↦
            let short : k < head = omega (arith, h, length-take head order) in
            let there : get_or order k 0 ≡ get_or order head 0 = get_or_default order k 0 (get_or order head 0) (omega arith) ∙ (sym (get_or-take head order k (get_or order head 0) short) ∙ e) in
            absurd (is.ready.distinct k head short here there)
      ])

  split : (line : ℕ) → open_pins c.sources (take head order) (pins_of c line) ≡ open_pins c.sources (take (head + 1) order) (pins_of c line) + count_of (get_or order head 0) (pins_of c line)
  split line =
      open_split c.sources (take head order) (get_or order head 0) untold (pins_of c line)
      ∙ ap (λ told. open_pins c.sources told (pins_of c line) + count_of (get_or order head 0) (pins_of c line)) (sym (take_more order head 0 here))

  reads : (line : ℕ) → 0 < count_of line (users_at readers (get_or order head 0)) → (c.sources ≤ line) × (line < line_count c)
  reads line some =
      reader_is_gate c (get_or order head 0) line (count_has (get_or order head 0) (pins_of c line) (omega (arith, some, are.each (get_or order head 0) line head_gate.1)))

  pub enough : (line : ℕ) → count_of line (users_at readers (get_or order head 0)) ≤ get_or waits line 0
  enough line =
      elim (cases_eq (count_of line (users_at readers (get_or order head 0))) 0) [
        | inl none ↦ omega (arith, none)
        | inr some ↦
            let gate = reads line (omega (arith, some)) in
            omega (arith, are.each (get_or order head 0) line head_gate.1, is.counts line gate.1, split line)
      ]

  module _ (fewer longer : List ℕ) (told : IsTold (users_at readers (get_or order head 0)) waits fewer order longer) where
    prefix : take (head + 1) longer ≡ take (head + 1) order
    prefix = ap (take (head + 1)) told.extends ∙ take-append-le (head + 1) order told.more (omega arith)

    counts : (line : ℕ) → line < line_count c → get_or fewer line 0 ≡ open_pins c.sources (take (head + 1) longer) (pins_of c line)
    counts line below =
        let same : get_or fewer line 0 ≡ open_pins c.sources (take (head + 1) order) (pins_of c line) =
        omega (arith, told.fewer line, are.each (get_or order head 0) line head_gate.1, is.counts line below, split line) in
        same ∙ ap (λ t. open_pins c.sources t (pins_of c line)) (sym prefix)

    gates : (line : ℕ) → Contains longer line → (c.sources ≤ line) × (line < line_count c)
    gates line m =
        elim (Contains-append_cases order told.more line (subst (λ xs. Contains xs line) told.extends m)) [
          | inl before ↦ is.gates line before
          | inr new ↦ reads line (has_count line (users_at readers (get_or order head 0)) (told.only line new))
        ]

    pub queue_step : IsQueue c (take (head + 1) longer) fewer longer
    queue_step = record {
      whole = told.whole ∙ is.whole;
      counts = counts;
      gates = gates;
      all = λ line above below none.
          elim (cases_eq (count_of line (users_at readers (get_or order head 0))) 0) [
            | inl unread ↦
                subst (λ xs. Contains xs line) (sym told.extends)
                (Contains-append_left order told.more line (is.all line above below (omega (arith, told.fewer line, unread, none))))
            | inr some ↦ told.all line (count_has line (users_at readers (get_or order head 0)) (omega (arith, some))) none
          ];
      ready = told.ready;
      after = λ at pin h m.
          elim (cases_lt at (length order)) [
            | inl below ↦
                let same : get_or longer at 0 ≡ get_or order at 0 = ap (λ xs. get_or xs at 0) told.extends ∙ get_or_append_left order told.more 0 at below in
                let first : take at longer ≡ take at order = ap (take at) told.extends ∙ take-append-le at order told.more (omega arith) in
                elim (is.after at pin below (subst (Feeds c pin) same m)) [
                  | inl source ↦ inl source
                  | inr before ↦ inr (subst (λ xs. Contains xs pin) (sym first) before)
                ]
            | inr above ↦
                let has = Contains-get_or longer at 0 h in
                let none = sym (counts (get_or longer at 0) (gates (get_or longer at 0) has).1) ∙ told.ready.closed (get_or longer at 0) has in
                elim (told_is c.sources (take (head + 1) longer) pin (none_open c.sources (take (head + 1) longer) (pins_of c (get_or longer at 0)) none pin m)) [
                  | inl source ↦ inl source
                  | inr before ↦ inr (take_longer (head + 1) at longer pin (omega arith) before)
                ]
          ];
    }

-- ---- the start

pub source_pins : (c : Circuit) (line : ℕ) → line < c.sources → pins_of c line ≡ []
source_pins c line h = let t : nat_lt line c.sources ≡ true = lt-ltb line c.sources h in rw t refl

-- The queue of the gates below n at the start.
pub record IsStart (c : Circuit) (n : ℕ) (waits order : List ℕ) : Type 0 where
  pub whole : length waits ≡ n
  pub counts : (line : ℕ) → line < n → get_or waits line 0 ≡ open_pins c.sources [] (pins_of c line)
  pub gates : (line : ℕ) → Contains order line → (c.sources ≤ line) × (line < n)
  pub all : (line : ℕ) → c.sources ≤ line → line < n → get_or waits line 0 ≡ 0 → Contains order line
  pub ready : AreReady waits order

pub start_none : (c : Circuit) (waits : List ℕ) → waits ≡ replicate c.sources 0 → IsStart c c.sources waits []
start_none c waits e = record {
  whole = ap length e ∙ length-replicate {A = ℕ} c.sources 0;
  counts = λ line h. ap (λ xs. get_or xs line 0) e ∙ (get_or-replicate {A = ℕ} c.sources line 0 0 h ∙ ap (open_pins c.sources []) (sym (source_pins c line h)));
  gates = λ line (k, h, _). absurd (omega (arith, h));
  all = λ line above below none. absurd (omega arith);
  ready = record { closed = λ line (k, h, _). absurd (omega (arith, h)); distinct = λ j k lt h. absurd (omega arith) };
}

module _ (c : Circuit) (n : ℕ) (waits order : List ℕ) (is : IsStart c n waits order) (from : c.sources ≤ n) (pins : ℕ) (pins_is : pins ≡ open_pins c.sources [] (pins_of c n)) where
  more : List ℕ
  more = waits ++ pins ∷ []

  below_same : (line : ℕ) → line < n → get_or more line 0 ≡ get_or waits line 0
  unfolding more
  below_same line h = get_or_append_left waits (pins ∷ []) 0 line (omega (arith, is.whole))

  at_end : get_or more n 0 ≡ pins
  unfolding more
  at_end = get_or_push waits pins 0 n is.whole

  length-more : length more ≡ n + 1
  unfolding more
  length-more = length-append waits (pins ∷ []) ∙ omega (arith, is.whole)

  counts_more : (line : ℕ) → line < n + 1 → get_or more line 0 ≡ open_pins c.sources [] (pins_of c line)
  counts_more line h =
      elim (cases_eq n line) [
        | inl same ↦ subst (λ l. get_or more l 0 ≡ open_pins c.sources [] (pins_of c l)) same (at_end ∙ pins_is)
        | inr ne ↦ below_same line (omega arith) ∙ is.counts line (omega arith)
      ]

  closed_before : (line : ℕ) → Contains order line → get_or more line 0 ≡ 0
  closed_before line m = below_same line (is.gates line m).1 ∙ is.ready.closed line m

  start_open : pins ≢ 0 → IsStart c (n + 1) more order
  start_open some = record {
    whole = length-more;
    counts = counts_more;
    gates = λ line m. let g = is.gates line m in (g.0, omega (arith, g));
    all = λ line above below none.
        elim (cases_eq n line) [
          | inl same ↦ absurd (some (sym at_end ∙ (ap (λ l. get_or more l 0) same ∙ none)))
          | inr ne ↦ is.all line above (omega arith) (sym (below_same line (omega arith)) ∙ none)
        ];
    ready = record { closed = closed_before; distinct = is.ready.distinct };
  }

  start_ready : pins ≡ 0 → IsStart c (n + 1) more (order ++ n ∷ [])
  start_ready none_is = record {
    whole = length-more;
    counts = counts_more;
    gates = λ line m.
        elim (Contains-push_cases order n line m) [
          | inl before ↦ let g = is.gates line before in (g.0, omega (arith, g))
          | inr here ↦ (omega arith, omega arith)
        ];
    all = λ line above below none.
        elim (cases_eq n line) [
          | inl same ↦ subst (Contains (order ++ n ∷ [])) same (Contains-push order n)
          | inr ne ↦ Contains-append_left order (n ∷ []) line (is.all line above (omega arith) (sym (below_same line (omega arith)) ∙ none))
        ];
    ready = ready_more more order n closed_before (at_end ∙ none_is) (λ line m e. absurd (omega (arith, (is.gates line m).1, e))) is.ready.distinct;
  }

  -- the step of the loop over gates, for the values that it leaves
  pub start_more : (o l : List ℕ) → o ≡ waits ++ pins ∷ [] → ((pins ≡ 0) × (l ≡ order ++ n ∷ [])) ⊎ ((pins ≢ 0) × (l ≡ order)) → IsStart c (n + 1) o l
  unfolding more
  start_more o l e (inl (none, f)) = rw (e, f) (start_ready none)
  start_more o l e (inr (some, f)) = rw (e, f) (start_open some)

pub start_done : (c : Circuit) (waits order : List ℕ) → IsStart c (line_count c) waits order → IsQueue c [] waits order
start_done c waits order is = record {
  whole = is.whole;
  counts = is.counts;
  gates = is.gates;
  all = is.all;
  ready = is.ready;
  after = λ at pin h m.
      let has = Contains-get_or order at 0 h in
      let none = sym (is.counts (get_or order at 0) (is.gates (get_or order at 0) has).1) ∙ is.ready.closed (get_or order at 0) has in
      elim (told_is c.sources [] pin (none_open c.sources [] (pins_of c (get_or order at 0)) none pin m)) [
        | inl source ↦ inl source
        | inr (k, within, _) ↦ absurd (omega (arith, within))
      ];
}
