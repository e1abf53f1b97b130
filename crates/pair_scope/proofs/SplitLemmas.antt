-- The split lines, found by their places starting at the first changed ones.
use Rattle.std.proofs.Common.{◌≡◌, ◌≢◌, ℕ, ◌+◌, ◌-◌, ◌<◌, ◌≤◌, ◌⊎◌, List, [], ◌∷◌, ◌++◌, length, take, get_or, set, refl, sym, ◌∙◌, ap, subst, arith, inl, inr}
use Rattle.std.specs.Prelude.{Bool, true, false, Some, filter}
use Rattle.std.specs.Cmp.{both_ways}
use Rattle.std.specs.Option.{option_map_or}
use Rattle.std.proofs.lemmas.Bool.{cases_eq, eq-eqb, false_from_ne_true, or_left, or_right}
use Rattle.std.proofs.lemmas.List.{get_or-set_same, get_or-set_other, take_all}
use Rattle.net_model.specs.declared.fault.Fault.{Fault}
use Rattle.net_model.specs.Circuit.{Circuit, line_count, Feeds}
use Rattle.net_model.specs.Answer.{bit_at}
use Rattle.net_model.specs.Scope.{first_changed, is_split, leads_within, leads_to, reaches_line}
use Rattle.net_model.specs.Wiring.{Wiring}
use Rattle.net_model.proofs.Elements.{true_false}
use Rattle.net_model.proofs.Orders.{reader_is_gate}
use Rattle.net_model.proofs.ScopeLaws.{leads_here, marked_split, split_is_closed}
use Rattle.event_queue.specs.Pending.{is_pending, IsEmpty, IsLowest}
use Rattle.event_queue.proofs.Marks.{lowest_left}
use Rattle.pair_scope.specs.Places.{ArePlacesOf, AreWokenFrom, HasBegun}
use Rattle.pair_scope.proofs.PlaceLemmas.{lines_count, line_inside, place_of, same_place, stands_before}
use Rattle.net_model.proofs.Filtered.{filter_gap, filter_next}

-- ---- split lines

reached_first : (c : Circuit) (f : Fault) (line : ℕ) → first_changed f ≡ Some line → reaches_line c f line ≡ true
unfolding reaches_line leads_to
reached_first c f line e = ap (λ o. option_map_or (λ from. leads_within c (length c.gates) from line) o false) e ∙ leads_here c (length c.gates) line line (eq-eqb line line refl)

-- The line is the first that one of two faults changes.
abbrev pub Begins : Fault → Fault → ℕ → Type 0
Begins f g line = (first_changed f ≡ Some line) ⊎ (first_changed g ≡ Some line)

split_first : (c : Circuit) (f g : Fault) (line : ℕ) → Begins f g line → is_split c f g line ≡ true
unfolding is_split
split_first c f g line begins = elim begins [
  | inl e ↦ or_left (reaches_line c f line) (reaches_line c g line) (reached_first c f line e)
  | inr e ↦ or_right (reaches_line c f line) (reaches_line c g line) (reached_first c g line e)
]

-- ---- while lines wait

-- The lines at the places below `from` have been taken. A line that a fault changes first, or whose gate reads a marked
-- line, is marked or waits. Only split lines are marked or wait, and the marked ones are listed by their places.
pub record IsSplitSoFar (c : Circuit) (f g : Fault) (lines places : List ℕ) (from : ℕ) (queue marks : List Bool) (list : List ℕ) : Type 0 where
  pub sound : (line : ℕ) → bit_at marks line ≡ true → is_split c f g line ≡ true
  pub waiting : (place : ℕ) → is_pending queue place ≡ true → is_split c f g (get_or lines place 0) ≡ true
  pub begun : (line : ℕ) → line < line_count c → Begins f g line → (bit_at marks line ≡ true) ⊎ (is_pending queue (get_or places line 0) ≡ true)
  pub onward : (read reader : ℕ) → bit_at marks read ≡ true → Feeds c read reader → (bit_at marks reader ≡ true) ⊎ (is_pending queue (get_or places reader 0) ≡ true)
  pub behind : (place : ℕ) → from ≤ place → place < line_count c → bit_at marks (get_or lines place 0) ≡ false
  pub listed : (test : ℕ → Bool) → ((place : ℕ) → place < from → test (get_or lines place 0) ≡ bit_at marks (get_or lines place 0)) → list ≡ filter test (take from lines)
  pub low : (place : ℕ) → place < from → is_pending queue place ≡ false
  pub from_within : from ≤ line_count c

module _ (c : Circuit) (f g : Fault) (wiring : Wiring) (lines places : List ℕ) (is : ArePlacesOf c wiring lines places) where
  -- at first the lines that the faults change first wait
  pub split_none : (none first second marks : List Bool) (list : List ℕ) → IsEmpty none → HasBegun f lines places none first → HasBegun g lines places first second
      → ((line : ℕ) → bit_at marks line ≡ false) → list ≡ [] → IsSplitSoFar c f g lines places 0 second marks list
  split_none none first second marks list empty one two unmarked no_list = record {
    sound = λ line t. true_false (bit_at marks line) t (unmarked line);
    waiting = λ place t. split_first c f g (get_or lines place 0) (elim (two.only place t) [
      | inl was ↦ elim (one.only place was) [
        | inl before ↦ true_false (is_pending none place) before (empty place)
        | inr e ↦ inl e
      ]
      | inr e ↦ inr e
    ]);
    begun = λ line h begins. inr (elim begins [
      | inl e ↦ two.kept (get_or places line 0) (one.here line e)
      | inr e ↦ two.here line e
    ]);
    onward = λ read reader t feeds. true_false (bit_at marks read) t (unmarked read);
    behind = λ place h k. unmarked (get_or lines place 0);
    listed = λ test same. no_list;
    low = λ place h. absurd (omega (arith, h));
    from_within = omega arith;
  }

  module _ (from : ℕ) (queue marks : List Bool) (list : List ℕ) (so_far : IsSplitSoFar c f g lines places from queue marks list) where
    -- the lowest line that waits is marked, and its readers wait
    pub split_more : (taken more : List Bool) (place line : ℕ) → length marks ≡ line_count c → place < line_count c → from ≤ place → line ≡ get_or lines place 0 → IsLowest queue taken place → AreWokenFrom c line lines places taken more
        → IsSplitSoFar c f g lines places (place + 1) more (set marks line true) (list ++ line ∷ [])
    split_more taken more place line whole inside above at lowest woken =
        let new = set marks line true in
        let within : line < length marks = subst (λ l. l < length marks) (sym at) (let h = line_inside c wiring is.wired lines is.are place inside in omega (arith, h, whole)) in
        let here : bit_at new line ≡ true = get_or-set_same marks line true false within in
        let others : (l : ℕ) → l ≢ line → bit_at new l ≡ bit_at marks l = λ l ne. get_or-set_other marks line l true false ne in
        let stays : (l : ℕ) → bit_at marks l ≡ true → bit_at new l ≡ true = λ l t. elim (cases_eq l line) [
          | inl same ↦ ap (bit_at new) same ∙ here
          | inr ne ↦ others l ne ∙ t
        ] in
        let split : is_split c f g line ≡ true = ap (is_split c f g) at ∙ so_far.waiting place lowest.was in
        let still : (l : ℕ) → l < line_count c → is_pending queue (get_or places l 0) ≡ true → (bit_at new l ≡ true) ⊎ (is_pending more (get_or places l 0) ≡ true) =
        λ l h t. elim (cases_eq (get_or places l 0) place) [
          | inl same ↦ inl (ap (bit_at new) (sym (place_of c wiring lines places is l h).1 ∙ ap (λ p. get_or lines p 0) same ∙ sym at) ∙ here)
          | inr ne ↦ inr (woken.kept (get_or places l 0) (lowest.others (get_or places l 0) ne ∙ t))
        ] in
        let apart : (p : ℕ) → p < line_count c → p ≢ place → get_or lines p 0 ≢ line = λ p h ne e. ne (same_place c wiring lines places is p place h inside (e ∙ at)) in
        record {
          sound = λ l t. elim (cases_eq l line) [
            | inl same ↦ ap (is_split c f g) same ∙ split
            | inr ne ↦ so_far.sound l (sym (others l ne) ∙ t)
          ];
          waiting = λ p t. elim (woken.only p t) [
            | inl was ↦ so_far.waiting p (lowest_left queue taken place lowest p was).1
            | inr (h, feeds) ↦ split_onward line (get_or lines p 0) feeds split
          ];
          begun = λ l h begins. elim (so_far.begun l h begins) [
            | inl marked ↦ inl (stays l marked)
            | inr waits ↦ still l h waits
          ];
          onward = λ read reader t feeds. elim (cases_eq read line) [
            | inl own ↦ inr (woken.here reader (subst (λ l. Feeds c l reader) own feeds))
            | inr ne ↦ elim (so_far.onward read reader (sym (others read ne) ∙ t) feeds) [
              | inl marked ↦ inl (stays reader marked)
              | inr waits ↦ still reader (reader_is_gate c read reader feeds).1 waits
            ]
          ];
          behind = λ p h k. others (get_or lines p 0) (apart p k (let ne : p ≢ place = omega (arith, h) in ne)) ∙ so_far.behind p (omega (arith, h, above)) k;
          listed = λ test same.
              let count = lines_count c wiring is.wired lines is.are in
              let before : (p : ℕ) → p < place → test (get_or lines p 0) ≡ bit_at marks (get_or lines p 0) =
              λ p h. same p (omega (arith, h)) ∙ others (get_or lines p 0) (apart p (omega (arith, h, inside)) (let ne : p ≢ place = omega (arith, h) in ne)) in
              ap (λ xs. xs ++ line ∷ []) (so_far.listed test (λ p h. before p (omega (arith, h, above))))
              ∙ ap (λ l. filter test (take from lines) ++ l ∷ []) at
              ∙ sym (filter_next test lines from place above (omega (arith, count, inside)) (λ p low h. before p h ∙ so_far.behind p low (omega (arith, h, inside)))
              (same place (omega arith) ∙ ap (bit_at new) (sym at) ∙ here));
          low = λ p h. false_from_ne_true (is_pending more p) (λ t. elim (woken.only p t) [
            | inl was ↦ let up = (lowest_left queue taken place lowest p was).0 in omega (arith, up, h)
            | inr (k, feeds) ↦ let up = stands_before c wiring is.wired lines is.are place p inside k (subst (λ l. Feeds c l (get_or lines p 0)) at feeds) in omega (arith, up, h)
          ]);
          from_within = omega (arith, inside);
        }
      where
        split_onward : (read l : ℕ) → Feeds c read l → is_split c f g read ≡ true → is_split c f g l ≡ true
        split_onward read l m e = by (is_split c f g l) refl
          where
            by : (b : Bool) → is_split c f g l ≡ b → b ≡ true
            by true t = refl
            by false t = true_false (is_split c f g read) e ((split_is_closed c is.wired.circuit.acyclic f g).onward read l m t)

    module _ (none : IsEmpty queue) where
      marked_next : (read reader : ℕ) → bit_at marks read ≡ true → Feeds c read reader → bit_at marks reader ≡ true
      marked_next read reader t feeds = elim (so_far.onward read reader t feeds) [
        | inl marked ↦ marked
        | inr waits ↦ true_false (is_pending queue (get_or places reader 0)) waits (none (get_or places reader 0))
      ]

      module _ (inside : (start : ℕ) → Begins f g start → start < line_count c) where
        marked_first : (start : ℕ) → Begins f g start → bit_at marks start ≡ true
        marked_first start begins = elim (so_far.begun start (inside start begins) begins) [
          | inl marked ↦ marked
          | inr waits ↦ true_false (is_pending queue (get_or places start 0)) waits (none (get_or places start 0))
        ]

        -- if none waits, exactly the split lines are marked
        pub split_marks : (line : ℕ) → bit_at marks line ≡ is_split c f g line
        split_marks line = both_ways (bit_at marks line) (is_split c f g line) (so_far.sound line)
            (marked_split c marks marked_next f g (λ start e. marked_first start (inl e)) (λ start e. marked_first start (inr e)) line)

        -- if none waits, the split lines are listed
        pub split_list : list ≡ filter (is_split c f g) lines
        split_list =
            let test = is_split c f g in
            let count = lines_count c wiring is.wired lines is.are in
            let all : ℕ = length lines in
            so_far.listed test (λ p h. sym (split_marks (get_or lines p 0)))
            ∙ sym (filter_gap test lines (all - from) from all (omega (arith, so_far.from_within, count)) (omega arith) (λ p low h. sym (split_marks (get_or lines p 0)) ∙ so_far.behind p low (omega (arith, h, count))))
            ∙ ap (filter test) (take_all all lines (omega arith))
