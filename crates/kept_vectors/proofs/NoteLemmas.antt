-- What is noted of numbers: one number more, and whole groups.
use Rattle.std.proofs.Common.{◌≡◌, ◌↔◌, ℕ, zero, suc, ◌+◌, ◌-◌, Option, None, lt-ltb, le-ltb, ◌<◌, ◌≤◌, Bool, true, false, ◌&&◌, ◌||◌, eqb, List, [], ◌∷◌, ◌++◌, map, take, drop, length, get_or, set, refl, sym, ap, subst, ◌∙◌, arith, inl, inr}
use Rattle.std.specs.Prelude.{Some, All, Contains, slice_get, slice_range}
use Rattle.std.specs.List.{list_any, AllPairs}
use Rattle.std.proofs.lemmas.Bool.{cases_Bool, and_parts, and_from, cases_lt, ne_eqb, or_cases, or_left, or_right, eqb-true, eq-eqb, false≢true}
use Rattle.std.proofs.lemmas.List.{drop-append-le, take-append-le, take_all, length-append, length-drop, length-map, length-set, get_or-map, get_or-set_same, get_or-set_other}
use Rattle.std.proofs.lemmas.List.Elements.{All-map, All-head, All-tail}
use Rattle.std.proofs.lemmas.Option.{get_or_from_slice_get, slice_get_within}
use Rattle.std.specs.Cmp.Derive.{one_truth}
use Rattle.net_model.specs.declared.fault.Fault.{Fault}
use Rattle.net_model.specs.declared.fault.Fault.TheVariants.{Free}
use Rattle.net_model.specs.Circuit.{Circuit, IsCircuit, line_count}
use Rattle.net_model.specs.Fault.{IsFaultOf}
use Rattle.net_model.specs.FaultList.{faults, fault_count, fault_numbered}
use Rattle.net_model.specs.Answer.{bit_at, IsAnswer}
use Rattle.net_model.proofs.OneAnswer.{one_answer}
use Rattle.net_model.proofs.Evaluation.{Agrees-exists}
use Rattle.net_model.proofs.Listed.{listed as all_stand}
use Rattle.word_sim.specs.declared.lanes.TheConstants.{LANES}
use Rattle.word_sim.specs.GoodSim.{GoodSim, vectors_of}
use Rattle.fault_heads.specs.Turned.{vector_at, IsFreeLane, IsHeadOf, turned_if}
use Rattle.fault_heads.specs.declared.head.Head.{Head}
use Rattle.fault_heads.specs.declared.head.Head.TheVariants as heads
use Rattle.fault_heads.specs.declared.head.Turn.{Turn}
use Rattle.fault_sim.specs.Rows.{IsFalse, IsTrueSomewhere}
use Rattle.fault_sim.specs.FaultSim.{FaultSim, lanes_at, AreTurnedDifferences, IsDifference}
use Rattle.kept_vectors.specs.declared.notes.Note.{Note}
use Rattle.kept_vectors.specs.declared.notes.Shown.{Shown}
use Rattle.kept_vectors.specs.Notes.{has_lane, is_noted, AreAscending, AreNotesAt, IsDifferenceOf, IsReportOf, IsHeadReport, IsShownAs, noted_in, nothing_shown, AreNotedAlike, AreAlikeAt, AreRootsOf, Noted, place_of, head_at, head_notes, turn_of, lane_notes, number_notes, IsPlaceShown, IsTurnShown, IsTurnNeeded, IsNumberAsked, IsPlaceNoted, IsNumberNoted}
use Rattle.class_refine.proofs.PatternTables.{answer_exists}
use Rattle.kept_vectors.proofs.AnswerLemmas.{alike_by_differences, same_difference}

-- ---- the notes of one number

-- the note of a position
abbrev pub note_at : FaultSim → ℕ → Note
note_at sim position = record { position = position; lanes = lanes_at sim position }

module _ (sim : FaultSim) (lane position : ℕ) where
  any_row : (listed : List ℕ) → list_any (has_lane lane position) (map (note_at sim) listed) ≡ true → bit_at (lanes_at sim position) lane ≡ true
  any_row [] e = absurd (false≢true e)
  any_row (q ∷ listed) e =
      elim (or_cases (has_lane lane position (note_at sim q)) (list_any (has_lane lane position) (map (note_at sim) listed)) e) [
        | inr later ↦ any_row listed later
        | inl here ↦
            let both = and_parts (eqb q position) (bit_at (lanes_at sim q) lane) here in
            ap (λ (p : ℕ). bit_at (lanes_at sim p) lane) (sym (eqb-true q position both.0)) ∙ both.1
      ]

  row_any : (listed : List ℕ) → Contains listed position → bit_at (lanes_at sim position) lane ≡ true → list_any (has_lane lane position) (map (note_at sim) listed) ≡ true
  row_any [] (k, h, is) e = absurd (omega (arith, h))
  row_any (q ∷ listed) (zero, h, is) e =
      or_left (has_lane lane position (note_at sim q)) (list_any (has_lane lane position) (map (note_at sim) listed))
      (and_from (eqb q position) (bit_at (lanes_at sim q) lane) (eq-eqb q position is) (ap (λ (p : ℕ). bit_at (lanes_at sim p) lane) is ∙ e))
  row_any (q ∷ listed) (suc k, h, is) e =
      or_right (has_lane lane position (note_at sim q)) (list_any (has_lane lane position) (map (note_at sim) listed)) (row_any listed (k, omega (arith, h), is) e)

-- the notes of all positions that differ
pub notes_of : (sim : FaultSim) (listed : List ℕ) → All (λ position. position < length sim.circuit.positions) listed → AllPairs (λ x y. x < y) listed
    → ((position : ℕ) → position < length sim.circuit.positions → Contains listed position ↔ IsTrueSomewhere (lanes_at sim position)) → AreNotesAt sim (map (note_at sim) listed)
notes_of sim listed within ascend exactly = record {
  positions = All-map (λ (note : Note). note.position < length sim.circuit.positions) (note_at sim) listed within;
  ascend = ascend_map listed ascend;
  noted = λ position lane h few.
      one_truth (is_noted (map (note_at sim) listed) lane position) (bit_at (lanes_at sim position) lane) (any_row sim lane position listed)
      (λ e. row_any sim lane position listed ((exactly position h).1 (lane, few, e)) e);
}
  where
    ascend_map : (ps : List ℕ) → AllPairs (λ x y. x < y) ps → AreAscending (map (note_at sim) ps)
    ascend_map ps up i j d less below =
        let h : j < length ps = omega (arith, below, length-map ps (note_at sim)) in
        rw (get_or-map (note_at sim) ps i 0 d (omega (arith, less, h)), get_or-map (note_at sim) ps j 0 d h) (up i j 0 less h)

-- these notes report the head that was turned
pub head_report : (good : GoodSim) (sim : FaultSim) (head : Head) (row : List Bool) (notes : List Note) → sim.circuit ≡ good.circuit → AreTurnedDifferences good head row sim.differences → AreNotesAt sim notes → IsHeadReport good head row notes
head_report good sim head row notes same differ are = record {
  positions = subst (λ c. All (λ note. note.position < length c.positions) notes) same are.positions;
  ascend = are.ascend;
  differ = λ position lane free h live.
      let noted = are.noted position lane (subst (λ c. position < length c.positions) (sym same) h) live.within in
      subst (λ b. IsDifference good.circuit (turned_if good.circuit free head (bit_at row lane)) (vector_at good lane) position b) (sym noted) (differ.live position lane free h live);
}

-- ---- notes after notes

drop_all_append : {X : Type 0} (xs ys : List X) → drop (length xs) (xs ++ ys) ≡ ys
drop_all_append [] ys = refl
drop_all_append (x ∷ xs) ys = drop_all_append xs ys

-- a part of a list is the same part of a longer one
pub range_longer : {X : Type 0} (xs ys : List X) (a b : ℕ) → a ≤ b → b ≤ length xs → slice_range (xs ++ ys) a b ≡ slice_range xs a b
range_longer xs ys a b low high =
    ap (take (b - a)) (drop-append-le a xs ys (omega (arith, low, high))) ∙ take-append-le (b - a) (drop a xs) ys (omega (arith, low, high, length-drop a xs))

-- the part after a list
pub range_behind : {X : Type 0} (xs ys : List X) (a b : ℕ) → a ≡ length xs → b ≡ length (xs ++ ys) → slice_range (xs ++ ys) a b ≡ ys
range_behind {X} xs ys a b start end =
    ap (λ (n : ℕ). take (b - a) (drop n (xs ++ ys))) start ∙ ap (take (b - a)) (drop_all_append xs ys) ∙ take_all (b - a) ys (omega (arith, start, end, length-append xs ys))

-- ---- the heads of places

-- a part that is noted is noted still after more notes came
pub shown_later : {good : GoodSim} {head : Head} {row : List Bool} {old notes : List Note} {shown : Shown} (more : List Note) → notes ≡ old ++ more → IsShownAs good head row old shown → IsShownAs good head row notes shown
shown_later {good} {head} {row} {old} {notes} {shown} more longer is =
    let same : noted_in notes shown ≡ noted_in old shown = ap (λ (ns : List Note). noted_in ns shown) longer ∙ range_longer old more shown.start shown.end is.within.0 is.within.1 in
    record {
      within = (is.within.0, omega (arith, is.within.1, length-append old more, ap length longer));
      report = rw same is.report;
      any = rw same is.any;
    }

-- the place whose part is set, and another
pub place_here : (good : GoodSim) (needs : List (List Bool)) (notes : List Note) (shown : List Shown) (place : ℕ) (part : Shown) → place < length shown → IsShownAs good (head_at (line_count good.circuit) place) (get_or needs place []) notes part → IsPlaceNoted good needs notes (set shown place part) place
place_here good needs notes shown place part inside is =
    let at : get_or (set shown place part) place nothing_shown ≡ part = get_or-set_same shown place part nothing_shown inside in
    record { below = omega (arith, inside, length-set shown place part); shows = rw at is }

pub place_later : (good : GoodSim) (needs : List (List Bool)) (old more notes : List Note) (shown : List Shown) (place : ℕ) (part : Shown) → notes ≡ old ++ more → (other : ℕ) → other < place → IsPlaceNoted good needs old shown other → IsPlaceNoted good needs notes (set shown place part) other
place_later good needs old more notes shown place part longer other less is =
    let at : get_or (set shown place part) other nothing_shown ≡ get_or shown other nothing_shown = get_or-set_other shown place other part nothing_shown (omega (arith, less)) in
    record { below = omega (arith, is.below, length-set shown place part); shows = rw at (shown_later more longer is.shows) }

-- without a fault nothing differs
free_difference : (c : Circuit) → IsCircuit c → (v : List Bool) (position : ℕ) → IsDifference c Free v position false
free_difference c is v position answer free a b = (λ e. absurd (false≢true e), λ ne. absurd (ne (ap (λ (xs : List Bool). bit_at xs position) (one_answer c is Free v answer free a b))))

-- a head that isn't needed shows nothing
pub nothing_needed : (good : GoodSim) → IsCircuit good.circuit → (head : Head) (row : List Bool) (notes : List Note) (any : List Bool) → IsFalse row → ((lane : ℕ) → lane < LANES → bit_at any lane ≡ false) → IsShownAs good head row notes (record { start = 0; end = 0; any = any })
nothing_needed good is head row notes any off none = record {
  within = (omega arith, omega arith);
  report = record {
    positions = λ k d h. absurd (omega (arith, h));
    ascend = λ i j d less h. absurd (omega (arith, h));
    differ = λ position lane free h live. rw (off lane live.within) (free_difference good.circuit is (vector_at good lane) position);
  };
  any = λ lane h. (λ e position. refl, λ same. none lane h);
}

-- the head of the place of a head is this head
pub head_back : (c : Circuit) (head : Head) → IsHeadOf c head → head_at (line_count c) (place_of (line_count c) head) ≡ head
head_back c (heads.Line line) inside = rw (lt-ltb line (line_count c) inside) refl
head_back c (heads.Position at) inside =
    let e : line_count c + at - line_count c ≡ at = omega arith in
    rw (le-ltb (line_count c + at) (line_count c) (omega arith)) (ap heads.Position e)

pub place_below : (c : Circuit) (head : Head) → IsHeadOf c head → place_of (line_count c) head < line_count c + length c.positions
place_below c (heads.Line line) inside = omega (arith, inside)
place_below c (heads.Position at) inside = omega (arith, inside)

-- ---- the notes of one number

module _ (good : GoodSim) (is : IsCircuit good.circuit) (few : length (vectors_of good) ≤ LANES) (needs : List (List Bool)) (noted : Noted) (lines : noted.lines ≡ line_count good.circuit)
    (places : (place : ℕ) → place < line_count good.circuit + length good.circuit.positions → IsPlaceNoted good needs noted.notes noted.shown place) (number : ℕ) where
  nothing_noted : (lane : ℕ) → ((answer : List Bool) → IsAnswer good.circuit (fault_numbered good.circuit number) (vector_at good lane) answer → IsAnswer good.circuit Free (vector_at good lane) answer) → IsReportOf good number lane []
  nothing_noted lane free = record {
    positions = λ k d h. absurd (omega (arith, h));
    ascend = λ i j d less h. absurd (omega (arith, h));
    differ = λ position h answer other a b. free_difference good.circuit is (vector_at good lane) position answer other (free answer a) b;
  }

  -- what is noted of a turn
  abbrev pub IsTurnNoted : Option Turn → Type 0
  IsTurnNoted turn = IsTurnShown noted turn × ((lane : ℕ) → lane < length (vectors_of good) → IsReportOf good number lane (lane_notes noted turn lane))

  pub turn_noted : (turn : Option Turn) → IsTurnNeeded good needs number turn → IsTurnNoted turn
  turn_noted None free = (tt, λ lane live. nothing_noted lane (λ answer a. subst (λ f. IsAnswer good.circuit f (vector_at good lane) answer) free a))
  turn_noted (Some turn) (inside, turns, needed) =
      let c = good.circuit in
      let place = place_of noted.lines turn.head in
      let below : place < line_count c + length c.positions = subst (λ (l : ℕ). place_of l turn.head < line_count c + length c.positions) (sym lines) (place_below c turn.head inside) in
      let back : head_at (line_count c) place ≡ turn.head = subst (λ (l : ℕ). head_at (line_count c) (place_of l turn.head) ≡ turn.head) (sym lines) (head_back c turn.head inside) in
      let one = places place below in
      let own : IsPlaceShown noted place = record { below = one.below; within = one.shows.within; ascend = one.shows.report.ascend; any = one.shows.any } in
      let report = one.shows.report in (
        own,
        λ lane live. elim (cases_Bool (bit_at turn.lanes lane)) [
          | inr off ↦
              let valued = Agrees-exists c Free (vector_at good lane) is in
              let free : IsFreeLane good lane valued.0 = record { within = omega (arith, live, few); live = live; agrees = valued.1 } in
              rw off (nothing_noted lane (λ answer a. subst (λ (b : Bool). IsAnswer c (turned_if c valued.0 turn.head b) (vector_at good lane) answer) off (turns lane valued.0 answer free a)))
          | inl on ↦
              let valued = Agrees-exists c Free (vector_at good lane) is in
              let free : IsFreeLane good lane valued.0 = record { within = omega (arith, live, few); live = live; agrees = valued.1 } in
              let need : bit_at (get_or needs place []) lane ≡ true = subst (λ (l : ℕ). bit_at (get_or needs (place_of l turn.head) []) lane ≡ true) (sym lines) (needed lane (omega (arith, live, few)) on) in
              let here : IsReportOf good number lane (head_notes noted place) = record {
                positions = report.positions;
                ascend = report.ascend;
                differ = λ position h answer other a b.
                    let by_head = report.differ position lane valued.0 h free in
                    let moved : IsDifference c (turned_if c valued.0 turn.head true) (vector_at good lane) position (is_noted (head_notes noted place) lane position) =
                    subst (λ (b : Bool). IsDifference c (turned_if c valued.0 turn.head b) (vector_at good lane) position (is_noted (head_notes noted place) lane position)) need
                    (subst (λ (h : Head). IsDifference c (turned_if c valued.0 h (bit_at (get_or needs place []) lane)) (vector_at good lane) position (is_noted (head_notes noted place) lane position)) back by_head) in
                    moved answer other (subst (λ (b : Bool). IsAnswer c (turned_if c valued.0 turn.head b) (vector_at good lane) answer) on (turns lane valued.0 answer free a)) b;
              } in
              rw on here
        ],
      )

-- what is noted of a number is noted of another that answers alike in the lane
report_alike : (good : GoodSim) → IsCircuit good.circuit → (m n lane : ℕ) (notes : List Note) → AreAlikeAt good lane n m → IsReportOf good m lane notes → IsReportOf good n lane notes
report_alike good is m n lane notes alike report = record {
  positions = report.positions;
  ascend = report.ascend;
  differ = λ position h answer free a b.
      let other = answer_exists good.circuit is (fault_numbered good.circuit m) (vector_at good lane) in
      report.differ position h answer free (subst (IsAnswer good.circuit (fault_numbered good.circuit m) (vector_at good lane)) (sym (alike answer other.0 a other.1)) other.1) b;
}

-- ---- alike

-- numbers with one root answer alike in each lane
pub alike_by_roots : (good : GoodSim) → IsCircuit good.circuit → (roots : List ℕ) → AreRootsOf good.circuit roots → All (λ v. length v ≡ good.circuit.sources) (vectors_of good) → (m n lane : ℕ) → m < fault_count good.circuit → n < fault_count good.circuit
    → get_or roots m 0 ≡ get_or roots n 0 → lane < length (vectors_of good) → AreAlikeAt good lane m n
alike_by_roots good is roots are widths m n lane hm hn e live first second a b = are.equal is m n hm hn e (vector_at good lane) first second (widths lane [] live) a b

-- if the root was asked, the number is noted
pub number_noted : (good : GoodSim) → IsCircuit good.circuit → length (vectors_of good) ≤ LANES → All (λ v. length v ≡ good.circuit.sources) (vectors_of good) → (needs : List (List Bool)) (noted : Noted) → noted.lines ≡ line_count good.circuit
    → ((place : ℕ) → place < line_count good.circuit + length good.circuit.positions → IsPlaceNoted good needs noted.notes noted.shown place) → AreRootsOf good.circuit noted.roots → (n : ℕ) → n < length noted.roots → IsNumberAsked good needs noted.turns (get_or noted.roots n 0) → IsNumberNoted good noted n
number_noted good is few widths needs noted lines places are n inside asked =
    let root = get_or noted.roots n 0 in
    let h : n < fault_count good.circuit = omega (arith, inside, are.whole) in
    let both = turn_noted good is few needs noted lines places root (turn_of noted n) asked.turn in
    record {
      notes = record { inside = inside; below = asked.below; shown = both.0 };
      report = λ lane live. report_alike good is root n lane (number_notes noted n lane) (alike_by_roots good is noted.roots are widths n root lane h (are.within n 0 inside) (sym (are.itself n h)) live) (both.1 lane live);
    }

none_beyond : (limit lane position : ℕ) (notes : List Note) → All (λ n. n.position < limit) notes → limit ≤ position → is_noted notes lane position ≡ false
none_beyond limit lane position [] all over = refl
none_beyond limit lane position (n ∷ notes) all over =
    let low = All-head (λ (m : Note). m.position < limit) n notes all in
    let other : eqb n.position position ≡ false = ne_eqb n.position position (λ e. omega (arith, e, low, over)) in
    let rest = none_beyond limit lane position notes (All-tail (λ (m : Note). m.position < limit) n notes all) over in
    λ i. (other i && bit_at n.lanes lane) || rest i

-- two numbers answer alike in a lane exactly if the same is noted
pub alike_by_notes : (good : GoodSim) → IsCircuit good.circuit → (m n lane : ℕ) (one other : List Note) → IsReportOf good m lane one → IsReportOf good n lane other → AreNotedAlike lane one other ↔ AreAlikeAt good lane m n
alike_by_notes good is m n lane one other first second = (
  λ same. alike_by_differences good.circuit is (fault_numbered good.circuit m) (fault_numbered good.circuit n) (vector_at good lane) (is_noted one lane)
      (λ position h. (first.differ position h, subst (λ b. IsDifferenceOf good n position lane b) (sym (same position)) (second.differ position h))),
  λ alike position. elim (cases_lt position (length good.circuit.positions)) [
    | inr over ↦ none_beyond (length good.circuit.positions) lane position one first.positions over ∙ sym (none_beyond (length good.circuit.positions) lane position other second.positions over)
    | inl h ↦
        let free = answer_exists good.circuit is Free (vector_at good lane) in
        let a = answer_exists good.circuit is (fault_numbered good.circuit m) (vector_at good lane) in
        let b = answer_exists good.circuit is (fault_numbered good.circuit n) (vector_at good lane) in
        same_difference (is_noted one lane position) (is_noted other lane position) (bit_at a.0 position) (bit_at b.0 position) (bit_at free.0 position) (first.differ position h a.0 free.0 a.1 free.1)
        (second.differ position h b.0 free.0 b.1 free.1) (ap (λ (xs : List Bool). bit_at xs position) (alike a.0 b.0 a.1 b.1))
  ],
)

-- ---- the fault list

-- what is got from the fault list is a fault of the circuit
pub listed_stands : (c : Circuit) (listed : List Fault) (number : ℕ) (fault : Fault) (circuit : Circuit) → listed ≡ faults c → slice_get listed number ≡ Some fault → circuit ≡ c → IsFaultOf circuit fault
listed_stands c listed number fault circuit same get of =
    let there : slice_get (faults c) number ≡ Some fault = ap (λ (fs : List Fault). slice_get fs number) (sym same) ∙ get in
    subst (λ k. IsFaultOf k fault) (sym of) (subst (λ f. IsFaultOf c f) (get_or_from_slice_get (faults c) number fault Free there) (all_stand c number Free (slice_get_within (faults c) number fault there)))

-- what is got from the fault list is the fault of the number
pub got_is : (listed : List Fault) (c : Circuit) (number : ℕ) (fault : Fault) → listed ≡ faults c → slice_get listed number ≡ Some fault → fault ≡ fault_numbered c number
got_is listed c number fault same get = sym (get_or_from_slice_get listed number fault Free get) ∙ ap (λ (fs : List Fault). get_or fs number Free) same
