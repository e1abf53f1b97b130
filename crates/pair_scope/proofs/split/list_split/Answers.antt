use Rattle.std.proofs.Common.{◌≡◌, ◌<◌, ◌+◌, ◌∙◌, ℕ, List, length, take, get_or, set, true, false, refl, sym, ap, arith, subst, inl, inr, length-take}
use Rattle.std.specs.Prelude.{Bool}
use Rattle.std.proofs.lemmas.Bool.{cases_lt}
use Rattle.std.proofs.lemmas.List.{get_or_past, get_or_read, length-set}
use Rattle.net_model.specs.declared.fault.Fault.{Fault}
use Rattle.net_model.specs.Answer.{bit_at}
use Rattle.net_model.specs.Circuit.{Circuit, line_count}
use Rattle.net_model.specs.Fault.{IsFaultOf}
use Rattle.net_model.proofs.Elements.{length-filter-le}
use Rattle.net_model.proofs.FirstChanged.{first_inside}
use Rattle.event_queue.specs.Pending.{IsLowest}
use Rattle.pair_scope.specs.declared.listed.Listed.{Listed}
use Rattle.pair_scope.specs.Listed.{IsBlank}
use Rattle.pair_scope.proofs.PlaceLemmas.{lines_count, line_inside}
use Rattle.pair_scope.proofs.SplitLemmas.{Begins, IsSplitSoFar, split_none, split_more, split_marks, split_list}
use Rattle.pair_scope.proofs.split.list_split.Goals as goal

unmarked : (count : ℕ) (a : Listed) → IsBlank count a → (line : ℕ) → bit_at a.marks.items line ≡ false
unmarked count a blank line = elim (cases_lt line count) [
  | inl below ↦ blank.marks line below
  | inr past ↦ get_or_past a.marks.items line false (omega (arith, past, blank.whole))
]

begins_inside : (c : Circuit) (f g : Fault) → IsFaultOf c f → IsFaultOf c g → (line : ℕ) → Begins f g line → line < line_count c
begins_inside c f g first second line begins = elim begins [
  | inl e ↦ first_inside c f line first e
  | inr e ↦ first_inside c g line second e
]

pub loop-place-init : goal.loop-place-init
loop-place-init c =
    let a = c.args.places.now in
    let split = c.args.split.now in
    record {
      queue_room = c.begin-2.ensures.room ∙ c.begin.ensures.room ∙ c.requires.room;
      whole = c.requires.blank.whole;
      room = c.requires.blank.room;
      so_far = split_none a.circuit.now c.args.f c.args.g a.wiring.now a.lines.items a.places.items c.requires.placed c.args.queue.now c.begin.new.queue c.begin-2.new.queue split.marks.items split.numbers.items
          c.requires.none c.begin.ensures.begun c.begin-2.ensures.begun (unmarked (line_count a.circuit.now) split c.requires.blank) c.requires.blank.numbers;
    }

pub index-line-requires : goal.index-line-requires
index-line-requires c =
    let a = c.args.places.now in
    omega (arith, c.in-Some.ensures.within, lines_count a.circuit.now a.wiring.now c.requires.placed.wired a.lines.items c.requires.placed.are, a.lines.ok.0)

pub wake_readers-requires-clause-line : goal.wake_readers-requires-clause-line
wake_readers-requires-clause-line c =
    let a = c.args.places.now in
    let place = c.in-Some.place in
    let inside : place < line_count a.circuit.now = omega (arith, c.in-Some.ensures.within) in
    let count = lines_count a.circuit.now a.wiring.now c.requires.placed.wired a.lines.items c.requires.placed.are in
    let read = get_or_read a.lines.items place c.index-line.result.now (omega (arith, inside, count)) c.index-line.ensures 0 in
    let line = line_inside a.circuit.now a.wiring.now c.requires.placed.wired a.lines.items c.requires.placed.are place inside in
    omega (arith, read, line)

pub push-requires-clause-inside : goal.push-requires-clause-inside
push-requires-clause-inside c =
    let a = c.args.places.now in
    let place = c.in-Some.place in
    let inside : place < line_count a.circuit.now = omega (arith, c.in-Some.ensures.within) in
    let count = lines_count a.circuit.now a.wiring.now c.requires.placed.wired a.lines.items c.requires.placed.are in
    let read = get_or_read a.lines.items place c.index-line.result.now (omega (arith, inside, count)) c.index-line.ensures 0 in
    let line = line_inside a.circuit.now a.wiring.now c.requires.placed.wired a.lines.items c.requires.placed.are place inside in
    omega (arith, read, line, c.loop-place.invariant.whole)

pub push-requires-clause-room : goal.push-requires-clause-room
push-requires-clause-room c =
    let was = c.loop-place.invariant in
    let a = c.args.places.now in
    let from = c.loop-place.from in
    let queue = c.loop-place.queue in
    let place = c.in-Some.place in
    let marks = c.loop-place.split.marks.items in
    let listed = was.so_far.listed (bit_at marks) (λ p h. refl) in
    omega (
      arith,
      c.in-Some.ensures.above,
      c.in-Some.ensures.within,
      was.room,
      ap length listed,
      length-filter-le (bit_at marks) (take from a.lines.items),
      length-take from a.lines.items,
    )

pub loop-place-preserved : goal.loop-place-preserved
loop-place-preserved c =
    let was = c.loop-place.invariant in
    let a = c.args.places.now in
    let circuit = a.circuit.now in
    let f = c.args.f in
    let g = c.args.g in
    let queue = c.loop-place.queue in
    let taken = c.take_lowest.new.self in
    let place = c.in-Some.place in
    let line = c.index-line.result.now in
    let marks = c.loop-place.split.marks.items in
    let list = c.loop-place.split.numbers.items in
    let lowest : IsLowest queue taken place = c.in-Some.ensures.cases in
    let inside : place < line_count circuit = omega (arith, c.in-Some.ensures.within) in
    let count = lines_count circuit a.wiring.now c.requires.placed.wired a.lines.items c.requires.placed.are in
    let read : line ≡ get_or a.lines.items place 0 = get_or_read a.lines.items place line (omega (arith, inside, count)) c.index-line.ensures 0 in
    let more = split_more circuit f g a.wiring.now a.lines.items a.places.items c.requires.placed c.loop-place.from queue marks list was.so_far taken c.wake_readers.new.queue place line was.whole inside c.in-Some.ensures.above read lowest c.wake_readers.ensures.woken in
    record {
      queue_room = c.wake_readers.ensures.room ∙ c.in-Some.ensures.room ∙ was.queue_room;
      whole = ap length c.push.ensures.marks ∙ length-set marks line true ∙ was.whole;
      room = omega (arith, was.room, c.push.ensures.room);
      so_far =
          subst (λ (ms : List Bool). IsSplitSoFar circuit f g a.lines.items a.places.items (place + 1) c.wake_readers.new.queue ms c.push.new.self.numbers.items) (sym c.push.ensures.marks)
          (subst (λ (xs : List ℕ). IsSplitSoFar circuit f g a.lines.items a.places.items (place + 1) c.wake_readers.new.queue (set marks line true) xs) (sym c.push.ensures.numbers) more);
    }

pub returns-clause-split : goal.returns-clause-split
returns-clause-split c =
    let was = c.loop-place.invariant in
    let a = c.args.places.now in
    let circuit = a.circuit.now in
    let f = c.args.f in
    let g = c.args.g in
    let inside = begins_inside circuit f g c.requires.first c.requires.second in
    let marks = c.loop-place.split.marks.items in
    let list = c.loop-place.split.numbers.items in
    record {
      whole = was.whole;
      marks = λ n h. split_marks circuit f g a.wiring.now a.lines.items a.places.items c.requires.placed c.loop-place.from c.loop-place.queue marks list was.so_far c.in_default.ensures.cases.0 inside n;
      numbers = split_list circuit f g a.wiring.now a.lines.items a.places.items c.requires.placed c.loop-place.from c.loop-place.queue marks list was.so_far c.in_default.ensures.cases.0 inside;
      room = was.room;
    }
