use Rattle.std.proofs.Common.{◌≡◌, ◌∙◌, ◌<◌, ◌||◌, ℕ, Bool, List, [], length, get_or, set, refl, sym, ap, subst, arith}
use Rattle.std.proofs.lemmas.List.{get_or_default}
use Rattle.word_sim.specs.declared.lanes.TheConstants.{LANES}
use Rattle.fault_heads.specs.Turned.{TurnsHead}
use Rattle.net_model.specs.Answer.{bit_at}
use Rattle.net_model.specs.Circuit.{line_count}
use Rattle.net_model.specs.FaultList.{fault_numbered}
use Rattle.net_model.specs.declared.fault.Fault.{Fault}
use Rattle.net_model.specs.declared.fault.Fault.TheVariants.{Free}
use Rattle.kept_vectors.specs.declared.differences.Differences.{Differences}
use Rattle.kept_vectors.specs.Notes.{place_of, IsTurnNeeded}
use Rattle.kept_vectors.proofs.NoteLemmas.{listed_stands, got_is, place_below}
use Rattle.kept_vectors.proofs.AskLemmas.{AreGrown, grown, needed_here, grown_none, asked_here, asked_later}
use Rattle.kept_vectors.proofs.differences.Differences.ask.Goals as goal
use Rattle.kept_vectors.proofs.differences.Differences.ask.Goals.{After-self-2-1, in-Some, in_default}

pub turn-turn-requires-clause-fault : goal.turn-turn-requires-clause-fault
turn-turn-requires-clause-fault c = listed_stands c.args.good.now.circuit c.args.listed.now c.args.number c.get.result c.args.good.now.circuit c.requires.faults c.get.ensures.value refl

-- what the number turns is needed now, and so is what was needed
record IsAdded (c : After-self-2-1) : Type 0 where
  grows : AreGrown c.args.self.now.needs.items c.match-turn.self.needs.items
  here : IsTurnNeeded c.args.good.now c.match-turn.self.needs.items c.args.number c.turn-turn.result
  turns : c.match-turn.self.turns.items ≡ c.args.self.now.turns.items

added : (c : After-self-2-1) → IsAdded c
added c =
    let good = c.args.good.now in
    let needs = c.args.self.now.needs.items in
    let fault : c.get.result ≡ fault_numbered good.circuit c.args.number = got_is c.args.listed.now good.circuit c.args.number c.get.result c.requires.faults c.get.ensures.value in
    elim c.match-turn.branch [
      | in_default w ↦
          let free : c.get.result ≡ Free = c.turn-turn.ensures.none.0 w.in_default.is in
          record {
            grows = rw (ap (λ (d : Differences). d.needs.items) w.self-is) (grown_none needs);
            here = rw w.in_default.is (sym fault ∙ free);
            turns = ap (λ (d : Differences). d.turns.items) w.self-is;
          }
      | in-Some w ↦
          let turn = w.in-Some.turn in
          let place = w.place-place.result in
          let row = w.or.result in
          let stands = rw w.in-Some.is at c.turn-turn.ensures.head in
          let place_is : place_of (line_count good.circuit) turn.head ≡ place = sym (w.place-place.ensures ∙ ap (λ (l : ℕ). place_of l turn.head) c.requires.of.lines) in
          let inside : place < length needs = omega (arith, sym place_is, place_below good.circuit turn.head stands, c.requires.of.needs) in
          let old : w.index.result.now ≡ get_or needs place [] = w.index.ensures ∙ get_or_default needs place w.index.result.now [] inside in
          let more : (lane : ℕ) → lane < LANES → bit_at row lane ≡ (bit_at (get_or needs place []) lane || bit_at turn.lanes lane) = λ lane h. w.or.ensures lane h ∙ ap (λ (r : List Bool). bit_at r lane || bit_at turn.lanes lane) old in
          let now : c.match-turn.self.needs.items ≡ set needs place row = ap (λ (d : Differences). d.needs.items) w.self-is in
          record {
            grows = rw now (grown needs place turn.lanes row inside more);
            here = rw (w.in-Some.is, now) (
              stands,
              subst (λ (f : Fault). TurnsHead good f turn.head turn.lanes) fault (rw w.in-Some.is at c.turn-turn.ensures.turns),
              λ lane h on. rw place_is (needed_here needs place turn.lanes row inside more lane h on),
            );
            turns = ap (λ (d : Differences). d.turns.items) w.self-is;
          }
    ]

pub returns-clause-later : goal.returns-clause-later
returns-clause-later c =
    let is = added c in
    let old = c.args.self.now in
    rw is.turns (asked_later c.args.good.now old.needs.items c.match-turn.self.needs.items is.grows old.turns.items c.args.number c.turn-turn.result (omega (arith, c.requires.number, c.requires.of.turns)) is.here)

pub returns-clause-asked : goal.returns-clause-asked
returns-clause-asked c =
    let is = added c in
    let old = c.args.self.now in
    rw is.turns (asked_here c.args.good.now old.needs.items c.match-turn.self.needs.items is.grows old.turns.items c.args.number c.turn-turn.result (omega (arith, c.requires.number, c.requires.of.turns)) is.here)
