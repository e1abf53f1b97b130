use Rattle.std.proofs.Common.{◌≡◌, ◌∙◌, ◌<◌, ℕ, Bool, List, [], true, false, length, get_or, sym, ap, subst, arith, inl, inr}
use Rattle.std.specs.Prelude.{Contains}
use Rattle.std.proofs.lemmas.Bool.{cases_Bool, and_parts, and_from, false≢true, ltb-true, lt-ltb}
use Rattle.std.proofs.lemmas.List.{get_or_default, with_items_is}
use Rattle.net_model.specs.Answer.{bit_at}
use Rattle.word_sim.specs.declared.lanes.TheConstants.{LANES}
use Rattle.word_sim.specs.GoodSim.{vectors_of}
use Rattle.fault_heads.specs.Turned.{vector_at}
use Rattle.kept_vectors.specs.declared.scan.Scan.{Scan}
use Rattle.kept_vectors.specs.Kept.{IsFiner}
use Rattle.kept_vectors.specs.Notes.{noted_by, AreTold, AreAsked}
use Rattle.kept_vectors.specs.Scan.{kept_now}
use Rattle.kept_vectors.specs.Standing.{AreRowsBut, AreRows}
use Rattle.kept_vectors.proofs.StandingLanes.{unit_below, none_separates, lane_separates, live_lane, waits_there, asked_later, finer_there, rows_left}
use Rattle.kept_vectors.proofs.scan.Scan.keep_apart.Goals as goal
use Rattle.kept_vectors.proofs.scan.Scan.keep_apart.Goals.{After-and-apart, After-fullest-lane, After-as_mut_slice-rows}

-- the row that was read is that of the member's unit
row_is : (c : After-and-apart) → get_or c.args.self.now.rows.items (get_or c.args.self.now.differences.units.roots.now c.args.member 0) [] ≡ c.index.result.now
row_is c =
    let rows = c.args.self.now.rows.items in
    let at = c.of-unit.result in
    let inside : at < length rows = rw c.of-unit.ensures (unit_below c.requires.scan c.requires.stands c.live-live.ensures.block c.args.member c.requires.member) in
    ap (λ (n : ℕ). get_or rows n []) (sym c.of-unit.ensures) ∙ get_or_default rows at [] c.index.result.now inside ∙ sym c.index.ensures

pub returns-then-not-any-clause-none : goal.returns-then-not-any-clause-none
returns-then-not-any-clause-none c not =
    let block = c.live-live.ensures.block in
    let row = row_is (goal.at.returns-then-not-any-clause-none c).After-and-apart in
    let Off : ℕ → List Bool → Type 0 = λ lane bits. bit_at bits lane ≡ false in
    none_separates c.requires.scan c.requires.stands block c.args.member c.requires.member (λ lane live.
    let few : lane < LANES = omega (arith, live, block.few) in
    subst (Off lane) (sym row) (elim (cases_Bool (bit_at c.index.result.now lane)) [
      | inr off ↦ off
      | inl on ↦
          let first : bit_at c.first-lanes.result lane ≡ true = c.first-lanes.ensures lane few ∙ lt-ltb lane c.live-live.result (omega (arith, live, c.live-live.ensures.value)) in
          let both : bit_at c.and-apart.result lane ≡ true = c.and-apart.ensures lane few ∙ and_from (bit_at c.index.result.now lane) (bit_at c.first-lanes.result lane) on first in
          absurd (false≢true (sym c.if-not-any.true ∙ c.any.ensures.1 (lane, few, both)))
    ]))

-- the lane is one of the block, and the row has it
lane_is : (c : After-fullest-lane) → get_or c.args.self.now.rows.items (get_or c.args.self.now.differences.units.roots.now c.args.member 0) [] ≡ c.index.result.now
    → (c.fullest-lane.result < length c.args.self.now.block.vectors) × (bit_at (get_or c.args.self.now.rows.items (get_or c.args.self.now.differences.units.roots.now c.args.member 0) []) c.fullest-lane.result ≡ true)
lane_is c row =
    let lane = c.fullest-lane.result in
    let within = c.fullest-lane.ensures.within in
    let both = and_parts (bit_at c.index.result.now lane) (bit_at c.first-lanes.result lane) (sym (c.and-apart.ensures lane within) ∙ c.fullest-lane.ensures.has) in
    let live : lane < c.live-live.result = ltb-true lane c.live-live.result (sym (c.first-lanes.ensures lane within) ∙ both.1) in
    let On : List Bool → Type 0 = λ bits. bit_at bits lane ≡ true in
    (omega (arith, live, c.live-live.ensures.value), subst On (sym row) both.0)

pub judge_lane-requires-clause-waits : goal.judge_lane-requires-clause-waits
judge_lane-requires-clause-waits c =
    let views = goal.at.judge_lane-requires-clause-waits c in
    let lane = c.fullest-lane.result in
    let numbers = c.as_slice-numbers.ensures.value in
    let rows = c.as_slice-rows.ensures.value in
    let waits = c.in_ok-wait_at.ensures in
    waits_there c.requires.scan c.requires.stands c.live-live.ensures.block lane (lane_is views.After-fullest-lane (row_is views.After-and-apart)).0 c.wait_at.new.self.lanes.items (waits.count ∙ c.requires.scan.lanes)
    (rw (numbers, rows) at waits.right) (rw (numbers, rows) at waits.all)

-- all is as before except the lists
same : (c : After-as_mut_slice-rows) → c.judge_lane.new.self ≡ record c.args.self.now { waiting = c.judge_lane.new.self.waiting; leaving = c.judge_lane.new.self.leaving; tally = c.count_leaving.new.tally }
same c = c.judge_lane.ensures.same

module _ (c : After-as_mut_slice-rows) (inside : c.fullest-lane.result < length c.args.self.now.block.vectors) where
  live : c.fullest-lane.result < length (vectors_of c.args.self.now.good)
  live = live_lane c.requires.scan c.requires.stands c.live-live.ensures.block c.fullest-lane.result inside

  finer : IsFiner c.args.kept.now.classes c.judge_lane.new.kept.classes
  finer = finer_there {s = c.args.self.now} {old = kept_now c.args.kept.now} {new = kept_now c.judge_lane.new.kept} c.requires.stands c.fullest-lane.result live c.in_ok-judge_lane.ensures.ok

  asked : AreAsked c.judge_lane.new.self.good (noted_by c.judge_lane.new.self.differences) c.judge_lane.new.kept.classes c.judge_lane.new.self.differences.numbers.items
  asked = subst (λ (x : Scan). AreAsked x.good (noted_by x.differences) c.judge_lane.new.kept.classes x.differences.numbers.items) (sym (same c)) (asked_later finer c.requires.stands.asked)

pub find_rows_anew-requires-clause-asked : goal.find_rows_anew-requires-clause-asked
find_rows_anew-requires-clause-asked c =
    let views = goal.at.find_rows_anew-requires-clause-asked c in
    asked views.After-as_mut_slice-rows (lane_is views.After-fullest-lane (row_is views.After-and-apart)).0

pub find_rows_anew-requires-clause-left : goal.find_rows_anew-requires-clause-left
find_rows_anew-requires-clause-left c =
    let views = goal.at.find_rows_anew-requires-clause-left c in
    let at = views.After-as_mut_slice-rows in
    let t = c.judge_lane.new.kept.classes in
    let lane = c.fullest-lane.result in
    let left = rows_left {s = c.args.self.now} {old = kept_now c.args.kept.now} {new = kept_now c.judge_lane.new.kept} c.requires.stands lane (live at (lane_is views.After-fullest-lane (row_is views.After-and-apart)).0) c.in_ok-judge_lane.ensures.ok in
    let Left : Scan → List (List Bool) → Type 0 = λ x rows. AreRowsBut x.good x.differences.units.roots.now t x.differences.numbers.items (λ n. (bit_at (get_or rows n []) lane ≡ true) × Contains x.differences.numbers.items n) rows in
    let now = c.judge_lane.new.self in
    subst (Left now) (sym c.as_mut_slice-rows.ensures.value) (subst (λ (x : Scan). Left x x.rows.items) (sym (same at)) left)

pub returns-clause-stands : goal.returns-clause-stands
returns-clause-stands c =
    let views = goal.at.returns-clause-stands c in
    let at = views.After-as_mut_slice-rows in
    let now = c.judge_lane.new.self in
    let t = c.judge_lane.new.kept.classes in
    let rows = c.find_rows_anew.new.rows in
    let written = with_items_is now.rows rows (c.find_rows_anew.auto.rows ∙ c.as_mut_slice-rows.ensures.len) in
    record {
      told = subst (λ (x : Scan). AreTold x.good x.block.vectors (noted_by x.differences) t) (sym (same at)) c.in_ok-judge_lane.ensures.told;
      asked = asked at (lane_is views.After-fullest-lane (row_is views.After-and-apart)).0;
      rows = subst (λ (xs : List (List Bool)). AreRows now.good now.differences.units.roots.now t now.differences.numbers.items xs) (sym written) c.find_rows_anew.ensures;
    }

pub returns-clause-apart : goal.returns-clause-apart
returns-clause-apart c apart =
    let views = goal.at.returns-clause-apart c in
    let lane = lane_is views.After-fullest-lane (row_is views.After-and-apart) in
    let found = lane_separates c.requires.scan c.requires.stands c.live-live.ensures.block c.args.member c.requires.member c.fullest-lane.result lane.0 lane.1 in
    (vector_at c.args.self.now.good c.fullest-lane.result, found.0, found.1, c.in_ok-judge_lane.ensures.ok)
