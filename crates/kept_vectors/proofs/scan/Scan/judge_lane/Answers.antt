use Rattle.std.proofs.Common.{◌≡◌, ◌∙◌, ◌∷◌, ◌++◌, ◌<◌, ℕ, [], List, Bool, false, eqb, length, get_or, refl, sym, ap, subst, arith, inl, inr}
use Rattle.std.specs.Prelude.{Contains}
use Rattle.std.specs.Vec.{vec_len}
use Rattle.std.proofs.lemmas.Bool.{cases_eq, eqb-true, eq-eqb, false≢true}
use Rattle.std.proofs.lemmas.List.Elements.{Contains-get_or}
use Rattle.std.proofs.lemmas.Result.{err_from_is_err_and}
use Rattle.std.proofs.lemmas.List.{length-map}
use Rattle.class_refine.specs.declared.leaver.Leaver.{Leaver}
use Rattle.class_refine.specs.Leavers.{AreLeavers}
use Rattle.fault_heads.specs.Turned.{vector_at}
use Rattle.kept_vectors.specs.Kept.{with_vector}
use Rattle.kept_vectors.specs.Scan.{kept_now}
use Rattle.kept_vectors.specs.Units.{AreOfUnits}
use Rattle.kept_vectors.proofs.KeepLemmas.{ran_vectors}
use Rattle.kept_vectors.proofs.JudgeLemmas.{told_later}
use Rattle.kept_vectors.proofs.LaneLemmas.{IsLaneKept, mates_here, leaver_below, none_kept_here, none_moved_here, some_leavers, lane_kept, mates_behind}
use Rattle.kept_vectors.proofs.scan.Scan.judge_lane.Goals as goal
use Rattle.kept_vectors.proofs.scan.Scan.judge_lane.Goals.{After-as_slice-numbers, Then-is_empty}

pub put_in_order-requires-clause-inside : goal.put_in_order-requires-clause-inside
put_in_order-requires-clause-inside c k d h =
    let ns = c.at-leaving.result.now in
    let has : Contains (get_or c.args.self.now.waiting.lanes.items c.args.lane []) (get_or ns k d) = subst (λ (xs : List ℕ). Contains xs (get_or ns k d)) c.at-leaving.ensures (Contains-get_or ns k d h) in
    (c.requires.waits.right (get_or ns k d) c.args.lane (omega arith) c.requires.lane has).number

-- the numbers in order are those of the units that wait
moved : {now listed : List ℕ} (roots ns : List ℕ) → now ≡ listed → AreOfUnits roots now ns → AreOfUnits roots listed ns
moved roots ns e of = subst (λ (units : List ℕ). AreOfUnits roots units ns) e of

no_items : (ns : List ℕ) → length ns ≡ 0 → ns ≡ []
no_items [] e = refl
no_items (n ∷ ns) e = absurd (omega (arith, e))

not_zero : (n : ℕ) → false ≡ eqb n 0 → 0 < n
not_zero n e = elim (cases_eq n 0) [ inl is ↦ absurd (false≢true (e ∙ eq-eqb n 0 is)) | inr ne ↦ omega (arith, ne) ]

empty : (c : Then-is_empty) → c.put_in_order.new.self.numbers.items ≡ []
empty c = no_items c.put_in_order.new.self.numbers.items (omega (arith, c.put_in_order.new.self.numbers.ok.0, eqb-true (vec_len c.put_in_order.new.self.numbers) 0 (sym c.if-is_empty.ensures)))

pub returns-then-is_empty-clause-waits : goal.returns-then-is_empty-clause-waits
returns-then-is_empty-clause-waits c =
    let ordered = c.in_ok-put_in_order.ensures in
    none_moved_here (kept_now c.args.kept.now) c.requires.told c.args.lane c.args.live c.requires.lane c.requires.live c.args.self.now.waiting.lanes.items c.requires.waits c.put_in_order.new.self.numbers.items (moved _ _ c.at-leaving.ensures ordered.all)
    (empty c)

pub returns-then-is_empty-clause-ok : goal.returns-then-is_empty-clause-ok
returns-then-is_empty-clause-ok c =
    let ordered = c.in_ok-put_in_order.ensures in
    none_kept_here (kept_now c.args.kept.now) c.requires.told c.args.lane c.args.live c.requires.lane c.requires.live c.args.self.now.waiting.lanes.items c.requires.waits c.put_in_order.new.self.numbers.items (moved _ _ c.at-leaving.ensures ordered.all)
    (empty c)

pub tell-requires-clause-noted : goal.tell-requires-clause-noted
tell-requires-clause-noted c k d h =
    let ordered = c.in_ok-put_in_order.ensures in
    let ns = c.put_in_order.new.self.numbers.items in
    let n = get_or ns k d in
    let has = Contains-get_or ns k d h in
    let old = kept_now c.args.kept.now in
    let of = moved _ _ c.at-leaving.ensures ordered.all in
    let inside = leaver_below old c.requires.told c.args.lane c.args.live c.requires.lane c.requires.live c.args.self.now.waiting.lanes.items c.requires.waits ns of n has in
    let noted = mates_here old c.requires.told c.args.lane c.args.live c.requires.lane c.requires.live c.args.self.now.waiting.lanes.items c.requires.waits ns of n has n inside refl in
    noted.notes

pub offer-requires-clause-leave : goal.offer-requires-clause-leave
offer-requires-clause-leave c =
    let ordered = c.in_ok-put_in_order.ensures in
    some_leavers (kept_now c.args.kept.now) c.requires.told c.args.lane c.args.live c.requires.lane c.requires.live c.args.self.now.waiting.lanes.items c.requires.waits c.put_in_order.new.self.numbers.items (moved _ _ c.at-leaving.ensures ordered.all)
    c.tell.new.self.leavers.items c.tell.new.self.positions.items ordered.ordered c.in_ok-tell.ensures.told

-- the vector is that of the lane
vector_is : (c : After-as_slice-numbers) → c.in_ok-v.v ≡ vector_at c.args.self.now.good c.args.lane
vector_is c = c.in_ok-v.ensures.value ∙ ap (λ (vs : List (List Bool)). get_or vs c.args.lane []) (sym (ran_vectors c.args.self.now.good c.args.self.now.block.vectors c.requires.told.ran))

kept : (c : After-as_slice-numbers) → IsLaneKept c.args.self.now.good c.args.self.now.differences.units.roots.now c.args.lane c.args.live c.args.self.now.waiting.lanes.items c.put_in_order.new.self.numbers.items (kept_now c.args.kept.now) (kept_now c.offer.new.self)
kept c =
    let ordered = c.in_ok-put_in_order.ensures in
    let old = kept_now c.args.kept.now in
    let new = kept_now c.offer.new.self in
    let leavers = c.tell.new.self.leavers.items in
    let positions = c.tell.new.self.positions.items in
    let tells = c.in_ok-tell.ensures.told in
    let offered : (row : List (List Bool)) → AreLeavers old.table row leavers positions → new ≡ with_vector old (vector_at c.args.self.now.good c.args.lane, row) =
    λ row are. c.in_ok-offer.ensures.ok row are ∙ ap (λ (v : List Bool). with_vector old (v, row)) (vector_is c) in
    lane_kept old c.requires.told c.args.lane c.args.live c.requires.lane c.requires.live c.args.self.now.waiting.lanes.items c.requires.waits c.put_in_order.new.self.numbers.items (moved _ _ c.at-leaving.ensures ordered.all)
    leavers positions ordered.ordered tells (omega (arith, not_zero (vec_len c.put_in_order.new.self.numbers) c.if-is_empty.ensures, ap length tells.numbers_are, length-map leavers (λ (l : Leaver). l.number), c.put_in_order.new.self.numbers.ok.0)) new offered

pub wait-requires-clause-whole : goal.wait-requires-clause-whole
wait-requires-clause-whole c = (kept (goal.at.wait-requires-clause-whole c).After-as_slice-numbers).whole

pub wait-requires-clause-numbers : goal.wait-requires-clause-numbers
wait-requires-clause-numbers c = (kept (goal.at.wait-requires-clause-numbers c).After-as_slice-numbers).finer.numbers ∙ c.requires.told.numbers

-- the numbers that wait again
again : (c : After-as_slice-numbers) → c.as_slice-numbers.result.now ≡ c.put_in_order.new.self.numbers.items
again c = c.as_slice-numbers.ensures.value ∙ c.tell.ensures.numbers

pub wait-requires-clause-noted : goal.wait-requires-clause-noted
wait-requires-clause-noted c =
    let at = (goal.at.wait-requires-clause-noted c).After-as_slice-numbers in
    let ordered = c.in_ok-put_in_order.ensures in
    rw (again at)
    (mates_behind (kept_now c.args.kept.now) c.requires.told c.args.lane c.args.live c.requires.lane c.requires.live c.args.self.now.waiting.lanes.items c.requires.waits c.put_in_order.new.self.numbers.items (moved _ _ c.at-leaving.ensures ordered.all)
    c.tell.new.self.leavers.items c.tell.new.self.positions.items ordered.ordered c.in_ok-tell.ensures.told (kept_now c.offer.new.self) (kept at))

pub wait-requires-clause-waits : goal.wait-requires-clause-waits
wait-requires-clause-waits c = let at = (goal.at.wait-requires-clause-waits c).After-as_slice-numbers in rw (again at) (kept at).waits

pub returns-in_err-wait-clause-err : goal.returns-in_err-wait-clause-err
returns-in_err-wait-clause-err c =
    let at = (goal.at.returns-in_err-wait-clause-err c).After-as_slice-numbers in
    let p = err_from_is_err_and c.from_residual-in_err-wait.result c.from_residual-in_err-wait.ensures.1 in
    rw p.1 (inr (c.in_err-wait.ensures.short, (kept at).keeps, c.in_ok-offer.ensures.kept ∙ ap (λ (v : List Bool). c.args.kept.now.vectors.items ++ v ∷ []) (vector_is at)))

pub returns-clause-told : goal.returns-clause-told
returns-clause-told c =
    let one = kept (goal.at.returns-clause-told c).After-as_slice-numbers in
    told_later one.whole one.finer one.together c.requires.told

pub returns-clause-ok : goal.returns-clause-ok
returns-clause-ok c = (kept (goal.at.returns-clause-ok c).After-as_slice-numbers).keeps

pub returns-clause-offered : goal.returns-clause-offered
returns-clause-offered c = c.in_ok-offer.ensures.kept ∙ ap (λ (v : List Bool). c.args.kept.now.vectors.items ++ v ∷ []) (vector_is (goal.at.returns-clause-offered c).After-as_slice-numbers)
