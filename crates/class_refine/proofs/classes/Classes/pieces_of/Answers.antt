use Rattle.std.proofs.Common.{◌≡◌, ◌∙◌, ◌++◌, ◌∷◌, [], cond, eqb, Bool, List, length, get_or, map, take, filter, refl, sym, ap, subst, arith, rules}
use Rattle.std.specs.BTreeMap.{get}
use Rattle.std.proofs.lemmas.List.{length-map}
use Rattle.net_model.specs.ClassTable.{class_at, piece_lowest}
use Rattle.class_refine.specs.declared.leaver.Leaver.{Leaver}
use Rattle.class_refine.specs.Fields.{IsWhole}
use Rattle.class_refine.specs.Leavers.{AreLeavers}
use Rattle.class_refine.specs.Steps.{put_in}
use Rattle.class_refine.proofs.Refined.{sound_from}
use Rattle.class_refine.proofs.LeaverOrder.{no_leaver, numbers_of, numbers_are, begun, so_far, done}
use Rattle.class_refine.proofs.LeaverTurns.{list_order, none_so_far, Turn, turn}
use Rattle.class_refine.proofs.classes.Classes.pieces_of.Goals as goal
use Rattle.class_refine.proofs.classes.Classes.pieces_of.Goals.{In_ok-place}

pub loop-leaver-init : goal.loop-leaver-init
loop-leaver-init c row are =
    rw (c.new.ensures.items, c.new-2.ensures.items) (none_so_far c.args.self.now row c.args.leavers.now c.args.positions.now (get list_order c.new-begun.result) (λ key. search rules))

-- there are as many pieces as numbers that begin one
long : (c : In_ok-place) (row : List (List Bool)) → length (so_far c.args.self.now row (numbers_of c.args.leavers.now) c.loop-leaver.leaver-index) ≡ length (begun c.args.self.now row (numbers_of c.args.leavers.now) c.loop-leaver.leaver-index)
long c row =
    let t = c.args.self.now in
    let numbers = numbers_of c.args.leavers.now in
    let xs = take c.loop-leaver.leaver-index numbers in
    length-map (begun t row numbers c.loop-leaver.leaver-index) (λ low. filter (λ m. eqb (piece_lowest t row m) low) xs)

-- the leaver's turn
turned : (c : In_ok-place) (row : List (List Bool)) (are : AreLeavers c.args.self.now row c.args.leavers.now c.args.positions.now)
    → Turn c.args.self.now row c.args.leavers.now c.args.positions.now are c.loop-leaver.leaver-index c.loop-leaver-test.true c.in_ok-place.place (get list_order c.place_with.new.begun)
turned c row are =
    let t = c.args.self.now in
    let leavers = c.args.leavers.now in
    let positions = c.args.positions.now in
    let i = c.loop-leaver.leaver-index in
    let so_far = c.loop-leaver.invariant row are in
    let count : c.len.result ≡ length (begun t row (numbers_of leavers) i) = c.len.ensures ∙ (c.loop-leaver.pieces.groups.ok.0 ∙ (ap length so_far.groups_are ∙ long c row)) in
    turn t row leavers positions are i c.loop-leaver-test.true
    (get list_order c.loop-leaver.begun) (get list_order c.place_with.new.begun) (c.class_of-class.result, c.told-told.result) (record { class = sym c.class_of-class.ensures.value; list = sym c.told-told.ensures })
    so_far.noted_are (get list_order c.loop-leaver.begun (c.class_of-class.result, c.told-told.result)) c.len.result c.in_ok-place.place refl count c.in_ok-place.ensures.place c.in_ok-place.ensures.noted

pub put-requires : goal.put-requires
put-requires c =
    let at = (goal.at.put-requires c).In_ok-place in
    let row = c.requires.0 in
    let are = c.requires.1 in
    omega (arith, (turned at row are).within, long at row, ap length (c.loop-leaver.invariant row are).groups_are)

pub loop-leaver-preserved : goal.loop-leaver-preserved
loop-leaver-preserved c row are =
    let at = (goal.at.loop-leaver-preserved c).In_ok-place in
    let so_far = c.loop-leaver.invariant row are in
    let done = turned at row are in
    let place = c.in_ok-place.place in
    let count : length c.loop-leaver.pieces.groups.items ≡ length (begun c.args.self.now row (numbers_of c.args.leavers.now) c.loop-leaver.leaver-index) = ap length so_far.groups_are ∙ long at row in
    record {
      groups_are = c.in_ok-put.ensures.groups ∙ (ap (λ gs. put_in gs place (get_or c.args.leavers.now c.loop-leaver.leaver-index no_leaver).number) so_far.groups_are ∙ sym done.pieces);
      parents_are = c.in_ok-put.ensures.parents
          ∙ ((λ j. cond (eqb place (count j)) (so_far.parents_are j ++ c.class_of-class.ensures.value j ∷ []) (so_far.parents_are j)) ∙ sym done.parents);
      noted_are = done.noted_are;
    }

pub returns : goal.returns
returns c row are =
    let t = c.args.self.now in
    let numbers = numbers_of c.args.leavers.now in
    let so_far = c.loop-leaver.invariant row are in
    let all = done t row numbers (numbers_are t row c.args.leavers.now c.args.positions.now are) (sound_from t (subst IsWhole c.self.view_is c.self.invariant.whole)) c.loop-leaver.leaver-index
    (omega (arith, c.loop-leaver-test.false, length-map c.args.leavers.now (λ (leaver : Leaver). leaver.number))) in
    record {
      groups_are = so_far.groups_are ∙ all.pieces_are;
      parents_are = so_far.parents_are ∙ ap (map (class_at t)) all.begun_are;
    }
