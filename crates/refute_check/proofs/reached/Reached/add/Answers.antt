use Rattle.std.proofs.Common.{◌∙◌, true, sym, ap}
use Rattle.std.specs.Prelude.{set}
use Rattle.std.specs.Vec.{with_item}
use Rattle.refute_check.proofs.ReachedLemmas.{reached_again, reached_more}
use Rattle.refute_check.proofs.reached.Reached.add.Goals as goal

pub returns-then-has : goal.returns-then-has
returns-then-has c = λ clause is. reached_again c.args.self.now clause c.args.lit is (sym c.has.ensures ∙ c.if-has.true)

pub returns : goal.returns
returns c = λ clause is.
    let placed = c.make_place.new.self in
    reached_more placed (record { marks = with_item placed.marks c.code.result true; listed = c.push.new.self }) clause c.args.lit (c.in_ok-make_place.ensures.kept clause is) c.in_ok-make_place.ensures.place
    (ap (λ k. set placed.marks.items k true) c.code.ensures) c.in_ok-push.ensures.items
