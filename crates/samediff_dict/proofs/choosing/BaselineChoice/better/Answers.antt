use Rattle.std.proofs.Common.{◌≡◌, ◌∙◌, ltb, sym, ap}
use Rattle.std.proofs.lemmas.Bool.{ltb-true, ltb-false}
use Rattle.dict_rows.specs.Entries.{free_baselines}
use Rattle.samediff_dict.specs.Chosen.{pairs_apart, greedy_baselines}
use Rattle.samediff_dict.specs.Numbered.{baselines_at}
use Rattle.samediff_dict.proofs.ChoiceLemmas.{better_free, better_greedy}
use Rattle.samediff_dict.proofs.choosing.BaselineChoice.better.Given as given
use Rattle.samediff_dict.proofs.choosing.BaselineChoice.better.Goals as goal
use Rattle.samediff_dict.proofs.choosing.BaselineChoice.better.Goals.{In_ok-keep_more}

answer_is : (g : given.Over) (c : In_ok-keep_more g) → c.in_ok-keep_more.field-0 ≡ ltb (pairs_apart c.args.self.now.classes.now g.rows (greedy_baselines c.args.self.now.classes.now g.rows)) (pairs_apart c.args.self.now.classes.now g.rows (free_baselines g.rows))
answer_is g c =
    let t = c.args.self.now.classes.now in
    let greedy = ap (baselines_at t g.rows) c.as_slice.ensures.value ∙ c.in_ok-greedy.ensures.baselines_are in
    let free = ap (baselines_at t g.rows) c.as_slice-2.ensures.value ∙ c.in_ok-free.ensures.baselines_are in
    c.in_ok-keep_more.ensures ∙ (λ i. ltb (pairs_apart t g.rows (greedy i)) (pairs_apart t g.rows (free i)))

pub returns-then-branch : goal.returns-then-branch
returns-then-branch g c =
    let t = c.args.self.now.classes.now in
    let is = answer_is g (goal.at.returns-then-branch g c).In_ok-keep_more in
    better_free t g.rows c.in_ok-free.free.items (ltb-true (pairs_apart t g.rows (greedy_baselines t g.rows)) (pairs_apart t g.rows (free_baselines g.rows)) (sym is ∙ c.if-branch.true)) c.in_ok-free.ensures

pub returns : goal.returns
returns g c =
    let t = c.args.self.now.classes.now in
    let is = answer_is g (goal.at.returns g c).In_ok-keep_more in
    better_greedy t g.rows c.in_ok-greedy.greedy.items (ltb-false (pairs_apart t g.rows (greedy_baselines t g.rows)) (pairs_apart t g.rows (free_baselines g.rows)) (sym is ∙ c.if-branch.false)) c.in_ok-greedy.ensures
