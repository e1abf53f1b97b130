use Rattle.std.proofs.Common.{◌≡◌, ◌∙◌, ◌++◌, ℕ, List, length, take, drop, sym, ap, subst, arith}
use Rattle.std.proofs.Math.Seq.{take-append_seam}
use Rattle.samediff_dict.specs.Chosen.{chosen_baselines}
use Rattle.samediff_dict.specs.Numbered.{HasBaselines}
use Rattle.samediff_dict.proofs.choosing.BaselineChoice.chosen.Goals as goal

pub returns : goal.returns
returns g c =
    let t = c.args.self.now.classes.now in
    let old = c.in_ok-chosen.chosen in
    let new = c.improve.new.chosen in
    let rest = drop (length new) old.items in
    let long : old.len ≡ length new = omega (arith, old.ok.0, c.in_ok-chosen.ensures.one_each, c.in_ok-improve.ensures.one_each) in
    subst (λ (xs : List ℕ). HasBaselines t g.rows xs (chosen_baselines t g.rows)) (sym (ap (λ n. take n (new ++ rest)) long ∙ take-append_seam new rest)) c.in_ok-improve.ensures
