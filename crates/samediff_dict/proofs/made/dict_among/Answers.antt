use Rattle.std.proofs.Common.{ℕ, List, sym, subst}
use Rattle.samediff_dict.specs.Chosen.{chosen_baselines}
use Rattle.samediff_dict.specs.Numbered.{HasBaselines}
use Rattle.samediff_dict.proofs.made.dict_among.Goals as goal

pub dict_with-requires : goal.dict_with-requires
dict_with-requires g c =
    let classes = c.args.setting.now.classes.now in
    let has = subst (λ (xs : List ℕ). HasBaselines classes g.t.rows xs (chosen_baselines classes g.t.rows)) (sym c.as_slice.ensures.value) c.in_ok-chosen.ensures in
    (c.requires.0, (c.requires.1.0, (c.requires.1.1, has)))
