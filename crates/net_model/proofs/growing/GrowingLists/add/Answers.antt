use Rattle.std.proofs.Common.{[], ◌∷◌, ◌∙◌, ap, Vec, Global}
use Rattle.std.proofs.Math.Seq.{map-set_same}
use Rattle.net_model.proofs.Errors.{on_error}
use Rattle.net_model.proofs.Pushed.{map-set_pushed}
use Rattle.net_model.proofs.growing.GrowingLists.add.Goals as goal

pub returns : goal.returns
returns g c = record {
  ok = map-set_pushed (λ (list : Vec _ Global). list.items) c.self.inside.lists.items c.args.self.now c.args.number c.index_mut.result.now c.push.new.self (c.args.element ∷ [])
      c.self.view_is c.requires c.index_mut.ensures.value c.in_ok-push.ensures.items;
  err = tt;
}

pub returns-in_err-push-clause-err : goal.returns-in_err-push-clause-err
returns-in_err-push-clause-err g c =
    on_error c.from_residual.result
    (map-set_same (λ (list : Vec _ Global). list.items) c.self.inside.lists.items c.args.number c.push.new.self c.index_mut.result.now
    (c.in_err-push.ensures.items ∙ ap (λ (list : Vec _ Global). list.items) c.index_mut.ensures.value)
    ∙ c.self.view_is)
