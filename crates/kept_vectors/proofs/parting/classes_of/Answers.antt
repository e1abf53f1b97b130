use Rattle.std.proofs.Common.{◌∙◌, ◌++◌, sym, ap, subst}
use Rattle.net_model.specs.Circuit.{Circuit, IsCircuit}
use Rattle.net_model.specs.ClassTable.{ClassTable}
use Rattle.net_model.specs.FaultList.{fault_count}
use Rattle.kept_vectors.specs.Kept.{nothing_kept, Keeps}
use Rattle.kept_vectors.specs.Keeper.{Keeper}
use Rattle.kept_vectors.proofs.KeepLemmas.{keeps_more}
use Rattle.kept_vectors.proofs.parting.classes_of.Goals as goal
use Rattle.kept_vectors.proofs.parting.classes_of.Goals.{After-into_kept-vectors}

-- what is kept of both
both : (c : After-into_kept-vectors) → Keeps c.args.subject.now (c.args.one.now ++ c.args.other.now) (nothing_kept (fault_count c.args.subject.now)) c.keep_list-2.new.self.kept
both c =
    let mid = c.keep_list.new.self.kept in
    let final = c.keep_list-2.new.self.kept in
    let other = subst (λ (k : Circuit). Keeps k c.args.other.now mid final) c.in_ok-keep_list.ensures.circuit c.in_ok-keep_list-2.ensures.ok in
    subst (λ (k : Keeper). Keeps k.circuit (c.args.one.now ++ c.args.other.now) k.kept final) c.in_ok-keeper.ensures (keeps_more c.in_ok-keep_list.ensures.ok other)

pub returns-clause-keeps : goal.returns-clause-keeps
returns-clause-keeps c =
    let kept = c.keep_list-2.new.self.kept.vectors in (
      kept,
      subst (λ (t : ClassTable). Keeps c.args.subject.now (c.args.one.now ++ c.args.other.now) (nothing_kept (fault_count c.args.subject.now)) (record { vectors = kept; table = t }))
          (sym c.into_kept-vectors.ensures.classes) (both ((goal.at.returns-clause-keeps c).After-into_kept-vectors)),
    )

pub returns-clause-parted : goal.returns-clause-parted
returns-clause-parted c =
    let same = c.in_ok-keep_list-2.ensures.circuit ∙ c.in_ok-keep_list.ensures.circuit ∙ ap (λ (k : Keeper). k.circuit) c.in_ok-keeper.ensures in
    let is : IsCircuit c.args.subject.now = subst IsCircuit same c.into_kept-vectors.ensures.keeper.circuit in
    rw c.into_kept-vectors.ensures.classes (c.kept_tell_as_much.ensures c.args.subject.now (c.args.one.now ++ c.args.other.now) c.keep_list-2.new.self.kept is (both ((goal.at.returns-clause-parted c).After-into_kept-vectors)))
