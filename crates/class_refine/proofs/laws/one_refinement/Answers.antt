use Rattle.std.proofs.Common.{subst, sym}
use Rattle.net_model.specs.ClassTable.{refined_table}
use Rattle.class_refine.specs.Laws.{IsRefinement}
use Rattle.class_refine.proofs.Refinement.{refined_is, same_refinement}
use Rattle.class_refine.proofs.laws.one_refinement.Goals as goal

pub returns : goal.returns
returns c t row new w = (
  λ is. same_refinement t row w new (refined_table t row) is (refined_is t row w),
  λ e. subst (IsRefinement t row) (sym e) (refined_is t row w),
)
