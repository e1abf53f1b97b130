use Rattle.std.proofs.Common.{ℕ, ◌+◌, ◌*◌, [], length, refl, ap, arith, rules}
use Rattle.std.specs.Prelude.{Option, None, replicate}
use Rattle.std.proofs.lemmas.List.{length-replicate, get_or-replicate}
use Rattle.solver_trail.specs.Assignment.{Assignment}
use Rattle.solver_trail.specs.Watches.{AreWatchesListed}
use Rattle.solver_trail.proofs.trail.Trail.new.Goals as goal

-- if nothing is watched, all lists are empty
none_listed : (n : ℕ) → AreWatchesListed (replicate n None) [] [] []
none_listed n = record {
  size = refl;
  few = omega arith;
  lists = λ code below. record {
    members = [];
    chain = get_or-replicate n code None None (omega (arith, below, length-replicate {A = Option ℕ} n None));
    apart = search rules;
    owned = λ watch none. absurd none;
    whole = λ watch less is. absurd (omega (arith, less));
  };
}

pub invariant_of-result : goal.invariant_of-result
invariant_of-result c =
    let e = c.in_ok-new.ensures in
    let n = 2 * c.args.variables + 2 in
    record {
      trail = c.level.ensures.trail;
      listed = rw (e.firsts, e.watches) (none_listed n);
      codes = omega (arith, ap length e.firsts, length-replicate {A = Option ℕ} n None, ap (λ (a : Assignment). a.variables) c.in_ok-set.ensures);
      kept = λ watch less j d none. absurd (omega (arith, none));
      reached = omega arith;
    }
