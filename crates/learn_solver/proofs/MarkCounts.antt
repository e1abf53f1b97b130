-- How many marks are set.
use Rattle.std.proofs.Common.{◌≡◌, ℕ, ◌+◌, ◌<◌, List, length, set, refl, ap, arith, inl, inr}
use Rattle.std.specs.Prelude.{Bool, true, false}
use Rattle.std.proofs.lemmas.Bool.{cases_lt}
use Rattle.std.proofs.lemmas.List.{get_or_past}
use Rattle.std.proofs.lemmas.List.Sums.{sum_by-set, get_or-le-sum_by}
use Rattle.net_model.specs.Answer.{bit_at}
use Rattle.learn_solver.specs.Marks.{mark_count}
use Rattle.learn_solver.proofs.Counts.{one_if}

pub none_marked : (marks : List Bool) → mark_count marks ≡ 0 → (v : ℕ) → bit_at marks v ≡ false
none_marked marks none v = elim (cases_lt v (length marks)) [
  | inl within ↦ by (bit_at marks v) refl within
  | inr over ↦ get_or_past marks v false over
]
  where
    by : (b : Bool) → bit_at marks v ≡ b → v < length marks → b ≡ false
    by true e within =
        let one : one_if (bit_at marks v) ≡ 1 = ap one_if e in
        absurd (omega (arith, get_or-le-sum_by one_if marks v false within, one, none))
    by false e within = refl

pub marked_more : (marks : List Bool) (v : ℕ) → v < length marks → bit_at marks v ≡ false → mark_count (set marks v true) ≡ mark_count marks + 1
marked_more marks v h e = let none : one_if (bit_at marks v) ≡ 0 = ap one_if e in omega (arith, sum_by-set one_if marks v true false h, none)

pub marked_fewer : (marks : List Bool) (v : ℕ) → v < length marks → bit_at marks v ≡ true → mark_count (set marks v false) + 1 ≡ mark_count marks
marked_fewer marks v h e = let one : one_if (bit_at marks v) ≡ 1 = ap one_if e in omega (arith, sum_by-set one_if marks v false false h, one)
