-- Links between watches, as numbers.
use Rattle.std.specs.Prelude.{◌≡◌, ◌≢◌, ℕ, zero, suc, ◌+◌, ◌-◌, Option, None, Some, refl}
use Rattle.std.proofs.Common.{arith, ap}

-- 0 for none, else the number of the watch plus one.
abbrev pub link_code : Option ℕ → ℕ
link_code None = 0
link_code (Some watch) = watch + 1

abbrev pub link_of : ℕ → Option ℕ
link_of zero = None
link_of (suc watch) = Some watch

pub link_code-link_of : (code : ℕ) → link_code (link_of code) ≡ code
link_code-link_of zero = refl
link_code-link_of (suc watch) = omega arith

pub link_of-next : (watch : ℕ) → link_of (watch + 1) ≡ Some watch
link_of-next watch = let next : watch + 1 ≡ suc watch = omega arith in ap link_of next

pub link_of-some : (code : ℕ) → code ≢ 0 → Some (code - 1) ≡ link_of code
link_of-some zero some = absurd (some refl)
link_of-some (suc watch) some = let before : suc watch - 1 ≡ watch = omega arith in ap (λ n. Some n) before
