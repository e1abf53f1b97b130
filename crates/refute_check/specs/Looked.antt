-- When each clause was looked at.
use Rattle.std.specs.Prelude.{◌≡◌, ◌<◌, ◌+◌, ◌-◌, ◌^◌, ℕ, slice_index_or}
use Rattle.refute_check.specs.declared.looked.Looked.{Looked}

-- The clause of this number was looked at while `held` literals were held. Stamps at their last value say nothing.
abbrev pub IsLookedAt : Looked → ℕ → ℕ → Type 0
IsLookedAt looked number held = (slice_index_or looked.stamps.items number 0 ≡ looked.base + held + 1) × (looked.base + held + 1 < 2 ^ 64 - 1)
