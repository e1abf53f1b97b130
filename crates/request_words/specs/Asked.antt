-- What a request of the code's own type asks for.
use Rattle.std.specs.Prelude.{◌≤◌}
use Rattle.result_records.specs.Limits.{AreWithinLimits}
use Rattle.request_words.specs.Request as spec
use Rattle.request_words.specs.declared.request.Request.{Request}
use Rattle.request_words.specs.declared.request.Request.TheVariants.{Gen, Check, MakeDict, Convert, Diagnose, ListFaults, Simulate, Synth, Compact, Rank, Adapt, Follow, Expect, Suspects, Cover, TopUp, Bridges, ExpectAt, SuspectsAt, CoverAt, BridgesAt}

abbrev pub asked : Request → spec.Request
asked (Gen bench result budgets) = spec.gen bench.now result.now budgets
asked (Check bench result) = spec.check bench.now result.now
asked (MakeDict kind bench result dict) = spec.make_dict kind bench.now result.now dict.now
asked (Convert old new) = spec.convert old.now new.now
asked (Diagnose dict log) = spec.diagnose dict.now log.now
asked (ListFaults bench) = spec.list_faults bench.now
asked (Simulate bench vectors) = spec.simulate bench.now vectors.now
asked (Synth n bench result) = spec.synth n bench.now result.now
asked (Compact bench result new) = spec.compact bench.now result.now new.now
asked (Rank dict log within) = spec.rank dict.now log.now within
asked (Adapt bench result plan) = spec.adapt bench.now result.now plan.now
asked (Follow plan log) = spec.follow plan.now log.now
asked (Expect bench result log) = spec.expect bench.now result.now log.now
asked (Suspects bench result log most) = spec.suspects bench.now result.now log.now most
asked (Cover bench result log) = spec.cover bench.now result.now log.now
asked (TopUp bench vectors result budgets) = spec.top_up bench.now vectors.now result.now budgets
asked (Bridges bench result log most within) = spec.bridges bench.now result.now log.now most within
asked (ExpectAt bench result log vectors) = spec.expect_at bench.now result.now log.now vectors.now
asked (SuspectsAt bench result log most vectors) = spec.suspects_at bench.now result.now log.now most vectors.now
asked (CoverAt bench result log vectors) = spec.cover_at bench.now result.now log.now vectors.now
asked (BridgesAt bench result log most within vectors) = spec.bridges_at bench.now result.now log.now most within vectors.now

-- The numbers of a request are within their limits.
abbrev pub HasLimits : Request → Type 0
HasLimits (Gen bench result budgets) = AreWithinLimits budgets
HasLimits (Check bench result) = Unit {0}
HasLimits (MakeDict kind bench result dict) = Unit {0}
HasLimits (Convert old new) = Unit {0}
HasLimits (Diagnose dict log) = Unit {0}
HasLimits (ListFaults bench) = Unit {0}
HasLimits (Simulate bench vectors) = Unit {0}
HasLimits (Synth n bench result) = (1 ≤ n) × (n ≤ 2000)
HasLimits (Compact bench result new) = Unit {0}
HasLimits (Rank dict log within) = within ≤ 1000000
HasLimits (Adapt bench result plan) = Unit {0}
HasLimits (Follow plan log) = Unit {0}
HasLimits (Expect bench result log) = Unit {0}
HasLimits (Suspects bench result log most) = (1 ≤ most) × (most ≤ 1000000)
HasLimits (Cover bench result log) = Unit {0}
HasLimits (TopUp bench vectors result budgets) = AreWithinLimits budgets
HasLimits (Bridges bench result log most within) = (1 ≤ most) × (most ≤ 1000000) × (within ≤ 1000000)
HasLimits (ExpectAt bench result log vectors) = Unit {0}
HasLimits (SuspectsAt bench result log most vectors) = (1 ≤ most) × (most ≤ 1000000)
HasLimits (CoverAt bench result log vectors) = Unit {0}
HasLimits (BridgesAt bench result log most within vectors) = (1 ≤ most) × (most ≤ 1000000) × (within ≤ 1000000)
