-- Chains that name no literal.
use Rattle.std.specs.Prelude.{None}
use Rattle.pair_miter.specs.ChainView.{ChainView}

-- The chain without the literal that it names.
abbrev pub without_literal : ChainView → ChainView
without_literal chain = record chain { fresh_at = None }
