-- The state of a stream.
use Rattle.std.specs.Prelude.{◌≡◌, ℕ, Bool, ◌==◌}
use Rattle.word_sim.specs.Stream.{state_after, word_number}

-- the number of sources, whether the first block comes next, and the state of the generator
pub record StreamState : Type 0 where
  pub sources : ℕ
  pub first : Bool
  pub rng : ℕ

abbrev pub stream_with : ℕ → Bool → ℕ → StreamState
stream_with sources first rng = record { sources = sources; first = first; rng = rng }

-- the stream after `done` blocks
abbrev pub stream_at : ℕ → ℕ → StreamState
stream_at sources done = stream_with sources (done == 0) (state_after (word_number sources done 0))

-- A stream for `sources` sources is in this state after `done` blocks.
pub record IsAfter (sources done : ℕ) (first : Bool) (rng : ℕ) : Type 0 where
  pub comes_first : first ≡ (done == 0)
  pub state : rng ≡ state_after (word_number sources done 0)
