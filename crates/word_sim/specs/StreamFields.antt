-- What the fields of a `Stream` show.
use Rattle.word_sim.specs.declared.stream.Stream.TheInside.{Inside}
use Rattle.word_sim.specs.StreamState.{StreamState, stream_with}

abbrev pub stream_of : Inside → StreamState
stream_of a = stream_with a.sources a.first a.rng
