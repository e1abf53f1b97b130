-- What the fields of `VectorTexts` show, and what is true of them.
use Rattle.std.specs.Prelude.{◌≡◌, ◌+◌, ◌≤◌, All, length, slice_range}
use Rattle.answer_numbers.specs.AnswerNumbers.{numbered_vectors}
use Rattle.sim_listing.specs.declared.vector_texts.VectorTexts.TheInside.{Inside}
use Rattle.sim_listing.specs.LaneAnswers.{AreEqualRoots}
use Rattle.sim_listing.specs.VectorTexts.{VectorTexts}

abbrev pub vector_texts_of : Inside → VectorTexts
vector_texts_of a = record { circuit = a.numbers.circuit; vectors = a.vectors.now; first = a.first; count = a.count }

pub record AreVectorTextsFields (a : Inside) : Type 0 where
  pub roots : AreEqualRoots a.numbers.circuit a.numbers.leads a.places.now
  pub widths : All (λ v. length v ≡ a.numbers.circuit.sources) a.vectors.now
  pub sources : a.block.sources ≡ a.numbers.circuit.sources
  pub within : a.first + a.count ≤ length a.vectors.now
  pub long : length (numbered_vectors a.numbers) ≡ a.count
  pub numbered : numbered_vectors a.numbers ≡ slice_range a.vectors.now a.first (a.first + a.count)
