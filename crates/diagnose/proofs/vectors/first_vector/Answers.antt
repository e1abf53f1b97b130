use Rattle.diagnose.proofs.VectorLemmas.{no_feed_vector, no_bits_vector}
use Rattle.diagnose.proofs.vectors.first_vector.Goals as goal

pub returns-in_err-line : goal.returns-in_err-line
returns-in_err-line c = rw c.from_residual.ensures (no_feed_vector c.args.text.now c.in_err-line.ensures)

pub returns-in_err-digits : goal.returns-in_err-digits
returns-in_err-digits c = rw c.from_residual-in_err-digits.ensures (no_bits_vector c.args.text.now c.in_ok-line.line.now c.in_ok-line.rest.now c.in_ok-line.ensures c.in_err-digits.ensures)
