use Rattle.solver_trail.proofs.Fits.{fits_longer}
use Rattle.solver_trail.proofs.laws.longer_pool_fits.Goals as goal

pub returns : goal.returns
returns c = fits_longer
