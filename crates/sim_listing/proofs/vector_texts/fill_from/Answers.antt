use Rattle.std.proofs.Common.{arith}
use Rattle.sim_listing.proofs.vector_texts.fill_from.Goals as goal

pub fill_block-requires : goal.fill_block-requires
fill_block-requires c = record {
  widths = c.requires.widths;
  order = omega arith;
  few = omega (arith, c.min-count.ensures);
  within = omega (arith, c.min-count.ensures, c.requires.first);
}
