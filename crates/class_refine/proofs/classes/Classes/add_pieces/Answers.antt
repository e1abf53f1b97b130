use Rattle.std.proofs.Common.{refl}
use Rattle.class_refine.proofs.Leaving.{pieces_more}
use Rattle.class_refine.proofs.classes.Classes.add_pieces.Goals as goal

pub returns : goal.returns
returns c lows so_far = pieces_more so_far c.in_ok-cut.ensures c.in_ok-append.ensures.items c.in_ok-append-2.ensures.items refl
