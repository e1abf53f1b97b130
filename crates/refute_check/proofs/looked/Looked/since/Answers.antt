use Rattle.std.proofs.Common.{◌≡◌, ◌∙◌, ◌-◌, get_or, sym, arith}
use Rattle.std.proofs.lemmas.Bool.{ltb-true}
use Rattle.std.proofs.lemmas.List.{get_or_default}
use Rattle.refute_check.proofs.looked.Looked.since.Goals as goal

pub returns-then-self-stamp : goal.returns-then-self-stamp
returns-then-self-stamp c = λ t.
    let stamps = c.args.self.now.stamps.items in
    let stamp = c.index-stamp.result.now in
    let base = c.args.self.now.base in
    let here : get_or stamps c.args.number 0 ≡ stamp = get_or_default stamps c.args.number 0 stamp c.requires ∙ sym c.index-stamp.ensures in
    let late = ltb-true c.args.held (stamp - base) t in
    let low = c.if-self-stamp.true in
    (stamp - base - 1, omega (arith, late), (omega (arith, here, low, late), omega (arith, low, late, c.if-stamp-lt18446744073709551615.true)))
