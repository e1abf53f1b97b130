use Rattle.std.proofs.Common.{◌≡◌, refl, ap, Err}
use Rattle.scan_cut.specs.Cut.{cut_circuit, cut_design}
use Rattle.scan_cut.proofs.FitLemmas.{names_fit}
use Rattle.scan_cut.proofs.cutting.cut.Goals as goal

pub build-requires : goal.build-requires
build-requires c = let a = c.in_ok-gates.ensures in rw (a.sources, a.gates, a.positions) a.fits

pub returns-in-Ok-clause-ok : goal.returns-in-Ok-clause-ok
unfolding cut_design
returns-in-Ok-clause-ok c =
    let a = c.in_ok-gates.ensures in
    let circuit : c.in-Ok.circuit ≡ cut_circuit c.args.statements.now = rw (a.sources, a.gates, a.positions) at c.in-Ok.ensures.ok in
    rw (circuit, a.names) refl

pub cut_fault-requires-clause-walk : goal.cut_fault-requires-clause-walk
cut_fault-requires-clause-walk c = λ walk is.
    let a = c.in_ok-gates.ensures in
    rw (a.sources, a.gates, a.positions) at (c.in-Err.ensures.looped walk (ap (λ e. Err e) is))

pub returns-in-Ok-clause-named : goal.returns-in-Ok-clause-named
unfolding cut_design
returns-in-Ok-clause-named c =
    let a = c.in_ok-gates.ensures in
    let circuit : c.in-Ok.circuit ≡ cut_circuit c.args.statements.now = rw (a.sources, a.gates, a.positions) at c.in-Ok.ensures.ok in
    rw (circuit, a.names) (names_fit c.args.statements.now)
