use Rattle.std.proofs.Common.{◌≡◌, ℕ, ◌+◌, List, subst, arith}
use Rattle.net_model.specs.Circuit.{line_count}
use Rattle.net_model.specs.Topological.{parts_circuit, AddsUser}
use Rattle.net_model.proofs.UserLemmas.{AreReadersBelow, readers_none, readers_more, readers_done}
use Rattle.net_model.proofs.topological.readers_of.Goals as goal

pub loop-line-init : goal.loop-line-init
loop-line-init c =
    let circuit = parts_circuit c.args.parts.now in
    let lines : c.args.parts.now.sources + c.len.result ≡ line_count circuit = omega (arith, c.len.ensures, c.args.parts.now.gates.ok.0) in
    readers_none circuit c.in_ok-readers.readers (rw lines at c.in_ok-readers.ensures)

pub loop-line-preserved : goal.loop-line-preserved
loop-line-preserved c =
    let circuit = parts_circuit c.args.parts.now in
    let adds = subst (λ (pins : List ℕ). AddsUser c.loop-line.line pins c.loop-line.readers c.add_all.new.self) c.pins_of.ensures.value c.in_ok-add_all.ensures in
    readers_more circuit c.loop-line.line c.loop-line.readers c.add_all.new.self c.loop-line.auto.line (omega (arith, c.loop-line-test.true, c.len.ensures, c.args.parts.now.gates.ok.0)) c.loop-line.invariant adds

pub returns : goal.returns
returns c =
    let circuit = parts_circuit c.args.parts.now in
    let all : c.loop-line.line ≡ line_count circuit = omega (arith, c.len.ensures, c.args.parts.now.gates.ok.0) in
    readers_done circuit c.loop-line.readers (subst (λ n. AreReadersBelow circuit n c.loop-line.readers) all c.loop-line.invariant)
