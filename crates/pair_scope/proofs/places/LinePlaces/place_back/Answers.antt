use Rattle.std.proofs.Common.{◌≡◌, get_or, arith}
use Rattle.std.proofs.lemmas.List.{get_or_read}
use Rattle.pair_scope.proofs.PlaceLemmas.{lines_count, place_of}
use Rattle.pair_scope.proofs.places.LinePlaces.place_back.Goals as goal

pub overflow_cast-result : goal.overflow_cast-result
overflow_cast-result c =
    let a = c.args.self.now in
    let count = lines_count a.circuit.now a.wiring.now c.requires.placed.wired a.lines.items c.requires.placed.are in
    omega (arith, c.len.ensures, a.lines.ok.0, count, c.requires.placed.wired.circuit.small)

pub overflow_sub-result : goal.overflow_sub-result
overflow_sub-result c =
    let a = c.args.self.now in
    let count = lines_count a.circuit.now a.wiring.now c.requires.placed.wired a.lines.items c.requires.placed.are in
    omega (arith, c.len.ensures, a.lines.ok.0, count, c.requires.line)

pub overflow_sub-result-2 : goal.overflow_sub-result-2
overflow_sub-result-2 c =
    let a = c.args.self.now in
    let count = lines_count a.circuit.now a.wiring.now c.requires.placed.wired a.lines.items c.requires.placed.are in
    let read : c.index.result.now ≡ get_or a.places.items c.args.line 0 = get_or_read a.places.items c.args.line c.index.result.now (omega (arith, c.requires.line, c.requires.placed.whole)) c.index.ensures 0 in
    let own = place_of a.circuit.now a.wiring.now a.lines.items a.places.items c.requires.placed c.args.line c.requires.line in
    omega (arith, c.len.ensures, a.lines.ok.0, count, read, own.0)

pub returns : goal.returns
returns c =
    let a = c.args.self.now in
    let count = lines_count a.circuit.now a.wiring.now c.requires.placed.wired a.lines.items c.requires.placed.are in
    let read : c.index.result.now ≡ get_or a.places.items c.args.line 0 = get_or_read a.places.items c.args.line c.index.result.now (omega (arith, c.requires.line, c.requires.placed.whole)) c.index.ensures 0 in
    omega (arith, c.len.ensures, a.lines.ok.0, count, read)
