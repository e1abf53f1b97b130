use Rattle.std.proofs.Common.{length, refl, arith}
use Rattle.result_records.specs.Held.{IsFirstFrom, IsWithoutLineFeed}
use Rattle.result_records.proofs.PieceLemmas.{none_behind, first_line, without_more}
use Rattle.result_records.proofs.lines.Lines.take_line.Goals as goal

pub returns-in_default-clause-ok : goal.returns-in_default-clause-ok
returns-in_default-clause-ok c =
    let items = c.self.inside.bytes.items in
    let start = c.self.inside.start in
    let looked = c.self.inside.looked in
    let behind : IsWithoutLineFeed items looked (length items) = rw c.deref.ensures.value at c.in_default.ensures in
    rw (← c.self.view_is) (none_behind items start (without_more items start looked (length items) c.self.invariant.2 behind), refl)

pub returns-clause-ok : goal.returns-clause-ok
returns-clause-ok c =
    let items = c.self.inside.bytes.items in
    let start = c.self.inside.start in
    let looked = c.self.inside.looked in
    let end = c.in-Some.end in
    let found : IsFirstFrom items looked end = rw c.deref.ensures.value at c.in-Some.ensures in
    let line = first_line items start end (omega (arith, c.self.invariant.0, found.behind)) found.inside (without_more items start looked end c.self.invariant.2 found.before) found.here in
    rw (← c.self.view_is, c.in_ok-line.ensures.items, c.deref-2.ensures.value) line
