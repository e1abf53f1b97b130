use Rattle.std.proofs.Common.{◌≡◌, ◌<◌, length, refl, sym, ap, subst, arith}
use Rattle.std.specs.Prelude.{Some, slice_get}
use Rattle.std.proofs.lemmas.Option.{slice_get_read}
use Rattle.net_model.specs.Circuit.{line_count}
use Rattle.net_model.specs.Answer.{bit_at, IsAnswer}
use Rattle.fault_heads.specs.Turned.{vector_at, turned_if, IsHeadOf}
use Rattle.fault_heads.specs.Ways.{Heads}
use Rattle.fault_heads.proofs.WayLemmas.{chained}
use Rattle.fault_heads.proofs.heads.Heads.turn.Goals as goal

pub returns-in-Line-clause-turns : goal.returns-in-Line-clause-turns
returns-in-Line-clause-turns c = λ lane free answer is a.
    let circuit = c.args.good.now.circuit in
    let v = vector_at c.args.good.now lane in
    let next = c.index-way.result.now.head in
    let first = c.in_ok-first.ensures.turns lane free answer is a in
    let at_line = subst (λ h. IsAnswer circuit (turned_if circuit free h (bit_at c.in_ok-first.first.lanes lane)) v answer) c.in-Line.is first in
    let line = c.in-Line.line in
    let inside : line < line_count circuit = subst (IsHeadOf circuit) c.in-Line.is c.in_ok-first.ensures.head in
    let items = c.self.inside.ways.items in
    let stored = slice_get_read items (length items) line c.index-way.result.now refl (omega (arith, inside, c.requires.ways.whole, ap (λ (h : Heads). length h.ways) c.self.view_is)) c.index-way.ensures in
    let there = subst (λ (h : Heads). slice_get h.ways line ≡ Some c.index-way.result.now) c.self.view_is stored in
    let way = c.requires.ways.each line c.index-way.result.now there in
    subst (λ b. IsAnswer circuit (turned_if circuit free next b) v answer) (sym (c.and.ensures lane is.within))
    (chained circuit free v answer c.in-Line.line next (bit_at c.in_ok-first.first.lanes lane) (bit_at c.index-way.result.now.lanes lane) at_line (way.turns lane free answer is))
