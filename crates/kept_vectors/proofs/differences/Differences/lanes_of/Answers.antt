use Rattle.std.proofs.Common.{◌≡◌, ◌∙◌, ◌<◌, ◌&&◌, ℕ, get_or, length, ap, arith}
use Rattle.std.proofs.lemmas.List.{get_or_default}
use Rattle.net_model.specs.Answer.{bit_at}
use Rattle.kept_vectors.specs.declared.notes.Shown.{Shown}
use Rattle.kept_vectors.specs.Notes.{noted_by, place_of, shown_at, head_notes, nothing_shown, IsPlaceShown}
use Rattle.kept_vectors.proofs.TurnLemmas.{masked_alike}
use Rattle.kept_vectors.proofs.differences.Differences.lanes_of.Goals as goal

pub returns-in-Some-clause-shows : goal.returns-in-Some-clause-shows
returns-in-Some-clause-shows c lane h =
    let noted = noted_by c.args.self.now in
    let items = c.args.self.now.shown.items in
    let turn = c.in-Some.turn in
    let place = place_of c.args.self.now.lines turn.head in
    let shown : IsPlaceShown noted place = rw c.in-Some.is at c.requires in
    let inside : c.place.result < length items = omega (arith, shown.below, c.place.ensures) in
    let value : c.index.result.now ≡ shown_at noted place = c.index.ensures ∙ get_or_default items c.place.result c.index.result.now nothing_shown inside ∙ ap (λ (p : ℕ). get_or items p nothing_shown) c.place.ensures in
    let is : bit_at c.and.result lane ≡ (bit_at turn.lanes lane && bit_at (shown_at noted place).any lane) = c.and.ensures lane h ∙ ap (λ (s : Shown). bit_at turn.lanes lane && bit_at s.any lane) value in
    rw c.in-Some.is (masked_alike lane (bit_at turn.lanes lane) (bit_at (shown_at noted place).any lane) (bit_at c.and.result lane) (head_notes noted place) is (shown.any lane h))
