use Rattle.std.proofs.Common.{◌≡◌, ◌∙◌, ◌+◌, ◌++◌, ◌∷◌, ℕ, [], List, length, get_or, set, sym, ap, subst, arith}
use Rattle.std.proofs.lemmas.List.{get_or_read}
use Rattle.answer_numbers.specs.declared.differences.Item.{Item}
use Rattle.answer_numbers.specs.Differences.{IsPushed}
use Rattle.answer_numbers.proofs.ItemLemmas.{pushed}
use Rattle.answer_numbers.proofs.differences.PositionLists.push.Goals as goal

pub returns : goal.returns
returns c =
    let firsts = c.args.self.now.firsts.items in
    let items = c.args.self.now.items.items in
    let position = c.args.position in
    let next : c.index-next.result.now ≡ get_or firsts position 0 = get_or_read firsts position c.index-next.result.now c.requires.position c.index-next.ensures 0 in
    let number : c.len.result + c.len-2.result ≡ length firsts + length items = omega (arith, c.len.ensures, c.len-2.ensures, c.args.self.now.firsts.ok.0, c.args.self.now.items.ok.0) in
    let item : ℕ → Item = λ n. record { place = c.args.place; lanes = c.args.lanes; next = n } in
    let more : c.push.new.self.items ≡ items ++ item (get_or firsts position 0) ∷ [] = c.in_ok-push.ensures.items ∙ ap (λ n. items ++ item n ∷ []) next in
    subst (λ n. IsPushed position c.args.place c.args.lanes firsts items (set firsts position n) c.push.new.self.items) (sym number)
    (subst (λ (xs : List Item). IsPushed position c.args.place c.args.lanes firsts items (set firsts position (length firsts + length items)) xs) (sym more)
    (pushed position c.args.place c.args.lanes firsts items c.requires.lists c.requires.position c.requires.absent (omega (arith, number, c.if-number.false))))
