use Rattle.std.proofs.Common.{◌≡◌, ◌∙◌, ◌+◌, ◌<◌, ◌++◌, ◌∷◌, [], length, get_or, ap, arith, length-append}
use Rattle.std.proofs.lemmas.List.{take_all}
use Rattle.std.proofs.lemmas.List.Sums.{sum_by_more_le}
use Rattle.net_model.proofs.ListLemmas.{lists_none, lists_more}
use Rattle.net_model.proofs.lists.Lists.of_users.Goals as goal

pub loop-line-init : goal.loop-line-init
loop-line-init c = record {
  lists = rw (c.push_reserved.ensures.items, c.in_ok-starts.ensures.items, c.new-numbers.ensures.items) (lists_none c.args.users.now);
  room = c.push_reserved.ensures.capacity ∙ c.in_ok-starts.ensures.exact ∙ ap (λ n. n + 1) c.count.ensures;
}

pub push_reserved-requires-in-loop-line : goal.push_reserved-requires-in-loop-line
push_reserved-requires-in-loop-line c =
    omega (arith, c.loop-line.invariant.lists.count, c.loop-line.starts.ok.0, c.loop-line.invariant.room, c.loop-line-test.true, c.count-line-end.ensures)

pub overflow_cast-len : goal.overflow_cast-len
overflow_cast-len c =
    let users = c.args.users.now in
    let line = c.loop-line.line in
    let inside : line < length users = omega (arith, c.loop-line-test.true, c.count-line-end.ensures) in
    let longer = length-append c.loop-line.numbers.items c.at.result.now in
    omega (arith, c.len.ensures, c.extend_from_slice.new.self.ok.0, ap length c.in_ok-extend_from_slice.ensures.items, longer, ap length c.at.ensures, c.loop-line.invariant.lists.total, sum_by_more_le length users line [] inside, c.requires.numbers)

pub loop-line-preserved : goal.loop-line-preserved
loop-line-preserved c =
    let users = c.args.users.now in
    let line = c.loop-line.line in
    let starts = c.loop-line.starts.items in
    let inside : line < length users = omega (arith, c.loop-line-test.true, c.count-line-end.ensures) in
    let numbers : c.extend_from_slice.new.self.items ≡ c.loop-line.numbers.items ++ get_or users line [] = c.in_ok-extend_from_slice.ensures.items ∙ ap (λ xs. c.loop-line.numbers.items ++ xs) c.at.ensures in
    let long : c.len.result ≡ length c.extend_from_slice.new.self.items = omega (arith, c.len.ensures, c.extend_from_slice.new.self.ok.0) in
    let start : c.push_reserved-in-loop-line.new.self.items ≡ starts ++ length (c.loop-line.numbers.items ++ get_or users line []) ∷ [] =
    c.push_reserved-in-loop-line.ensures.items ∙ ap (λ n. starts ++ n ∷ []) (long ∙ ap length numbers) in
    record {
      lists = rw (numbers, start) (lists_more starts c.loop-line.numbers.items users line c.loop-line.invariant.lists inside);
      room = c.push_reserved-in-loop-line.ensures.capacity ∙ c.loop-line.invariant.room;
    }

pub invariant_of-result : goal.invariant_of-result
invariant_of-result c = c.loop-line.invariant.lists.are_starts

pub returns : goal.returns
returns c = c.loop-line.invariant.lists.between ∙ take_all c.loop-line.line c.args.users.now (omega (arith, c.loop-line-test.false, c.count-line-end.ensures))
