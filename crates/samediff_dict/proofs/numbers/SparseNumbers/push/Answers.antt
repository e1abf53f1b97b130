use Rattle.std.proofs.Common.{◌≡◌, ◌∙◌, ◌+◌, ◌/◌, ◌%◌, ◌^◌, ◌<◌, [], ◌∷◌, ◌++◌, get_or, length, sym, ap, subst, arith}
use Rattle.std.proofs.lemmas.List.{get_or_read}
use Rattle.samediff_dict.specs.Sparse.{sparse_list, AreSparse}
use Rattle.samediff_dict.specs.declared.numbers.SparseNumbers.TheInside.{Inside}
use Rattle.samediff_dict.proofs.SparseLemmas.{list_length, zero_sparse, zero_list, other_sparse, other_list}
use Rattle.samediff_dict.proofs.numbers.SparseNumbers.push.Goals as goal
use Rattle.samediff_dict.proofs.numbers.SparseNumbers.push.Goals.{then-number-ne0+in_ok-push, else-number-ne0}

pub make_room-requires-clause-few : goal.make_room-requires-clause-few
make_room-requires-clause-few c =
    let a = c.self.inside in
    omega (arith, c.requires, list_length a.marks.items a.before.items a.others.items c.args.self.now a.len c.self.view_is)

pub overflow_add-self : goal.overflow_add-self
overflow_add-self c =
    let a = c.self.inside in
    let few : a.len < 2 ^ 32 = omega (arith, c.requires, list_length a.marks.items a.before.items a.others.items c.args.self.now a.len c.self.view_is) in
    elim c.if-number-ne0.branch [
      | then-number-ne0+in_ok-push w ↦ let same : c.if-number-ne0.self-inside.len ≡ a.len = ap (λ (f : Inside). f.len) w.self-inside-is in omega (arith, few, same)
      | else-number-ne0 w ↦ let same : c.if-number-ne0.self-inside.len ≡ a.len = ap (λ (f : Inside). f.len) w.self-inside-is in omega (arith, few, same)
    ]

pub invariant_of-self-2 : goal.invariant_of-self-2
invariant_of-self-2 c =
    let a = c.self.inside in
    let marks = c.make_room.new.marks.items in
    let before = c.make_room.new.before.items in
    let others = a.others.items in
    let sparse : AreSparse marks before others a.len = rw c.as_slice.ensures.value at c.in_ok-make_room.ensures.sparse in
    let room : a.len / 64 < length marks = c.in_ok-make_room.ensures.room in
    let P : Inside → Type 0 = λ f. AreSparse f.marks.items f.before.items f.others.items (f.len + 1) in
    elim c.if-number-ne0.branch [
      | then-number-ne0+in_ok-push w ↦
          let some : 0 < c.args.number = omega (arith, w.if-number-ne0.true) in
          let read : w.index.result.now ≡ get_or marks (a.len / 64) 0 = get_or_read marks (a.len / 64) w.index.result.now room w.index.ensures 0 in
          let value : w.with_bit_above.result ≡ 2 ^ (a.len % 64) + get_or marks (a.len / 64) 0 = w.with_bit_above.ensures ∙ ap (λ n. 2 ^ (a.len % 64) + n) read in
          let more : w.push.new.self.items ≡ others ++ c.args.number ∷ [] = w.in_ok-push.ensures.items in
          subst P (sym w.self-inside-is) (rw (value, more) (other_sparse marks before others a.len c.args.number sparse room some))
      | else-number-ne0 w ↦ subst P (sym w.self-inside-is) (zero_sparse marks before others a.len sparse room)
    ]

pub returns-clause-ok : goal.returns-clause-ok
returns-clause-ok c =
    let a = c.self.inside in
    let marks = c.make_room.new.marks.items in
    let before = c.make_room.new.before.items in
    let others = a.others.items in
    let now = c.args.self.now in
    let sparse : AreSparse marks before others a.len = rw c.as_slice.ensures.value at c.in_ok-make_room.ensures.sparse in
    let kept : sparse_list marks before others a.len ≡ sparse_list a.marks.items a.before.items others a.len = rw c.as_slice.ensures.value at c.in_ok-make_room.ensures.same in
    let old : sparse_list marks before others a.len ≡ now = kept ∙ c.self.view_is in
    let room : a.len / 64 < length marks = c.in_ok-make_room.ensures.room in
    let P : Inside → Type 0 = λ f. sparse_list f.marks.items f.before.items f.others.items (f.len + 1) ≡ now ++ c.args.number ∷ [] in
    elim c.if-number-ne0.branch [
      | then-number-ne0+in_ok-push w ↦
          let read : w.index.result.now ≡ get_or marks (a.len / 64) 0 = get_or_read marks (a.len / 64) w.index.result.now room w.index.ensures 0 in
          let value : w.with_bit_above.result ≡ 2 ^ (a.len % 64) + get_or marks (a.len / 64) 0 = w.with_bit_above.ensures ∙ ap (λ n. 2 ^ (a.len % 64) + n) read in
          let more : w.push.new.self.items ≡ others ++ c.args.number ∷ [] = w.in_ok-push.ensures.items in
          subst P (sym w.self-inside-is) (rw (value, more) (other_list marks before others a.len c.args.number sparse room ∙ ap (λ xs. xs ++ c.args.number ∷ []) old))
      | else-number-ne0 w ↦
          let none : c.args.number ≡ 0 = w.if-number-ne0.false in
          subst P (sym w.self-inside-is) (zero_list marks before others a.len sparse ∙ ap (λ xs. xs ++ 0 ∷ []) old ∙ ap (λ n. now ++ n ∷ []) (sym none))
    ]
