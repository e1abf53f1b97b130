use Rattle.std.proofs.Common.{◌≡◌, ◌∙◌, ◌<◌, ◌≤◌, ◌++◌, ℕ, [], length, map, take, drop, sym, ap, arith}
use Rattle.std.specs.Prelude.{slice_index}
use Rattle.std.proofs.lemmas.List.{length-map, get_or-map, ext_get_or, take_all, drop_all, append-nil}
use Rattle.net_model.proofs.users.renumber.Goals as goal

pub bounds-numbers-user : goal.bounds-numbers-user
bounds-numbers-user c =
    let inside : c.loop-user.user-index < length c.args.users.now.items = omega (arith, c.loop-user-test.true, ap length c.deref_mut-user-items.ensures.value) in
    omega (arith, c.loop-user.invariant.rest c.loop-user.user-index (omega arith), c.requires c.loop-user.user-index 0 inside)

pub returns : goal.returns
returns c =
    let xs = c.args.users.now.items in
    let items = c.loop-user.user-items in
    let f : ℕ → ℕ = λ user. slice_index c.args.numbers.now user in
    let all : items ≡ map f xs =
    ext_get_or 0 items (map f xs) (c.loop-user.invariant.whole ∙ sym (length-map xs f))
    (λ k h. let inside : k < length xs = omega (arith, h, c.loop-user.invariant.whole) in c.loop-user.invariant.done k (omega (arith, h, c.loop-user-test.false, c.loop-user.auto.user-items)) ∙ sym (get_or-map f xs k 0 0 inside)) in
    let none : drop (length items) xs ≡ [] = drop_all (length items) xs (omega (arith, c.loop-user.invariant.whole)) in
    let long : length items ≤ c.args.users.now.len = omega (arith, c.loop-user.invariant.whole, c.args.users.now.ok.0) in
    ap (take c.args.users.now.len) (ap (λ ys. items ++ ys) none ∙ append-nil items) ∙ take_all c.args.users.now.len items long ∙ all
