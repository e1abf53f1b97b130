use Rattle.std.proofs.Common.{◌≡◌, ◌∙◌, ◌+◌, ◌<◌, ◌≤◌, ℕ, List, [], length, map, set, get_or, sym, ap, subst, arith, Vec, Global}
use Rattle.std.specs.Prelude.{slice_index, All}
use Rattle.std.proofs.lemmas.List.{length-map, get_or-map, map-set}
use Rattle.net_model.proofs.WiringLemmas.{AreRenumbered, renumbered_none, renumbered_more, renumbered_all}
use Rattle.net_model.proofs.users.GrowingLists+u32.renumber.Goals as goal

pub loop-line-init : goal.loop-line-init
loop-line-init c = rw (← c.self.view_is) (renumbered_none (λ user. slice_index c.args.numbers.now user) (map (λ (list : Vec ℕ Global). list.items) c.self.inside.lists.items))

-- the users of a line that isn't reached are as before
still : (f : ℕ → ℕ) (line : ℕ) (old : List (List ℕ)) (lists : List (Vec ℕ Global)) (list : Vec ℕ Global) → AreRenumbered f line old (map (λ (list : Vec ℕ Global). list.items) lists) → line < length old
    → list ≡ get_or lists line list → list.items ≡ get_or old line []
still f line old lists list are inside read =
    let items = λ (list : Vec ℕ Global). list.items in
    let count : length lists ≡ length old = sym (length-map lists items) ∙ are.whole in
    ap items read ∙ (sym (get_or-map items lists line list [] (omega arith)) ∙ are.rest line (omega arith))

pub renumber-requires : goal.renumber-requires
renumber-requires c =
    let f : ℕ → ℕ = λ user. slice_index c.args.numbers.now user in
    let inside : c.loop-line.line < length c.args.self.now =
    omega (arith, c.loop-line-test.true, c.len-line-end.ensures, c.self.inside.lists.ok.0, ap length c.self.view_is, length-map c.self.inside.lists.items (λ (list : Vec ℕ Global). list.items)) in
    let there = still f c.loop-line.line c.args.self.now c.loop-line.self-inside.lists.items c.index_mut.result.now c.loop-line.invariant inside c.index_mut.ensures.value in
    subst (All (λ user. user < length c.args.numbers.now)) (sym there) (c.requires c.loop-line.line [] inside)

pub loop-line-preserved : goal.loop-line-preserved
loop-line-preserved c =
    let items = λ (list : Vec ℕ Global). list.items in
    let f : ℕ → ℕ = λ user. slice_index c.args.numbers.now user in
    let lists = c.loop-line.self-inside.lists.items in
    let line = c.loop-line.line in
    let inside : line < length c.args.self.now = omega (arith, c.loop-line-test.true, c.len-line-end.ensures, c.self.inside.lists.ok.0, ap length c.self.view_is, length-map c.self.inside.lists.items items) in
    let there = still f line c.args.self.now lists c.index_mut.result.now c.loop-line.invariant inside c.index_mut.ensures.value in
    let now : map items (set lists line c.renumber.new.users) ≡ set (map items lists) line (map f (get_or c.args.self.now line [])) =
    map-set items lists line c.renumber.new.users ∙ ap (set (map items lists) line) (c.renumber.ensures ∙ ap (map f) there) in
    subst (AreRenumbered f (line + 1) c.args.self.now) (sym now) (renumbered_more f line c.args.self.now (map items lists) inside c.loop-line.invariant)

pub returns : goal.returns
returns c =
    let items = λ (list : Vec ℕ Global). list.items in
    let all : length c.args.self.now ≤ c.loop-line.line = omega (arith, c.loop-line-test.false, c.len-line-end.ensures, c.self.inside.lists.ok.0, ap length c.self.view_is, length-map c.self.inside.lists.items items) in
    renumbered_all (λ user. slice_index c.args.numbers.now user) c.loop-line.line c.args.self.now (map items c.loop-line.self-inside.lists.items) all c.loop-line.invariant
