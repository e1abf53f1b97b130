use Rattle.std.proofs.Common.{◌≡◌, ◌∙◌, ◌++◌, ◌∷◌, [], List, Vec, Global, length, map, replicate, ap, subst, arith}
use Rattle.std.proofs.lemmas.List.{length-map, length-replicate, map_push, replicate_more}
use Rattle.net_model.proofs.growing.GrowingLists.none.Goals as goal

abbrev items_of : {X : Type 0} → Vec X Global → List X
items_of list = list.items

pub loop-init : goal.loop-init
loop-init g c = record { lists = ap (map items_of) c.in_ok-lists.ensures.items; room = c.in_ok-lists.ensures.exact }

pub push_reserved-requires : goal.push_reserved-requires
push_reserved-requires g c =
    let lists = c.loop.lists in
    omega (arith, ap length c.loop.invariant.lists ∙ length-replicate c.loop.counter [], length-map lists.items items_of, lists.ok.0, c.loop.invariant.room, c.loop-test.true)

pub loop-preserved : goal.loop-preserved
loop-preserved g c = record {
  lists =
      ap (map items_of) c.push_reserved.ensures.items
      ∙ map_push items_of c.loop.lists.items c.new.result
      ∙ ap (λ lists. lists ++ c.new.result.items ∷ []) c.loop.invariant.lists
      ∙ ap (λ list. replicate c.loop.counter [] ++ list ∷ []) c.new.ensures.items
      ∙ replicate_more c.loop.counter [];
  room = c.push_reserved.ensures.capacity ∙ c.loop.invariant.room;
}

pub returns : goal.returns
returns g c =
    let all : c.loop.counter ≡ c.args.count = omega arith in
    subst (λ n. map items_of c.loop.lists.items ≡ replicate n []) all c.loop.invariant.lists
