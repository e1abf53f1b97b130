use Rattle.std.proofs.Common.{◌≡◌, ◌∙◌, ◌+◌, ◌++◌, [], ℕ, List, take, get_or, sym, ap, subst, arith, filter, flat_map}
use Rattle.std.proofs.lemmas.List.{take_more, take_all, flat_map_more}
use Rattle.net_model.specs.ClassTable.{members, begins_class}
use Rattle.class_refine.specs.Steps.{ArePieces}
use Rattle.class_refine.proofs.Listed.{listed_pieces}
use Rattle.class_refine.proofs.classes.Classes.pieces_in.Goals as goal

pub loop-class-preserved : goal.loop-class-preserved
loop-class-preserved c =
    let classes = c.args.classes.now in
    let i = c.loop-class.class-index in
    let part : ℕ → List ℕ = λ class. filter (begins_class c.args.self.now c.args.answers.now) (members c.args.self.now class) in
    let more : flat_map part (take (i + 1) classes) ≡ flat_map part (take i classes) ++ part (get_or classes i 0) =
    ap (flat_map part) (take_more classes i 0 c.loop-class-test.true) ∙ sym (flat_map_more part [] (take i classes) (get_or classes i 0)) in
    rw more (c.in_ok-add_pieces.ensures _ c.loop-class.invariant)

pub returns : goal.returns
returns c =
    let t = c.args.self.now in
    let row = c.args.answers.now in
    let classes = c.args.classes.now in
    let part : ℕ → List ℕ = λ class. filter (begins_class t row) (members t class) in
    let all : take c.loop-class.class-index classes ≡ classes = take_all c.loop-class.class-index classes (omega (arith, c.loop-class-test.false)) in
    subst (λ lows. ArePieces t row lows c.loop-class.pieces.groups.items c.loop-class.pieces.parents.items)
    (ap (flat_map part) all ∙ sym (listed_pieces t row classes c.requires.classes c.requires.elsewhere)) c.loop-class.invariant
