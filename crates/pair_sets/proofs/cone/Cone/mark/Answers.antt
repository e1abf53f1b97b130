use Rattle.std.proofs.Common.{◌≡◌, ◌<◌, ◌∙◌, ◌∷◌, [], ◌++◌, ℕ, length, set, sym, ap, arith, subst}
use Rattle.std.specs.Prelude.{All, false, true, Contains}
use Rattle.std.proofs.lemmas.List.{get_or_read, set-get_or, length-set, length_push}
use Rattle.std.proofs.lemmas.List.Elements.{All-push}
use Rattle.net_model.specs.Answer.{bit_at}
use Rattle.pair_sets.proofs.MarkLemmas.{listed_more, marked_more, unmarked_less}
use Rattle.pair_sets.proofs.cone.Cone.mark.Goals as goal

pub invariant_of-self : goal.invariant_of-self
invariant_of-self c =
    let marks = c.self.inside.marks.items in
    let lines = c.self.inside.lines.items in
    let line = c.args.line in
    let inside : line < length marks = omega (arith, ap length c.self.view_is, c.requires) in
    let was : bit_at marks line ≡ false = sym (get_or_read marks line c.index.result.now inside c.index.ensures false) ∙ c.if-index.false in
    let listed : c.push_reserved.new.self.items ≡ lines ++ line ∷ [] = c.push_reserved.ensures.items in
    let whole : length (set marks line true) ≡ length marks = length-set marks line true in
    let P : ℕ → Type 0 = λ l. l < length (set marks line true) in
    record {
      within = subst (All P) (sym listed) (All-push P lines line (subst (λ n. All (λ l. l < n) lines) (sym whole) c.self.invariant.within) (omega (arith, whole, inside)));
      listed = λ l m. subst (λ xs. Contains xs l) (sym listed) (listed_more marks lines line inside c.self.invariant.listed l m);
      marked = λ l m. marked_more marks lines line inside c.self.invariant.marked l (subst (λ xs. Contains xs l) listed m);
      room = omega (arith, c.self.invariant.room, c.push_reserved.ensures.capacity, ap length listed, length_push lines line, unmarked_less marks lines line inside was);
    }

pub returns-then-index : goal.returns-then-index
returns-then-index c =
    let now = c.args.self.now in
    let marks = c.self.inside.marks.items in
    let line = c.args.line in
    let inside : line < length marks = omega (arith, ap length c.self.view_is, c.requires) in
    let on : bit_at now line ≡ true = ap (λ xs. bit_at xs line) (sym c.self.view_is) ∙ sym (get_or_read marks line c.index.result.now inside c.index.ensures false) ∙ c.if-index.true in
    sym (set-get_or now line false) ∙ ap (set now line) on

pub returns : goal.returns
returns c = ap (λ xs. set xs c.args.line true) c.self.view_is

pub push_reserved-requires : goal.push_reserved-requires
push_reserved-requires c =
    let marks = c.self.inside.marks.items in
    let lines = c.self.inside.lines in
    let line = c.args.line in
    let inside : line < length marks = omega (arith, ap length c.self.view_is, c.requires) in
    let was : bit_at marks line ≡ false = sym (get_or_read marks line c.index.result.now inside c.index.ensures false) ∙ c.if-index.false in
    omega (arith, c.self.invariant.room, unmarked_less marks lines.items line inside was, lines.ok.0)
