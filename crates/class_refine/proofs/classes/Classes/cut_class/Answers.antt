use Rattle.std.proofs.Common.{◌≡◌, ◌∙◌, ◌<◌, ◌≤◌, ◌++◌, ◌∷◌, [], cond, eqb, ℕ, List, length, get_or, map, take, refl, sym, ap, subst, arith, rules, None, filter}
use Rattle.std.specs.BTreeMap.{get}
use Rattle.std.proofs.lemmas.List.{length-map, take_all}
use Rattle.net_model.specs.ClassTable.{ClassTable, class_at, members, representative, answer_at, piece_lowest, begins_class}
use Rattle.net_model.specs.Rows.{IsPacked}
use Rattle.net_model.proofs.Elements.{true_false}
use Rattle.class_refine.specs.Steps.{put_in}
use Rattle.class_refine.proofs.Pieces.{members-All}
use Rattle.class_refine.proofs.Leaving.{words_order, begun, AreNoted, Turn, turn, stays_here, all_pieces}
use Rattle.class_refine.proofs.classes.Classes.cut_class.Goals as goal
use Rattle.class_refine.proofs.classes.Classes.cut_class.Goals.{In_ok-place, then-n-lead-via-then-n-lead, then-n-lead-via-else-n-lead+then-same_rows}

in_rows : (t : ClassTable) (class i rows : ℕ) (xs : List ℕ) → xs ≡ members t class → i < length xs → rows ≡ length t.class_of → get_or xs i 0 < rows
in_rows t class i rows xs is h all = let e = ap (λ ys. get_or ys i 0) is in omega (arith, (members-All t class i 0 (omega (arith, h, ap length is))).0, all, e)

pub loop-n-init : goal.loop-n-init
loop-n-init c = record {
  groups = c.new.ensures.items;
  parents = c.new-2.ensures.items;
  noted = record { at = λ q. let none : get words_order c.new-begun.result q ≡ None = search rules in rw none (λ k d h. omega (arith, h)) };
}

pub same_rows-requires-clause-a : goal.same_rows-requires-clause-a
same_rows-requires-clause-a c = in_rows c.args.self.now c.args.class c.loop-n.n-index _ c.members-n-items.result.now c.members-n-items.ensures c.loop-n-test.true c.requires.rows

pub row_words-words-requires : goal.row_words-words-requires
row_words-words-requires c = in_rows c.args.self.now c.args.class c.loop-n.n-index _ c.members-n-items.result.now c.members-n-items.ensures c.loop-n-test.true c.requires.rows

pub loop-n-preserved-then-n-lead : goal.loop-n-preserved-then-n-lead
loop-n-preserved-then-n-lead c =
    let t = c.args.self.now in
    let row = c.args.answers.now in
    let i = c.loop-n.n-index in
    let is = c.members-n-items.ensures in
    let n = ap (λ xs. get_or xs i 0) is in
    let lead = c.representative-lead.ensures.value in
    let answer : answer_at t row (get_or (members t c.args.class) i 0) ≡ answer_at t row (representative t c.args.class) = elim c.then-n-lead.branch [
      | then-n-lead-via-then-n-lead w ↦ ap (answer_at t row) (sym n ∙ w.if-n-lead.true ∙ lead)
      | then-n-lead-via-else-n-lead+then-same_rows w ↦ ap (answer_at t row) (sym n) ∙ (w.same_rows.ensures.0 w.if-same_rows.true ∙ ap (answer_at t row) lead)
    ] in
    let same = stays_here t row c.args.class i (omega (arith, c.loop-n-test.true, ap length is)) answer in
    record {
      groups = c.loop-n.invariant.groups ∙ sym same.pieces;
      parents = c.loop-n.invariant.parents ∙ ap (map (class_at t)) (sym same.lows);
      noted = subst (λ lows. AreNoted row lows (get words_order c.loop-n.begun)) (sym same.lows) c.loop-n.invariant.noted;
    }

inside : (c : In_ok-place) → c.loop-n.n-index < length (members c.args.self.now c.args.class)
inside c = omega (arith, c.loop-n-test.true, ap length c.members-n-items.ensures)

long : (c : In_ok-place) → length c.loop-n.pieces.groups.items ≡ length (begun c.args.self.now c.args.answers.now c.args.class c.loop-n.n-index)
long c =
    let t = c.args.self.now in
    let xs = take c.loop-n.n-index (members t c.args.class) in
    ap length c.loop-n.invariant.groups ∙ length-map (begun t c.args.answers.now c.args.class c.loop-n.n-index) (λ low. filter (λ m. eqb (piece_lowest t c.args.answers.now m) low) xs)

turned : (c : In_ok-place) → Turn c.args.self.now c.args.answers.now c.args.class c.loop-n.n-index (inside c) c.in_ok-place.place (get words_order c.place_with.new.begun)
turned c =
    let t = c.args.self.now in
    let row = c.args.answers.now in
    let i = c.loop-n.n-index in
    let n = ap (λ xs. get_or xs i 0) c.members-n-items.ensures in
    turn t row c.args.class i (inside c)
    (λ e. true_false c.same_rows.result (c.same_rows.ensures.1 (ap (answer_at t row) n ∙ (e ∙ ap (answer_at t row) (sym c.representative-lead.ensures.value)))) c.if-same_rows.false)
    (get words_order c.loop-n.begun) (get words_order c.place_with.new.begun) c.row_words-words.result
    (subst (λ m. IsPacked (answer_at t row m) c.row_words-words.result.now) n c.row_words-words.ensures.packed)
    (λ m h. c.row_words-words.ensures.one_width m [] (omega (arith, h, c.requires.rows)) ∙ ap (λ k. length (answer_at t row k)) n) c.loop-n.invariant.noted
    (get words_order c.loop-n.begun c.row_words-words.result) c.len.result c.in_ok-place.place refl (c.len.ensures ∙ (c.loop-n.pieces.groups.ok.0 ∙ long c)) c.in_ok-place.ensures.place c.in_ok-place.ensures.noted

pub put-requires : goal.put-requires
put-requires c = let at = (goal.at.put-requires c).In_ok-place in omega (arith, (turned at).within, long at)

pub loop-n-preserved : goal.loop-n-preserved
loop-n-preserved c =
    let at = (goal.at.loop-n-preserved c).In_ok-place in
    let t = c.args.self.now in
    let row = c.args.answers.now in
    let n = ap (λ xs. get_or xs c.loop-n.n-index 0) c.members-n-items.ensures in
    let done = turned at in
    record {
      groups = c.in_ok-put.ensures.groups ∙ ((λ j. put_in (c.loop-n.invariant.groups j) c.in_ok-place.place (n j)) ∙ sym done.pieces);
      parents = c.in_ok-put.ensures.parents
          ∙ ((λ j. cond (eqb c.in_ok-place.place (long at j)) (c.loop-n.invariant.parents j ++ c.args.class ∷ []) (c.loop-n.invariant.parents j)) ∙ sym done.parents);
      noted = done.noted_are;
    }

pub returns : goal.returns
returns c =
    let t = c.args.self.now in
    let row = c.args.answers.now in
    let over : length (members t c.args.class) ≤ c.loop-n.n-index = omega (arith, c.loop-n-test.false, ap length c.members-n-items.ensures) in
    record {
      groups_are = c.loop-n.invariant.groups ∙ all_pieces t row c.args.class c.loop-n.n-index over;
      parents_are = c.loop-n.invariant.parents ∙ ap (λ xs. map (class_at t) (filter (begins_class t row) xs)) (take_all c.loop-n.n-index (members t c.args.class) over);
    }
