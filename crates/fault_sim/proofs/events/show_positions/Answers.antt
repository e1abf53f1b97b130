use Rattle.std.proofs.Common.{◌≡◌, ◌≢◌, ◌<◌, ◌≤◌, ◌+◌, ◌∙◌, [], ◌∷◌, ◌++◌, ℕ, set, length, get_or, true, false, sym, ap, arith, subst, refl}
use Rattle.std.specs.Prelude.{All, AllPairs, IsTrue, ◌↔◌}
use Rattle.std.proofs.lemmas.List.{length-set, length_push, get_or-set_other, get_or_read}
use Rattle.std.proofs.lemmas.List.Elements.{All-nil}
use Rattle.std.proofs.lemmas.Bool.{false_from_ne_true}
use Rattle.event_queue.specs.Pending.{is_pending, IsLowest}
use Rattle.fault_sim.specs.Rows.{Rows, rows_with, IsFalse, IsTrueSomewhere}
use Rattle.fault_sim.specs.Events.{IsSameRow, row_shown}
use Rattle.event_queue.proofs.Marks.{lowest_left, not_before}
use Rattle.fault_sim.proofs.SettledLemmas.{none_true}
use Rattle.net_model.proofs.Elements.{none_in}
use Rattle.fault_sim.proofs.ShownLemmas.{shown_more, shown_kept, below_more, below_later, some_more, ascending_more}
use Rattle.fault_sim.proofs.events.show_positions.Goals as goal
use Rattle.fault_sim.proofs.events.show_positions.Goals.{then-any, else-any}

pub loop-at-init : goal.loop-at-init
loop-at-init c =
    let rows = c.args.positions.now.rows in
    let clear : (position : ℕ) → position < length c.args.shown.now → IsFalse (get_or rows position []) =
    λ position h. c.requires.clear position (omega (arith, c.requires.whole)) (none_in position) in
    record {
      from = omega arith;
      marks = refl;
      whole = refl;
      room = refl;
      listed = omega (arith, ap (length {A = ℕ}) c.requires.listed);
      low = λ position h. absurd (omega arith);
      within = c.requires.within;
      later = λ position low h. clear position h;
      below = subst (All (λ position. position < 0)) (sym c.requires.listed) (All-nil (λ position. position < 0));
      some = subst (All (λ position. IsTrueSomewhere (get_or rows position []))) (sym c.requires.listed) (All-nil (λ position. IsTrueSomewhere (get_or rows position [])));
      ascending = subst (AllPairs ◌<◌) (sym c.requires.listed) (λ i j d before h. absurd (omega arith));
      shown = λ position h idle lane within. clear position h lane within ∙ sym (c.requires.others position h idle lane within);
    }

pub loop-at-preserved : goal.loop-at-preserved
loop-at-preserved c =
    let shown = c.args.shown.now in
    let lines = c.args.lines.now in
    let at = c.in-Some.at in
    let rows = c.loop-at.positions.rows in
    let count = length shown in
    let lowest : IsLowest c.loop-at.marks c.take_lowest.new.self at = c.in-Some.ensures.cases in
    let inside : at < count = c.loop-at.invariant.within at lowest.was in
    let low : c.loop-at.from ≤ at = not_before c.loop-at.marks c.loop-at.from at c.loop-at.invariant.low lowest.was in
    let row = row_shown shown lines at in
    let line_in : get_or shown at 0 < length lines = c.requires.inside at 0 inside in
    let row_is : c.index-lines-shown.result ≡ row = get_or_read lines (get_or shown at 0) c.index-lines-shown.result line_in c.index-lines-shown.is [] in
    let any = subst (λ r. IsTrue c.any.result ↔ IsTrueSomewhere r) row_is c.any.ensures in
    let rest : (position : ℕ) → is_pending c.take_lowest.new.self position ≡ true → (at < position) × (is_pending c.loop-at.marks position ≡ true) = lowest_left c.loop-at.marks c.take_lowest.new.self at lowest in
    let Facts : Rows → Type 0 =
    λ p. (length p.rows ≡ length rows) × (p.room ≡ c.loop-at.positions.room) × (length p.listed ≤ length c.loop-at.positions.listed + 1)
    × ((position : ℕ) → at + 1 ≤ position → position < count → IsFalse (get_or p.rows position []))
    × All (λ position. position < at + 1) p.listed × All (λ position. IsTrueSomewhere (get_or p.rows position [])) p.listed × AllPairs ◌<◌ p.listed
    × ((position : ℕ) → position < count → is_pending c.take_lowest.new.self position ≡ false → IsSameRow (get_or p.rows position []) (row_shown shown lines position)) in
    let set_at : at < length rows = omega (arith, c.loop-at.invariant.whole, c.requires.whole) in
    let facts : Facts c.if-any.positions = elim c.if-any.branch [
      | then-any w ↦ subst Facts (sym (w.positions-is ∙ w.set.ensures ∙ ap (λ r. rows_with (set rows at r) (c.loop-at.positions.listed ++ at ∷ []) c.loop-at.positions.room) row_is)) (
        length-set rows at row,
        refl,
        omega (arith, length_push c.loop-at.positions.listed at),
        λ position above h.
            let ne : position ≢ at = omega arith in
            subst IsFalse (sym (get_or-set_other rows at position row [] ne)) (c.loop-at.invariant.later position (omega arith) h),
        below_more c.loop-at.from at c.loop-at.positions.listed low c.loop-at.invariant.below,
        some_more rows c.loop-at.from at row c.loop-at.positions.listed low set_at c.loop-at.invariant.below c.loop-at.invariant.some (any.0 w.if-any.true),
        ascending_more c.loop-at.from at c.loop-at.positions.listed low c.loop-at.invariant.below c.loop-at.invariant.ascending,
        shown_more shown lines rows c.loop-at.marks c.take_lowest.new.self at lowest count c.loop-at.invariant.shown set_at,
      )
      | else-any w ↦ subst Facts (sym w.positions-is) (
        refl,
        refl,
        omega arith,
        λ position above h. c.loop-at.invariant.later position (omega arith) h,
        below_later c.loop-at.from at c.loop-at.positions.listed low c.loop-at.invariant.below,
        c.loop-at.invariant.some,
        c.loop-at.invariant.ascending,
        shown_kept shown lines rows c.loop-at.marks c.take_lowest.new.self at lowest count c.loop-at.invariant.shown
            (λ lane within. c.loop-at.invariant.later at low inside lane within ∙ sym (none_true row c.any.result any w.if-any.false lane within)),
      )
    ] in
    record {
      from = omega arith;
      marks = c.in-Some.ensures.room ∙ c.loop-at.invariant.marks;
      whole = facts.0 ∙ c.loop-at.invariant.whole;
      room = facts.1 ∙ c.loop-at.invariant.room;
      listed = omega (arith, facts.2, c.loop-at.invariant.listed);
      low = λ position h. false_from_ne_true (is_pending c.take_lowest.new.self position) (λ t. let up = (rest position t).0 in omega arith);
      within = λ position t. c.loop-at.invariant.within position (rest position t).1;
      later = facts.3;
      below = facts.4;
      some = facts.5;
      ascending = facts.6;
      shown = facts.7;
    }

pub returns-clause-shown : goal.returns-clause-shown
returns-clause-shown c = λ position h. c.loop-at.invariant.shown position h (c.in_default.ensures.cases.0 position)
