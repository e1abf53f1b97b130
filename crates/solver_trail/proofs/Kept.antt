-- Visited literals stay visited.
use Rattle.std.proofs.Common.{◌≡◌, ◌∙◌, inl, inr, ℕ, ◌+◌, ◌-◌, ◌<◌, ◌≤◌, List, ◌++◌, length, drop, get_or, refl, sym, ap, subst, arith, length-append}
use Rattle.std.specs.Prelude.{min}
use Rattle.std.proofs.lemmas.Bool.{cases_lt}
use Rattle.std.proofs.lemmas.List.{length-drop, get_or_append_left, get_or-append_right, get_or-take, get_or-drop}
use Rattle.clause_pool.specs.Literal.{Literal}
use Rattle.solver_trail.specs.declared.set_literals.SetLiteral.{SetLiteral}
use Rattle.solver_trail.specs.Assignment.{Assignment, AreInLevels, CutsAbove, Propagates}
use Rattle.solver_trail.specs.Watches.{AreKept}
use Rattle.solver_trail.proofs.Levels.{level_between}

pub kept_weaker : (literals : List SetLiteral) (visited reached fewer less : ℕ) (watched : List Literal) → fewer ≤ visited → less ≤ reached
    → AreKept literals visited reached watched → AreKept literals fewer less watched
kept_weaker literals visited reached fewer less watched first second k i within j d below e =
    let t = k i within j d (omega arith) e in
    record { place = t.place; within = t.within; is_true = t.is_true; level = λ v. t.level (omega arith) }

-- more literals are set
pub kept_append : (literals more : List SetLiteral) (visited reached : ℕ) (watched : List Literal) → reached ≤ length literals
    → AreKept literals visited reached watched → AreKept (literals ++ more) visited reached watched
kept_append literals more visited reached watched le k i within j d below e =
    let at = get_or_append_left literals more d j (omega (arith, below, le)) in
    let t = k i within j d below (ap (λ (x : SetLiteral). x.literal) (sym at) ∙ e) in
    let there = get_or_append_left literals more d t.place t.within in
    record {
      place = t.place;
      within = omega (arith, t.within, length-append literals more);
      is_true = ap (λ (x : SetLiteral). x.literal) there ∙ t.is_true;
      level = λ v. let le = t.level v in omega (arith, le, ap (λ (x : SetLiteral). x.level) at, ap (λ (x : SetLiteral). x.level) there);
    }

pub kept_more : {a b : Assignment} → Propagates a b → (visited reached : ℕ) (watched : List Literal) → reached ≤ length a.literals
    → AreKept a.literals visited reached watched → AreKept b.literals visited reached watched
kept_more {a = a} step visited reached watched le kept = subst (λ ls. AreKept ls visited reached watched) (sym step.added) (kept_append a.literals step.more visited reached watched le kept)

-- if all literals from the visited ones up have the present level, all that have been reached stay visited
pub kept_steady : (literals : List SetLiteral) (level visited reached : ℕ) (watched : List Literal) → AreInLevels 0 literals level
    → reached ≤ length literals
    → ((j : ℕ) (d : SetLiteral) → visited ≤ j → j < length literals → (get_or literals j d).level ≡ level) → AreKept literals visited reached watched
    → AreKept literals reached reached watched
kept_steady literals level visited reached watched levels le steady k i within j d below e =
    let t = k i within j d below e in
    record {
      place = t.place;
      within = t.within;
      is_true = t.is_true;
      level = λ v. elim (cases_lt j visited) [
        | inl before ↦ t.level before
        | inr after ↦ omega (arith, steady j d after (omega (arith, below, le)), (level_between 0 literals level t.place d levels t.within).1)
      ];
    }

-- literals that are added have the present level
pub steady_more : {old new : Assignment} (step : Propagates old new) (from : ℕ)
    → ((j : ℕ) (d : SetLiteral) → from ≤ j → j < length old.literals → (get_or old.literals j d).level ≡ old.level)
    → (j : ℕ) (d : SetLiteral) → from ≤ j → j < length new.literals → (get_or new.literals j d).level ≡ new.level
steady_more {old = old} {new = new} step from steady j d after within =
    let at = λ (d : SetLiteral). ap (λ ls. get_or ls j d) step.added in
    elim (cases_lt j (length old.literals)) [
      | inl before ↦ ap (λ (s : SetLiteral). s.level) (at d ∙ get_or_append_left old.literals step.more d j before) ∙ (steady j d after before ∙ sym step.level)
      | inr more ↦
          let size = ap length step.added ∙ length-append old.literals step.more in
          let added = step.at_level (j - length old.literals) d (omega (arith, size, within)) in
          ap (λ (s : SetLiteral). s.level) (at d ∙ get_or-append_right old.literals step.more (length old.literals) j d refl more) ∙ (added.0 ∙ sym step.level)
    ]

-- literals of higher levels are unset
pub kept_cut : {old new : Assignment} {level : ℕ} (cuts : CutsAbove old new level) (visited : ℕ) (watched : List Literal)
    → AreKept old.literals visited visited watched
    → AreKept new.literals (min visited (length new.literals)) (min visited (length new.literals)) watched
kept_cut {old = old} {new = new} {level = level} cuts visited watched k i within j d below e =
    let n = length new.literals in
    let at : (m : ℕ) → m < n → get_or new.literals m d ≡ get_or old.literals m d = λ m less. ap (λ ls. get_or ls m d) cuts.prefix ∙ get_or-take n old.literals m d less in
    let j_within : j < n = omega arith in
    let j_visited : j < visited = omega arith in
    let t = k i within j d j_visited (ap (λ (s : SetLiteral). s.literal) (sym (at j j_within)) ∙ e) in
    let low : (get_or old.literals j d).level ≤ level = subst (λ (s : SetLiteral). s.level ≤ level) (at j j_within) (cuts.kept j d j_within) in
    let lower = t.level j_visited in
    let kept : t.place < n = elim (cases_lt t.place n) [
      | inl less ↦ less
      | inr le ↦
          let in_rest : t.place - n < length (drop n old.literals) = omega (arith, length-drop n old.literals, t.within) in
          let high = cuts.cut (t.place - n) d in_rest in
          let place : n + (t.place - n) ≡ t.place = omega arith in
          let same = get_or-drop n old.literals (t.place - n) d ∙ ap (λ m. get_or old.literals m d) place in
          absurd (omega (arith, high, ap (λ (s : SetLiteral). s.level) same, lower, low))
    ] in
    record {
      place = t.place;
      within = kept;
      is_true = ap (λ (s : SetLiteral). s.literal) (at t.place kept) ∙ t.is_true;
      level = λ v. omega (arith, lower, ap (λ (s : SetLiteral). s.level) (at t.place kept), ap (λ (s : SetLiteral). s.level) (at j j_within));
    }
