-- A walk over the watches of a literal that has become false.
use Rattle.std.proofs.Common.{◌≡◌, ◌≢◌, ◌∙◌, ◌⊎◌, inl, inr, ℕ, ◌+◌, ◌/◌, ◌<◌, ◌≤◌, List, [], ◌∷◌, length, get_or, refl, sym, ap, subst, arith, length-append}
use Rattle.std.specs.Prelude.{Option, None, Some, IsNone, is_none, Contains, set, if◌then◌else◌}
use Rattle.std.proofs.lemmas.Bool.{cases_eq}
use Rattle.std.proofs.lemmas.List.{length-set}
use Rattle.std.proofs.lemmas.List.Elements.{All-contains, Contains-get_or, Contains-append_right}
use Rattle.clause_pool.specs.Literal.{Literal, opposite}
use Rattle.clause_pool.specs.LiteralCode.{code_of}
use Rattle.clause_pool.specs.Clauses.{Clause, numbered_clause}
use Rattle.clause_pool.specs.Proper.{IsVariable, IsProper}
use Rattle.clause_pool.proofs.Literals.{code_within, opposite_opposite}
use Rattle.clause_pool.proofs.Numbered.{same_clause}
use Rattle.clause_pool.proofs.ProperLemmas.{same_variable}
use Rattle.solver_trail.specs.declared.propagation.Attached.{Attached}
use Rattle.solver_trail.specs.declared.watches.Watches.{Watches}
use Rattle.solver_trail.specs.declared.set_literals.SetLiteral.{SetLiteral}
use Rattle.solver_trail.specs.Assignment.{Assignment, assigned_literals, IsTrail, Propagates}
use Rattle.solver_trail.specs.Trail.{AreAttached, AreReasons}
use Rattle.solver_trail.specs.Watches.{watched_literals, partner, watched, EachWatch, AreWatched, AreWatching, IsWatchAmong, AreInLists, IsAhead, IsPartnerTrue, AreKept, owner, other_watched, WatchesIn}
use Rattle.solver_trail.specs.Propagation.{HasWatches, IsWatchWalk, IsRewatch, ArePartnersTrue, numbers_attached}
use Rattle.solver_trail.proofs.Held.{held_at, place_of, not_both}
use Rattle.solver_trail.proofs.Forced.{held_more}
use Rattle.solver_trail.proofs.Kept.{kept_more}
use Rattle.solver_trail.proofs.Pairs.{partner_back, partner_half, partner_within, each_set}
use Rattle.solver_trail.proofs.Ahead.{IsAtWatch}

-- ---- the watches of other literals, or elsewhere

-- more literals are set
pub watches_more : {attached : Attached} {clauses : List Clause} {a b : Assignment} {w : Watches} → HasWatches attached clauses a w → Propagates a b
    → AreReasons (numbers_attached attached) clauses b.literals → HasWatches attached clauses b w
watches_more {attached = attached} {clauses = clauses} h step reasons = record {
  in_pool = subst (λ n. AreAttached n (numbers_attached attached) clauses) (sym step.variables) h.in_pool;
  reasons = reasons;
  watching = h.watching;
  size = h.size;
  codes = omega (arith, h.codes, step.variables);
}

pub walk_more : {attached : Attached} {clauses : List Clause} {lit : Literal} {a b : Assignment} {w : Watches} {last : Option ℕ}
    → IsWatchWalk attached clauses lit a w last → Propagates a b → AreReasons (numbers_attached attached) clauses b.literals
    → IsWatchWalk attached clauses lit b w last
walk_more {w = w} h step reasons = record {
  watches = watches_more h.watches step reasons;
  ahead = h.ahead;
  seen = λ m less is. elim (h.seen m less is) [
    | inl true_before ↦ inl (held_more step (other_watched (watched_literals w) m) true_before)
    | inr ahead ↦ inr ahead
  ];
}

-- ---- at a watch

module _ {attached : Attached} {clauses : List Clause} {a : Assignment} {w : Watches} (h : HasWatches attached clauses a w) {watch : ℕ} (within : watch < length (watched_literals w)) where
  abbrev pub number : ℕ
  number = owner attached.long.items watch

  abbrev pub other : Literal
  other = other_watched (watched_literals w) watch

  pub half_within : watch / 2 < length attached.long.items
  half_within = omega (arith, within, h.size)

  pub other_within : partner watch < length (watched_literals w)
  other_within = partner_within watch (length attached.long.items) (length (watched_literals w)) h.size within

  pub number_in : Contains (numbers_attached attached) number
  number_in = Contains-append_right attached.short.items attached.long.items number (Contains-get_or attached.long.items (watch / 2) 0 half_within)

  pub number_bounds : (0 < number) × (number ≤ length clauses)
  number_bounds = All-contains (λ n. (0 < n) × (n ≤ length clauses)) (numbers_attached attached) number h.in_pool.numbered number_in

  module _ (clause : Clause) (found : numbered_clause clauses number ≡ Some clause) where
    pub clause_proper : IsProper a.variables clause
    clause_proper = h.in_pool.proper number clause number_in found

    pub both_watched : AreWatched clause (watched (watched_literals w) watch) other
    both_watched = h.watching watch within clause found

    pub inside : (l : Literal) → Contains clause l → l.variable ≤ a.variables
    inside l is_in = (All-contains (λ (l : Literal). IsVariable a.variables l.variable) clause l clause_proper.inside is_in).1

module _ {attached : Attached} {clauses : List Clause} {lit : Literal} {a : Assignment} {w : Watches} {last : Option ℕ}
    (h : IsWatchWalk attached clauses lit a w last) {watch : ℕ} (at : IsAtWatch h.ahead watch) where
  abbrev pub its_number : ℕ
  its_number = owner attached.long.items watch

  abbrev pub partners : Literal
  partners = other_watched (watched_literals w) watch

  -- ---- one watch further

  module _ {b : Assignment} (step : Propagates a b) (trail : IsTrail b) (false_now : Contains (assigned_literals b) (opposite lit)) (clause : Clause)
      (found : numbered_clause clauses its_number ≡ Some clause) (target : Literal) (t : IsRewatch (assigned_literals b) clause lit partners target) where
    two : AreWatched clause lit partners
    two = subst (λ l. AreWatched clause l partners) at.is (both_watched h.watches at.within clause found)

    -- the partner's literal isn't the false one
    not_other : partners ≢ lit
    not_other e = two.apart (ap (λ (l : Literal). l.variable) (sym e))

    still_watched : AreWatched clause target partners
    still_watched = by t
      where
        by : IsRewatch (assigned_literals b) clause lit partners target
            → AreWatched clause target partners
        by (inl same) = subst (λ l. AreWatched clause l partners) (sym same.0) two
        by (inr opened) = record {
          first = opened.inside;
          second = two.second;
          apart = λ e. opened.apart (same_variable clause target partners (clause_proper h.watches at.within clause found).once opened.inside two.second e);
        }

    pub target_code : code_of target < length w.firsts.items
    target_code = omega (arith, code_within target a.variables (inside h.watches at.within clause found target still_watched.first), h.watches.codes)

    module _ {new : Watches} (literals : watched_literals new ≡ set (watched_literals w) watch target) (firsts : length new.firsts.items ≡ length w.firsts.items)
        {now : Option ℕ} (passed : (after : IsAhead new lit now) × (h.ahead.rest ≡ watch ∷ after.rest)) where
      literals_watching : AreWatching attached.long.items clauses (watched_literals new)
      literals_watching = subst (AreWatching attached.long.items clauses) (sym literals)
          (each_set (λ m l o. WatchesIn clauses (owner attached.long.items m) l o) (watched_literals w) watch target at.within
          (λ c e. subst (λ c. AreWatched c target partners) (same_clause clauses its_number clause c found e) still_watched)
          (λ c e.
          let there : numbered_clause clauses its_number ≡ Some c = ap (λ n. numbered_clause clauses (get_or attached.long.items n 0)) (sym (partner_half watch)) ∙ e in
          subst (λ c. AreWatched c partners target) (same_clause clauses its_number clause c found there)
          (record { first = two.second; second = still_watched.first; apart = λ e. still_watched.apart (sym e) }))
          (λ m less ne apart. h.watches.watching m less))

      -- what is watched still has nothing to visit
      pub kept_step : (visited reached : ℕ) → reached ≤ length a.literals → AreKept a.literals visited reached (watched_literals w)
          → AreKept b.literals visited reached (watched_literals new)
      kept_step visited reached le kept =
          let k = kept_more step visited reached (watched_literals w) le kept in
          subst (AreKept b.literals visited reached) (sym literals)
          (each_set (λ m l o. IsPartnerTrue b.literals visited reached l o) (watched_literals w) watch target at.within
          (by t (λ j d below e. subst (λ l. IsPartnerTrue b.literals visited reached l partners) at.is (k watch at.within) j d below e))
          (λ j d below e.
          let back = k (partner watch) (other_within h.watches at.within) j d below e in
          let lit_true : (get_or b.literals back.place d).literal ≡ lit = back.is_true ∙ (ap (watched (watched_literals w)) (partner_back watch) ∙ at.is) in
          absurd (not_both b lit trail (held_at b.literals back.place d lit back.within lit_true) false_now))
          (λ m less ne apart. k m less))
        where
          by : IsRewatch (assigned_literals b) clause lit partners target
              → IsPartnerTrue b.literals visited reached lit partners
              → IsPartnerTrue b.literals visited reached target partners
          by (inl same) was = subst (λ l. IsPartnerTrue b.literals visited reached l partners) (sym same.0) was
          by (inr opened) was = λ j d below e. absurd (opened.not_false (held_at b.literals j d (opposite target) (omega (arith, below, le, ap length step.added, length-append a.literals step.more)) e))

      seen_later : EachWatch (λ m l o. l ≡ lit → Contains (assigned_literals b) o ⊎ IsWatchAmong passed.0.rest m) (watched_literals new)
      seen_later = subst (EachWatch (λ m l o. l ≡ lit → Contains (assigned_literals b) o ⊎ IsWatchAmong passed.0.rest m)) (sym literals)
          (each_set (λ m l o. l ≡ lit → Contains (assigned_literals b) o ⊎ IsWatchAmong passed.0.rest m) (watched_literals w) watch target at.within
          (by t)
          (λ e. absurd (not_other e))
          (λ m less ne apart is. elim (h.seen m less is) [
            | inl true_before ↦ inl (held_more step (other_watched (watched_literals w) m) true_before)
            | inr ahead ↦ elim (subst (λ rest. IsWatchAmong rest m) passed.1 ahead) [
              | inl e ↦ absurd (ne (sym e))
              | inr later ↦ inr later
            ]
          ]))
        where
          by : IsRewatch (assigned_literals b) clause lit partners target → target ≡ lit
              → Contains (assigned_literals b) partners ⊎ IsWatchAmong passed.0.rest watch
          by (inl same) e = inl same.1
          by (inr opened) e = absurd (opened.not_false (subst (λ l. Contains (assigned_literals b) (opposite l)) (sym e) false_now))

      pub walk_step : AreReasons (numbers_attached attached) clauses b.literals
          → (n : IsWatchWalk attached clauses lit b new now) × (h.ahead.rest ≡ watch ∷ n.ahead.rest)
      walk_step reasons =
          let more = watches_more h.watches step reasons in (
            record {
              watches = record {
                in_pool = more.in_pool;
                reasons = reasons;
                watching = literals_watching;
                size = ap length literals ∙ (length-set (watched_literals w) watch target ∙ h.watches.size);
                codes = firsts ∙ more.codes;
              };
              ahead = passed.0;
              seen = seen_later;
            },
            passed.1,
          )

-- ---- the start and the end

pub walk_start : {attached : Attached} {clauses : List Clause} {a : Assignment} {w : Watches} → HasWatches attached clauses a w
    → (listed : AreInLists w []) (lit : Literal) → code_of lit < length w.firsts.items → IsWatchWalk attached clauses lit a w None
walk_start h listed lit below =
    let list = listed.lists (code_of lit) below in
    record {
      watches = h;
      ahead = record { stay = []; rest = list.members; ends = refl; list = list; parts = refl; listed = listed };
      seen = λ m less is. elim (list.whole m less (ap code_of is)) [ inl there ↦ inr there | inr none ↦ absurd none ];
    }

pub walk_done : {attached : Attached} {clauses : List Clause} {lit : Literal} {a : Assignment} {w : Watches} {last : Option ℕ} (h : IsWatchWalk attached clauses lit a w last)
    → h.ahead.rest ≡ [] → ArePartnersTrue lit a w
walk_done h none m less is = elim (h.seen m less is) [
  | inl true_now ↦ true_now
  | inr ahead ↦ absurd (subst (λ rest. IsWatchAmong rest m) none ahead)
]

-- once the partners' literals are true the literal counts as visited
pub walk_end : (lit : Literal) (a : Assignment) (w : Watches) → ArePartnersTrue lit a w
    → (place visited : ℕ) → ((d : SetLiteral) → (get_or a.literals place d).literal ≡ opposite lit) → visited ≤ place
    → AreKept a.literals visited place (watched_literals w) → AreKept a.literals visited (place + 1) (watched_literals w)
walk_end lit a w seen place visited at_place le k m less j d below e = elim (cases_eq j place) [
  | inl is ↦
      let here : opposite lit ≡ opposite (watched (watched_literals w) m) = sym (at_place d) ∙ (ap (λ n. (get_or a.literals n d).literal) (sym is) ∙ e) in
      let l_is : watched (watched_literals w) m ≡ lit = sym (opposite_opposite (watched (watched_literals w) m)) ∙ (ap opposite (sym here) ∙ opposite_opposite lit) in
      let p = place_of a.literals (other_watched (watched_literals w) m) (seen m less l_is) in
      record { place = p.0; within = p.1; is_true = p.2 d; level = λ v. absurd (omega (arith, v, is, le)) }
  | inr ne ↦ k m less j d (omega arith) e
]

-- the literal counts as visited if no clause was false
pub walk_kept : (lit : Literal) (a : Assignment) (w : Watches) (found : Option ℕ) → (IsNone found → ArePartnersTrue lit a w)
    → (place visited : ℕ) → ((d : SetLiteral) → (get_or a.literals place d).literal ≡ opposite lit) → visited ≤ place
    → AreKept a.literals visited place (watched_literals w)
    → AreKept a.literals visited (if is_none found then place + 1 else place) (watched_literals w)
walk_kept lit a w None done place visited at_place le k = walk_end lit a w (done refl) place visited at_place le k
walk_kept lit a w (Some clause) done place visited at_place le k = k
