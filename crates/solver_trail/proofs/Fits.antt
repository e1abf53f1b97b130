-- How a trail still fits a pool after a step.
use Rattle.std.proofs.Common.{◌≡◌, ◌≢◌, ◌∙◌, inl, inr, ℕ, ◌+◌, ◌*◌, ◌/◌, ◌<◌, ◌≤◌, List, [], ◌∷◌, ◌++◌, length, take, get_or, sym, ap, subst, arith, length-append}
use Rattle.std.specs.Prelude.{Some, Contains}
use Rattle.std.proofs.lemmas.List.{take-map, take-take, get_or-take, length-take, length-take-le, get_or_append_left, get_or_push}
use Rattle.std.proofs.lemmas.List.Elements.{All-contains, Contains-get_or, Contains-append_left, Contains-append_right, Contains-append_cases, Contains-push, Contains-push_cases}
use Rattle.clause_pool.specs.Literal.{Literal, opposite}
use Rattle.clause_pool.specs.Clauses.{Clause, BeginsWith, numbered_clause}
use Rattle.clause_pool.specs.Proper.{IsProper}
use Rattle.clause_pool.proofs.Numbered.{numbered_longer, same_clause}
use Rattle.solver_trail.specs.declared.set_literals.SetLiteral.{SetLiteral}
use Rattle.solver_trail.specs.Assignment.{Assignment, CutsAbove, literals_of}
use Rattle.solver_trail.specs.Trail.{TrailState, Attaches, AreAttached, AreReasons, IsReason, Fits, attached_numbers}
use Rattle.solver_trail.specs.Watches.{AreWatched, IsPartnerTrue, AreKept}
use Rattle.solver_trail.specs.Laws.{FitsLonger}
use Rattle.solver_trail.proofs.Pairs.{each_two}

-- ---- a longer pool

module _ {trail : TrailState} {clauses first : List Clause} (begins : BeginsWith clauses first) (fits : Fits trail first) where
  bounds : (number : ℕ) → Contains (attached_numbers trail) number → (0 < number) × (number ≤ length first)
  bounds number is_in = All-contains (λ n. (0 < n) × (n ≤ length first)) (attached_numbers trail) number fits.attached.numbered is_in

  shorter : (number : ℕ) (clause : Clause) → Contains (attached_numbers trail) number → numbered_clause clauses number ≡ Some clause
      → numbered_clause first number ≡ Some clause
  shorter number clause is_in e = let b = bounds number is_in in sym (numbered_longer clauses first number begins b.0 b.1) ∙ e

  fits_begun : Fits trail clauses
  fits_begun = record {
    attached = record {
      numbered = λ k d within. let b = fits.attached.numbered k d within in (b.0, omega (arith, b.1, ap length begins.are, length-append first begins.more));
      proper = λ number clause is_in e. fits.attached.proper number clause is_in (shorter number clause is_in e);
    };
    reasons = record {
      is_attached = fits.reasons.is_attached;
      is_reason = λ k d number clause within is e. fits.reasons.is_reason k d number clause within is (shorter number clause (fits.reasons.is_attached k d number within is) e);
    };
    short = λ number clause is_in e. fits.short number clause is_in (shorter number clause (Contains-append_left trail.short trail.long number is_in) e);
    size = fits.size;
    watching = λ watch less clause e.
        let number = get_or trail.long (watch / 2) 0 in
        let is_in = Contains-append_right trail.short trail.long number (Contains-get_or trail.long (watch / 2) 0 (omega (arith, less, fits.size))) in
        fits.watching watch less clause (shorter number clause is_in e);
  }

pub fits_longer : FitsLonger
fits_longer trail clauses first begins fits = fits_begun begins fits

-- ---- other literals are set

pub fits_again : {t : TrailState} {clauses : List Clause} → Fits t clauses → (b : Assignment) → b.variables ≡ t.assignment.variables
    → AreReasons (attached_numbers t) clauses b.literals
    → Fits (record { assignment = b; short = t.short; long = t.long; watched = t.watched }) clauses
fits_again {t = t} {clauses = clauses} fits b same reasons = record {
  attached = subst (λ n. AreAttached n (attached_numbers t) clauses) (sym same) fits.attached;
  reasons = reasons;
  short = fits.short;
  size = fits.size;
  watching = fits.watching;
}

reasons_take : {attached : List ℕ} {clauses : List Clause} {literals : List SetLiteral} → AreReasons attached clauses literals → (n : ℕ)
    → n ≤ length literals → AreReasons attached clauses (take n literals)
reasons_take {literals = literals} r n le = record {
  is_attached = λ k d number h is. r.is_attached k d number (omega (arith, h, size)) (ap (λ (x : SetLiteral). x.reason) (sym (at k d h)) ∙ is);
  is_reason = λ k d number clause h is e.
      let was = r.is_reason k d number clause (omega (arith, h, size)) (ap (λ (x : SetLiteral). x.reason) (sym (at k d h)) ∙ is) e in
      let before : take k (literals_of (take n literals)) ≡ take k (literals_of literals) =
      ap (take k) (sym (take-map (λ (s : SetLiteral). s.literal) n literals)) ∙ take-take k n (literals_of literals) (omega (arith, h, size)) in
      subst (λ ls. IsReason ls clause (get_or (take n literals) k d).literal) (sym before)
      (subst (λ (x : SetLiteral). IsReason (take k (literals_of literals)) clause x.literal) (sym (at k d h)) was);
}
  where
    size : length (take n literals) ≡ n
    size = length-take-le n literals le

    at : (k : ℕ) (d : SetLiteral) → k < length (take n literals) → get_or (take n literals) k d ≡ get_or literals k d
    at k d h = get_or-take n literals k d (omega (arith, h, size))

pub reasons_cut : {attached : List ℕ} {clauses : List Clause} {old new : Assignment} {level : ℕ} → CutsAbove old new level
    → AreReasons attached clauses old.literals → AreReasons attached clauses new.literals
reasons_cut {attached = attached} {clauses = clauses} {old = old} {new = new} cuts r =
    subst (AreReasons attached clauses) (sym cuts.prefix) (reasons_take r (length new.literals) (omega (arith, ap length cuts.prefix, length-take (length new.literals) old.literals)))

-- ---- one more clause

module _ (short long : List ℕ) (number : ℕ) where
  pub attaches_short : Attaches (short ++ long) ((short ++ number ∷ []) ++ long) number
  attaches_short = record {
    added = Contains-append_left (short ++ number ∷ []) long number (Contains-push short number);
    kept = λ n is_in. elim (Contains-append_cases short long n is_in) [
      | inl there ↦ Contains-append_left (short ++ number ∷ []) long n (Contains-append_left short (number ∷ []) n there)
      | inr there ↦ Contains-append_right (short ++ number ∷ []) long n there
    ];
    no_other = λ n is_in. elim (Contains-append_cases (short ++ number ∷ []) long n is_in) [
      | inl there ↦ elim (Contains-push_cases short number n there) [
        | inl before ↦ inl (Contains-append_left short long n before)
        | inr e ↦ inr (sym e)
      ]
      | inr there ↦ inl (Contains-append_right short long n there)
    ];
  }

  pub attaches_long : Attaches (short ++ long) (short ++ (long ++ number ∷ [])) number
  attaches_long = record {
    added = Contains-append_right short (long ++ number ∷ []) number (Contains-push long number);
    kept = λ n is_in. elim (Contains-append_cases short long n is_in) [
      | inl there ↦ Contains-append_left short (long ++ number ∷ []) n there
      | inr there ↦ Contains-append_right short (long ++ number ∷ []) n (Contains-append_left long (number ∷ []) n there)
    ];
    no_other = λ n is_in. elim (Contains-append_cases short (long ++ number ∷ []) n is_in) [
      | inl there ↦ inl (Contains-append_left short long n there)
      | inr there ↦ elim (Contains-push_cases long number n there) [
        | inl before ↦ inl (Contains-append_right short long n before)
        | inr e ↦ inr (sym e)
      ]
    ];
  }

module _ {t : TrailState} {clauses : List Clause} (fits : Fits t clauses) (number : ℕ) (clause : Clause) (found : numbered_clause clauses number ≡ Some clause) (from : 0 < number) (below : number ≤ length clauses) (proper : IsProper t.assignment.variables clause) where
  attached_more : (new : List ℕ) → Attaches (attached_numbers t) new number → AreAttached t.assignment.variables new clauses
  attached_more new h = record {
    numbered = λ k d within. elim (h.no_other (get_or new k d) (Contains-get_or new k d within)) [
      | inl before ↦ All-contains (λ n. (0 < n) × (n ≤ length clauses)) (attached_numbers t) (get_or new k d) fits.attached.numbered before
      | inr e ↦ (omega (arith, from, e), omega (arith, below, e))
    ];
    proper = λ n c is_in e. elim (h.no_other n is_in) [
      | inl before ↦ fits.attached.proper n c before e
      | inr same ↦ subst (IsProper t.assignment.variables) (same_clause clauses number clause c found (ap (numbered_clause clauses) (sym same) ∙ e)) proper
    ];
  }

  reasons_more : (new : List ℕ) → Attaches (attached_numbers t) new number → AreReasons new clauses t.assignment.literals
  reasons_more new h = record {
    is_attached = λ k d n within is. h.kept n (fits.reasons.is_attached k d n within is);
    is_reason = fits.reasons.is_reason;
  }

  pub fits_short : length clause < 2
      → Fits (record { assignment = t.assignment; short = t.short ++ number ∷ []; long = t.long; watched = t.watched }) clauses
  fits_short few =
      let h = attaches_short t.short t.long number in
      record {
        attached = attached_more ((t.short ++ number ∷ []) ++ t.long) h;
        reasons = reasons_more ((t.short ++ number ∷ []) ++ t.long) h;
        short = λ n c is_in e. elim (Contains-push_cases t.short number n is_in) [
          | inl before ↦ fits.short n c before e
          | inr same ↦ subst (λ (c : Clause). length c < 2) (same_clause clauses number clause c found (ap (numbered_clause clauses) same ∙ e)) few
        ];
        size = fits.size;
        watching = fits.watching;
      }

  pub fits_long : (first second : Literal) → AreWatched clause first second
      → Fits (record { assignment = t.assignment; short = t.short; long = t.long ++ number ∷ []; watched = t.watched ++ first ∷ second ∷ [] }) clauses
  fits_long first second w =
      let h = attaches_long t.short t.long number in
      let n = length t.long in
      let last : (watch : ℕ) → watch / 2 ≡ length t.long → get_or (t.long ++ number ∷ []) (watch / 2) 0 ≡ number = λ watch half. get_or_push t.long number 0 (watch / 2) (sym half) in
      let here : (watch : ℕ) → watch / 2 ≡ length t.long → (c : Clause) → numbered_clause clauses (get_or (t.long ++ number ∷ []) (watch / 2) 0) ≡ Some c → clause ≡ c =
      λ watch half c e. same_clause clauses number clause c found (ap (numbered_clause clauses) (sym (last watch half)) ∙ e) in
      record {
        attached = attached_more (t.short ++ (t.long ++ number ∷ [])) h;
        reasons = reasons_more (t.short ++ (t.long ++ number ∷ [])) h;
        short = fits.short;
        size = omega (arith, length-append t.watched (first ∷ second ∷ []), length-append t.long (number ∷ []), fits.size);
        watching = each_two (λ watch l m. (c : Clause) → numbered_clause clauses (get_or (t.long ++ number ∷ []) (watch / 2) 0) ≡ Some c → AreWatched c l m) t.watched n fits.size first second
            (λ watch less c e.
            let before = get_or_append_left t.long (number ∷ []) 0 (watch / 2) (omega (arith, less, fits.size)) in
            fits.watching watch less c (ap (numbered_clause clauses) (sym before) ∙ e))
            (λ c e. subst (λ c. AreWatched c first second) (here (2 * n) (omega arith) c e) w)
            (λ c e. subst (λ c. AreWatched c second first) (here (2 * n + 1) (omega arith) c e) (record { first = w.second; second = w.first; apart = λ v. w.apart (sym v) }));
      }

-- the literals of the new watches aren't false by the visited ones
pub kept_two : (literals : List SetLiteral) (visited n : ℕ) (watched : List Literal) → length watched ≡ 2 * n → (first second : Literal)
    → ((j : ℕ) (d : SetLiteral) → j < visited → (get_or literals j d).literal ≢ opposite first)
    → ((j : ℕ) (d : SetLiteral) → j < visited → (get_or literals j d).literal ≢ opposite second) → AreKept literals visited visited watched
    → AreKept literals visited visited (watched ++ first ∷ second ∷ [])
kept_two literals visited n watched even first second one two kept =
    each_two (λ watch l other. IsPartnerTrue literals visited visited l other) watched n even first second kept (λ j d below e. absurd (one j d below e)) (λ j d below e. absurd (two j d below e))
