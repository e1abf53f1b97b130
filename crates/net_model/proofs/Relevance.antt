-- The relevant lines of a pair: if a gate's line is relevant, all that the gate reads is, and the lines of reached
-- positions are.
use Rattle.std.proofs.Common.{◌≡◌, ◌∙◌, ℕ, zero, suc, ◌<◌, inl, inr, true, eqb, length, get_or, refl, arith, subst}
use Rattle.std.specs.Prelude.{Contains, ◌==◌}
use Rattle.std.specs.List.{list_any, range_with_len}
use Rattle.std.proofs.lemmas.Bool.{eqb-true, eq-eqb, or_cases, or_right}
use Rattle.net_model.specs.declared.fault.Fault.{Fault}
use Rattle.net_model.specs.Circuit.{Circuit, IsAcyclic, line_count, all_lines, pins_of, Feeds}
use Rattle.net_model.specs.Scope.{leads_within, leads_to, is_reached, reached_positions, is_relevant, relevant_lines}
use Rattle.net_model.proofs.Elements.{any_from, passing, Contains-filter, Contains-from_filter}
use Rattle.net_model.proofs.Orders.{Contains-range, range-within}
use Rattle.net_model.proofs.ScopeLaws.{no_longer}

module _ (c : Circuit) where
  -- ---- ways

  leads_itself : (n line : ℕ) → leads_within c n line line ≡ true
  leads_itself zero line = eq-eqb line line refl
  leads_itself (suc n) line = let here : eqb line line ≡ true = eq-eqb line line refl in rw here refl

  -- what a gate reads leads to each line that the gate's line leads to, with one gate more
  leads_within-back : (n read reader line : ℕ) → Feeds c read reader → leads_within c n reader line ≡ true → leads_within c (suc n) read line ≡ true
  leads_within-back zero read reader line m t =
      let same : reader ≡ line = eqb-true reader line t in
      or_right (read == line) (list_any (leads_within c 0 read) (pins_of c line)) (any_from (leads_within c 0 read) (pins_of c line) read (subst (λ l. Contains (pins_of c l) read) same m) (eq-eqb read read refl))
  leads_within-back (suc n) read reader line m t =
      elim (or_cases (reader == line) (list_any (leads_within c n reader) (pins_of c line)) t) [
        | inl here ↦
            let same : reader ≡ line = eqb-true reader line here in
            or_right (read == line) (list_any (leads_within c (suc n) read) (pins_of c line)) (any_from (leads_within c (suc n) read) (pins_of c line) read (subst (λ l. Contains (pins_of c l) read) same m) (leads_itself (suc n) read))
        | inr through ↦
            let w = passing (leads_within c n reader) (pins_of c line) through in
            or_right (read == line) (list_any (leads_within c (suc n) read) (pins_of c line)) (any_from (leads_within c (suc n) read) (pins_of c line) w.0 w.1 (leads_within-back n read reader w.0 m w.2))
      ]

  -- what a gate reads leads to each line that the gate's line leads to
  pub leads_back : IsAcyclic c → (read reader line : ℕ) → Feeds c read reader → leads_to c reader line ≡ true → leads_to c read line ≡ true
  unfolding leads_to
  leads_back a read reader line m t = no_longer c a read (length c.gates) line (a.bounded line) ∙ leads_within-back (length c.gates) read reader line m t

  module _ (f g : Fault) where
    -- ---- reached positions

    pub reached_listed : (at : ℕ) → at < length c.positions → is_reached c f g at ≡ true → Contains (reached_positions c f g) at
    unfolding reached_positions
    reached_listed at h t = Contains-filter (is_reached c f g) (range_with_len 0 (length c.positions)) at (Contains-range 0 (length c.positions) at (omega arith) (omega (arith, h))) t

    pub listed_reached : (at : ℕ) → Contains (reached_positions c f g) at → (at < length c.positions) × (is_reached c f g at ≡ true)
    unfolding reached_positions
    listed_reached at m =
        let kept = Contains-from_filter (is_reached c f g) (range_with_len 0 (length c.positions)) at m in
        (omega (arith, (range-within 0 (length c.positions) at kept.0).1), kept.1)

    -- ---- relevant lines

    pub relevant_back : IsAcyclic c → (read reader : ℕ) → Feeds c read reader → is_relevant c f g reader ≡ true → is_relevant c f g read ≡ true
    unfolding is_relevant
    relevant_back a read reader m t =
        let w = passing (λ at. leads_to c reader (get_or c.positions at 0)) (reached_positions c f g) t in
        any_from (λ at. leads_to c read (get_or c.positions at 0)) (reached_positions c f g) w.0 w.1 (leads_back a read reader (get_or c.positions w.0 0) m w.2)

    pub relevant_shown : (at : ℕ) → at < length c.positions → is_reached c f g at ≡ true → is_relevant c f g (get_or c.positions at 0) ≡ true
    unfolding is_relevant leads_to
    relevant_shown at h t = any_from (λ n. leads_within c (length c.gates) (get_or c.positions at 0) (get_or c.positions n 0)) (reached_positions c f g) at (reached_listed at h t) (leads_itself (length c.gates) (get_or c.positions at 0))

    pub relevant_listed : (line : ℕ) → line < line_count c → is_relevant c f g line ≡ true → Contains (relevant_lines c f g) line
    unfolding relevant_lines
    relevant_listed line h t = Contains-filter (is_relevant c f g) (all_lines c) line (Contains-range 0 (line_count c) line (omega arith) (omega (arith, h))) t

    pub listed_relevant : (line : ℕ) → Contains (relevant_lines c f g) line → (line < line_count c) × (is_relevant c f g line ≡ true)
    unfolding relevant_lines
    listed_relevant line m =
        let kept = Contains-from_filter (is_relevant c f g) (all_lines c) line m in
        (omega (arith, (range-within 0 (line_count c) line kept.0).1), kept.1)
