-- The split lines along an order of the gates.
use Rattle.std.proofs.Common.{◌≡◌, ◌≢◌, ◌∙◌, ℕ, ◌+◌, ◌<◌, ◌≤◌, inl, inr, Bool, true, false, List, [], ◌∷◌, length, take, set, get_or, refl, sym, ap, arith, subst}
use Rattle.std.specs.Prelude.{Option, None, Some, Contains, ◌==◌, ◌||◌}
use Rattle.std.specs.Option.{option_map_or}
use Rattle.std.specs.List.{list_any}
use Rattle.std.proofs.lemmas.Bool.{cases_eq, cases_lt}
use Rattle.std.proofs.lemmas.List.{get_or-set_same, get_or-set_other, length-set, take_more, take_all}
use Rattle.std.proofs.lemmas.List.Elements.{Contains-push_cases}
use Rattle.std.proofs.Math.Bool.{or-false}
use Rattle.net_model.specs.declared.fault.Fault.{Fault}
use Rattle.net_model.specs.Circuit.{Circuit, IsCircuit, IsAcyclic, line_count, pins_of, Feeds}
use Rattle.net_model.specs.Order.{IsOrder}
use Rattle.net_model.specs.Answer.{bit_at}
use Rattle.net_model.specs.Scope.{leads_to, first_changed, reaches_line, is_split}
use Rattle.net_model.proofs.Elements.{same_any}
use Rattle.net_model.proofs.Orders.{order_has, order_only, order_after}
use Rattle.net_model.proofs.ScopeLaws.{no_longer}
use Rattle.net_model.proofs.SetSoFar.{fits_from}
use Rattle.fault_list.proofs.Table.{no_pins}
use Rattle.fault_list.specs.Scope.{AreMarksOfTest, is_first_changed, begins_at}

-- ---- tests

none_pass : {A : Type 0} (xs : List A) → list_any (λ x. false) xs ≡ false
none_pass [] = refl
none_pass (x ∷ xs) = none_pass xs

-- the middle two change places
pub or_exchange : (a b c d : Bool) → ((a || b) || (c || d)) ≡ ((a || c) || (b || d))
or_exchange true b c d = refl
or_exchange false true true d = refl
or_exchange false true false d = refl
or_exchange false false c d = refl

any-or : {A : Type 0} (test other : A → Bool) (xs : List A) → (list_any test xs || list_any other xs) ≡ list_any (λ x. test x || other x) xs
any-or test other [] = refl
any-or test other (x ∷ xs) = or_exchange (test x) (list_any test xs) (other x) (list_any other xs) ∙ ap (λ b. (test x || other x) || b) (any-or test other xs)

-- ---- a line is reached if it is the first or reads a line that is reached

module _ (c : Circuit) (a : IsAcyclic c) where
  leads_step : (line : ℕ) (first : Option ℕ)
      → option_map_or (λ from. leads_to c from line) first false ≡ (option_map_or (λ from. from == line) first false || list_any (λ read. option_map_or (λ from. leads_to c from read) first false) (pins_of c line))
  unfolding leads_to
  leads_step line None = sym (none_pass (pins_of c line))
  leads_step line (Some from) = no_longer c a from (length c.gates) line (a.bounded line)

  reaches_step : (f : Fault) (line : ℕ) → reaches_line c f line ≡ (is_first_changed f line || list_any (reaches_line c f) (pins_of c line))
  unfolding reaches_line
  reaches_step f line = leads_step line (first_changed f)

  module _ (f g : Fault) where
    split_step : (line : ℕ) → is_split c f g line ≡ (begins_at f g line || list_any (is_split c f g) (pins_of c line))
    unfolding is_split
    split_step line =
        (λ i. reaches_step f line i || reaches_step g line i)
        ∙ (or_exchange (is_first_changed f line) (list_any (reaches_line c f) (pins_of c line)) (is_first_changed g line) (list_any (reaches_line c g) (pins_of c line))
        ∙ ap (λ b. begins_at f g line || b) (any-or (reaches_line c f) (reaches_line c g) (pins_of c line)))

-- ---- along the order

-- the sources and the first `i` gates of the order have their marks
pub record SplitSoFar (c : Circuit) (f g : Fault) (order : List ℕ) (i : ℕ) (marks : List Bool) : Type 0 where
  pub whole : length marks ≡ line_count c
  pub sources : (line : ℕ) → line < c.sources → bit_at marks line ≡ is_split c f g line
  pub gates : (line : ℕ) → Contains (take i order) line → bit_at marks line ≡ is_split c f g line

module _ (c : Circuit) (w : IsCircuit c) (f g : Fault) (order : List ℕ) (is : IsOrder c order) where
  pub split_none : (marks : List Bool) → AreMarksOfTest (begins_at f g) (line_count c) marks → SplitSoFar c f g order 0 marks
  split_none marks first = record {
    whole = first.whole;
    sources = λ line h.
        first.each line (omega arith)
        ∙ (sym (or-false (begins_at f g line))
        ∙ (ap (λ pins. begins_at f g line || list_any (is_split c f g) pins) (sym (no_pins c line h)) ∙ sym (split_step c w.acyclic f g line)));
    gates = λ line m. absurd (omega (arith, m.1));
  }

  pub split_more : (i : ℕ) (marks : List Bool) (line : ℕ) (bit : Bool) → i < length order → get_or order i 0 ≡ line → bit ≡ (begins_at f g line || list_any (bit_at marks) (pins_of c line))
      → SplitSoFar c f g order i marks → SplitSoFar c f g order (i + 1) (set marks line bit)
  split_more i marks line bit h at bit_is so_far =
      let range : (c.sources ≤ line) × (line < line_count c) = let P : ℕ → Type 0 = λ l. (c.sources ≤ l) × (l < line_count c) in subst P at (order_only c (fits_from c w) order is i h) in
      let inside : line < length marks = omega (arith, so_far.whole, range.1) in
      let before : (pin : ℕ) → Feeds c pin line → bit_at marks pin ≡ is_split c f g pin =
      λ pin reads. elim (order_after c (fits_from c w) order is i pin h (subst (Feeds c pin) (sym at) reads)) [
        | inl source ↦ so_far.sources pin source
        | inr earlier ↦ so_far.gates pin earlier
      ] in
      let right : bit ≡ is_split c f g line =
      bit_is ∙ (ap (λ b. begins_at f g line || b) (same_any (bit_at marks) (is_split c f g) (pins_of c line) before) ∙ sym (split_step c w.acyclic f g line)) in
      record {
        whole = length-set marks line bit ∙ so_far.whole;
        sources = λ source k. get_or-set_other marks line source bit false (let ne : source ≢ line = omega (arith, range.0) in ne) ∙ so_far.sources source k;
        gates = λ other has.
            elim (cases_eq other line) [
              | inl same ↦ let P : ℕ → Type 0 = λ l. bit_at (set marks line bit) l ≡ is_split c f g l in subst P (sym same) (get_or-set_same marks line bit false inside ∙ right)
              | inr ne ↦ get_or-set_other marks line other bit false ne ∙
                  (elim (Contains-push_cases (take i order) (get_or order i 0) other (rw (take_more order i 0 h) at has)) [
                    | inl earlier ↦ so_far.gates other earlier
                    | inr here ↦ absurd (ne (sym here ∙ at))
                  ])
            ];
      }

  pub split_all : (i : ℕ) (marks : List Bool) → length order ≤ i → SplitSoFar c f g order i marks → AreMarksOfTest (is_split c f g) (line_count c) marks
  split_all i marks h so_far = record {
    whole = so_far.whole;
    each = λ line k.
        elim (cases_lt line c.sources) [
          | inl source ↦ so_far.sources line source
          | inr gate ↦ so_far.gates line (rw (take_all i order h) (order_has c (fits_from c w) order is line gate k))
        ];
  }
