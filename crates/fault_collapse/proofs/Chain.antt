-- Chains of successors: each has a last fault, which is equal to the first.
use Rattle.std.proofs.Common.{◌≡◌, ◌∙◌, ℕ, zero, suc, ◌+◌, ◌<◌, ◌≤◌, length, refl, sym, ap, arith, subst}
use Rattle.std.specs.Prelude.{Bool, Option, None, Some}
use Rattle.std.specs.Option.{option_map_or}
use Rattle.net_model.specs.declared.fault.Site.{Site}
use Rattle.net_model.specs.declared.fault.Site.TheVariants.{Stem, Pin, Position}
use Rattle.net_model.specs.declared.fault.Fault.{Fault}
use Rattle.net_model.specs.declared.fault.Fault.TheVariants.{Free, Stuck}
use Rattle.net_model.specs.Circuit.{Circuit, IsCircuit, line_count, pins_of, Feeds}
use Rattle.net_model.specs.Fault.{IsFaultOf}
use Rattle.net_model.specs.Answer.{AreEqual}
use Rattle.net_model.specs.Collapse.{successor, fault_after, root}
use Rattle.fault_collapse.proofs.Members.{Contains-slice_get}
use Rattle.fault_collapse.proofs.Destinations.{driven}
use Rattle.fault_collapse.proofs.Steps.{Enters, by_pin, by_stem, step_of, sole_pin_reads, entered_feeds, carried_stands}
use Rattle.fault_collapse.proofs.Equal.{equal_itself, equal_sym, equal_trans, step_equal}

module _ (c : Circuit) (w : IsCircuit c) where
  next_stands : (f next : Fault) → successor c f ≡ Some next → IsFaultOf c next
  unfolding successor
  next_stands Free next e = cc
  next_stands (Stuck site bit) next e = let step = step_of c site bit next e in carried_stands c step.line bit next step.carried

  next_equal : (f next : Fault) → IsFaultOf c f → successor c f ≡ Some next → AreEqual c f next
  unfolding successor
  next_equal Free next is e = cc
  next_equal (Stuck site bit) next is e = step_equal c w site bit next is (step_of c site bit next e)

  after_next : (n : ℕ) (f : Fault) → IsFaultOf c f → ((next : Fault) → IsFaultOf c next → AreEqual c next (fault_after c n next)) → (o : Option Fault) → successor c f ≡ o
      → AreEqual c f (option_map_or (fault_after c n) o f)
  after_next n f is rest None e = equal_itself c w f
  after_next n f is rest (Some next) e = equal_trans c w f next (fault_after c n next) (next_equal f next is e) (rest next (next_stands f next e))

  after_equal : (n : ℕ) (f : Fault) → IsFaultOf c f → AreEqual c f (fault_after c n f)
  after_equal zero f is = equal_itself c w f
  after_equal (suc n) f is = after_next n f is (after_equal n) (successor c f) refl

  -- ---- the end of a chain

  ended-by : (f : Fault) (n : ℕ) (o : Option Fault) → o ≡ None → option_map_or (fault_after c n) o f ≡ f
  ended-by f n o e = rw e refl

  -- a fault without a successor stays the same after any number of steps
  ended : (n : ℕ) (f : Fault) → successor c f ≡ None → fault_after c n f ≡ f
  ended zero f e = refl
  ended (suc n) f e = ended-by f n (successor c f) e

  -- a successor is the fault of a stem with a rank above those of the lines that its gate reads
  pub record IsAbove (f next : Fault) : Type 0 where
    pub line : ℕ
    pub value : Bool
    pub next_is : next ≡ Stuck (Stem line) value
    pub from : c.sources ≤ line
    pub inside : line < line_count c
    pub positive : 0 < w.acyclic.rank line
    pub rises : (before : ℕ) (bit : Bool) → f ≡ Stuck (Stem before) bit → Feeds c before line

  stem_feeds : (gate pin before : ℕ) (site : Site) → Enters c gate pin site → site ≡ Stem before → Feeds c before gate
  stem_feeds gate pin before (Pin _ _) by_pin e = cc
  stem_feeds gate pin before (Stem line) (by_stem sole) e =
      let same : line ≡ before = cc in
      subst (λ l. Feeds c l gate) same (Contains-slice_get (pins_of c gate) pin line (sole_pin_reads c line gate pin sole))
  stem_feeds gate pin before (Position _) enters e = elim enters [ ]

  pub next_above : (f next : Fault) → IsFaultOf c f → successor c f ≡ Some next → IsAbove f next
  unfolding successor
  next_above Free next is e = cc
  next_above (Stuck site bit) next is e =
      let step = step_of c site bit next e in
      let within = driven c step.line step.carried.gate step.carried.drives in
      let feeds = entered_feeds c step.line step.pin site bit is step.enters in
      let above = w.acyclic.rises feeds.0 step.line feeds.1 in
      record {
        line = step.line;
        value = step.carried.value;
        next_is = step.carried.next_is;
        from = within.0;
        inside = within.1;
        positive = omega (arith, above);
        rises = λ before b same. stem_feeds step.line step.pin before site step.enters (let sites : site ≡ Stem before = cc in sites);
      }

  ends_next : (n line : ℕ) (bit : Bool) → line < line_count c → length c.gates ≤ suc n + w.acyclic.rank line
      → ((reader : ℕ) (value : Bool) → reader < line_count c → length c.gates ≤ n + w.acyclic.rank reader → successor c (fault_after c n (Stuck (Stem reader) value)) ≡ None)
      → (o : Option Fault) → successor c (Stuck (Stem line) bit) ≡ o → successor c (option_map_or (fault_after c n) o (Stuck (Stem line) bit)) ≡ None
  ends_next n line bit inside long rest None e = e
  ends_next n line bit inside long rest (Some next) e =
      let above = next_above (Stuck (Stem line) bit) next inside e in
      let higher = w.acyclic.rises line above.line (above.rises line bit refl) in
      subst (λ f. successor c (fault_after c n f) ≡ None) (sym above.next_is) (rest above.line above.value above.inside (omega (arith, long, higher)))

  no_next : (line : ℕ) (bit : Bool) → line < line_count c → length c.gates ≤ 0 + w.acyclic.rank line → (o : Option Fault) → successor c (Stuck (Stem line) bit) ≡ o → o ≡ None
  no_next line bit inside high None e = refl
  no_next line bit inside high (Some next) e =
      let above = next_above (Stuck (Stem line) bit) next inside e in
      let higher = w.acyclic.rises line above.line (above.rises line bit refl) in
      absurd (omega (arith, high, higher, w.acyclic.bounded above.line))

  -- after as many steps as there are ranks above it a stem has no successor
  stem_ends : (n line : ℕ) (bit : Bool) → line < line_count c → length c.gates ≤ n + w.acyclic.rank line → successor c (fault_after c n (Stuck (Stem line) bit)) ≡ None
  stem_ends zero line bit inside high = no_next line bit inside high (successor c (Stuck (Stem line) bit)) refl
  stem_ends (suc n) line bit inside high = ends_next n line bit inside high (stem_ends n) (successor c (Stuck (Stem line) bit)) refl

  more_by : (n : ℕ) (f : Fault) → ((next : Fault) → successor c (fault_after c n next) ≡ None → fault_after c (suc n) next ≡ fault_after c n next)
      → (o : Option Fault) → successor c (option_map_or (fault_after c n) o f) ≡ None → option_map_or (fault_after c (suc n)) o f ≡ option_map_or (fault_after c n) o f
  more_by n f rest None h = refl
  more_by n f rest (Some next) h = rest next h

  -- a further step changes nothing at the end
  no_more : (n : ℕ) (f : Fault) → successor c (fault_after c n f) ≡ None → fault_after c (suc n) f ≡ fault_after c n f
  no_more zero f h = ended-by f 0 (successor c f) h
  no_more (suc n) f h = more_by n f (no_more n) (successor c f) h

  step_after : (n : ℕ) (f next : Fault) → length c.gates ≡ n → IsAbove f next → successor c f ≡ Some next → fault_after c n f ≡ fault_after c n next
  step_after zero f next count above e = absurd (omega (arith, count, above.positive, w.acyclic.bounded above.line))
  step_after (suc n) f next count above e =
      ap (λ o. option_map_or (fault_after c n) o f) e
      ∙ sym (no_more n next (subst (λ g. successor c (fault_after c n g) ≡ None) (sym above.next_is) (stem_ends n above.line above.value above.inside (omega (arith, count, above.positive)))))

  -- a fault has the root of its successor
  pub root_step : (f next : Fault) → IsFaultOf c f → successor c f ≡ Some next → root c f ≡ root c next
  unfolding root
  root_step f next is e = step_after (length c.gates) f next refl (next_above f next is e) e

  -- a fault without a successor is its own root
  pub root_itself : (f : Fault) → successor c f ≡ None → root c f ≡ f
  unfolding root
  root_itself f e = ended (length c.gates) f e

  last_by : (f : Fault) → IsFaultOf c f → (o : Option Fault) → successor c f ≡ o → successor c (root c f) ≡ None
  unfolding root
  last_by f is None e = ap (successor c) (root_itself f e) ∙ e
  last_by f is (Some next) e =
      let above = next_above f next is e in
      ap (successor c) (root_step f next is e)
      ∙ subst (λ g. successor c (fault_after c (length c.gates) g) ≡ None) (sym above.next_is) (stem_ends (length c.gates) above.line above.value above.inside (omega arith))

  -- a root has no successor
  pub root_is_last : (f : Fault) → IsFaultOf c f → successor c (root c f) ≡ None
  root_is_last f is = last_by f is (successor c f) refl

  -- A fault and its root are equal.
  pub root_equal : (f : Fault) → IsFaultOf c f → AreEqual c f (root c f)
  unfolding root
  root_equal f is = after_equal (length c.gates) f is

  -- Faults with the same root are equal.
  pub same_root_is_equal : (f g : Fault) → IsFaultOf c f → IsFaultOf c g → root c f ≡ root c g → AreEqual c f g
  same_root_is_equal f g is_f is_g same =
      equal_trans c w f (root c f) g (root_equal f is_f) (subst (λ r. AreEqual c r g) (sym same) (equal_sym c w g (root c g) (root_equal g is_g)))
