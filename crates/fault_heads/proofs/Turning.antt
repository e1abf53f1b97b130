-- The valuation that agrees if a line is turned, or not, compared with the one without a fault.
use Rattle.std.proofs.Common.{◌≡◌, ◌≢◌, ◌∙◌, ℕ, ◌<◌, List, refl, ap, arith, ltb, eqb}
use Rattle.std.specs.Prelude.{Bool, true, false, not, Some, unwrap_or, if◌then◌else◌}
use Rattle.std.specs.Bool.{then_some}
use Rattle.std.proofs.lemmas.Bool.Decides.{nat_tests}
use Rattle.net_model.specs.declared.fault.Site.TheVariants.{Stem}
use Rattle.net_model.specs.declared.fault.Fault.{Fault}
use Rattle.net_model.specs.declared.fault.Fault.TheVariants.{Free, Stuck}
use Rattle.net_model.specs.Circuit.{Circuit, IsCircuit, line_count, gate_at, Feeds}
use Rattle.net_model.specs.Fault.{stuck_stem}
use Rattle.net_model.specs.Answer.{bit_at, driven_bit, line_bit, Agrees, shown_bits, IsAnswer}
use Rattle.net_model.specs.Scope.{first_changed}
use Rattle.net_model.proofs.Copies.{same_driven, IsClosedMark, same_unmarked, Agrees-unique, pins_inside}
use Rattle.net_model.proofs.Evaluation.{Agrees-exists}
use Rattle.net_model.proofs.FirstChanged.{stem_elsewhere, pin_elsewhere}
use Rattle.fault_heads.specs.declared.head.Head.TheVariants as head
use Rattle.fault_heads.specs.Turned.{turned_if, bits_differ}

-- ---- bits

pub turned_to : (value bit : Bool) → (if bits_differ value bit then not bit else bit) ≡ value
turned_to true true = refl
turned_to true false = refl
turned_to false true = refl
turned_to false false = refl

-- ---- the right side of a line's equation

-- it stays if the lines that the gate reads stay
pub stays : (c : Circuit) (f : Fault) (v x y : List Bool) (line : ℕ) → ((read : ℕ) → Feeds c read line → bit_at x read ≡ bit_at y read) → line_bit c f v x line ≡ line_bit c f v y line
unfolding line_bit driven_bit
stays c f v x y line h = ap (unwrap_or (stuck_stem f line)) (same_driven c f f v x y line (gate_at c line) (λ pin. refl) h)

-- it is the fault-free one if the line isn't the first that the fault changes
pub untouched : (c : Circuit) (f : Fault) (v bits : List Bool) (line : ℕ) → (first_changed f ≡ Some line → ⊥) → line_bit c f v bits line ≡ line_bit c Free v bits line
unfolding line_bit driven_bit
untouched c f v bits line apart =
    λ i. unwrap_or (stem_elsewhere f line apart i) (same_driven c f Free v bits bits line (gate_at c line) (λ pin. pin_elsewhere f line pin apart) (λ read m. refl) i)

same_number : (n : ℕ) → eqb n n ≡ true
same_number n = grind (arith, nat_tests)

pub stuck_here : (c : Circuit) (bit : Bool) (v bits : List Bool) (line : ℕ) → line_bit c (Stuck (Stem line) bit) v bits line ≡ bit
unfolding line_bit
stuck_here c bit v bits line = ap (λ t. unwrap_or (then_some t bit) (driven_bit c (Stuck (Stem line) bit) v bits line)) (same_number line)

-- ---- two faults whose valuations show the same

pub carry_answer : (c : Circuit) → IsCircuit c → (f g : Fault) (v x y answer : List Bool) → Agrees c f v x → Agrees c g v y → shown_bits c f x ≡ shown_bits c g y → IsAnswer c f v answer → IsAnswer c g v answer
carry_answer c w f g v x y answer a b same is = record { bits = y; agrees = b; shows = is.shows ∙ (ap (shown_bits c f) (Agrees-unique c w f v is.bits x is.agrees a) ∙ same) }

-- ---- the line

module _ (c : Circuit) (w : IsCircuit c) (v free : List Bool) (agrees : Agrees c Free v free) (line : ℕ) (inside : line < line_count c) where
  -- the lines whose rank isn't lower
  marked : ℕ → Bool
  marked l = not (ltb (w.acyclic.rank l) (w.acyclic.rank line))

  unmarked_lower : (l : ℕ) → marked l ≡ false → w.acyclic.rank l < w.acyclic.rank line
  unfolding marked
  unmarked_lower l e = grind (arith, nat_tests, e)

  lower_unmarked : (l : ℕ) → w.acyclic.rank l < w.acyclic.rank line → marked l ≡ false
  unfolding marked
  lower_unmarked l h = grind (arith, nat_tests, h)

  marks_stem : (bit : Bool) → IsClosedMark c (Stuck (Stem line) bit) Free marked
  marks_stem bit = record {
    stems = λ l e.
        let lower = unmarked_lower l e in
        stem_elsewhere (Stuck (Stem line) bit) l (λ same. let is : line ≡ l = cc in let equal = ap w.acyclic.rank is in omega (arith, lower, equal));
    pins = λ l e pin. refl;
    onward = λ read l m e.
        let lower = unmarked_lower l e in
        let rises = w.acyclic.rises read l m in
        lower_unmarked read (omega arith);
  }

  module _ (turned : Bool) (bits : List Bool) (is : Agrees c (turned_if c free (head.Line line) turned) v bits) where
    -- the bit of the line
    pub turned_bit : bit_at bits line ≡ (if turned then not (bit_at free line) else bit_at free line)
    turned_bit = by turned is
      where
        by : (b : Bool) → Agrees c (turned_if c free (head.Line line) b) v bits → bit_at bits line ≡ (if b then not (bit_at free line) else bit_at free line)
        by true a = a.each line inside ∙ stuck_here c (not (bit_at free line)) v bits line
        by false a = ap (λ xs. bit_at xs line) (Agrees-unique c w Free v bits free a agrees)

    -- the lines that its gate reads are as without a fault
    pub reads_same : (read : ℕ) → Feeds c read line → bit_at bits read ≡ bit_at free read
    reads_same read m = by turned is
      where
        by : (b : Bool) → Agrees c (turned_if c free (head.Line line) b) v bits → bit_at bits read ≡ bit_at free read
        by true a =
            same_unmarked c w (Stuck (Stem line) (not (bit_at free line))) Free v bits free a agrees marked (marks_stem (not (bit_at free line))) read (pins_inside c w line read m) (lower_unmarked read (w.acyclic.rises read line m))
        by false a = ap (λ xs. bit_at xs read) (Agrees-unique c w Free v bits free a agrees)

    -- each other line is right without a fault
    pub others_right : (l : ℕ) → l < line_count c → line ≢ l → bit_at bits l ≡ line_bit c Free v bits l
    others_right l within apart = by turned is
      where
        by : (b : Bool) → Agrees c (turned_if c free (head.Line line) b) v bits → bit_at bits l ≡ line_bit c Free v bits l
        by true a = a.each l within ∙ untouched c (Stuck (Stem line) (not (bit_at free line))) v bits l (λ e. let same : line ≡ l = cc in apart same)
        by false a = a.each l within

    -- what is shown is what the lines carry
    pub turned_shows : shown_bits c (turned_if c free (head.Line line) turned) bits ≡ shown_bits c Free bits
    turned_shows = by turned
      where
        by : (b : Bool) → shown_bits c (turned_if c free (head.Line line) b) bits ≡ shown_bits c Free bits
        by true = refl
        by false = refl

  pub turned_valuation : (turned : Bool) → (bits : List Bool) × Agrees c (turned_if c free (head.Line line) turned) v bits
  turned_valuation turned = let one = Agrees-exists c (turned_if c free (head.Line line) turned) v w in (one.0, one.1)
