-- Parts of a file, one after another: what each must be, and what the file is refused for if it isn't.
use Rattle.std.specs.Prelude.{◌≡◌, ℕ, ◌<◌, ◌≤◌, ◌⊎◌, List, length}
use Rattle.dict_file.specs.declared.fault.DictFault.{DictFault}
use Rattle.dict_file.specs.declared.fault.DictFault.TheVariants.{Short}

-- What a part must be, and the faults that it is refused for.
pub record Part : Type 1 where
  pub Right : Type 0
  pub Refused : DictFault → Type 0

-- A fact must hold, else the file is refused for this fault.
abbrev pub wants : Type 0 → DictFault → Part
wants Fact fault = record { Right = Fact; Refused = λ other. (¬ Fact) × (other ≡ fault) }

-- The bytes must reach to this end.
abbrev pub reaches : List ℕ → ℕ → Part
reaches bytes end = wants (end ≤ length bytes) (Short (length bytes))

-- One part and then another. The second counts only if the first is right.
infixr 5 ◌⊳◌
abbrev pub ◌⊳◌ : Part → Part → Part
one ⊳ two = record { Right = one.Right × two.Right; Refused = λ fault. one.Refused fault ⊎ (one.Right × two.Refused fault) }

-- The first `count` parts in order.
abbrev pub each : ℕ → (ℕ → Part) → Part
each count part = record {
  Right = (k : ℕ) → k < count → (part k).Right;
  Refused = λ fault. (k : ℕ) × (k < count) × ((j : ℕ) → j < k → (part j).Right) × (part k).Refused fault;
}

-- A part of only those files for which a fact holds.
abbrev pub when : Type 0 → Part → Part
when Fact part = record { Right = Fact → part.Right; Refused = λ fault. Fact × part.Refused fault }
