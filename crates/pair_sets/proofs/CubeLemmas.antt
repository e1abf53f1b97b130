-- Cubes that fix sources of a circuit, each once.
use Rattle.std.proofs.Common.{◌≡◌, ◌≢◌, ℕ, ◌<◌, ◌≤◌, List, [], ◌∷◌, length, map, eqb, eq-eqb, sym, ◌∙◌, ap, subst, refl, arith, inl, inr}
use Rattle.std.specs.Prelude.{Bool, true, false, None, Some, option_map, find, cond, slice_set, replicate, ◌==◌, ◌||◌}
use Rattle.std.specs.List.{list_any, AllByRecursion, IsDistinct}
use Rattle.std.proofs.lemmas.List.{get_or-set_same, get_or-set_other, length-set, length-replicate}
use Rattle.std.proofs.lemmas.Bool.{cases_eq, false≢true, ne_eqb}
use Rattle.std.proofs.lemmas.List.{length-map}
use Rattle.std.proofs.lemmas.Map.Steps.{length-le_from_distinct_below}
use Rattle.pair_sets.specs.Cube.{Cube, fixed_bit, FixesOnce, InCube}

source_of : ℕ × Bool → ℕ
source_of fixed = fixed.0

free_apart : (cube : Cube) (source : ℕ) → fixed_bit cube source ≡ None → AllByRecursion (λ other. eqb source other ≡ false) (map source_of cube)
unfolding source_of
free_apart [] source e = tt
free_apart (fixed ∷ cube) source e = by (fixed.0 == source) refl e (free_apart cube source)
  where
    by : (b : Bool) → (fixed.0 == source) ≡ b → option_map (λ (other : ℕ × Bool). other.1) (cond b (Some fixed) (find (λ other. other.0 == source) cube)) ≡ None
        → (fixed_bit cube source ≡ None → AllByRecursion (λ other. eqb source other ≡ false) (map source_of cube)) → (eqb source fixed.0 ≡ false) × AllByRecursion (λ other. eqb source other ≡ false) (map source_of cube)
    by true t e rest = cc
    by false t e rest = (ne_eqb source fixed.0 (λ same. false≢true (sym t ∙ eq-eqb fixed.0 source (sym same))), rest e)

sources_apart : (n : ℕ) (cube : Cube) → FixesOnce n cube → IsDistinct eqb (map source_of cube)
unfolding source_of IsDistinct
sources_apart n [] once = tt
sources_apart n (fixed ∷ cube) once = (free_apart cube fixed.0 once.1, sources_apart n cube once.2)

one_of : (n source : ℕ) (sources : List ℕ) → source < n → ((q : ℕ) → list_any (eqb q) sources ≡ true → q < n) → (q : ℕ) → list_any (eqb q) (source ∷ sources) ≡ true → q < n
one_of n source sources h rest q t = elim (cases_eq q source) [
  | inl same ↦ subst (λ k. k < n) (sym same) h
  | inr ne ↦ rest q (ap (λ b. b || list_any (eqb q) sources) (sym (ne_eqb q source ne)) ∙ t)
]

sources_below : (n : ℕ) (cube : Cube) → FixesOnce n cube → (q : ℕ) → list_any (eqb q) (map source_of cube) ≡ true → q < n
unfolding source_of
sources_below n [] once q t = cc
sources_below n (fixed ∷ cube) once q t = one_of n fixed.0 (map source_of cube) once.0 (sources_below n cube once.2) q t

-- if a source is free, there are fewer fixed sources than sources
pub few_fixed : (n : ℕ) (cube : Cube) (source : ℕ) → FixesOnce n cube → source < n → fixed_bit cube source ≡ None → length cube < n
unfolding IsDistinct
few_fixed n cube source once inside free =
    let xs = source ∷ map source_of cube in
    let few : length xs ≤ n = length-le_from_distinct_below xs n (free_apart cube source free, sources_apart n cube once) (one_of n source (map source_of cube) inside (sources_below n cube once)) in
    omega (arith, few, length-map cube source_of)

-- ---- vectors of a cube

set_apart : (v : List Bool) (source : ℕ) (bit : Bool) (cube : Cube) → AllByRecursion (λ other. eqb source other ≡ false) (map source_of cube) → InCube cube v → InCube cube (slice_set v source bit)
unfolding source_of
set_apart v source bit [] apart inside = tt
set_apart v source bit (fixed ∷ cube) apart inside =
    let ne : fixed.0 ≢ source = λ same. false≢true (sym apart.0 ∙ eq-eqb source fixed.0 (sym same)) in (
      get_or-set_other v source fixed.0 bit false ne ∙ inside.0,
      set_apart v source bit cube apart.1 inside.1,
    )

-- a vector of a cube lies in the cube with a free source fixed, once its bit there is set
pub set_fixed : (v : List Bool) (source : ℕ) (bit : Bool) (cube : Cube) → source < length v → fixed_bit cube source ≡ None → InCube cube v → InCube ((source, bit) ∷ cube) (slice_set v source bit)
set_fixed v source bit cube h free inside = (get_or-set_same v source bit false h, set_apart v source bit cube (free_apart cube source free) inside)

-- a cube that fixes sources once has a vector
pub vector_of : (n : ℕ) (cube : Cube) → FixesOnce n cube → (v : List Bool) × (length v ≡ n) × InCube cube v
vector_of n [] once = (replicate n false, length-replicate n false, tt)
vector_of n (fixed ∷ cube) once =
    let rest = vector_of n cube once.2 in (
      slice_set rest.0 fixed.0 fixed.1,
      length-set rest.0 fixed.0 fixed.1 ∙ rest.1,
      set_fixed rest.0 fixed.0 fixed.1 cube (subst (λ k. fixed.0 < k) (sym rest.1) once.0) once.1 rest.2,
    )
