-- The vectors of a cube whose bits are written source by source, and of two cubes that agree.
use Rattle.std.proofs.Common.{◌≡◌, ◌∙◌, ◌↔◌, ℕ, ◌<◌, Bool, Option, Some, None, List, length, get_or, refl, sym}
use Rattle.net_model.specs.Answer.{bit_at}
use Rattle.kept_vectors.specs.Cube.{IsOfCube}

-- The vector has a bit for each source, and the cube's bit at each of the first `n` sources that isn't free.
pub record IsOfCubeBelow (cube : List (Option Bool)) (n : ℕ) (v : List Bool) : Type 0 where
  pub width : length v ≡ length cube
  pub fixed : (source : ℕ) (bit : Bool) → source < n → get_or cube source None ≡ Some bit → bit_at v source ≡ bit

-- If both cubes have a bit at the source, it is the same.
abbrev pub DoAgree : List (Option Bool) → List (Option Bool) → ℕ → Type 0
DoAgree one other source = (bit also : Bool) → get_or one source None ≡ Some bit → get_or other source None ≡ Some also → bit ≡ also

-- The new cube has the bits of `other`, and those of `old` at the sources at which `other` has none.
pub record IsBound (old other new : List (Option Bool)) : Type 0 where
  pub width : length new ≡ length old
  pub also : length other ≡ length old
  pub agree : (source : ℕ) → DoAgree old other source
  pub bound : (source : ℕ) (bit : Bool) → get_or other source None ≡ Some bit → get_or new source None ≡ Some bit
  pub free : (source : ℕ) → get_or other source None ≡ None → get_or new source None ≡ get_or old source None

module _ {old other new : List (Option Bool)} (is : IsBound old other new) where
  -- a bit of the old one
  old_bit : (v : List Bool) → IsOfCube new v → (source : ℕ) (bit : Bool) → get_or old source None ≡ Some bit → (o : Option Bool) → get_or other source None ≡ o → bit_at v source ≡ bit
  old_bit v of source bit has None none = of.fixed source bit (is.free source none ∙ has)
  old_bit v of source bit has (Some also) some = of.fixed source also (is.bound source also some) ∙ sym (is.agree source bit also has some)

  -- a bit of the new one
  new_bit : (v : List Bool) → IsOfCube old v → IsOfCube other v → (source : ℕ) (bit : Bool) → get_or new source None ≡ Some bit → (o : Option Bool) → get_or other source None ≡ o → bit_at v source ≡ bit
  new_bit v one two source bit has None none = one.fixed source bit (sym (is.free source none) ∙ has)
  new_bit v one two source bit has (Some also) some =
      let same : Some also ≡ Some bit = sym (is.bound source also some) ∙ has in
      let bits : also ≡ bit = (cc) in
      two.fixed source also some ∙ bits

  pub of_both : (v : List Bool) → IsOfCube new v ↔ (IsOfCube old v × IsOfCube other v)
  of_both v = (
    λ of. (
      record { width = of.width ∙ is.width; fixed = λ source bit has. old_bit v of source bit has (get_or other source None) refl },
      record { width = of.width ∙ is.width ∙ sym is.also; fixed = λ source bit has. of.fixed source bit (is.bound source bit has) },
    ),
    λ both. record { width = both.0.width ∙ sym is.width; fixed = λ source bit has. new_bit v both.0 both.1 source bit has (get_or other source None) refl },
  )
