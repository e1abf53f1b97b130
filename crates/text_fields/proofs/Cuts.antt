-- Texts that are cut at the first place of a byte, and lists that are cut before the first element of another kind.
use Rattle.std.proofs.Common.{◌≡◌, ℕ, suc, ◌+◌, ◌-◌, ◌<◌, ◌≤◌, List, [], ◌∷◌, ◌++◌, ◌==◌, true, take, drop, length, length-take, add-one, refl, sym, subst, ap, ap₂, ◌∙◌, arith}
use Rattle.std.specs.Prelude.{All, Contains, slice_index, slice_index_or}
use Rattle.std.proofs.Math.Seq.{drop-cons}
use Rattle.std.proofs.lemmas.Bool.{eqb-true, eq-eqb}
use Rattle.std.proofs.lemmas.List.{get_or_default, get_or-take, take-append-drop, take_rest}
use Rattle.std.proofs.lemmas.List.Elements.{All-head, All-tail, All-contains}
use Rattle.text_fields.specs.Fields.{Text, IsCutAt}

pub tails : {X : Type 0} {x y : X} {xs ys : List X} → x ∷ xs ≡ y ∷ ys → (x ≡ y) × (xs ≡ ys)
tails e = (cc, cc)

-- ---- lists

module _ {X : Type 0} (P Q : X → Type 0) where
  -- the list is empty, or begins with an element of the second kind
  abbrev pub Begins : List X → Type 0
  Begins [] = Unit {0}
  Begins (x ∷ xs) = Q x

  begins_at : (xs ys : List X) (y : X) → xs ≡ y ∷ ys → Begins xs → Q y
  begins_at [] ys y e begins = absurd (cc)
  begins_at (x ∷ xs) ys y e begins = let same : x ≡ y = cc in subst Q same begins

  -- elements of the first kind, up to the end or an element of the second kind, are the same in two cuts of a list
  pub kinds_cut_once : ((x : X) → P x → Q x → ⊥) → (a c b d : List X) → All P a → All P c → Begins b → Begins d → a ++ b ≡ c ++ d → (a ≡ c) × (b ≡ d)
  kinds_cut_once apart [] [] b d first second begins ends e = (refl, e)
  kinds_cut_once apart [] (y ∷ c) b d first second begins ends e = absurd (apart y (All-head P y c second) (begins_at b (c ++ d) y e begins))
  kinds_cut_once apart (x ∷ a) [] b d first second begins ends e = absurd (apart x (All-head P x a first) (begins_at d (a ++ b) x (sym e) ends))
  kinds_cut_once apart (x ∷ a) (y ∷ c) b d first second begins ends e =
      let same : x ≡ y = cc in
      let tails : a ++ b ≡ c ++ d = cc in
      let rest = kinds_cut_once apart a c b d (All-tail P x a first) (All-tail P y c second) begins ends tails in
      (ap₂ (λ (z : X) (zs : List X). z ∷ zs) same rest.0, rest.1)

-- ---- texts

missing_later : (byte b : ℕ) (bs : Text) → ¬ Contains (b ∷ bs) byte → ¬ Contains bs byte
missing_later byte b bs missing there = missing (suc there.0, omega (arith, there.1), there.2)

-- the cut at a byte is the only one
pub cut_once : (byte : ℕ) (a c b d : Text) → ¬ Contains a byte → ¬ Contains c byte → a ++ byte ∷ b ≡ c ++ byte ∷ d → (a ≡ c) × (b ≡ d)
cut_once byte [] [] b d first second e = (refl, (tails e).1)
cut_once byte [] (y ∷ c) b d first second e = absurd (second (0, omega arith, sym (tails e).0))
cut_once byte (x ∷ a) [] b d first second e = absurd (first (0, omega arith, (tails e).0))
cut_once byte (x ∷ a) (y ∷ c) b d first second e =
    let rest = cut_once byte a c b d (missing_later byte x a first) (missing_later byte y c second) (tails e).1 in
    (ap₂ (λ (z : ℕ) (zs : Text). z ∷ zs) (tails e).0 rest.0, rest.1)

-- a byte below all others of a text isn't in the text
pub missing_below : (byte : ℕ) (text : Text) → All (λ b. byte < b) text → ¬ Contains text byte
missing_below byte text all there = let low : byte < byte = All-contains (λ b. byte < b) text byte all there in absurd (omega (arith, low))

-- a text with something after another part isn't empty
pub not_empty : (front back : Text) (byte : ℕ) → front ++ byte ∷ back ≡ [] → ⊥
not_empty [] back byte e = absurd (cc)
not_empty (b ∷ front) back byte e = absurd (cc)

-- the test that a search for a byte makes
same_byte : (text : Text) (byte k : ℕ) → k < length text → slice_index_or text k byte ≡ byte → (slice_index text k == byte) ≡ true
same_byte text byte k h e = eq-eqb (slice_index text k) byte (get_or_default text k 0 byte h ∙ e)

-- a byte that isn't found isn't contained
pub found_nowhere : (byte : ℕ) (text : Text) → ((k : ℕ) → 0 ≤ k → k < length text → ¬ ((slice_index text k == byte) ≡ true)) → ¬ Contains text byte
found_nowhere byte text nowhere there = nowhere there.0 (omega arith) there.1 (same_byte text byte there.0 there.1 there.2)

-- the cut at the first place of a byte
pub cut_at : (byte : ℕ) (text : Text) (at : ℕ) → at < length text → ((k : ℕ) → 0 ≤ k → k < at → ¬ ((slice_index text k == byte) ≡ true)) → (slice_index text at == byte) ≡ true
    → IsCutAt byte text (take at text) (take (length text - (at + 1)) (drop (at + 1) text))
cut_at byte text at within nowhere here =
    let from : drop at text ≡ slice_index text at ∷ drop (at + 1) text = rw add-one (drop-cons text at 0 within) in
    record {
      first = λ there.
          let below : there.0 < at = omega (arith, there.1, length-take at text) in
          nowhere there.0 (omega arith) below (same_byte text byte there.0 (omega (arith, below)) (sym (get_or-take at text there.0 byte below) ∙ there.2));
      text_is = sym (take-append-drop at text) ∙ ap (λ (d : Text). take at text ++ d) (from ∙ ap₂ (λ (z : ℕ) (zs : Text). z ∷ zs) (eqb-true (slice_index text at) byte here) (sym (take_rest text (at + 1))));
    }
