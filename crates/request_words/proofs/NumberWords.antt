-- The number that `clap` reads from a text is the one of the definition.
use Rattle.std.proofs.Common.{◌≡◌, ℕ, ◌<◌, ◌≤◌, ◌^◌, Bool, true, false, List, Option, Some, None, Result, Ok, Err, refl, sym, subst, ◌∙◌, arith, if◌then◌else◌}
use Rattle.std.specs.Str.Parse.{ParsesUnsigned, digits_value, without_leading_plus}
use Rattle.clap.specs.Words.{Accepts, ReadsOne}
use Rattle.clap.specs.ValueTests.{is_unsigned_in}
use Rattle.clap.specs.declared.builder.value_parser.ValueParser.TheVariants as vp
use Rattle.clap.proofs.ValueTestLemmas.{accepts-Accepts, Accepts-accepts}
use Rattle.request_words.specs.Arguments.{number_from}

chosen : (b : Bool) (x y : ℕ) → b ≡ true → (if b then x else y) ≡ x
chosen true x y e = refl
chosen false x y e = absurd (cc)

other : (b : Bool) (x y : ℕ) → ¬ (b ≡ true) → (if b then x else y) ≡ y
other true x y off = absurd (off refl)
other false x y off = refl

module _ {E : Type 0} (G : List ℕ → Result ℕ E → Type 0) (only : (t : List ℕ) (x : Result ℕ E) → G t x → ParsesUnsigned 32 10 t x) (least most : ℕ) (fits : most < 2 ^ 32) where
  within : (t : List ℕ) (v : ℕ) → G t (Ok v) → least ≤ v → v ≤ most → is_unsigned_in least most t ≡ true
  within t v g low high =
      let p = only t (Ok v) g in
      Accepts-accepts false (vp.Unsigned least most) t (p.0.0, omega (arith, p.0.1), omega (arith, p.1), omega (arith, p.1))

  refuted : (t : List ℕ) (r : Option ℕ) → ReadsOne G t r → Accepts false (vp.Unsigned least most) t → ¬ ((v : ℕ) → r ≡ Some v → least ≤ v → v ≤ most → ⊥)
  refuted t (Some v) g a off = let p = only t (Ok v) g in off v refl (omega (arith, p.1, a.2)) (omega (arith, p.1, a.3))
  refuted t None h a off = only t (Err h.0) h.1 (a.0, omega (arith, a.3))

  -- a number within the limits is read
  pub number_read : (o : Option (List ℕ)) (r : Option ℕ) (v : ℕ) → (o ≡ None → r ≡ None) → ((t : List ℕ) → o ≡ Some t → ReadsOne G t r) → r ≡ Some v → least ≤ v → v ≤ most → v ≡ number_from least most o
  number_read None r v none some is low high = absurd (let n = none refl in cc)
  number_read (Some t) r v none some is low high =
      let g : G t (Ok v) = subst (ReadsOne G t) is (some t refl) in
      (only t (Ok v) g).1 ∙ sym (chosen (is_unsigned_in least most t) (digits_value 10 (without_leading_plus t)) least (within t v g low high))

  -- no number within the limits is read
  pub number_unread : (o : Option (List ℕ)) (r : Option ℕ) → ((t : List ℕ) → o ≡ Some t → ReadsOne G t r) → ((v : ℕ) → r ≡ Some v → least ≤ v → v ≤ most → ⊥) → least ≡ number_from least most o
  number_unread None r some off = refl
  number_unread (Some t) r some off =
      sym (other (is_unsigned_in least most t) (digits_value 10 (without_leading_plus t)) least (λ is. refuted t r (some t refl) (accepts-Accepts false (vp.Unsigned least most) t is) off))
