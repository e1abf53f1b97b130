-- What `map_err` and `?` pass on.
use Rattle.std.proofs.Common.{◌≡◌, Result, Ok, Err, refl, sym, ap, subst}
use Rattle.std.specs.Result.{MatchResult, IsErrAnd, IfOk, IfErr}

-- `m` is `r` with its error mapped by `f`.
pub data IsMapped {T E D : Type 0} (f : E → D) (r : Result T E) (m : Result T D) : Type 0 where
  all_well : (x : T) → r ≡ Ok x → m ≡ Ok x → IsMapped f r m
  fault_in : (e : E) → r ≡ Err e → m ≡ Err (f e) → IsMapped f r m

pub mapped : {T E D : Type 0} (f : E → D) (r : Result T E) (m : Result T D) → MatchResult r (λ x. m ≡ Ok x) (λ e. IsErrAnd m (λ d. d ≡ f e)) → IsMapped f r m
mapped f (Ok x) m is = all_well x refl is
mapped f (Err e) (Ok x) is = absurd is
mapped f (Err e) (Err d) is = fault_in e refl (ap Err is)

module _ {T E D : Type 0} (f : E → D) (r : Result T E) (m : Result T D) where
  -- The call succeeded.
  pub well_of : {x : T} → MatchResult r (λ x. m ≡ Ok x) (λ e. IsErrAnd m (λ d. d ≡ f e)) → m ≡ Ok x → r ≡ Ok x
  well_of {x} is ok = elim (mapped f r m is) [
    | all_well y was now ↦ cc
    | fault_in e was now ↦ absurd (cc)
  ]

  -- The call returned an error that is mapped to this one.
  pub fault_of : {d : D} → MatchResult r (λ x. m ≡ Ok x) (λ e. IsErrAnd m (λ d. d ≡ f e)) → m ≡ Err d → (e : E) × (r ≡ Err e) × (d ≡ f e)
  fault_of {d} is err = elim (mapped f r m is) [
    | all_well y was now ↦ absurd (cc)
    | fault_in e was now ↦ (e, was, cc)
  ]

-- `?` passes on this error.
pub handed_on : {T E : Type 0} (r : Result T E) {e : E} → IsErrAnd r (λ x. x ≡ e) → r ≡ Err e
handed_on (Ok x) {e} is = absurd is
handed_on (Err x) {e} is = ap Err is

-- What holds of each value, or of each error, holds of the result.
pub ok_by : {T E : Type 0} {P : T → Type 0} (r : Result T E) → ((x : T) → r ≡ Ok x → P x) → IfOk r P
ok_by {T} {E} {P} (Ok x) all = all x refl
ok_by {T} {E} {P} (Err e) all = tt

pub err_by : {T E : Type 0} {P : E → Type 0} (r : Result T E) → ((e : E) → r ≡ Err e → P e) → IfErr r P
err_by {T} {E} {P} (Ok x) all = tt
err_by {T} {E} {P} (Err e) all = all e refl

pub handed_err : {T E : Type 0} (P : E → Type 0) (r : Result T E) {e : E} → IsErrAnd r (λ x. x ≡ e) → P e → IfErr r P
handed_err {T} {E} P (Ok x) {e} is held = tt
handed_err {T} {E} P (Err x) {e} is held = subst P (sym is) held
