-- A row that is set among rows.
use Rattle.std.proofs.Common.{◌≡◌, ◌∙◌, ℕ, ◌<◌, Bool, List, [], length, get_or, set, sym, subst, inl, inr}
use Rattle.std.proofs.lemmas.Bool.{cases_eq}
use Rattle.std.proofs.lemmas.List.{ext_get_or, length-set, get_or-set_same, get_or-set_other}
use Rattle.dict_rows.specs.Rows.{IsRowSet}

-- a row that is set, and the others as before
pub row_set : {old new : List (List Bool)} {row : ℕ} {bits : List Bool} → IsRowSet old new row bits → row < length old → new ≡ set old row bits
row_set {old} {new} {row} {bits} one inside =
    ext_get_or [] new (set old row bits) (one.shape.count ∙ sym (length-set old row bits))
    (λ k h. elim (cases_eq k row) [
      | inl same ↦ subst (λ (n : ℕ). get_or new n [] ≡ get_or (set old row bits) n []) (sym same) (one.here ∙ sym (get_or-set_same old row bits [] inside))
      | inr ne ↦ one.others k ne ∙ sym (get_or-set_other old row k bits [] ne)
    ])
