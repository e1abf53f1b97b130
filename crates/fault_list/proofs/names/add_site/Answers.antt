use Rattle.std.proofs.Common.{◌≡◌, ◌∙◌, ℕ, List, [], ◌∷◌, ◌++◌, append_assoc}
use Rattle.std.proofs.lemmas.Result.{IfOk-equal}
use Rattle.fault_list.proofs.names.add_site.Goals as goal

-- a kind and the fields that are added to it
one_field : (old : List ℕ) (kind : ℕ) (x : List ℕ) → (old ++ kind ∷ []) ++ 32 ∷ x ≡ old ++ kind ∷ 32 ∷ x
one_field old kind x = append_assoc old (kind ∷ []) (32 ∷ x)

two_fields : (old : List ℕ) (kind : ℕ) (x y : List ℕ) → ((old ++ kind ∷ []) ++ 32 ∷ x) ++ 32 ∷ y ≡ old ++ kind ∷ 32 ∷ (x ++ 32 ∷ y)
two_fields old kind x y = append_assoc (old ++ kind ∷ []) (32 ∷ x) (32 ∷ y) ∙ one_field old kind (x ++ 32 ∷ y)

three_fields : (old : List ℕ) (kind : ℕ) (x y z : List ℕ) → (((old ++ kind ∷ []) ++ 32 ∷ x) ++ 32 ∷ y) ++ 32 ∷ z ≡ old ++ kind ∷ 32 ∷ (x ++ 32 ∷ (y ++ 32 ∷ z))
three_fields old kind x y z = append_assoc ((old ++ kind ∷ []) ++ 32 ∷ x) (32 ∷ y) (32 ∷ z) ∙ two_fields old kind x (y ++ 32 ∷ z)

pub returns-in_ok-push-in-Stem : goal.returns-in_ok-push-in-Stem
returns-in_ok-push-in-Stem c =
    IfOk-equal c.add_field.result _ _ _ c.add_field.ensures
    (rw (c.in_ok-push-in-Stem.ensures.items, c.in-Stem.is, c.text.ensures) (one_field c.args.text.now.items _ _))

pub returns-in_ok-add_field-in-Pin-2 : goal.returns-in_ok-add_field-in-Pin-2
returns-in_ok-add_field-in-Pin-2 c =
    IfOk-equal c.add_number.result _ _ _ c.add_number.ensures
    (rw (c.in_ok-add_field-in-Pin-2.ensures, c.in_ok-add_field-in-Pin.ensures, c.in_ok-push-in-Pin.ensures.items, c.in-Pin.is, c.text-in-Pin.ensures, c.read_line.ensures.line, c.text-in-Pin-2.ensures)
    (three_fields c.args.text.now.items _ _ _ _))

pub returns-in_ok-add_field-in-Position : goal.returns-in_ok-add_field-in-Position
returns-in_ok-add_field-in-Position c =
    IfOk-equal c.add_number-in-Position.result _ _ _ c.add_number-in-Position.ensures
    (rw (c.in_ok-add_field-in-Position.ensures, c.in_ok-push-in-Position.ensures.items, c.in-Position.is, c.text-in-Position.ensures, c.positions.ensures.value)
    (two_fields c.args.text.now.items _ _ _))
