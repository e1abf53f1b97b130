-- The first line of bytes, by the place of its LF.
use Rattle.std.proofs.Common.{◌≡◌, ◌∙◌, ℕ, ◌+◌, ◌-◌, ◌<◌, ◌≤◌, ◌∷◌, ◌++◌, length, get_or, drop, length-take, length-drop, get_or-take, get_or-drop, sym, ap, inl, inr, arith}
use Rattle.std.specs.Prelude.{Contains}
use Rattle.std.specs.List.{slice_range}
use Rattle.std.proofs.lemmas.Bool.{cases_lt}
use Rattle.std.proofs.lemmas.List.{drop_more, get_or_default}
use Rattle.std.proofs.lemmas.List.Folds.{drop_split}
use Rattle.text_fields.specs.Fields.{Text}
use Rattle.result_records.specs.Held.{IsFirstLine, IsWithoutLineFeed}

-- bytes up to an LF, and those after it
cut_line : (bytes : Text) (start at : ℕ) → start ≤ at → at < length bytes → get_or bytes at 0 ≡ 10 → drop start bytes ≡ slice_range bytes start at ++ 10 ∷ drop (at + 1) bytes
cut_line bytes start at low high here =
    drop_split bytes start at low ∙ ap (λ (rest : Text). slice_range bytes start at ++ rest) (drop_more bytes at 0 high ∙ ap (λ (b : ℕ). b ∷ drop (at + 1) bytes) here)

none_between : (bytes : Text) (start at : ℕ) → IsWithoutLineFeed bytes start at → ¬ Contains (slice_range bytes start at) 10
none_between bytes start at without there =
    let k = there.0 in
    let rest = drop start bytes in
    let inside : k < at - start = omega (arith, there.1, length-take (at - start) rest) in
    let below : start + k < length bytes = omega (arith, there.1, length-take (at - start) rest, length-drop start bytes) in
    let e : get_or bytes (start + k) 0 ≡ 10 =
    get_or_default bytes (start + k) 0 10 below ∙ sym (get_or-drop start bytes k 10) ∙ sym (get_or-take (at - start) rest k 10 inside) ∙ there.2 in
    without (start + k) (omega arith) (omega arith) e

-- bytes that have no LF up to their end
pub none_behind : (bytes : Text) (start : ℕ) → IsWithoutLineFeed bytes start (length bytes) → ¬ Contains (drop start bytes) 10
none_behind bytes start without there =
    let k = there.0 in
    let below : start + k < length bytes = omega (arith, there.1, length-drop start bytes) in
    let e : get_or bytes (start + k) 0 ≡ 10 = get_or_default bytes (start + k) 0 10 below ∙ sym (get_or-drop start bytes k 10) ∙ there.2 in
    without (start + k) (omega arith) below e

pub first_line : (bytes : Text) (start at : ℕ) → start ≤ at → at < length bytes → IsWithoutLineFeed bytes start at → get_or bytes at 0 ≡ 10 → IsFirstLine (drop start bytes) (slice_range bytes start at) (drop (at + 1) bytes)
first_line bytes start at low high without here = record { one = none_between bytes start at without; cut = cut_line bytes start at low high here }

-- no LF up to one place, and none from there to another
pub without_more : (bytes : Text) (start between to : ℕ) → IsWithoutLineFeed bytes start between → IsWithoutLineFeed bytes between to → IsWithoutLineFeed bytes start to
without_more bytes start between to first second k low high = elim (cases_lt k between) [ inl less ↦ first k low less | inr most ↦ second k most high ]
