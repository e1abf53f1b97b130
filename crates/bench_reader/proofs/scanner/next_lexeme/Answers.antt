use Rattle.std.proofs.Common.{◌≡◌, ◌+◌, ◌≤◌, ◌<◌, ℕ, drop, length, length-drop, get_or, arith}
use Rattle.text_fields.specs.Fields.{Text}
use Rattle.bench_reader.specs.declared.scanner.LexemeKind.{LexemeKind}
use Rattle.bench_reader.specs.Bytes.{kind_at, length_at}
use Rattle.bench_reader.proofs.ScanLemmas.{next_end, next_some, length_at_le, rest_all, byte_front}
use Rattle.bench_reader.proofs.scanner.next_lexeme.Goals as goal

pub returns-in_default : goal.returns-in_default
returns-in_default c =
    let text = c.args.bytes.now in
    let at = c.skip_blanks-place.result.byte in
    let rest = rw (rest_all at text) at c.in_default.len_below in
    next_end text c.args.place.byte c.skip_blanks-place.result c.skip_blanks-place.ensures
    (omega (arith, rest, length-drop at text, c.skip_blanks-place.ensures.within))

-- a lexeme ends in the text
ends_within : (text : Text) (at n : ℕ) (kind : LexemeKind) → 1 ≤ length (drop at text) → n ≡ length_at kind (drop at text) → at + n ≤ length text
ends_within text at n kind some is = omega (arith, is, length_at_le kind (drop at text) (omega (arith, some)), length-drop at text)

pub overflow_cast-result : goal.overflow_cast-result
overflow_cast-result c =
    let text = c.args.bytes.now in
    let at = c.skip_blanks-place.result.byte in
    omega (arith, ends_within text at c.length_at.result c.kind_at-kind.result (rw (rest_all at text) at c.in-len1-up.len_at_least) (rw (rest_all at text) at c.length_at.ensures))

pub overflow_add-result : goal.overflow_add-result
overflow_add-result c =
    let text = c.args.bytes.now in
    let at = c.skip_blanks-place.result.byte in
    omega (arith, ends_within text at c.length_at.result c.kind_at-kind.result (rw (rest_all at text) at c.in-len1-up.len_at_least) (rw (rest_all at text) at c.length_at.ensures))

pub returns : goal.returns
returns c =
    let text = c.args.bytes.now in
    let at = c.skip_blanks-place.result.byte in
    let some = rw (rest_all at text) at c.in-len1-up.len_at_least in
    let n = rw (rest_all at text) at c.length_at.ensures in
    let h : at < length text = omega (arith, some, length-drop at text) in
    let kind : c.kind_at-kind.result ≡ kind_at (get_or text at 0) = rw (rest_all at text, byte_front text at h) at c.kind_at-kind.ensures in
    next_some text c.args.place.byte c.skip_blanks-place.result c.kind_at-kind.result c.length_at.result c.skip_blanks-place.ensures h kind n
