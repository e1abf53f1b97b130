use Rattle.std.proofs.Common.{◌≡◌, ◌∙◌, ◌+◌, ◌||◌, true, false, drop, get_or, refl, sym, ap, arith, length, []}
use Rattle.bench_reader.specs.Bytes.{is_skipped}
use Rattle.bench_reader.specs.Scanning.{tokens_in}
use Rattle.std.proofs.Math.Seq.{drop-length}
use Rattle.std.proofs.lemmas.Bool.{or_parts}
use Rattle.bench_reader.proofs.ScanLemmas.{skip_byte, no_tokens, next_place, byte_front}
use Rattle.bench_reader.proofs.scanner.skip_blanks.Goals as goal

pub returns-then-not-is_skipped : goal.returns-then-not-is_skipped
returns-then-not-is_skipped c =
    let at = c.bytes.place.byte in
    let stops = or_parts c.bytes.inside (is_skipped (get_or c.args.bytes.now at 0)) (sym c.is_skipped.ensures ∙ c.if-not-is_skipped.true) in
    record {
      tokens = rw stops.0 at c.bytes.invariant.tokens;
      place = c.bytes.invariant.place;
      within = c.bytes.invariant.within;
      stops = λ h. stops.1;
    }

pub bytes-preserved : goal.bytes-preserved
bytes-preserved c =
    let text = c.args.bytes.now in
    let at = c.bytes.place.byte in
    let b = get_or text at 0 in
    let skipped : (c.bytes.inside || is_skipped b) ≡ true = sym c.is_skipped.ensures ∙ c.if-not-is_skipped.false in
    record {
      tokens = c.bytes.invariant.tokens ∙ ap (tokens_in c.bytes.inside at) (byte_front text at c.bytes-test.true) ∙ skip_byte c.bytes.inside at b (drop (at + 1) text) skipped
          ∙ rw (c.inside_behind-inside.ensures, c.place_behind-place.ensures.byte) refl;
      place = next_place text c.bytes.place c.place_behind-place.result c.bytes.invariant.place c.bytes-test.true c.place_behind-place.ensures.byte c.place_behind-place.ensures.line;
      within = omega (arith, c.place_behind-place.ensures.byte);
    }

pub returns : goal.returns
returns c =
    let text = c.args.bytes.now in
    let all : c.bytes.place.byte ≡ length text = omega (arith, c.bytes.invariant.within) in
    let none : drop c.bytes.place.byte text ≡ [] = ap (λ n. drop n text) all ∙ drop-length text in
    record {
      tokens = c.bytes.invariant.tokens ∙ ap (tokens_in c.bytes.inside c.bytes.place.byte) none ∙ no_tokens c.bytes.inside c.bytes.place.byte
          ∙ sym (ap (tokens_in false c.bytes.place.byte) none ∙ no_tokens false c.bytes.place.byte);
      place = c.bytes.invariant.place;
      within = c.bytes.invariant.within;
      stops = λ h. absurd (omega arith);
    }
