use Rattle.std.proofs.Common.{◌≡◌, ◌<◌, ◌∙◌, ℕ, List, length, ap, sym, get_or, arith}
use Rattle.std.specs.String.{string_bytes}
use Rattle.std.proofs.lemmas.List.FromFn.{length-map-range_with_len}
use Rattle.std.proofs.lemmas.Option.{get_or_from_slice_get}
use Rattle.std.proofs.lemmas.Result.{IfOk-weaker}
use Rattle.dict_rows.specs.declared.dict.Dict.{Dict}
use Rattle.ranked_diag.specs.PartialLog.{Line}
use Rattle.ranked_diag.specs.Mismatches.{mismatch_count, mismatch_counts}
use Rattle.ranked_diag.specs.Ranked.{least, IsRanking}
use Rattle.ranked_diag.proofs.FirstRanks.{first_is_least}
use Rattle.dictionary_commands.specs.Rankings.{IsRankText}
use Rattle.dictionary_commands.specs.Texts.{ranks_text}
use Rattle.dictionary_commands.proofs.rank.ranked_text.Goals as goal

counts_many : (d : Dict) (lines : List Line) (counts : List ℕ) → counts ≡ mismatch_counts d lines → length counts ≡ d.numbers
counts_many d lines counts is = ap length is ∙ length-map-range_with_len (mismatch_count d lines) 0 d.numbers

pub ranking-requires-clause-few : goal.ranking-requires-clause-few
ranking-requires-clause-few c = omega (arith, counts_many c.args.dict.now c.args.partial.now c.in_ok-counts.counts c.in_ok-counts.ensures)

pub get-least-requires : goal.get-least-requires
get-least-requires c =
    let some : 0 < length c.in_ok-counts.counts = omega (arith, counts_many c.args.dict.now c.args.partial.now c.in_ok-counts.counts c.in_ok-counts.ensures) in
    (first_is_least c.in_ok-counts.counts c.args.within c.in_ok-ranks.ranks some c.in_ok-ranks.ensures).0

pub returns : goal.returns
returns c =
    let d = c.args.dict.now in
    let lines = c.args.partial.now in
    let counts = c.in_ok-counts.counts in
    let ranks = c.in_ok-ranks.ranks in
    let rank = c.get-least.result in
    let some : 0 < length counts = omega (arith, counts_many d lines counts c.in_ok-counts.ensures) in
    let first = (first_is_least counts c.args.within ranks some c.in_ok-ranks.ensures).1 rank in
    let here : get_or ranks 0 rank ≡ rank = get_or_from_slice_get ranks 0 rank rank c.get-least.ensures in
    let low : rank.0 ≡ least (mismatch_counts d lines) = sym (ap (λ (r : ℕ × ℕ). r.0) here) ∙ first ∙ ap least c.in_ok-counts.ensures in
    let ranking : IsRanking (mismatch_counts d lines) c.args.within ranks = rw c.in_ok-counts.ensures at c.in_ok-ranks.ensures in
    IfOk-weaker c.ranks_text.result (λ text. string_bytes text ≡ ranks_text ranks rank.0) (λ text. IsRankText d lines c.args.within (string_bytes text))
    (λ text is. record { ranks = ranks; ranking = ranking; text_is = is ∙ ap (ranks_text ranks) low }) c.ranks_text.ensures
