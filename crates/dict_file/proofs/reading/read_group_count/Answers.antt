use Rattle.std.proofs.Common.{◌≡◌, ◌∙◌, eqb, refl, sym, ap, inr, arith}
use Rattle.std.proofs.lemmas.Bool.{eqb-true, le-ltb}
use Rattle.net_model.proofs.Elements.{true_false}
use Rattle.dict_file.proofs.reading.read_group_count.Goals as goal
use Rattle.dict_file.proofs.reading.read_group_count.Goals.{then-groups-eq0-via-then-groups-eq0, then-groups-eq0-via-else-groups-eq0+then-groups-head, then-groups-eq0-via-else-groups-eq0+else-groups-head+then-entry_width-eq0, then-groups-gt1, else-groups-gt1}

pub returns-then-groups-eq0-clause-refused : goal.returns-then-groups-eq0-clause-refused
returns-then-groups-eq0-clause-refused c =
    let is = c.number-groups.ensures in
    inr (
      c.in_ok-reach.ensures.right,
      (
        (λ count. elim c.then-groups-eq0.branch [
          | then-groups-eq0-via-then-groups-eq0 w ↦ omega (arith, count.some, is, w.if-groups-eq0.true)
          | then-groups-eq0-via-else-groups-eq0+then-groups-head w ↦ omega (arith, count.few, is, w.if-groups-head.true, c.requires.numbers_are)
          | then-groups-eq0-via-else-groups-eq0+else-groups-head+then-entry_width-eq0 w ↦ elim w.if-groups-gt1.branch [
            | then-groups-gt1 v ↦
                let none : v.entry_width.result ≡ 0 = eqb-true v.entry_width.result 0 (sym v.value-is ∙ w.if-entry_width-eq0.true) in
                omega (arith, count.one (sym (v.entry_width.ensures c.args.bytes.now c.requires) ∙ none), is, v.if-groups-gt1.true)
            | else-groups-gt1 v ↦ true_false w.if-groups-gt1.value w.if-entry_width-eq0.true (v.value-is ∙ le-ltb 1 c.number-groups.result v.if-groups-gt1.false)
          ]
        ]),
        refl,
      ),
    )

pub returns-clause-right : goal.returns-clause-right
returns-clause-right c =
    let is = c.number-groups.ensures in (
      c.in_ok-reach.ensures.right,
      record {
        some = omega (arith, is, c.if-groups-eq0.false);
        few = omega (arith, is, c.if-groups-head.false, c.requires.numbers_are);
        one = λ none. elim c.if-groups-gt1.branch [
          | then-groups-gt1 v ↦
              let zero_width : v.entry_width.result ≡ 0 = v.entry_width.ensures c.args.bytes.now c.requires ∙ none in
              true_false c.if-groups-gt1.value (v.value-is ∙ ap (λ n. eqb n 0) zero_width) c.if-entry_width-eq0.false
          | else-groups-gt1 v ↦ omega (arith, is, v.if-groups-gt1.false)
        ];
      },
    )
