use Rattle.std.proofs.Common.{◌≡◌, ◌∙◌, ◌++◌, [], length, ap, sym, arith, subst, append-nil}
use Rattle.std.specs.Prelude.{flat_map}
use Rattle.std.specs.List.{range_with_len}
use Rattle.std.proofs.lemmas.List.FromFn.{length-map-range_with_len}
use Rattle.net_model.specs.Circuit.{line_count}
use Rattle.net_model.specs.FaultList.{destinations, sites_of_line}
use Rattle.fault_list.proofs.Bound.{few_sites}
use Rattle.fault_list.proofs.Sites.{destinations_at, branches-many, branches-few, sites_more}
use Rattle.fault_list.proofs.numbers.sites.Goals as goal
use Rattle.fault_list.proofs.numbers.sites.Goals.{then-branches-ge-FAN_OUT+in_ok-extend_from_slice, else-branches-ge-FAN_OUT}

pub at-branches-requires : goal.at-branches-requires
at-branches-requires c =
    let circuit = c.args.circuit.now in
    omega (arith, c.lines-line-end.ensures.value, ap length c.requires, length-map-range_with_len (destinations circuit) 0 (line_count circuit))

pub loop-line-preserved : goal.loop-line-preserved
loop-line-preserved c =
    let circuit = c.args.circuit.now in
    let line = c.loop-line.line in
    let so_far = c.loop-line.sites.items in
    let here : c.at-branches.result.now ≡ destinations circuit line =
    c.at-branches.ensures ∙ destinations_at circuit line c.args.readers.now (omega (arith, c.lines-line-end.ensures.value)) c.requires in
    elim c.if-branches-ge-FAN_OUT.branch [
      | then-branches-ge-FAN_OUT+in_ok-extend_from_slice w ↦
          ap (λ v. v.items) w.sites-is
          ∙ (w.in_ok-extend_from_slice.ensures.items
          ∙ (ap (λ xs. xs ++ c.at-branches.result.now) c.in_ok-push.ensures.items
          ∙ sites_more circuit line so_far c.at-branches.result.now c.loop-line.invariant (here ∙ sym (branches-many circuit line (omega (arith, w.if-branches-ge-FAN_OUT.true, ap length here))))))
      | else-branches-ge-FAN_OUT w ↦
          ap (λ v. v.items) w.sites-is
          ∙ (c.in_ok-push.ensures.items
          ∙ (sym (append-nil _)
          ∙ sites_more circuit line so_far [] c.loop-line.invariant (sym (branches-few circuit line (omega (arith, w.if-branches-ge-FAN_OUT.false, ap length here))))))
    ]

pub returns-clause-sites : goal.returns-clause-sites
returns-clause-sites c =
    let circuit = c.args.circuit.now in
    let all : c.loop-line.line ≡ line_count circuit = omega (arith, c.lines-line-end.ensures.value) in
    subst (λ n. c.loop-line.sites.items ≡ flat_map (sites_of_line circuit) (range_with_len 0 n)) all c.loop-line.invariant

pub returns-clause-few : goal.returns-clause-few
returns-clause-few c =
    let circuit = c.args.circuit.now in
    let all : c.loop-line.line ≡ line_count circuit = omega (arith, c.lines-line-end.ensures.value) in
    let sites = subst (λ n. c.loop-line.sites.items ≡ flat_map (sites_of_line circuit) (range_with_len 0 n)) all c.loop-line.invariant in
    omega (arith, ap length sites, few_sites circuit c.lines-line-end.ensures.circuit)
