use Rattle.std.proofs.Common.{◌≡◌, ◌∙◌, length, get_or, ap, sym, subst, arith}
use Rattle.std.proofs.lemmas.Result.{IfOk-weaker}
use Rattle.net_model.specs.ClassTable.{class_count}
use Rattle.samediff_dict.specs.Chosen.{pairs_apart}
use Rattle.samediff_dict.specs.Partition.{IsPartition, are_together, pairs_between}
use Rattle.samediff_dict.specs.Numbered.{AlikeFrom, baselines_at}
use Rattle.samediff_dict.proofs.CandidateLemmas.{length-baselines}
use Rattle.samediff_dict.proofs.ToldLemmas.{apart_by_groups}
use Rattle.samediff_dict.proofs.ChoiceLemmas.{cut_last}
use Rattle.samediff_dict.proofs.choosing.BaselineChoice.apart.Goals as goal

pub loop-pattern-preserved : goal.loop-pattern-preserved
loop-pattern-preserved g c =
    let pattern = c.loop-pattern.pattern in
    let candidates = c.index-self-pattern.result in
    let own = get_or c.args.self.now.patterns.now pattern candidates in
    let are = c.requires.0.numbered.each pattern candidates (omega (arith, c.requires.1.one_each)) in
    cut_last c.args.self.now.classes.now g.rows c.args.chosen.now pattern own c.loop-pattern.told c.in_ok-told-2.told (length own.numbers) (omega arith) c.requires.1.chosen_are are c.loop-pattern.invariant
    c.in_ok-told-2.ensures are.one_each

pub returns : goal.returns
returns g c =
    let t = c.args.self.now.classes.now in
    let bs = baselines_at t g.rows c.args.chosen.now in
    let told = c.loop-pattern.told in
    let all : c.loop-pattern.pattern ≡ length g.rows = omega (arith, c.requires.1.one_each) in
    let are : IsPartition (class_count t) (AlikeFrom t g.rows bs 0 (length g.rows)) told = subst (λ n. IsPartition (class_count t) (AlikeFrom t g.rows bs 0 n) told) all c.loop-pattern.invariant in
    IfOk-weaker c.apart.result (λ apart. apart ≡ pairs_between c.args.self.now.count (are_together told)) (λ apart. apart ≡ pairs_apart t g.rows bs)
    (λ apart is. is ∙ (ap (λ n. pairs_between n (are_together told)) c.requires.0.count_is ∙ sym (apart_by_groups t g.rows bs (length-baselines t g.rows c.args.chosen.now ∙ c.requires.1.one_each) told are))) c.apart.ensures
