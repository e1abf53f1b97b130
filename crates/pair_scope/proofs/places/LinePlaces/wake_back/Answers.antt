use Rattle.std.proofs.Common.{◌+◌, ◌∙◌, ◌∷◌, [], take, get_or, sym, subst}
use Rattle.std.specs.Prelude.{Contains}
use Rattle.std.proofs.lemmas.List.{take_more}
use Rattle.std.proofs.lemmas.List.Elements.{Contains-append_left, Contains-push, Contains-push_cases}
use Rattle.net_model.specs.Circuit.{line_count}
use Rattle.pair_scope.proofs.RelevantLemmas.{woken_more}
use Rattle.pair_scope.proofs.places.LinePlaces.wake_back.Goals as goal

pub loop-line-preserved : goal.loop-line-preserved
loop-line-preserved c =
    let a = c.args.self.now in
    let lines = c.args.lines.now in
    let i = c.loop-line.line-index in
    let line = get_or lines i 0 in
    let more = take_more lines i 0 c.loop-line-test.true in
    record {
      room = c.insert.ensures.room ∙ c.loop-line.invariant.room;
      woken = woken_more (Contains (take i lines)) (Contains (take (i + 1) lines)) (line_count a.circuit.now) a.places.items c.args.queue.now c.loop-line.queue c.insert.new.self line c.place_back.result
          c.place_back.ensures
          (λ l m. subst (λ xs. Contains xs l) (sym more) (Contains-append_left (take i lines) (line ∷ []) l m))
          (λ l m. Contains-push_cases (take i lines) line l (subst (λ xs. Contains xs l) more m))
          (subst (λ xs. Contains xs line) (sym more) (Contains-push (take i lines) line)) c.insert.ensures.here c.insert.ensures.others c.loop-line.invariant.woken;
    }
