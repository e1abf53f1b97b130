use Rattle.std.proofs.Common.{◌≡◌, ◌⊎◌, ◌∙◌, ℕ, inl, inr, sym}
use Rattle.pair_sets.specs.declared.state.PairState.{PairState}
use Rattle.pair_sets.specs.declared.state.PairState.TheVariants.{AllSame, Apart, Undecided}
use Rattle.refute_check.proofs.WalkLemmas.{leaf_open}
use Rattle.refute_check.proofs.tree.Walk.wrong.Goals as goal

not_same : (state : PairState) → ((x : ℕ) × (state ≡ Apart x)) ⊎ (state ≡ Undecided) → state ≡ AllSame → ⊥
not_same state (inl (x, is)) same = let e : Apart x ≡ AllSame = sym is ∙ same in cc
not_same state (inr is) same = let e : Undecided ≡ AllSame = sym is ∙ same in cc

pub returns-in-Apart : goal.returns-in-Apart
returns-in-Apart c = leaf_open c.args.self.now c.requires c.args.token c.if-self.false c.in-Closed.is c.state.result c.state.ensures (not_same c.state.result c.in-Apart.is)
