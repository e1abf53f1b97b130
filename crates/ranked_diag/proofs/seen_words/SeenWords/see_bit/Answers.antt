use Rattle.std.proofs.Common.{◌∙◌, ◌<◌, ◌∷◌, [], ℕ, List, eqb, length, get_or, set, refl, sym, ap, subst}
use Rattle.std.proofs.lemmas.Nat.Bits.{bit_at-zero}
use Rattle.ranked_diag.specs.declared.seen_word.SeenWord.{SeenWord}
use Rattle.ranked_diag.specs.Seen.{seen_of}
use Rattle.ranked_diag.specs.SeenWords.{AreSeenBefore, IsSeenToo}
use Rattle.ranked_diag.proofs.SeenLemmas.{set_too, push_too}
use Rattle.ranked_diag.proofs.seen_words.SeenWords.see_bit.Goals as goal

pub returns-in-Some : goal.returns-in-Some
returns-in-Some c =
    let words = c.self.inside.words.items in
    let last = c.in-Some.last in
    let old = c.index.result.now in
    let inside = subst (λ (ws : List SeenWord). last < length ws) (sym c.self.view_is) c.in-Some.ensures.0 in
    let word = ap (λ (w : SeenWord). w.word) c.index.ensures ∙ (ap (λ (ws : List SeenWord). (get_or ws last old).word) c.self.view_is ∙ c.in-Some.ensures.1 old) in
    subst (λ (ws : List SeenWord). IsSeenToo ws (set words last c.with.result) c.args.place (seen_of c.args.one ∷ [])) c.self.view_is
    (set_too words c.args.place last c.args.one old c.with.result (subst (AreSeenBefore c.args.place) (sym c.self.view_is) c.requires) inside (sym c.index.ensures) word c.with.ensures)

pub returns-in_ok-push-in-None : goal.returns-in_ok-push-in-None
returns-in_ok-push-in-None c =
    let words = c.self.inside.words.items in
    subst (λ (ws : List SeenWord). IsSeenToo ws c.push.new.self.items c.args.place (seen_of c.args.one ∷ [])) c.self.view_is
    (subst (λ (ws : List SeenWord). IsSeenToo words ws c.args.place (seen_of c.args.one ∷ [])) (sym c.in_ok-push-in-None.ensures.items)
    (push_too words c.args.place c.args.one _ c.with-in-None.result (subst (AreSeenBefore c.args.place) (sym c.self.view_is) c.requires) refl refl (λ k h past. ap (λ (n : ℕ). eqb n 1) (bit_at-zero k)) c.with-in-None.ensures))
