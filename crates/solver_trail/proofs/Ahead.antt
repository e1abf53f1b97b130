-- The list of a literal, visited watch by watch.
use Rattle.std.proofs.Common.{◌≡◌, ◌≢◌, ◌∙◌, inl, ℕ, ◌<◌, ◌≤◌, List, [], ◌∷◌, ◌++◌, length, refl, sym, ap, subst, arith, rules, append_assoc, length-append}
use Rattle.std.specs.Prelude.{Option, None, Some, IfSome, set}
use Rattle.std.proofs.lemmas.List.{set-get_or}
use Rattle.clause_pool.specs.Literal.{Literal, pos_literal}
use Rattle.clause_pool.specs.LiteralCode.{code_of}
use Rattle.clause_pool.proofs.Literals.{same_by_code}
use Rattle.solver_trail.specs.declared.watches.Watches.{Watches}
use Rattle.solver_trail.specs.Watches.{next_watches, watched_literals, watched, IsChain, IsWatchAmong, IsListOf, IsLinked, IsUnlinked, IsAhead, HasLastWatch, link_after, head_of}
use Rattle.solver_trail.proofs.Lists.{among_left, among_right, apart_length, chain_after, linked_elsewhere, linked_listed, same_count, unlinked_list, unlinked_listed}

-- The first of the watches that are ahead.
pub record IsAtWatch {w : Watches} {lit : Literal} {last : Option ℕ} (h : IsAhead w lit last) (watch : ℕ) : Type 0 where
  pub later : List ℕ
  pub rest : h.rest ≡ watch ∷ later
  pub within : watch < length (watched_literals w)
  pub is : watched (watched_literals w) watch ≡ lit

module _ {w : Watches} {lit : Literal} {last : Option ℕ} (h : IsAhead w lit last) where
  in_list : (m : ℕ) → IsWatchAmong (h.stay ++ h.rest) m → (m < length (watched_literals w)) × (code_of (watched (watched_literals w) m) ≡ code_of lit)
  in_list m there = let o = h.list.owned m (subst (λ ms. IsWatchAmong ms m) (sym h.parts) there) in (o.0, o.1)

  chain_ahead : IsChain (next_watches w) (link_after w lit last) h.rest
  chain_ahead = by last h.ends
    where
      by : (last : Option ℕ) → HasLastWatch h.stay last → IsChain (next_watches w) (link_after w lit last) h.rest
      by None none = subst (IsChain (next_watches w) (head_of w.firsts.items lit)) (h.parts ∙ ap (λ xs. xs ++ h.rest) none) h.list.chain
      by (Some j) ends = chain_after (next_watches w) (head_of w.firsts.items lit) ends.0 j h.rest
          (subst (IsChain (next_watches w) (head_of w.firsts.items lit)) (h.parts ∙ (ap (λ xs. xs ++ h.rest) ends.1 ∙ append_assoc ends.0 (j ∷ []) h.rest)) h.list.chain)

  pub last_within : IfSome last (λ at. at < length (watched_literals w))
  last_within = by last h.ends
    where
      by : (last : Option ℕ) → HasLastWatch h.stay last → IfSome last (λ at. at < length (watched_literals w))
      by None none = search rules
      by (Some j) ends = (in_list j (among_left h.stay h.rest j (subst (λ xs. IsWatchAmong xs j) (sym ends.1) (among_right ends.0 (j ∷ []) j (inl refl))))).0

  pub none_ahead : link_after w lit last ≡ None → h.rest ≡ []
  none_ahead e = by h.rest refl chain_ahead
    where
      by : (rest : List ℕ) → h.rest ≡ rest → IsChain (next_watches w) (link_after w lit last) rest → h.rest ≡ []
      by [] is chain = is
      by (i ∷ rest) is chain = absurd (let wrong : ◌≡◌ {A = Option ℕ} None (Some i) = sym e ∙ chain.0 in cc)

  pub ahead_few : length h.rest ≤ length (watched_literals w)
  ahead_few =
      let few = apart_length (length (watched_literals w)) h.list.members h.list.apart (λ watch there. (h.list.owned watch there).0) in
      omega (arith, few, ap length h.parts, length-append h.stay h.rest)

  pub at_watch : (watch : ℕ) → link_after w lit last ≡ Some watch → IsAtWatch h watch
  at_watch watch e = by h.rest refl chain_ahead
    where
      by : (rest : List ℕ) → h.rest ≡ rest → IsChain (next_watches w) (link_after w lit last) rest → IsAtWatch h watch
      by [] is chain = absurd (let wrong : ◌≡◌ {A = Option ℕ} None (Some watch) = sym chain ∙ e in cc)
      by (i ∷ later) is chain =
          let same : i ≡ watch = (let some : ◌≡◌ {A = Option ℕ} (Some i) (Some watch) = sym chain.0 ∙ e in cc) in
          let parts : h.rest ≡ watch ∷ later = is ∙ ap (λ n. n ∷ later) same in
          let o = in_list watch (among_right h.stay h.rest watch (subst (λ xs. IsWatchAmong xs watch) (sym parts) (inl refl))) in
          record { later = later; rest = parts; within = o.0; is = same_by_code (watched (watched_literals w) watch) lit o.1 }

  -- the first one stays in the list
  pub stays : {watch : ℕ} → IsAtWatch h watch → (a : IsAhead w lit (Some watch)) × (h.rest ≡ watch ∷ a.rest)
  stays {watch = watch} at = (
    record {
      stay = h.stay ++ watch ∷ [];
      rest = at.later;
      ends = (h.stay, refl);
      list = h.list;
      parts = h.parts ∙ (ap (λ xs. h.stay ++ xs) at.rest ∙ sym (append_assoc h.stay (watch ∷ []) at.later));
      listed = h.listed;
    },
    at.rest,
  )

  pub stays_same : {watch : ℕ} → IsAtWatch h watch → set (watched_literals w) watch lit ≡ watched_literals w
  stays_same {watch = watch} at = subst (λ l. set (watched_literals w) watch l ≡ watched_literals w) at.is (set-get_or (watched_literals w) watch (pos_literal 0))

  -- the first one moves to another list
  module _ {watch : ℕ} (at : IsAtWatch h watch) (below : code_of lit < length w.firsts.items) {between : Watches} (u : IsUnlinked w between lit last watch)
      (target : Literal) (within : code_of target < length w.firsts.items) (ne : code_of lit ≢ code_of target) {new : Watches}
      (l : IsLinked between new watch target) where
    parts : h.list.members ≡ h.stay ++ watch ∷ at.later
    parts = h.parts ∙ ap (λ xs. h.stay ++ xs) at.rest

    moved_list : (list : IsListOf new.firsts.items (next_watches new) (watched_literals new) [] (code_of lit)) × (list.members ≡ h.stay ++ at.later)
    moved_list =
        rw (l.firsts, l.nexts, l.literals, u.firsts, u.nexts, u.literals)
        (let taken = unlinked_list h.listed lit below h.list h.stay watch at.later parts last h.ends in
        let again = linked_elsewhere (watched_literals w) watch at.within target taken.0 ne in
        (again.0, again.1 ∙ taken.1))

    pub moves : (a : IsAhead new lit last) × (h.rest ≡ watch ∷ a.rest)
    moves = (
      record {
        stay = h.stay;
        rest = at.later;
        ends = h.ends;
        list = moved_list.0;
        parts = moved_list.1;
        listed = rw (l.firsts, l.nexts, l.literals, u.firsts, u.nexts, u.literals)
            (let taken = unlinked_listed h.listed lit below h.list h.stay watch at.later parts last h.ends in linked_listed (watched_literals w) watch at.within target taken (λ none. none) (omega (arith, within, same_count h.listed lit below h.list h.stay watch at.later parts last)));
      },
      at.rest,
    )
