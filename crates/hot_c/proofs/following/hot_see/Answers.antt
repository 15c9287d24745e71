-- The handle follows the leader's stamp.
use Rattle.hot_c.proofs.Common.{◌≡◌, ◌⊎◌, List, Option, None, Some, inl, inr, refl, sym, ap, subst, ◌∙◌, Change, HandleView, Stays}
use Rattle.hot_index.specs.Stamps.{HasCaughtUp}
use Rattle.hot_c.specs.Following.{IsAsTold, SeesLeader}
use Rattle.hot_c.specs.declared.opened.Opened.{Opened}
use Rattle.hot_c.proofs.following.hot_see.Goals as goal

never : (s : Opened) → Some s ≡ None → ⊥
never s e = cc

same_in : (s t : Opened) → Some s ≡ Some t → s ≡ t
same_in s t e = cc

-- the handle has seen this front
abbrev CaughtUp : List Change → HandleView → HandleView → Type 0
CaughtUp front = Stays (λ index k j. HasCaughtUp index.layout front k j)

sees : (s u t m : Opened) (old old_leader : Option Opened) (front : List Change) → old ≡ Some s → old_leader ≡ Some t →
    Stays (λ index k j. IsAsTold k j) t.handle m.handle → front ≡ t.handle.pass.front → CaughtUp front s.handle u.handle → u.kept.items ≡ s.kept.items → m.kept.items ≡ t.kept.items → SeesLeader old (Some u) old_leader (Some m) 0
sees s u t m old old_leader front was led same told stays keeps leader_keeps = record {
  closed = λ either. absurd (neither either);
  seen = λ leader some is. (
    refl,
    record {
      before = s;
      after = u;
      was = was;
      is = refl;
      stays = subst (λ (f : List Change). CaughtUp f s.handle u.handle) (told ∙ ap (λ (o : Opened). o.handle.pass.front) (same_in t leader (sym led ∙ is))) stays;
      keeps = keeps;
    },
    record { before = t; after = m; was = led; is = refl; stays = same; keeps = leader_keeps },
  );
}
  where
    neither : (old ≡ None) ⊎ (old_leader ≡ None) → ⊥
    neither (inl none) = never s (sym was ∙ none)
    neither (inr none) = never t (sym led ∙ none)

pub returns-clause-call : goal.returns-clause-call
returns-clause-call c = sees _ _ _ _ _ _ _ c.lend-2.ensures.value c.lend.ensures.value c.stamp-stamp.ensures.same c.stamp-stamp.ensures.front c.follow.ensures.call c.follow.ensures.keeps c.stamp-stamp.ensures.keeps
