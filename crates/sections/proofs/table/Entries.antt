-- Entering a section, and taking a moment, by more than one step.
use Rattle.std.proofs.Common.{◌≡◌, ◌+◌, ◌<◌, ◌≤◌, ℕ, [], ap, inl, inr, refl, subst, ◌∙◌, arith}
use Rattle.sections.specs.declared.events.SectionEvent.{SectionEvent}
use Rattle.sections.specs.declared.events.SectionKnowledge.{SectionKnowledge}
use Rattle.sections.specs.declared.table.TheConstants.{MOST_MOMENTS}
use Rattle.sections.specs.Runs.{OthersRunOn, moments_in, word_in}
use Rattle.sections.specs.Sections.{Enters, IsInside, SeesOthers, StartsCounting, SectionView, TakesMoment, TakesNext}
use Rattle.sections.proofs.Runs.{moments_grow, others_on, word_kept}

-- a section that isn't open stays so while others act
outside_on : (s t : SectionKnowledge) → t.number ≡ s.number → OthersRunOn s.number s.run t.run → ¬ (0 < word_in s.number s.run) → ¬ (0 < word_in t.number t.run)
outside_on s t is others outside inside = outside (subst (λ z. 0 < z) (ap (λ z. word_in z t.run) is ∙ word_kept s.number s.run t.run others) inside)

module _ (s t u : SectionView) (counts : StartsCounting s t) (looks : SeesOthers t u) where
  number_t : t.known.number ≡ s.known.number
  number_t = ap (λ (z : SectionKnowledge). z.number) counts.known

  number_u : u.known.number ≡ s.known.number
  number_u = ap (λ (z : SectionKnowledge). z.number) looks.known ∙ number_t

  others_u : OthersRunOn s.known.number s.known.run u.known.run
  others_u = others_on s.known.number s.known.run t.known.run u.known.run counts.others (subst (λ z. OthersRunOn z t.known.run u.known.run) number_t looks.others)

  pub still_outside : ¬ IsInside s → ¬ IsInside u
  still_outside outside = outside_on s.known u.known number_u others_u outside

  pub enters_after : (v : SectionView) → Enters u v → Enters s v
  enters_after v e =
      let grown : moments_in s.known.run ≤ moments_in u.known.run = moments_grow s.known.number s.known.run u.known.run others_u in
      let fresh = e.fresh in
      record {
        one = (
          e.one.0 ∙ (looks.table ∙ counts.table),
          e.one.1 ∙ number_u,
          e.one.2 ∙ (ap (λ (z : SectionKnowledge). z.count) looks.known ∙ ap (λ (z : SectionKnowledge). z.count) counts.known),
        );
        before = e.before;
        others = others_on s.known.number s.known.run u.known.run e.before others_u (subst (λ z. OthersRunOn z u.known.run e.before) number_u e.others);
        moments = e.moments;
        fresh = omega arith;
        run = e.run ∙ ap (λ z. let x : SectionEvent = Rattle.sections.specs.declared.events.SectionEvent.TheVariants.Entered z e.moments in Rattle.std.proofs.Common.◌∷◌ x e.before) number_u;
      }

-- A moment: the number of those that had been taken at the load, and one
module _ (s t : SectionView) (n : ℕ) (looks : SeesOthers s t) (found : n ≡ moments_in t.known.run) where
  number_seen : t.known.number ≡ s.known.number
  number_seen = ap (λ (z : SectionKnowledge). z.number) looks.known

  count_seen : t.known.count ≡ s.known.count
  count_seen = ap (λ (z : SectionKnowledge). z.count) looks.known

  pub takes_moment : (u : SectionView) → TakesNext n t u → TakesMoment (n + 1) s u
  takes_moment u next =
      let more = next.taken in
      record {
        one = (next.table ∙ looks.table, ap (λ (z : SectionKnowledge). z.number) next.known ∙ number_seen, ap (λ (z : SectionKnowledge). z.count) next.known ∙ count_seen);
        before = t.known.run;
        others = looks.others;
        fewer = omega (arith, found);
        until = subst (λ z. OthersRunOn z t.known.run u.known.run) number_seen next.others;
        taken = inl (omega (arith, more));
      }

  -- or none is left to take
  pub takes_none : MOST_MOMENTS ≤ n → n ≤ MOST_MOMENTS → TakesMoment (n + 1) s t
  takes_none all most = record {
    one = (looks.table, number_seen, count_seen);
    before = t.known.run;
    others = looks.others;
    fewer = omega (arith, found);
    until = ([], refl, tt);
    taken = inr (omega (arith, all, most), omega (arith, all, most, found));
  }
