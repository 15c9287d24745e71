-- What the calls of sections come to, on handles that are open.
use Rattle.hot_c.proofs.Common.{◌≡◌, ◌⊎◌, ℕ, Bool, true, false, List, [], Option, Some, None, IsSome, Result, Ok, Err, IfOk, IfErr, MatchOption, Box, refl, sym, ap, ◌∙◌, subst, inl, inr, Global}
use Rattle.sections.specs.Runs.{IsHeld, IsPast}
use Rattle.sections.specs.Sections.{Enters, IsInside, Leaves, SeesOthers, SectionView, TakesMoment}
use Rattle.hot_handles.specs.SectionHandles.{HasOpenedSection, IsUnchangedSection}
use Rattle.hot_handles.specs.declared.section.opened.OpenSection.{OpenSection as OpenSection}
use Rattle.hot_c.specs.declared.status.TheConstants.{CLOSED, DONE, INSIDE, NO_HANDLE, NO_MEMORY, NOT_PAST, OUTSIDE}
use Rattle.hot_c.specs.Sections.{EntersSection, FindsNotPast, FindsPast, HoldsInside, HoldsOutside, KeepsSection, LeavesSection, OpensSection, TellsMoment, TellsPast}

-- the handle held o before the call, and p after it, of the same table and with the same kept ones
module _ (old : Option OpenSection) (o p : OpenSection) (held : old ≡ Some o) where
  same : (x : OpenSection) → old ≡ Some x → x ≡ o
  same x is = cc

  never : old ≡ None → ⊥
  never none = let e = held in cc

  in_it : HoldsInside old → IsInside o.section
  in_it h = subst (λ (z : OpenSection). IsInside z.section) (same h.0 h.1) h.2

  out_of_it : HoldsOutside old → ¬ IsInside o.section
  out_of_it h = subst (λ (z : OpenSection). ¬ IsInside z.section) (same h.0 h.1) h.2

  module _ (keeps : (p.sections.value ≡ o.sections.value) × (p.kept.items ≡ o.kept.items)) where
    pub keeps_as : (Became : SectionView → SectionView → Type 0) → Became o.section p.section → KeepsSection Became old (Some p)
    keeps_as Became became = record { before = o; after = p; was = held; is = refl; table = keeps.0; kept = keeps.1; became = became }

    pub entered : (b : Bool) → b ≡ true → (IsInside o.section → (b ≡ false) × (p.section ≡ o.section)) → (¬ IsInside o.section → (b ≡ true) × Enters o.section p.section) → EntersSection old (Some p) DONE
    entered b is inside outside = record {
      closed = λ none. absurd (never none);
      inside = λ h. let no : b ≡ false = (inside (in_it h)).0 in absurd (cc);
      entered = λ h. (refl, keeps_as Enters (outside (out_of_it h)).1);
    }

    pub not_entered : (b : Bool) → b ≡ false → (IsInside o.section → (b ≡ false) × (p.section ≡ o.section)) → (¬ IsInside o.section → (b ≡ true) × Enters o.section p.section) → EntersSection old (Some p) INSIDE
    not_entered b is inside outside = record {
      closed = λ none. absurd (never none);
      inside = λ h. (refl, keeps_as (λ s t. t ≡ s) (inside (in_it h)).1);
      entered = λ h. let yes : b ≡ true = (outside (out_of_it h)).0 in absurd (cc);
    }

    pub left : (b : Bool) → b ≡ true → (¬ IsInside o.section → (b ≡ false) × (p.section ≡ o.section)) → (IsInside o.section → (b ≡ true) × Leaves o.section p.section) → LeavesSection old (Some p) DONE
    left b is outside inside = record {
      closed = λ none. absurd (never none);
      outside = λ h. let no : b ≡ false = (outside (out_of_it h)).0 in absurd (cc);
      left = λ h. (refl, keeps_as Leaves (inside (in_it h)).1);
    }

    pub not_left : (b : Bool) → b ≡ false → (¬ IsInside o.section → (b ≡ false) × (p.section ≡ o.section)) → (IsInside o.section → (b ≡ true) × Leaves o.section p.section) → LeavesSection old (Some p) OUTSIDE
    not_left b is outside inside = record {
      closed = λ none. absurd (never none);
      outside = λ h. (refl, keeps_as (λ s t. t ≡ s) (outside (out_of_it h)).1);
      left = λ h. let yes : b ≡ true = (inside (in_it h)).0 in absurd (cc);
    }

    pub took : (before after : ℕ) → TakesMoment after o.section p.section → TellsMoment old (Some p) before after DONE
    took before after takes = record { closed = λ none. absurd (never none); taken = λ some. (refl, keeps_as (TakesMoment after) takes) }

    pub past : (moment : ℕ) → SeesOthers o.section p.section → IsPast moment p.section.known.run → TellsPast moment old (Some p) DONE
    past moment looks is = record { closed = λ none. absurd (never none); told = λ some. inl (refl, keeps_as (FindsPast moment) (looks, is)) }

    pub not_past : (moment : ℕ) → SeesOthers o.section p.section → IsHeld moment p.section.known.run → TellsPast moment old (Some p) NOT_PAST
    not_past moment looks is = record { closed = λ none. absurd (never none); told = λ some. inr (refl, keeps_as (FindsNotPast moment) (looks, is)) }

  -- the handle that keeps sections held o before, and p after

  pub opened_next : (handle : Option OpenSection) (next : OpenSection) → handle ≡ Some next → HasOpenedSection o p next → (was : OpenSection) → old ≡ Some was → OpensSection was (Some p) handle DONE
  opened_next handle next is opens was has =
      (p, refl, inl (refl, next, is, subst (λ (z : OpenSection). HasOpenedSection z p next) (sym (same was has)) opens))

  pub none_kept : (handle : Option OpenSection) → handle ≡ None → o.kept.items ≡ [] → IsUnchangedSection o p → (was : OpenSection) → old ≡ Some was → OpensSection was (Some p) handle NO_HANDLE
  none_kept handle none empty keeps was has =
      let is = sym (same was has) in
      (p, refl, inr (inl (refl, none, subst (λ (z : OpenSection). z.kept.items ≡ []) is empty, subst (λ (z : OpenSection). IsUnchangedSection z p) is keeps)))

  pub none_opened : (handle : Option OpenSection) → handle ≡ None → IsUnchangedSection o p → (was : OpenSection) → old ≡ Some was → OpensSection was (Some p) handle NO_MEMORY
  none_opened handle none keeps was has = (p, refl, inr (inr (refl, none, subst (λ (z : OpenSection). IsUnchangedSection z p) (sym (same was has)) keeps)))

-- what an option has, and what it is where it has nothing
pub some_of : {A : Type 0} (Empty : Type 0) (Holds : A → Type 0) (found : Option A) (x : A) → found ≡ Some x → MatchOption found Empty Holds → Holds x
some_of {A = A} Empty Holds found x is h = subst (λ (z : Option A). MatchOption z Empty Holds) is h

pub none_of : {A : Type 0} (Empty : Type 0) (Holds : A → Type 0) (found : Option A) → found ≡ None → MatchOption found Empty Holds → Empty
none_of {A = A} Empty Holds found is h = subst (λ (z : Option A). MatchOption z Empty Holds) is h
