-- The opening, and how seats are dealt; and the law of runs.
use Rattle.std.proofs.Common.{◌≡◌, ◌≢◌, ◌⊎◌, ◌+◌, ◌*◌, ◌<◌, ◌≤◌, ℕ, zero, suc, List, [], ◌∷◌, ◌++◌, set, get_or, length, replicate, true, false, refl, sym, ap, subst, ◌∙◌, inl, inr, ⊎_elim, arith}
use Rattle.std.proofs.lemmas.List.{get_or-replicate, length-replicate}
use mathlib.Core.Option.{some, some-injective, some-ne-none}
use lib.ListN.{get_elem?}
use Rattle.atomic_table.specs.Table.{Splits, opening as first_state}
use Rattle.atomic_table.proofs.Lists.{at_set}
use Rattle.sections.specs.declared.events.SectionEvent.{SectionEvent}
use Rattle.sections.specs.declared.events.Seated.{Seated}
use Rattle.sections.specs.declared.events.Seated.TheVariants.{Dealer, Owner}
use Rattle.sections.specs.declared.table.TheConstants.{MOMENTS, EXTENT}
use Rattle.sections.specs.Rule.{HasSection, IsTrueOfRun, SectionsRuled, ShowsRun, section_dealt, next_section, new_section, section_place, sections_words}
use Rattle.sections.specs.Runs.{RunGoesOn, OthersRunOn}
use Rattle.sections.specs.Statements.{RunsAreOne}
use Rattle.sections.proofs.Rule.{Apart, apart_set}
use Rattle.sections.proofs.Runs.{goes_on}

-- The opening

pub opens : {S : Type 0} (count : ℕ) (words : List ℕ) → words ≡ replicate (sections_words count) 0 → SectionsRuled {S = S} count (first_state words [] (Dealer 0 count))
opens {S = S} count words is = record {
  run = [];
  lawful = tt;
  shows = subst (ShowsRun count []) (sym is) zeros;
  knows = λ i v e. only (λ v. IsTrueOfRun count (get_or words EXTENT 0) [] v) (refl, λ q low. tt) i v e;
  apart = λ i j q v w a b ov ow. first i v a ∙ sym (first j w b);
}
  where
    zeros : ShowsRun count [] (replicate (sections_words count) 0)
    zeros =
        let extent : get_or (replicate (sections_words count) 0) EXTENT 0 ≡ 0 = get_or-replicate (sections_words count) EXTENT 0 0 (omega arith) in
        record {
          size = length-replicate (sections_words count) 0;
          moments = get_or-replicate (sections_words count) MOMENTS 0 0 (omega arith);
          extent = subst (λ z. z ≤ count) (sym extent) (omega arith);
          each = λ q low. get_or-replicate (sections_words count) (section_place q) 0 0 (omega arith);
          beyond = λ q high. tt;
        }

    only : (P : Seated → Type 0) → P (Dealer 0 count) → (i : ℕ) (v : Seated) → get_elem? (Dealer 0 count ∷ []) i ≡ some v → P v
    only P p zero v e = subst P (some-injective (Dealer 0 count) v e) p
    only P p (suc i) v e = absurd (some-ne-none v (sym e))

    first : (i : ℕ) (v : Seated) → get_elem? (Dealer 0 count ∷ []) i ≡ some v → i ≡ 0
    first zero v e = refl
    first (suc i) v e = absurd (some-ne-none v (sym e))

-- Dealing

at_end : {A : Type 0} (l : List A) (a b : A) (j : ℕ) → get_elem? (l ++ a ∷ []) j ≡ some b → (get_elem? l j ≡ some b) ⊎ ((j ≡ length l) × (a ≡ b))
at_end [] a b zero e = inr (refl, some-injective a b e)
at_end [] a b (suc j) e = absurd (some-ne-none b (sym e))
at_end (x ∷ xs) a b zero e = inl e
at_end (x ∷ xs) a b (suc j) e = ⊎_elim inl (λ t. inr (ap suc t.0, t.1)) (at_end xs a b j e)

deals_from : {S : Type 0} (count id next n : ℕ) → Splits {S = S} {V = Seated} (SectionsRuled count) id (Dealer next n) (Dealer (next + 1) n) (Owner (new_section next n))
deals_from {S = S} count id next n s r here =
    let extent : ℕ = get_or s.words EXTENT 0 in
    let left : Seated = Dealer (next + 1) n in
    let right : Seated = Owner (new_section next n) in
    let was : IsTrueOfRun count extent r.run (Dealer next n) = r.knows id (Dealer next n) here in
    let views : List Seated = set s.views id left in
    let old : Apart views = apart_set s.views id (Dealer next n) left here (λ q o. omega arith) r.apart in
    let alone : (i q : ℕ) (w : Seated) → get_elem? views i ≡ some w → HasSection w q → next ≡ q → ⊥ = λ i q w e ow is. ⊎_elim
    (λ (t : (i ≡ id) × (left ≡ w)). let high : next + 1 ≤ q = subst (λ z. HasSection z q) (sym t.1) ow in omega arith)
    (λ (t : (i ≢ id) × (get_elem? s.views i ≡ some w)). t.0 (r.apart i id q w (Dealer next n) t.1 here ow (omega arith)))
    (at_set s.views id i left w e) in
    record {
      run = r.run;
      lawful = r.lawful;
      shows = r.shows;
      knows = λ i w e. ⊎_elim
          (λ before. ⊎_elim (λ (t : (i ≡ id) × (left ≡ w)). subst (IsTrueOfRun count extent r.run) t.1 (was.0, λ q high. was.1 q (omega arith))) (λ (t : (i ≢ id) × (get_elem? s.views i ≡ some w)). r.knows i w t.1) (at_set s.views id i left w before))
          (λ (t : (i ≡ length views) × (right ≡ w)). subst (IsTrueOfRun count extent r.run) t.1 (was.0, (r.run, sym (Rattle.std.proofs.Common.append-nil r.run), was.1 next (omega arith)), λ c. absurd (cc)))
          (at_end views right w i e);
      apart = λ i j q x y a b ox oy. ⊎_elim
          (λ (olda : get_elem? views i ≡ some x). ⊎_elim (λ (oldb : get_elem? views j ≡ some y). old i j q x y olda oldb ox oy) (λ (t : (j ≡ length views) × (right ≡ y)). absurd (alone i q x olda ox (subst (λ z. HasSection z q) (sym t.1) oy))) (at_end views right y j b))
          (λ (t : (i ≡ length views) × (right ≡ x)). ⊎_elim (λ (oldb : get_elem? views j ≡ some y). absurd (alone j q y oldb oy (subst (λ z. HasSection z q) (sym t.1) ox))) (λ (u : (j ≡ length views) × (right ≡ y)). t.0 ∙ sym u.0) (at_end views right y j b))
          (at_end views right x i a);
    }

pub deals : {S : Type 0} (count id next n : ℕ) (v : Seated) → v ≡ Dealer next n → Splits {S = S} {V = Seated} (SectionsRuled count) id v (next_section v) (section_dealt v)
deals {S = S} count id next n v is = subst (λ (z : Seated). Splits {S = S} {V = Seated} (SectionsRuled count) id z (next_section z) (section_dealt z)) (sym is) (deals_from count id next n)

-- one more at the end of a list
pub each_longer : {A : Type 0} (P : ℕ → A → Type 0) (xs : List A) (x : A) (n : ℕ) → length xs ≡ n → ((q : ℕ) (h : A) → get_elem? xs q ≡ some h → P q h) → P n x → (q : ℕ) (h : A) → get_elem? (xs ++ x ∷ []) q ≡ some h → P q h
each_longer {A = A} P xs x n len each new q h e = ⊎_elim (each q h) (λ (t : (q ≡ length xs) × (x ≡ h)). subst (λ (z : ℕ × A). P z.0 z.1) (λ i. (sym (t.0 ∙ len) i, t.1 i)) new) (at_end xs x h q e)

-- The law of runs

splits_at : (a b x y : List SectionEvent) → x ++ a ≡ y ++ b → RunGoesOn a b ⊎ RunGoesOn b a
splits_at a b [] y e = inr (y, e)
splits_at a b (p ∷ x) [] e = inl (p ∷ x, sym e)
splits_at a b (p ∷ x) (q ∷ y) e = let rest : x ++ a ≡ y ++ b = cc in splits_at a b x y rest

others_go_on : (q : ℕ) (a b : List SectionEvent) → OthersRunOn q a b → RunGoesOn a b
others_go_on q a b g = (g.0, g.1)

pub runs_are_one : RunsAreOne
runs_are_one count s r i j k l here there one other begins begun =
    let first = goes_on one k.run r.run begins (others_go_on k.number k.run r.run (r.knows i (Owner k) here).1) in
    let second = goes_on other l.run r.run begun (others_go_on l.number l.run r.run (r.knows j (Owner l) there).1) in
    splits_at one other first.0 second.0 (sym first.1 ∙ second.1)
