-- New sections of a table, of which the first one is opened and the others are kept, the last one first.
use Rattle.std.proofs.Common.{◌≡◌, ◌+◌, ℕ, suc, List, [], ◌∷◌, ◌++◌, length, reverse, All, refl, sym, ap, ◌∙◌, subst, arith}
use Rattle.std.proofs.lemmas.List.{length-reverse, reverse-append, reverse-reverse}
use Rattle.std.proofs.lemmas.List.Elements.{All-append, All-cons, All-head, All-nil, All-tail}
use mathlib.Core.Option.{some}
use lib.ListN.{get_elem?}
use Rattle.sections.specs.declared.events.SectionKnowledge.{SectionKnowledge}
use Rattle.sections.specs.Sections.{IsNewSection, IsSectionOf, SectionView, SectionsView}

-- what holds of each by its place holds of all
all_of : {A : Type 0} (P : A → Type 0) (xs : List A) → ((q : ℕ) (x : A) → get_elem? xs q ≡ some x → P x) → All P xs
all_of P [] h = All-nil P
all_of P (x ∷ xs) h = All-cons P x xs (h 0 x refl) (all_of P xs (λ q y e. h (suc q) y e))

all_reverse : {A : Type 0} (P : A → Type 0) (xs : List A) → All P xs → All P (reverse xs)
all_reverse P [] h = All-nil P
all_reverse P (x ∷ xs) h = subst (All P) (sym (reverse-append (x ∷ []) xs)) (All-append P (reverse xs) (x ∷ []) (all_reverse P xs (All-tail P x xs h)) (All-cons P x [] (All-head P x xs h) (All-nil P)))

-- the first is new, the others are as many as they were and are of the table
pub record IsSplit (table : SectionsView) (count : ℕ) (kept : List SectionView) (first : SectionView) : Type 0 where
  pub new : IsNewSection table 0 first
  pub length_is : length kept ≡ count
  pub own : All (IsSectionOf table) kept

split_at : (table : SectionsView) (count : ℕ) (kept : List SectionView) (first : SectionView) → ((q : ℕ) (s : SectionView) → get_elem? (first ∷ reverse kept) q ≡ some s → IsNewSection table q s) → length (first ∷ reverse kept) ≡ count + 1 →
    IsSplit table count kept first
split_at table count kept first each long =
    let same : length (reverse kept) ≡ length kept = length-reverse kept in record {
      new = each 0 first refl;
      length_is = omega arith;
      own = subst (All (IsSectionOf table)) (reverse-reverse kept)
          (all_reverse (IsSectionOf table) (reverse kept) (all_of (IsSectionOf table) (reverse kept) (λ q s e. let new = each (suc q) s e in (new.0, ap (λ (k : SectionKnowledge). k.count) new.1))));
    }

pub splits : (table : SectionsView) (count : ℕ) (all turned kept : List SectionView) (first : SectionView) → ((q : ℕ) (s : SectionView) → get_elem? all q ≡ some s → IsNewSection table q s) → length all ≡ count + 1
    → turned ≡ reverse all → turned ≡ kept ++ first ∷ [] → IsSplit table count kept first
splits table count all turned kept first each long is parts =
    let order : all ≡ first ∷ reverse kept = sym (reverse-reverse all) ∙ (ap (λ (xs : List SectionView). reverse xs) (sym is ∙ parts) ∙ reverse-append kept (first ∷ [])) in
    split_at table count kept first (subst (λ (xs : List SectionView). (q : ℕ) (s : SectionView) → get_elem? xs q ≡ some s → IsNewSection table q s) order each) (ap length (sym order) ∙ long)
