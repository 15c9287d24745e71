-- A step that its owner may make keeps the rule.
pub mod Dealing
pub mod Stepping
use Rattle.std.proofs.Common.{◌≡◌, ◌≢◌, ℕ, List, [], set, get_or, refl, sym, subst, ◌∙◌, ⊎_elim}
use Rattle.std.proofs.lemmas.List.{set-get_or}
use mathlib.Core.Option.{some}
use lib.ListN.{get_elem?}
use Rattle.atomic_table.specs.Table.{State, Me, Step, Allows}
use Rattle.atomic_table.specs.Table as table
use Rattle.atomic_table.proofs.Lists.{at_set}
use Rattle.sections.specs.declared.events.SectionEvent.{SectionEvent}
use Rattle.sections.specs.declared.events.SectionKnowledge.{SectionKnowledge}
use Rattle.sections.specs.declared.events.Seated.{Seated}
use Rattle.sections.specs.declared.events.Seated.TheVariants.{Owner}
use Rattle.sections.specs.declared.table.TheConstants.{EXTENT}
use Rattle.sections.specs.Rule.{Finds, HasSection, IsTrueOfRun, SectionsRuled, ShowsRun, owner_of}
use Rattle.sections.specs.Runs.{IsLawfulRun}
use Rattle.sections.proofs.Runs.{others_none}

-- The numbers of seats

abbrev pub Apart : List Seated → Type 0
Apart views = (i j q : ℕ) (v w : Seated) → get_elem? views i ≡ some v → get_elem? views j ≡ some w → HasSection v q → HasSection w q → i ≡ j

-- a seat whose view keeps to its numbers
pub apart_set : (views : List Seated) (id : ℕ) (v w : Seated) → get_elem? views id ≡ some v → ((q : ℕ) → HasSection w q → HasSection v q) → Apart views → Apart (set views id w)
apart_set views id v w here owns apart i j q x y a b ox oy = ⊎_elim
    (λ (s : (i ≡ id) × (w ≡ x)). ⊎_elim
    (λ (t : (j ≡ id) × (w ≡ y)). s.0 ∙ sym t.0)
    (λ (t : (j ≢ id) × (get_elem? views j ≡ some y)). s.0 ∙ apart id j q v y here t.1 (owns q (subst (λ z. HasSection z q) (sym s.1) ox)) oy)
    (at_set views id j w y b))
    (λ (s : (i ≢ id) × (get_elem? views i ≡ some x)). ⊎_elim
    (λ (t : (j ≡ id) × (w ≡ y)). apart i id q x v s.1 here ox (owns q (subst (λ z. HasSection z q) (sym t.1) oy)) ∙ sym t.0)
    (λ (t : (j ≢ id) × (get_elem? views j ≡ some y)). apart i j q x y s.1 t.1 ox oy)
    (at_set views id j w y b))
    (at_set views id i w x a)

-- What a step makes of the table: the words, the run, and what the owner knows, which is true then. What the others know stays true.
pub record Makes (count : ℕ) (k : SectionKnowledge) (run next : List SectionEvent) (words : List ℕ) (was : ℕ) (j : SectionKnowledge) : Type 0 where
  pub lawful : IsLawfulRun next
  pub shows : ShowsRun count next words
  pub number : j.number ≡ k.number
  pub mine : IsTrueOfRun count (get_or words EXTENT 0) next (Owner j)
  pub others : (v : Seated) → ¬ HasSection v k.number → IsTrueOfRun count was run v → IsTrueOfRun count (get_or words EXTENT 0) next v

module _ {S : Type 0} (count slots id i : ℕ) (k : SectionKnowledge) (f : ℕ → ℕ) (Then : ℕ → Seated → Type 0) where
  abbrev pub Makes_here : State S Seated → List SectionEvent → List SectionEvent → SectionKnowledge → Type 0
  Makes_here s run next j = Makes count k run next (set s.words i (f (get_or s.words i 0))) (get_or s.words EXTENT 0) j

  -- the step keeps the rule, and tells what it is to tell
  pub allows : ((s : State S Seated) (r : SectionsRuled count s) → IsTrueOfRun count (get_or s.words EXTENT 0) r.run (Owner k) →
      (next : List SectionEvent) × (j : SectionKnowledge) × Makes_here s r.run next j × Then (get_or s.words i 0) (Owner j))
      → Allows {S = S} {V = Seated} (SectionsRuled count) slots id (Owner k, []) i f (λ n m'. (m'.1 ≡ []) × Then n m'.0)
  allows go s r deep here low =
      let (next, j, makes, tells) = go s r (r.knows id (Owner k) here) in (
        Owner j,
        table.keeps,
        tt,
        record {
          run = next;
          lawful = makes.lawful;
          shows = makes.shows;
          knows = λ m v e. ⊎_elim
              (λ (h : (m ≡ id) × (Owner j ≡ v)). subst (IsTrueOfRun count (get_or (set s.words i (f (get_or s.words i 0))) EXTENT 0) next) h.1 makes.mine)
              (λ (h : (m ≢ id) × (get_elem? s.views m ≡ some v)). makes.others v (λ o. h.0 (r.apart m id k.number v (Owner k) h.1 here o refl)) (r.knows m v h.1))
              (at_set s.views id m (Owner j) v e);
          apart = apart_set s.views id (Owner k) (Owner j) here (λ q o. sym makes.number ∙ o) r.apart;
        },
        (refl, tells),
      )

-- the same for a seat that is an owner's
pub allows_me : {S : Type 0} (count slots id i : ℕ) (key : ℕ) (me : Me S Seated) (f : ℕ → ℕ) (Then : ℕ → Seated → Seated → Type 0) → key ≡ count → me ≡ (Owner (owner_of me.0), [])
    → ((s : State S Seated) (r : SectionsRuled count s) → IsTrueOfRun count (get_or s.words EXTENT 0) r.run (Owner (owner_of me.0)) →
    (next : List SectionEvent) × (j : SectionKnowledge) × Makes_here count slots id i (owner_of me.0) f (λ n w. Then n (Owner (owner_of me.0)) w) s r.run next j × Then (get_or s.words i 0) (Owner (owner_of me.0)) (Owner j))
    → Allows {S = S} {V = Seated} (SectionsRuled key) slots id me i f (λ n m'. (m'.1 ≡ me.1) × Then n me.0 m'.0)
allows_me {S = S} count slots id i key me f Then same is go =
    subst (λ (x : ℕ). Allows {S = S} {V = Seated} (SectionsRuled x) slots id me i f (λ n m'. (m'.1 ≡ me.1) × Then n me.0 m'.0)) (sym same)
    (subst (λ (m : Me S Seated). Allows {S = S} {V = Seated} (SectionsRuled count) slots id m i f (λ n m'. (m'.1 ≡ m.1) × Then n m.0 m'.0)) (sym is)
    (allows count slots id i (owner_of me.0) f (λ n w. Then n (Owner (owner_of me.0)) w) go))

-- A load changes no word, and its owner knows of the run then
pub loads : {S : Type 0} (count i : ℕ) (k : SectionKnowledge) (s : State S Seated) (r : SectionsRuled count s) → IsTrueOfRun count (get_or s.words EXTENT 0) r.run (Owner k) →
    Makes count k r.run r.run (set s.words i (get_or s.words i 0)) (get_or s.words EXTENT 0) (record k { run = r.run })
loads count i k s r knows =
    subst (λ (ws : List ℕ). Makes count k r.run r.run ws (get_or s.words EXTENT 0) (record k { run = r.run })) (sym (set-get_or s.words i 0))
    (record { lawful = r.lawful; shows = r.shows; number = refl; mine = (knows.0, others_none k.number r.run, knows.2); others = λ v other h. h })

pub finds : {S : Type 0} (count slots id i key : ℕ) (me : Me S Seated) (Found : ℕ → SectionKnowledge → List SectionEvent → Type 0) → key ≡ count → me ≡ (Owner (owner_of me.0), [])
    → ((s : State S Seated) (r : SectionsRuled count s) → (owner_of me.0).count ≡ count → Found (get_or s.words i 0) (owner_of me.0) r.run)
    → Allows {S = S} {V = Seated} (SectionsRuled key) slots id me i (λ n. n) (λ n m'. (m'.1 ≡ me.1) × Finds (Found n) me.0 m'.0)
finds {S = S} count slots id i key me Found same is tells =
    let k : SectionKnowledge = owner_of me.0 in
    allows_me count slots id i key me (λ n. n) (λ n v w. Finds (Found n) v w) same is
    (λ s r knows. (r.run, record k { run = r.run }, loads count i k s r knows, (r.run, refl, knows.1, r.lawful, tells s r knows.0)))
