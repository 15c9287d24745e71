-- The steps that change a word: each keeps the rule.
use Rattle.std.proofs.Common.{◌≡◌, ◌≢◌, ◌+◌, ◌-◌, ◌<◌, ◌≤◌, ℕ, List, [], ◌∷◌, set, get_or, length, max, Bool, true, false, eqb, if◌then◌else◌, refl, sym, ap, subst, ◌∙◌, ⊎_elim, arith}
use Rattle.std.proofs.lemmas.Bool.{cases_lt}
use Rattle.std.proofs.lemmas.Bool.Decides.{eqb_tells}
use Rattle.std.proofs.lemmas.List.{get_or-set_other, get_or-set_same, length-set, set-get_or}
use Rattle.std.proofs.Math.Nat.{le-max_left, le-max_right, max-le}
use prog.Atomic.{either}
use Rattle.atomic_table.specs.Table.{State, Me, Allows}
use Rattle.sections.specs.declared.events.SectionEvent.{SectionEvent}
use Rattle.sections.specs.declared.events.SectionEvent.TheVariants.{Entered, Left, Taken}
use Rattle.sections.specs.declared.events.SectionKnowledge.{SectionKnowledge}
use Rattle.sections.specs.declared.events.Seated.{Seated}
use Rattle.sections.specs.declared.events.Seated.TheVariants.{Dealer, Owner}
use Rattle.sections.specs.declared.table.TheConstants.{MOMENTS, MOST_MOMENTS, EXTENT}
use Rattle.sections.specs.Rule.{Counted, EventHappens, HasSection, IsOwners, IsTrueOfRun, SectionsRuled, Takes, owner_of, section_place, sections_words}
use Rattle.sections.specs.Runs.{HasNoneOf, MayFollow, moments_in, word_in}
use Rattle.sections.proofs.Runs.{moments_grow, none_append, others_more, others_none, word_kept, word_never, word_own, word_stays}
use Rattle.sections.proofs.Rule.{Makes, allows_me}

-- The extent takes a section in

further : (count was extent : ℕ) (run : List SectionEvent) (v : Seated) → was ≤ extent → IsTrueOfRun count was run v → IsTrueOfRun count extent run v
further count was extent run (Dealer next n) more h = h
further count was extent run (Owner l) more h = (h.0, h.1, λ c. let low : l.number < was = h.2 c in omega arith)

counts_in : {S : Type 0} (count q : ℕ) (k : SectionKnowledge) (s : State S Seated) (r : SectionsRuled count s) → IsTrueOfRun count (get_or s.words EXTENT 0) r.run (Owner k) → k.number ≡ q → q < k.count →
    Makes count k r.run r.run (set s.words EXTENT (max (get_or s.words EXTENT 0) (q + 1))) (get_or s.words EXTENT 0) (record k { counted = true; run = r.run })
counts_in count q k s r knows is low =
    let extent : ℕ = get_or s.words EXTENT 0 in
    let more : ℕ = max extent (q + 1) in
    let size : length s.words ≡ sections_words count = r.shows.size in
    let same : k.count ≡ count = knows.0 in
    let now : get_or (set s.words EXTENT more) EXTENT 0 ≡ more = get_or-set_same s.words EXTENT more 0 (omega arith) in
    let grown : extent ≤ more = le-max_left extent (q + 1) in
    let taken : q + 1 ≤ more = le-max_right extent (q + 1) in
    record {
      lawful = r.lawful;
      shows = record {
        size = length-set s.words EXTENT more ∙ r.shows.size;
        moments = get_or-set_other s.words EXTENT MOMENTS more 0 (λ e. omega arith) ∙ r.shows.moments;
        extent = subst (λ z. z ≤ count) (sym now) (max-le r.shows.extent (omega arith));
        each = λ p in_table. get_or-set_other s.words EXTENT (section_place p) more 0 (λ e. omega arith) ∙ r.shows.each p in_table;
        beyond = λ p high. let above : more ≤ p = subst (λ z. z ≤ p) now high in r.shows.beyond p (omega arith);
      };
      number = refl;
      mine = (knows.0, others_none k.number r.run, λ c. subst (λ z. k.number < z) (sym now) (omega arith));
      others = λ v other h. subst (λ z. IsTrueOfRun count z r.run v) (sym now) (further count extent more r.run v grown h);
    }

pub counts : {S : Type 0} (count slots id key q : ℕ) (me : Me S Seated) (on : Bool) (word : ℕ) → key ≡ count → IsOwners me q on word →
    Allows {S = S} {V = Seated} (SectionsRuled key) slots id me EXTENT (λ n. max n (q + 1)) (λ n m'. (m'.1 ≡ me.1) × Counted me.0 m'.0)
counts {S = S} count slots id key q me on word same own =
    let k : SectionKnowledge = owner_of me.0 in
    allows_me count slots id EXTENT key me (λ n. max n (q + 1)) (λ n v w. Counted v w) same own.0
    (λ s r knows. (r.run, record k { counted = true; run = r.run }, counts_in count q k s r knows own.1 own.4, (r.run, refl, knows.1)))

-- An event of one section

others_own : (count p extent : ℕ) (e : SectionEvent) (run : List SectionEvent) (v : Seated) → ((q : ℕ) → p ≢ q → HasNoneOf q (e ∷ [])) → ¬ HasSection v p → IsTrueOfRun count extent run v → IsTrueOfRun count extent (e ∷ run) v
others_own count p extent e run (Dealer next n) apart other h =
    (h.0, λ q high. none_append q (e ∷ []) run (apart q (λ same. other (omega arith))) (h.1 q high))
others_own count p extent e run (Owner l) apart other h = (h.0, others_more l.number l.run run e (apart l.number (λ same. other (sym same))) h.1, h.2)

acts : {S : Type 0} (count p place w : ℕ) (e : SectionEvent) (k : SectionKnowledge) (s : State S Seated) (r : SectionsRuled count s) → IsTrueOfRun count (get_or s.words EXTENT 0) r.run (Owner k) →
    k.number ≡ p → p < k.count → p < get_or s.words EXTENT 0 → place ≡ section_place p → MayFollow r.run e → ((q : ℕ) → p ≢ q → HasNoneOf q (e ∷ [])) → word_in p (e ∷ r.run) ≡ w → moments_in (e ∷ r.run) ≡ moments_in r.run →
    Makes count k r.run (e ∷ r.run) (set s.words place w) (get_or s.words EXTENT 0) (record k { run = e ∷ r.run })
acts count p place w e k s r knows is low within at may apart own still =
    let extent : ℕ = get_or s.words EXTENT 0 in
    let size : length s.words ≡ sections_words count = r.shows.size in
    let same : k.count ≡ count = knows.0 in
    let now : get_or (set s.words place w) EXTENT 0 ≡ extent = get_or-set_other s.words place EXTENT w 0 (λ x. omega arith) in
    record {
      lawful = (may, r.lawful);
      shows = record {
        size = length-set s.words place w ∙ r.shows.size;
        moments = get_or-set_other s.words place MOMENTS w 0 (λ x. omega arith) ∙ (r.shows.moments ∙ sym still);
        extent = subst (λ z. z ≤ count) (sym now) r.shows.extent;
        each = λ q in_table. ⊎_elim
            (λ (t : (eqb p q ≡ true) × (p ≡ q)). subst (λ z. get_or (set s.words place w) (section_place z) 0 ≡ word_in z (e ∷ r.run)) t.1
            (subst (λ z. get_or (set s.words place w) z 0 ≡ word_in p (e ∷ r.run)) at (get_or-set_same s.words place w 0 (omega arith) ∙ sym own)))
            (λ (t : (eqb p q ≡ false) × (p ≢ q)).
            let ne = t.1 in
            let off : section_place q ≢ place = λ x. ne (omega arith) in
            get_or-set_other s.words place (section_place q) w 0 off ∙ (r.shows.each q in_table ∙ sym (word_stays q (e ∷ []) r.run (apart q t.1))))
            (eqb_tells p q);
        beyond = λ q high. let above : extent ≤ q = subst (λ z. z ≤ q) now high in none_append q (e ∷ []) r.run (apart q (λ x. omega arith)) (r.shows.beyond q above);
      };
      number = refl;
      mine = (knows.0, others_none k.number (e ∷ r.run), λ c. subst (λ z. k.number < z) (sym now) (knows.2 c));
      others = λ v other h. subst (λ z. IsTrueOfRun count z (e ∷ r.run) v) (sym now) (others_own count p extent e r.run v apart (λ o. other (subst (HasSection v) (sym is) o)) h);
    }

pub enters : {S : Type 0} (count slots id key q place word : ℕ) (me : Me S Seated) → key ≡ count → IsOwners me q true 0 → place ≡ section_place q → 0 < word → word - 1 ≤ moments_in (owner_of me.0).run →
    Allows {S = S} {V = Seated} (SectionsRuled key) slots id me place (λ n. word) (λ n m'. (m'.1 ≡ me.1) × EventHappens (λ k run. Entered k.number (word - 1) ∷ run) me.0 m'.0)
enters {S = S} count slots id key q place word me same own at more few =
    let k : SectionKnowledge = owner_of me.0 in
    allows_me count slots id place key me (λ n. word) (λ n v w. EventHappens (λ j run. Entered j.number (word - 1) ∷ run) v w) same own.0
    (λ s r knows.
    let e : SectionEvent = Entered k.number (word - 1) in
    let grown : moments_in k.run ≤ moments_in r.run = moments_grow k.number k.run r.run knows.1 in
    let was : word_in k.number r.run ≡ 0 = word_kept k.number k.run r.run knows.1 ∙ (ap (λ z. word_in z k.run) own.1 ∙ own.3) in
    let low : k.number < k.count = subst (λ z. z < k.count) (sym own.1) own.4 in (
      e ∷ r.run,
      record k { run = e ∷ r.run },
      acts count k.number place word e k s r knows refl low (knows.2 own.2) (at ∙ ap section_place (sym own.1)) (was, omega arith) (λ p ne. (ne, tt))
          (word_own (word - 1 + 1) (word_in k.number r.run) k.number ∙ omega arith) refl,
      (r.run, refl, knows.1),
    ))

pub leaves : {S : Type 0} (count slots id key q place : ℕ) (me : Me S Seated) (on : Bool) (word : ℕ) → key ≡ count → IsOwners me q on word → 0 < word → place ≡ section_place q →
    Allows {S = S} {V = Seated} (SectionsRuled key) slots id me place (λ n. 0) (λ n m'. (m'.1 ≡ me.1) × EventHappens (λ k run. Left k.number ∷ run) me.0 m'.0)
leaves {S = S} count slots id key q place me on word same own opened at =
    let k : SectionKnowledge = owner_of me.0 in
    allows_me count slots id place key me (λ n. 0) (λ n v w. EventHappens (λ j run. Left j.number ∷ run) v w) same own.0
    (λ s r knows.
    let e : SectionEvent = Left k.number in
    let was : word_in k.number r.run ≡ word = word_kept k.number k.run r.run knows.1 ∙ (ap (λ z. word_in z k.run) own.1 ∙ own.3) in
    let low : k.number < k.count = subst (λ z. z < k.count) (sym own.1) own.4 in
    let within : k.number < get_or s.words EXTENT 0 = ⊎_elim (λ h. h) (λ (h : get_or s.words EXTENT 0 ≤ k.number). let never : word_in k.number r.run ≡ 0 = word_never k.number r.run (r.shows.beyond k.number h) in absurd (omega arith))
    (cases_lt k.number (get_or s.words EXTENT 0)) in (
      e ∷ r.run,
      record k { run = e ∷ r.run },
      acts count k.number place 0 e k s r knows refl low within (at ∙ ap section_place (sym own.1)) (omega arith) (λ p ne. (ne, tt)) (word_own 0 (word_in k.number r.run) k.number) refl,
      (r.run, refl, knows.1),
    ))

-- A moment is taken

others_taken : (count extent : ℕ) (run : List SectionEvent) (v : Seated) → IsTrueOfRun count extent run v → IsTrueOfRun count extent (Taken ∷ run) v
others_taken count extent run (Dealer next n) h = (h.0, λ q high. h.1 q high)
others_taken count extent run (Owner l) h = (h.0, others_more l.number l.run run Taken tt h.1, h.2)

takes_in : {S : Type 0} (count expected : ℕ) (k : SectionKnowledge) (s : State S Seated) (r : SectionsRuled count s) → IsTrueOfRun count (get_or s.words EXTENT 0) r.run (Owner k) → expected < MOST_MOMENTS → (b : Bool) → eqb (get_or s.words MOMENTS 0) expected ≡ b
    → ((b ≡ true) → get_or s.words MOMENTS 0 ≡ expected) → let next : List SectionEvent = if b then Taken ∷ r.run else r.run in
    Makes count k r.run next (set s.words MOMENTS (either b (expected + 1) (get_or s.words MOMENTS 0))) (get_or s.words EXTENT 0) (record k { run = next })
takes_in count expected k s r knows few false is hit =
    subst (λ (ws : List ℕ). Makes count k r.run r.run ws (get_or s.words EXTENT 0) (record k { run = r.run })) (sym (set-get_or s.words MOMENTS 0))
    (record { lawful = r.lawful; shows = r.shows; number = refl; mine = (knows.0, others_none k.number r.run, knows.2); others = λ v other h. h })
takes_in count expected k s r knows few true is hit =
    let size : length s.words ≡ sections_words count = r.shows.size in
    let word : get_or s.words MOMENTS 0 ≡ moments_in r.run = r.shows.moments in
    let found : get_or s.words MOMENTS 0 ≡ expected = hit refl in
    let extent : ℕ = get_or s.words EXTENT 0 in
    let now : get_or (set s.words MOMENTS (expected + 1)) EXTENT 0 ≡ extent = get_or-set_other s.words MOMENTS EXTENT (expected + 1) 0 (λ x. omega arith) in
    record {
      lawful = (omega arith, r.lawful);
      shows = record {
        size = length-set s.words MOMENTS (expected + 1) ∙ r.shows.size;
        moments = get_or-set_same s.words MOMENTS (expected + 1) 0 (omega arith) ∙ omega arith;
        extent = subst (λ z. z ≤ count) (sym now) r.shows.extent;
        each = λ q in_table. get_or-set_other s.words MOMENTS (section_place q) (expected + 1) 0 (λ x. omega arith) ∙ r.shows.each q in_table;
        beyond = λ q high. r.shows.beyond q (subst (λ z. z ≤ q) now high);
      };
      number = refl;
      mine = (knows.0, others_none k.number (Taken ∷ r.run), λ c. subst (λ z. k.number < z) (sym now) (knows.2 c));
      others = λ v other h. subst (λ z. IsTrueOfRun count z (Taken ∷ r.run) v) (sym now) (others_taken count extent r.run v h);
    }

hits : (n m : ℕ) → eqb n m ≡ true → n ≡ m
hits n m e = ⊎_elim (λ (t : (eqb n m ≡ true) × (n ≡ m)). t.1) (λ (t : (eqb n m ≡ false) × (n ≢ m)). let no = t.0 in absurd (cc)) (eqb_tells n m)

pub takes : {S : Type 0} (count slots id key expected : ℕ) (me : Me S Seated) → key ≡ count → me ≡ (Owner (owner_of me.0), []) → expected < MOST_MOMENTS →
    Allows {S = S} {V = Seated} (SectionsRuled key) slots id me MOMENTS (λ n. either (eqb n expected) (expected + 1) n) (λ n m'. (m'.1 ≡ me.1) × Takes expected n me.0 m'.0)
takes {S = S} count slots id key expected me same is few =
    let k : SectionKnowledge = owner_of me.0 in
    allows_me count slots id MOMENTS key me (λ n. either (eqb n expected) (expected + 1) n) (λ n v w. Takes expected n v w) same is
    (λ s r knows.
    let n : ℕ = get_or s.words MOMENTS 0 in
    let next : List SectionEvent = if eqb n expected then Taken ∷ r.run else r.run in
    (next, record k { run = next }, takes_in count expected k s r knows few (eqb n expected) refl (hits n expected), (r.run, refl, knows.1, r.shows.moments)))
