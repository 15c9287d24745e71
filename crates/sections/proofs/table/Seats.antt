-- What is known of a section after a step.
use Rattle.std.proofs.Common.{get_or, min, ◌≡◌, ◌≢◌, ◌+◌, ◌-◌, ◌<◌, ◌≤◌, ℕ, List, [], ◌∷◌, Bool, true, false, eqb, if◌then◌else◌, refl, sym, ap, subst, ◌∙◌, ⊎_elim, arith}
use Rattle.std.proofs.lemmas.Bool.Decides.{eqb_tells}
use Rattle.atomic_table.specs.Seated.{TableId}
use Rattle.atomic_table.specs.Table.{Me, State}
use Rattle.sections.specs.declared.events.SectionEvent.{SectionEvent}
use Rattle.sections.specs.declared.events.SectionEvent.TheVariants.{Entered, Left, Taken}
use Rattle.sections.specs.declared.events.SectionKnowledge.{SectionKnowledge}
use Rattle.sections.specs.declared.events.Seated.{Seated}
use Rattle.sections.specs.declared.events.Seated.TheVariants.{Owner}
use Rattle.sections.specs.declared.table.TheConstants.{MOMENTS, MOST_MOMENTS, EXTENT}
use Rattle.sections.specs.Rule.{Counted, Finds, EventHappens, IsOwners, SectionsRuled, Takes, found_moments, found_extent, found_word, owner_of}
use Rattle.sections.specs.Sections.{SectionView, TakesNext}
use Rattle.sections.specs.Runs.{HasNoneOf, IsLawfulRun, OthersRunOn, moments_in, word_in}
use Rattle.sections.proofs.Runs.{moments_bounded, moments_grow, others_more, word_kept, word_own}

module _ {S : Type 0} (me m' : Me S Seated) where
  abbrev k : SectionKnowledge
  k = owner_of me.0

  -- the seat after a load
  pub found_me : (Found : SectionKnowledge → List SectionEvent → Type 0) → me ≡ (Owner k, []) → (m'.1 ≡ me.1) × Finds Found me.0 m'.0
      → (run : List SectionEvent) × (m' ≡ (Owner (record k { run = run }), [])) × OthersRunOn k.number k.run run × IsLawfulRun run × Found k run
  found_me Found is h =
      let f = subst (λ (v : Seated). Finds Found v m'.0) (ap (λ (m : Me S Seated). m.0) is) h.1 in
      (f.0, (λ i. (f.1 i, (h.0 ∙ ap (λ (m : Me S Seated). m.1) is) i)), f.2, f.3, f.4)

  pub counted_me : me ≡ (Owner k, []) → (m'.1 ≡ me.1) × Counted me.0 m'.0 → (run : List SectionEvent) × (m' ≡ (Owner (record k { counted = true; run = run }), [])) × OthersRunOn k.number k.run run
  counted_me is h =
      let f = subst (λ (v : Seated). Counted v m'.0) (ap (λ (m : Me S Seated). m.0) is) h.1 in
      (f.0, (λ i. (f.1 i, (h.0 ∙ ap (λ (m : Me S Seated). m.1) is) i)), f.2)

  pub happened_me : (next : SectionKnowledge → List SectionEvent → List SectionEvent) → me ≡ (Owner k, []) → (m'.1 ≡ me.1) × EventHappens next me.0 m'.0
      → (before : List SectionEvent) × (m' ≡ (Owner (record k { run = next k before }), [])) × OthersRunOn k.number k.run before
  happened_me next is h =
      let f = subst (λ (v : Seated). EventHappens next v m'.0) (ap (λ (m : Me S Seated). m.0) is) h.1 in
      (f.0, (λ i. (f.1 i, (h.0 ∙ ap (λ (m : Me S Seated). m.1) is) i)), f.2)

  pub took_me : (expected told : ℕ) → me ≡ (Owner k, []) → (m'.1 ≡ me.1) × Takes expected told me.0 m'.0
      → (before : List SectionEvent) × (m' ≡ (Owner (record k { run = if eqb told expected then Taken ∷ before else before }), [])) × OthersRunOn k.number k.run before × (told ≡ moments_in before)
  took_me expected told is h =
      let f = subst (λ (v : Seated). Takes expected told v m'.0) (ap (λ (m : Me S Seated). m.0) is) h.1 in
      (f.0, (λ i. (f.1 i, (h.0 ∙ ap (λ (m : Me S Seated). m.1) is) i)), f.2, f.3)

-- a section that looks take in, and that isn't open
pub owns_closed : {S : Type 0} (me : Me S Seated) (q : ℕ) (on : Bool) (word : ℕ) → IsOwners me q on word → (owner_of me.0).counted ≡ true → ¬ (0 < word_in (owner_of me.0).number (owner_of me.0).run) → IsOwners me q true 0
owns_closed me q on word own counted out =
    let out' : ¬ (0 < word_in q (owner_of me.0).run) = λ i. out (subst (λ z. 0 < word_in z (owner_of me.0).run) (sym own.1) i) in
    (own.0, own.1, counted, omega arith, own.4)

pub owns_open : {S : Type 0} (me : Me S Seated) (q : ℕ) (on : Bool) (word : ℕ) → IsOwners me q on word → 0 < word_in (owner_of me.0).number (owner_of me.0).run → 0 < word
owns_open me q on word own inside = subst (λ z. 0 < z) (ap (λ z. word_in z (owner_of me.0).run) own.1 ∙ own.3) inside

owners_at : {S : Type 0} (me : Me S Seated) (k : SectionKnowledge) (q : ℕ) (on : Bool) (word : ℕ) → me ≡ (Owner k, []) → k.number ≡ q → k.counted ≡ on → word_in q k.run ≡ word → q < k.count → IsOwners me q on word
owners_at {S = S} me k q on word is a b c d = subst (λ (m : Me S Seated). IsOwners m q on word) (sym is) (refl, a, b, c, d)

-- the run of others leaves the word
same_word : (k : SectionKnowledge) (q word : ℕ) (run : List SectionEvent) → k.number ≡ q → word_in q k.run ≡ word → OthersRunOn k.number k.run run → word_in q run ≡ word
same_word k q word run is was others = word_kept q k.run run (subst (λ z. OthersRunOn z k.run run) is others) ∙ was

module _ {S : Type 0} (me m' : Me S Seated) (q : ℕ) (on : Bool) (word : ℕ) (own : IsOwners me q on word) where
  abbrev j : SectionKnowledge
  j = owner_of me.0

  pub owns_found : (Found : SectionKnowledge → List SectionEvent → Type 0) → (m'.1 ≡ me.1) × Finds Found me.0 m'.0 → IsOwners m' q on word
  owns_found Found h = let f = found_me me m' Found own.0 h in
      owners_at m' (record j { run = f.0 }) q on word f.1 own.1 own.2 (same_word j q word f.0 own.1 own.3 f.2) own.4

  pub owns_counted : (m'.1 ≡ me.1) × Counted me.0 m'.0 → IsOwners m' q true word
  owns_counted h = let f = counted_me me m' own.0 h in
      owners_at m' (record j { counted = true; run = f.0 }) q true word f.1 own.1 refl (same_word j q word f.0 own.1 own.3 f.2) own.4

  pub owns_entered : (w : ℕ) → 0 < w → (m'.1 ≡ me.1) × EventHappens (λ k run. Entered k.number (w - 1) ∷ run) me.0 m'.0 → IsOwners m' q on w
  owns_entered w more h = let f = happened_me me m' (λ k run. Entered k.number (w - 1) ∷ run) own.0 h in
      owners_at m' (record j { run = Entered j.number (w - 1) ∷ f.0 }) q on w f.1 own.1 own.2
      (subst (λ z. word_in q (Entered z (w - 1) ∷ f.0) ≡ w) (sym own.1) (word_own (w - 1 + 1) (word_in q f.0) q ∙ omega arith)) own.4

  pub owns_left : (m'.1 ≡ me.1) × EventHappens (λ k run. Left k.number ∷ run) me.0 m'.0 → IsOwners m' q on 0
  owns_left h = let f = happened_me me m' (λ k run. Left k.number ∷ run) own.0 h in
      owners_at m' (record j { run = Left j.number ∷ f.0 }) q on 0 f.1 own.1 own.2
      (subst (λ z. word_in q (Left z ∷ f.0) ≡ 0) (sym own.1) (word_own 0 (word_in q f.0) q)) own.4

  taken_word : (b : Bool) (run : List SectionEvent) → word_in q (if b then Taken ∷ run else run) ≡ word_in q run
  taken_word true run = refl
  taken_word false run = refl

  pub owns_taken : (expected told : ℕ) → (m'.1 ≡ me.1) × Takes expected told me.0 m'.0 → IsOwners m' q on word
  owns_taken expected told h = let f = took_me me m' expected told own.0 h in
      owners_at m' (record j { run = if eqb told expected then Taken ∷ f.0 else f.0 }) q on word f.1 own.1 own.2
      (taken_word (eqb told expected) f.0 ∙ same_word j q word f.0 own.1 own.3 f.2) own.4

-- What a load finds

tells_moments_from : (n : ℕ) (run : List SectionEvent) (k : SectionKnowledge) → n ≡ moments_in run → IsLawfulRun run → found_moments 0 n k run
tells_moments_from n run k is law = (is, subst (λ z. z ≤ MOST_MOMENTS) (sym is) (moments_bounded run law))

pub tells_moments : {S : Type 0} (count : ℕ) (k : SectionKnowledge) (s : State S Seated) (r : SectionsRuled count s) → found_moments 0 (get_or s.words MOMENTS 0) k r.run
tells_moments count k s r = tells_moments_from (get_or s.words MOMENTS 0) r.run k r.shows.moments r.lawful

pub tells_extent : {S : Type 0} (count : ℕ) (k : SectionKnowledge) (s : State S Seated) (r : SectionsRuled count s) → k.count ≡ count → found_extent 8 (get_or s.words EXTENT 0) k r.run
tells_extent count k s r same = (subst (λ z. get_or s.words EXTENT 0 ≤ z) (sym same) r.shows.extent, r.shows.beyond)

pub tells_word : {S : Type 0} (count word : ℕ) (k : SectionKnowledge) (s : State S Seated) (r : SectionsRuled count s) → k.count ≡ count → found_word word (get_or s.words word 0) k r.run
tells_word count word k s r same q is low = ap (λ z. get_or s.words z 0) is ∙ r.shows.each q (subst (λ z. q < z) same low)

pub found_beyond : {S : Type 0} (me m' : Me S Seated) (word told count : ℕ) → me ≡ (Owner (owner_of me.0), []) → (m'.1 ≡ me.1) × Finds (found_extent word told) me.0 m'.0 → (owner_of me.0).count ≡ count
    → (q : ℕ) → min told count ≤ q → HasNoneOf q (owner_of m'.0).run
found_beyond {S = S} me m' word told count is h same q high =
    let f = found_me me m' (found_extent word told) is h in
    let within : told ≤ (owner_of me.0).count = f.4.0 in
    subst (λ (m : Me S Seated). HasNoneOf q (owner_of m.0).run) (sym f.1) (f.4.1 q (omega arith))

-- The moment that was expected is not the last one any more, and others alone have made events.

others_taken : (q : ℕ) (a b : List SectionEvent) (t : Bool) → OthersRunOn q a b → OthersRunOn q a (if t then Taken ∷ b else b)
others_taken q a b true g = others_more q a b Taken tt g
others_taken q a b false g = g

pub took_others : (k : SectionKnowledge) (expected told : ℕ) (before : List SectionEvent) → OthersRunOn k.number k.run before → OthersRunOn k.number k.run (if eqb told expected then Taken ∷ before else before)
took_others k expected told before others = others_taken k.number k.run before (eqb told expected) others

pub took_more : (k : SectionKnowledge) (expected told : ℕ) (before : List SectionEvent) → OthersRunOn k.number k.run before → told ≡ moments_in before → expected ≡ moments_in k.run → expected < moments_in (if eqb told expected then Taken ∷ before else before)
took_more k expected told before others is was =
    let grown : moments_in k.run ≤ moments_in before = moments_grow k.number k.run before others in ⊎_elim
    (λ (t : (eqb told expected ≡ true) × (told ≡ expected)). subst (λ b. expected < moments_in (if b then Taken ∷ before else before)) (sym t.0) (let e = t.1 in omega arith))
    (λ (t : (eqb told expected ≡ false) × (told ≢ expected)). subst (λ b. expected < moments_in (if b then Taken ∷ before else before)) (sym t.0) (let e = t.1 in omega arith))
    (eqb_tells told expected)

pub takes_next : {S : Type 0} (expected told : ℕ) (s : SectionView) (one two : TableId) (me m' : Me S Seated) → (let was : SectionView = record { table = one; known = owner_of me.0 } in was ≡ s) → me ≡ (Owner (owner_of me.0), []) → two ≡ one
    → (m'.1 ≡ me.1) × Takes expected told me.0 m'.0 → expected ≡ moments_in s.known.run → TakesNext expected s (record { table = two; known = owner_of m'.0 })
takes_next {S = S} expected told s one two me m' view is same h was =
    let k : SectionKnowledge = owner_of me.0 in
    let f = took_me me m' expected told is h in
    let next : List SectionEvent = if eqb told expected then Taken ∷ f.0 else f.0 in
    let knows : owner_of m'.0 ≡ record k { run = next } = ap (λ (m : Me S Seated). owner_of m.0) f.1 in
    let run : (owner_of m'.0).run ≡ next = ap (λ (z : SectionKnowledge). z.run) knows in
    let old : expected ≡ moments_in k.run = was ∙ ap (λ (z : SectionView). moments_in z.known.run) (sym view) in
    subst (λ (z : SectionView). TakesNext expected z (record { table = two; known = owner_of m'.0 })) view (record {
      table = same;
      known = knows ∙ ap (λ (z : List SectionEvent). let j : SectionKnowledge = record k { run = z } in j) (sym run);
      others = subst (λ z. OthersRunOn k.number k.run z) (sym run) (took_others k expected told f.0 f.2);
      taken = subst (λ z. expected < moments_in z) (sym run) (took_more k expected told f.0 f.2 f.3 old);
    })
