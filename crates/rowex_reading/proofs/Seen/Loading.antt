-- What one load teaches a pinned pass.
use Rattle.rowex_reading.proofs.Common.{◌≡◌, ℕ, List, ◌+◌, ◌≤◌, [], ◌∷◌, ◌++◌, length, Option, Some, None, IsSome, refl, ap, sym, ◌∙◌, subst, le_trans, All, All-head, Layout, Tree, Pin, Rec, a_node, a_leaf, LoadRef, LoadFixed, Root, Slot, Value, Fact, Rooted, Placed, Fixed, Valued, Fresh, Loaded, Known, VALUE_OFFSET, Core, IsLawful, IsFact, HoldsIfStood, StoodAs, StoodBetween, Recalls, IsEvent, facts_with, version_of, entry_of, record_word, silent, IsLater}
use Rattle.rowex_reading.specs.Seen.{seen}
use Rattle.rowex_reading.proofs.Seen.{seen_grown, stands_in, stands_seen}
use Rattle.rowex_reading.proofs.Seen.Later.{event_later}

-- One load of a pass that is pinned, at this core: the pass knew k, knows j then, and j has the fact.
pub record IsTaught (core : Core) (found : Fact) (k j : Known) : Type 0 where
  pub later : IsLater k j
  pub front : j.front ≡ core.changes
  pub fact : (c : Core) → Recalls c j → IsFact c.past found

taught : (core : Core) (k j : Known) (p : Pin) (f : ℕ → Fact) (fresh : Fresh) (values : List Loaded) → k.pin ≡ Some p → IsLater k j →
    j ≡ record k { front = core.changes; fresh = fresh; facts = facts_with k.pin f k.facts; values = values; steps = k.steps + 1; notes = k.notes ++ [] } → IsTaught core (f p.version) k j
taught core k j p f fresh values pinned later is = record {
  later = later;
  front = ap (λ (z : Known). z.front) is;
  fact = λ c h. All-head (IsFact c.past) (f p.version) k.facts (subst (All (IsFact c.past)) facts_are h.facts);
}
  where
    facts_are : j.facts ≡ f p.version ∷ k.facts
    facts_are = ap (λ (z : Known). z.facts) is ∙ ap (λ (o : Option Pin). facts_with o f k.facts) pinned

module _ (layout : Layout) (k j : Known) (p : Pin) (pinned : k.pin ≡ Some p) where
  pub root_taught : (w : ℕ) (e : IsEvent layout (LoadRef Root w) silent k j) → IsTaught e.core (Rooted p.version e.core.past.now e.core.root) k j
  root_taught w e =
      taught e.core k j p (λ since. Rooted since e.core.past.now e.core.root) (record { front = e.core.changes; step = k.steps; pinned = version_of k.pin }) k.values pinned (event_later e tt) e.learned_is

  pub slot_taught : (n i w : ℕ) (e : IsEvent layout (LoadRef (Slot n i) w) silent k j) →
      IsTaught e.core (Placed p.version e.core.past.now n i (entry_of (record_word e.core (a_node n) (26 + i)))) k j
  slot_taught n i w e =
      taught e.core k j p (λ since. Placed since e.core.past.now n i (entry_of (record_word e.core (a_node n) (26 + i)))) k.fresh k.values pinned (event_later e tt) e.learned_is

  pub value_taught : (l w : ℕ) (e : IsEvent layout (LoadRef (Value l) w) silent k j) → IsTaught e.core (Valued p.version e.core.past.now l w) k j
  value_taught l w e = subst (λ z. IsTaught e.core (Valued p.version e.core.past.now l z) k j) (sym e.legal.1.1)
      (taught e.core k j p (λ since. Valued since e.core.past.now l (record_word e.core (a_leaf l) VALUE_OFFSET)) k.fresh
      (record { leaf = l; value = record_word e.core (a_leaf l) VALUE_OFFSET } ∷ k.values) pinned (event_later e tt) e.learned_is)

  pub fixed_taught : (r : Rec) (offset w : ℕ) (e : IsEvent layout (LoadFixed r offset w) silent k j) → IsTaught e.core (Fixed p.version e.core.past.now r offset w) k j
  fixed_taught r offset w e =
      taught e.core k j p (λ since. Fixed since e.core.past.now r offset w) k.fresh k.values pinned (event_later e tt) e.learned_is

-- the load was at the newest version that the pass has seen then
pub taught_now : {core : Core} {fact : Fact} {k j : Known} → IsLawful core → IsTaught core fact k j → length j.front ≡ core.past.now
taught_now lawful t = ap length t.front ∙ lawful.core.told.count

-- what the load found of a record that stood before: it stood so in a version that the pass has seen
pub found_seen : (core c : Core) (k j : Known) (p m : ℕ) (r : Rec) (P : Tree → Type 0) → length j.front ≡ core.past.now → IsLater k j → p ≤ m →
    StoodBetween (seen c k) m (length k.front) r → HoldsIfStood c.past p core.past.now r P → StoodAs (seen c j) m (length j.front) r P
found_seen core c k j p m r P now later low (o, u, lo, hi, st) found =
    let f = found m low (o, u, lo, subst (λ z. o ≤ z) now (le_trans hi (seen_grown c later).longer), stands_in c k st) in
    (f.0, f.1, f.2, subst (λ z. f.0 ≤ z) (sym now) f.3, stands_seen c j f.4, f.5)

-- the pin of a pinned pass
pub pinned_by : (o : Option Pin) → IsSome o → (p : Pin) × (o ≡ Some p)
pinned_by None h = absurd (let e : ⊥ = cc in e)
pinned_by (Some p) h = (p, refl)
