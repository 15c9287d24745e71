-- A publish appends one change and one version, and no other step does anything to either.
use Rattle.rowex_core.proofs.Common.{◌≡◌, ℕ, suc, Bool, true, false, if◌then◌else◌, nat_eq, Option, Some, None, refl, arith, Rec, Shared, Fate, Free, Unlinked, Marked, with_fate, with_lock, with_epoch, version_old}
use Rattle.rowex_core.specs.declared.event.Act.TheVariants.{Claim, Lock, Unlock, Publish, Mark, Advance, GiveBack, Load}
use Rattle.rowex_core.specs.declared.event.Target.TheVariants.{Anchor, Node as NodeTarget}
use Rattle.rowex_core.specs.Events.{claimed, marked, given_back, anchored, locked_where, advanced, next_tree, next_change}
use Rattle.rowex_core.specs.Statements.{EachActAppends}

-- neither the changes nor the versions are others
abbrev Leaves : Shared → Shared → Type 0
Leaves s t = (t.changes ≡ s.changes) × (t.past ≡ s.past)

either_leaves : (b : Bool) (s t : Shared) → Leaves s t → Leaves s (if b then t else s)
either_leaves true s t h = h
either_leaves false s t h = (refl, refl)

claimed_leaves : (s : Shared) (q : ℕ) (r : Rec) (f : Fate) → Leaves s (claimed s q r f)
claimed_leaves s q r Free = (refl, refl)
claimed_leaves s q r _ = (refl, refl)

marked_leaves : (s : Shared) (r : Rec) (epoch : ℕ) (f : Fate) → Leaves s (marked s r epoch f)
marked_leaves s r epoch (Unlinked since last q) = (refl, refl)
marked_leaves s r epoch _ = (refl, refl)

given_leaves : (s : Shared) (r : Rec) (epoch : ℕ) (f : Fate) → Leaves s (given_back s r epoch f)
given_leaves s r epoch (Marked since last m) = either_leaves (nat_eq m epoch) s (with_fate s r Free) (refl, refl)
given_leaves s r epoch _ = (refl, refl)

anchored_leaves : (s : Shared) (q : ℕ) (o : Option ℕ) → Leaves s (anchored s q o)
anchored_leaves s q None = (refl, refl)
anchored_leaves s q (Some p) = (refl, refl)

locked_leaves : (s : Shared) (n q found : ℕ) → Leaves s (locked_where s n q found)
locked_leaves s n q found = either_leaves (nat_eq found 2) s (with_lock s n (Some q)) (refl, refl)

advanced_leaves : (s : Shared) (expected : ℕ) → Leaves s (advanced s expected)
advanced_leaves s expected = either_leaves (nat_eq s.epoch expected) s (with_epoch s (suc s.epoch)) (refl, refl)

pub only_publish_appends : EachActAppends
only_publish_appends c q (Publish spot w) = (next_change c q spot w, refl, refl, λ n h. version_old c.past.version (suc c.past.now) (next_tree c spot w) n (omega arith))
only_publish_appends c q (Claim r found) = claimed_leaves c.shared q r (c.fate r)
only_publish_appends c q (Lock Anchor found) = anchored_leaves c.shared q c.anchor
only_publish_appends c q (Lock (NodeTarget n) found) = locked_leaves c.shared n q found
only_publish_appends c q (Unlock Anchor) = (refl, refl)
only_publish_appends c q (Unlock (NodeTarget n)) = (refl, refl)
only_publish_appends c q (Mark r epoch) = marked_leaves c.shared r epoch (c.fate r)
only_publish_appends c q (Advance expected found) = advanced_leaves c.shared expected
only_publish_appends c q (GiveBack r epoch found) = given_leaves c.shared r epoch (c.fate r)
only_publish_appends c q (Load load) = (q, refl, refl)
only_publish_appends c q _ = (refl, refl)
