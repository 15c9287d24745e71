-- What the lawfulness of a core says even where its proof is not at hand.
use Rattle.rowex_replay_state.proofs.Common.{◌≡◌, ◌≢◌, inl, inr, length, props, ∥∥₁_elim, Layout, Rec, a_node, a_leaf, Free, Core, IsLawful, HasRecord}

-- there is a version after each change
pub count : (c : Core) → ∥ IsLawful c ∥₁ → length c.changes ≡ c.past.now
count c h = ∥∥₁_elim h (Prim.hlevel props) (λ l. l.core.told.count)

has_record-prop : (layout : Layout) (r : Rec) → IsProp (HasRecord layout r)
has_record-prop layout (a_node n) = Prim.hlevel props
has_record-prop layout (a_leaf n) = Prim.hlevel props

-- what is not free is in the table
pub used : (c : Core) (r : Rec) → ∥ IsLawful c ∥₁ → c.fate r ≢ Free → HasRecord c.layout r
used c r h ne = ∥∥₁_elim h (has_record-prop c.layout r) (λ l. elim (l.records.used r) [ inl e ↦ absurd (ne e) | inr x ↦ x ])
