-- Steps that a pass may make by what it knows, and what they leave it.
use Rattle.rowex_table.proofs.Common.{◌≡◌, ℕ, ◌<◌, map, ◌^◌, List, Option, None, IsSome, refl, sym, ap, subst, ◌∙◌, arith, Contains, get_or-map, length-map, All-contains, Entry, Layout, state_word, Rec, a_node, a_leaf, Fill, Ready, Release, Unlock, Anchor, Holding, Held, Owned, Known, Core, HasRecord, HasWord, FitsIn, lock_tag, state_at, word_at, IsOffset, state_of, IsOwned, knows_all, Knows}
use Rattle.std.proofs.Common.{Some}
use Rattle.rowex_core.specs.Reading.{IsPacked}
use Rattle.rowex_table.specs.Rule.{MayStep}
use Rattle.rowex_table.specs.Rights.{OwnsAs}

pub mapped : (f : Owned → Owned) (own : List Owned) (o : Owned) → Contains own o → Contains (map f own) (f o)
mapped f own o h = (h.0, subst (λ n. h.0 < n) (sym (length-map own f)) h.1, get_or-map f own h.0 o (f o) h.1 ∙ ap f h.2)

module _ (layout : Layout) (k : Known) where
  -- Records of the pass's own

  pub own_is : (r : Rec) (h : Holding) (words : List ℕ) → OwnsAs k r h words → (c : Core) → Knows c k → IsOwned k.pass c (record { rec = r; holding = h; words = words })
  own_is r h words has c known = All-contains (IsOwned k.pass c) k.own (record { rec = r; holding = h; words = words }) (knows_all c k known).own has

  pub releases : (r : Rec) (words : List ℕ) → HasRecord layout r → OwnsAs k r Held words → MayStep layout (λ w. Release r) k
  releases r words h has c law at known = (known.pass, (subst (λ z. HasRecord z r) (sym at) h, (own_is r Held words has c known).0))

  pub fills : (r : Rec) (offset word : ℕ) (words : List ℕ) → HasRecord layout r → IsOffset r offset → word < 2 ^ 64 → HasWord layout r offset → OwnsAs k r Held words → MayStep layout (λ w. Fill r offset word) k
  fills r offset word words h o low there has c law at known = (known.pass, (subst (λ z. HasRecord z r) (sym at) h, (own_is r Held words has c known).0, o, low, subst (λ z. HasWord z r offset) (sym at) there))

  pub readies : (r : Rec) (words : List ℕ) → HasRecord layout r → OwnsAs k r Held words → IsPacked r words → FitsIn layout r words → MayStep layout (λ w. Ready r) k
  readies r words h has packed room c law at known =
      let owned = own_is r Held words has c known in
      (known.pass, (subst (λ z. HasRecord z r) (sym at) h, owned.0, subst (IsPacked r) (sym owned.1) packed, subst (λ z. FitsIn z r (c.words r)) (sym at) (subst (FitsIn layout r) (sym owned.1) room)))

  -- The anchor

  pub unlocks_anchor : IsSome k.anchor → MayStep layout (λ w. Unlock Anchor) k
  unlocks_anchor some c law at known = (known.pass, go k.anchor refl some)
    where
      go : (o : Option (Option Entry)) → k.anchor ≡ o → IsSome o → c.anchor ≡ Some k.pass
      go (Some e) is some = ((knows_all c k known).anchor e is).0
      go None is some = absurd cc

pub anchor_free : (o : Option ℕ) → state_word (lock_tag o) ≡ 2 → o ≡ None
anchor_free None e = refl
anchor_free (Some q) e = absurd (omega arith)

-- the word at which a record's state stands is its state
pub state_there : (c : Core) (r : Rec) → word_at c (state_of r) ≡ state_at c r
state_there c (a_node n) = refl
state_there c (a_leaf n) = refl
