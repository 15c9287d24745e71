-- What a pass is sure of, and what stays so while it loads.
pub mod Later
pub mod Led
pub mod Loading
pub mod Naming
pub mod Standing
pub mod Valuing
use Rattle.rowex_reading.proofs.Common.{◌≡◌, inl, inr, ℕ, suc, zero, ◌≤◌, List, [], ◌∷◌, ◌++◌, length, take, refl, ap, sym, ◌∙◌, arith, le_trans, bit_of, leads_to, HeadView, NodeView, IsLawfulNode, head_of, leaves, node_of, piece, Entry, Change, map_of, Key, spot, leads_spot, Subtrie, Tree, Rec, Past, Stands, IsHeldSince, WasAbsentSince, IsLed, KeepsFixedWordsSince, rec_of, pin_version, TellChanges, stands_grown, steady, reach_later, Known, Core, IsLawful, Recalls, IsPinnedSince, EntryStoodSince, IsRooted, IsPlaced, HadShapeSince, IsRead, IsBlank, IsLater, view}
use Rattle.std.proofs.lemmas.List.{length-append}
use Rattle.finite_map.proofs.Fronts.{legal_front_part, others_none}
use Rattle.versions.specs.Frames.{IsGrown}
use Rattle.version_laws.proofs.Scan.Persist.{rooted_grown, placed_grown, shaped_grown, read_grown}
use Rattle.rowex_reading.specs.Seen.{seen, shape_of, Sure, HasMorePlaces}
pub use Rattle.rowex_table.proofs.Made.ActsBefore.{later_trans, recalls_before}

-- Later on

pub later_reflexive : (k : Known) → IsLater k k
later_reflexive k = record { pass = refl; pin = refl; front = others_none k.pass k.front; facts = λ s h. h }

-- the versions that it has seen become more
pub seen_grown : {k j : Known} (c : Core) → IsLater k j → IsGrown (seen c k) (seen c j)
seen_grown {k} {j} c l = record { longer = omega (arith, ap length l.front.1, length-append k.front l.front.0); kept = λ n a. refl }

-- What a pass is sure of

-- what holds of a past holds of each longer one
abbrev pub IsStable : (Past → Type 0) → Type 0
IsStable P = (a b : Past) → IsGrown a b → P a → P b

pub sure_later : {P : Past → Type 0} {k j : Known} → IsStable P → IsLater k j → Sure k P → Sure j P
sure_later {P} {k} {j} stable l sure c lawful recalls = stable (seen c k) (seen c j) (seen_grown c l) (sure c lawful (recalls_before l recalls))

pub sure_map : {P Q : Past → Type 0} {k : Known} → ((s : Past) → P s → Q s) → Sure k P → Sure k Q
sure_map f sure c lawful recalls = f _ (sure c lawful recalls)

pub since_later : {m : ℕ} {k j : Known} → IsLater k j → IsPinnedSince k m → IsPinnedSince j m
since_later l (p, is, low) = (p, l.pin ∙ is, low)

-- The versions that a pass has seen are those of the core up to one of them

pub seen_within : {c : Core} {k : Known} → IsLawful c → Recalls c k → length k.front ≤ c.past.now
seen_within {c} {k} lawful recalls = omega (arith, lawful.core.told.count, ap length recalls.front.1, length-append k.front recalls.front.0)

pub seen_past : {c : Core} {k : Known} → IsLawful c → Recalls c k → IsGrown (seen c k) c.past
seen_past lawful recalls = record { longer = seen_within lawful recalls; kept = λ n a. refl }

pub stands_in : (c : Core) (k : Known) {n : ℕ} {r : Rec} {u : Tree} → Stands (seen c k) n r u → Stands c.past n r u
stands_in c k st = record { tree = st.tree; is_version = st.is_version; within = st.within; is_record = st.is_record }

pub stands_seen : (c : Core) (k : Known) {n : ℕ} {r : Rec} {u : Tree} → Stands c.past n r u → Stands (seen c k) n r u
stands_seen c k st = record { tree = st.tree; is_version = st.is_version; within = st.within; is_record = st.is_record }

take_front : (n : ℕ) (xs ys : List Change) → n ≤ length xs → take n (xs ++ ys) ≡ take n xs
take_front zero xs ys h = refl
take_front (suc n) [] ys h = absurd (omega arith)
take_front (suc n) (x ∷ xs) ys h = ap (λ z. x ∷ z) (take_front n xs ys (omega arith))

-- its front tells them
pub seen_told : {c : Core} {k : Known} → IsLawful c → Recalls c k → TellChanges (seen c k) k.front
seen_told {c} {k} lawful recalls = record {
  count = refl;
  content_is = λ n h. lawful.core.told.content_is n (le_trans h (seen_within lawful recalls)) ∙
      ap map_of (ap (take n) recalls.front.1 ∙ take_front n k.front recalls.front.0 h);
  legal = legal_front_part k.front c.changes (recalls.front.0, recalls.front.1) lawful.core.told.legal;
}

-- and since its pin the records keep their fixed words
pub seen_steady : {c : Core} {k : Known} {m : ℕ} → IsLawful c → Recalls c k → IsPinnedSince k m → KeepsFixedWordsSince (seen c k) m
seen_steady {c} {k} {m} lawful recalls (p, is, low) = record {
  trees = λ n t h e. all.trees n t (le_trans h within) e;
  same = λ r n o u v a b d e x y. all.same r n o u v a (le_trans b within) d (le_trans e within) (stands_in c k x) (stands_in c k y);
}
  where
    within : length k.front ≤ c.past.now
    within = seen_within lawful recalls

    all : KeepsFixedWordsSince c.past m
    all = steady (view c) lawful.core.state m (reach_later (view c) p.version m low (lawful.core.state.reach k.pass p.version (ap pin_version (recalls.pin ∙ is))))

-- What stays true as the past grows

pub seen_stable : (m : ℕ) (e : Entry) → IsStable (λ s. EntryStoodSince s m e)
seen_stable m e a b g (n, u, lo, hi, st, pg) = (n, u, lo, le_trans hi g.longer, stands_grown a b g n (rec_of e) u hi st, pg)

pub rooted_stable : (m : ℕ) (e : Entry) → IsStable (λ s. IsRooted s m e)
rooted_stable m e a b g h = rooted_grown a b g m e h

pub placed_stable : (m r j : ℕ) (e : Entry) → IsStable (λ s. IsPlaced s m r j e)
placed_stable m r j e a b g h = placed_grown a b g m r j e h

pub shaped_stable : (m r : ℕ) (p : Subtrie) → IsStable (λ s. HadShapeSince s m r p)
shaped_stable m r p a b g h = shaped_grown a b g m r p h

pub room_stable : (m r i : ℕ) → IsStable (λ s. HasMorePlaces s m r i)
room_stable m r i a b g (x, shaped, low) = (x, shaped_stable m r x a b g shaped, low)

pub read_stable : (m r : ℕ) (k : Key) (v : ℕ) → IsStable (λ s. IsRead s m r k v)
read_stable m r k v a b g h = read_grown a b g m r k v h

pub blank_stable : (m : ℕ) → IsStable (λ s. IsBlank s m)
blank_stable m a b g (n, lo, hi, e) = (n, lo, le_trans hi g.longer, g.kept n hi ∙ e)

pub held_stable : (m : ℕ) (k : Key) (v : ℕ) → IsStable (λ s. IsHeldSince s m k v)
held_stable m k v a b g (n, t, lo, hi, e, h) = (n, t, lo, le_trans hi g.longer, g.kept n hi ∙ e, h)

pub missed_stable : (m : ℕ) (k : Key) → IsStable (λ s. WasAbsentSince s m k)
missed_stable m k a b g (n, lo, hi, absent) = (n, lo, le_trans hi g.longer, λ t e. absent t (sym (g.kept n hi) ∙ e))

pub led_stable : (m : ℕ) (k : Key) (e : Entry) → IsStable (λ s. IsLed s m k e)
led_stable m k e a b g (n, u, lo, hi, st, pg, inl follows) = (n, u, lo, le_trans hi g.longer, stands_grown a b g n (rec_of e) u hi st, pg, inl follows)
led_stable m k e a b g (n, u, lo, hi, st, pg, inr missed) = (n, u, lo, le_trans hi g.longer, stands_grown a b g n (rec_of e) u hi st, pg, inr (missed_stable m k a b g missed))

-- The place to which a search leads

-- where a node's head leads a key
pub search_spot : (head : HeadView) (k : Key) (i : ℕ) → IsLawfulNode (node_of head (leaves (length head.rows))) →
    ((node : NodeView) → IsLawfulNode node → head_of node ≡ head → i ≡ leads_to (bit_of k) (piece node)) → i ≡ spot k (shape_of head)
search_spot head k i lawful leads = leads (node_of head (leaves (length head.rows))) lawful refl ∙ leads_spot k (shape_of head)
