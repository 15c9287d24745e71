-- A bulk load as the first step.
use Rattle.rowex_core.proofs.Common.{◌≡◌, ◌≢◌, ◌⊎◌, inl, inr, ℕ, ◌^◌, ◌<◌, ◌≤◌, ◌+◌, ◌&&◌, List, [], ◌∷◌, ◌++◌, length, map, get_or, nat_lt, Bool, true, false, if◌then◌else◌, Option, Some, None, refl, sym, ap, subst, ◌∙◌, arith, le_refl, lit<, All, none-some, All-cons, All-get_or, All-map, All-nil, get_or_past, length-map-range_with_len, cases_lt, NODE_FIELDS, LEAF_FIELDS, node_start, leaf_start, leaf_size, Change, OthersGoOn, Layout, Item, Tree, Rec, a_node, a_leaf, Fate, Free, InTree, Unlinked, Marked, IsGrown, loaded_past, loaded_by, IsLinked, at_first, is_linked, in_root, in_node, HasLockedNamer, items_of, added_change, linked_cases}
use Rattle.std.specs.List.{range_with_len}
use Rattle.versions.proofs.Loads.{load_is_lawful, loaded_first}
use Rattle.rowex_core.specs.declared.event.Spot.TheVariants.{Value}
use Rattle.rowex_core.specs.declared.known.Known.{Known}
use Rattle.rowex_core.specs.Reading.{IsPacked}
use Rattle.rowex_core.specs.Cores.{Core, IsLawful, IsPastFilling, HasRecord, FitsIn, IsSized, fields_in, bare, heap_of, holder_of}
use Rattle.rowex_core.specs.Events.{IsLoad, IsLockedAt, loaded_root, loaded_tree}
use Rattle.rowex_core.specs.Frames.{IsFrame}
use Rattle.rowex_core.specs.Opening.{opening}
use Rattle.rowex_core.specs.Sharing.{share, owned, locked, holding_of, is_in_tree}
use Rattle.rowex_core.proofs.Sharing.{and_false, same_share}

-- nothing is locked at first
pub none_locked : (layout : Layout) (q l : ℕ) → IsLockedAt (opening layout) q (Value l) → ⊥
none_locked layout q l (low, in_root a e) = none-some q a
none_locked layout q l (low, in_node n since place a b c d) = none-some q a

-- each change that adds an item of a list is of its pass
pub all_by : (P : Change → Type 0) (q : ℕ) → ((x : Item) → P (added_change q x)) → (xs : List Item) → All P (map (added_change q) xs)
all_by P q h [] = All-nil P
all_by P q h (x ∷ xs) = All-cons P (added_change q x) (map (added_change q) xs) (h x) (all_by P q h xs)

-- a word of the table, or 0
word_small : (table : List ℕ) (i : ℕ) → All (λ w. w < 2 ^ 64) table → get_or table i 0 < 2 ^ 64
word_small table i h = elim (cases_lt i (length table)) [
  | inl low ↦ All-get_or (λ w. w < 2 ^ 64) table i 0 low h
  | inr past ↦ subst (λ w. w < 2 ^ 64) (sym (get_or_past {X = ℕ} table i 0 past)) (lit< tt)
]

either_small : (table : List ℕ) (i : ℕ) (at : Bool) → All (λ w. w < 2 ^ 64) table → (if at then get_or table i 0 else 0) < 2 ^ 64
either_small table i true h = word_small table i h
either_small table i false h = lit< tt

mapped : (P : ℕ → Type 0) (f : ℕ → ℕ) (is : List ℕ) → ((i : ℕ) → P (f i)) → All P (map f is)
mapped P f is h = All-map P f is (λ k d low. h (get_or is k d))

-- so many words, each of which is small
mapped_sized : (f : ℕ → ℕ) (n : ℕ) → ((i : ℕ) → f i < 2 ^ 64) → (length (map f (range_with_len 0 n)) ≡ n) × All (λ w. w < 2 ^ 64) (map f (range_with_len 0 n))
mapped_sized f n h = (length-map-range_with_len {X = ℕ} f 0 n, mapped (λ w. w < 2 ^ 64) f (range_with_len 0 n) h)

pub fields_sized : (layout : Layout) (table : List ℕ) → All (λ w. w < 2 ^ 64) table → (r : Rec) → IsSized r (fields_in layout table r)
unfolding fields_in
fields_sized layout table h (a_node n) = mapped_sized (λ i. get_or table (node_start layout n + (1 + i)) 0) NODE_FIELDS (λ i. word_small table (node_start layout n + (1 + i)) h)
fields_sized layout table h (a_leaf n) = mapped_sized (λ i. if nat_lt (1 + i) (leaf_size layout n) then get_or table (leaf_start layout n + (1 + i)) 0 else 0) LEAF_FIELDS
    (λ i. either_small table (leaf_start layout n + (1 + i)) (nat_lt (1 + i) (leaf_size layout n)) h)

module _ (layout : Layout) (q : ℕ) (b : List ℕ) where
  abbrev pub loaded : Core
  loaded = record { layout = layout; words = fields_in layout b; shared = loaded_by at_first q (loaded_root b) (loaded_tree layout b) }

  abbrev last : ℕ
  last = length (items_of (loaded_tree layout b))

  fates : (r : Rec) → (IsLinked (loaded_tree layout b) r × (loaded.fate r ≡ InTree last)) ⊎ (loaded.fate r ≡ Free)
  fates r = elim (linked_cases (loaded_tree layout b) r) [ inl x ↦ inl (x.0, rw x.1 refl) | inr x ↦ inr (rw x.1 refl) ]

  module _ (small : q < layout.passes) (h : IsLoad layout b) where
    whole : (r : Rec) → IsPastFilling (loaded.fate r) → HasRecord layout r × IsPacked r (fields_in layout b r) × FitsIn layout r (fields_in layout b r)
    whole r w = elim (fates r) [ inl x ↦ h.records r x.0 | inr x ↦ absurd (subst IsPastFilling x w) ]

    no_fate : (P : Fate → Type 0) → (P (InTree last) → ⊥) → (P Free → ⊥) → (r : Rec) → P (loaded.fate r) → ⊥
    no_fate P in_tree free r p = elim (fates r) [ inl x ↦ in_tree (subst P x.1 p) | inr x ↦ free (subst P x p) ]

    pub load_stays : IsLawful loaded
    load_stays = record {
      core = load_is_lawful (heap_of (fields_in layout b)) q (loaded_root b) (loaded_tree layout b) h.top h.tree;
      records = record {
        sized = fields_sized layout b h.small;
        packed = λ r w. (whole r w).1;
        fits = λ r w. (whole r w).2;
        retired = λ n since last p e. absurd (no_fate (λ f. f ≡ Unlinked since last p) (λ x. cc) (λ x. cc) (a_node n) e);
        used = λ r. elim (fates r) [ inl x ↦ inr (h.records r x.0).0 | inr x ↦ inl x ];
        holders = λ r p e. absurd (no_fate (λ f. holder_of f ≡ Some p) (λ x. none-some p x) (λ x. none-some p x) r e);
      };
      epochs = record {
        now = (omega arith, lit< tt);
        loads = λ o. inl refl;
        pinned = λ o p e. absurd (none-some p e);
        marked = λ r since last epoch e. absurd (no_fate (λ f. f ≡ Marked since last epoch) (λ x. cc) (λ x. cc) r e);
      };
      root = h.root.0;
      lockers = record { root = λ p e. absurd (none-some p e); nodes = λ n p e. absurd (none-some p e) };
      makers = all_by (λ x. x.pass < layout.passes) q (λ x. small) (items_of (loaded_tree layout b));
    }

  -- The past grows, and no pass has anything

  pub load_grows : IsGrown (opening layout).past loaded.past
  load_grows = record { longer = omega arith; kept = λ n low. let e : n ≡ 0 = omega arith in ap loaded.past.version e ∙ loaded_first (loaded_tree layout b) }

  pub load_shares : (p : ℕ) → share p loaded ≡ share p (opening layout)
  load_shares p = same_share (λ r. own r (is_linked (loaded_tree layout b) r)) (λ n. ap (locked n (fields_in layout b (a_node n))) (and_false (is_in_tree (loaded.fate (a_node n))))) refl refl refl
    where
      own : (r : Rec) (linked : Bool) → owned r (fields_in layout b r) (holding_of p (if linked then InTree last else Free)) ≡ []
      own r true = refl
      own r false = refl

  pub load_frame : (p : ℕ) → q ≢ p → IsFrame p (opening layout) loaded
  load_frame p ne = record {
    layout = refl;
    past = load_grows;
    changes = (map (added_change q) (items_of (loaded_tree layout b)), refl, all_by (λ x. x.pass ≢ p) q (λ x. ne) (items_of (loaded_tree layout b)));
    own = load_shares p;
    values = λ l g. absurd (none_locked layout p l g);
  }
