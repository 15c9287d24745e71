-- The laws that follow: the opening core, records in reach, a publish as a step of the map, locks of two passes.
use Rattle.rowex_core.proofs.Common.{◌≡◌, ◌≢◌, inl, ⊎_elim, ℕ, zero, suc, ◌+◌, ◌-◌, ◌^◌, ◌<◌, ◌≤◌, List, [], ◌∷◌, ◌++◌, length, get_or, set, replicate, fold, Option, Some, None, IsSome, refl, sym, ap, subst, ◌∙◌, arith, le_refl, le_trans, lit<, eq-eqb, ne_eqb, false≢true, cases_lt, length-replicate, get_or-replicate, get_or-set_same, get_or-set_other, get_or_past, take_all, All-replicate, All-from_recursion, Change, Kind, Added, Replaced, Removed, Map, map_after, step_where, value_at, map_of, changed, changed_by, FitsKind, Fits, LegalFrom, ANCHOR_WORD, address, word_count, IsInTable, Layout, Location, Epoch, RootWord, AnchorWord, PinOf, NodeWord, LeafWord, fixed_words, leaf_words, words_for, leaf_words_parts, Key, Fixed, Tree, leaf, node, fork, Rec, a_node, a_leaf, IsRecord, IsSameRecord, Free, Unlinked, Marked, pin_version, content, state_hindsight, state_parting, reach_later, opening_core, core_reach, core_steady, map_of-push}
use Rattle.std.proofs.lemmas.List.{length-set}
use Rattle.finite_map.specs.declared.Call.TheVariants.{Upsert, Remove}
use Rattle.rowex_core.specs.declared.event.Act.TheVariants.{Lock, Publish}
use Rattle.rowex_core.specs.declared.event.Target.TheVariants.{Node as NodeTarget}
use Rattle.rowex_core.specs.Reading.{HasWordAt}
use Rattle.rowex_core.specs.Cores.{IsLawful, bare, heap_of, word_count_of}
use Rattle.rowex_core.specs.Words.{record_word, word_at, Shows}
use Rattle.rowex_core.specs.Events.{IsFixedOffset, after, next_change}
use Rattle.rowex_core.specs.Opening.{opening, opening_words}
use Rattle.rowex_core.specs.Statements.{OpeningIsLawful, Hindsight, KeysPartAtFork, ReachKeepsWords, EntriesInReach, PublishIsAStep, LocksApart, call_of_kind, call_of_change}
use Rattle.rowex_core.proofs.Frames.{next_change_pass}
use Rattle.rowex_core.proofs.Cores.Loading.{LastOf, last, entry_of_last, fixed_fact, view}
use Rattle.rowex_core.proofs.Cores.{stays_lawful}

-- The opening core

zeros : (n i : ℕ) → ◌≡◌ {A = ℕ} (get_or (replicate n 0) i 0) 0
zeros n i = ⊎_elim (λ (h : i < n). get_or-replicate {A = ℕ} n i 0 0 h) (λ (h : n ≤ i). get_or_past {X = ℕ} (replicate n 0) i 0 (omega (arith, length-replicate {A = ℕ} n 0))) (cases_lt i n)

-- all words are 0 but those of the epoch and of the anchor
pub other_zero : (layout : Layout) (i : ℕ) → i ≢ 0 → i ≢ ANCHOR_WORD → get_or (opening_words layout) i 0 ≡ 0
other_zero layout i no_epoch no_anchor = get_or-set_other _ ANCHOR_WORD i 2 0 no_anchor ∙ (get_or-set_other _ 0 i 1 0 no_epoch ∙ zeros (word_count layout) i)

opening_record : (layout : Layout) (r : Rec) (offset : ℕ) → record_word (opening layout) r offset ≡ 0
opening_record layout r zero = refl
opening_record layout r (suc offset) = zeros (word_count_of r) offset

opening_shows : (layout : Layout) → Shows (opening layout) (opening_words layout)
opening_shows layout = record { size = size; each = each }
  where
    words : List ℕ
    words = replicate (word_count layout) 0

    long : length words ≡ word_count layout
    long = length-replicate {A = ℕ} (word_count layout) 0

    size : length (opening_words layout) ≡ word_count layout
    size = length-set (set words 0 1) ANCHOR_WORD 2 ∙ (length-set words 0 1 ∙ long)

    each : (location : Location) → IsInTable layout location → get_or (opening_words layout) (address layout location) 0 ≡ word_at (opening layout) location
    each Epoch h = get_or-set_other (set words 0 1) ANCHOR_WORD 0 2 0 (omega arith) ∙ get_or-set_same words 0 1 0 (omega (arith, long))
    each RootWord h = other_zero layout 1 (omega arith) (omega arith)
    each AnchorWord h = get_or-set_same (set words 0 1) ANCHOR_WORD 2 0 (omega (arith, length-set words 0 1, long))
    each (PinOf q) h = other_zero layout (address layout (PinOf q)) (omega arith) (omega arith)
    each (NodeWord n offset) h = other_zero layout (address layout (NodeWord n offset)) (omega arith) (omega arith) ∙ sym (opening_record layout (a_node n) offset)
    each (LeafWord n offset) h = other_zero layout (address layout (LeafWord n offset)) (omega arith) (omega arith) ∙ sym (opening_record layout (a_leaf n) offset)

pub opening_is_lawful : OpeningIsLawful
opening_is_lawful layout = (
  record {
    core = opening_core (heap_of (opening layout).words);
    records = record {
      sized = λ r. (length-replicate {A = ℕ} (word_count_of r) 0, All-replicate (λ (w : ℕ). w < 2 ^ 64) (word_count_of r) 0 (lit< tt));
      packed = λ r h. absurd h;
      fits = λ r h. absurd h;
      retired = λ n since last q e. absurd (let x : Free ≡ Unlinked since last q = e in cc);
      used = λ r. inl refl;
      holders = λ r q e. absurd (let x : None ≡ Some q = e in cc);
    };
    epochs = record { now = (omega arith, lit< tt); loads = λ q. inl refl; pinned = λ q p e. absurd (let x : None ≡ Some p = e in cc); marked = λ r since last epoch e. absurd (let x : Free ≡ Marked since last epoch = e in cc) };
    root = tt;
    lockers = record { root = λ q e. absurd (let x : None ≡ Some q = e in cc); nodes = λ n q e. absurd (let x : None ≡ Some q = e in cc) };
    makers = All-from_recursion (λ (x : Change). x.pass < layout.passes) [] tt;
  },
  opening_shows layout,
  λ q low. record { changes = All-from_recursion (λ (x : Change). x.pass ≢ q) [] tt; own = refl },
)

-- Records in reach

pub hindsight : Hindsight
hindsight c law q p e m low k n h = state_hindsight (view c) law.core.state m (reach_later (view c) p.version m low (law.core.state.reach q p.version (ap pin_version e))) k n h

pub parting : KeysPartAtFork
parting c law = state_parting (view c) law.core.state

-- behind the value the words of a leaf are its key's
behind_value : (k : List ℕ) (v z offset : ℕ) → 2 ≤ offset → offset < 33 → get_or (leaf_words (k, v)) (offset - 1) 0 ≡ get_or (leaf_words (k, z)) (offset - 1) 0
behind_value k v z offset low high =
    let one = leaf_words_parts (k, v) (leaf_words (k, v)) refl in
    let other = leaf_words_parts (k, z) (leaf_words (k, z)) refl in
    ⊎_elim
    (λ (size : offset < 3). ap (λ i. get_or (leaf_words (k, v)) i 0) (let e : offset - 1 ≡ 1 = omega arith in e) ∙ (one.size ∙ (sym other.size ∙ ap (λ i. get_or (leaf_words (k, z)) i 0) (let e : 1 ≡ offset - 1 = omega arith in e))))
    (λ (bytes : 3 ≤ offset).
    ap (λ i. get_or (leaf_words (k, v)) i 0) (let e : offset - 1 ≡ 2 + (offset - 3) = omega arith in e) ∙
    (one.bytes (offset - 3) (omega arith) ∙ (sym (other.bytes (offset - 3) (omega arith)) ∙ ap (λ i. get_or (leaf_words (k, z)) i 0) (let e : 2 + (offset - 3) ≡ offset - 1 = omega arith in e))))
    (cases_lt offset 3)

same_word : (r : Rec) (offset w : ℕ) (u v : Tree) → IsRecord r u → IsFixedOffset r offset → IsSameRecord u v → HasWordAt u offset w → HasWordAt v offset w
same_word (a_node o) offset w (leaf n k v) t is fits h has = absurd cc
same_word (a_leaf o) offset w (leaf n k v) (leaf m l z) is fits e has = λ before.
    sym (behind_value k v z offset fits.0 fits.1 ∙ ap (λ x. get_or (leaf_words (x, z)) (offset - 1) 0) e) ∙ has (subst (λ x. offset < words_for (length x)) (sym e) before)
same_word (a_leaf o) offset w (leaf n k v) (node m x b) is fits h has = absurd h
same_word (a_leaf o) offset w (leaf n k v) (fork p a b) is fits h has = absurd h
same_word r offset w (node n x b) (node m y d) is fits h has = sym (ap (λ (z : Fixed). get_or (fixed_words (length z.rows) z.height z.columns z.rows) (offset - 1) 0) h.0) ∙ has
same_word r offset w (node n x b) (leaf m l z) is fits h has = absurd h
same_word r offset w (node n x b) (fork p a d) is fits h has = absurd h
same_word r offset w (fork p a b) v is fits h has = absurd h

pub in_reach : ReachKeepsWords
in_reach c law q p e n r u lo hi st =
    let kept = core_reach (bare c) law.core q p e n lo hi r u st in (kept.0, kept.1, word)
  where
    word : (offset : ℕ) → IsFixedOffset r offset → HasWordAt u offset (record_word c r offset)
    word offset fits =
        let f = (fixed_fact c law p.version (law.core.state.reach q p.version (ap pin_version e)) r offset fits).1 p.version (le_refl p.version) (n, u, lo, hi, st) in
        same_word r offset (record_word c r offset) f.1 u f.4.is_record fits (core_steady (bare c) law.core q p e r f.0 n f.1 u f.2 f.3 lo hi f.4 st) f.5

pub entries_in_reach : EntriesInReach
entries_in_reach c law q p e m n u lo hi st = (
  l.at,
  l.tree,
  l.low,
  record { past = l.high; stands = l.stands; later = λ o v late past s. let x = l.ends o v (le_trans l.low (let y : l.at ≤ o = omega arith in y)) past s in omega arith },
  core_steady (bare c) law.core q p e (a_node n) m l.at u l.tree lo hi (le_trans lo l.low) l.high st l.stands,
  λ j small. sym (entry_of_last c law m n j small l),
)
  where
    l : LastOf c m (a_node n)
    l = last c law m (reach_later (view c) p.version m lo (law.core.state.reach q p.version (ap pin_version e))) (a_node n) (m, u, le_refl m, hi, st)

-- A publish is a step of the map

last_fits : (m : Map) (xs : List Change) (x : Change) → LegalFrom m (xs ++ x ∷ []) → Fits (fold changed m xs) x
last_fits m [] x l = l.0
last_fits m (y ∷ xs) x l = last_fits (changed m y) xs x l.1

one_call : (k : Kind) (m : Map) (key : Key) (value : ℕ) → FitsKind k (value_at m key) value → map_after m (call_of_kind k key value) ≡ changed_by k m key value
one_call Added m key value e = ap (λ (o : Option ℕ). (step_where o m (Upsert key value)).0) e
one_call Removed m key value e = ap (λ (o : Option ℕ). (step_where o m (Remove key)).0) e
one_call Replaced m key value h = go (value_at m key) refl h
  where
    go : (o : Option ℕ) → value_at m key ≡ o → IsSome o → map_after m (call_of_kind Replaced key value) ≡ changed_by Replaced m key value
    go None e h = absurd (false≢true h)
    go (Some v) e h = ap (λ (z : Option ℕ). (step_where z m (Upsert key value)).0) e

pub publish_is_a_step : PublishIsAStep
publish_is_a_step c q spot w law l = (refl, next_change_pass c q spot w, fits, sym (held ∙ sym told_then))
  where
    then_lawful : IsLawful (after c q (Publish spot w))
    then_lawful = stays_lawful c q (Publish spot w) law l

    fits : Fits (map_of c.changes) (next_change c q spot w)
    fits = last_fits [] c.changes (next_change c q spot w) then_lawful.core.told.legal

    held : map_after (map_of c.changes) (call_of_change (next_change c q spot w)) ≡ map_of (c.changes ++ next_change c q spot w ∷ [])
    held = one_call (next_change c q spot w).kind (map_of c.changes) (next_change c q spot w).key (next_change c q spot w).value fits ∙ sym (map_of-push c.changes (next_change c q spot w))

    told_then : content ((after c q (Publish spot w)).past.version (suc c.past.now)) ≡ map_of (c.changes ++ next_change c q spot w ∷ [])
    told_then = then_lawful.core.told.content_is (suc c.past.now) (le_refl (suc c.past.now)) ∙
        ap map_of (take_all (suc c.past.now) (c.changes ++ next_change c q spot w ∷ []) (let e = then_lawful.core.told.count in omega arith))

-- Locks of two passes

pub locks_apart : LocksApart
locks_apart c p q n m law e ne l = (stays_lawful c q (Lock (NodeTarget m) 2) law l, rw (ne_eqb n m ne) e, rw (eq-eqb m m refl) refl)
