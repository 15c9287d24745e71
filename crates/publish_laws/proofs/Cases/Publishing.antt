-- A publish that the laws on versions give is one for words.
use Rattle.publish_laws.proofs.Common.{◌≡◌, ◌<◌, ℕ, List, Option, Some, refl, sym, ap, subst, ◌∙◌, arith, le_refl, take_all, Entry, Change, HasEntryWord, entry_word, Key, Tree, leaf, Within, Rec, content, HasTraded, IsPublished, trie_now, Spot, Root, Slot, Value, entry_of, Core, IsLawful, bare, heap_of, IsLockedAt, IsOfEntry, IsPackedAt, IsWordFor, stored_words, stored_root, entry_of_word, publish_is_legal, IsPublishOf, holds_within}
use Rattle.finite_map.specs.Maps.{Map, value_at}
use Rattle.finite_map.specs.Fronts.{map_of, Fits}
use Rattle.tries.proofs.Content.Maps.{holds_value}
use Rattle.rowex_core.proofs.Statements.Promises.{publish_is_a_step}
use Rattle.rowex_core.proofs.Cores.Valuing.{legal_store}

-- what is stored at the spot of an entry is an entry's word
is_entry : (spot : Spot) (w : ℕ) → IsOfEntry spot → HasEntryWord (entry_of w) × (entry_word (entry_of w) ≡ w) → IsWordFor spot w
is_entry Root w of word = word
is_entry (Slot n j) w of word = word
is_entry (Value l) w of word = absurd of

pub publish_words : (c : Core) (x : Change) → IsLawful c → x.pass < c.layout.passes → (spot : Spot) (w : ℕ) (e : Option Entry) → IsOfEntry spot → IsLockedAt c x.pass spot → HasEntryWord e → entry_word e ≡ w → IsPackedAt c spot w →
    (was : Option ℕ) (new gone : List Rec) → IsPublished (bare c) (heap_of (stored_words c spot w)) (stored_root c spot w) x new gone →
    (Fits (map_of c.changes) x → value_at (map_of c.changes) x.key ≡ was) → IsPublishOf c x.pass spot w x was new gone
publish_words c x law low spot w e of locked fits is packed was new gone p held =
    let entry : entry_of w ≡ e = ap entry_of (sym is) ∙ entry_of_word e fits in
    let (legal, next, change) = publish_is_legal c x.pass spot w of law locked (is_entry spot w of (subst HasEntryWord (sym entry) fits, ap entry_word entry ∙ is)) packed p.tree x p.legal p.differs in
    let (told, by, fit, after) = publish_is_a_step c x.pass spot w law (low, legal_store c x.pass spot w legal) in
    record {
      legal = legal;
      change = change;
      was_held = held (subst (Fits (map_of c.changes)) change fit);
      trade = subst (λ z. HasTraded (c.past.version c.past.now) z new gone) (sym next) p.trade;
    }

-- at the root
pub publish_root : (c : Core) (x : Change) → IsLawful c → x.pass < c.layout.passes → (w : ℕ) (e : Option Entry) → c.anchor ≡ Some x.pass → HasEntryWord e → entry_word e ≡ w →
    (was : Option ℕ) (new gone : List Rec) → IsPublished (bare c) (heap_of c.words) e x new gone →
    (Fits (map_of c.changes) x → value_at (map_of c.changes) x.key ≡ was) → IsPublishOf c x.pass Root w x was new gone
publish_root c x law low w e lock fits is was new gone p held =
    publish_words c x law low Root w e tt lock fits is tt was new gone
    (subst (λ z. IsPublished (bare c) (heap_of c.words) z x new gone) (sym (ap entry_of (sym is) ∙ entry_of_word e fits)) p) held

-- What a leaf of the present tree holds

pub leaf_held : (c : Core) → IsLawful c → (t : Tree) → c.past.version c.past.now ≡ Some t → (j : ℕ) (k : Key) (v : ℕ) → Within (leaf j k v) t → value_at (map_of c.changes) k ≡ Some v
leaf_held c law t now j k v w =
    let told : content (c.past.version c.past.now) ≡ map_of c.changes = law.core.told.content_is c.past.now (le_refl c.past.now) ∙ ap map_of (take_all c.past.now c.changes (let e = law.core.told.count in omega arith)) in
    ap (λ (z : Map). value_at z k) (sym told) ∙ (ap (λ s. value_at (content s) k) now ∙ holds_value t (trie_now (bare c) law.core.state t now) k v (holds_within w k v (refl, refl)))
