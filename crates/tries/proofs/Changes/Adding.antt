-- One leaf more, or one in another's place: at one place of a bit trie, and so in the whole.
use Rattle.tries.proofs.Common.{IsKey, ◌≡◌, ◌⊎◌, inl, inr, ℕ, suc, ◌+◌, ◌≤◌, Bool, true, false, refl, ap, sym, ◌∙◌, subst, arith, if◌then◌else◌}
use Rattle.tries.specs.Keys.{Key, bit, AgreeBelow}
use Rattle.tries.specs.Tree.{Tree, leaf, Has, IsTrie, Within, here, inside, zero_side, one_side}
use Rattle.tries.specs.Content.{Item, items, IsMore, exchanged, first}
use Rattle.tries.specs.Changes.{IsAdded}
use Rattle.tries.proofs.Changes.{put, IsPathBelow, IsExchanged}
use Rattle.tries.proofs.Content.{put_more, put_exchange, put_trie, put_has, within_has}
use Rattle.tries.proofs.Place.{has_bare, items_bare, trie_bare, bare_trie, grown, grown_more, grown_trie, without_marks}
use Rattle.tries.proofs.Tree.{has_first, trie_within}

-- One leaf more at a place is one leaf more in the whole.
pub added_in_whole : {s t : Tree} (w : Within s t) (r : Tree) (x : Item) (p : ℕ) → IsTrie t → IsPathBelow p w → IsAdded x p s r → IsAdded x p t (put w r)
added_in_whole w r x p i b a = record {
  trie = put_trie w r i a.trie p x.key a.like a.has_like b a.agree a.keys;
  more = put_more w r x a.more;
  keys = put_has w r x.key a.keys;
  like = a.like;
  has_like = within_has w a.like a.has_like;
  agree = a.agree;
}

-- The marks of the new tree don't matter.
pub added_without_marks : (s r o : Tree) (x : Item) (p : ℕ) → without_marks r ≡ without_marks o → IsAdded x p s o → IsAdded x p s r
added_without_marks s r o x p e a = record {
  trie = bare_trie r (subst IsTrie (sym e) (trie_bare o a.trie));
  more = subst (IsMore x (items s)) (sym (items_bare o) ∙ (ap items (sym e) ∙ items_bare r)) a.more;
  keys = λ k h. a.keys k (subst (λ (f : Key → Type 0). f k) (has_bare o) (subst (λ z. Has z k) e (subst (λ (f : Key → Type 0). f k) (sym (has_bare r)) h)));
  like = a.like;
  has_like = a.has_like;
  agree = a.agree;
}

grown_keys : (u : Bool) (p : ℕ) (s : Tree) (x : Item) (k : Key) → Has (grown u p s x) k → (k ≡ x.key) ⊎ Has s k
grown_keys false p s x k h = h
grown_keys true p s x k (inl h) = inr h
grown_keys true p s x k (inr h) = inl h

-- The affected part with the new leaf.
pub added_here : (s : Tree) (x : Item) (p : ℕ) → IsTrie s → IsKey x.key →
    ((k : Key) → Has s k → AgreeBelow p x.key k × (bit k p ≡ (if bit x.key p then false else true))) → IsAdded x p s (grown (bit x.key p) p s x)
added_here s x p i g f = record {
  trie = grown_trie (bit x.key p) p s x i g refl f;
  more = grown_more (bit x.key p) p s x;
  keys = grown_keys (bit x.key p) p s x;
  like = first s;
  has_like = has_first s;
  agree = (f (first s) (has_first s)).0;
}

-- So a tree that is, but for marks, the old one with the new leaf at the affected part, has one leaf more.
pub added : {d s : Tree} (w : Within d s) (x : Item) (p : ℕ) (r : Tree) → IsTrie s → IsKey x.key → IsPathBelow p w →
    ((k : Key) → Has d k → AgreeBelow p x.key k × (bit k p ≡ (if bit x.key p then false else true))) →
    without_marks r ≡ without_marks (put w (grown (bit x.key p) p d x)) → IsAdded x p s r
added {d} {s} w x p r i g b f e =
    added_without_marks s r (put w (grown (bit x.key p) p d x)) x p e (added_in_whole w (grown (bit x.key p) p d x) x p i b (added_here d x p (trie_within w i) g f))

-- Each path has an end.
path_more : {s t : Tree} (w : Within s t) (m n : ℕ) → m ≤ n → IsPathBelow m w → IsPathBelow n w
path_more here m n h b = tt
path_more (inside w) m n h b = path_more w m n h b
path_more (zero_side w) m n h b = (omega (arith, b.0), path_more w m n h b.1)
path_more (one_side w) m n h b = (omega (arith, b.0), path_more w m n h b.1)

path_end : {s t : Tree} (w : Within s t) → (m : ℕ) × IsPathBelow m w
path_end here = (0, tt)
path_end (inside w) = path_end w
path_end (zero_side {p = p} w) = let x = path_end w in (suc (p + x.0), (omega arith, path_more w x.0 (suc (p + x.0)) (omega arith) x.1))
path_end (one_side {p = p} w) = let x = path_end w in (suc (p + x.0), (omega arith, path_more w x.0 (suc (p + x.0)) (omega arith) x.1))

-- Another part in one place, with no key besides.
pub put_less : {s t : Tree} (w : Within s t) (r : Tree) → IsTrie t → IsTrie r → ((x : Key) → Has r x → Has s x) → IsTrie (put w r)
put_less {s} w r i j f =
    let b = path_end w in
    put_trie w r i j b.0 (first s) (first s) (has_first s) b.1 (λ q h. refl) (λ x h. inr (f x h))

pub has_less : {s t : Tree} (w : Within s t) (r : Tree) → ((k : Key) → Has r k → Has s k) → (k : Key) → Has (put w r) k → Has t k
has_less here r f k h = f k h
has_less (inside w) r f k h = has_less w r f k h
has_less (zero_side w) r f k (inl h) = inl (has_less w r f k h)
has_less (zero_side w) r f k (inr h) = inr h
has_less (one_side w) r f k (inl h) = inl h
has_less (one_side w) r f k (inr h) = inr (has_less w r f k h)

pub exchanged_in_whole : {s t : Tree} (w : Within s t) (r : Tree) (y x : Item) → IsTrie t → IsExchanged y x s r → IsExchanged y x t (put w r)
exchanged_in_whole w r y x i a = record {
  trie = put_less w r i a.trie a.keys;
  exchange = put_exchange w r y x a.exchange;
  keys = has_less w r a.keys;
}

pub exchanged_leaf : (n m : ℕ) (k : Key) (v u : ℕ) → IsKey k →
    IsExchanged (record { number = n; key = k; value = v }) (record { number = m; key = k; value = u }) (leaf n k v) (leaf m k u)
exchanged_leaf n m k v u g = record { trie = g; exchange = exchanged; keys = λ l h. h }
