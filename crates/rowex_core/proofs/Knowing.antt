-- What a pass knows after a step of its own is true.
pub mod Keeping
use Rattle.rowex_core.proofs.Common.{◌≡◌, ◌≢◌, ◌⊎◌, inl, inr, ℕ, suc, ◌+◌, ◌-◌, ◌<◌, ◌&&◌, ◌≤◌, List, [], ◌∷◌, Bool, true, false, if◌then◌else◌, nat_eq, eqb, set, get_or, Option, Some, None, refl, sym, ap, ◌∙◌, subst, arith, le_refl, append-nil, append_assoc, ◌++◌, All, filter, not, eqb-true, cases_Bool, false≢true, All-cons, All-weaker, All-from_recursion, filter-append, Change, BeginsWith, OthersGoOn, Entry, Place, Tree, leaf, node, fork, subtrie, Rec, a_node, a_leaf, Pin, Round, Heap, Past, IsTop, IsReach, Fate, Free, HeldBy, ReadyBy, InTree, UnlinkedBy, Marked, pin_version, same_rec, is_linked, next_fate, IsLockable, lowered, with_fate, with_lock, with_pin, with_round, unlocked, with_anchor, same_rec_refl, same_rec_true, entry_of, version_old, Location, loaded_past, added_change, items_of, Layout}
use Rattle.std.specs.Prelude.{map}
use Rattle.rowex_core.specs.declared.event.Act.{Act}
use Rattle.rowex_core.specs.declared.event.Act.TheVariants.{Claim, Fill, Ready, Release, LoadRef, LoadFixed, Lock, Unlock, Publish, Mark, LoadEpoch, Advance, SetPin, ClearPin, LoadPin, LoadState, GiveBack, Load}
use Rattle.rowex_core.specs.declared.event.Target.TheVariants.{Anchor, Node as NodeTarget}
use Rattle.rowex_core.specs.declared.event.Spot.TheVariants.{Root, Slot, Value}
use Rattle.rowex_core.specs.declared.known.Fact.{Fact}
use Rattle.rowex_core.specs.declared.known.Fact.TheVariants.{Rooted, Placed, Fixed, Valued}
use Rattle.rowex_core.specs.declared.known.Holding.{Holding}
use Rattle.rowex_core.specs.declared.known.Holding.TheVariants.{Held, Ready as IsReady}
use Rattle.rowex_core.specs.declared.known.Owned.{Owned}
use Rattle.rowex_core.specs.declared.known.Locked.{Locked}
use Rattle.rowex_core.specs.declared.known.FailedAct.{FailedAct}
use Rattle.rowex_core.specs.declared.known.FailedAct.TheVariants.{Claim as a_claim, Lock as a_lock, LoadState as a_load}
use Rattle.rowex_core.specs.declared.known.Known.{Known}
use Rattle.rowex_core.specs.Reading.{head_entry, root_of}
use Rattle.rowex_core.specs.Cores.{Core, IsLawful, heap_of, holder_of}
use Rattle.rowex_core.specs.Words.{record_word}
use Rattle.rowex_core.specs.declared.event.Spot.{Spot}
use Rattle.rowex_core.specs.Events.{IsLegalPublish, IsLockedAt, stored_words, stored_root, next_tree, next_change, loaded_tree, Legal, after, with_word, claimed, marked, anchored, word_of, target_word, IsInTree}
use Rattle.rowex_core.specs.Knowing.{IsFact, IsStillLoaded, HasSeen, facts_with, AreCounted, Knows, learned_by, learned, entry_learned, with_holding, with_filled_word, without_record, failed_with, claim_learned, load_learned, anchor_learned, node_learned, blocking_pass_of, without_lock, records_in, owned_unlinked, own_after, locked_with_words, locks_after, anchor_after, publish_learned}
use Rattle.rowex_core.specs.Opening.{opening}
use Rattle.rowex_core.proofs.Opening.{loaded, load_grows, load_shares}
use Rattle.rowex_core.proofs.Frames.{advance_frame, give_back_frame, unlocked_node}
use Rattle.rowex_core.proofs.Knowing.Keeping.{fact_grown, knows_kept}
use Rattle.rowex_core.proofs.Cores.Loading.{slot_fact, fixed_fact, value_fact, view}
use Rattle.rowex_core.proofs.Cores.Valuing.{legal_publish, value_left, namer_back, loaded_kept}
use Rattle.rowex_core.proofs.Cores.Publishing.{once, Linking, stays, comes, out, linking, listed_once}
use Rattle.rowex_core.proofs.Lists.{filter_mapped, filter_swapped}
use Rattle.rowex_core.specs.Sharing.{Share, share, known_share, holding_of, is_by, is_in_tree, owned, locked, anchored_at, of_record, of_node}
use Rattle.rowex_core.proofs.Sharing.{and_false, at_record, at_number, by_itself, is_by_true, fate_locks, word_locks, same_unlocked}

-- What a pass knows is true, whatever the number of its steps.
record IsTrue (c : Core) (k : Known) : Type 0 where
  pass : k.pass < c.layout.passes
  seen : HasSeen k.pass c.past c.changes k.front k.fresh.front k.facts
  own : share k.pass c ≡ known_share k
  values : All (IsStillLoaded k.pass c) k.values

is_true : {c : Core} {k : Known} → Knows c k → IsTrue c k
is_true h = record { pass = h.pass; seen = h.seen; own = h.own; values = h.values }

-- nothing is remembered of values
no_values : (c : Core) (q : ℕ) → All (IsStillLoaded q c) []
no_values c q = All-from_recursion (IsStillLoaded q c) [] tt

-- what failed is a fact of no core
with_failed : (c : Core) (k : Known) (act : FailedAct) (location : Location) (w : ℕ) → Knows c k → IsTrue c (failed_with k act location w)
with_failed c k act location w h = record { pass = h.pass; seen = h.seen; own = h.own; values = h.values }

-- Facts of loads

more_facts : (s : Past) (o : Option Pin) (f : ℕ → Fact) (facts : List Fact) → ((p : Pin) → o ≡ Some p → IsFact s (f p.version)) →
    All (IsFact s) facts → All (IsFact s) (facts_with o f facts)
more_facts s None f facts h a = a
more_facts s (Some p) f facts h a = All-cons (IsFact s) (f p.version) facts (h p refl) a

-- the root entry is that of the newest version
root_is : (heap : Heap) (e : Option Entry) (t : Option Tree) → IsTop heap e t → root_of t ≡ e
root_is heap None None h = refl
root_is heap None (Some t) h = absurd h
root_is heap (Some e) None h = absurd h
root_is heap (Some e) (Some t) h = head t h.0
  where
    head : (t : Tree) → subtrie t ≡ Place e → head_entry t ≡ Some e
    head (leaf n k v) p = cc
    head (node n x b) p = cc
    head (fork q a b) p = absurd cc

pinned : (c : Core) (k : Known) → IsLawful c → Knows c k → (p : Pin) → k.pin ≡ Some p → IsReach (view c) p.version × (p.version ≤ c.past.now)
pinned c k law h p e =
    let is : c.pins k.pass ≡ Some p = ap (λ (z : Share). z.pin) h.own ∙ e in (law.core.state.reach k.pass p.version (ap pin_version is), (law.core.paced.floors k.pass p is).2)

seen_whole : (c : Core) (q : ℕ) → OthersGoOn q c.changes c.changes
seen_whole c q = ([], sym (append-nil c.changes), All-from_recursion (λ z. z.pass ≢ q) [] tt)

begins_whole : (c : Core) (k : Known) → Knows c k → BeginsWith c.changes k.fresh.front
begins_whole c k h =
    let s = h.seen in
    (s.fresh.0 ++ s.front.0, s.front.1 ∙ (ap (λ (z : List Change). z ++ s.front.0) s.fresh.1 ∙ append_assoc k.fresh.front s.fresh.0 s.front.0))

-- A load teaches a pass all changes so far, and a pinned pass its fact.
fact_learned : (c : Core) (k : Known) (f : ℕ → Fact) → IsLawful c → Knows c k →
    ((since : ℕ) → IsReach (view c) since → since ≤ c.past.now → IsFact c.past (f since)) → IsTrue c (record k { front = c.changes; facts = facts_with k.pin f k.facts })
fact_learned c k f law h true_ = record {
  pass = h.pass;
  seen = record {
    front = seen_whole c k.pass;
    fresh = begins_whole c k h;
    facts = more_facts c.past k.pin f k.facts (λ p e. let x = pinned c k law h p e in true_ p.version x.0 x.1) h.seen.facts;
  };
  own = h.own;
  values = h.values;
}

root_learned : (c : Core) (k : Known) → IsLawful c → Knows c k → IsTrue c (entry_learned c Root k)
root_learned c k law h = record {
  pass = h.pass;
  seen = record {
    front = seen_whole c k.pass;
    fresh = ([], sym (append-nil c.changes));
    facts = (fact_learned c k (λ since. Rooted since c.past.now c.root) law h (λ since r lo. (lo, le_refl c.past.now, root_is (heap_of c.words) c.root (c.past.version c.past.now) law.core.state.top))).seen.facts;
  };
  own = h.own;
  values = h.values;
}

-- and of the value of a leaf also what it is
value_learned : (c : Core) (k : Known) (l : ℕ) → IsLawful c → Knows c k → IsTrue c (entry_learned c (Value l) k)
value_learned c k l law h = record {
  pass = h.pass;
  seen = (fact_learned c k (λ since. Valued since c.past.now l (record_word c (a_leaf l) 1)) law h (λ since r lo. value_fact c law since r l)).seen;
  own = h.own;
  values = All-cons (IsStillLoaded k.pass c) (record { leaf = l; value = record_word c (a_leaf l) 1 }) k.values (λ g. refl) h.values;
}

-- Records of the pass's own

-- what a change of the pass's own records does at each record: of others than r it leaves what there is
record IsAt (r : Rec) (change : List Owned → List Owned) : Type 0 where
  each : (i : Rec) (own : List Owned) → of_record i (change own) ≡ change (of_record i own)
  others : (i : Rec) (words : List ℕ) (h : Option Holding) → same_rec i r ≡ false → change (owned i words h) ≡ owned i words h

-- a map that changes no record's number, and nothing but r
module _ (r : Rec) (f : Owned → Owned) (rec_is : (o : Owned) → (f o).rec ≡ o.rec) (left : (o : Owned) → same_rec o.rec r ≡ false → f o ≡ o) where
  map_at : IsAt r (map f)
  map_at = record {
    each = λ i. filter_mapped (λ o. same_rec i o.rec) (λ o. same_rec i o.rec) f (λ o. ap (same_rec i) (rec_is o));
    others = λ i words. leaves i words;
  }
    where
      leaves : (i : Rec) (words : List ℕ) (g : Option Holding) → same_rec i r ≡ false → map f (owned i words g) ≡ owned i words g
      leaves i words None e = refl
      leaves i words (Some g) e = ap (λ o. o ∷ []) (left (record { rec = i; holding = g; words = words }) e)

either_rec : (b : Bool) (o p : Owned) → p.rec ≡ o.rec → (if b then p else o).rec ≡ o.rec
either_rec true o p e = e
either_rec false o p e = refl

hold_at : (r : Rec) (h : Holding) → IsAt r (map (with_holding r h))
hold_at r h = map_at r (with_holding r h) (λ o. either_rec (same_rec o.rec r) o (record o { holding = h }) refl) (λ o e. rw e refl)

fill_at : (r : Rec) (offset w : ℕ) → IsAt r (map (with_filled_word r offset w))
fill_at r offset w = map_at r (with_filled_word r offset w) (λ o. either_rec (same_rec o.rec r) o (record o { words = set o.words (offset - 1) w }) refl) (λ o e. rw e refl)

drop_at : (r : Rec) → IsAt r (without_record r)
drop_at r = record { each = λ i own. filter_swapped (λ (o : Owned). same_rec i o.rec) (λ (o : Owned). not (same_rec o.rec r)) own; others = λ i words. leaves i words }
  where
    leaves : (i : Rec) (words : List ℕ) (g : Option Holding) → same_rec i r ≡ false → without_record r (owned i words g) ≡ owned i words g
    leaves i words None e = refl
    leaves i words (Some g) e = rw e refl

dropped : (r : Rec) (words : List ℕ) (g : Option Holding) → without_record r (owned r words g) ≡ []
dropped r words None = refl
dropped r words (Some g) = rw (same_rec_refl r) refl

module _ (c : Core) (k : Known) (h : Knows c k) where
  -- what the pass has of a record
  had : (i : Rec) → owned i (c.words i) (holding_of k.pass (c.fate i)) ≡ of_record i k.own
  had i = ap (λ (z : Share). z.own i) h.own

  has_then : (r : Rec) (change : List Owned → List Owned) → IsAt r change → (i : Rec) → change (owned i (c.words i) (holding_of k.pass (c.fate i))) ≡ of_record i (change k.own)
  has_then r change at i = ap change (had i) ∙ sym (at.each i k.own)

  -- the fate of one record, which is not in the tree
  fate_learns : (r : Rec) (f : Fate) (own : List Owned) → is_in_tree (c.fate r) ≡ false → is_in_tree f ≡ false →
      owned r (c.words r) (holding_of k.pass f) ≡ of_record r own → ((i : Rec) → same_rec i r ≡ false → owned i (c.words i) (holding_of k.pass (c.fate i)) ≡ of_record i own) →
      IsTrue (record c { shared = with_fate c.shared r f }) (record k { own = own })
  fate_learns r f own before after here there = record {
    pass = h.pass;
    seen = h.seen;
    own = λ i. record (h.own i) {
      own = λ s. at_record (λ s x. owned s (c.words s) (holding_of k.pass x) ≡ of_record s own) r f c.fate here there s i;
      locks = λ n. (fate_locks c k.pass r f before after n ∙ ap (λ (z : Share). z.locks n) h.own) i;
    };
    values = loaded_kept c d k.pass (namer_back c d k.pass refl (λ a. (a, refl)) (λ n s a b. (a, (s, still n s (cases_Bool (same_rec (a_node n) r)) b), refl))) (λ l g. refl) k.values h.values;
  }
    where
      d : Core
      d = record c { shared = with_fate c.shared r f }

      still : (n s : ℕ) → ((same_rec (a_node n) r ≡ true) ⊎ (same_rec (a_node n) r ≡ false)) → (if same_rec (a_node n) r then f else c.fate (a_node n)) ≡ InTree s → c.fate (a_node n) ≡ InTree s
      still n s (inl e) b = absurd (false≢true (sym after ∙ ap is_in_tree (let x : f ≡ InTree s = rw e at b in x)))
      still n s (inr e) b = rw e at b

  changes : (r : Rec) (g f : Fate) (change : List Owned → List Owned) → IsAt r change → c.fate r ≡ g → is_in_tree g ≡ false → is_in_tree f ≡ false →
      change (owned r (c.words r) (holding_of k.pass g)) ≡ owned r (c.words r) (holding_of k.pass f) → IsTrue (record c { shared = with_fate c.shared r f }) (record k { own = change k.own })
  changes r g f change at is before after e = fate_learns r f (change k.own) (ap is_in_tree is ∙ before) after
      (sym e ∙ (ap (λ z. change (owned r (c.words r) (holding_of k.pass z))) (sym is) ∙ has_then r change at r))
      (λ i o. sym (at.others i (c.words i) (holding_of k.pass (c.fate i)) o) ∙ has_then r change at i)

  claim_learns : (r : Rec) (found : ℕ) (f : Fate) → c.fate r ≡ f → IsTrue (record c { shared = claimed c.shared k.pass r f }) (claim_learned c r found f k)
  claim_learns r found Free e = fate_learns r (HeldBy k.pass) _ (ap is_in_tree e) refl
      (rw (by_itself k.pass, same_rec_refl r) (ap (λ (z : List Owned). record { rec = r; holding = Held; words = c.words r } ∷ z) (ap (λ f. owned r (c.words r) (holding_of k.pass f)) (sym e) ∙ had r)))
      (λ i o. rw o (had i))
  claim_learns r found f e = with_failed c k (a_claim (holder_of f)) (word_of r 0) found h

  fill_learns : (r : Rec) (offset w : ℕ) → IsLawful c → c.fate r ≡ HeldBy k.pass → IsTrue (record c { words = with_word c.words r offset w }) (record k { own = map (with_filled_word r offset w) k.own })
  fill_learns r offset w law e = record {
    pass = h.pass;
    seen = h.seen;
    own = λ i. record (h.own i) {
      own = λ s. at_record (λ s x. owned s x (holding_of k.pass (c.fate s)) ≡ of_record s (map (with_filled_word r offset w) k.own)) r (set (c.words r) (offset - 1) w) c.words
          (sym filled ∙ has_then r (map (with_filled_word r offset w)) (fill_at r offset w) r)
          (λ i o. sym ((fill_at r offset w).others i (c.words i) (holding_of k.pass (c.fate i)) o) ∙ has_then r (map (with_filled_word r offset w)) (fill_at r offset w) i) s i;
      locks = λ n. (word_locks c k.pass r offset w (ap is_in_tree e) n ∙ ap (λ (z : Share). z.locks n) h.own) i;
    };
    values = loaded_kept c d k.pass (namer_back c d k.pass refl (λ a. (a, refl)) (λ n s a b. (a, (s, b), words n s b (cases_Bool (same_rec (a_node n) r)))))
        (value_left c k.pass r offset w law (ap is_in_tree e)) k.values h.values;
  }
    where
      d : Core
      d = record c { words = with_word c.words r offset w }

      words : (n s : ℕ) → c.fate (a_node n) ≡ InTree s → ((same_rec (a_node n) r ≡ true) ⊎ (same_rec (a_node n) r ≡ false)) → c.words (a_node n) ≡ with_word c.words r offset w (a_node n)
      words n s b (inr x) = rw x refl
      words n s b (inl x) = absurd (let z : InTree s ≡ HeldBy k.pass = sym b ∙ (ap c.fate (same_rec_true (a_node n) r x) ∙ e) in cc)

      filled : map (with_filled_word r offset w) (owned r (c.words r) (holding_of k.pass (c.fate r))) ≡ owned r (set (c.words r) (offset - 1) w) (holding_of k.pass (c.fate r))
      filled = rw (e, by_itself k.pass, same_rec_refl r) refl

  -- The lock of a node

  locks_learn : (n : ℕ) (o : Option ℕ) (locks : List Locked) → locked n (c.words (a_node n)) (is_in_tree (c.fate (a_node n)) && is_by k.pass o) ≡ of_node n locks →
      ((i : ℕ) → nat_eq i n ≡ false → (share k.pass c).locks i ≡ of_node i locks) → IsTrue (record c { shared = with_lock c.shared n o }) (record k { locks = locks; values = [] })
  locks_learn n o locks here there = record {
    pass = h.pass;
    seen = h.seen;
    own = λ i. record (h.own i) { locks = λ m. at_number (λ m x. locked m (c.words (a_node m)) (is_in_tree (c.fate (a_node m)) && is_by k.pass x) ≡ of_node m locks) n o c.lock here there m i };
    values = no_values (record c { shared = with_lock c.shared n o }) k.pass;
  }

  had_lock : (n : ℕ) → (share k.pass c).locks n ≡ of_node n k.locks
  had_lock n = ap (λ (z : Share). z.locks n) h.own

  lock_taken : (n : ℕ) → IsInTree c n → c.lock n ≡ None → IsTrue (record c { shared = with_lock c.shared n (Some k.pass) }) (record k { locks = record { node = n; words = c.words (a_node n) } ∷ k.locks; values = [] })
  lock_taken n t none = locks_learn n (Some k.pass) _
      (rw (t.1, by_itself k.pass, by_itself n) (ap (λ (z : List Locked). record { node = n; words = c.words (a_node n) } ∷ z) (rw (t.1, none) refl ∙ had_lock n)))
      (λ i o. rw o (had_lock i))

  lock_given : (n : ℕ) → IsTrue (record c { shared = with_lock c.shared n None }) (record k { locks = without_lock n k.locks; values = [] })
  lock_given n = locks_learn n None _
      (ap (locked n (c.words (a_node n))) (and_false (is_in_tree (c.fate (a_node n)))) ∙ (sym (gone (is_in_tree (c.fate (a_node n)) && is_by k.pass (c.lock n))) ∙ through n))
      (λ i o. sym (left i o (is_in_tree (c.fate (a_node i)) && is_by k.pass (c.lock i))) ∙ through i)
    where
      through : (i : ℕ) → without_lock n ((share k.pass c).locks i) ≡ of_node i (without_lock n k.locks)
      through i = ap (without_lock n) (had_lock i) ∙ filter_swapped (λ (l : Locked). not (nat_eq l.node n)) (λ (l : Locked). nat_eq i l.node) k.locks

      gone : (b : Bool) → without_lock n (locked n (c.words (a_node n)) b) ≡ []
      gone true = rw (by_itself n) refl
      gone false = refl

      left : (i : ℕ) → nat_eq i n ≡ false → (b : Bool) → without_lock n (locked i (c.words (a_node i)) b) ≡ locked i (c.words (a_node i)) b
      left i o true = rw o refl
      left i o false = refl

  -- The anchor, the pin, the round

  anchor_learns : (found : ℕ) (o : Option ℕ) → c.anchor ≡ o → IsTrue (record c { shared = anchored c.shared k.pass o }) (anchor_learned c found o k)
  anchor_learns found None e = record { pass = h.pass; seen = h.seen; own = λ i. record (h.own i) { anchor = ap (anchored_at c.root) (by_itself k.pass) i }; values = no_values (record c { shared = with_anchor c.shared (Some k.pass) }) k.pass }
  anchor_learns found (Some p) e = with_failed c k (a_lock (Some p)) (target_word Anchor) found h

  anchor_given : IsTrue (record c { shared = with_anchor c.shared None }) (record k { anchor = None; values = [] })
  anchor_given = record { pass = h.pass; seen = h.seen; own = λ i. record (h.own i) { anchor = None }; values = no_values (record c { shared = with_anchor c.shared None }) k.pass }

  -- all else leaves what names leaves
  same_values : (d : Core) → d.layout ≡ c.layout → d.words ≡ c.words → d.fate ≡ c.fate → d.lock ≡ c.lock → d.anchor ≡ c.anchor → d.root ≡ c.root → All (IsStillLoaded k.pass d) k.values
  same_values d layout words fate lock anchor root = loaded_kept c d k.pass
      (namer_back c d k.pass (sym layout) (λ a. (sym anchor ∙ a, sym root))
      (λ n s a b. (ap (λ z. z n) (sym lock) ∙ a, (s, ap (λ z. z (a_node n)) (sym fate) ∙ b), ap (λ z. z (a_node n)) (sym words))))
      (λ l g. ap (λ z. get_or (z (a_leaf l)) 0 0) words) k.values h.values

  pin_learns : (o : Option Pin) → IsTrue (record c { shared = with_pin c.shared k.pass o }) (record k { pin = o })
  pin_learns o = record { pass = h.pass; seen = h.seen; own = λ i. record (h.own i) { pin = ap (λ b. if b then o else c.pins k.pass) (by_itself k.pass) i }; values = same_values (record c { shared = with_pin c.shared k.pass o }) refl refl refl refl refl refl }

  round_learns : (p o : Round) → p ≡ o → IsTrue (record c { shared = with_round c.shared k.pass p }) (record k { round = o })
  round_learns p o e = record { pass = h.pass; seen = h.seen; own = λ i. record (h.own i) { round = (ap (λ b. if b then p else c.rounds k.pass) (by_itself k.pass) ∙ e) i }; values = same_values (record c { shared = with_round c.shared k.pass p }) refl refl refl refl refl refl }

-- Mark: the record is not the pass's any more, and a node is unlocked
mark_learns : (c : Core) (k : Known) (r : Rec) (epoch since last : ℕ) → Knows c k → c.fate r ≡ UnlinkedBy since last k.pass →
    IsTrue (record c { shared = marked c.shared r epoch (c.fate r) }) (record k { own = without_record r k.own; values = [] })
mark_learns c k r epoch since last h e = subst (λ f. IsTrue (record c { shared = marked c.shared r epoch f }) (record k { own = without_record r k.own; values = [] })) (sym e)
    (changes (record c { shared = unlocked c.shared r }) (record k { values = [] }) (record {
      pass = h.pass;
      counted = h.counted;
      seen = h.seen;
      own = same_unlocked c k.pass r (ap is_in_tree e) ∙ h.own;
      values = no_values (record c { shared = unlocked c.shared r }) k.pass;
    })
    r (UnlinkedBy since last k.pass) (Marked since last epoch) (without_record r) (drop_at r) e refl refl (dropped r (c.words r) (holding_of k.pass (UnlinkedBy since last k.pass))))

-- A bulk load
load_learns : (layout : Layout) (k : Known) (b : List ℕ) → Knows (opening layout) k → IsTrue (loaded layout k.pass b) (load_learned (opening layout) (loaded_tree layout b) k)
load_learns layout k b h = record {
  pass = h.pass;
  seen = record {
    front = ([], sym (append-nil _), All-from_recursion (λ z. z.pass ≢ k.pass) [] tt);
    fresh = (map (added_change k.pass) (items_of (loaded_tree layout b)), refl);
    facts = All-weaker (IsFact (opening layout).past) (IsFact (loaded_past (loaded_tree layout b))) (fact_grown (opening layout).past (loaded_past (loaded_tree layout b)) (load_grows layout k.pass b)) k.facts h.seen.facts;
  };
  own = load_shares layout k.pass b k.pass ∙ h.own;
  values = no_values (loaded layout k.pass b) k.pass;
}

-- Publish
module _ (c : Core) (k : Known) (spot : Spot) (w : ℕ) (law : IsLawful c) (h : Knows c k) (l : IsLegalPublish c k.pass spot w) where
  abbrev gone : Rec → Bool
  gone r = not (is_linked (next_tree c spot w) r)

  abbrev left : Owned → Bool
  left o = not (is_linked (next_tree c spot w) o.rec)

  abbrev unlinked : Rec → Owned
  unlinked r = owned_unlinked c r (c.fate r)

  -- what the pass has of a record then
  listed : (r : Rec) → of_record r (own_after c (next_tree c spot w) k.own) ≡ map unlinked (filter gone (once r (is_in_tree (c.fate r)))) ++ filter left (owned r (c.words r) (holding_of k.pass (c.fate r)))
  listed r = filter-append (λ o. same_rec r o.rec) (map unlinked (filter gone (records_in (c.past.version c.past.now)))) (filter left k.own) ∙ (λ i. come i ++ stay i)
    where
      rec_is : (i : Rec) (f : Fate) → (owned_unlinked c i f).rec ≡ i
      rec_is i (InTree s) = refl
      rec_is i _ = refl

      come : of_record r (map unlinked (filter gone (records_in (c.past.version c.past.now)))) ≡ map unlinked (filter gone (once r (is_in_tree (c.fate r))))
      come = filter_mapped (λ o. same_rec r o.rec) (same_rec r) unlinked (λ i. ap (same_rec r) (rec_is i (c.fate i))) (filter gone (records_in (c.past.version c.past.now))) ∙
          ap (map unlinked) (filter_swapped (same_rec r) gone (records_in (c.past.version c.past.now)) ∙ ap (filter gone) (listed_once c law r))

      stay : of_record r (filter left k.own) ≡ filter left (owned r (c.words r) (holding_of k.pass (c.fate r)))
      stay = filter_swapped (λ (o : Owned). same_rec r o.rec) left k.own ∙ ap (filter left) (sym (had c k h r))

  own_then : (r : Rec) → owned r (stored_words c spot w r) (holding_of k.pass (next_fate c.past.now k.pass (is_linked (next_tree c spot w) r) (c.fate r))) ≡
      map unlinked (filter gone (once r (is_in_tree (c.fate r)))) ++ filter left (owned r (c.words r) (holding_of k.pass (c.fate r)))
  own_then r = go (linking c k.pass spot w law l r)
    where
      kept : is_linked (next_tree c spot w) r ≡ false → (g : Option Holding) → owned r (c.words r) g ≡ filter left (owned r (c.words r) g)
      kept e None = refl
      kept e (Some g) = rw e refl

      unlinks : is_linked (next_tree c spot w) r ≡ false → (f : Fate) → c.fate r ≡ f → owned r (c.words r) (holding_of k.pass (next_fate c.past.now k.pass false f)) ≡
          map unlinked (filter gone (once r (is_in_tree f))) ++ filter left (owned r (c.words r) (holding_of k.pass f))
      unlinks e (InTree s) f = rw (e, f, by_itself k.pass) refl
      unlinks e Free f = refl
      unlinks e (HeldBy p) f = kept e (holding_of k.pass (HeldBy p))
      unlinks e (ReadyBy p) f = kept e (holding_of k.pass (ReadyBy p))
      unlinks e (UnlinkedBy s n p) f = kept e (holding_of k.pass (UnlinkedBy s n p))
      unlinks e (Marked s n p) f = refl

      go : Linking c k.pass spot w law l r → owned r (stored_words c spot w r) (holding_of k.pass (next_fate c.past.now k.pass (is_linked (next_tree c spot w) r) (c.fate r))) ≡
          map unlinked (filter gone (once r (is_in_tree (c.fate r)))) ++ filter left (owned r (c.words r) (holding_of k.pass (c.fate r)))
      go (stays s f e) = rw (f, e) refl
      go (comes f e) = rw (f, by_itself k.pass, e) refl
      go (out n e same) = ap (λ z. owned r z (holding_of k.pass (next_fate c.past.now k.pass (is_linked (next_tree c spot w) r) (c.fate r)))) same ∙
          (ap (λ b. owned r (c.words r) (holding_of k.pass (next_fate c.past.now k.pass b (c.fate r)))) e ∙ unlinks e (c.fate r) refl)

  -- and of a node's lock
  locks_then : (n : ℕ) → locked n (stored_words c spot w (a_node n)) (is_in_tree (next_fate c.past.now k.pass (is_linked (next_tree c spot w) (a_node n)) (c.fate (a_node n))) && is_by k.pass (c.lock n)) ≡
      of_node n (locks_after (stored_words c spot w) (next_tree c spot w) k.locks)
  locks_then n = go (cases_Bool (is_by k.pass (c.lock n))) ∙ sym through
    where
      linked : Locked → Bool
      linked x = is_linked (next_tree c spot w) (a_node x.node)

      words : Locked → Locked
      words = locked_with_words (stored_words c spot w)

      through : of_node n (locks_after (stored_words c spot w) (next_tree c spot w) k.locks) ≡ map words (filter linked (locked n (c.words (a_node n)) (is_in_tree (c.fate (a_node n)) && is_by k.pass (c.lock n))))
      through = filter_mapped (λ (x : Locked). nat_eq n x.node) (λ (x : Locked). nat_eq n x.node) words (λ x. refl) (filter linked k.locks) ∙
          ap (map words) (filter_swapped (λ (x : Locked). nat_eq n x.node) linked k.locks ∙ ap (filter linked) (sym (had_lock c k h n)))

      lockable : (f : Fate) → IsLockable k.pass f → (b : Bool) → is_linked (next_tree c spot w) (a_node n) ≡ b →
          locked n (stored_words c spot w (a_node n)) (is_in_tree (next_fate c.past.now k.pass b f) && true) ≡ map words (filter linked (locked n (c.words (a_node n)) (is_in_tree f && true)))
      lockable (InTree s) m true e = rw e refl
      lockable (InTree s) m false e = rw e refl
      lockable (UnlinkedBy s f p) m true e = refl
      lockable (UnlinkedBy s f p) m false e = refl
      lockable _ m b e = absurd m

      go : ((is_by k.pass (c.lock n) ≡ true) ⊎ (is_by k.pass (c.lock n) ≡ false)) →
          locked n (stored_words c spot w (a_node n)) (is_in_tree (next_fate c.past.now k.pass (is_linked (next_tree c spot w) (a_node n)) (c.fate (a_node n))) && is_by k.pass (c.lock n)) ≡
          map words (filter linked (locked n (c.words (a_node n)) (is_in_tree (c.fate (a_node n)) && is_by k.pass (c.lock n))))
      go (inl e) = rw e (lockable (c.fate (a_node n)) (law.core.locked n k.pass (is_by_true k.pass (c.lock n) e)) (is_linked (next_tree c spot w) (a_node n)) refl)
      go (inr e) = rw (e, and_false (is_in_tree (c.fate (a_node n))), and_false (is_in_tree (next_fate c.past.now k.pass (is_linked (next_tree c spot w) (a_node n)) (c.fate (a_node n))))) refl

  anchor_then : (s : Spot) → IsLockedAt c k.pass s → anchored_at (stored_root c s w) (is_by k.pass c.anchor) ≡ anchor_after s (stored_root c s w) k.anchor
  anchor_then Root a = rw (a, by_itself k.pass) refl
  anchor_then (Slot n j) a = ap (λ (z : Share). z.anchor) h.own
  anchor_then (Value m) a = ap (λ (z : Share). z.anchor) h.own

  publish_learns : IsTrue (after c k.pass (Publish spot w)) (publish_learned c spot w k)
  publish_learns = record {
    pass = h.pass;
    seen = record {
      front = ([], sym (append-nil _), All-from_recursion (λ z. z.pass ≢ k.pass) [] tt);
      fresh = longer h.seen.front h.seen.fresh;
      facts = All-weaker (IsFact c.past) (IsFact _) (fact_grown c.past _ (record { longer = omega arith; kept = λ i b. version_old c.past.version (suc c.past.now) (next_tree c spot w) i (omega arith) })) k.facts h.seen.facts;
    };
    own = λ i. record (h.own i) { own = λ r. (own_then r ∙ sym (listed r)) i; locks = λ n. locks_then n i; anchor = anchor_then spot l.locked i };
    values = no_values (after c k.pass (Publish spot w)) k.pass;
  }
    where
      x : List Change
      x = next_change c k.pass spot w ∷ []

      longer : OthersGoOn k.pass k.front c.changes → BeginsWith k.front k.fresh.front → BeginsWith (c.changes ++ next_change c k.pass spot w ∷ []) k.fresh.front
      longer (more, e, o) (rest, f) = (
        rest ++ (more ++ x),
        ap (λ (z : List Change). z ++ x) e ∙
            (append_assoc k.front more x ∙ (ap (λ (z : List Change). z ++ (more ++ x)) f ∙ append_assoc k.fresh.front rest (more ++ x))),
      )

-- What the pass knows after a step, before the step is counted.
learns_by : (c : Core) (k : Known) (act : Act) → IsLawful c → Knows c k → Legal c k.pass act → IsTrue (after c k.pass act) (learned_by c act k)
learns_by c k (Claim r found) law h (a, b) = claim_learns c k h r found (c.fate r) refl
learns_by c k (Fill r offset w) law h (a, b) = fill_learns c k h r offset w law b.1
learns_by c k (Ready r) law h (a, b) = changes c k h r (HeldBy k.pass) (ReadyBy k.pass) (map (with_holding r IsReady)) (hold_at r IsReady) b.1 refl refl (rw (by_itself k.pass, same_rec_refl r) refl)
learns_by c k (Release r) law h (a, b) = changes c k h r (HeldBy k.pass) Free (without_record r) (drop_at r) b.1 refl refl (dropped r (c.words r) (holding_of k.pass (HeldBy k.pass)))
learns_by c k (LoadRef Root w) law h l = root_learned c k law h
learns_by c k (LoadRef (Slot n j) w) law h (a, b) = fact_learned c k (λ since. Placed since c.past.now n j (entry_of (record_word c (a_node n) (26 + j)))) law h (λ since r lo. slot_fact c law since r n j b.1)
learns_by c k (LoadRef (Value l) w) law h (a, b) = value_learned c k l law h
learns_by c k (LoadFixed r offset w) law h (a, b) = fact_learned c k (λ since. Fixed since c.past.now r offset w) law h (λ since x lo. subst (λ z. IsFact c.past (Fixed since c.past.now r offset z)) (sym b.2) (fixed_fact c law since x r offset b.1))
learns_by c k (Lock Anchor found) law h l = anchor_learns c k h found c.anchor refl
learns_by c k (Lock (NodeTarget n) found) law h (a, b) = go (cases_Bool (eqb found 2))
  where
    go : ((eqb found 2 ≡ true) ⊎ (eqb found 2 ≡ false)) → IsTrue (after c k.pass (Lock (NodeTarget n) found)) (node_learned c n found k)
    go (inl e) = rw e (lock_taken c k h n (b.2 (eqb-true found 2 e)) (unlocked_node c law n (sym b.1 ∙ eqb-true found 2 e)))
    go (inr e) = rw e (with_failed c k (a_lock (blocking_pass_of c n (c.fate (a_node n)))) (target_word (NodeTarget n)) found h)
learns_by c k (Unlock Anchor) law h l = anchor_given c k h
learns_by c k (Unlock (NodeTarget n)) law h l = lock_given c k h n
learns_by c k (Publish spot w) law h (a, b) = publish_learns c k spot w law h (legal_publish c k.pass spot w law b)
learns_by c k (Mark r epoch) law h (a, b) = mark_learns c k r epoch b.2.0 b.2.1 h b.2.2
learns_by c k (LoadEpoch w) law h l = round_learns c k h _ _ refl
learns_by c k (Advance expected found) law h l = is_true (knows_kept c _ k (advance_frame c k.pass expected) h)
learns_by c k (SetPin w) law h l = pin_learns c k h _
learns_by c k ClearPin law h l = pin_learns c k h None
learns_by c k (LoadPin o w) law h l = round_learns c k h _ _ (ap (λ (s : Share). let z = s.round in let x : Round = record { epoch = z.epoch; version = z.version; bound = lowered z.bound (c.pins o); seen = o ∷ z.seen } in x) h.own)
learns_by c k (LoadState r w) law h l = elim (cases_Bool (eqb w 0)) [ inl e ↦ rw e (is_true h) | inr e ↦ rw e (with_failed c k (a_load (holder_of (c.fate r))) (word_of r 0) w h) ]
learns_by c k (GiveBack r epoch found) law h l = is_true (knows_kept c _ k (give_back_frame c k.pass r epoch (c.fate r) refl) h)
learns_by c k (Load load) law h (a, (e, b)) =
    subst (λ (z : Core). Knows z k → IsTrue (after z k.pass (Load load)) (load_learned z (loaded_tree z.layout load.now) k)) (sym e) (load_learns c.layout k load.now) h

-- The step is counted, and with it the last load of the root and what failed.
module _ (c : Core) (k : Known) (h : AreCounted k.steps k.fresh.step k.failed) where
  abbrev IsNext : Known → Type 0
  IsNext j = AreCounted (k.steps + 1) j.fresh.step j.failed

  before : (last : ℕ) → last < k.steps + 1 → AreCounted (k.steps + 1) last k.failed
  before last low = record { loaded = low; failed = All-weaker (λ f. f.step < k.steps) (λ f. f.step < k.steps + 1) (λ f b. omega arith) k.failed h.failed }

  -- no step is remembered
  same_next : AreCounted (k.steps + 1) k.fresh.step k.failed
  same_next = before k.fresh.step (let l = h.loaded in omega arith)

  failed_next : (act : FailedAct) (location : Location) (w : ℕ) → IsNext (failed_with k act location w)
  failed_next act location w = record { loaded = same_next.loaded; failed = All-cons (λ f. f.step < k.steps + 1) _ k.failed (omega arith) same_next.failed }

  claim_next : (r : Rec) (found : ℕ) (f : Fate) → IsNext (claim_learned c r found f k)
  claim_next r found Free = same_next
  claim_next r found f = failed_next (a_claim (holder_of f)) (word_of r 0) found

  anchor_next : (found : ℕ) (o : Option ℕ) → IsNext (anchor_learned c found o k)
  anchor_next found None = same_next
  anchor_next found (Some p) = failed_next (a_lock (Some p)) (target_word Anchor) found

  either_next : (b : Bool) (i j : Known) → IsNext i → IsNext j → IsNext (if b then i else j)
  either_next true i j x y = x
  either_next false i j x y = y

  next_by : (act : Act) → IsNext (learned_by c act k)
  next_by (Claim r found) = claim_next r found (c.fate r)
  next_by (Lock Anchor found) = anchor_next found c.anchor
  next_by (Lock (NodeTarget n) found) = either_next (nat_eq found 2) _ _ same_next (failed_next (a_lock (blocking_pass_of c n (c.fate (a_node n)))) (target_word (NodeTarget n)) found)
  next_by (LoadState r w) = either_next (nat_eq w 0) _ _ same_next (failed_next (a_load (holder_of (c.fate r))) (word_of r 0) w)
  next_by (LoadRef Root w) = before k.steps (omega arith)
  next_by (Load load) = before k.steps (omega arith)
  next_by (LoadRef (Slot n j) w) = same_next
  next_by (LoadRef (Value l) w) = same_next
  next_by (Unlock Anchor) = same_next
  next_by (Unlock (NodeTarget n)) = same_next
  next_by _ = same_next

-- What a pass knows after its own step is true.
pub learns : (c : Core) (k : Known) (act : Act) → IsLawful c → Knows c k → Legal c k.pass act → Knows (after c k.pass act) (learned c act k)
learns c k act law h l = let t = learns_by c k act law h l in record { pass = t.pass; counted = next_by c k h.counted act; seen = t.seen; own = t.own; values = t.values }
