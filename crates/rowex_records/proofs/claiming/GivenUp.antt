-- The records that a pass holds, and giving up all of them, one after the other.
use Rattle.rowex_records.proofs.Common.{◌≡◌, ◌≢◌, inl, inr, ℕ, zero, suc, ◌+◌, ◌<◌, List, [], ◌∷◌, ◌++◌, length, map, take, drop, get_or, Bool, true, false, refl, sym, ap, subst, ◌∙◌, arith, add-one, All, Contains, drop_all, map-append, take_all, take_more, All-nil, All-cons, All-head, All-tail, Rec, same_rec, same_rec_refl, Release, Event, Held, Known, Owned, without_record, IsClaimed, Does, TableView, SeatView, IsOneOf}
use Rattle.std.proofs.Math.Seq.{drop-cons}
use Rattle.rowex_records.specs.Records.{owning, HoldsJust, GivesUp, GivesUpAll}
use Rattle.rowex_records.proofs.Records.{gives_up_keeps}
use Rattle.rowex_records.proofs.Claims.Making.{owns_none, owns_append}

-- a pass that has just no records has none
held_none : (k : Known) → HoldsJust k [] → k.own ≡ []
held_none k holds = go k.own refl holds.only
  where
    go : (own : List Owned) → k.own ≡ own → All (λ o. (o.holding ≡ Held) × Contains [] o.rec) own → k.own ≡ []
    go [] is all = is
    go (o ∷ own) is all = let none = (All-head (λ o. (o.holding ≡ Held) × Contains [] o.rec) o own all).1 in let low = none.1 in absurd (omega arith)

not_first : (r s : Rec) (recs : List Rec) → Contains (r ∷ recs) s → s ≢ r → Contains recs s
not_first r s recs (zero, low, is) ne = absurd (ne (sym is))
not_first r s recs (suc i, low, is) ne = (i, omega arith, is)

-- with one of them given up, the others are left
left_over : (r : Rec) (recs : List Rec) (own : List Owned) → All (λ o. (o.holding ≡ Held) × Contains (r ∷ recs) o.rec) own → All (λ o. (o.holding ≡ Held) × Contains recs o.rec) (without_record r own)
left_over r recs [] all = All-nil (λ o. (o.holding ≡ Held) × Contains recs o.rec)
left_over r recs (o ∷ own) all =
    let first = All-head (λ o. (o.holding ≡ Held) × Contains (r ∷ recs) o.rec) o own all in
    go first (left_over r recs own (All-tail (λ o. (o.holding ≡ Held) × Contains (r ∷ recs) o.rec) o own all)) (same_rec o.rec r) refl
  where
    go : (o.holding ≡ Held) × Contains (r ∷ recs) o.rec → All (λ o. (o.holding ≡ Held) × Contains recs o.rec) (without_record r own) → (b : Bool) → same_rec o.rec r ≡ b
        → All (λ o. (o.holding ≡ Held) × Contains recs o.rec) (without_record r (o ∷ own))
    go first rest true e = rw e rest
    go first rest false e = rw e (All-cons (λ o. (o.holding ≡ Held) × Contains recs o.rec) o (without_record r own) (first.0, not_first r o.rec recs first.1 (apart e)) rest)
      where
        apart : same_rec o.rec r ≡ false → o.rec ≢ r
        apart e is = let yes : same_rec o.rec r ≡ true = ap (λ s. same_rec s r) is ∙ same_rec_refl r in cc

module _ {G : Type 0} (table : TableView) (becomes : G → Event → G → Type 0) where
  holds_fewer : (r : Rec) (recs : List Rec) (a b : SeatView × G) → HoldsJust a.0.known (r ∷ recs) → GivesUp table becomes r a b → HoldsJust b.0.known recs
  holds_fewer r recs a b holds gives = record {
    only = subst (λ own. All (λ o. (o.holding ≡ Held) × Contains recs o.rec) own) (sym gives.own) (left_over r recs a.0.known.own holds.only);
    each = both recs holds.apart.0 (All-tail (IsClaimed a.0.known) r recs holds.each);
    apart = holds.apart.1;
  }
    where
      both : (rest : List Rec) → (IsOneOf r rest → ⊥) → All (IsClaimed a.0.known) rest → All (IsClaimed b.0.known) rest
      both [] none held = All-nil (IsClaimed b.0.known)
      both (s ∷ rest) none held =
          let h = All-head (IsClaimed a.0.known) s rest held in
          All-cons (IsClaimed b.0.known) s rest
          (h.0, h.1, gives_up_keeps table becomes r s Held h.0 a b (λ e. none (inl (sym e))) gives h.2)
          (both rest (λ h. none (inr h)) (All-tail (IsClaimed a.0.known) s rest held))

  -- The first i records are given up, and the pass has just the others.
  pub record GivesUpSome (recs : List Rec) (i : ℕ) (a b : SeatView × G) : Type 0 where
    pub does : Does table becomes owning (map (λ r. Release r) (take i recs)) a b
    pub holds : HoldsJust b.0.known (drop i recs)

  pub gives_up_none : (recs : List Rec) (a : SeatView × G) → HoldsJust a.0.known recs → GivesUpSome recs 0 a a
  gives_up_none recs a holds = record { does = owns_none table becomes a; holds = holds }

  pub gives_up_more : (recs : List Rec) (i : ℕ) (r : Rec) (a m b : SeatView × G) → i < length recs → r ≡ get_or recs i r → GivesUpSome recs i a m → GivesUp table becomes r m b → GivesUpSome recs (i + 1) a b
  gives_up_more recs i r a m b low is some gives = record {
    does = subst (λ acts. Does table becomes owning acts a b) (sym acts_are) (owns_append table becomes (map (λ z. Release z) (take i recs)) (Release r ∷ []) a m b some.does gives.does);
    holds = subst (λ n. HoldsJust b.0.known (drop n recs)) (sym (add-one i)) (holds_fewer r (drop (suc i) recs) m b (subst (HoldsJust m.0.known) next some.holds) gives);
  }
    where
      next : drop i recs ≡ r ∷ drop (suc i) recs
      next = drop-cons recs i r low ∙ ap (λ z. z ∷ drop (suc i) recs) (sym is)

      acts_are : map (λ z. Release z) (take (i + 1) recs) ≡ map (λ z. Release z) (take i recs) ++ Release r ∷ []
      acts_are = ap (map (λ z. Release z)) (take_more recs i r low ∙ ap (λ z. take i recs ++ z ∷ []) (sym is)) ∙ map-append (λ z. Release z) (take i recs) (r ∷ [])

  -- the next of them is held
  pub next_held : (recs : List Rec) (i : ℕ) (r : Rec) (a b : SeatView × G) → i < length recs → r ≡ get_or recs i r → GivesUpSome recs i a b → IsClaimed b.0.known r
  next_held recs i r a b low is some =
      All-head (IsClaimed b.0.known) r (drop (suc i) recs) (subst (λ l. All (IsClaimed b.0.known) l) (drop-cons recs i r low ∙ ap (λ z. z ∷ drop (suc i) recs) (sym is)) some.holds.each)

  pub gives_up_all : (recs : List Rec) (i : ℕ) (a b : SeatView × G) → GivesUpSome recs i a b → i ≡ length recs → GivesUpAll table becomes recs a b
  gives_up_all recs i a b some all = record {
    does = subst (λ l. Does table becomes owning (map (λ r. Release r) l) a b) (take_all i recs (omega arith)) some.does;
    own = held_none b.0.known (subst (HoldsJust b.0.known) (drop_all i recs (omega arith)) some.holds);
  }

-- What a pass has claimed it holds, and fills leave it so
