-- How long parts of a list are, how many steps claims make, and how many node records are made.
use Rattle.rowex_writing.proofs.Common.{◌≡◌, inl, inr, ℕ, zero, suc, ◌+◌, ◌*◌, ◌≤◌, List, [], ◌∷◌, ◌++◌, length, Err, Ok, Result, refl, ap, arith, All, Contains, All-cons, All-head, All-nil, All-tail, Rec, a_node, a_leaf, Layout, AreApart, IsOneOf, Item, Act, Claim, LoadState, InTurn, Misses, ClaimsOne, wrapped, length-append, ◌<◌, Event, Made, TableView, SeatView, Claims, FindsFree, FindsNone, MissesOne, runs_count}
use Rattle.rowex_writing.specs.build.Building.{HasLeafMade, IsBuilding}
use Rattle.rowex_writing.specs.plan.Counts.{deed_steps, leaf_steps, all_levels_steps}
use Rattle.rowex_writing.specs.build.Walks.{nodes_among}

-- ---- parts of a list
-- one record is made
pub made_one : {table : TableView} {a : SeatView} {made : List Rec} {m : Made} → IsBuilding table a made (m ∷ []) → length made ≡ 1
made_one b = ap length b.listed

-- a try takes a step, and so do some in turn
miss_some : (rec : Rec) (acts : List Act) → Misses rec acts → 1 ≤ length acts
miss_some rec acts (word, low, inl is) = let one = ap length is in omega (arith, one)
miss_some rec acts (word, low, inr is) = let two = ap length is in omega (arith, two)

miss_few : (rec : Rec) (acts : List Act) → Misses rec acts → length acts ≤ 2
miss_few rec acts (word, low, inl is) = let one = ap length is in omega (arith, one)
miss_few rec acts (word, low, inr is) = let two = ap length is in omega (arith, two)

turns_some : (turn : ℕ → Rec) (m : ℕ) (acts : List Act) → 0 < m → InTurn (λ i. Misses (turn i)) m acts → 1 ≤ length acts
turns_some turn zero acts some in_turn = absurd (omega arith)
turns_some turn (suc m) acts some (before, last, first, misses, is) =
    let both = ap length is in let sum = length-append before last in let more = miss_some (turn m) last misses in omega (arith, both, sum, more)

module _ {G : Type 0} (table : TableView) (becomes : G → Event → G → Type 0) where
  pub none_rises : (kind : ℕ → Rec) (n from m : ℕ) (a b : SeatView × G) → FindsNone table becomes kind n from m a b → 0 < m → a.0.known.steps < b.0.known.steps
  none_rises kind n from m a b f some =
      let z = runs_count table becomes f.tries a b f.does.steps in let more = turns_some (λ i. kind (wrapped n from i)) m f.tries some f.in_turn in omega (arith, z, more)

  pub miss_count : (rec : Rec) (a b : SeatView × G) → MissesOne table becomes rec a b → (a.0.known.steps < b.0.known.steps) × (b.0.known.steps ≤ a.0.known.steps + 2)
  miss_count rec a b missed =
      let z = runs_count table becomes missed.acts a b missed.does.steps in
      let some = miss_some rec missed.acts missed.misses in
      let few = miss_few rec missed.acts missed.misses in
      (omega (arith, z, some), omega (arith, z, few))

  pub one_rises : (rec : Rec) (a b : SeatView × G) → ClaimsOne table becomes rec a b → a.0.known.steps < b.0.known.steps
  one_rises rec a b one = let z = runs_count table becomes (LoadState rec 0 ∷ Claim rec 0 ∷ []) a b one.does.steps in omega (arith, z)

  pub claims_rises : (kind : ℕ → Rec) (n from number : ℕ) (a b : SeatView × G) → Claims table becomes kind n from number a b → a.0.known.steps < b.0.known.steps
  claims_rises kind n from number a b c =
      let z = runs_count table becomes c.none.tries a c.before c.none.does.steps in let more = one_rises (kind number) c.before b c.one in omega (arith, z, more)

  pub none_count : (kind : ℕ → Rec) (n from m : ℕ) (a b : SeatView × G) → FindsNone table becomes kind n from m a b → b.0.known.steps ≤ a.0.known.steps + 2 * m
  none_count kind n from m a b f = let z = runs_count table becomes f.tries a b f.does.steps in omega (arith, z, f.few)

  pub claims_count : (kind : ℕ → Rec) (n from number : ℕ) (a b : SeatView × G) (c : Claims table becomes kind n from number a b) → b.0.known.steps ≤ a.0.known.steps + 2 * (c.tried + 1)
  claims_count kind n from number a b c =
      let before = none_count kind n from c.tried a c.before c.none in
      let one = runs_count table becomes (LoadState (kind number) 0 ∷ Claim (kind number) 0 ∷ []) c.before b c.one.does.steps in
      omega (arith, before, one)

  pub free_count : (kind : ℕ → Rec) (n from m number : ℕ) (a b : SeatView × G) → FindsFree table becomes kind n from m number a b → b.0.known.steps ≤ a.0.known.steps + 2 * m
  free_count kind n from m number a b f =
      let before = none_count kind n from f.tried a f.before f.none in
      let one = runs_count table becomes (LoadState (kind number) 0 ∷ []) f.before b (b, f.free, refl) in
      omega (arith, before, one, f.low)

-- ---- node records among those that are made
-- where a leaf alone is made, none is
pub no_nodes : {table : TableView} {a : SeatView} {made : List Rec} {x : Item} → HasLeafMade table a made x → length (nodes_among made) ≡ 0
no_nodes leaf = ap (λ made. length (nodes_among made)) leaf.building.listed

-- one node record more is one more
pub nodes_pushed : (made : List Rec) (n : ℕ) → length (nodes_among (made ++ a_node n ∷ [])) ≡ length (nodes_among made) + 1
nodes_pushed [] n = refl
nodes_pushed (a_node m ∷ made) n = let rest = nodes_pushed made n in omega arith
nodes_pushed (a_leaf m ∷ made) n = nodes_pushed made n

-- a node's is one of them
pub among_nodes : (made : List Rec) (n : ℕ) → Contains made (a_node n) → Contains (nodes_among made) (a_node n)
among_nodes [] n (i, low, is) = absurd (omega arith)
among_nodes (a_node m ∷ made) n (zero, low, is) = (0, omega arith, is)
among_nodes (a_node m ∷ made) n (suc i, low, is) = let (at, within, same) = among_nodes made n (i, omega arith, is) in (suc at, omega arith, same)
among_nodes (a_leaf m ∷ made) n (zero, low, is) = absurd cc
among_nodes (a_leaf m ∷ made) n (suc i, low, is) = among_nodes made n (i, omega arith, is)

-- what holds of each record holds of each node's
pub all_nodes : (P : Rec → Type 0) (made : List Rec) → All P made → All P (nodes_among made)
all_nodes P [] all = All-nil P
all_nodes P (a_node n ∷ made) all = All-cons P (a_node n) (nodes_among made) (All-head P (a_node n) made all) (all_nodes P made (All-tail P (a_node n) made all))
all_nodes P (a_leaf n ∷ made) all = all_nodes P made (All-tail P (a_leaf n) made all)

of_nodes : (r : Rec) (made : List Rec) → IsOneOf r (nodes_among made) → IsOneOf r made
of_nodes r [] h = h
of_nodes r (a_node n ∷ made) (inl e) = inl e
of_nodes r (a_node n ∷ made) (inr h) = inr (of_nodes r made h)
of_nodes r (a_leaf n ∷ made) h = inr (of_nodes r made h)

-- records that stand in a list once do so among its nodes'
pub nodes_apart : (made : List Rec) → AreApart made → AreApart (nodes_among made)
nodes_apart [] apart = tt
nodes_apart (a_node n ∷ made) apart = ((λ h. apart.0 (of_nodes (a_node n) made h)), nodes_apart made apart.1)
nodes_apart (a_leaf n ∷ made) apart = nodes_apart made apart.1

-- a deed takes these steps at least, with or without a record
pub deed_least : {X E : Type 0} (layout : Layout) (locks : ℕ) (r : Result X E) → leaf_steps layout + all_levels_steps layout locks ≤ deed_steps layout locks r
deed_least layout locks (Ok made) = omega arith
deed_least layout locks (Err full) = omega arith
