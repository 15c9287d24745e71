-- What a pass knows stays true while other passes make their steps.
use Rattle.rowex_core.proofs.Common.{◌≡◌, ◌≢◌, inl, inr, ℕ, suc, ◌<◌, ◌≤◌, List, refl, sym, ap, ◌∙◌, subst, le_trans, arith, Some, All-append, All-weaker, Tree, Rec, a_node, a_leaf, Past, Stands, IsGrown, stands_grown, Change, BeginsWith, Layout, begins_on, others_begin, others_on}
use Rattle.rowex_core.specs.declared.event.Act.{Act}
use Rattle.rowex_core.specs.declared.known.Fact.{Fact}
use Rattle.rowex_core.specs.declared.known.Fact.TheVariants.{Rooted, Placed, Fixed, Valued}
use Rattle.rowex_core.specs.declared.known.Known.{Known}
use Rattle.rowex_core.specs.declared.known.View.{View}
use Rattle.rowex_core.specs.declared.known.View.TheVariants.{Spent, Dealer, Founder, Pass, Pair, Witness, Follower}
use Rattle.rowex_core.specs.Reading.{entry_in, head_value, HasWordAt}
use Rattle.rowex_core.specs.Cores.{Core, IsLawful}
use Rattle.rowex_core.specs.Events.{Legal, after}
use Rattle.rowex_core.specs.Frames.{IsFrame}
use Rattle.rowex_core.specs.Knowing.{StoodBetween, StoodAs, HoldsIfStood, IsFact, Knows, NoChangeBy, IsUntouched, Knowing, IsViewOf}
use Rattle.rowex_core.specs.Statements.{RootLoadSeesAll}
use Rattle.rowex_core.proofs.Frames.{frame}
use Rattle.rowex_core.proofs.Cores.Valuing.{namer_shared, loaded_kept}

-- Facts of the past

stands_before : (a b : Past) → IsGrown a b → (n : ℕ) (r : Rec) (u : Tree) → n ≤ a.now → Stands b n r u → Stands a n r u
stands_before a b g n r u h st =
    record { tree = st.tree; is_version = sym (g.kept n h) ∙ st.is_version; within = st.within; is_record = st.is_record }

stood_as_grown : (a b : Past) → IsGrown a b → (since at : ℕ) (r : Rec) (P : Tree → Type 0) → at ≤ a.now → StoodAs a since at r P → StoodAs b since at r P
stood_as_grown a b g since at r P h (n, u, lo, hi, st, p) = (n, u, lo, hi, stands_grown a b g n r u (le_trans hi h) st, p)

stood_before : (a b : Past) → IsGrown a b → (since at : ℕ) (r : Rec) → at ≤ a.now → StoodBetween b since at r → StoodBetween a since at r
stood_before a b g since at r h (n, u, lo, hi, st) = (n, u, lo, hi, stands_before a b g n r u (le_trans hi h) st)

found_grown : (a b : Past) → IsGrown a b → (since at : ℕ) (r : Rec) (P : Tree → Type 0) → at ≤ a.now → HoldsIfStood a since at r P → HoldsIfStood b since at r P
found_grown a b g since at r P h f m lo s = stood_as_grown a b g m at r P h (f m lo (stood_before a b g m at r h s))

pub fact_grown : (a b : Past) → IsGrown a b → (f : Fact) → IsFact a f → IsFact b f
fact_grown a b g (Rooted since at e) (lo, hi, h) = (lo, le_trans hi g.longer, ap Rattle.rowex_core.specs.Reading.root_of (g.kept at hi) ∙ h)
fact_grown a b g (Placed since at n j e) (hi, h) = (le_trans hi g.longer, found_grown a b g since at (a_node n) (λ u. entry_in u j ≡ e) hi h)
fact_grown a b g (Fixed since at r offset w) (hi, h) = (le_trans hi g.longer, found_grown a b g since at r (λ u. HasWordAt u offset w) hi h)
fact_grown a b g (Valued since at l v) (hi, h) = (le_trans hi g.longer, found_grown a b g since at (a_leaf l) (λ u. head_value u ≡ Some v) hi h)

-- The whole

pub knows_kept : (c d : Core) (k : Known) → IsFrame k.pass c d → Knows c k → Knows d k
knows_kept c d k f h = record {
  pass = subst (λ (z : Layout). k.pass < z.passes) (sym f.layout) h.pass;
  counted = h.counted;
  seen = record {
    front = others_on k.pass k.front c.changes d.changes h.seen.front f.changes;
    fresh = h.seen.fresh;
    facts = All-weaker (IsFact c.past) (IsFact d.past) (fact_grown c.past d.past f.past) k.facts h.seen.facts;
  };
  own = f.own ∙ h.own;
  values = loaded_kept c d k.pass (namer_shared c d k.pass (sym f.layout) f.own) f.values k.values h.values;
}

untouched_kept : (c d : Core) (q : ℕ) → IsFrame q c d → IsUntouched c q → IsUntouched d q
untouched_kept c d q f h = record {
  changes = subst (NoChangeBy q) (sym f.changes.1) (All-append (λ z. z.pass ≢ q) c.changes f.changes.0 h.changes f.changes.2);
  own = f.own ∙ h.own;
}

-- changes that have been made stay made, whoever makes the step
witness_kept : (c : Core) (p : ℕ) (act : Act) (front : List Change) → IsLawful c → Legal c p act → BeginsWith c.changes front → BeginsWith (after c p act).changes front
witness_kept c p act front law l h =
    begins_on front c.changes (after c p act).changes h (others_begin (suc p) c.changes (after c p act).changes (frame c p (suc p) act (λ e. omega arith) law l).changes)

-- What a pass knew to have seen, the changes begin with.
pub seen_by : (c : Core) (o : Known) → Knows c o → BeginsWith c.changes o.front
seen_by c o h = others_begin o.pass o.front c.changes h.seen.front

-- A load of the root shows all changes.
pub sees_all : RootLoadSeesAll
sees_all c k w law h l = (refl, refl, λ o known. seen_by c o known)

-- A legal step of one pass leaves true what any other view says.
pub keeps : (c : Core) (p : ℕ) (act : Act) (v : View) → IsLawful c → Legal c p act → ¬ (IsViewOf v p) → Knowing c v → Knowing (after c p act) v
keeps c p act Spent law l n k = tt
keeps c p act (Dealer m) law l n k = λ q low. untouched_kept c (after c p act) q (frame c p q act (λ e. n (subst (λ z. m ≤ z) (sym e) low)) law l) (k q low)
keeps c p act (Founder k m) law l n h = (
  knows_kept c (after c p act) k (frame c p k.pass act (λ e. n (inl (sym e))) law l) h.0,
  λ q low. untouched_kept c (after c p act) q (frame c p q act (λ e. n (inr (subst (λ z. m ≤ z) (sym e) low))) law l) (h.1 q low),
)
keeps c p act (Pass k) law l n h = knows_kept c (after c p act) k (frame c p k.pass act (λ e. n (sym e)) law l) h
keeps c p act (Pair j k) law l n h = (
  knows_kept c (after c p act) j (frame c p j.pass act (λ e. n (inl (sym e))) law l) h.0,
  knows_kept c (after c p act) k (frame c p k.pass act (λ e. n (inr (sym e))) law l) h.1,
  h.2,
)
keeps c p act (Witness front) law l n h = witness_kept c p act front law l h
keeps c p act (Follower k front) law l n h = (knows_kept c (after c p act) k (frame c p k.pass act (λ e. n (sym e)) law l) h.0, witness_kept c p act front law l h.1)
