-- Each reply is the map's at a time of its call.
use Rattle.linearizability.proofs.Common.{◌≡◌, ℕ, ◌<◌, ◌≤◌, Bool, true, false, suc, List, Option, None, Some, get_or, length, nat_eq, take, refl, sym, ap, subst, ◌∙◌, arith, ⊎_elim, All, take-append_seam, take-append-le, Change, Call, Insert, Upsert, Exchange, Add, Get, Remove, RemoveIf, Note, Reply, StandsIn, BeginsWith, map_of, Map, key_of, reply_of, step_if, step_where, value_at, Layout, seen_by}
use Rattle.linearizability.specs.Configurations.{Happening, IsNotedBetween, IsWholeRun, Configuration}
use Rattle.linearizability.specs.Scanning.{map_at}
use Rattle.linearizability.specs.Statements.{RepliesInTime}
pub use Rattle.linearizability.proofs.Configurations.{all_behind as behind}
use Rattle.linearizability.proofs.Configurations.{grown, loaded_since, longer, runs_stay_sound}
use Rattle.linearizability.proofs.Scanning.{IsLoading, goes_through, held_by_all}

-- a reply is told by what the map holds for the call's key

either_reply : (b : Bool) (m n : Map) (held : ℕ) (p q : Map) (reply : Reply) → (step_if b m held (p, reply)).1 ≡ (step_if b n held (q, reply)).1
either_reply true m n held p q reply = refl
either_reply false m n held p q reply = refl

reply_in : (call : Call) (held : Option ℕ) (m n : Map) → (step_where held m call).1 ≡ (step_where held n call).1
reply_in (Insert key value) None m n = refl
reply_in (Insert key value) (Some held) m n = refl
reply_in (Upsert key value) None m n = refl
reply_in (Upsert key value) (Some held) m n = refl
reply_in (Exchange key expected value) None m n = refl
reply_in (Exchange key expected value) (Some held) m n = either_reply (nat_eq held expected) m n held _ _ _
reply_in (Add key delta) None m n = refl
reply_in (Add key delta) (Some held) m n = refl
reply_in (Get key) None m n = refl
reply_in (Get key) (Some held) m n = refl
reply_in (Remove key) None m n = refl
reply_in (Remove key) (Some held) m n = refl
reply_in (RemoveIf key expected) None m n = refl
reply_in (RemoveIf key expected) (Some held) m n = either_reply (nat_eq held expected) m n held _ _ _

reply_same : (m n : Map) (call : Call) → value_at m (key_of call) ≡ value_at n (key_of call) → reply_of m call ≡ reply_of n call
reply_same m n call e = ap (λ h. (step_where h m call).1) e ∙ reply_in call (value_at n (key_of call)) m n

module _ (layout : Layout) (last : ℕ) (at : ℕ → Configuration) (happens : ℕ → Happening) (run : IsWholeRun layout last at happens) (q t : ℕ) (below : q < layout.passes) (within : t ≤ last) where
  abbrev front : List Change
  front = ((at t).known q).front

  abbrev made : List Change
  made = (at t).core.changes

  seen : BeginsWith made front
  seen = seen_by (at t).core ((at t).known q) ((runs_stay_sound layout last at happens run t within).knows q below)

  pub effect : (since : ℕ) (n : Note) → IsNotedBetween at q since t n → StandsIn front q n → (m : ℕ) × (since ≤ m) × (m ≤ t) × (n.reply ≡ reply_of (map_at at m) n.call)
  effect since n placed stands =
      let from = placed.from in
      let upto = placed.upto in
      let shown = longer ((at placed.shown).known q).fresh.front (at since).core.changes (loaded_since layout last at happens run since q below placed.shown from (omega (arith, upto, within)) placed.loaded) in
      let low = placed.low in
      let high = stands.place in
      let most = longer made front seen in
      let found = goes_through layout last at happens run since n.place t (omega (arith, from, upto)) within (omega (arith, shown, low)) (omega (arith, high, most)) in
      let m : ℕ = found.0 in
      let first : take n.place made ≡ take n.place front = ap (take n.place) seen.1 ∙ take-append-le n.place front seen.0 high in
      let answers : n.reply ≡ reply_of (map_of (take n.place made)) n.call = stands.reply ∙ ap (λ (l : List Change). reply_of (map_of l) n.call) (sym first) in
      ⊎_elim (λ is. (m, found.1, found.2, answers ∙ ap (λ (l : List Change). reply_of (map_of l) n.call) (all_there m found.2 is))) (λ loads. loaded_at m found.1 loads.0 loads.1 loads.2 answers) found.3
    where
      all_there : (m : ℕ) → m ≤ t → length (at m).core.changes ≡ n.place → take n.place made ≡ (at m).core.changes
      all_there m upto is =
          let more = grown layout last at happens run m t upto within in
          ap (λ k. take k made) (sym is) ∙ ap (take (length (at m).core.changes)) more.1 ∙ take-append_seam (at m).core.changes more.0

      -- pairs were loaded at the time: a key that was not there yet was not before it, and one that was there is after it
      loaded_at : (m : ℕ) → since ≤ m → m < t → IsLoading (at m).core (at (suc m)).core → n.place < length (at (suc m)).core.changes → n.reply ≡ reply_of (map_of (take n.place made)) n.call →
          (m : ℕ) × (since ≤ m) × (m ≤ t) × (n.reply ≡ reply_of (map_at at m) n.call)
      loaded_at m from before loads few answers = by_held (value_at (map_of (take n.place cs)) (key_of n.call)) refl
        where
          cs : List Change
          cs = (at (suc m)).core.changes

          part : take n.place made ≡ take n.place cs
          part = let more = grown layout last at happens run (suc m) t (omega (arith, before)) within in ap (take n.place) more.1 ∙ take-append-le n.place cs more.0 (omega (arith, few))

          told : n.reply ≡ reply_of (map_of (take n.place cs)) n.call
          told = answers ∙ ap (λ (l : List Change). reply_of (map_of l) n.call) part

          by_held : (held : Option ℕ) → value_at (map_of (take n.place cs)) (key_of n.call) ≡ held → (m : ℕ) × (since ≤ m) × (m ≤ t) × (n.reply ≡ reply_of (map_at at m) n.call)
          by_held None e = (
            m,
            from,
            omega (arith, before),
            told ∙ reply_same (map_of (take n.place cs)) (map_at at m) n.call (e ∙ sym (ap (λ (l : List Change). value_at (map_of l) (key_of n.call)) loads.none)),
          )
          by_held (Some value) e = (
            suc m,
            omega (arith, from),
            omega (arith, before),
            told ∙ reply_same (map_of (take n.place cs)) (map_of cs) n.call
                (e ∙ sym (held_by_all n.place cs (key_of n.call) value (runs_stay_sound layout last at happens run (suc m) (omega (arith, before, within))).lawful.core.told.legal loads.adds e)),
          )

pub replies_in_time : RepliesInTime
replies_in_time layout last at happens run q t call notes below within x =
    let k = (at t).known q in
    let stands : All (StandsIn k.front q) notes = behind (StandsIn k.front q) ((at call.since).known q).notes notes (subst (All (StandsIn k.front q)) x.noted x.legal.each) in
    λ i d inside. effect layout last at happens run q t below within call.since (get_or notes i d) (x.placed i d inside) (stands i d inside)
