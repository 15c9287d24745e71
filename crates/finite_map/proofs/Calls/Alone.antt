-- The calls of a pass that makes all changes of its front: one after the other, each on the map that those before it led to.
use Rattle.finite_map.proofs.Common.{◌≡◌, ℕ, suc, ◌+◌, ◌≤◌, List, [], ◌∷◌, ◌++◌, length, take, map, true, false, cond, Bool, refl, sym, ap, ap₂, subst, ◌∙◌, arith, append-nil, append_assoc, length-append, All, cons_option, eq-eqb, All-head, All-tail, take-append_seam}
use Rattle.finite_map.specs.declared.Change.{Change}
use Rattle.finite_map.specs.declared.Note.{Note}
use Rattle.finite_map.specs.Maps.{map_after, reply_of, replies_of, map_after_all}
use Rattle.finite_map.specs.Fronts.{map_of}
use Rattle.finite_map.specs.Calls.{is_change, place_after, StandsIn, RisesFrom, changes_of, own_changes, LegalCalls, IsRun}
use Rattle.finite_map.proofs.Fronts.{map_of-push}
use Rattle.finite_map.proofs.Calls.{change_of-quiet, change_of-change, map_after-quiet, makes_change, place_after-within}

-- of a front whose changes are all the pass's own, these are all of it
pub own_changes-all : (q : ℕ) (cs : List Change) → All (λ c. c.pass ≡ q) cs → own_changes q cs ≡ cs
own_changes-all q [] h = refl
own_changes-all q (c ∷ cs) h =
    ap (λ b. cond b (c ∷ own_changes q cs) (own_changes q cs)) (eq-eqb c.pass q (All-head (λ x. x.pass ≡ q) c cs h))
    ∙ ap (λ xs. c ∷ xs) (own_changes-all q cs (All-tail (λ x. x.pass ≡ q) c cs h))

module _ (q : ℕ) (front : List Change) where
  -- the places from `low` on have room for the changes that the notes tell of
  room : (low : ℕ) (ns : List Note) → low ≤ length front → RisesFrom low ns → All (StandsIn front q) ns → low + length (changes_of q ns) ≤ length front
  room low [] h r e = omega arith
  room low (n ∷ ns) h r e =
      let stands = All-head (StandsIn front q) n ns e in
      let later = room (place_after n) ns (place_after-within front q n stands) r.1 (All-tail (StandsIn front q) n ns e) in
      by (is_change n) refl later
    where
      by : (b : Bool) → is_change n ≡ b → place_after n + length (changes_of q ns) ≤ length front → low + length (changes_of q (n ∷ ns)) ≤ length front
      by true is later =
          let made = change_of-change q n is in
          let listed : length (changes_of q (n ∷ ns)) ≡ suc (length (changes_of q ns)) = ap (λ o. length (cons_option o (changes_of q ns))) made.1 in
          let at : place_after n ≡ n.place + 1 = ap (λ b. cond b (n.place + 1) n.place) is in
          omega (arith, listed, at, later, r.0)
      by false is later =
          let listed : length (changes_of q (n ∷ ns)) ≡ length (changes_of q ns) = ap (λ o. length (cons_option o (changes_of q ns))) (change_of-quiet q n is) in
          let at : place_after n ≡ n.place = ap (λ b. cond b (n.place + 1) n.place) is in
          omega (arith, listed, at, later, r.0)

module _ (q : ℕ) where
  -- from the map of the changes so far, the notes that tell of all changes to come are a run of the map
  run_on : (past rest : List Change) (ns : List Note) → RisesFrom (length past) ns → All (StandsIn (past ++ rest) q) ns → rest ≡ changes_of q ns →
      IsRun (map_of past) ns (map_of (past ++ rest))
  run_on past rest [] r e told = record { replies = refl; map = ap map_of (ap (λ cs. past ++ cs) told ∙ append-nil past) }
  run_on past rest (n ∷ ns) r e told =
      let stands = All-head (StandsIn (past ++ rest) q) n ns e in
      let others = All-tail (StandsIn (past ++ rest) q) n ns e in
      let long = length-append past rest in
      let within = place_after-within (past ++ rest) q n stands in
      let later = room q (past ++ rest) (place_after n) ns within r.1 others in
      by (is_change n) refl stands others later (λ past rest. run_on past rest ns)
    where
      reply_at : StandsIn (past ++ rest) q n → n.place ≡ length past → n.reply ≡ reply_of (map_of past) n.call
      reply_at stands at = stands.reply ∙ ap (λ cs. reply_of (map_of cs) n.call) (ap (λ k. take k (past ++ rest)) at ∙ take-append_seam past rest)

      by : (b : Bool) → is_change n ≡ b → StandsIn (past ++ rest) q n → All (StandsIn (past ++ rest) q) ns → place_after n + length (changes_of q ns) ≤ length (past ++ rest) →
          ((past rest : List Change) → RisesFrom (length past) ns → All (StandsIn (past ++ rest) q) ns → rest ≡ changes_of q ns → IsRun (map_of past) ns (map_of (past ++ rest))) →
          IsRun (map_of past) (n ∷ ns) (map_of (past ++ rest))
      by true is stands others later on =
          let made = change_of-change q n is in
          let c = made.0 in
          let split : rest ≡ c ∷ changes_of q ns = told ∙ ap (λ o. cons_option o (changes_of q ns)) made.1 in
          let next : place_after n ≡ n.place + 1 = ap (λ b. cond b (n.place + 1) n.place) is in
          let long : length (past ++ rest) ≡ length past + suc (length (changes_of q ns)) = length-append past rest ∙ ap (λ cs. length past + length cs) split in
          let at : n.place ≡ length past = omega (arith, long, next, later, r.0) in
          let reply = reply_at stands at in
          let whole : past ++ rest ≡ (past ++ c ∷ []) ++ changes_of q ns = ap (λ cs. past ++ cs) split ∙ sym (append_assoc past (c ∷ []) (changes_of q ns)) in
          let low : length (past ++ c ∷ []) ≡ place_after n = omega (arith, length-append past (c ∷ []), next, at) in
          let run = on (past ++ c ∷ []) (changes_of q ns) (subst (λ k. RisesFrom k ns) (sym low) r.1) (subst (λ cs. All (StandsIn cs q) ns) whole others) refl in
          let after : map_of (past ++ c ∷ []) ≡ map_after (map_of past) n.call = map_of-push past c ∙ sym (makes_change (map_of past) q n reply c made.1).map in
          record {
            replies = ap₂ (λ x xs. x ∷ xs) reply (run.replies ∙ ap (λ m. replies_of m (map (λ x. x.call) ns)) after);
            map = ap map_of whole ∙ run.map ∙ ap (λ m. map_after_all m (map (λ x. x.call) ns)) after;
          }
      by false is stands others later on =
          let same : rest ≡ changes_of q ns = told ∙ ap (λ o. cons_option o (changes_of q ns)) (change_of-quiet q n is) in
          let next : place_after n ≡ n.place = ap (λ b. cond b (n.place + 1) n.place) is in
          let long : length (past ++ rest) ≡ length past + length (changes_of q ns) = length-append past rest ∙ ap (λ cs. length past + length cs) same in
          let at : n.place ≡ length past = omega (arith, long, next, later, r.0) in
          let reply = reply_at stands at in
          let run = on past rest (subst (λ k. RisesFrom k ns) (next ∙ at) r.1) others same in
          let after : map_of past ≡ map_after (map_of past) n.call = sym (map_after-quiet (map_of past) n reply is) in
          record {
            replies = ap₂ (λ x xs. x ∷ xs) reply (run.replies ∙ ap (λ m. replies_of m (map (λ x. x.call) ns)) after);
            map = run.map ∙ ap (λ m. map_after_all m (map (λ x. x.call) ns)) after;
          }

-- the legal calls of a pass that made all changes of the front are a run of the map
pub alone-run : (front : List Change) (q : ℕ) (ns : List Note) → LegalCalls front q ns → All (λ c. c.pass ≡ q) front → IsRun [] ns (map_of front)
alone-run front q ns h own = run_on q [] front ns h.rising h.each (sym (own_changes-all q front own) ∙ h.own)
