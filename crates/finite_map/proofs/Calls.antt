-- The calls of a pass stay legal as its front grows.
pub mod Alone
pub mod Steps
use Rattle.finite_map.proofs.Common.{◌≡◌, ◌≢◌, ℕ, Bool, zero, suc, ◌+◌, ◌≤◌, List, [], ◌∷◌, ◌++◌, length, take, true, false, cond, Option, Some, None, refl, sym, ap, subst, ◌∙◌, arith, le_trans, append-nil, length-append, zero-le, eqb, All, slice_get, cons_option, ne_eqb, eq-eqb, cond_both, take-append-le, All-nil, All-head, All-tail, All-push, All-weaker, filter-append, filter_map-append, take-append_seam}
use Rattle.std.specs.Option.{is_some, option_map, option_to_list}
use Rattle.std.proofs.lemmas.Option.{slice_get_within}
use Rattle.finite_map.specs.declared.Call.{Call}
use Rattle.finite_map.specs.declared.Call.TheVariants.{Insert, Upsert, Exchange, Add, Get, Remove, RemoveIf}
use Rattle.finite_map.specs.declared.Kind.{Kind}
use Rattle.finite_map.specs.declared.Kind.TheVariants.{Added, Replaced, Removed as TakenAway}
use Rattle.finite_map.specs.declared.Change.{Change}
use Rattle.finite_map.specs.declared.Reply.{Reply}
use Rattle.finite_map.specs.declared.Reply.TheVariants.{Exchanged, Differs, Removed}
use Rattle.finite_map.specs.declared.Note.{Note}
use Rattle.finite_map.specs.Maps.{Map, value_at, key_of, step_if, step_where, map_after, reply_of, with_value, without, wrapped_sum}
use Rattle.finite_map.specs.Fronts.{changed, map_of, Fits, LegalFront, OthersGoOn}
use Rattle.finite_map.specs.Calls.{effect_of, is_change, change_of, place_after, StandsIn, RisesFrom, changes_of, own_changes, LegalCalls}
use Rattle.finite_map.proofs.Fronts.{legal_front_push}

-- Lists

slice_get-append : (xs ys : List Change) (i : ℕ) (c : Change) → slice_get xs i ≡ Some c → slice_get (xs ++ ys) i ≡ Some c
slice_get-append [] ys i c e = cc
slice_get-append (x ∷ xs) ys zero c e = e
slice_get-append (x ∷ xs) ys (suc i) c e = slice_get-append xs ys i c e

slice_get-push : (xs : List Change) (c : Change) (i : ℕ) → i ≡ length xs → slice_get (xs ++ c ∷ []) i ≡ Some c
slice_get-push [] c i e = rw e refl
slice_get-push (x ∷ xs) c zero e = absurd (omega arith)
slice_get-push (x ∷ xs) c (suc i) e = slice_get-push xs c i (omega arith)

-- What a call did

pub same_value : (x y : Change) → Some x ≡ Some y → x ≡ y
same_value x y e = cc

-- the change of pass q by a call of this effect
abbrev change_with : ℕ → Call → Kind × ℕ → Change
change_with q call effect = record { pass = q; key = key_of call; value = effect.1; kind = effect.0 }

no_change : (q : ℕ) (call : Call) (o : Option (Kind × ℕ)) → is_some o ≡ false → option_map (change_with q call) o ≡ None
no_change q call None h = refl
no_change q call (Some e) h = cc

some_change : (q : ℕ) (call : Call) (o : Option (Kind × ℕ)) → is_some o ≡ true → (c : Change) × (option_map (change_with q call) o ≡ Some c)
some_change q call None h = cc
some_change q call (Some e) h = (change_with q call e, refl)

pass_with : (q : ℕ) (call : Call) (c : Change) (o : Option (Kind × ℕ)) → option_map (change_with q call) o ≡ Some c → c.pass ≡ q
pass_with q call c None h = cc
pass_with q call c (Some e) h = ap (λ (d : Change). d.pass) (sym (same_value (change_with q call e) c h))

pub pass-change_of : (q : ℕ) (n : Note) (c : Change) → change_of q n ≡ Some c → c.pass ≡ q
pass-change_of q n c h = pass_with q n.call c (effect_of n.call n.reply) h

pub change_of-quiet : (q : ℕ) (n : Note) → is_change n ≡ false → change_of q n ≡ None
change_of-quiet q n h = no_change q n.call (effect_of n.call n.reply) h

pub change_of-change : (q : ℕ) (n : Note) → is_change n ≡ true → (c : Change) × (change_of q n ≡ Some c)
change_of-change q n h = some_change q n.call (effect_of n.call n.reply) h

-- a call that expects a value and whose reply tells of a change left the map, where its reply is another
quiet_if : (m : Map) (call : Call) (held : ℕ) (n : Map) (reply : Reply) → is_some (effect_of call reply) ≡ true → (b : Bool) → is_some (effect_of call (step_if b m held (n, reply)).1) ≡ false →
    (step_if b m held (n, reply)).0 ≡ m
quiet_if m call held n reply changes true h = cc
quiet_if m call held n reply changes false h = refl

quiet_where : (m : Map) (call : Call) (held : Option ℕ) → is_some (effect_of call (step_where held m call).1) ≡ false → (step_where held m call).0 ≡ m
quiet_where m (Insert key value) None h = cc
quiet_where m (Insert key value) (Some held) h = refl
quiet_where m (Upsert key value) None h = cc
quiet_where m (Upsert key value) (Some held) h = cc
quiet_where m (Exchange key expected value) None h = refl
quiet_where m (Exchange key expected value) (Some held) h = quiet_if m (Exchange key expected value) held (with_value m key value) Exchanged refl (eqb held expected) h
quiet_where m (Add key delta) None h = refl
quiet_where m (Add key delta) (Some held) h = cc
quiet_where m (Get key) None h = refl
quiet_where m (Get key) (Some held) h = refl
quiet_where m (Remove key) None h = refl
quiet_where m (Remove key) (Some held) h = cc
quiet_where m (RemoveIf key expected) None h = refl
quiet_where m (RemoveIf key expected) (Some held) h = quiet_if m (RemoveIf key expected) held (without m key) (Removed held) refl (eqb held expected) h

-- a call that changed nothing left the map
pub map_after-quiet : (m : Map) (n : Note) → n.reply ≡ reply_of m n.call → is_change n ≡ false → map_after m n.call ≡ m
map_after-quiet m n reply quiet = quiet_where m n.call (value_at m (key_of n.call)) (rw reply at quiet)

-- a call that changed the map made a change that fits, of its pass
pub record MakesChange (m : Map) (q : ℕ) (call : Call) (c : Change) : Type 0 where
  pub fits : Fits m c
  pub map : map_after m call ≡ changed m c

-- a call that expects a value, and whose reply tells of this change where its key has it
makes_if : (m : Map) (q : ℕ) (call : Call) (held : ℕ) (n : Map) (reply : Reply) (effect : Kind × ℕ) → effect_of call reply ≡ Some effect → effect_of call (Differs held) ≡ None →
    Fits m (change_with q call effect) → n ≡ changed m (change_with q call effect) → (c : Change) (b : Bool) → map_after m call ≡ (step_if b m held (n, reply)).0 →
    option_map (change_with q call) (effect_of call (step_if b m held (n, reply)).1) ≡ Some c → MakesChange m q call c
makes_if m q call held n reply effect does differs fits map c true after told =
    subst (MakesChange m q call) (same_value (change_with q call effect) c (ap (option_map (change_with q call)) (sym does) ∙ told)) (record { fits = fits; map = after ∙ map })
makes_if m q call held n reply effect does differs fits map c false after told = cc

makes_where : (m : Map) (q : ℕ) (call : Call) (held : Option ℕ) → value_at m (key_of call) ≡ held → (c : Change) →
    option_map (change_with q call) (effect_of call (step_where held m call).1) ≡ Some c → MakesChange m q call c
makes_where m q (Insert key value) None e c h =
    subst (MakesChange m q (Insert key value)) (same_value (change_with q (Insert key value) (Added, value)) c h)
    (record { fits = e; map = ap (λ o. (step_where o m (Insert key value)).0) e })
makes_where m q (Insert key value) (Some held) e c h = cc
makes_where m q (Upsert key value) None e c h =
    subst (MakesChange m q (Upsert key value)) (same_value (change_with q (Upsert key value) (Added, value)) c h)
    (record { fits = e; map = ap (λ o. (step_where o m (Upsert key value)).0) e })
makes_where m q (Upsert key value) (Some held) e c h =
    subst (MakesChange m q (Upsert key value)) (same_value (change_with q (Upsert key value) (Replaced, value)) c h)
    (record { fits = ap is_some e; map = ap (λ o. (step_where o m (Upsert key value)).0) e })
makes_where m q (Exchange key expected value) None e c h = cc
makes_where m q (Exchange key expected value) (Some held) e c h =
    makes_if m q (Exchange key expected value) held (with_value m key value) Exchanged (Replaced, value) refl refl (ap is_some e) refl c (eqb held expected)
    (ap (λ o. (step_where o m (Exchange key expected value)).0) e) h
makes_where m q (Add key delta) None e c h = cc
makes_where m q (Add key delta) (Some held) e c h =
    subst (MakesChange m q (Add key delta)) (same_value (change_with q (Add key delta) (Replaced, wrapped_sum held delta)) c h)
    (record { fits = ap is_some e; map = ap (λ o. (step_where o m (Add key delta)).0) e })
makes_where m q (Get key) None e c h = cc
makes_where m q (Get key) (Some held) e c h = cc
makes_where m q (Remove key) None e c h = cc
makes_where m q (Remove key) (Some held) e c h =
    subst (MakesChange m q (Remove key)) (same_value (change_with q (Remove key) (TakenAway, held)) c h)
    (record { fits = e; map = ap (λ o. (step_where o m (Remove key)).0) e })
makes_where m q (RemoveIf key expected) None e c h = cc
makes_where m q (RemoveIf key expected) (Some held) e c h =
    makes_if m q (RemoveIf key expected) held (without m key) (Removed held) (TakenAway, held) refl refl e refl c (eqb held expected)
    (ap (λ o. (step_where o m (RemoveIf key expected)).0) e) h

pub makes_change : (m : Map) (q : ℕ) (n : Note) → n.reply ≡ reply_of m n.call → (c : Change) → change_of q n ≡ Some c → MakesChange m q n.call c
makes_change m q n reply c h = makes_where m q n.call (value_at m (key_of n.call)) refl c (subst (λ r. option_map (change_with q n.call) (effect_of n.call r) ≡ Some c) reply h)

-- Notes in a front that goes on

stands_longer : (front more : List Change) (q : ℕ) (n : Note) → StandsIn front q n → StandsIn (front ++ more) q n
stands_longer front more q n h = record {
  place = let l = length-append front more in let p = h.place in omega arith;
  reply = h.reply ∙ ap (λ (cs : List Change). reply_of (map_of cs) n.call) (sym (take-append-le n.place front more h.place));
  change = λ c is. slice_get-append front more n.place c (h.change c is);
}

all_stand_longer : (front more : List Change) (q : ℕ) (ns : List Note) → All (StandsIn front q) ns → All (StandsIn (front ++ more) q) ns
all_stand_longer front more q ns h = All-weaker (StandsIn front q) (StandsIn (front ++ more) q) (λ n o. stands_longer front more q n o) ns h

-- Own changes

own_changes-others : (q : ℕ) (cs : List Change) → All (λ c. c.pass ≢ q) cs → own_changes q cs ≡ []
own_changes-others q [] h = refl
own_changes-others q (c ∷ cs) h =
    ap (λ b. cond b (c ∷ own_changes q cs) (own_changes q cs)) (ne_eqb c.pass q (All-head (λ x. x.pass ≢ q) c cs h))
    ∙ own_changes-others q cs (All-tail (λ x. x.pass ≢ q) c cs h)

own_changes-push : (q : ℕ) (front : List Change) (c : Change) → c.pass ≡ q → own_changes q (front ++ c ∷ []) ≡ own_changes q front ++ c ∷ []
own_changes-push q front c is =
    filter-append (λ x. eqb x.pass q) front (c ∷ []) ∙ ap (λ b. own_changes q front ++ cond b (c ∷ []) []) (eq-eqb c.pass q is)

changes_of-push : (q : ℕ) (ns : List Note) (n : Note) (o : Option Change) → change_of q n ≡ o → changes_of q (ns ++ n ∷ []) ≡ changes_of q ns ++ option_to_list o
changes_of-push q ns n o is = filter_map-append (change_of q) ns (n ∷ []) ∙ ap (λ o. changes_of q ns ++ cons_option o []) is ∙ listed o
  where
    listed : (o : Option Change) → changes_of q ns ++ cons_option o [] ≡ changes_of q ns ++ option_to_list o
    listed None = refl
    listed (Some c) = refl

-- Places

-- where the notes leave the place of the next call
abbrev end_place : ℕ → List Note → ℕ
end_place low [] = low
end_place low (n ∷ ns) = end_place (place_after n) ns

rises_push : (low : ℕ) (ns : List Note) (n : Note) → RisesFrom low ns → end_place low ns ≤ n.place → RisesFrom low (ns ++ n ∷ [])
rises_push low [] n r h = (h, tt)
rises_push low (m ∷ ms) n r h = (r.0, rises_push (place_after m) ms n r.1 h)

pub place_after-within : (front : List Change) (q : ℕ) (n : Note) → StandsIn front q n → place_after n ≤ length front
place_after-within front q n h = cond_both (is_change n) (n.place + 1) n.place (λ p. p ≤ length front)
    (λ is. let t = change_of-change q n is in let l = slice_get_within front n.place t.0 (h.change t.0 t.1) in omega (arith, l))
    (λ _. h.place)

end_place-within : (front : List Change) (q low : ℕ) (ns : List Note) → low ≤ length front → All (StandsIn front q) ns → end_place low ns ≤ length front
end_place-within front q low [] h e = h
end_place-within front q low (n ∷ ns) h e =
    end_place-within front q (place_after n) ns (place_after-within front q n (All-head (StandsIn front q) n ns e)) (All-tail (StandsIn front q) n ns e)

-- Legal calls

-- a pass that has seen nothing and made no call
pub legal_at_first : (q : ℕ) → LegalCalls [] q []
legal_at_first q = record { legal = tt; each = All-nil (StandsIn [] q); rising = tt; own = refl }

-- the front goes on by others' changes
pub legal_longer : (front later : List Change) (q : ℕ) (ns : List Note) → LegalCalls front q ns → OthersGoOn q front later → LegalFront later → LegalCalls later q ns
legal_longer front later q ns h g l = record {
  legal = l;
  each = subst (λ (cs : List Change). All (StandsIn cs q) ns) (sym g.1) (all_stand_longer front g.0 q ns h.each);
  rising = h.rising;
  own = ap (own_changes q) g.1 ∙ filter-append (λ c. eqb c.pass q) front g.0 ∙ ap (λ cs. own_changes q front ++ cs) (own_changes-others q g.0 g.2)
      ∙ append-nil (own_changes q front) ∙ h.own;
}

-- one more call, which changed nothing, at a place that the pass had not yet seen or had seen last
pub legal_quiet : (front later : List Change) (q : ℕ) (ns : List Note) (n : Note) → LegalCalls front q ns → OthersGoOn q front later → LegalFront later →
    length front ≤ n.place → n.place ≤ length later → n.reply ≡ reply_of (map_of (take n.place later)) n.call → is_change n ≡ false → LegalCalls later q (ns ++ n ∷ [])
legal_quiet front later q ns n h g l low high reply quiet = let all = legal_longer front later q ns h g l in record {
  legal = l;
  each = All-push (StandsIn later q) ns n all.each (record { place = high; reply = reply; change = λ c is. let no : None ≡ Some c = sym (change_of-quiet q n quiet) ∙ is in cc });
  rising = rises_push 0 ns n h.rising (le_trans (end_place-within front q 0 ns zero-le h.each) low);
  own = all.own ∙ sym (changes_of-push q ns n None (change_of-quiet q n quiet) ∙ append-nil (changes_of q ns));
}

-- one more call, with its change at the end of the front
pub legal_change : (front : List Change) (q : ℕ) (ns : List Note) (n : Note) (c : Change) → LegalCalls front q ns →
    n.place ≡ length front → n.reply ≡ reply_of (map_of front) n.call → change_of q n ≡ Some c → LegalCalls (front ++ c ∷ []) q (ns ++ n ∷ [])
legal_change front q ns n c h at reply is =
    let made = makes_change (map_of front) q n reply c is in
    let stands : StandsIn (front ++ c ∷ []) q n = record {
      place = let l = length-append front (c ∷ []) in omega arith;
      reply = reply ∙ ap (λ (cs : List Change). reply_of (map_of cs) n.call) (sym (ap (λ k. take k (front ++ c ∷ [])) at ∙ take-append_seam front (c ∷ [])));
      change = λ d e. slice_get-push front c n.place at ∙ sym is ∙ e;
    } in
    record {
      legal = legal_front_push front c h.legal made.fits;
      each = All-push (StandsIn (front ++ c ∷ []) q) ns n (all_stand_longer front (c ∷ []) q ns h.each) stands;
      rising = rises_push 0 ns n h.rising (subst (λ k. end_place 0 ns ≤ k) (sym at) (end_place-within front q 0 ns zero-le h.each));
      own = own_changes-push q front c (pass-change_of q n c is) ∙ ap (λ cs. cs ++ c ∷ []) h.own ∙ sym (changes_of-push q ns n (Some c) is);
    }
