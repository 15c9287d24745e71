-- Worked examples: which calls a history has, and how a pending call is completed.
use Rattle.linearizability.proofs.Common.{◌≡◌, ◌≢◌, inl, inr, ℕ, [], ◌∷◌, get_or, Some, None, refl, sym, subst, ◌∙◌, All, All-head, All-nil, Call, Get, Insert, Upsert, Change, Added, Note}
use Rattle.finite_map.specs.declared.Reply.TheVariants.{Inserted, New, Value}
use Rattle.linearizability.specs.Effects.{maker_notes}
use Rattle.linearizability.specs.Histories.{ChangesAsAsked, complete_calls, replied}
use Rattle.linearizability.specs.Configurations.{Happening, invokes, responds, shows}
use Rattle.linearizability.proofs.Configurations.Completing.{no_change}

-- Pass 0 inserts a key, and is answered; then pass 1, which it never meets, gets it.

abbrev inserted : Note
inserted = record { place = 0; call = Insert (1 ∷ []) 5; reply = Inserted }

abbrev got : Note
got = record { place = 1; call = Get (1 ∷ []); reply = Value 5 }

abbrev one_after_the_other : ℕ → Happening
one_after_the_other t = get_or
    (invokes 0 (Insert (1 ∷ []) 5 ∷ []) ∷ responds 0 (inserted ∷ []) ∷ invokes 1 (Get (1 ∷ []) ∷ []) ∷ responds 1 (got ∷ []) ∷ []) t (shows 0 [])

calls_by_their_ends : complete_calls one_after_the_other 4 ≡ (1, inserted) ∷ (3, got) ∷ []
calls_by_their_ends = refl

-- before its response the insert is none of them
not_yet : complete_calls one_after_the_other 1 ≡ []
not_yet = refl

-- The insert has changed the map, and has not responded: it is completed as inserted. Another pass's call is not.

abbrev added : Change
added = record { pass = 0; key = 1 ∷ []; value = 5; kind = Added }

completed_as_invoked : maker_notes 0 (Insert (1 ∷ []) 5 ∷ []) [] (added ∷ []) ≡ inserted ∷ []
completed_as_invoked = refl

not_the_others : maker_notes 1 (Get (1 ∷ []) ∷ []) [] (added ∷ []) ≡ []
not_the_others = refl

-- were the call that was invoked not the one that makes the change, an upsert with this effect would stand for it
completed_by_effect : maker_notes 0 (Get (1 ∷ []) ∷ []) [] (added ∷ []) ≡ record { place = 0; call = Upsert (1 ∷ []) 5; reply = New } ∷ []
completed_by_effect = refl

-- So that pending insert has changed the map as it asks; and a get that had made this change would not have.
changed_as_asked : ChangesAsAsked 0 (Insert (1 ∷ []) 5 ∷ []) [] (added ∷ [])
changed_as_asked = inr (
  Insert (1 ∷ []) 5,
  refl,
  record {
    meanwhile = [];
    change = added;
    until = ([], refl, All-nil (λ (c : Change). c.pass ≢ 0));
    made = refl;
    since = ([], refl, All-nil (λ (c : Change). c.pass ≢ 0));
  },
)

no_get : ChangesAsAsked 0 (Get (1 ∷ []) ∷ []) [] (added ∷ []) → ⊥
no_get (inl others) = All-head (λ (c : Change). c.pass ≢ 0) added [] (subst (All (λ c. c.pass ≢ 0)) (sym others.1) others.2) refl
no_get (inr (asked, is, once)) = none_made once.change (sym (no_change 0 (replied once.meanwhile asked) (1 ∷ []) (asked_is asked is)) ∙ once.made)
  where
    asked_is : (asked : Call) → Get (1 ∷ []) ∷ [] ≡ asked ∷ [] → asked ≡ Get (1 ∷ [])
    asked_is asked e = cc

    none_made : (c : Change) → None ≡ Some c → ⊥
    none_made c e = cc
