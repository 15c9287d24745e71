-- Two of an index's handles tell what their calls did: one inserts a key, and the other finds it. The others were never opened.
use Rattle.hot_c.proofs.Common.{◌≡◌, ℕ, ◌<◌, ◌≤◌, List, [], ◌∷◌, Some, refl, arith, Call, Get, Insert, Reply, Inserted, Value, SeatView, TableView, pass_of, HandleView}
use Rattle.std.specs.Prelude.{◌^◌, Ok}
use Rattle.rowex_core.specs.declared.event.Event.{Event}
use Rattle.index_laws.specs.Joined.{of_two_first}
use Rattle.rowex_table.proofs.Onward.{others_none}
use Rattle.index_laws.proofs.Finding.{behind_get, by_two_first, e0, e1, get_made, get_noted, idle_seat, insert_noted, insert_tried, not_by_others, s0, s1}
use Rattle.hot_c.specs.Calls.{Answers}
use Rattle.hot_c.specs.Histories.{AnInsertIsTold, HasToldAll, HaveTold, asked, opened, rested}
use Rattle.hot_c.specs.declared.opened.Opened.{Opened}
use Rattle.hot_c.specs.declared.status.TheConstants.{FOUND, INSERTED}

module _ (any : Opened) (index : TableView) (two : 2 ≤ index.layout.passes) (value : ℕ) (fits : value < 2 ^ 64) where
  abbrev handle_of : SeatView → HandleView
  handle_of seat = record { index = index; pass = pass_of seat }

  abbrev opened_at : SeatView → Opened
  opened_at seat = record any { handle = handle_of seat }

  abbrev inserted : List (List (Call × Reply))
  inserted = ((Insert [] value, Inserted) ∷ []) ∷ []

  abbrev found : List (List (Call × Reply))
  found = ((Get [], Value value) ∷ []) ∷ []

  insert_answers : Answers [] (Insert [] value) (Some (opened_at (s0 index two value fits))) (Some (opened_at (e0 index two value fits))) 0 0 INSERTED
  insert_answers = record {
    closed = λ e. absurd cc;
    long = λ some long. absurd (long (omega arith));
    made = λ some short. (
      Ok Inserted,
      record {
        before = opened_at (s0 index two value fits);
        after = opened_at (e0 index two value fits);
        was = refl;
        is = refl;
        stays = record {
          index = refl;
          pass = ((insert_noted index two value fits, tt, record { mid = (pass_of (e0 index two value fits), tt); tried = insert_tried index two value fits; told = refl }), refl);
        };
        keeps = refl;
      },
      refl,
    );
  }

  get_answers : Answers [] (Get []) (Some (opened_at (s1 index two value fits))) (Some (opened_at (e1 index two value fits))) 0 value FOUND
  get_answers = record {
    closed = λ e. absurd cc;
    long = λ some long. absurd (long (omega arith));
    made = λ some short. (
      Ok (Value value),
      record {
        before = opened_at (s1 index two value fits);
        after = opened_at (e1 index two value fits);
        was = refl;
        is = refl;
        stays = record { index = refl; pass = ((get_noted index two value fits, tt, get_made index two value fits), refl) };
        keeps = refl;
      },
      refl,
    );
  }

  new_told : (q : ℕ) → HaveTold index q [] (handle_of (idle_seat index two value fits q))
  new_told q = opened (refl, refl, refl, refl, refl, refl) (record { index_is = refl; own = refl; seat = refl })

  first_told : HaveTold index 0 inserted (handle_of (e0 index two value fits))
  first_told = asked {old = opened_at (s0 index two value fits)} {new = opened_at (e0 index two value fits)} (new_told 0) [] (Insert [] value) 0 0 INSERTED insert_answers tt

  second_told : HaveTold index 1 found (handle_of (e1 index two value fits))
  second_told = asked {old = opened_at (s1 index two value fits)} {new = opened_at (e1 index two value fits)} (new_told 1) [] (Get []) 0 value FOUND get_answers (λ e. absurd (omega (arith, e)))

  abbrev run : List Event
  run = (e1 index two value fits).trace

  abbrev what_is : ℕ → List (List (Call × Reply)) × HandleView
  what_is = of_two_first (inserted, handle_of (e0 index two value fits)) (found, handle_of (e1 index two value fits)) (λ q. ([], handle_of (idle_seat index two value fits q)))

  all_told : (q : ℕ) → HasToldAll index run q (what_is q).0 (what_is q).1
  all_told = by_two_first (λ q (z : List (List (Call × Reply)) × HandleView). HasToldAll index run q z.0 z.1)
      (inserted, handle_of (e0 index two value fits)) (found, handle_of (e1 index two value fits)) (λ q. ([], handle_of (idle_seat index two value fits q)))
      (rested first_told (behind_get index two value fits)) (rested second_told (others_none 1 run)) (λ q high. rested (new_told q) (not_by_others index two value fits q high))

pub an_insert_is_told : AnInsertIsTold
an_insert_is_told any index two value fits = (
  (λ q. (what_is any index two value fits q).0),
  (λ q. (what_is any index two value fits q).1),
  opened_at any index two value fits (e1 index two value fits),
  second_told any index two value fits,
  (λ q low. all_told any index two value fits q),
  refl,
  refl,
  by_two_first (λ q (z : List (List (Call × Reply)) × HandleView). 2 ≤ q → z.0 ≡ []) _ _ (λ q. ([], handle_of any index two value fits (idle_seat index two value fits q)))
      (λ high. absurd (omega (arith, high))) (λ high. absurd (omega (arith, high))) (λ q high again. refl),
)
