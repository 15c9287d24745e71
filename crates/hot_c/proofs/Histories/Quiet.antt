-- Calls that ask nothing of the map.
use Rattle.hot_c.proofs.Common.{◌≡◌, ⊎_elim, ℕ, List, Bool, Option, Some, inl, inr, refl, sym, subst, ◌∙◌, LegalCalls, Layout, Range, TableView, PassView, HasMadeScanSteps, untold}
use Rattle.hot_c.specs.Calls.{StaysOpen}
use Rattle.hot_c.specs.Histories.{AsksNothing, QuietCalls}
use Rattle.hot_c.specs.Orders.{IsFilledIn, IsListedIn}
use Rattle.hot_c.specs.declared.opened.Opened.{Opened}
use Rattle.hot_c.specs.declared.pairs.Order.{Order}
use Rattle.hot_c.specs.declared.pairs.Order.TheVariants.{Upwards, Downwards, LastUpwards}

-- the pass has noted nothing
abbrev IsUnasked : TableView → PassView → PassView → Type 0
IsUnasked index k j = (j.notes ≡ k.notes) × LegalCalls j.front j.number j.notes

same_in : (o p : Opened) → Some o ≡ Some p → o ≡ p
same_in o p e = cc

so : {Is Was : TableView → PassView → PassView → Type 0} {old new : Option Opened} → ((index : TableView) (k j : PassView) → Is index k j → Was index k j) → StaysOpen Is old new → StaysOpen Was old new
so f x = record {
  before = x.before;
  after = x.after;
  was = x.was;
  is = x.is;
  stays = record { index = x.stays.index; pass = f x.before.handle.index x.before.handle.pass x.after.handle.pass x.stays.pass };
  keeps = x.keeps;
}

-- what was done, and what was noted
module _ {o : Opened} {new : Option Opened} where
  with_notes : {Is : TableView → PassView → PassView → Type 0} → ((index : TableView) (k j : PassView) → Is index k j → IsUnasked index k j → AsksNothing index k j) →
      StaysOpen Is (Some o) new → StaysOpen IsUnasked (Some o) new → StaysOpen AsksNothing (Some o) new
  with_notes {Is} both x y =
      let before : y.before ≡ x.before = same_in y.before x.before (sym y.was ∙ x.was) in
      let after : y.after ≡ x.after = same_in y.after x.after (sym y.is ∙ x.is) in
      let noted : IsUnasked x.before.handle.index x.before.handle.pass x.after.handle.pass =
      subst (λ (z : Opened × Opened). IsUnasked z.0.handle.index z.0.handle.pass z.1.handle.pass) (λ i. (before i, after i)) y.stays.pass in
      record {
        before = x.before;
        after = x.after;
        was = x.was;
        is = x.is;
        stays = record { index = x.stays.index; pass = both x.before.handle.index x.before.handle.pass x.after.handle.pass x.stays.pass noted };
        keeps = x.keeps;
      }

  read_quiet : (limit : ℕ) → StaysOpen (λ index k j. HasMadeScanSteps index untold limit (k, tt) (j, tt)) (Some o) new → StaysOpen IsUnasked (Some o) new → StaysOpen AsksNothing (Some o) new
  read_quiet limit read noted = with_notes (λ index k j got x. record { same = x.0; legal = x.1; made = inl (limit, got) }) read noted

listed_in : (order : Order) (layout : Layout) (k j : PassView) (range : Range) (pairs : List (List ℕ × ℕ)) (is_more : Bool) → IsListedIn order layout k j range pairs is_more → (j.notes ≡ k.notes) × LegalCalls j.front j.number j.notes
listed_in Upwards layout k j range pairs is_more x = (x.notes, x.legal)
listed_in Downwards layout k j range pairs is_more x = (x.notes, x.legal)
listed_in LastUpwards layout k j range pairs is_more x = (x.notes, x.legal)

filled_in : (order : Order) (layout : Layout) (k j : PassView) (range : Range) (pairs : List (List ℕ × ℕ)) (is_more : Bool) → IsFilledIn order layout k j range pairs is_more → (j.notes ≡ k.notes) × LegalCalls j.front j.number j.notes
filled_in Upwards layout k j range pairs is_more x = (x.notes, x.legal)
filled_in Downwards layout k j range pairs is_more x = (x.notes, x.legal)
filled_in LastUpwards layout k j range pairs is_more x = (x.notes, x.legal)

pub quiet_calls : QuietCalls
quiet_calls = record {
  lists = λ order from upto low high before after status o new says. read_quiet _ (says.read refl low high) (⊎_elim
      (λ h. so (λ index k j x. listed_in order index.layout k j _ h.1 h.2 x) h.3)
      (λ h. so (λ index k j x. (x.0.notes, x.0.legal)) h.1)
      (says.made refl low high));
  packs = λ order from upto low high before after status o new says. read_quiet _ (says.read refl low high) (⊎_elim
      (λ h. so (λ index k j x. filled_in order index.layout k j _ h.1 h.2 x.whole) h.3)
      (λ h. so (λ index k j x. (x.0.notes, x.0.legal)) h.1)
      (says.made refl low high));
  values = λ from upto low high before after status o new says. read_quiet _ (says.read refl low high) (⊎_elim
      (λ h. so (λ index k j x. (x.listed.notes, x.listed.legal)) h.3)
      (λ h. so (λ index k j x. (x.0.notes, x.0.legal)) h.1)
      (says.made refl low high));
  ends = λ order from upto low high before after status o new says. read_quiet 1 (says.read refl (low, high)) (⊎_elim
      (λ h. so (λ index k j x. filled_in order index.layout k j _ _ x.0 x.1) h.1)
      (λ h. so (λ index k j x. (x.0.notes, x.0.legal)) h.1)
      (says.made refl (low, high)));
  first = λ from low before after status o new says. read_quiet 1 (says.read refl low) (⊎_elim
      (λ h. so (λ index k j x. (x.1.notes, x.1.legal)) h.1)
      (λ h. so (λ index k j x. (x.0.notes, x.0.legal)) h.1)
      (says.made refl low));
  last = λ upto high before after status o new says. read_quiet 1 (says.read refl high) (⊎_elim
      (λ h. so (λ index k j x. (x.1.notes, x.1.legal)) h.1)
      (λ h. so (λ index k j x. (x.0.notes, x.0.legal)) h.1)
      (says.made refl high));
  counts = λ from upto low high before after status o new says. let h = says.made refl low high in
      so (λ index k j x. record { same = x.ok.listed.notes; legal = x.ok.listed.legal; made = inl (_, x.read) }) h.1;
  round = λ nodes leaves o new says. so (λ index k j x. record { same = x.0.notes; legal = x.0.legal; made = inr (inl (nodes, leaves, x.1)) }) says;
  census = λ shown o new says. so (λ index k j x. record { same = x.0.notes; legal = x.0.legal; made = inr (inr (x.1, x.2)) }) says;
}
