-- What a call of the index leaves on a handle's pass, the handle's call leaves.
use Rattle.hot_index.proofs.Common.{◌≡◌, refl, subst, TableView, PassView}
use Rattle.hot_index.specs.Handles.{HandleView, Stays, handle_at}

pub stays : (Became : TableView → PassView → PassView → Type 0) (i j : TableView) (k l : PassView) (h : HandleView) → i ≡ j → handle_at j k ≡ h → Became i k l → Stays Became h (handle_at j l)
stays Became i j k l h same view became =
    subst (λ (h : HandleView). Stays Became h (handle_at j l)) view (record { index = refl; pass = subst (λ (i : TableView). Became i k l) same became })
