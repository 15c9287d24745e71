-- Lists put together.
use Rattle.rowex_replay_state.proofs.Common.{List, ◌++◌, length, refl, subst, All, take_at, drop_at, All-take, All-drop}

-- what holds of all elements holds of all in each part
pub all_parts : {A : Type 0} (P : A → Type 0) (xs ys : List A) → All P (xs ++ ys) → All P xs × All P ys
all_parts P xs ys a =
    (subst (All P) (take_at xs ys (length xs) refl) (All-take P (length xs) (xs ++ ys) a), subst (All P) (drop_at xs ys (length xs) refl) (All-drop P (length xs) (xs ++ ys) a))
