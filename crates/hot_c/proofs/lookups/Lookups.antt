-- Look-ups, answered one after the other.
use Rattle.hot_c.proofs.Common.{◌≡◌, ℕ, zero, suc, ◌+◌, ◌<◌, List, [], ◌∷◌, ◌++◌, length, map, take, get_or, slice_set, All, Option, None, Some, inl, refl, sym, ap, ◌∙◌, subst, arith, length-map, Stays, AreNoted, HasMadeGetManySteps, gets, untold}
use Rattle.hot_c.specs.Calls.{FitsInKey}
use Rattle.hot_c.specs.Lookups.{LooksUpAll, answer, are_answered, key_in}
use Rattle.hot_c.specs.declared.lookups.Lookup.{Lookup}
use Rattle.hot_c.specs.declared.opened.Opened.{Opened}
use Rattle.hot_c.specs.declared.status.TheConstants.{DONE}

-- where nothing was found, nothing is answered
pub none_answered : (its : List Lookup) → its ≡ are_answered its []
none_answered [] = refl
none_answered (it ∷ its) = refl

more : (its : List Lookup) (found : List (Option ℕ)) (n : ℕ) (d : Lookup) (e : Option ℕ) → length found ≡ length its → n < length found →
    slice_set (are_answered its (take n found)) n (answer (get_or (are_answered its (take n found)) n d) (get_or found n e)) ≡ are_answered its (take (suc n) found)
more its [] n d e same low = absurd (omega (arith, low))
more [] (value ∷ found) n d e same low = absurd (omega (arith, same))
more (it ∷ its) (value ∷ found) zero d e same low = ap (λ (l : List Lookup). answer it value ∷ l) (none_answered its)
more (it ∷ its) (value ∷ found) (suc n) d e same low = ap (λ (l : List Lookup). answer it value ∷ l) (more its found n d e (omega (arith, same)) (omega (arith, low)))

-- one more is answered
pub one_answered : (its : List Lookup) (found : List (Option ℕ)) (n : ℕ) (d : Lookup) (e : Option ℕ) → length found ≡ length its → n < length found →
    slice_set (are_answered its (take n found)) n (answer (get_or (are_answered its (take n found)) n d) (get_or found n e)) ≡ are_answered its (take (n + 1) found)
one_answered its found n d e same low = let z : suc n ≡ n + 1 = omega arith in more its found n d e same low ∙ ap (λ m. are_answered its (take m found)) z

-- what stands first in a longer list
first_all : {A : Type 0} (xs zs : List A) → take (length xs) (xs ++ zs) ≡ xs
first_all [] zs = refl
first_all (x ∷ xs) zs = ap (λ l. x ∷ l) (first_all xs zs)

pub first_of : {A : Type 0} (n : ℕ) (xs zs : List A) → n ≡ length xs → take n (xs ++ zs) ≡ xs
first_of n xs zs many = ap (λ m. take m (xs ++ zs)) many ∙ first_all xs zs

some_is_none : (s : Opened) → Some s ≡ None → ⊥
some_is_none s e = cc

pub looked_up : (old new : Option Opened) (before after : List Lookup) (status : ℕ) (s u : Opened) (keys : List (List ℕ)) (found : List (Option ℕ)) → old ≡ Some s → new ≡ Some u
    → All (λ it. FitsInKey (key_in it)) before → keys ≡ map key_in before → length found ≡ length before → Stays (λ index k j. AreNoted index.layout k j (gets keys found) × HasMadeGetManySteps index untold (length keys) (k, tt) (j, tt)) s.handle u.handle → status ≡ DONE
    → after ≡ are_answered before found → u.kept.items ≡ s.kept.items → LooksUpAll old new before after status
looked_up old new before after status s u keys found was is fit keys_are many stays done told keeps = record {
  closed = λ none. absurd (some_is_none s (sym was ∙ none));
  long = λ some no. absurd (no fit);
  made = λ some short. inl (
    done,
    found,
    many,
    record {
      before = s;
      after = u;
      was = was;
      is = is;
      stays = record {
        index = stays.index;
        pass = (
          subst (λ (l : List (List ℕ)). AreNoted s.handle.index.layout s.handle.pass u.handle.pass (gets l found)) keys_are stays.pass.0,
          subst (λ n. HasMadeGetManySteps s.handle.index untold n (s.handle.pass, tt) (u.handle.pass, tt)) (ap length keys_are ∙ length-map before key_in) stays.pass.1,
        );
      };
      keeps = keeps;
    },
    told,
  );
}
