-- A range that runs backwards has no key.
use Rattle.plain_index.proofs.Common.{◌≡◌, ℕ, List, [], ◌∷◌, true, false, cond, ◌&&◌, not, refl, sym, ap, ◌∙◌, arith, Less, Equal, Greater, is_gt, is_le, is_lt, ordering_reverse, nat_list_cmp_total, take-nil, Scan, Map, key_order, range_of, IsScanOf}
use Rattle.std.specs.declared.cmp.Ordering.{Ordering}

above : (o : Ordering) → is_gt o ≡ true → o ≡ Greater
above Less h = cc
above Equal h = cc
above Greater h = refl

-- the lower bound is above the upper one
module _ (from upto : List ℕ) (backwards : key_order from upto ≡ Greater) where
  no_key : (key : List ℕ) (o : Ordering) → key_order from key ≡ o → (is_le o && not (is_lt (key_order upto key))) ≡ false
  no_key key Greater e = refl
  no_key key Less e =
      let below : key_order upto from ≡ Less = nat_list_cmp_total.antisymm upto from ∙ ap ordering_reverse backwards in
      ap (λ o. not (is_lt o)) (nat_list_cmp_total.trans upto from key below e)
  no_key key Equal e =
      let over : key_order key upto ≡ Greater = sym (nat_list_cmp_total.congr from key upto e) ∙ backwards in
      ap (λ o. not (is_lt o)) (nat_list_cmp_total.antisymm upto key ∙ ap ordering_reverse over)

  pub range_of-backwards : (m : Map) → range_of m from upto ≡ []
  range_of-backwards [] = refl
  range_of-backwards (e ∷ es) = ap (λ b. cond b (e ∷ range_of es from upto) (range_of es from upto)) (no_key e.0 _ refl) ∙ range_of-backwards es

pub scan_of-backwards : (m : Map) (from upto : List ℕ) (limit : ℕ) (scan : Scan) → is_gt (key_order from upto) ≡ true → scan.pairs.items ≡ [] → scan.more ≡ false → IsScanOf m from upto limit scan
scan_of-backwards m from upto limit scan backwards none ends =
    let empty : range_of m from upto ≡ [] = range_of-backwards from upto (above _ backwards) m in
    record { pairs = rw empty (none ∙ sym (take-nil limit)); more = rw (empty, ends) ((λ h. cc), (λ h. absurd (omega arith))) }
