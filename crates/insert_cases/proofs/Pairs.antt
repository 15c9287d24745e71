-- Tips of a tree, and a fork of two of them.
use Rattle.insert_cases.proofs.Common.{◌≡◌, ℕ, ◌*◌, ◌<◌, ap, subst, arith, All, Place, Fork, places, IsEntry, height_of, Entry, first, Tree, leaf, node, fork, subtrie, IsTrie, IsBuilt, IsLower, bit_below, has_first}
use Rattle.key_bits.specs.declared.TheConstants.{MAX_BYTES}
use Rattle.tries.proofs.Tree.Fitting.{children_are, all_above}
use Rattle.tries.proofs.Keys.{has_key}

pub tip_entry : (e : Entry) (t : Tree) → subtrie t ≡ Place e → IsBuilt t → IsEntry e
tip_entry e t h b = subst (λ x. All IsEntry (places x)) h (children_are t b) 0 e (omega arith)

pub tip_low : (h : ℕ) (e : Entry) (t : Tree) → subtrie t ≡ Place e → IsLower h t → height_of e < h
tip_low h e t f l = subst (λ x. All (λ d. height_of d < h) (places x)) f (all_above h t l) 0 e (omega arith)

pub record IsPair (q : ℕ) (z o : Entry) (t : Tree) : Type 0 where
  pub zero_tip : Tree
  pub one_tip : Tree
  pub is : t ≡ fork q zero_tip one_tip
  pub zero_subtrie : subtrie zero_tip ≡ Place z
  pub one_subtrie : subtrie one_tip ≡ Place o

pub pair_of : (q : ℕ) (z o : Entry) (t : Tree) → subtrie t ≡ Fork q (Place z) (Place o) → IsPair q z o t
pair_of q z o (leaf m k v) e = absurd cc
pair_of q z o (node m x c) e = absurd cc
pair_of q z o (fork p a c) e = let f : p ≡ q = cc in record { zero_tip = a; one_tip = c; is = ap (λ r. fork r a c) f; zero_subtrie = cc; one_subtrie = cc }

-- what a fork of two entries that stands for a tree tells of them
pub record IsPairOf (q : ℕ) (z o : Entry) : Type 0 where
  pub position : q < 9 * MAX_BYTES
  pub zero : IsEntry z
  pub one : IsEntry o

pub pair_facts : (q : ℕ) (z o : Entry) (t : Tree) → subtrie t ≡ Fork q (Place z) (Place o) → IsTrie t → IsBuilt t → IsPairOf q z o
pair_facts q z o t e i b =
    let u = pair_of q z o t e in
    let j : IsTrie (fork q u.zero_tip u.one_tip) = subst IsTrie u.is i in
    let c : IsBuilt (fork q u.zero_tip u.one_tip) = subst IsBuilt u.is b in
    record {
      position = bit_below (first u.one_tip) q (has_key u.one_tip j.1 (first u.one_tip) (has_first u.one_tip)) (j.4 (first u.one_tip) (has_first u.one_tip));
      zero = tip_entry z u.zero_tip u.zero_subtrie c.0;
      one = tip_entry o u.one_tip u.one_subtrie c.1;
    }
