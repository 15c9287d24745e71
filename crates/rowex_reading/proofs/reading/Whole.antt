-- All words of a leaf that have bytes of its key have been loaded, and written to their places.
use Rattle.rowex_reading.proofs.Common.{◌≡◌, ℕ, ◌+◌, ◌<◌, ◌≤◌, List, length, take, get_or, sym, subst, arith, Leaf, MAX_BYTES, IsKey, LEAF_FIELDS, words_of_key, Event, SeatView, TableView, IsRead}
use Rattle.rowex_reading.specs.Reads.{IsReader, Reads, leaf_loads}
use Rattle.rowex_reading.specs.Seen.{Sure, IsLedTo}
use Rattle.rowex_reading.proofs.reading.Leafing.{AreSoFar, all_counted, all_places, all_read}
use Rattle.rowex_reading.proofs.reading.Fronting.{front, key_front, take-front}

-- so many words, of a leaf with this value whose key has this length
pub record HasAll {G : Type 0} (table : TableView) (becomes : G → Event → G → Type 0) (a b : SeatView × G) (n i value size : ℕ) (places : List ℕ) : Type 0 where
  pub reader : IsReader table b.0
  pub reads : Reads table becomes 0 i a b
  pub fits : i ≤ LEAF_FIELDS
  pub short : size ≤ MAX_BYTES
  pub at_end : i ≡ 2 + words_of_key size
  pub long : length places ≡ MAX_BYTES
  pub small : (x : ℕ) → get_or (front i places) x 0 < 256
  pub so_far : AreSoFar a.0.known b.0.known n i value size (front i places)

-- So these are the key's bytes, and the pair is the leaf's.
module _ {G : Type 0} {table : TableView} {becomes : G → Event → G → Type 0} {a b : SeatView × G} {n i value size : ℕ} {places : List ℕ} (has : HasAll table becomes a b n i value size places) where
  taken : take size places ≡ take size (front i places)
  taken = let at_end = has.at_end in sym (take-front i places has.long has.fits size (omega (arith, at_end)))

  pub whole_key : (m : ℕ) × IsLedTo a.0.known m (Leaf n) → IsKey (take size places) × (size ≤ MAX_BYTES)
  whole_key led =
      (key_front i places has.long has.fits size has.at_end (all_places _ _ _ n _ _ _ (front i places) has.reader.1 has.so_far has.at_end has.small led.0 led.1), has.short)

  counted : (m : ℕ) × IsLedTo a.0.known m (Leaf n) → i ≡ leaf_loads (take size places)
  counted led = all_counted _ _ _ n _ _ _ (front i places) has.reader.1 has.so_far has.at_end has.small led.0 led.1 (take size places) taken

  pub whole_reads : (m : ℕ) × IsLedTo a.0.known m (Leaf n) → Reads table becomes 0 (leaf_loads (take size places)) a b
  whole_reads led = subst (λ n. Reads table becomes 0 n a b) (counted led) has.reads

  pub whole_few : (m : ℕ) × IsLedTo a.0.known m (Leaf n) → leaf_loads (take size places) ≤ LEAF_FIELDS
  whole_few led = subst (λ n. n ≤ LEAF_FIELDS) (counted led) has.fits

  pub whole_read : (m : ℕ) → IsLedTo a.0.known m (Leaf n) → Sure b.0.known (λ s. IsRead s m n (take size places) value)
  whole_read m led = all_read _ _ _ n _ _ _ (front i places) has.reader.1 has.so_far has.at_end has.small m led (take size places) taken
