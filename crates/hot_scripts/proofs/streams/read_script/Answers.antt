-- Why `read_script` meets its contract.
use Rattle.hot_scripts.proofs.Common.{◌≡◌, ◌<◌, ◌≤◌, ℕ, List, [], ◌++◌, Option, None, Some, Result, Ok, length, take, refl, ap, sym, subst, ◌∙◌, append_assoc, append-nil, arith, common_steps, take-append-le, Consumes, IsAtEnd, Keeps, ReadConsumes}
use Rattle.hot_scripts.proofs.streams.read_script.Goals.{in-Ok+in_ok-extend_from_slice-in-Ok, in-Err}
use Rattle.hot_scripts.proofs.streams.read_script.Goals as goal

-- a read, and then one more
read_more : (old mid new : Option (List ℕ)) (front more : List ℕ) → Consumes old mid front → Consumes mid new more → Consumes old new (front ++ more)
read_more None mid new front more first second = tt
read_more (Some xs) None new front more first second = absurd first
read_more (Some xs) (Some ys) None front more first second = absurd second
read_more (Some xs) (Some ys) (Some zs) front more first second = first ∙ (ap (λ rest. front ++ rest) second ∙ sym (append_assoc front more zs))

-- a read, and then nothing more
read_kept : (old mid new : Option (List ℕ)) (front : List ℕ) → Consumes old mid front → Keeps mid new → Consumes old new front
read_kept None mid new front first kept = tt
read_kept (Some xs) None new front first kept = absurd first
read_kept (Some xs) (Some ys) None front first kept = absurd kept
read_kept (Some xs) (Some ys) (Some zs) front first kept = first ∙ ap (λ rest. front ++ rest) (sym kept)

-- a read that gave nothing was at the end
read_end : {E : Type 0} (old mid new : Option (List ℕ)) (front room : List ℕ) (result : Result ℕ E) (count : ℕ) → result ≡ Ok count → count ≡ 0 → 0 < length room
    → Consumes old mid front → ReadConsumes mid new result room → Consumes old new front × IsAtEnd new
read_end old mid new front room result count is none some first read =
    let last = rw (is, none) at read in
    (subst (λ all. Consumes old new all) (append-nil front) (read_more old mid new front [] first last.0), last.1 refl some)

pub loop-preserved : goal.loop-preserved
loop-preserved g c =
    let old = g.R.Read.remaining c.args.reader.now in
    let mid = g.R.Read.remaining c.loop.reader in
    let new = g.R.Read.remaining c.read.new.self in
    elim c.match-read.branch [
      | in-Ok+in_ok-extend_from_slice-in-Ok w ↦
          let more = take w.in-Ok.count c.read.new.buf in
          let within : w.in-Ok.count ≤ length c.read.new.buf = w.in-Ok.ensures.bound.0 in
          let whole : c.match-read.bytes.items ≡ c.loop.bytes.items ++ more =
          ap (λ v. v.items) w.bytes-is ∙ (w.in_ok-extend_from_slice-in-Ok.ensures.items ∙ ap (λ t. c.loop.bytes.items ++ t) (rw take-append-le refl)) in
          subst (λ all. Consumes old new all) (sym whole) (read_more old mid new c.loop.bytes.items more c.loop.invariant w.in-Ok.ensures.bytes.0)
      | in-Err w ↦
          subst (λ all. Consumes old new all) (sym (ap (λ v. v.items) w.bytes-is)) (read_kept old mid new c.loop.bytes.items c.loop.invariant w.in-Err.ensures.bytes)
    ]

pub returns-then-len-gt-MAX_SCRIPT-clause-fault : goal.returns-then-len-gt-MAX_SCRIPT-clause-fault
returns-then-len-gt-MAX_SCRIPT-clause-fault g c = (c.loop.bytes.items, c.loop.invariant, omega (arith, c.if-len-gt-MAX_SCRIPT.true, c.len.ensures, c.loop.bytes.ok))

pub returns-in-Ok-eq0-clause-whole : goal.returns-in-Ok-eq0-clause-whole
returns-in-Ok-eq0-clause-whole g c =
    let some : 0 < length c.read.new.buf = grind (arith, common_steps, c.min-room.ensures, c.read.auto.buf) in
    read_end _ (g.R.Read.remaining c.loop.reader) _ c.loop.bytes.items c.read.new.buf c.read.result c.in-Ok-eq0.field-0 c.in-Ok-eq0.is c.in-Ok-eq0.field-0-test
    some c.loop.invariant c.read.ensures.bytes

pub returns-in-Ok-eq0-clause-short : goal.returns-in-Ok-eq0-clause-short
returns-in-Ok-eq0-clause-short g c = omega (arith, c.if-len-gt-MAX_SCRIPT.false, c.len.ensures)
