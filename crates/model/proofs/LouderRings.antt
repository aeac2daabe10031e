-- Two channels that were pushed to equally often, the ring of the one in order below the other's, place by place: so are their raw floors, and a
-- push of bins in order keeps them so. Looks at no count and no lead. Assumes nothing.
use mathlib.Core.Path.{◌≡◌, refl, ap, subst}
use mathlib.Core.Bool.{Bool, true, false}
use mathlib.Core.List.{List}
use Prim.Native.Nat.{ℕ, zero, suc, ◌+◌, ◌-◌, ◌/◌, ◌%◌, ◌≤◌}
use native.Mathlib.Omega.{arith}
use lib.Dec.{eqb}
use lib.ListN.{length, set, take}
use lib.Ieee.{le, lt, eq, of_bits, odd, of_fields, neg}
use lib.Count.{count_trailing_zeros}
use Rattle.laws.proofs.Lower.{Lower, lower-same, lower-take, lower-set}
use Rattle.model.specs.Layout.{hist_min}
use Rattle.model.specs.Ring.{ChannelFloor, smallest, entries, without, quartile_of, quartile, raw_floor, push_as, push, push_in}
use Rattle.model.specs.Sound.{Sound}
use Rattle.model.proofs.Rank.{lower-smallest}
use Rattle.model.proofs.ChannelRank.{length-entries}
use Rattle.model.proofs.BinOrder.{higher-centre}

pub record LowerRing (c d : ChannelFloor) : Type 0 where
  pub ring : Lower c.ring d.ring
  pub next : c.next ≡ d.next
  pub filled : c.filled ≡ d.filled

pub same-ring : (c : ChannelFloor) → LowerRing c c
same-ring c = record { ring = lower-same c.ring; next = refl; filled = refl }

pub bottom-itself : le hist_min hist_min ≡ true
unfolding le lt eq neg of_bits odd of_fields count_trailing_zeros
bottom-itself = refl

quartile-lower : (r : ℕ) (l m : List ℕ) → Lower l m → r ≤ length l → le (quartile_of r l) (quartile_of r m) ≡ true
quartile-lower zero l m o h = bottom-itself
quartile-lower (suc r) l m o h =
    higher-centre (smallest ((suc r + 3) / 4) l) (smallest ((suc r + 3) / 4) m) (lower-smallest ((suc r + 3) / 4) l m o (omega arith) (omega arith))

pub raw-lower : {R K : ℕ} (c d : ChannelFloor) → Sound R K c → LowerRing c d → le (raw_floor c) (raw_floor d) ≡ true
unfolding raw_floor quartile without
raw-lower c d s o =
    rw (← o.filled)
    (quartile-lower (c.filled - 0) (entries c) (take c.filled d.ring) (lower-take c.filled c.ring d.ring o.ring) (omega (arith, length-entries c s)))

as-lower : (full : Bool) (R : ℕ) (c d : ChannelFloor) (a b : ℕ) → LowerRing c d → a ≤ b → LowerRing (push_as full R c a) (push_as full R d b)
unfolding push_as
as-lower full R c d a b o h = go full
  where
    pushed : Lower (set c.ring c.next a) (set d.ring d.next b)
    pushed = subst (λ (n : ℕ). Lower (set c.ring c.next a) (set d.ring n b)) o.next (lower-set c.next a b c.ring d.ring o.ring h)

    go : (full : Bool) → LowerRing (push_as full R c a) (push_as full R d b)
    go true = record { ring = pushed; next = ap (λ (n : ℕ). (n + 1) % R) o.next; filled = o.filled }
    go false = record { ring = pushed; next = ap (λ (n : ℕ). (n + 1) % R) o.next; filled = ap (λ (n : ℕ). n + 1) o.filled }

-- whether their blocks were quiet or not
pub push-lower : (R : ℕ) (p q : Bool) (c d : ChannelFloor) (a b : ℕ) → LowerRing c d → a ≤ b → LowerRing (push_in R p c a) (push_in R q d b)
unfolding push_in push
push-lower R p q c d a b o h =
    let u : LowerRing (push R c a) (push R d b) =
    subst (λ (n : ℕ). LowerRing (push R c a) (push_as (eqb n R) R d b)) o.filled (as-lower (eqb c.filled R) R c d a b o h) in
    record { ring = u.ring; next = u.next; filled = u.filled }
