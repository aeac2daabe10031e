-- A turn shows the next hop of the result, for which there is room.
use Rattle.std.proofs.Common.{◌≡◌, refl, sym, ap, ap₂, subst, ◌∙◌, ℕ, ◌+◌, ◌*◌, ◌≤◌, List, ◌++◌, length, get_or, arith}
use Rattle.laws.specs.Bits.{width}
use Rattle.laws.specs.Lists.{tab, joined}
use Rattle.laws.specs.Tests.{tally}
use Rattle.laws.proofs.Tabs.{joined-next}
use Rattle.low_first.specs.LowFirst.{low_two, low_bytes}
use Rattle.low_first.proofs.Bytes.{length-low}
use Rattle.log_model.specs.Format.{hop_of, changed, log_of}
use Rattle.log_model.specs.Whole.{Below}
use Rattle.log_model.proofs.Lengths.{length_at}
use Rattle.log_hops.specs.Put.{put}
use Rattle.log_hops.proofs.Puts.{put-none, put_next}
use Rattle.combine_model.specs.Combined.{db_chosen, power_chosen, combined_log}
use Rattle.log_combine.proofs.InStep.{chosen_hop, zeros-are, walk_begins, walk-lends, walk-shows, walk-next, shown-hop, shown-tally, combined-parts, combined-within, few-channels, hops-chosen}
use Rattle.log_combine.proofs.write_on.Goals as goal

pub put_low-requires : goal.put_low-requires
put_low-requires c =
    let a = c.args in
    let f : Below 256 a.first.now = λ i h. omega (arith, c.type_inv.first i) in
    let g : Below 256 a.second.now = λ i h. omega (arith, c.type_inv.second i) in
    omega (arith, combined-parts a.first.now a.second.now a.hops f g c.requires.ready.pair, c.requires.second_in_bounds)

pub loop-init : goal.loop-init
loop-init c =
    let a = c.args in
    let f : Below 256 a.first.now = λ i h. omega (arith, c.type_inv.first i) in
    let g : Below 256 a.second.now = λ i h. omega (arith, c.type_inv.second i) in (
      sym (put-none 2 _),
      walk_begins a.first.now a.second.now a.hops f g c.requires.ready.pair a.d.now a.p.now a.e.now a.q.now a.db.now a.power.now c.requires.ready,
    )

pub turn-at-requires-clause-db_len : goal.turn-at-requires-clause-db_len
turn-at-requires-clause-db_len c =
    let a = c.args in
    let o = c.loop in
    let f : Below 256 a.first.now = λ i h. omega (arith, c.type_inv.first i) in
    let g : Below 256 a.second.now = λ i h. omega (arith, c.type_inv.second i) in
    (walk-lends a.first.now a.second.now a.hops f g c.requires.ready.pair o.at.first o.at.second o.len o.counter o.d o.p o.e o.q o.db o.power o.invariant.1).1

pub put_hop-len-requires-clause-hop : goal.put_hop-len-requires-clause-hop
put_hop-len-requires-clause-hop c =
    let a = c.args in
    let v = c.loop.invariant.1 in
    let f : Below 256 a.first.now = λ i h. omega (arith, c.type_inv.first i) in
    let g : Below 256 a.second.now = λ i h. omega (arith, c.type_inv.second i) in
    let n = zeros-are (low_two a.first.now 0) a.d.now c.requires.ready.lent.d_zero in
    let few = few-channels a.first.now a.second.now a.hops f g c.requires.ready.pair in
    (omega (arith, v.db_long, n), omega (arith, few, n))

pub put_hop-len-requires-clause-room : goal.put_hop-len-requires-clause-room
put_hop-len-requires-clause-room c =
    let a = c.args in
    let o = c.loop in
    let m = c.turn-at.new in
    let u = c.turn-at.ensures in
    let n : ℕ = low_two a.first.now 0 in
    let f : Below 256 a.first.now = λ i h. omega (arith, c.type_inv.first i) in
    let g : Below 256 a.second.now = λ i h. omega (arith, c.type_inv.second i) in
    let pair = c.requires.ready.pair in
    let shows =
    walk-shows a.first.now a.second.now a.hops f g pair o.at.first o.at.second o.len o.counter o.d o.p o.e o.q o.db o.power o.invariant.1 c.loop-test.true
    c.turn-at.result.first c.turn-at.result.second m.d m.p m.e m.q m.db m.power u.first_value u.d_after u.e_after u.db_after u.power_after in
    let room : o.len + (width n + 12 * tally n (λ k. changed n m.db m.power (n + k))) ≤ length o.log =
    omega (
      arith,
      combined-within a.first.now a.second.now a.hops f g pair o.counter c.loop-test.true,
      shown-tally n _ _ o.counter m.db m.power shows,
      o.invariant.1.len_is,
      c.requires.second_in_bounds,
    ) in
    subst (λ (w : ℕ). o.len + (width w + 12 * tally w (λ k. changed w m.db m.power (w + k))) ≤ length o.log)
    (sym (zeros-are n a.d.now c.requires.ready.lent.d_zero)) room

pub loop-preserved : goal.loop-preserved
loop-preserved c =
    let a = c.args in
    let o = c.loop in
    let m = c.turn-at.new in
    let u = c.turn-at.ensures in
    let n : ℕ = low_two a.first.now 0 in
    let S : List ℕ = db_chosen a.first.now a.second.now in
    let T : List ℕ = power_chosen a.first.now a.second.now in
    let H : ℕ → List ℕ = chosen_hop a.first.now a.second.now in
    let f : Below 256 a.first.now = λ i h. omega (arith, c.type_inv.first i) in
    let g : Below 256 a.second.now = λ i h. omega (arith, c.type_inv.second i) in
    let pair = c.requires.ready.pair in
    let wide = zeros-are n a.d.now c.requires.ready.lent.d_zero in
    let shows =
    walk-shows a.first.now a.second.now a.hops f g pair o.at.first o.at.second o.len o.counter o.d o.p o.e o.q o.db o.power o.invariant.1 c.loop-test.true
    c.turn-at.result.first c.turn-at.result.second m.d m.p m.e m.q m.db m.power u.first_value u.d_after u.e_after u.db_after u.power_after in
    let fits = combined-within a.first.now a.second.now a.hops f g pair o.counter c.loop-test.true in (
      c.put_hop-len.ensures.log_after
          ∙ ap (λ (r : List ℕ). put o.len r o.log)
          (ap (λ (w : ℕ). hop_of w (λ k. changed w m.db m.power (w + k)) (λ k. get_or m.db (w + k) 0) (λ k. get_or m.power (w + k) 0)) wide
          ∙ shown-hop n S T o.counter m.db m.power shows)
          ∙ put_next 2 o.len (length (joined (tab o.counter H))) (joined (tab o.counter H)) (H o.counter) c.put_low.new.log o.log refl o.invariant.1.len_is o.invariant.0
          (omega (arith, fits, length_at n S T o.counter, c.requires.second_in_bounds))
          ∙ ap (λ (r : List ℕ). put 2 r c.put_low.new.log) (sym (joined-next o.counter H)),
      walk-next a.first.now a.second.now a.hops f g pair o.at.first o.at.second o.len o.counter o.d o.p o.e o.q o.db o.power o.invariant.1 c.loop-test.true
          c.turn-at.result.first c.turn-at.result.second m.d m.p m.e m.q m.db m.power u.first_value u.d_after u.e_after u.db_after u.power_after
          c.put_hop-len.result
          (c.put_hop-len.ensures.value ∙ ap (λ (w : ℕ). o.len + (width w + 12 * tally w (λ k. changed w m.db m.power (w + k)))) wide),
    )

pub returns-clause-value : goal.returns-clause-value
returns-clause-value c =
    let a = c.args in
    let o = c.loop in
    let H : ℕ → List ℕ = chosen_hop a.first.now a.second.now in
    let f : Below 256 a.first.now = λ i h. omega (arith, c.type_inv.first i) in
    let g : Below 256 a.second.now = λ i h. omega (arith, c.type_inv.second i) in
    let e : o.counter ≡ a.hops = omega arith in
    o.invariant.1.len_is ∙ ap (λ (i : ℕ). 2 + length (joined (tab i H))) e
    ∙ sym (combined-parts a.first.now a.second.now a.hops f g c.requires.ready.pair)

pub returns-clause-log_after : goal.returns-clause-log_after
unfolding combined_log log_of
returns-clause-log_after c =
    let a = c.args in
    let o = c.loop in
    let n : ℕ = length a.d.now in
    let H : ℕ → List ℕ = chosen_hop a.first.now a.second.now in
    let f : Below 256 a.first.now = λ i h. omega (arith, c.type_inv.first i) in
    let g : Below 256 a.second.now = λ i h. omega (arith, c.type_inv.second i) in
    let all = combined-parts a.first.now a.second.now a.hops f g c.requires.ready.pair in
    let hs = hops-chosen a.first.now a.second.now a.hops f g c.requires.ready.pair in
    let e : o.counter ≡ a.hops = omega arith in
    o.invariant.0 ∙ ap (λ (i : ℕ). put 2 (joined (tab i H)) c.put_low.new.log) e
    ∙ put_next 0 2 2 (low_bytes 2 n) (joined (tab a.hops H)) a.log.now c.put_low.new.log (length-low 2 n) refl c.put_low.ensures
    (omega (arith, all, c.requires.second_in_bounds))
    ∙ ap₂ (λ (m i : ℕ). put 0 (low_bytes 2 m ++ joined (tab i H)) a.log.now) (zeros-are (low_two a.first.now 0) a.d.now c.requires.ready.lent.d_zero) (sym hs)
