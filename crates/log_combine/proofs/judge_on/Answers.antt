-- What the pass knows so far carries over a turn, and tells what it says when it stops.
use Rattle.std.proofs.Common.{sym, ap, ◌∙◌, ℕ, ◌+◌, ◌-◌, ◌*◌, arith}
use Rattle.laws.specs.Bits.{width}
use Rattle.laws.specs.Tests.{tally}
use Rattle.low_first.specs.LowFirst.{low_two}
use Rattle.log_model.specs.Format.{changed}
use Rattle.log_model.specs.Whole.{Below}
use Rattle.log_combine.proofs.InStep.{zeros-are}
use Rattle.log_combine.proofs.Judges.{goes-tells, started-a, judging-begins, judging-next, judging-stops, judging-ends}
use Rattle.log_combine.proofs.judge_on.Goals as goal

pub loop-d-init : goal.loop-d-init
loop-d-init c =
    let a = c.args in
    let s = c.requires in
    let f : Below 256 a.first.now = λ i h. omega (arith, c.type_inv.first i) in
    let g : Below 256 a.second.now = λ i h. omega (arith, c.type_inv.second i) in
    (s.header, judging-begins a.first.now a.second.now f g s.starts_a s.starts_b a.d.now a.p.now a.e.now a.q.now a.db.now a.power.now s.lent)

pub turn-next-requires-clause-db_len : goal.turn-next-requires-clause-db_len
turn-next-requires-clause-db_len c =
    let a = c.args in
    let s = c.requires.lent in
    let n : ℕ = low_two a.first.now 0 in
    let d = zeros-are n a.d.now s.d_zero in
    let db = zeros-are (n + n) a.db.now s.db_zero in
    let power = zeros-are (n + n) a.power.now s.power_zero in
    (omega (arith, d, db), omega (arith, d, power))

pub hop_len-more-requires : goal.hop_len-more-requires
hop_len-more-requires c =
    let a = c.args in
    let s = c.requires.lent in
    let n : ℕ = low_two a.first.now 0 in
    let f : Below 256 a.first.now = λ i h. omega (arith, c.type_inv.first i) in
    let g : Below 256 a.second.now = λ i h. omega (arith, c.type_inv.second i) in
    let few = (started-a a.first.now a.second.now f g c.requires.starts_a c.requires.starts_b).most in
    let d = zeros-are n a.d.now s.d_zero in
    let db = zeros-are (n + n) a.db.now s.db_zero in
    let power = zeros-are (n + n) a.power.now s.power_zero in
    (omega (arith, few, d), omega (arith, d, db))

pub returns-then-not-goes_on : goal.returns-then-not-goes_on
returns-then-not-goes_on c =
    let a = c.args in
    let o = c.loop-d in
    let m = c.turn-next.new in
    let u = c.turn-next.ensures in
    let f : Below 256 a.first.now = λ i h. omega (arith, c.type_inv.first i) in
    let g : Below 256 a.second.now = λ i h. omega (arith, c.type_inv.second i) in
    let more =
    c.hop_len-more.ensures
    ∙ ap (λ (n : ℕ). width n + 12 * tally n (λ k. changed n m.db m.power (n + k))) (zeros-are (low_two a.first.now 0) a.d.now c.requires.lent.d_zero) in
    judging-stops a.first.now a.second.now f g c.requires.starts_a c.requires.starts_b o.at.first o.at.second o.len o.hops o.d o.p o.e o.q o.db o.power o.invariant.1
    (sym c.is_before.ensures ∙ c.loop-d-test.true) c.turn-next.result.first c.turn-next.result.second m.d m.p m.e m.q m.db m.power u.first_value u.d_after
    u.e_after u.db_after u.power_after c.hop_len-more.result more a.room o.invariant.0 (sym c.goes_on.ensures ∙ c.if-not-goes_on.true)

pub loop-d-preserved : goal.loop-d-preserved
loop-d-preserved c =
    let a = c.args in
    let o = c.loop-d in
    let m = c.turn-next.new in
    let u = c.turn-next.ensures in
    let f : Below 256 a.first.now = λ i h. omega (arith, c.type_inv.first i) in
    let g : Below 256 a.second.now = λ i h. omega (arith, c.type_inv.second i) in
    let goes = sym c.goes_on.ensures ∙ c.if-not-goes_on.false in
    let moved = goes-tells o.at.first c.turn-next.result.first o.at.second c.turn-next.result.second c.hop_len-more.result (a.room - o.len) goes in
    let more =
    c.hop_len-more.ensures
    ∙ ap (λ (n : ℕ). width n + 12 * tally n (λ k. changed n m.db m.power (n + k))) (zeros-are (low_two a.first.now 0) a.d.now c.requires.lent.d_zero) in (
      omega (arith, moved.1.1, o.invariant.0),
      judging-next a.first.now a.second.now f g c.requires.starts_a c.requires.starts_b o.at.first o.at.second o.len o.hops o.d o.p o.e o.q o.db o.power o.invariant.1
          (sym c.is_before.ensures ∙ c.loop-d-test.true) c.turn-next.result.first c.turn-next.result.second m.d m.p m.e m.q m.db m.power u.first_value
          u.d_after u.e_after u.db_after u.power_after c.hop_len-more.result more (a.room - o.len) goes,
    )

pub returns : goal.returns
returns c =
    let a = c.args in
    let o = c.loop-d in
    let s = c.requires.lent in
    let n : ℕ = low_two a.first.now 0 in
    let f : Below 256 a.first.now = λ i h. omega (arith, c.type_inv.first i) in
    let g : Below 256 a.second.now = λ i h. omega (arith, c.type_inv.second i) in
    judging-ends a.first.now a.second.now f g c.requires.starts_a c.requires.starts_b o.at.first o.at.second o.len o.hops o.d o.p o.e o.q o.db o.power o.invariant.1
    a.room o.invariant.0 (o.auto.d ∙ zeros-are n a.d.now s.d_zero) (o.auto.p ∙ zeros-are n a.p.now s.p_zero) (o.auto.e ∙ zeros-are n a.e.now s.e_zero)
    (o.auto.q ∙ zeros-are n a.q.now s.q_zero) (sym c.is_before.ensures ∙ c.loop-d-test.false) c.fit_at.result c.fit_at.ensures
