-- A hop stands behind those before it; the header stands before them all.
use Rattle.std.proofs.Common.{◌≡◌, refl, sym, ap, ◌∙◌, ◌+◌, ◌/◌, ℕ, List, length, length-append, arith}
use Rattle.laws.specs.Lists.{tab, joined}
use Rattle.laws.proofs.Tabs.{joined-next}
use Rattle.low_first.specs.LowFirst.{low_bytes}
use Rattle.low_first.proofs.Bytes.{length-low}
use Rattle.log_model.specs.Format.{hop_at, log_of}
use Rattle.log_model.proofs.Lengths.{length_at, log-parts, hop-fits}
use Rattle.log_hops.specs.Put.{put}
use Rattle.log_hops.proofs.Puts.{put-none, put_next}
use Rattle.log_write.proofs.put_log.Goals as goal

pub put_low-requires : goal.put_low-requires
put_low-requires c =
    let s = c.args.pairs.now in
    omega (arith, log-parts s.n s.db.now s.power.now)

pub loop-j-init : goal.loop-j-init
loop-j-init c = (refl, sym (put-none 2 _))

pub put_hop-at-requires-clause-room : goal.put_hop-at-requires-clause-room
put_hop-at-requires-clause-room c =
    let s = c.args.pairs.now in
    omega (arith, c.put_low.auto.log, hop-fits s.n s.db.now s.power.now c.loop-j.j (length c.args.log.now) c.requires.room (omega arith))

pub loop-j-preserved : goal.loop-j-preserved
unfolding hop_at
loop-j-preserved c =
    let s = c.args.pairs.now in
    let l = c.loop-j in
    let j : ℕ = l.j in
    let H : ℕ → List ℕ = hop_at s.n s.db.now s.power.now in
    let q = c.put_hop-at in
    let fits = hop-fits s.n s.db.now s.power.now j (length c.args.log.now) c.requires.room (omega arith) in
    let wide = length_at s.n s.db.now s.power.now j in
    let more = joined-next j H in (
      omega (arith, q.ensures.value, wide, ap length more, length-append (joined (tab j H)) (H j)),
      q.ensures.log_after
          ∙ put_next 2 l.at (length (joined (tab j H))) (joined (tab j H)) (H j) c.put_low.new.log l.log refl l.invariant.0 l.invariant.1
          (omega (arith, wide, fits, c.put_low.auto.log))
          ∙ ap (λ (r : List ℕ). put 2 r c.put_low.new.log) (sym more),
    )

pub returns-clause-value : goal.returns-clause-value
unfolding log_of
returns-clause-value c =
    let s = c.args.pairs.now in
    let H : ℕ → List ℕ = hop_at s.n s.db.now s.power.now in
    let e : c.loop-j.j ≡ length s.db.now / s.n = omega arith in
    c.loop-j.invariant.0 ∙ ap (λ (i : ℕ). 2 + length (joined (tab i H))) e ∙ sym (log-parts s.n s.db.now s.power.now)

pub returns-clause-log_after : goal.returns-clause-log_after
unfolding log_of
returns-clause-log_after c =
    let s = c.args.pairs.now in
    let H : ℕ → List ℕ = hop_at s.n s.db.now s.power.now in
    let e : c.loop-j.j ≡ length s.db.now / s.n = omega arith in
    c.loop-j.invariant.1
    ∙ ap (λ (i : ℕ). put 2 (joined (tab i H)) c.put_low.new.log) e
    ∙ put_next 0 2 2 (low_bytes 2 s.n) (joined (tab (length s.db.now / s.n) H)) c.args.log.now c.put_low.new.log (length-low 2 s.n) refl c.put_low.ensures
    (omega (arith, log-parts s.n s.db.now s.power.now, c.requires.room))
