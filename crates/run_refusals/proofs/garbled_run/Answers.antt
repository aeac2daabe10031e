use Rattle.std.proofs.Common.{◌≡◌, ◌<◌, ◌&&◌, ◌||◌, ◌+◌, ◌%◌, ◌++◌, ◌∙◌, sym, ap, ℕ, List, eqb, length, arith}
use lib.Ieee.{Float}
use Rattle.model.specs.Layout.{decimation_hops}
use Rattle.model.specs.Refusals.{garbled}
use Rattle.run_refusals.proofs.Refuses.{left_of, left-more, left-none}
use Rattle.run_refusals.proofs.garbled_run.Goals as goal

-- the next hop is in front of what is left
turned : (n p size : ℕ) (hop rest rest' : List Float) → 0 < n → size ≡ n → rest ≡ hop ++ rest' → length hop ≡ size
    → left_of n p rest ≡ ((eqb p 0 && garbled (length hop) hop) || left_of n ((p + 1) % decimation_hops) rest')
turned n p size hop rest rest' some s e h = ap (left_of n p) e ∙ left-more n p some hop rest' (h ∙ s)

pub loop-hop-init : goal.loop-hop-init
loop-hop-init c =
    let e = c.into_iter-hop-iterator.ensures.into_iter_gives in
    let items = c.chunks_exact-hop-items.ensures in
    record {
      by_n = rw e items.size;
      phased = c.requires.1;
      left = ap (left_of c.args.n c.args.phase) (sym (rw e items.rest));
    }

pub returns-then-garbled_hop : goal.returns-then-garbled_hop
returns-then-garbled_hop c =
    let v = c.loop-hop.invariant in
    let s = c.in-Some.ensures.steps in
    sym (v.left ∙ turned _ _ _ _ _ _ c.requires.0 v.by_n s.1.0 s.1.1 ∙ rw (sym c.garbled_hop.ensures ∙ c.if-garbled_hop.true))

pub next_phase-p-requires : goal.next_phase-p-requires
next_phase-p-requires c = c.loop-hop.invariant.phased

pub loop-hop-preserved : goal.loop-hop-preserved
loop-hop-preserved c =
    let v = c.loop-hop.invariant in
    let s = c.in-Some.ensures.steps in
    record {
      by_n = s.0 ∙ v.by_n;
      phased = omega (arith, c.next_phase-p.ensures);
      left =
          v.left
          ∙ turned _ _ _ _ _ _ c.requires.0 v.by_n s.1.0 s.1.1
          ∙ rw (sym c.garbled_hop.ensures ∙ c.if-garbled_hop.false) (ap (λ (p : ℕ). left_of c.args.n p c.next.new.self.rest.now) (sym c.next_phase-p.ensures));
    }

pub returns : goal.returns
returns c =
    let v = c.loop-hop.invariant in
    let s = c.in-None.ensures.steps in
    sym (v.left ∙ left-none c.args.n c.loop-hop.p c.requires.0 c.loop-hop.hop-iterator.rest.now (omega (arith, s.1.0, v.by_n)))
