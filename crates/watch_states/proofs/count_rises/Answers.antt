use Rattle.std.proofs.Common.{ℕ, ◌+◌, ◌%◌, ◌^◌, ◌≡◌, Bool, true, false, eqb, refl, ap, ◌∙◌, arith}
use Rattle.std.specs.Prelude.{Option, Some, None}
use Rattle.std.specs.Option.{option_eq}
use Rattle.laws.specs.Lists.{one}
use Rattle.laws.proofs.Fills.{unwritten, turns, done}
use Rattle.laws.proofs.Counts.{flag}
use Rattle.watch_states.specs.declared.Change.{Change}
use Rattle.watch_states.specs.declared.Change.TheVariants as C
use Rattle.watch_states.specs.States.{rises_after, noted_of}
use Rattle.watch_states.proofs.count_rises.Invariants.{rise_count}
use Rattle.watch_states.proofs.count_rises.Goals as goal

-- a change is a rise where its bit is 1
told : (eq : Change → Change → Bool) (o : Option Change) → eq C.Rise C.Rise ≡ true → eq C.Drop C.Rise ≡ false → option_eq eq o (Some C.Rise) ≡ eqb (noted_of o) 1
told eq None r d = refl
told eq (Some C.Rise) r d = r
told eq (Some C.Drop) r d = d

pub loop-k-preserved : goal.loop-k-preserved
loop-k-preserved c =
    let e : ℕ → ℕ = rise_count c.args.counts.now c.args.alive.now c.args.rise.now c.args.drop.now in
    let now-k = unwritten c.args.counts.now e c.loop-k.k c.loop-k.counts 0 0 c.loop-k.invariant (omega arith) in
    turns c.args.counts.now e c.loop-k.k c.loop-k.counts _ c.loop-k.invariant (omega arith)
    (λ i. (now-k i + (c.from.ensures ∙ flag c.eq.result ∙ ap one (c.eq.ensures ∙ told _ c.change_at.result refl refl) ∙ ap (λ (x : ℕ). one (eqb x 1)) c.change_at.ensures) i) % 2 ^ 64)

pub returns : goal.returns
unfolding rises_after
returns c =
    done c.args.counts.now (rise_count c.args.counts.now c.args.alive.now c.args.rise.now c.args.drop.now) c.loop-k.k c.loop-k.counts c.loop-k.invariant (omega arith)
