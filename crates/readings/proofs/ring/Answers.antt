use Rattle.std.proofs.Common.{◌≡◌, ◌+◌, ◌*◌, ◌∙◌, sym, ℕ, List, Bor, get_or}
use Rattle.std.specs.Prelude.{Float}
use borrow.Author.Tests.{eq-eqb, ne_eqb}
use Rattle.model.specs.Layout.{ring_len, channel_len}
use Rattle.model.specs.Stores.{base}
use Rattle.model.specs.Refusals.{read_refusal}
use Rattle.model.specs.Readings.{ring_start, ring_length, VeryPart}
use Rattle.channel_readings.proofs.Places.{readable}
use Rattle.refusals.proofs.Answers.{refuses}
use Rattle.readings.proofs.ring.Goals as goal

-- the two cases of where the part is
empty : (b r : Bor (List ℕ)) (f : List Float) (k : ℕ) → (read_refusal b.now f k ≡ 0 → ⊥) → VeryPart b r 0 0
    → VeryPart b r (ring_start b.now f k) (ring_length b.now f k)
unfolding ring_start ring_length
empty b r f k h v = rw (ne_eqb (read_refusal b.now f k) 0 h) v

whole : (b r : Bor (List ℕ)) (f : List Float) (k a : ℕ) → read_refusal b.now f k ≡ 0 → a ≡ base (get_or b.now 0 0) + channel_len * k → VeryPart b r a ring_len
    → VeryPart b r (ring_start b.now f k) (ring_length b.now f k)
unfolding ring_start ring_length
whole b r f k a h e v = rw (eq-eqb (read_refusal b.now f k) 0 h) (rw e at v)

pub ring_start-requires : goal.ring_start-requires
ring_start-requires c =
    let r = readable c.args.bank.now c.args.bank_f.now c.args.k (sym c.in-Ok.ensures) in
    (r.below, r.high, r.long)

pub returns-in-Ok : goal.returns-in-Ok
returns-in-Ok c =
    whole c.args.bank c.ring_at.result c.args.bank_f.now c.args.k c.ring_start.result (sym c.in-Ok.ensures) c.ring_start.ensures.0 c.ring_at.ensures

pub returns-in-Err : goal.returns-in-Err
returns-in-Err c =
    empty c.args.bank c.empty_at_start.result c.args.bank_f.now c.args.k (λ q. refuses c.in-Err.field-0 (c.in-Err.ensures ∙ q)) c.empty_at_start.ensures
