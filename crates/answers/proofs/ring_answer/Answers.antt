use Rattle.std.proofs.Common.{◌≡◌, ◌+◌, ◌*◌, ◌∙◌, sym, ℕ, List, get_or}
use Rattle.std.specs.Prelude.{Float}
use borrow.Author.Tests.{ne_eqb}
use Rattle.model.specs.Layout.{ring_len, channel_len}
use Rattle.model.specs.Stores.{base}
use Rattle.model.specs.Refusals.{read_refusal}
use Rattle.model.specs.Readings.{ring_start, ring_length}
use Rattle.channel_readings.proofs.Places.{readable}
use Rattle.refusals.proofs.Answers.{refuses}
use Rattle.answers.specs.Answers.{ring_answered}
use Rattle.answers.proofs.ring_answer.Goals as goal

module _ (u : List ℕ) (f : List Float) (k start len : ℕ) where
  none : (r : ℕ) → r ≡ read_refusal u f k → (r ≡ 0 → ⊥) → (r, start, len) ≡ ring_answered u f k start len
  unfolding ring_answered
  none r e h = rw (e, ne_eqb (read_refusal u f k) 0 (λ q. h (e ∙ q)))

  some : (a : ℕ) → read_refusal u f k ≡ 0 → a ≡ base (get_or u 0 0) + channel_len * k → (0, a, ring_len) ≡ ring_answered u f k start len
  unfolding ring_answered ring_start ring_length
  some a h e = rw (h, e)

pub ring_start-requires : goal.ring_start-requires
ring_start-requires c =
    let r = readable c.args.bank.now c.args.bank_f.now c.args.k (sym c.in-Ok.ensures) in
    (r.below, r.high, r.long)

pub returns-in-Ok : goal.returns-in-Ok
returns-in-Ok c = some c.args.bank.now c.args.bank_f.now c.args.k c.args.start.now c.args.len.now c.ring_start.result (sym c.in-Ok.ensures) c.ring_start.ensures.0

pub returns-in-Err : goal.returns-in-Err
returns-in-Err c =
    let e = c.in-Err.refusal in
    none c.args.bank.now c.args.bank_f.now c.args.k c.args.start.now c.args.len.now _ (c.number.ensures ∙ c.in-Err.ensures) (λ q. refuses e (sym c.number.ensures ∙ q))
