-- Each return is the answer of the log that the tests so far leave.
use Rattle.std.proofs.Common.{◌≡◌, sym, ap, ◌∙◌, ℕ, length, arith, rules, Some, Ok, Err}
use Rattle.refusals.specs.Numbers.{number_of}
use Rattle.log_model.specs.Read.{read_in, read_hop}
use Rattle.log_model.proofs.Answers.{some_number, started, whole, read-refused, read-end, read-in, in-refused, in-next}
use Rattle.log_read.proofs.log_read.Goals as goal

pub returns-in_err-start_refusal : goal.returns-in_err-start_refusal
returns-in_err-start_refusal c =
    let a = c.args in
    let e = c.in_err-start_refusal in
    let r : ℕ = number_of e.field-0.0 in
    let h : (Err r, a.db_bits.now, a.power_bits.now) ≡ read_hop a.log.now a.at a.db_bits.now a.power_bits.now =
    read-refused a.log.now a.at a.db_bits.now a.power_bits.now r e.ensures (some_number e.field-0.0) in
    search (rules, h)

pub returns-then-at-log : goal.returns-then-at-log
returns-then-at-log c =
    let a = c.args in
    read-end a.log.now a.at a.db_bits.now a.power_bits.now (sym c.in_ok-start_refusal.ensures) c.if-at-log.true

pub hop_refusal-requires : goal.hop_refusal-requires
hop_refusal-requires c =
    let a = c.args in
    let s = started a.log.now a.at (length a.db_bits.now) (length a.power_bits.now) (sym c.in_ok-start_refusal.ensures) in
    (omega arith, (omega arith, s.to))

pub returns-in_err-hop_refusal : goal.returns-in_err-hop_refusal
returns-in_err-hop_refusal c =
    let a = c.args in
    let e = c.in_err-hop_refusal in
    let r : ℕ = number_of e.field-0.0 in
    let begun = sym c.in_ok-start_refusal.ensures in
    let h : (Err r, a.db_bits.now, a.power_bits.now) ≡ read_hop a.log.now a.at a.db_bits.now a.power_bits.now =
    in-refused a.log.now a.at a.db_bits.now a.power_bits.now (length a.db_bits.now) r e.ensures (some_number e.field-0.0)
    ∙ ap (λ (m : ℕ). read_in a.log.now a.at m a.db_bits.now a.power_bits.now)
    (started a.log.now a.at (length a.db_bits.now) (length a.power_bits.now) begun).dbs_long
    ∙ read-in a.log.now a.at a.db_bits.now a.power_bits.now begun c.if-at-log.false in
    search (rules, h)

pub take_pairs-requires : goal.take_pairs-requires
take_pairs-requires c =
    let a = c.args in
    let s = started a.log.now a.at (length a.db_bits.now) (length a.power_bits.now) (sym c.in_ok-start_refusal.ensures) in
    let w = whole a.log.now a.at (length a.db_bits.now) a.db_bits.now a.power_bits.now (sym c.in_ok-hop_refusal.ensures) in
    (omega arith, (omega arith, w.pairs_whole))

pub returns : goal.returns
returns c =
    let a = c.args in
    let n : ℕ = length a.db_bits.now in
    let t = c.take_pairs.ensures in
    let begun = sym c.in_ok-start_refusal.ensures in
    (λ i. (Ok (Some (t.value i)), t.db_after i, t.power_after i))
    ∙ in-next a.log.now a.at a.db_bits.now a.power_bits.now n (sym c.in_ok-hop_refusal.ensures)
    ∙ ap (λ (m : ℕ). read_in a.log.now a.at m a.db_bits.now a.power_bits.now)
    (started a.log.now a.at n (length a.power_bits.now) begun).dbs_long
    ∙ read-in a.log.now a.at a.db_bits.now a.power_bits.now begun c.if-at-log.false
