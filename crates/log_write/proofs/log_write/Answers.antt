-- Each return is the answer of the writer that the checks leave.
use Rattle.std.proofs.Common.{◌≡◌, sym, ℕ, length, rules, Err}
use Rattle.refusals.specs.Numbers.{number_of}
use Rattle.log_model.specs.Format.{written}
use Rattle.log_model.proofs.Answers.{some_number}
use Rattle.log_write.proofs.Refuses.{fits, write-refused, write_done}
use Rattle.log_write.proofs.log_write.Goals as goal

pub returns-in_err-write_refusal : goal.returns-in_err-write_refusal
returns-in_err-write_refusal c =
    let a = c.args in
    let e = c.in_err-write_refusal in
    let r : ℕ = number_of e.field-0.0 in
    let h : (Err r, a.log.now) ≡ written a.n a.db_bits.now a.power_bits.now a.log.now =
    write-refused a.n a.db_bits.now a.power_bits.now a.log.now r e.ensures (some_number e.field-0.0) in
    search (rules, h)

pub invariant_of-pairs : goal.invariant_of-pairs
invariant_of-pairs c =
    let a = c.args in
    record { alike = sym (fits a.n a.db_bits.now a.power_bits.now (length a.log.now) (sym c.in_ok-write_refusal.ensures)).alike }

pub put_log-requires-clause-le_n : goal.put_log-requires-clause-le_n
put_log-requires-clause-le_n c =
    let a = c.args in
    let f = fits a.n a.db_bits.now a.power_bits.now (length a.log.now) (sym c.in_ok-write_refusal.ensures) in
    (f.some, (f.most, f.whole))

pub put_log-requires-clause-room : goal.put_log-requires-clause-room
put_log-requires-clause-room c =
    let a = c.args in
    (fits a.n a.db_bits.now a.power_bits.now (length a.log.now) (sym c.in_ok-write_refusal.ensures)).roomy

pub returns : goal.returns
returns c =
    let a = c.args in
    let p = c.put_log in
    write_done a.n a.db_bits.now a.power_bits.now a.log.now (sym c.in_ok-write_refusal.ensures) p.result p.new.log p.ensures.value p.ensures.log_after
