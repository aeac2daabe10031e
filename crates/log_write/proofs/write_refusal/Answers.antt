-- What was measured is the length of the log.
use Rattle.std.proofs.Common.{◌≡◌, sym, ◌∙◌, ◌<◌, ◌≤◌, length, arith, rules}
use Rattle.log_model.specs.Format.{log_of, write_refusal}
use Rattle.log_model.proofs.Lengths.{length-log, hops-whole}
use Rattle.log_write.proofs.write_refusal.Goals as goal

pub returns-then-room-log_len : goal.returns-then-room-log_len
unfolding write_refusal
returns-then-room-log_len c =
    let a = c.args in
    let e : c.log_len.result ≡ length (log_of a.n a.db.now a.power.now) = c.log_len.ensures ∙ sym (length-log a.n a.db.now a.power.now (hops-whole a.n (length a.db.now) c.if-db-n-ne0.false)) in
    let h : a.room < length (log_of a.n a.db.now a.power.now) = omega arith in
    search rules

pub returns : goal.returns
unfolding write_refusal
returns c =
    let a = c.args in
    let e : c.log_len.result ≡ length (log_of a.n a.db.now a.power.now) = c.log_len.ensures ∙ sym (length-log a.n a.db.now a.power.now (hops-whole a.n (length a.db.now) c.if-db-n-ne0.false)) in
    let h : length (log_of a.n a.db.now a.power.now) ≤ a.room = omega arith in
    search rules
