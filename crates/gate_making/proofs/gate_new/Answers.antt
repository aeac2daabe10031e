use Rattle.std.proofs.Common.{◌∙◌, sym, ap₂, ℕ, List, [], Float, length}
use lib.IntN.{ℤ}
use Rattle.model.specs.Gate.{distinct}
use Rattle.model.specs.GateCalls.{gate_make_refusal}
use Rattle.gate_lengths.specs.Makes.{fresh_u}
use Rattle.gate_making.proofs.Levels.{three-read, stored-read}
use Rattle.gate_making.proofs.Makes.{fit, fresh-u, fresh-f, new-made}
use Rattle.gate_making.proofs.gate_new.Goals as goal

pub returns : goal.returns
returns c =
    let s = c.args in
    let r = c.ranges in
    let l = s.lengths.now in
    let none =
    c.in_ok-make_refusal.ensures
    ∙ three-read (λ (a b d : ℤ). gate_make_refusal (length s.gate.now) (length s.gate_f.now) s.n a b d l) s.on s.off s.early r.on r.off r.early in
    let z = fit (length s.gate.now) (length s.gate_f.now) s.n s.on s.off s.early l (sym none) in
    let a = stored-read s.on r.on _ c.stored.ensures in
    let b = stored-read s.off r.off _ c.stored-2.ensures in
    let d = stored-read s.early r.early _ c.stored-3.ensures in
    ap₂ (λ (x : List ℕ) (y : List Float). (0, x, y))
    (c.fresh_u.ensures ∙ (λ i. fresh_u s.n (a i) (b i) (d i) (distinct [] l)) ∙ fresh-u s.n s.on s.off s.early l)
    (c.fresh_f.ensures ∙ fresh-f s.n s.on s.off s.early l (length s.gate_f.now) z.long_f)
    ∙ new-made s.gate.now s.gate_f.now s.n s.on s.off s.early l none
