-- `watch_batch::put_db` meets its contract: what is put in front is a list's front. Assumes nothing.
use Rattle.std.proofs.Common.{◌≡◌, ◌∙◌, sym, ap, List, ℕ, ◌≤◌, ◌++◌, min, length, get_or, take, drop, arith}
use Rattle.std.specs.Float.{Float}
use lib.ListN.{length-take}
use lib.Seq.{get_or-take}
use Rattle.laws.specs.Lists.{tab}
use Rattle.laws.proofs.Tabs.{tab-ext, tab-get_d}
use Rattle.model.specs.Numbers.{f0}
use Rattle.watch_batch.proofs.put_db.Goals as goal

front : (l : List Float) (m : ℕ) → m ≤ length l → take m l ≡ tab m (λ k. get_or l k f0)
front l m h =
    sym (tab-get_d (take m l) f0 m (omega (arith, length-take m l)))
    ∙ tab-ext m (λ k. get_or (take m l) k f0) (λ k. get_or l k f0) (λ k lt. get_or-take m l k f0 lt)

pub returns : goal.returns
returns c =
    let s = c.args.smooth.now in
    let f = c.args.gate_f.now in
    let m = c.min-m.result in
    let least : m ≡ min (length s) (length f) = c.min-m.ensures in
    ap (λ (p : List Float). p ++ drop m f) (c.copy_from_slice.ensures.after ∙ front s m (omega arith))
    ∙ ap (λ (j : ℕ). tab j (λ k. get_or s k f0) ++ drop j f) least
