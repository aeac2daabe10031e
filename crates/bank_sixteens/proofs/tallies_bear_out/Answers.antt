use Rattle.std.proofs.Common.{List, ℕ, sym, ap₂, ◌∙◌, arith}
use Rattle.laws.specs.Tests.{all_below}
use Rattle.laws.proofs.Tests.{and_l, and_r}
use Rattle.bank_sixteens.specs.Rows.{row_borne_out}
use Rattle.bank_sixteens.proofs.Rows.{few-front, few-behind, counted}
use Rattle.bank_sixteens.proofs.tallies_bear_out.Goals as goal

pub count_rows-requires-2-clause-few : goal.count_rows-requires-2-clause-few
count_rows-requires-2-clause-few c =
    let u = c.args.first.now in (
      few-front c.args.filled u c.args.t.now.front c.count_rows.new.t.front (omega arith) c.told-first c.requires.clear.0 c.count_rows.ensures.0,
      few-behind c.args.filled u c.args.t.now.behind c.count_rows.new.t.behind (omega arith) c.told-first c.requires.clear.1 c.count_rows.ensures.1,
    )

pub returns : goal.returns
returns c =
    let top = c.args.top in
    let by = counted c.args.filled top c.args.first.now c.args.second.now (omega arith) (omega arith) c.fits-first c.told-first c.told-second
    c.requires.first_ready.0 c.requires.second_ready.0 c.requires.first_ready.1 c.requires.second_ready.1
    c.args.t.now.front c.count_rows.new.t.front c.count_rows-2.new.t.front c.requires.clear.0 c.count_rows.ensures.0 c.count_rows-2.ensures.0
    c.args.t.now.behind c.count_rows.new.t.behind c.count_rows-2.new.t.behind c.requires.clear.1 c.count_rows.ensures.1 c.count_rows-2.ensures.1 in
    let x = c.four_borne_out-of_front in
    let w = c.four_borne_out-of_others in
    λ e.
    let o = by.sixteen
    (ap₂ (λ (a b : List ℕ). all_below top (row_borne_out a b c.count_rows-2.new.t.front)) (sym c.front.ensures) (sym c.front-2.ensures) ∙ sym x.ensures.0 ∙ and_l x.result w.result e)
    (ap₂ (λ (a b : List ℕ). all_below top (row_borne_out a b c.count_rows-2.new.t.behind)) (sym c.behind.ensures) (sym c.behind-2.ensures) ∙ sym w.ensures.0 ∙ and_r x.result w.result e) in
    (o.0, o.1, by.clear x.new.t x.ensures.1, by.clear_behind w.new.t w.ensures.1)
