use Rattle.std.proofs.Common.{sym, ◌∙◌}
use borrow.Author.Tests.{eqb-true, eq-eqb}
use Rattle.bank_sound.proofs.Checks.{counts-decide, ring-fails, fields-fail}
use Rattle.bank_sound.proofs.channel_sound.Goals as goal
use Rattle.bank_sound.proofs.channel_sound.Goals.{then-fields_sound, else-fields_sound}

pub returns-then-stray_entries-eq0 : goal.returns-then-stray_entries-eq0
returns-then-stray_entries-eq0 c =
    elim c.if-fields_sound.branch [
      | then-fields_sound w ↦ c.counts_sound.ensures
          ∙ counts-decide c.args.chan.now (sym c.fields_sound.ensures ∙ w.if-fields_sound.true) (sym w.stray_entries.ensures ∙ eqb-true w.stray_entries.result 0 (sym w.value-is ∙ c.if-stray_entries-eq0.true))
      | else-fields_sound w ↦ cc
    ]

pub returns-else-stray_entries-eq0 : goal.returns-else-stray_entries-eq0
returns-else-stray_entries-eq0 c =
    elim c.if-fields_sound.branch [
      | then-fields_sound w ↦ c.if-stray_entries-eq0.false ∙ ring-fails c.args.chan.now (λ h. let e = eq-eqb w.stray_entries.result 0 (w.stray_entries.ensures ∙ h) in cc)
      | else-fields_sound w ↦ c.if-stray_entries-eq0.false ∙ fields-fail c.args.chan.now (sym c.fields_sound.ensures ∙ w.if-fields_sound.false)
    ]
