-- A fresh bank and a fresh gate for a recording, and a fresh store of the worst floor of late (document 02, R-6).
use Rattle.std.specs.Prelude.{List, ℕ, zero, suc, Option, Some, None, Float}
use Rattle.model.specs.Calls.{bank_new_call}
use Rattle.model.specs.GateCalls.{gate_new_call}
use Rattle.model.specs.WorstCalls.{worst_new_call}
use Rattle.watch_levels.specs.Levels.{signed_of, early_of}
use Rattle.watch_words.specs.declared.Settings.{Settings}

-- the answer, the bank's two stores, the gate's
abbrev pub Made : Type 0
Made = ℕ × List ℕ × List Float × List ℕ × List Float

-- the gate, with the levels of the settings
abbrev pub gate_made : Settings → List ℕ → ℕ → List ℕ → List Float → ℕ × List ℕ × List Float
gate_made s lengths n gu gf = gate_new_call gu gf n (signed_of s.on) (signed_of s.off) (early_of s.early) lengths

abbrev pub beside : List ℕ → List Float → ℕ × List ℕ × List Float → Made
beside bu bf g = (g.0, bu, bf, g.1, g.2)

-- by the bank's answer: where it is refused no gate is made
abbrev pub after : ℕ → Settings → List ℕ → ℕ → List ℕ → List Float → List ℕ → List Float → Made
after zero s lengths n bu bf gu gf = beside bu bf (gate_made s lengths n gu gf)
after (suc r) s lengths n bu bf gu gf = (suc r, bu, bf, gu, gf)

unfoldable pub made : Settings → List ℕ → ℕ → List ℕ → List Float → List ℕ → List Float → Made
made s lengths n bu bf gu gf = let b = bank_new_call bu bf n in after b.0 s lengths n b.1 b.2 gu gf

-- the store of the worst floor over so many slow hops; where it is not kept nothing is made
unfoldable pub worst_made : Option ℕ → ℕ → List ℕ → List Float → ℕ × List ℕ × List Float
worst_made None n wu wf = (0, wu, wf)
worst_made (Some w) n wu wf = worst_new_call wu wf n w
