-- What is made of the stores, by what was asked on the way. Assumes nothing.
use Rattle.std.proofs.Common.{◌≡◌, refl, ap, ◌∙◌, List, ℕ, zero, suc}
use lib.IntN.{ℤ}
use lib.Ieee.{Float}
use Rattle.model.specs.Calls.{bank_new_call}
use Rattle.model.specs.GateCalls.{gate_new_call}
use Rattle.watch_levels.specs.Levels.{signed_of, early_of}
use Rattle.watch_words.specs.declared.Settings.{Settings}
use Rattle.watch_stores.specs.Made.{Made, beside, after, made}

module _ (s : Settings) (lengths : List ℕ) (n : ℕ) (bu : List ℕ) (bf : List Float) (gu : List ℕ) (gf : List Float) where
  -- a refusal of the bank is all
  alone : (x : ℕ) (u : List ℕ) (f : List Float) → (x ≡ 0 → ⊥) → (x, u, f, gu, gf) ≡ after x s lengths n u f gu gf
  alone zero u f z = absurd (z refl)
  alone (suc x) u f z = refl

  abbrev then : ℕ × List ℕ × List Float → Made
  then b = after b.0 s lengths n b.1 b.2 gu gf

  pub refused : (x : ℕ) (u : List ℕ) (f : List Float) → (x, u, f) ≡ bank_new_call bu bf n → (x ≡ 0 → ⊥) → (x, u, f, gu, gf) ≡ made s lengths n bu bf gu gf
  unfolding made
  refused x u f b z = alone x u f z ∙ ap then b

  pub both : (u : List ℕ) (f : List Float) (g : ℕ × List ℕ × List Float) (on off early : ℤ) → (0, u, f) ≡ bank_new_call bu bf n
      → on ≡ signed_of s.on → off ≡ signed_of s.off → early ≡ early_of s.early → g ≡ gate_new_call gu gf n on off early lengths
      → beside u f g ≡ made s lengths n bu bf gu gf
  unfolding made
  both u f g on off early b o p q e =
      ap (beside u f) (e ∙ (λ i. gate_new_call gu gf n (o i) (p i) (q i) lengths)) ∙ ap then b
