-- What the two stores hold after each part of a hop. Assumes nothing.
use mathlib.Core.Path.{◌≡◌, sym, subst}
use mathlib.Core.Bool.{Bool}
use mathlib.Core.List.{List}
use Prim.Native.Nat.{ℕ}
use lib.ListN.{length, get_or}
use lib.Ieee.{Float}
use Rattle.model.specs.Bank.{FloorBank, raw_floors}
use Rattle.model.specs.Stores.{bank_u16s, bank_floats, bank_of}
use Rattle.model.specs.GoodBank.{Ready}
use Rattle.bank_stages.specs.Steps.{Holds, smooth_step, seed_step, push_step, raw_step, usable_step, block_step, rise_step, floor_step}
use Rattle.bank_stages.proofs.Stages.{At, at_start, bank-at, both, only-floats, only-u16s, keeps-smooth, keeps-seed, keeps-push, keeps-raw, keeps-usable, keeps-block, keeps-rise, keeps-floor, smooth-u, push-f, raw-u, usable-u, block-u, rise-u, raw-known}

-- ---- (a), then (b)

module _ (n : ℕ) (u : List ℕ) (f : List Float) (r : Ready u f) (e : n ≡ get_or u 0 0) (held : Bool) (power : List Float)
    (f₁ : List Float) (h₁ : f₁ ≡ bank_floats (smooth_step held power (bank_of u f))) where
  pub smoothed : At n (smooth_step held power (bank_of u f)) u f₁
  smoothed = only-floats n (bank_of u f) u f (at_start u f n r e) (smooth_step held power) (keeps-smooth held power) (smooth-u held power) f₁ h₁

  pub floored : (db : List Float) (u₂ : List ℕ) (f₂ : List Float) → Holds (floor_step db (bank_of u f₁)) u₂ f₂ → At n (floor_step db (smooth_step held power (bank_of u f))) u₂ f₂
  floored db u₂ f₂ h₂ = both n (smooth_step held power (bank_of u f)) u f₁ smoothed (floor_step db) (keeps-floor db) u₂ f₂ h₂

-- ---- the parts of (b)

module _ (db : List Float) (u : List ℕ) (f : List Float) (r : Ready u f) (e : length db ≡ get_or u 0 0)
    (u₁ : List ℕ) (f₁ : List Float) (h₁ : Holds (seed_step db (bank_of u f)) u₁ f₁) where
  abbrev b₁ : FloorBank
  b₁ = seed_step db (bank_of u f)

  pub seeded : At (length db) b₁ u₁ f₁
  seeded = both (length db) (bank_of u f) u f (at_start u f (length db) r e) (seed_step db) (keeps-seed db) u₁ f₁ h₁

  module _ (u₂ : List ℕ) (h₂ : u₂ ≡ bank_u16s (push_step db (bank_of u₁ f₁))) where
    abbrev b₂ : FloorBank
    b₂ = push_step db b₁

    pub pushed : At (length db) b₂ u₂ f₁
    pushed = only-u16s (length db) b₁ u₁ f₁ seeded (push_step db) (keeps-push db) (push-f db) u₂ h₂

    module _ (f₃ : List Float) (h₃ : f₃ ≡ bank_floats (raw_step (bank_of u₂ f₁))) where
      pub raw_stored : At (length db) (raw_step b₂) u₂ f₃
      raw_stored = only-floats (length db) b₂ u₂ f₁ pushed raw_step keeps-raw raw-u f₃ h₃

      pub raw_is : (bank_of u₂ f₃).raw ≡ raw_floors (bank_of u₂ f₃).n (bank_of u₂ f₃).chans
      raw_is = subst (λ (x : FloorBank). x.raw ≡ raw_floors x.n x.chans) (sym (bank-at (length db) (raw_step b₂) u₂ f₃ raw_stored)) (raw-known b₂)

      module _ (f₄ : List Float) (h₄ : f₄ ≡ bank_floats (usable_step (bank_of u₂ f₃))) where
        pub usable_stored : At (length db) (usable_step (raw_step b₂)) u₂ f₄
        usable_stored = only-floats (length db) (raw_step b₂) u₂ f₃ raw_stored usable_step keeps-usable usable-u f₄ h₄

        module _ (f₅ : List Float) (h₅ : f₅ ≡ bank_floats (block_step (bank_of u₂ f₄))) where
          pub block_stored : At (length db) (block_step (usable_step (raw_step b₂))) u₂ f₅
          block_stored = only-floats (length db) (usable_step (raw_step b₂)) u₂ f₄ usable_stored block_step keeps-block block-u f₅ h₅

          pub all_stored : (f₆ : List Float) → f₆ ≡ bank_floats (rise_step (bank_of u₂ f₅)) → Holds (floor_step db (bank_of u f)) u₂ f₆
          unfolding floor_step
          all_stored f₆ h₆ =
              let a = only-floats (length db) (block_step (usable_step (raw_step b₂))) u₂ f₅ block_stored rise_step keeps-rise rise-u f₆ h₆ in
              record { u16s = a.u16s; floats = a.floats }
