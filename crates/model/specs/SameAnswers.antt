-- R-7 (3): the dead branches are out "with answers equal on every sound store". The proof is `same_answers` in
-- proofs/SameAnswers.antt.
use Rattle.std.specs.Prelude.{◌≡◌, Bool, List, ℕ, ◌<◌, Float}
use Rattle.model.specs.Layout.{bins, ring_len}
use Rattle.model.specs.Ring.{ChannelFloor, push_in, raw_floor, usable_floor}
use Rattle.model.specs.Bank.{FloorBank, Hop, bank_step}
use Rattle.model.specs.Stores.{bank_of}
use Rattle.model.specs.Refusals.{bank_refusal}
use Rattle.model.specs.Sound.{Sound}
use Rattle.model.specs.GoodBank.{Good}
use Rattle.model.specs.Carried.{carried_push, carried_raw, carried_usable, carried_step}

pub record SameAnswers : Type 0 where
  pub push : (quiet : Bool) (c : ChannelFloor) (b : ℕ) → Sound ring_len bins c → b < bins → carried_push ring_len quiet c b ≡ push_in ring_len quiet c b
  pub raw : (c : ChannelFloor) → Sound ring_len bins c → carried_raw c ≡ raw_floor c
  pub usable : (c : ChannelFloor) → Sound ring_len bins c → carried_usable c ≡ usable_floor c
  pub step : (b : FloorBank) (h : Hop) → Good b → carried_step b h ≡ bank_step b h
  -- the bank of stores that are not refused
  pub store : (u : List ℕ) (f : List Float) (h : Hop) → bank_refusal u f ≡ 0 → carried_step (bank_of u f) h ≡ bank_step (bank_of u f) h
