-- Document 01, "Windows, ladder, gate": the gate, its update and what it judges.
use Rattle.std.specs.Prelude.{◌≡◌, refl, Bool, false, not, cond, ◌&&◌, ◌||◌, List, [], ◌∷◌, map, ℕ, zero, suc, eqb, get_or, replicate, pos, Float}
use Rattle.std.specs.Float.{nan, binary64}
use Rattle.std.specs.Float.Ieee.{add, sub, div, lt, le, ne, of_int, of_bits, round}
use Rattle.laws.specs.Lists.{tab, one}
use Rattle.model.specs.Numbers.{f0, power_linear, smoothed}
use Rattle.model.specs.Bank.{FloorBank}
use Rattle.model.specs.Readings.{effective_at, rise_at}
use Rattle.model.specs.Ladder.{ladder, f8}
use Rattle.model.specs.Windows.{PowerLooks, fresh_look, step_look, any_rises}

-- levels as the store has them: in eighths of a dB with 800 added, an absent early as 65535
pub record Gate : Type 0 where
  pub n : ℕ
  pub started : ℕ
  pub on : ℕ
  pub off : ℕ
  pub early : ℕ
  pub looks : List PowerLooks
  pub smooth : List Float
  -- R-3: for each channel the rise floor last used, and its threshold
  pub used : List Float
  pub threshold : List Float

-- what a gate is made with, levels as the store has them
pub record Settings : Type 0 where
  pub n : ℕ
  pub on : ℕ
  pub off : ℕ
  pub early : ℕ
  pub lengths : List ℕ

-- each distinct length, in first-seen order
abbrev pub among : ℕ → List ℕ → Bool
among m [] = false
among m (x ∷ xs) = eqb m x || among m xs

unfoldable pub distinct : List ℕ → List ℕ → List ℕ
distinct seen [] = []
distinct seen (m ∷ ms) = cond (among m seen) (distinct seen ms) (m ∷ distinct (m ∷ seen) ms)

unfoldable pub fresh_gate : Settings → Gate
fresh_gate s =
    record {
      n = s.n;
      started = 0;
      on = s.on;
      off = s.off;
      early = s.early;
      looks = map (fresh_look s.n) (distinct [] s.lengths);
      smooth = replicate s.n f0;
      -- R-3: fresh NaN, fresh 0
      used = replicate s.n nan;
      threshold = replicate s.n f0;
    }

-- ---- gate update

-- smoothed dB: first the dB; later 0.0645 as in the bank
abbrev pub db_after : ℕ → Float → Float → Float
db_after zero s x = x
db_after (suc t) s x = smoothed s x

-- the sample of channel k is power_linear of that hop's power
abbrev pub sample_of : List Float → ℕ → Float
sample_of power k = power_linear (get_or power k f0)

-- the hop; the pairs of R-3 come after it
unfoldable pub gate_step : Gate → List Float → List Float → Gate
gate_step g db power =
    record {
      n = g.n;
      started = 1;
      on = g.on;
      off = g.off;
      early = g.early;
      looks = map (step_look g.n (sample_of power)) g.looks;
      smooth = tab g.n (λ k. db_after g.started (get_or g.smooth k f0) (get_or db k f0));
      used = g.used;
      threshold = g.threshold;
    }

-- ---- levels

abbrev pub f800 : Float
f800 = of_bits binary64 0x4089_0000_0000_0000

f800_is : f800 ≡ round binary64 false 800 1
unfolding of_bits round
f800_is = refl

-- a level of the store as an f64: (x - 800) / 8, each operation exact
abbrev pub level_of : ℕ → Float
level_of x = div binary64 (sub binary64 (of_int binary64 (pos x)) f800) f8

-- ---- R-3: the remembered threshold

-- threshold = ladder(rise floor + on)
unfoldable pub threshold_of : Gate → Float → Float
threshold_of g floor = ladder (add binary64 floor (level_of g.on))

-- the channel's stored rise floor differs from the one last used: a NaN always does, zeros of either sign don't
unfoldable pub differs : Gate → FloorBank → ℕ → Bool
differs g b k = ne (rise_at b k) (get_or g.used k nan)

-- every channel's pair brought up to date: the threshold is worked out only if that floor differs, else the pair stays as found
unfoldable pub refresh : Gate → FloorBank → Gate
refresh g b =
    record {
      n = g.n;
      started = g.started;
      on = g.on;
      off = g.off;
      early = g.early;
      looks = g.looks;
      smooth = g.smooth;
      used = tab g.n (λ k. cond (differs g b k) (rise_at b k) (get_or g.used k nan));
      threshold = tab g.n (λ k. cond (differs g b k) (threshold_of g (rise_at b k)) (get_or g.threshold k f0));
    }

-- each gate update ..
unfoldable pub update_step : Gate → FloorBank → List Float → List Float → Gate
update_step g b db power = refresh (gate_step g db power) b

-- .. and each hold with started 1; a hold with started 0 changes nothing
abbrev pub hold_at : ℕ → Gate → FloorBank → Gate
hold_at zero g b = g
hold_at (suc s) g b = refresh g b

unfoldable pub hold_step : Gate → FloorBank → Gate
hold_step g b = hold_at g.started g b

-- ---- judgement

-- smoothed >= effective + early, unless early is absent
unfoldable pub early_rise : Gate → FloorBank → ℕ → Bool
early_rise g b k = not (eqb g.early 65535) && le (add binary64 (effective_at b k) (level_of g.early)) (get_or g.smooth k f0)

-- R-3: with the pair as it stands
unfoldable pub window_rise : Gate → ℕ → Bool
window_rise g k = any_rises g.n (get_or g.threshold k f0) k g.looks

-- smoothed < effective + off
unfoldable pub is_drop_at : Gate → FloorBank → ℕ → Bool
is_drop_at g b k = lt (get_or g.smooth k f0) (add binary64 (effective_at b k) (level_of g.off))

-- the rise and drop bytes; before the first update false, false
unfoldable pub rise_bytes : Gate → FloorBank → List ℕ
rise_bytes g b = tab g.n (λ k. one (not (eqb g.started 0) && (early_rise g b k || window_rise g k)))

unfoldable pub drop_bytes : Gate → FloorBank → List ℕ
drop_bytes g b = tab g.n (λ k. one (not (eqb g.started 0) && is_drop_at g b k))
