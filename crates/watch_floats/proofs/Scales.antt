-- A power that is taken ten times, again and again, until it is 1 or more. Assumes nothing.
use Rattle.std.proofs.Common.{◌≡◌, ℕ, zero, suc, ◌+◌, ◌-◌, ◌<◌, true, false, refl, ap, ◌∙◌, arith}
use lib.Ieee.{binary64, mul, lt}
use Rattle.watch_floats.specs.declared.Scaled.{Scaled}
use Rattle.watch_floats.specs.Floats.{f1, f10, scaled_up}

-- ten times as much
abbrev pub tenfold : Scaled → Scaled
tenfold s = record { x = mul binary64 s.x f10; tens = s.tens + 1 }

turn : (k : ℕ) (s : Scaled) → lt s.x f1 ≡ true → scaled_up (suc k) s ≡ scaled_up k (tenfold s)
unfolding scaled_up
turn k s h = rw h

pub scale-next : (s : Scaled) → s.tens < 330 → lt s.x f1 ≡ true → scaled_up (330 - s.tens) s ≡ scaled_up (330 - (s.tens + 1)) (tenfold s)
scale-next s l h =
    ap (λ (k : ℕ). scaled_up k s) (let e : 330 - s.tens ≡ suc (330 - (s.tens + 1)) = omega arith in e) ∙ turn (330 - (s.tens + 1)) s h

-- 1 or more, or often enough
pub scale-stays : (k : ℕ) (s : Scaled) → lt s.x f1 ≡ false → scaled_up k s ≡ s
unfolding scaled_up
scale-stays zero s h = refl
scale-stays (suc k) s h = rw h

pub scale-ends : (k : ℕ) (s : Scaled) → k ≡ 0 → scaled_up k s ≡ s
unfolding scaled_up
scale-ends k s h = ap (λ (j : ℕ). scaled_up j s) h
