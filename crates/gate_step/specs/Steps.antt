-- The gate update in the steps that the code takes; `steps-are` in proofs/Stages.antt shows that together, with `started` set, they are `gate_step`.
use Rattle.std.specs.Prelude.{◌≡◌, List, map, ℕ, get_or, Float}
use Rattle.laws.specs.Lists.{tab}
use Rattle.model.specs.Numbers.{f0}
use Rattle.model.specs.Windows.{PowerLooks, step_look}
use Rattle.model.specs.Gate.{Gate, db_after}
use Rattle.model.specs.GateStores.{gate_u16s, gate_floats}
use Rattle.windows.specs.Looks.{sample_at}

-- the gate with these
abbrev pub with : Gate → List PowerLooks → List Float → Gate
with g looks' smooth' =
    record {
      n = g.n;
      started = g.started;
      on = g.on;
      off = g.off;
      early = g.early;
      looks = looks';
      smooth = smooth';
      used = g.used;
      threshold = g.threshold;
    }

unfoldable pub smooth_step : List Float → Gate → Gate
smooth_step db g = with g g.looks (tab g.n (λ k. db_after g.started (get_or g.smooth k f0) (get_or db k f0)))

unfoldable pub looks_step : List Float → Gate → Gate
looks_step samples g = with g (map (step_look g.n (sample_at samples)) g.looks) g.smooth

-- the two stores hold g
pub record Holds (g : Gate) (u : List ℕ) (f : List Float) : Type 0 where
  pub u16s : u ≡ gate_u16s g
  pub floats : f ≡ gate_floats g
