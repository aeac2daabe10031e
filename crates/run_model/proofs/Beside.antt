-- The calls of a run see nothing of what stands beside a bank and a gate, and leave it. Assumes nothing.
use mathlib.Core.Path.{◌≡◌, refl, sym, ap, ap₂, ◌∙◌}
use mathlib.Core.Bool.{Bool, true, false}
use mathlib.Core.List.{List, [], ◌∷◌, ◌++◌}
use Prim.Native.Nat.{ℕ}
use Rattle.model.specs.Demand3.{Stores, does, step, left, left_by, rises_done, rises_of}
use Rattle.roles.specs.Rights.{as_role}
use Rattle.run_model.specs.Runs.{RunHop, is_held, bank_call, gate_call, calls_of, drops_done, drops_of, rises_by, drops_by, alone}
use Rattle.run_model.specs.Claims.{with_run}
use Rattle.run_model.specs.Hops.{gate_by, hop_left, hop_rises, hop_drops}

abbrev pub four : Stores → Stores
four s = alone s.bu s.bf s.gu s.gf

-- s with the bank and the gate of t
abbrev pub over : Stores → Stores → Stores
over s t = with_run s t.bu t.bf t.gu t.gf

bank-four : (s : Stores) (h : RunHop) → left (four s) (bank_call h) ≡ four (left s (bank_call h))
unfolding step does as_role
bank-four s h = refl

gate-four : (s : Stores) (h : RunHop) (b : Bool) → left (four s) (gate_by h b) ≡ four (left s (gate_by h b))
unfolding step does as_role
gate-four s h true = refl
gate-four s h false = refl

bank-over : (s t : Stores) (h : RunHop) → over (left s (bank_call h)) t ≡ over s t
unfolding step does as_role
bank-over s t h = refl

gate-over : (s t : Stores) (h : RunHop) (b : Bool) → over (left s (gate_by h b)) t ≡ over s t
unfolding step does as_role
gate-over s t h true = refl
gate-over s t h false = refl

gate-rises : (s : Stores) (h : RunHop) (b : Bool) → rises_of (four s) (gate_by h b) ≡ rises_of s (gate_by h b)
unfolding rises_of rises_done as_role
gate-rises s h true = refl
gate-rises s h false = refl

gate-drops : (s : Stores) (h : RunHop) (b : Bool) → drops_of (four s) (gate_by h b) ≡ drops_of s (gate_by h b)
unfolding drops_of drops_done as_role
gate-drops s h true = refl
gate-drops s h false = refl

bank-marks : (s : Stores) (h : RunHop) → (rises_of s (bank_call h) ≡ []) × (drops_of s (bank_call h) ≡ [])
unfolding rises_of rises_done drops_of drops_done as_role
bank-marks s h = (refl, refl)

-- ---- a hop

pub hop-four : (s : Stores) (h : RunHop) → hop_left (four s) h ≡ four (hop_left s h)
hop-four s h = ap (λ (t : Stores). left t (gate_call h)) (bank-four s h) ∙ gate-four (left s (bank_call h)) h (is_held h)

hop-over : (s t : Stores) (h : RunHop) → over (hop_left s h) t ≡ over s t
hop-over s t h = gate-over (left s (bank_call h)) t h (is_held h) ∙ bank-over s t h

-- ---- lists of hops

pub run-over : (hs : List RunHop) (s : Stores) → over s (left_by (four s) (calls_of hs)) ≡ left_by s (calls_of hs)
run-over [] s = refl
run-over (h ∷ hs) s =
    sym (hop-over s (left_by (hop_left (four s) h) (calls_of hs)) h)
    ∙ ap (λ (t : Stores). over (hop_left s h) (left_by t (calls_of hs))) (hop-four s h)
    ∙ run-over hs (hop_left s h)

-- the marks of a run are those of its hops
pub rises-more : (s : Stores) (h : RunHop) (hs : List RunHop) → rises_by s (calls_of (h ∷ hs)) ≡ hop_rises s h ++ rises_by (hop_left s h) (calls_of hs)
rises-more s h hs = ap (λ (l : List ℕ). l ++ (hop_rises s h ++ rises_by (hop_left s h) (calls_of hs))) (bank-marks s h).0

pub drops-more : (s : Stores) (h : RunHop) (hs : List RunHop) → drops_by s (calls_of (h ∷ hs)) ≡ hop_drops s h ++ drops_by (hop_left s h) (calls_of hs)
drops-more s h hs = ap (λ (l : List ℕ). l ++ (hop_drops s h ++ drops_by (hop_left s h) (calls_of hs))) (bank-marks s h).1

hop-rises : (s : Stores) (h : RunHop) → hop_rises (four s) h ≡ hop_rises s h
hop-rises s h = ap (λ (t : Stores). rises_of t (gate_call h)) (bank-four s h) ∙ gate-rises (left s (bank_call h)) h (is_held h)

hop-drops : (s : Stores) (h : RunHop) → hop_drops (four s) h ≡ hop_drops s h
hop-drops s h = ap (λ (t : Stores). drops_of t (gate_call h)) (bank-four s h) ∙ gate-drops (left s (bank_call h)) h (is_held h)

pub run-rises : (hs : List RunHop) (s : Stores) → rises_by (four s) (calls_of hs) ≡ rises_by s (calls_of hs)
run-rises [] s = refl
run-rises (h ∷ hs) s =
    rises-more (four s) h hs
    ∙ ap₂ ◌++◌ (hop-rises s h) (ap (λ (t : Stores). rises_by t (calls_of hs)) (hop-four s h) ∙ run-rises hs (hop_left s h))
    ∙ sym (rises-more s h hs)

pub run-drops : (hs : List RunHop) (s : Stores) → drops_by (four s) (calls_of hs) ≡ drops_by s (calls_of hs)
run-drops [] s = refl
run-drops (h ∷ hs) s =
    drops-more (four s) h hs
    ∙ ap₂ ◌++◌ (hop-drops s h) (ap (λ (t : Stores). drops_by t (calls_of hs)) (hop-four s h) ∙ run-drops hs (hop_left s h))
    ∙ sym (drops-more s h hs)
