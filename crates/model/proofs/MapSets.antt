-- R-12: what the calls of a set do to its map, and that no mark of theirs is lost. Assumes nothing.
use mathlib.Core.Path.{◌≡◌, refl, sym, ap, ◌∙◌, subst}
use mathlib.Core.Bool.{true}
use mathlib.Core.List.{List, [], ◌∷◌, ◌++◌}
use Prim.Native.Nat.{ℕ}
use lib.ListN.{get_or}
use Rattle.model.specs.Map.{fresh_map}
use Rattle.model.specs.MapReach.{MapCall, map_left, map_left_by, flag_of, MarkedSince, Exactly}
use Rattle.model.specs.Demand3.{Call, Stores, left, left_by, made}
use Rattle.model.specs.Sets.{Sound}
use Rattle.model.specs.MapSets.{on_map, all_on_map, MapHears, NoneLostInSet}
use Rattle.model.proofs.MapReach.{none-lost}
use Rattle.model.proofs.Calls.{sound-left, n-left, map-left}
use Rattle.model.proofs.Made.{sound-made, map-made, n-made}

map-append : (n : ℕ) (xs ys : List MapCall) (m : List ℕ) → map_left_by n m (xs ++ ys) ≡ map_left_by n (map_left_by n m xs) ys
map-append n [] ys m = refl
map-append n (x ∷ xs) ys m = map-append n xs ys (map_left n m x)

map-run : (n : ℕ) (cs : List Call) (s : Stores) → Sound s → get_or s.gu 0 0 ≡ n → (left_by s cs).map ≡ map_left_by n s.map (all_on_map s cs)
map-run n [] s v e = refl
map-run n (c ∷ cs) s v e =
    map-run n cs (left s c) (sound-left s c v) (n-left s c v ∙ e)
    ∙ ap (λ (m : List ℕ). map_left_by n m (all_on_map (left s c) cs)) (map-left s c v ∙ ap (λ (i : ℕ). map_left_by i s.map (on_map s c)) e)
    ∙ sym (map-append n (on_map s c) (all_on_map (left s c) cs) s.map)

pub map-hears : MapHears
map-hears k p d cs =
    map-run k.gate_n cs (made k p) (sound-made k p d) (n-made k p d.gate)
    ∙ ap (λ (m : List ℕ). map_left_by k.gate_n m (all_on_map (made k p) cs)) (map-made k p d.gate d.map)

pub none-lost-in-set : NoneLostInSet
none-lost-in-set k p d cs g c l =
    subst (λ (m : List ℕ). Exactly (flag_of g k.gate_n m c ≡ true) (MarkedSince g k.gate_n c (fresh_map k.gate_n) (all_on_map (made k p) cs)))
    (sym (map-hears k p d cs)) (none-lost g k.gate_n c (all_on_map (made k p) cs) l)
