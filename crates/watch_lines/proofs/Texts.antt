-- Texts one after another. Assumes nothing.
use Rattle.std.proofs.Common.{◌≡◌, ℕ, ◌-◌, List, [], ◌∷◌, ◌++◌, length, ap, ◌∙◌, arith}
use Rattle.watch_text.specs.Text.{Written, put_all, spaces, right}
use Rattle.watch_lines.specs.Lines.{put_texts}

-- texts, and then others
pub both : (w v x : Written) (s t : List (List ℕ)) → v ≡ put_texts w s → x ≡ put_texts v t → x ≡ put_texts w (s ++ t)
unfolding put_texts
both w v x [] t e f = f ∙ ap (λ (u : Written). put_texts u t) e
both w v x (a ∷ s) t e f = both (put_all w a) v x s t e f

-- in no column a text stands as it is
pub right_0 : (t : List ℕ) → right 0 t ≡ t
unfolding right spaces
right_0 t = ap (λ (n : ℕ). spaces n ++ t) (let z : 0 - length t ≡ 0 = omega arith in z)
