-- R-14: what holds of what is asked for, and of everything as it was, holds of the call. Assumes nothing.
use mathlib.Core.Path.{◌≡◌, refl, sym, ◌∙◌}
use mathlib.Core.Bool.{Bool, true, false, cond, not}
use Prim.Native.Nat.{ℕ}
use borrow.Author.Tests.{not-true, not-false}
use Rattle.roles.specs.Rights.{Exported, may, as_role}

pub either : {A B : Type 0} (b : Bool) (P : A → B → Type 0) (x x' : A) (y y' : B) → P x y → P x' y' → P (cond b x x') (cond b y y')
either true P x x' y y' done stopped = done
either false P x x' y y' done stopped = stopped

-- of two answers to the same call
pub both-by-role : {A B : Type 0} (e : Exported) (role : ℕ) (P : A → B → Type 0) (kept : ℕ → A) (done : A) (kept' : ℕ → B) (done' : B)
    → P done done' → P (kept 16) (kept' 16) → P (as_role e role kept done) (as_role e role kept' done')
unfolding as_role
both-by-role e role P kept done kept' done' = either (may e role) P done (kept 16) done' (kept' 16)

-- of one
pub by-role : {A : Type 0} (e : Exported) (role : ℕ) (P : A → Type 0) (kept : ℕ → A) (done : A)
    → P done → P (kept 16) → P (as_role e role kept done)
by-role e role P kept done = both-by-role e role (λ x _. P x) kept done kept done

-- what is made of a call's answer is made of both its cases
either_way : {A B : Type 0} (f : A → B) (b : Bool) (x y : A) → f (cond b x y) ≡ cond b (f x) (f y)
either_way f true x y = refl
either_way f false x y = refl

pub through : {A B : Type 0} (f : A → B) (e : Exported) (role : ℕ) (kept : ℕ → A) (said : A)
    → f (as_role e role kept said) ≡ as_role e role (λ r. f (kept r)) (f said)
unfolding as_role
through f e role kept said = either_way f (may e role) said (kept 16)

-- ---- for a row: what it answers where the test says that its role lacks the right, and where it says that it has it

pub stopped : {A : Type 0} (e : Exported) (role : ℕ) (kept : ℕ → A) (said : A) (m : Bool) → m ≡ may e role → not m ≡ true → kept 16 ≡ as_role e role kept said
unfolding as_role
stopped e role kept said m t left = rw (sym t ∙ not-true m left)

pub granted : {A : Type 0} (e : Exported) (role : ℕ) (kept : ℕ → A) (said : A) (m : Bool) → m ≡ may e role → not m ≡ false → said ≡ as_role e role kept said
unfolding as_role
granted e role kept said m t left = rw (sym t ∙ not-false m left)
