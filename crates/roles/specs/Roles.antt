-- The roles as the code has them, and the number by which C names each.
use Rattle.std.specs.Prelude.{◌≡◌, ℕ, ◌<◌, Result, MatchResult}
use Rattle.roles.specs.Rights.{keeper, leader, technician}
use Rattle.roles.specs.declared.Role.{Role}
use Rattle.roles.specs.declared.Role.TheVariants.{Keeper, Leader, Technician}
use Rattle.roles.specs.declared.NoRole.{NoRole}

abbrev pub role_number : Role → ℕ
role_number Keeper = keeper
role_number Leader = leader
role_number Technician = technician

-- the role of a number, or the number back if it is no role's
abbrev pub Decodes : ℕ → Result Role NoRole → Type 0
Decodes n r = MatchResult r (λ role. role_number role ≡ n) (λ e. (e.0 ≡ n) × (technician < n))
