-- What a ratio is: no promise rests on it.
use Rattle.std.specs.Prelude.{ℕ, ◌*◌, ◌/◌, ◌≤◌, ◌<◌, ◌≡◌}

-- the parts of one kWh
abbrev pub one : ℕ
one = 4294967296

-- C is below T, and what each kWh bears is C / T in those parts, rounded down
pub record IsRate (c t each : ℕ) : Type 0 where
  pub less : c < t
  pub few : t ≤ 64000000
  pub rounded : each ≡ c * one / t
