-- Records one after another.
use Rattle.std.specs.Prelude.{ℕ, zero, suc, List, [], ◌++◌}

-- the bytes of so many records: f 0, f 1, .., f (count - 1)
unfoldable pub run : (ℕ → List ℕ) → ℕ → List ℕ
run f zero = []
run f (suc k) = run f k ++ f k
