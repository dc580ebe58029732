-- What is left of a line, moved to the front of its buffer; what stands behind it stays. Definitions only.
use Rattle.std.specs.Prelude.{ℕ, ◌-◌, cond, ◌&&◌, List, ◌++◌, leb, length, take, drop}

unfoldable pub kept_of : ℕ → ℕ → List ℕ → List ℕ
kept_of used have xs =
    cond
    (leb used have && leb have (length xs))
    (take (have - used) (drop used xs) ++ drop (have - used) xs)
    xs
