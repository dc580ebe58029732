-- Eight lists side by side, as a list of rows: lane p is the list of the elements at p. Definitions only.
use Rattle.std.specs.Prelude.{ℕ, List, [], get_or, replicate, Float}
use Rattle.std.specs.Float.{nan, binary64}
use Rattle.std.specs.Float.Ieee.{of_bits}
use Rattle.arith.specs.Lists.{list_of, filled}

-- row i of lane p
abbrev pub cell : List (List Float) → ℕ → ℕ → Float
cell x i p = get_or (get_or x i []) p nan

-- a row, made lane by lane
abbrev pub eight_of : (ℕ → Float) → List Float
eight_of f = list_of f 8

-- the first n elements of lane p
abbrev pub lane_of : List (List Float) → ℕ → ℕ → List Float
lane_of x n p = list_of (λ i. cell x i p) n

-- the first n rows of eight lists
abbrev pub lanes_of : (ℕ → List Float) → ℕ → List (List Float)
lanes_of f n = list_of (λ i. eight_of (λ p. get_or (f p) i nan)) n

abbrev pub zero_row : List Float
zero_row = replicate 8 (of_bits binary64 0)

-- an array of 100 rows that holds these, with rows of zeros past them
abbrev pub rows_of : List (List Float) → List (List Float)
rows_of xs = filled zero_row 100 xs
