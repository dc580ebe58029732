-- A list cut into whole chunks, as `chunks_exact` cuts it. Definitions only.
use Rattle.std.specs.Prelude.{ℕ, ◌*◌, ◌/◌, List, length, map, take, drop}
use Rattle.std.specs.List.{range_with_len}

-- the chunks of w elements, without what is left
abbrev pub chunks_of : {A : Type 0} → ℕ → List A → List (List A)
chunks_of w xs = map (λ k. take w (drop (k * w) xs)) (range_with_len 0 (length xs / w))
