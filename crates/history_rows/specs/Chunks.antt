-- The slots of a row, cut from its words. Definitions only.
use Rattle.std.specs.Prelude.{ℕ, List, drop}
use Rattle.arith.specs.Chunks.{chunks_of}

-- the chunks of eight words behind the first three
abbrev pub slots_in : List ℕ → List (List ℕ)
slots_in row = chunks_of 8 (drop 3 row)
