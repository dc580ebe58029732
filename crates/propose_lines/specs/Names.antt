-- The names lines, byte by byte: three of the input and the one of the output. Definitions only.
use Rattle.std.specs.Prelude.{ℕ, zero, suc, Bool, true, false, ◌&&◌, List, [], ◌∷◌, ◌++◌, eqb}

-- `startup candidates noise seed slots`
abbrev pub settings_names : List ℕ
settings_names = 115 ∷ 116 ∷ 97 ∷ 114 ∷ 116 ∷ 117 ∷ 112 ∷ 32 ∷ 99 ∷ 97 ∷ 110 ∷ 100 ∷ 105 ∷ 100 ∷ 97 ∷ 116 ∷ 101 ∷ 115 ∷ 32 ∷ 110 ∷ 111 ∷ 105 ∷ 115 ∷ 101 ∷ 32 ∷ 115 ∷ 101 ∷ 101 ∷ 100 ∷ 32 ∷ 115 ∷ 108 ∷ 111 ∷ 116 ∷ 115 ∷ []

-- `trial state value`
abbrev pub row_names : List ℕ
row_names = 116 ∷ 114 ∷ 105 ∷ 97 ∷ 108 ∷ 32 ∷ 115 ∷ 116 ∷ 97 ∷ 116 ∷ 101 ∷ 32 ∷ 118 ∷ 97 ∷ 108 ∷ 117 ∷ 101 ∷ []

-- ` id kind low high log stepped step taken`
abbrev pub slot_names : List ℕ
slot_names = 32 ∷ 105 ∷ 100 ∷ 32 ∷ 107 ∷ 105 ∷ 110 ∷ 100 ∷ 32 ∷ 108 ∷ 111 ∷ 119 ∷ 32 ∷ 104 ∷ 105 ∷ 103 ∷ 104 ∷ 32 ∷ 108 ∷ 111 ∷ 103 ∷ 32 ∷ 115 ∷ 116 ∷ 101 ∷ 112 ∷ 112 ∷ 101 ∷ 100 ∷ 32 ∷ 115 ∷ 116 ∷ 101 ∷ 112 ∷ 32 ∷ 116 ∷ 97 ∷ 107 ∷ 101 ∷ 110 ∷ []

-- "the last eight names once per slot"
unfoldable pub slots_names : ℕ → List ℕ
slots_names zero = []
slots_names (suc n) = slot_names ++ slots_names n

abbrev pub history_names : ℕ → List ℕ
history_names n = row_names ++ slots_names n

-- `trial kind low high log stepped step`
abbrev pub call_names : List ℕ
call_names = 116 ∷ 114 ∷ 105 ∷ 97 ∷ 108 ∷ 32 ∷ 107 ∷ 105 ∷ 110 ∷ 100 ∷ 32 ∷ 108 ∷ 111 ∷ 119 ∷ 32 ∷ 104 ∷ 105 ∷ 103 ∷ 104 ∷ 32 ∷ 108 ∷ 111 ∷ 103 ∷ 32 ∷ 115 ∷ 116 ∷ 101 ∷ 112 ∷ 112 ∷ 101 ∷ 100 ∷ 32 ∷ 115 ∷ 116 ∷ 101 ∷ 112 ∷ []

-- `trial kind value drawn`
abbrev pub answer_names : List ℕ
answer_names = 116 ∷ 114 ∷ 105 ∷ 97 ∷ 108 ∷ 32 ∷ 107 ∷ 105 ∷ 110 ∷ 100 ∷ 32 ∷ 118 ∷ 97 ∷ 108 ∷ 117 ∷ 101 ∷ 32 ∷ 100 ∷ 114 ∷ 97 ∷ 119 ∷ 110 ∷ []

-- "names lines are compared byte by byte"
unfoldable pub same_bytes : List ℕ → List ℕ → Bool
same_bytes [] [] = true
same_bytes [] (y ∷ ys) = false
same_bytes (x ∷ xs) [] = false
same_bytes (x ∷ xs) (y ∷ ys) = eqb x y && same_bytes xs ys
