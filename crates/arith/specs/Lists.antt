-- Lists made element by element, and the arrays that hold them. Definitions only.
use Rattle.std.specs.Prelude.{ℕ, zero, suc, ◌-◌, Bool, true, cond, ◌&&◌, List, [], ◌∷◌, ◌++◌, length, replicate, from_bits, nat_lt, Float}
use Rattle.std.specs.Float.{binary64}

-- n elements, each made from the list of those before it and from its place
unfoldable pub grown : {A : Type 0} → (List A → ℕ → A) → ℕ → List A
grown f zero = []
grown f (suc n) = grown f n ++ (f (grown f n) n ∷ [])

-- n elements, each made from its place
abbrev pub list_of : {A : Type 0} → (ℕ → A) → ℕ → List A
list_of f n = grown (λ xs i. f i) n

-- an array of that many places that holds the list, with z past it
abbrev pub filled : {A : Type 0} → A → ℕ → List A → List A
filled z places xs = xs ++ replicate (places - length xs) z

-- the same of floats, with +0 past the list
abbrev pub padded : ℕ → List Float → List Float
padded places xs = filled (from_bits binary64 0) places xs

-- whether the test holds of 0 to n - 1
unfoldable pub every : ℕ → (ℕ → Bool) → Bool
every zero t = true
every (suc n) t = every n t && t n

-- the first place below n where the test holds, or n
unfoldable pub place_of : ℕ → (ℕ → Bool) → ℕ
place_of zero t = zero
place_of (suc n) t = cond (nat_lt (place_of n t) n) (place_of n t) (cond (t n) n (suc n))

-- the places below n where the test holds, in order
unfoldable pub places_of : ℕ → (ℕ → Bool) → List ℕ
places_of zero t = []
places_of (suc n) t = cond (t n) (places_of n t ++ (n ∷ [])) (places_of n t)
