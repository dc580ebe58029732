-- Eight elements side by side. `std::array::from_fn` says what each is; these say which list they are, for `#[tactic(auto, using(..))]`. Assumes nothing.
use Rattle.std.proofs.Common.{◌≡◌, ℕ, List, [], ◌∷◌, length, get_or, arith}
use lib.Ieee.{Float, nan}
use Rattle.arith.specs.Lists.{grown, list_of}

eight_each : {A : Type 0} (z : A) (e : ℕ → A) (xs : List A) → length xs ≡ 8 → get_or xs 0 z ≡ e 0 → get_or xs 1 z ≡ e 1 → get_or xs 2 z ≡ e 2 → get_or xs 3 z ≡ e 3 → get_or xs 4 z ≡ e 4 → get_or xs 5 z ≡ e 5 → get_or xs 6 z ≡ e 6 → get_or xs 7 z ≡ e 7 → xs ≡ list_of e 8
unfolding grown
eight_each z e [] n h0 h1 h2 h3 h4 h5 h6 h7 = absurd (omega (arith, n))
eight_each z e (a ∷ []) n h0 h1 h2 h3 h4 h5 h6 h7 = absurd (omega (arith, n))
eight_each z e (a ∷ b ∷ []) n h0 h1 h2 h3 h4 h5 h6 h7 = absurd (omega (arith, n))
eight_each z e (a ∷ b ∷ c ∷ []) n h0 h1 h2 h3 h4 h5 h6 h7 = absurd (omega (arith, n))
eight_each z e (a ∷ b ∷ c ∷ d ∷ []) n h0 h1 h2 h3 h4 h5 h6 h7 = absurd (omega (arith, n))
eight_each z e (a ∷ b ∷ c ∷ d ∷ m ∷ []) n h0 h1 h2 h3 h4 h5 h6 h7 = absurd (omega (arith, n))
eight_each z e (a ∷ b ∷ c ∷ d ∷ m ∷ o ∷ []) n h0 h1 h2 h3 h4 h5 h6 h7 = absurd (omega (arith, n))
eight_each z e (a ∷ b ∷ c ∷ d ∷ m ∷ o ∷ p ∷ []) n h0 h1 h2 h3 h4 h5 h6 h7 = absurd (omega (arith, n))
eight_each z e (a ∷ b ∷ c ∷ d ∷ m ∷ o ∷ p ∷ q ∷ []) n h0 h1 h2 h3 h4 h5 h6 h7 = cc
eight_each z e (a ∷ b ∷ c ∷ d ∷ m ∷ o ∷ p ∷ q ∷ r ∷ rs) n h0 h1 h2 h3 h4 h5 h6 h7 = absurd (omega (arith, n))

pub eight_floats : (e : ℕ → Float) (xs : List Float) → length xs ≡ 8 → get_or xs 0 nan ≡ e 0 → get_or xs 1 nan ≡ e 1 → get_or xs 2 nan ≡ e 2 → get_or xs 3 nan ≡ e 3 → get_or xs 4 nan ≡ e 4 → get_or xs 5 nan ≡ e 5 → get_or xs 6 nan ≡ e 6 → get_or xs 7 nan ≡ e 7 → xs ≡ list_of e 8
eight_floats = eight_each nan

pub eight_numbers : (e : ℕ → ℕ) (xs : List ℕ) → length xs ≡ 8 → get_or xs 0 0 ≡ e 0 → get_or xs 1 0 ≡ e 1 → get_or xs 2 0 ≡ e 2 → get_or xs 3 0 ≡ e 3 → get_or xs 4 0 ≡ e 4 → get_or xs 5 0 ≡ e 5 → get_or xs 6 0 ≡ e 6 → get_or xs 7 0 ≡ e 7 → xs ≡ list_of e 8
eight_numbers = eight_each 0
