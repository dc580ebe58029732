-- A point of unit floats that is not refused, and the point by what the fit answers. Assumes nothing.
use Prim.Native.Nat.{ℕ, ◌≤◌, ◌<◌}
use mathlib.Core.Path.{◌≡◌, ap}
use native.Mathlib.Omega.{arith}
use lib.Ieee.{Float}
use borrow.Author.Tests.{le-leb, ne_eqb}
use Rattle.std.specs.Prelude.{Result, Ok}
use Rattle.refusal.specs.declared.Refusal.{Refusal}
use Rattle.gp_model.specs.declared.Model.{Model}
use Rattle.search.specs.Search.{draw_of, draw_point_of}
use Rattle.history.specs.declared.Training.{Training}
use Rattle.proposal.specs.Points.{fit_for, point_by, point_for}

pub drawn-point : (d w : ℕ) → d ≤ 20 → 0 < w → draw_point_of d w ≡ Ok (draw_of d w)
unfolding draw_point_of
drawn-point d w h k = rw (le-leb d 20 h, ne_eqb w 0 (λ e. omega arith))

pub point-is : (t : Training) (noise : Float) (candidates w : ℕ) (f : Result Model Refusal) → fit_for t noise ≡ f → point_for t noise candidates w ≡ point_by f t.d candidates w
unfolding point_for
point-is t noise candidates w f e = ap (λ (g : Result Model Refusal). point_by g t.d candidates w) e
