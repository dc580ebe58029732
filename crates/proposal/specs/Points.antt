-- The point that a new trial decodes: the search's under a model, or unit floats after a refused fit. Definitions only.
use Rattle.std.specs.Prelude.{ℕ, ◌*◌, List, take, Float, Result, Ok, Err}
use Rattle.refusal.specs.declared.Refusal.{Refusal}
use Rattle.arith.specs.Lists.{padded}
use Rattle.rng_util.specs.Generator.{moved_of}
use Rattle.gp_model.specs.declared.Model.{Model}
use Rattle.gp_model.specs.Fit.{fit_of}
use Rattle.search.specs.Search.{point_of, optimum_of}
use Rattle.history.specs.declared.Training.{Training}
use Rattle.rng_util.specs.declared.Draw.{Draw}

-- "Its model is the fit's answer for that call, none if no fit is made or it is refused."
abbrev pub fit_for : Training → Float → Result Model Refusal
fit_for t noise = fit_of (take (t.n * t.d) t.x) (take t.n t.y) t.d noise

-- "After a refused fit one unit float per continuous dimension is drawn first"
abbrev pub unit_point : ℕ → ℕ → Draw (List Float)
unit_point d w = record { value = padded 20 (point_of d w); drawn = d; next = moved_of d w }

-- under a model the search's point, for candidates × continuous words
abbrev pub search_point : Model → ℕ → ℕ → ℕ → Draw (List Float)
search_point m d candidates w =
    let found = optimum_of m candidates w in
    record { value = found.x; drawn = candidates * d; next = found.next }

-- by the fit's answer
abbrev pub point_by : Result Model Refusal → ℕ → ℕ → ℕ → Draw (List Float)
point_by (Ok m) d candidates w = search_point m d candidates w
point_by (Err r) d candidates w = unit_point d w

unfoldable pub point_for : Training → Float → ℕ → ℕ → Draw (List Float)
point_for t noise candidates w = point_by (fit_for t noise) t.d candidates w
