use Rattle.std.proofs.Common.{◌≡◌, ℕ, ◌-◌, ◌≤◌, ◌++◌, length, replicate, take, drop}
use Rattle.std.proofs.lemmas.List.{drop-replicate, length-replicate, length-take-le}
use lib.Ieee.{Float}
use Rattle.search.proofs.searching.halves.Goals as goal

-- the first d of twenty elements replaced
front : (d : ℕ) (z h : Float) → d ≤ 20 → replicate (length (take d (replicate 20 z))) h ++ drop d (replicate 20 z) ≡ replicate d h ++ replicate (20 - length (replicate d h)) z
front d z h l = rw (length-take-le d (replicate 20 z) l, drop-replicate d 20 z, length-replicate d h)

pub returns : goal.returns
returns c = rw (c.fill.ensures.after (λ y e. e)) (front c.args.d _ _ c.requires)
