-- `common::random::int_random` meets its contract. Assumes nothing.
use mathlib.Core.Path.{◌≡◌}
use lib.Dec.{T}
use lib.IntN.{ℤ}
use Rattle.std.specs.Prelude.{Some}
use Rattle.distribution.specs.Numbers.{IntDistribution}
use Rattle.distribution.specs.Shape.{int_shape}
use Rattle.distribution.proofs.Facts.{int-rules}
use Rattle.distribution.proofs.Whole.{ReadBack}
use borrow.Author.Rules.{rules}
use Rattle.common.specs.RandomParts.{Stepped}
use Rattle.common.proofs.Domain.{log-fits}
use Rattle.common.proofs.random.int_random.Goals as goal

ranges : (d : IntDistribution) → T (int_shape d) → (step : ℤ) → d.step ≡ Some step → Stepped d.low d.high step
ranges d t step e =
    let r = int-rules d t in
    let s = r.steps step e in
    record { low_small = r.low.magnitude; high_small = r.high.magnitude; ordered = r.order; step_from = s.1; step_small = s.0.magnitude }

pub log_int_random-requires : goal.log_int_random-requires
log_int_random-requires c = log-fits c.args.w c.args.d c.ranges.w.fits c.requires c.if-d.true

pub stepped_int_random-requires : goal.stepped_int_random-requires
stepped_int_random-requires c =
    let low : ReadBack c.args.d.low = search rules in
    let high : ReadBack c.args.d.high = search rules in
    let step : ReadBack c.in-Some.step = search rules in
    rw (low, high, step) (ranges c.args.d c.requires c.in-Some.step c.in-Some.is)
