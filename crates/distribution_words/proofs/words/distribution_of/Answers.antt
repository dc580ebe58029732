-- `distribution_words::words::distribution_of` meets its contract: what is mapped from the words is the definition's distribution.
use mathlib.Core.Path.{sym, ap, ◌∙◌}
use lib.Ieee.{binary64, of_bits}
use mir.Syntax.{w64}
use mir.Val.{to_z}
use Rattle.std.proofs.Common.{rules, of_calls}
use Rattle.distribution.specs.Numbers.{FloatDistribution, IntDistribution}
use Rattle.distribution.specs.declared.Distribution.{Distribution}
use Rattle.distribution_words.specs.Words.{read_of, checked_of}
use Rattle.distribution_words.proofs.Read.{read}
use Rattle.distribution_words.proofs.words.distribution_of.Goals as goal

pub returns-in_ok-numbers-in-1 : goal.returns-in_ok-numbers-in-1
unfolding read_of
returns-in_ok-numbers-in-1 c =
    let a = c.args.w in
    let p = read (of_bits binary64) a.low a.high a.log a.stepped a.step c.in_ok-numbers-in-1.field-0 c.map.result (sym c.numbers.ensures ∙ c.in_ok-numbers-in-1.was)
    (record { low = search (rules, of_calls); high = search (rules, of_calls); log_scale = search (rules, of_calls); step = search (rules, of_calls) }) in
    rw (c.in-1.is, p.0) (c.checked.ensures ∙ ap (λ (d : FloatDistribution). checked_of (Distribution.Float d)) p.1)

pub returns-in_ok-numbers-in-2 : goal.returns-in_ok-numbers-in-2
unfolding read_of
returns-in_ok-numbers-in-2 c =
    let a = c.args.w in
    let p = read (to_z w64) a.low a.high a.log a.stepped a.step c.in_ok-numbers-in-2.field-0 c.map-in-2.result (sym c.numbers-in-2.ensures ∙ c.in_ok-numbers-in-2.was)
    (record { low = search (rules, of_calls); high = search (rules, of_calls); log_scale = search (rules, of_calls); step = search (rules, of_calls) }) in
    rw (c.in-2.is, p.0) (c.checked-in-2.ensures ∙ ap (λ (d : IntDistribution). checked_of (Distribution.Int d)) p.1)
