-- The tests of a well-formed sampler, one by one, and what they say of its word, its dimensions and its places. Assumes nothing.
use Prim.Native.Nat.{ℕ, ◌<◌}
use native.Mathlib.Nat.{pos_of_ne-zero}
use mathlib.Core.Path.{◌≡◌}
use mathlib.Core.Bool.{true, not, ◌||◌}
use mathlib.Core.List.{List}
use lib.Dec.{T, T_not, eqb, leb}
use lib.Ieee.Bits.{is_true}
use lib.Ieee.Fits.{and_i, and_l, eq→eqb}
use Rattle.arith.proofs.Lists.{every-each, each-every}
use Rattle.distribution.proofs.Facts.{parts}
use Rattle.rng_util.proofs.Nonzero.{Nonzero}
use Rattle.dimensions.specs.declared.DimensionInfo.{DimensionInfo}
use Rattle.dimensions.specs.Dimensions.{dimension_at, dimensions_ok}
use Rattle.dimensions.proofs.Ok.{dimensions-ok}
use Rattle.settings.specs.declared.Settings.{Settings}
use Rattle.settings.specs.Settings.{settings_ok}
use Rattle.proposal.proofs.Ranges.{Formed}
use Rattle.std.specs.Prelude.{Option, Some, None}
use Rattle.sampler_state.specs.declared.Place.{Place}
use Rattle.sampler_state.specs.declared.Sampler.{Sampler}
use Rattle.sampler_laws.specs.Laws.{Typed}
use Rattle.sampler_state.specs.State.{place_at, taken, place_ok, sampler_ok}
use Rattle.sampler_state.proofs.Held.{Once, once, from-once}

pub record Checked (s : Sampler) : Type 0 where
  pub settings : T (settings_ok s.settings)
  pub word : T (not (eqb s.word 0))
  pub dimensions : T (dimensions_ok s.dimensions.list s.dimensions.count)
  pub some : T (not s.active || leb 1 s.dimensions.count)
  pub places : (i : ℕ) → i < 32 → T (place_ok s.active s.dimensions.list s.dimensions.count (place_at s.places i))
  pub once : Once s.places

ok-parts : (s : Sampler) → T (sampler_ok s) → Checked s
unfolding sampler_ok
ok-parts s t = record {
  settings = search parts depth 9;
  word = search parts depth 9;
  dimensions = search parts depth 9;
  some = search parts depth 9;
  places = every-each 32 (λ i. place_ok s.active s.dimensions.list s.dimensions.count (place_at s.places i)) (search parts depth 9);
  once = once s.places (search parts depth 9);
}

pub parts-ok : (s : Sampler) → Checked s → T (sampler_ok s)
unfolding sampler_ok
parts-ok s o =
    let a = o.settings in
    let b = o.word in
    let c = o.dimensions in
    let d = o.some in
    let e = each-every 32 (λ i. place_ok s.active s.dimensions.list s.dimensions.count (place_at s.places i)) o.places in
    let f = from-once s.places o.once in
    search and_i depth 9

-- a sampler with a taken place is active
pub taken-active : (s : Sampler) → T (sampler_ok s) → (i : ℕ) → i < 32 → T (taken (place_at s.places i)) → s.active ≡ true
unfolding place_ok
taken-active s t i l = go (place_at s.places i) ((ok-parts s t).places i l)
  where
    go : (p : Option Place) → T (place_ok s.active s.dimensions.list s.dimensions.count p) → T (taken p) → s.active ≡ true
    go (Some q) o h = is_true s.active (and_l s.active _ o)
    go None o h = absurd h

-- as a program has it, and well-formed
pub record Well (s : Sampler) : Type 0 where
  pub typed : Typed s
  pub ok : Checked s

pub well : (s : Sampler) → Typed s → T (sampler_ok s) → Well s
well s t o = record { typed = t; ok = ok-parts s o }

-- what serving a trial needs of one
pub record Ready (settings : Settings) (dims : List DimensionInfo) (k word : ℕ) : Type 0 where
  pub settings-ok : T (settings_ok settings)
  pub nonzero : Nonzero word
  pub dimensions : T (dimensions_ok dims k)
  pub formed : (j : ℕ) → j < k → Formed (dimension_at dims j)

pub ready : (s : Sampler) → Well s → Ready s.settings s.dimensions.list s.dimensions.count s.word
ready s g = record {
  settings-ok = g.ok.settings;
  nonzero = (pos_of_ne-zero (λ z. T_not (eqb s.word 0) g.ok.word (eq→eqb z)), g.typed.word);
  dimensions = g.ok.dimensions;
  formed = λ j l. record {
    ok = (dimensions-ok s.dimensions.list s.dimensions.count g.ok.dimensions).1 j l;
    held = g.typed.held j l;
    lo-fits = (g.typed.ends j l).0;
    hi-fits = (g.typed.ends j l).1;
  };
}
