-- Along a run every value received is drawn from or decoded for the distribution that it is served for, and in its range. Assumes nothing.
use Rattle.std.specs.Prelude.{Option, Some, Result, Ok, Err, is_ok}
use Rattle.std.proofs.lemmas.Option.{slice_get_read}
use Rattle.std.proofs.Math.Bool.{and-false}
use Prim.Native.Nat.{ℕ, ◌+◌, ◌*◌, ◌^◌, ◌≤◌, ◌<◌}
use native.Mathlib.Nat.{not-suc-le-zero, eq-zero-or-pos}
use native.Mathlib.Omega.{arith}
use mathlib.Core.Path.{◌≡◌, refl, sym, ap, ◌∙◌, subst}
use mathlib.Core.Bool.{Bool, true, false, ◌&&◌}
use mathlib.Core.List.{List, [], ◌∷◌}
use mathlib.Core.Logic.{inl, inr}
use lib.Dec.{T, T_not, eqb, leb→le, lit<}
use lib.ListN.{get_or, get_or-replicate}
use lib.Ieee.{Float, nan, binary64, of_bits, of_int, div, le}
use lib.Ieee.Bits.{is_true}
use lib.Ieee.Fits.{and_l, and_r}
use borrow.Author.Tests.{eq-eqb, ne_eqb, lt-ltb, le-ltb}
use Rattle.refusal.specs.declared.Refusal.{Refusal}
use Rattle.arith.proofs.Lists.{grown-length, grown-read, every-each}
use Rattle.arith.proofs.Tests.{taken as passed, untaken, equal_or_not}
use Rattle.distribution.specs.declared.Distribution.{Distribution}
use Rattle.distribution.specs.declared.ParamValue.{ParamValue}
use Rattle.distribution.specs.Range.{in_range}
use Rattle.distribution.specs.Shape.{shape_of, continuous_of}
use Rattle.distribution_words.specs.RoundTrip.{Held}
use Rattle.distribution.proofs.Facts.{parts}
use Rattle.distribution_words.proofs.RoundTrip.{read_held}
use Rattle.dimensions.specs.declared.DimensionInfo.{DimensionInfo}
use Rattle.dimensions.specs.declared.Dimensions.{Dimensions}
use Rattle.dimensions.specs.Dimensions.{dimension_at}
use Rattle.gp_model.specs.declared.Model.{Model}
use Rattle.proposal.specs.Values.{DrawnFrom, decode_of}
use Rattle.proposal.proofs.Ranges.{column-below, stream-small}
use Rattle.rng_util.specs.Draws.{unit_of}
use Rattle.rng_util.specs.Generator.{moved_of, stream_of}
use Rattle.rng_util.proofs.Nonzero.{Nonzero, moved-nonzero}
use Rattle.sampler_state.specs.declared.Place.{Place}
use Rattle.sampler_state.specs.declared.Sampler.{Sampler}
use Rattle.sampler_state.specs.State.{fresh_of, trial_place, held_by, stored_at, progress_ok, sampler_ok}
use Rattle.sampler_laws.specs.declared.Answer.{Answer}
use Rattle.sampler_laws.specs.Laws.{Typed, stored_next}
use Rattle.sampler_laws.specs.NewTrials.{past_discovery, new_trial as is_new, fit_made, fit_answer, has_model, continuous, columns_before, point_drawn, StoresRandom}
use Rattle.sampler_laws.specs.Received.{Noted, in_force, noted_of, next_noted, served_for, Holding, InRange, MadeFor, drawn, decoded, ReceivedFor, Receives, FloatReceived, FloatBetween, AlongNoted, NotedFor, Kept, AlongRuns, Received}
use Rattle.sampler_laws.specs.Runs.{Asked, asks, closes, Call, call_of}
use Rattle.sampler_laws.specs.Served.{AnswersDraw, OthersKept, PastDiscovery, SampleServed, in_discovery, new_trial, next_value, past_last}
use Rattle.sampler_laws.proofs.Best.{best, random}
use Rattle.sampler_laws.proofs.Nothing.{nothing_refused}
use Rattle.sampler_laws.proofs.Parts.{Well, well, ready}
use Rattle.sampler_laws.proofs.Served.{calls_served}
use Rattle.sampler_laws.proofs.Ways.{discovering}
use Rattle.sampler_laws.proofs.WellFormed.{placed, well_formed}
use Rattle.sampler_laws.proofs.WordCounts.{words_drawn}

-- ---- what is noted for a place

-- the dimensions in force, of which P holds
of-dimensions : (P : Holding) (s : Sampler) (p : Place) → ((j : ℕ) → j < s.dimensions.count → P (dimension_at s.dimensions.list j).distribution (stored_at p j)) → (j : ℕ) → j < s.dimensions.count → NotedFor P (in_force s) p j
of-dimensions P s p o j l =
    let k = s.dimensions.count in
    let f : List Distribution → ℕ → Distribution = λ xs i. (dimension_at s.dimensions.list i).distribution in
    record {
      distribution = f [] j;
      noted = slice_get_read (in_force s) k j (f [] j) (sym (grown-length f k)) l (sym (grown-read f k j (f [] j) l));
      holds = o j l;
    }

-- in range, of a place so far in the dimensions
progressed : (dims : List DimensionInfo) (k : ℕ) (p : Place) → T (progress_ok dims k p) → (j : ℕ) → j < k → InRange (dimension_at dims j).distribution (stored_at p j)
progressed dims k p o = every-each k (λ i. in_range (dimension_at dims i).distribution (stored_at p i)) (search parts)

-- of one trial
abbrev KeptFor : Holding → Noted → Sampler → ℕ → Type 0
KeptFor P m s u = (p : Place) → held_by s.places u ≡ Some p → (j : ℕ) → j < s.dimensions.count → NotedFor P (m u) p j

-- a trial noted as before, for a place with the values that it had
as-before : (P : Holding) (m n : Noted) (s after : Sampler) → Kept P m s → after.dimensions.count ≡ s.dimensions.count → (u : ℕ) → n u ≡ m u
    → (q r : Place) → held_by s.places u ≡ Some q → r.values ≡ q.values → (j : ℕ) → j < after.dimensions.count → NotedFor P (n u) r j
as-before P m n s after k c u e q r h v j l =
    let x = k u q h j (rw (← c) l) in
    record { distribution = x.distribution; noted = rw e x.noted; holds = rw v x.holds }

-- ---- which calls are a new trial's, and what others note

module _ (m : Noted) (s : Sampler) (d : Asked) (trial : ℕ) (h : List ℕ) where
  abbrev asking : Call
  asking = asks d trial h

  new-where : {r : Result Answer Refusal} → (call_of s asking).answer ≡ r → {b c : Bool} → past_discovery s trial ≡ b → eqb (trial_place s.places trial) 32 ≡ c → is_new s asking ≡ is_ok r && b && c
  unfolding is_new
  new-where e f g = rw (e, f, g)

  -- noted is nothing but a new trial
  same-note : (u : ℕ) → is_new s asking && eqb u trial ≡ false → noted_of m s asking u ≡ m u
  same-note u e = rw e

-- ---- an accepted call

record Good (P : Holding) (m : Noted) (s : Sampler) (c : Call) (a : Answer) : Type 0 where
  received : (v : ParamValue) → a.value ≡ Some v → ReceivedFor P m s c v
  kept : Kept P (noted_of m s c) (call_of s c).sampler

-- P holds of a draw from a well-formed distribution, and of the values of a new trial
record Makes (P : Holding) (s : Sampler) : Type 0 where
  draws : (d : Distribution) → Held d → T (shape_of d) → (v : ParamValue) → DrawnFrom s.word d v → P d v
  values : (d : Asked) (trial : ℕ) (h : List ℕ) → is_new s (asks d trial h) ≡ true → (p : Place) → held_by (call_of s (asks d trial h)).sampler.places trial ≡ Some p
      → (call_of s (asks d trial h)).sampler.dimensions ≡ s.dimensions → (j : ℕ) → j < s.dimensions.count → P (dimension_at s.dimensions.list j).distribution (stored_at p j)

module _ (P : Holding) (m : Noted) (s : Sampler) (t : Typed s) (o : T (sampler_ok s)) (makes : Makes P s) (k : Kept P m s) where
  abbrev g : Well s
  g = well s t o

  module _ (n : Noted) (after : Sampler) (f : after.dimensions ≡ s.dimensions) (trial : ℕ) where
    -- the other trials are noted as before, and have their places
    kept-all : (i : ℕ) → OthersKept s trial i after → ((u : ℕ) → (u ≡ trial → ⊥) → n u ≡ m u) → KeptFor P n after trial → Kept P n after
    kept-all i others same own u = elim (equal_or_not u trial) [
      | inl z ↦ subst (KeptFor P n after) (sym z) own
      | inr z ↦ λ p h. as-before P m n s after k (ap (λ (x : Dimensions). x.count) f) u (same u z) p p (sym (others.trials u z) ∙ h) refl
    ]

    -- what the trial has is one place
    one-place : (q : Place) → held_by after.places trial ≡ Some q → ((j : ℕ) → j < after.dimensions.count → NotedFor P (n trial) q j) → KeptFor P n after trial
    one-place q h f p y j l = let z : q ≡ p = (let w = sym h ∙ y in cc) in subst (λ (x : Place). NotedFor P (n trial) x j) z (f j l)

    -- it is noted as before, and its place keeps its values
    kept-same : (i : ℕ) → OthersKept s trial i after → ((u : ℕ) → n u ≡ m u) → (q r : Place) → held_by s.places trial ≡ Some q → held_by after.places trial ≡ Some r → r.values ≡ q.values → Kept P n after
    kept-same i others same q r x h v = kept-all i others (λ u _. same u) (one-place r h (as-before P m n s after k (ap (λ (x : Dimensions). x.count) f) trial (same trial) q r x v))

  module _ (d : Asked) (trial : ℕ) (h : List ℕ) (a : Answer) (e : (call_of s (asks d trial h)).answer ≡ Ok a) where
    abbrev after : Sampler
    after = (call_of s (asks d trial h)).sampler

    abbrev noted : Noted
    noted = noted_of m s (asks d trial h)

    -- the value answered, and what it is said to be for
    for : (r : Distribution) (w : ParamValue) → P r w → a.value ≡ Some w → served_for m s (asks d trial h) ≡ Some r → (v : ParamValue) → a.value ≡ Some v → ReceivedFor P m s (asks d trial h) v
    for r w i x f v y = let z : w ≡ v = (let q = sym x ∙ y in cc) in record { distribution = r; served = f; holds = subst (P r) z i }

    -- a draw from what is asked
    drawn-asked : (w : AnswersDraw s d a) → P w.distribution w.answered
    drawn-asked w = let q = read_held d.kind d.low d.high d.log d.stepped d.step w.distribution w.read in makes.draws w.distribution q.0 q.1 w.answered w.drawn

    -- a trial with a place is not new
    placed-not-new : PastDiscovery s trial after → (q : Place) → held_by s.places trial ≡ Some q → is_new s (asks d trial h) ≡ false
    placed-not-new p q f = let l = (placed s g trial q f).below in new-where m s d trial h e p.past (ne_eqb (trial_place s.places trial) 32 (λ z. omega arith))

    by-way : SampleServed s d trial a after → Good P m s (asks d trial h) a
    unfolding served_for
    by-way (in_discovery w) =
        let i = discovering s trial w.discovers in
        let n = new-where m s d trial h e w.discovers refl in
        record {
          received = for w.answers.distribution w.answers.answered (drawn-asked w.answers) w.answers.value (rw (n, i) w.answers.read);
          kept = λ u p f. absurd (T_not s.active (untaken i) (placed s g u p (subst (λ (ps : List (Option Place)). held_by ps u ≡ Some p) w.places f)).active);
        }
    by-way (new_trial p w) =
        let x = well_formed.call s (asks d trial h) t o in
        let y = (placed after (well after x.0 x.1) trial w.place w.held).progress in
        let n = new-where m s d trial h e p.past (eq-eqb (trial_place s.places trial) 32 w.none) in
        let f = of-dimensions P s w.place (makes.values d trial h n w.place w.held p.dimensions) in
        let c : after.dimensions.count ≡ s.dimensions.count = ap (λ (x : Dimensions). x.count) p.dimensions in
        let l : 1 ≤ s.dimensions.count = rw (← c) (subst (λ (i : ℕ). i ≤ after.dimensions.count) w.next (leb→le w.place.next_dim after.dimensions.count (search parts))) in
        record {
          received = for (f 0 l).distribution (stored_at w.place 0) (f 0 l).holds w.value (rw n (f 0 l).noted);
          kept = kept-all noted after p.dimensions trial _ p.others (λ u x. same-note m s d trial h u (rw (ne_eqb u trial x, and-false))) (one-place noted after p.dimensions trial w.place w.held (rw (n, eq-eqb trial trial refl, c) f));
        }
    by-way (next_value p w) =
        let n = placed-not-new p w.before w.held_before in
        let f : stored_next s trial ≡ true = rw (is_true s.active (placed s g trial w.before w.held_before).active, w.held_before, lt-ltb w.before.next_dim s.dimensions.count w.more) in
        let x = k trial w.before w.held_before w.before.next_dim w.more in
        let y : next_noted (m trial) (held_by s.places trial) ≡ Some x.distribution = rw w.held_before x.noted in
        record {
          received = for x.distribution (stored_at w.before w.before.next_dim) x.holds w.value (rw (n, f) y);
          kept = kept-same noted after p.dimensions trial _ p.others (λ u. same-note m s d trial h u (rw n)) w.before w.place w.held_before w.held w.values;
        }
    by-way (past_last p w) =
        let n = placed-not-new p w.place w.held_before in
        let f : stored_next s trial ≡ false = rw (is_true s.active (placed s g trial w.place w.held_before).active, w.held_before, le-ltb w.place.next_dim s.dimensions.count w.no_more) in
        record { received = for w.answers.distribution w.answers.answered (drawn-asked w.answers) w.answers.value (rw (n, f) w.answers.read); kept = kept-same noted after p.dimensions trial _ p.others (λ u. same-note m s d trial h u (rw n)) w.place w.place w.held_before w.held refl }

  good : (c : Call) (a : Answer) → (call_of s c).answer ≡ Ok a → Good P m s c a
  good (asks d trial h) a e = by-way d trial h a e (calls_served.call s (asks d trial h) t a e).call
  good (closes trial) a e =
      let after = (call_of s (closes trial)).sampler in
      let w = (calls_served.call s (closes trial) t a e).call in
      let x = well_formed.call s (closes trial) t o in
      record {
        received = λ v y. absurd (let z = sym w.value ∙ y in cc);
        kept = kept-all m after w.dimensions trial _ w.others (λ _ _. refl) (λ p h. absurd (let l = (placed after (well after x.0 x.1) trial p h).below in let n = w.none in omega arith));
      }

  refused : (c : Call) (cause : Refusal) → (call_of s c).answer ≡ Err cause → (u : ℕ) → noted_of m s c u ≡ m u
  refused (asks d trial h) cause e = λ u. same-note m s d trial h u (rw (new-where m s d trial h e refl refl))
  refused (closes trial) cause e = λ u. refl

  call : (c : Call) → Receives P m s c × Kept P (noted_of m s c) (call_of s c).sampler
  call c = (λ a e. (good c a e).received, kept (call_of s c).answer refl)
    where
      kept : (r : Result Answer Refusal) → (call_of s c).answer ≡ r → Kept P (noted_of m s c) (call_of s c).sampler
      kept (Ok a) e = (good c a e).kept
      kept (Err cause) e = subst (Kept P (noted_of m s c)) (sym (words_drawn.refused s c cause e).1) (λ u p h. as-before P m (noted_of m s c) s s k refl u (refused c cause e u) p p h refl)

-- ---- in range

in-range : (s : Sampler) → Typed s → T (sampler_ok s) → Makes InRange s
in-range s t o = record {
  draws = λ d q f v w.
      let x = nothing_refused.random s d q f t o in
      let z : x.0.value ≡ v = (let i = sym x.1 ∙ w.drawn in let l = w.value in cc) in
      subst (InRange d) z x.2;
  values = λ d trial h n p e f.
      let after = (call_of s (asks d trial h)).sampler in
      let x = well_formed.call s (asks d trial h) t o in
      subst (λ (y : Dimensions). (j : ℕ) → j < y.count → InRange (dimension_at y.list j).distribution (stored_at p j)) f
      (progressed after.dimensions.list after.dimensions.count p (placed after (well after x.0 x.1) trial p e).progress);
}

-- an answered float is between its low and high
floats : (m : Noted) (s : Sampler) (c : Call) → Receives InRange m s c → FloatBetween m s c
floats m s c f a e v y = let r = f a e (ParamValue.Float v) y in go r.distribution r.served r.holds
  where
    go : (d : Distribution) → served_for m s c ≡ Some d → InRange d (ParamValue.Float v) → FloatReceived m s c v
    go (Distribution.Float d) q i = record { distribution = d; served = q; low = and_l (le d.low v) (le v d.high) i; high = and_r (le d.low v) (le v d.high) i }
    go (Distribution.Int d) q i = absurd i
    go (Distribution.Categorical d) q i = absurd i

-- ---- drawn or decoded

-- 0.5 is a unit float
half : unit_of (2 ^ 63) ≡ of_bits binary64 0x3fe0000000000000
unfolding unit_of of_int div of_bits
half = refl

module _ (s : Sampler) (g : Well s) (d : Asked) (trial : ℕ) (h : List ℕ) (n : is_new s (asks d trial h) ≡ true) (p : Place) (e : held_by (call_of s (asks d trial h)).sampler.places trial ≡ Some p) where
  abbrev done : Sampler
  done = (call_of s (asks d trial h)).sampler

  abbrev dimension : ℕ → DimensionInfo
  dimension j = dimension_at s.dimensions.list j

  abbrev Made : ParamValue → ℕ → Type 0
  Made v j = MadeFor (dimension j).distribution v

  nonzero : Nonzero s.word
  nonzero = (ready s g).nonzero

  -- a value of the place that a law speaks of is a value of this one
  here : (q : Place) → held_by done.places trial ≡ Some q → (j : ℕ) → Made (stored_at q j) j → Made (stored_at p j) j
  here q f j = let z : q ≡ p = (let w = sym f ∙ e in cc) in subst (λ (x : Place). Made (stored_at x j) j) z

  at : (q : Place) → held_by done.places trial ≡ Some q → (j w : ℕ) → DrawnFrom (moved_of w s.word) (dimension j).distribution (stored_at q j) → Made (stored_at p j) j
  at q f j w x = here q f j (drawn (moved_of w s.word) (moved-nonzero w s.word nonzero).1 x)

  -- the decoding of a coordinate that is a word's unit float
  of-unit : (q : Place) → held_by done.places trial ≡ Some q → (j : ℕ) → j < s.dimensions.count → (w : ℕ) → w < 2 ^ 64 → (u : Float) → u ≡ unit_of w → decode_of (dimension j) u ≡ Ok (stored_at q j) → Made (stored_at p j) j
  of-unit q f j l w m u z x = here q f j (decoded (dimension j) refl ((ready s g).formed j l).ok w m (subst (λ (y : Float). decode_of (dimension j) y ≡ Ok (stored_at q j)) z x))

  -- where no fit is made, after a refused one, and a choice
  not-by-model : (j : ℕ) → j < s.dimensions.count → (fit_made s h ≡ true → T (continuous_of (dimension j).distribution) → is_ok (fit_answer s h) ≡ true → Made (stored_at p j) j) → Made (stored_at p j) j
  not-by-model j l model = go (fit_made s h) (continuous_of (dimension j).distribution) (is_ok (fit_answer s h)) refl refl refl
    where
      r : StoresRandom s done trial h
      r = random s (asks d trial h) g.typed (passed n)

      go : (f c a : Bool) → fit_made s h ≡ f → continuous_of (dimension j).distribution ≡ c → is_ok (fit_answer s h) ≡ a → Made (stored_at p j) j
      go false c a x y z = at r.place r.held j _ (r.random x j l)
      go true false a x y z = at r.place r.held j _ (r.categories x j l y)
      go true true false x y z =
          let c = columns_before s j + 1 in
          of-unit r.place r.held j l (moved_of c s.word) (moved-nonzero c s.word nonzero).1 (unit_of (moved_of c s.word)) refl (r.units x z j l (passed y))
      go true true true x y z = model x (passed y) z

  -- the decoding of the best point
  by-model : (j : ℕ) → j < s.dimensions.count → T (continuous_of (dimension j).distribution) → T (has_model s h) → (r : Result Model Refusal) → fit_answer s h ≡ r → is_ok r ≡ true → Made (stored_at p j) j
  unfolding point_drawn
  by-model j l c o (Ok m) x i =
      let b = best s (asks d trial h) g.typed.places (passed n) o m x in
      let k = column-below s.dimensions.list s.dimensions.count j l c in
      elim (eq-zero-or-pos s.settings.n_candidates) [
        | inl z ↦
            let y = b.none z in
            of-unit y.place y.held j l (2 ^ 63) (lit< tt) _ (get_or-replicate (continuous s) (columns_before s j) (of_bits binary64 0x3fe0000000000000) nan k ∙ sym half) (y.decoded j l c)
        | inr q ↦
            let f = b.found q in
            let words = s.settings.n_candidates * continuous s in
            let w = get_or (stream_of words s.word) (f.index * continuous s + columns_before s j) 0 in
            of-unit f.stored.place f.stored.held j l w (stream-small words s.word _ nonzero) _
            (grown-read (λ (xs : List Float) i. unit_of (get_or (stream_of words s.word) (f.index * continuous s + i) 0)) (continuous s) (columns_before s j) nan k) (f.stored.decoded j l c)
      ]
  by-model j l c o (Err r) x i = absurd (cc)

  made-values : (j : ℕ) → j < s.dimensions.count → Made (stored_at p j) j
  made-values j l = not-by-model j l (λ x y z. by-model j l y (unfold has_model in rw (x, z) tt) (fit_answer s h) refl z)

made-for : (s : Sampler) → Typed s → T (sampler_ok s) → Makes MadeFor s
made-for s t o = record { draws = λ d q f v w. drawn s.word t.word w; values = λ d trial h n p e f. made-values s (well s t o) d trial h n p e }

-- ---- along a run

module _ (P : Holding) (makes : (s : Sampler) → Typed s → T (sampler_ok s) → Makes P s) (Q : Noted → Sampler → Call → Type 0) (then : (m : Noted) (s : Sampler) (c : Call) → Receives P m s c → Q m s c) where
  along : (m : Noted) (s : Sampler) → Typed s → T (sampler_ok s) → Kept P m s → (cs : List Call) → AlongNoted Q m s cs
  unfolding AlongNoted
  along m s t o k [] = tt
  along m s t o k (c ∷ cs) =
      let x = call P m s t o (makes s t o) k c in
      let w = well_formed.call s c t o in
      (then m s c x.0, along (noted_of m s c) (call_of s c).sampler w.0 w.1 x.1 cs)

  fresh : AlongRuns Q
  fresh m s l o = let w = well_formed.fresh s l o in along m (fresh_of s) w.0 w.1 (λ u p h j n. absurd (not-suc-le-zero n))

pub received : Received
received = record {
  call = λ m s c t o k. call InRange m s t o (in-range s t o) k c;
  run = fresh InRange in-range (Receives InRange) (λ m s c f. f);
  made = fresh MadeFor made-for (Receives MadeFor) (λ m s c f. f);
  floats = fresh InRange in-range FloatBetween floats;
  handed_in = λ s t o cs.
      let k : Kept InRange (λ t. in_force s) s = λ u p h. of-dimensions InRange s p (progressed s.dimensions.list s.dimensions.count p (placed s (well s t o) u p h).progress) in
      (k, along InRange in-range (Receives InRange) (λ m s c f. f) (λ t. in_force s) s t o k cs);
}
