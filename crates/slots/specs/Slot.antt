-- "parameter id, distribution, taken value": one slot, and two. Definitions only.
use Rattle.distribution.specs.declared.Distribution.{Distribution}
use Rattle.std.specs.Prelude.{ℕ, Bool, false, cond, not, ◌&&◌, ◌||◌, List, eqb, get_or, Option, Some, None}
use Rattle.arith.specs.Lists.{every}
use Rattle.distribution.specs.declared.ParamValue.{ParamValue}
use Rattle.distribution.specs.Equal.{equal_of}
use Rattle.distribution.specs.Taken.{taken_of, value_of}
use Rattle.distribution_words.specs.Words.{read_of}

-- ---- eight words, 0 the id, 1 to 6 the distribution, 7 the taken value

abbrev pub id_of : List ℕ → ℕ
id_of slot = get_or slot 0 0

abbrev pub kind_of : List ℕ → ℕ
kind_of slot = get_or slot 1 0

abbrev pub taken_word : List ℕ → ℕ
taken_word slot = get_or slot 7 0

-- ---- one slot

-- "A slot of kind 0 is absent"
abbrev pub present : List ℕ → Bool
present slot = not (eqb (kind_of slot) 0)

-- what its six words of a distribution say
unfoldable pub slot_read : List ℕ → Option Distribution
slot_read slot = read_of (kind_of slot) (get_or slot 2 0) (get_or slot 3 0) (get_or slot 4 0) (get_or slot 5 0) (get_or slot 6 0)

-- the taken word obeys the Taken rule of a well-formed distribution
abbrev pub taken_read : Option Distribution → ℕ → Bool
taken_read (Some d) w = taken_of d (value_of d w)
taken_read None w = false

-- "absent and all zero", or well-formed with a value that was taken
unfoldable pub slot_ok : List ℕ → Bool
unfolding slot_read
slot_ok slot = cond (present slot) (taken_read (slot_read slot) (taken_word slot)) (every 8 (λ k. eqb (get_or slot k 0) 0))

-- ---- two slots

-- both are present, under one id
abbrev pub same_id : List ℕ → List ℕ → Bool
same_id a b = present a && present b && eqb (id_of a) (id_of b)

-- two distributions that were read are equal
abbrev pub reads_equal : Option Distribution → Option Distribution → Bool
reads_equal (Some a) (Some b) = equal_of a b
reads_equal (Some a) None = false
reads_equal None b = false

-- not of one id, or of equal distributions
unfoldable pub agreeing : List ℕ → List ℕ → Bool
unfolding slot_read
agreeing a b = not (same_id a b) || reads_equal (slot_read a) (slot_read b)

-- ---- by an id, and its value

-- a slot that is present under that id
abbrev pub has_id : ℕ → List ℕ → Bool
has_id id v = present v && eqb (id_of v) id

-- the value of a slot, of its distribution's kind
abbrev pub value_read : Option Distribution → ℕ → Option ParamValue
value_read (Some d) w = Some (value_of d w)
value_read None w = None
