-- The whole input, and the definition's reply in its terms.
use Rattle.std.specs.Prelude.{◌≡◌, ◌&&◌, ◌*◌, ◌≤◌, ◌++◌, Option as Found, None, Some}
use Rattle.laws.specs.Kit.{refl, sym, ◌∙◌, ap, Bool, true, false, cond, Option, none, some, ℕ, zero, suc, leb, List, length, take, drop}
use Rattle.std.proofs.Common.{mul-zero, mul-suc, add_comm, take-add}
use Rattle.definition.specs.Lists.{empty, rows, concat, flat_map}
use Rattle.definition.specs.Call.{call}
use Rattle.definition.specs.Text.{Bytes, Taken, Reader, ◌>>=◌, ◌>>◌, give, ensure, lit, dec, hex, one_digit, most_listed, most_bytes, Input, input, asked, lent_for, show_refusal, show_returned, answer_to, reply}
use Rattle.laws.specs.Lists.{rows_length}
use Rattle.reading.specs.declared.found.Header.{Header}

-- ---- reading to the end

-- what was read, where nothing follows it
unfoldable pub to_the_end : Option (Taken Input) → Option Input
to_the_end none = none
to_the_end (some t) = cond (empty t.rest) (some t.value) none

-- the input that the bytes are, if they are not too long, in their form and nothing more
unfoldable pub whole : Bytes → Option Input
whole s = cond (leb (length s) most_bytes) (to_the_end (input s)) none

-- the text that answers an input; refusal 10 for none
unfoldable pub answer : Option Input → Bytes
answer none = show_refusal 10
answer (some i) = show_returned i.points (call (asked i) (lent_for i))

ended : (o : Option (Taken Input)) → answer_to o ≡ answer (to_the_end o)
unfolding answer_to to_the_end answer
ended none = refl
ended (some t) = go (empty t.rest)
  where
    go : (b : Bool) → cond b (show_returned t.value.points (call (asked t.value) (lent_for t.value))) (show_refusal 10) ≡ answer (cond b (some t.value) none)
    go true = refl
    go false = refl

-- the definition's reply goes by the whole input
pub reply_is : (s : Bytes) → reply s ≡ answer (whole s)
unfolding reply whole answer
reply_is s = go (leb (length s) most_bytes)
  where
    go : (b : Bool) → cond b (answer_to (input s)) (show_refusal 10) ≡ answer (cond b (to_the_end (input s)) none)
    go true = ended (input s)
    go false = refl

-- ---- what the code's answers stand for

-- the definition's reading of the line of the input's numbers
unfoldable pub heading : Reader Header
heading = do
  lit "triangles points size stop\n"
  tris ← dec
  lit " "
  pts ← dec
  lit " "
  sz ← hex
  lit " "
  rule ← one_digit
  lit "\n"
  ensure (leb tris most_listed && leb pts most_listed)
  give (record { triangles = tris; points = pts; size = sz; stop = rule })

-- the input of a header and the two slices: their first rows of three
unfoldable pub input_of : Header → List ℕ → List ℕ → Input
input_of h tris bits = record { size = h.size; stop = h.stop; triangles = rows 3 h.triangles tris; points = rows 3 h.points bits }

-- the whole input, with the slices as they are at exit
abbrev pub read_as : List ℕ → List ℕ → Found Header → Option Input
read_as tris bits None = none
read_as tris bits (Some h) = some (input_of h tris bits)

-- the counts are the program's at most, and what lies past the lists is as it was
pub record Kept (h : Header) (tris₀ tris bits₀ bits : List ℕ) : Type 0 where
  pub few_triangles : h.triangles ≤ 64
  pub few_points : h.points ≤ 64
  pub triangles_past : drop (3 * h.triangles) tris ≡ drop (3 * h.triangles) tris₀
  pub points_past : drop (3 * h.points) bits ≡ drop (3 * h.points) bits₀

-- where the input is read, its counts are the program's at most, and what lies past the lists is as it was;
-- where it is bad, nothing is said of the slices
abbrev pub kept_if : Found Header → List ℕ → List ℕ → List ℕ → List ℕ → Type 0
kept_if None tris₀ tris bits₀ bits = Unit {0}
kept_if (Some h) tris₀ tris bits₀ bits = Kept h tris₀ tris bits₀ bits

-- what reading the input gives and leaves
pub record WholeRead (s tris₀ tris bits₀ bits : List ℕ) (r : Found Header) : Type 0 where
  pub reads : read_as tris bits r ≡ whole s
  pub kept : kept_if r tris₀ tris bits₀ bits

-- ---- what the slices hold: the lists' numbers one after the other

pub rows_concat : (w n : ℕ) (xs : List ℕ) → concat (rows w n xs) ≡ take (w * n) xs
unfolding rows concat flat_map
rows_concat w zero xs = rw (mul-zero w)
rows_concat w (suc n) xs = ap (λ (t : List ℕ). take w xs ++ t) (rows_concat w n (drop w xs)) ∙ rw (mul-suc w n, add_comm (w * n) w) (sym (take-add w (w * n) xs))

module _ (h : Header) (tris bits : List ℕ) where
  pub triangle_count : length (input_of h tris bits).triangles ≡ h.triangles
  unfolding input_of
  triangle_count = rows_length 3 h.triangles tris

  pub point_count : length (input_of h tris bits).points ≡ h.points
  unfolding input_of
  point_count = rows_length 3 h.points bits

  pub triangle_words : concat (input_of h tris bits).triangles ≡ take (3 * h.triangles) tris
  unfolding input_of
  triangle_words = rows_concat 3 h.triangles tris

  pub point_words : concat (input_of h tris bits).points ≡ take (3 * h.points) bits
  unfolding input_of
  point_words = rows_concat 3 h.points bits
