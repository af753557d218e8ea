-- The hash of what the code has is the hash of what the definition's call returned.
use mathlib.Core.Path.{◌≡◌, sym, ap, subst, ◌∙◌}
use mathlib.Core.List.{List, ◌∷◌}
use Prim.Native.Nat.{ℕ, ◌+◌, ◌/◌}
use native.Mathlib.Nat.{le_refl}
use native.Mathlib.Numerals.{add-one}
use lib.ListN.{length, take}
use lib.Seq.{take_all}
use lib.Ieee.{Float, binary64, to_bits}
use Rattle.definition.specs.Call.{Asked, Lent, Returned, counts_of}
use Rattle.hashing.specs.Hash.{hash, word}
use Rattle.mesher.specs.Promise.{Reply, number_of, counts_in, lengths_in, Returns}
use Rattle.acceptance.specs.Folded.{counted, numbers, with_slices, folded}
use Rattle.acceptance.specs.Positions.{coordinates, placed}
use Rattle.acceptance.specs.Runs.{the_call, asked, lent, returned, hashed}

-- all elements of a slice
whole : {A : Type 0} (f : A → ℕ) (h : ℕ) (xs : List A) → hash f h (take (length xs) xs) ≡ hash f h xs
whole f h xs = ap (hash f h) (take_all (length xs) xs (le_refl (length xs)))

-- the slices one after the other
pub slice_by_slice : (h placed left sizes r : ℕ) (quads out components : List ℕ) (points : List Float)
    → placed ≡ hash word h (take (length quads) quads)
    → left ≡ hash word placed (take (length out) out)
    → sizes ≡ hash word left (take (length components) components)
    → r ≡ hash (to_bits binary64) sizes (take (length points) points)
    → r ≡ with_slices h quads out components points
unfolding with_slices
slice_by_slice h placed left sizes r quads out components points d e f g =
    let first = d ∙ whole word h quads in
    let second = e ∙ whole word placed out ∙ ap (λ k. hash word k out) first in
    let third = f ∙ whole word left components ∙ ap (λ k. hash word k components) second in
    g ∙ whole (to_bits binary64) sizes points ∙ ap (λ k. hash (to_bits binary64) k points) third

-- of an answer a and slices at exit that are those of the definition's call
pub as_returned : (start h r : ℕ) (x : Returned) (a : Reply) (exit : Lent)
    → Returns x a exit
    → h ≡ hash word start (a.refusal ∷ counted (counts_in a) (lengths_in a))
    → r ≡ with_slices h exit.quads exit.triangles_out exit.components exit.points
    → r ≡ folded start x
unfolding folded numbers
as_returned start h r x a exit is e f =
    let answer : h ≡ hash word start (numbers x.answer) =
    e
    ∙ ap (λ k. hash word start (k ∷ counted (counts_in a) (lengths_in a))) is.number
    ∙ ap (λ c. hash word start (number_of x.answer ∷ counted c (lengths_in a))) is.counts
    ∙ ap (λ n. hash word start (number_of x.answer ∷ counted (counts_of x.answer) n)) is.lengths in
    f
    ∙ ap (λ (l : Lent). with_slices h l.quads l.triangles_out l.components l.points) (sym is.lent)
    ∙ ap (λ k. with_slices k x.lent.quads x.lent.triangles_out x.lent.components x.lent.points) answer

-- a call that states the same numbers
pub stated_as : (l : Lent) {a b : Asked} {r : Reply} {exit : Lent} → a ≡ b → Returns (the_call a l) r exit → Returns (the_call b l) r exit
stated_as l {r = r} {exit = exit} e is = subst (λ a. Returns (the_call a l) r exit) e is

-- the call in setting s, with the points that were placed
pub with_points : (given count : ℕ) (nodes : List ℕ) (s : ℕ) {points : List Float} {a : Reply} {exit : Lent} → points ≡ placed (coordinates (s / 16))
    → Returns (the_call (asked given count s) (lent points nodes)) a exit → Returns (returned given count nodes s) a exit
unfolding returned
with_points given count nodes s {a = a} {exit = exit} e is = subst (λ points. Returns (the_call (asked given count s) (lent points nodes)) a exit) e is

-- one more setting
pub one_more : (h r : ℕ) (given count : ℕ) (nodes : List ℕ) (s : ℕ)
    → h ≡ hashed given count nodes s → r ≡ folded h (returned given count nodes s) → r ≡ hashed given count nodes (s + 1)
unfolding hashed
one_more h r given count nodes s e f = f ∙ ap (λ k. folded k (returned given count nodes s)) e ∙ ap (hashed given count nodes) (sym (add-one s))
