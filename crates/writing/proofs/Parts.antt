-- The parts of an answer put together.
use Rattle.std.specs.Prelude.{◌≡◌, ◌+◌, ◌≤◌, ◌∷◌, ◌++◌}
use Rattle.laws.specs.Kit.{refl, sym, ◌∙◌, ap, ℕ, arith, List, [], append-nil, append_assoc, length, take}
use Rattle.definition.specs.Lists.{flat_map, rows}
use Rattle.definition.specs.Counts as def
use Rattle.definition.specs.Call.{Lent}
use Rattle.definition.specs.Call as call
use Rattle.definition.specs.Text.{Bytes, bytes, show, show_bits, line_of, lines_of, listed, points_between, show_lists}
use Rattle.laws.specs.Lists.{rows_length}
use Rattle.writing.specs.Put.{Written}
use Rattle.writing.specs.Answer.{lengths_listed, Answered}
use Rattle.writing.proofs.Puts.{take_put, drop_put}

-- a text written at the front
pub at_front : {xs ys : List ℕ} {t : Bytes} {r : ℕ} → Written xs ys 0 t r → r ≤ length xs → Answered xs ys t r
at_front {xs} {ys} {t} {r} w h =
    let k : 0 + length t ≤ length xs = let e = w.next in omega arith in
    record {
      text = rw (w.holds, w.next) (take_put 0 t xs k);
      past = rw (w.holds, w.next) (drop_put 0 t xs k);
      fits = h;
    }

-- a table of one row is a line
pub one_line : (f : ℕ → Bytes) (w : ℕ) (row : List ℕ) → take w row ≡ row → lines_of f (rows w 1 row) ≡ line_of f row
unfolding lines_of flat_map rows
one_line f w row e = rw e (append-nil (line_of f row))

lines_append : (f : ℕ → Bytes) (a b : List (List ℕ)) → lines_of f (a ++ b) ≡ lines_of f a ++ lines_of f b
unfolding lines_of flat_map
lines_append f [] b = refl
lines_append f (x ∷ a) b = ap (λ (t : Bytes). line_of f x ++ t) (lines_append f a b) ∙ sym (append_assoc (line_of f x) (lines_of f a) (lines_of f b))

-- two tables under one line of names
pub two_tables : (f : ℕ → Bytes) (t : Bytes) (a b : List (List ℕ)) → (t ++ lines_of f a) ++ lines_of f b ≡ t ++ lines_of f (a ++ b)
two_tables f t a b = rw (lines_append f a b) (append_assoc t (lines_of f a) (lines_of f b))

-- the six parts are the answer
pub joined : (k : ℕ) (bits : List ℕ) (c : def.Counts) (cs : List ℕ) (n : call.Lengths) (l : Lent)
    → listed c ≡ cs
    → (((((bytes "front_empty attempts placement invalid_quad recovery region odd_region mismatch_insertions limit\n" ++ line_of show cs)
    ++ (bytes "quads triangles points components\n" ++ line_of show (lengths_listed n)))
    ++ (bytes "n0 n1 n2 n3 u v round replaced\n" ++ lines_of show (rows 8 n.quads l.quads)))
    ++ (bytes "n0 n1 n2\n" ++ lines_of show (rows 3 n.triangles l.triangles_out)))
    ++ (bytes "x y z\n" ++ lines_of show_bits (rows 3 k bits ++ points_between k n.points l.points)))
    ++ (bytes "size\n" ++ lines_of show (rows 1 n.components l.components))
    ≡ show_lists (rows 3 k bits) c n l
unfolding show_lists lengths_listed
joined k bits c cs n l e = rw (sym e, rows_length 3 k bits) (simp append_assoc)
