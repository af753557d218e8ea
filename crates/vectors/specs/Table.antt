-- The proved table, P1 to P11, in one theorem over the list.
-- The outputs are those of the patched Rust.
use Rattle.std.specs.Prelude.{◌≡◌, refl, List, [], ◌∷◌, map, Float}
use Prim.Native.String.{String}
use Rattle.std.specs.Float.{binary64}
use Rattle.std.specs.Float.Ieee.{to_bits}
use Rattle.definition.specs.Floats.{f64}
use Rattle.definition.specs.Root.{sqrt}
use Rattle.definition.specs.Text.{Bytes, bytes, show_bits, reply}
use Rattle.vectors.specs.Opened.{opened}

-- P1 no triangles, no points
abbrev pub in_1 : String
in_1 = "triangles points size stop\n0 0 3ff0000000000000 0\nn0 n1 n2\nx y z\n"

abbrev pub out_1 : String
out_1 = "front_empty attempts placement invalid_quad recovery region odd_region mismatch_insertions limit\n1 0 0 0 0 0 0 0 0\nquads triangles points components\n0 0 0 0\nn0 n1 n2 n3 u v round replaced\nn0 n1 n2\nx y z\nsize\n"

-- P2 S, the unit square
abbrev pub in_2 : String
in_2 = "triangles points size stop\n2 4 3ff0000000000000 0\nn0 n1 n2\n0 1 2\n0 2 3\nx y z\n0000000000000000 0000000000000000 0000000000000000\n3ff0000000000000 0000000000000000 0000000000000000\n3ff0000000000000 3ff0000000000000 0000000000000000\n0000000000000000 3ff0000000000000 0000000000000000\n"

abbrev pub out_2 : String
out_2 = "front_empty attempts placement invalid_quad recovery region odd_region mismatch_insertions limit\n1 1 0 0 0 0 0 0 0\nquads triangles points components\n1 0 4 0\nn0 n1 n2 n3 u v round replaced\n0 1 2 3 0 1 1 2\nn0 n1 n2\nx y z\n0000000000000000 0000000000000000 0000000000000000\n3ff0000000000000 0000000000000000 0000000000000000\n3ff0000000000000 3ff0000000000000 0000000000000000\n0000000000000000 3ff0000000000000 0000000000000000\nsize\n"

-- P3 S under rule 1
abbrev pub in_3 : String
in_3 = "triangles points size stop\n2 4 3ff0000000000000 1\nn0 n1 n2\n0 1 2\n0 2 3\nx y z\n0000000000000000 0000000000000000 0000000000000000\n3ff0000000000000 0000000000000000 0000000000000000\n3ff0000000000000 3ff0000000000000 0000000000000000\n0000000000000000 3ff0000000000000 0000000000000000\n"

abbrev pub out_3 : String
out_3 = "front_empty attempts placement invalid_quad recovery region odd_region mismatch_insertions limit\n1 1 0 0 0 0 0 0 0\nquads triangles points components\n1 0 4 0\nn0 n1 n2 n3 u v round replaced\n0 1 2 3 0 1 1 2\nn0 n1 n2\nx y z\n0000000000000000 0000000000000000 0000000000000000\n3ff0000000000000 0000000000000000 0000000000000000\n3ff0000000000000 3ff0000000000000 0000000000000000\n0000000000000000 3ff0000000000000 0000000000000000\nsize\n"

-- P4 T, size 1
abbrev pub in_4 : String
in_4 = "triangles points size stop\n1 3 3ff0000000000000 0\nn0 n1 n2\n0 1 2\nx y z\n0000000000000000 0000000000000000 0000000000000000\n3ff0000000000000 0000000000000000 0000000000000000\n0000000000000000 3ff0000000000000 0000000000000000\n"

abbrev pub out_4 : String
out_4 = "front_empty attempts placement invalid_quad recovery region odd_region mismatch_insertions limit\n0 3 0 3 0 0 0 0 0\nquads triangles points components\n0 1 3 1\nn0 n1 n2 n3 u v round replaced\nn0 n1 n2\n0 1 2\nx y z\n0000000000000000 0000000000000000 0000000000000000\n3ff0000000000000 0000000000000000 0000000000000000\n0000000000000000 3ff0000000000000 0000000000000000\nsize\n1\n"

-- P5 T, size 0
abbrev pub in_5 : String
in_5 = "triangles points size stop\n1 3 0000000000000000 0\nn0 n1 n2\n0 1 2\nx y z\n0000000000000000 0000000000000000 0000000000000000\n3ff0000000000000 0000000000000000 0000000000000000\n0000000000000000 3ff0000000000000 0000000000000000\n"

abbrev pub out_5 : String
out_5 = "front_empty attempts placement invalid_quad recovery region odd_region mismatch_insertions limit\n0 3 0 3 0 0 0 0 0\nquads triangles points components\n0 1 3 1\nn0 n1 n2 n3 u v round replaced\nn0 n1 n2\n0 1 2\nx y z\n0000000000000000 0000000000000000 0000000000000000\n3ff0000000000000 0000000000000000 0000000000000000\n0000000000000000 3ff0000000000000 0000000000000000\nsize\n1\n"

-- P6 T, size 8
abbrev pub in_6 : String
in_6 = "triangles points size stop\n1 3 4020000000000000 0\nn0 n1 n2\n0 1 2\nx y z\n0000000000000000 0000000000000000 0000000000000000\n3ff0000000000000 0000000000000000 0000000000000000\n0000000000000000 3ff0000000000000 0000000000000000\n"

abbrev pub out_6 : String
out_6 = "front_empty attempts placement invalid_quad recovery region odd_region mismatch_insertions limit\n0 3 3 0 0 0 0 0 0\nquads triangles points components\n0 1 3 1\nn0 n1 n2 n3 u v round replaced\nn0 n1 n2\n0 1 2\nx y z\n0000000000000000 0000000000000000 0000000000000000\n3ff0000000000000 0000000000000000 0000000000000000\n0000000000000000 3ff0000000000000 0000000000000000\nsize\n1\n"

-- P7 T given twice
abbrev pub in_7 : String
in_7 = "triangles points size stop\n2 3 3ff0000000000000 0\nn0 n1 n2\n0 1 2\n0 1 2\nx y z\n0000000000000000 0000000000000000 0000000000000000\n3ff0000000000000 0000000000000000 0000000000000000\n0000000000000000 3ff0000000000000 0000000000000000\n"

abbrev pub out_7 : String
out_7 = "front_empty attempts placement invalid_quad recovery region odd_region mismatch_insertions limit\n1 0 0 0 0 0 0 0 0\nquads triangles points components\n0 2 3 1\nn0 n1 n2 n3 u v round replaced\nn0 n1 n2\n0 1 2\n0 1 2\nx y z\n0000000000000000 0000000000000000 0000000000000000\n3ff0000000000000 0000000000000000 0000000000000000\n0000000000000000 3ff0000000000000 0000000000000000\nsize\n2\n"

-- P8 size 1/128: refused with 2
abbrev pub in_8 : String
in_8 = "triangles points size stop\n1 3 3f80000000000000 0\nn0 n1 n2\n0 1 2\nx y z\n0000000000000000 0000000000000000 0000000000000000\n3ff0000000000000 0000000000000000 0000000000000000\n0000000000000000 3ff0000000000000 0000000000000000\n"

abbrev pub out_8 : String
out_8 = "refused\n2\n"

-- P9 rule 2: refused with 3
abbrev pub in_9 : String
in_9 = "triangles points size stop\n1 3 3ff0000000000000 2\nn0 n1 n2\n0 1 2\nx y z\n0000000000000000 0000000000000000 0000000000000000\n3ff0000000000000 0000000000000000 0000000000000000\n0000000000000000 3ff0000000000000 0000000000000000\n"

abbrev pub out_9 : String
out_9 = "refused\n3\n"

-- P10 T naming node 3: refused with 5
abbrev pub in_10 : String
in_10 = "triangles points size stop\n1 3 3ff0000000000000 0\nn0 n1 n2\n0 1 3\nx y z\n0000000000000000 0000000000000000 0000000000000000\n3ff0000000000000 0000000000000000 0000000000000000\n0000000000000000 3ff0000000000000 0000000000000000\n"

abbrev pub out_10 : String
out_10 = "refused\n5\n"

-- P11 the root of 4 is 2
abbrev pub root_of_4 : Float
root_of_4 = sqrt (f64 0x4010000000000000)

-- what the definition gives, and what the table says
abbrev pub P : List (Bytes × Bytes)
P =
    (reply (bytes in_1), bytes out_1)
    ∷ (reply (bytes in_2), bytes out_2)
    ∷ (reply (bytes in_3), bytes out_3)
    ∷ (reply (bytes in_4), bytes out_4)
    ∷ (reply (bytes in_5), bytes out_5)
    ∷ (reply (bytes in_6), bytes out_6)
    ∷ (reply (bytes in_7), bytes out_7)
    ∷ (reply (bytes in_8), bytes out_8)
    ∷ (reply (bytes in_9), bytes out_9)
    ∷ (reply (bytes in_10), bytes out_10)
    ∷ (show_bits (to_bits binary64 root_of_4), bytes "4000000000000000")
    ∷ []

pub table_P : map (λ r. r.0) P ≡ map (λ r. r.1) P
unfolding opened
table_P = refl
