-- How many there can be: live cells, quads and components, against the slots in use.
use Rattle.std.specs.Prelude.{◌≢◌, ◌+◌, ◌<◌, ◌≤◌, ◌∷◌}
use Rattle.laws.specs.Kit.{refl, ◌∙◌, ap, inl, inr, ℕ, arith, List, [], map, length, length-append, length-map}
use Rattle.definition.specs.Lists.{flat_map, below}
use Rattle.definition.specs.Numbers.{Settings}
use Rattle.definition.specs.Cells.{Tri, Cell, tri, quad, Live, Mesh, tri_of, tris_of, triangles}
use Rattle.definition.specs.Components.{component_sizes}
use Rattle.definition.specs.Front.{counting}
use Rattle.definition.specs.Account.{Pairwise, sum}
use Rattle.laws.specs.Lists.{In, all_from, in_map, no_more, numbers_length, below_in}
use Rattle.account.proofs.Rearranged.{same_length}
use Rattle.account.specs.Classes.{AllDistinct}
use Rattle.account.proofs.Sizes.{sizes_positive, sizes_sum}
use Rattle.account.proofs.Flips.{flip_used}
use Rattle.account.specs.Valid.{Slots, Valid}
use Rattle.account.proofs.QuadKeeps.{replaced_used}
use Rattle.account.proofs.Parity.{triangles_same}
use Rattle.account.proofs.Rooms.{split_used}
use Rattle.account.specs.Run.{Rule}

-- ---- live cells
slots_differ : (xs : List Live) → Slots xs → Pairwise (λ a b. a ≢ b) (map (λ (x : Live). x.slot) xs)
slots_differ [] h = tt
slots_differ (x ∷ xs) h = (all_from (map (λ (x : Live). x.slot) xs) (λ n i. let r = in_map (λ (x : Live). x.slot) n xs i in λ e. h.0 r.0 r.1 (e ∙ r.2)), slots_differ xs h.1)

-- cells in different slots below n are at most n
pub slots_number : (xs : List Live) (n : ℕ) → Slots xs → ((x : Live) → In x xs → x.slot < n) → length xs ≤ n
unfolding below
slots_number xs n h b =
    let slots = map (λ (x : Live). x.slot) xs in
    let k = no_more slots (below n) (slots_differ xs h) (λ v i. let r = in_map (λ (x : Live). x.slot) v xs i in below_in n v (let l = b r.0 r.1 in let e = r.2 in omega arith)) in
    omega (arith, k, length-map xs (λ (x : Live). x.slot), numbers_length 0 n)

-- the live cells are no more than the slots in use
pub live_number : (m : Mesh) → Valid m → length m.live ≤ m.used
live_number m ok = slots_number m.live m.used ok.slots ok.given

one_tri : (c : Cell) → length (tri_of c) ≤ 1
unfolding tri_of
one_tri (tri t) = omega arith
one_tri (quad q) = omega arith

-- a cell has at most one triangle
pub tris_number : (xs : List Live) → length (tris_of xs) ≤ length xs
unfolding tris_of flat_map
tris_number [] = omega arith
tris_number (x ∷ xs) = omega (arith, length-append (tri_of x.cell) (tris_of xs), one_tri x.cell, tris_number xs)

-- the leftover triangles are no more than the slots in use
pub triangles_number : (m : Mesh) → Valid m → length (triangles m) ≤ m.used
triangles_number m ok = omega (arith, same_length (tris_of m.live) (triangles m) (triangles_same m), tris_number m.live, live_number m ok)

-- ---- components
positive_sum : (ns : List ℕ) → ((n : ℕ) → In n ns → 0 < n) → length ns ≤ sum ns
unfolding sum
positive_sum [] h = omega arith
positive_sum (n ∷ ns) h = let a = h n (inl refl) in let b = positive_sum ns (λ k i. h k (inr i)) in omega arith

-- the components are no more than the triangles
pub sizes_number : (ts : List Tri) → AllDistinct ts → length (component_sizes ts) ≤ length ts
sizes_number ts d = omega (arith, positive_sum (component_sizes ts) (sizes_positive ts d), sizes_sum ts d)

-- ---- quads
-- every quad took a slot that no given triangle had
pub quads_rule : (s : Settings) (given : ℕ)
    → Rule s (λ st es. given + length st.quads ≤ st.mesh.used) (λ st es n m. given + length st.quads ≤ m.used) (λ st. given + length st.quads ≤ st.mesh.used)
unfolding counting
quads_rule s given = record {
  opens = λ st es ok h f. h;
  begins = λ st es h. h;
  flips = λ st es n m m' e ok h i f. omega (arith, flip_used m e m' f, h);
  splits = λ st es n m x t p ok h w. omega (arith, split_used m x.slot t p, h);
  refuses = λ st e es why n m h ok w. w;
  places = λ st e es n m q h w. omega (arith, ap (λ k. k.used) w.after, replaced_used w.mesh q w.cells, w.before.1, length-append st.quads (q ∷ []));
  ends = λ st e es n m h ok w. w;
  limits = λ st es h. h;
  empties = λ st h. h;
}
