-- The mesh that a run starts from is valid.
use Rattle.std.specs.Prelude.{◌≡◌, ◌+◌, ◌<◌, ◌≤◌, ◌∷◌}
use Rattle.laws.specs.Kit.{refl, sym, ◌∙◌, ap, subst, inl, inr, Bool, ℕ, suc, arith, List, [], length}
use Rattle.definition.specs.Lists.{flat_map}
use Rattle.definition.specs.Numbers.{Settings}
use Rattle.definition.specs.Plane.{Edge, Node}
use Rattle.definition.specs.Cells.{Tri, tri, Live, new_live, tri_of, tris_of}
use Rattle.definition.specs.Front.{in_slots, new_mesh, start}
use Rattle.laws.specs.Lists.{In}
use Rattle.account.specs.Valid.{Slots, GoodTri, Valid}
use Rattle.account.proofs.Valid.{not_both}
use Rattle.account.specs.Start.{Proper}

-- a given triangle is in the slot of its place
pub in_slots_at : (n : ℕ) (ts : List Tri) (x : Live) → In x (in_slots n ts) → (n ≤ x.slot) × (x.slot < n + length ts) × ((t : Tri) × (x.cell ≡ tri t))
unfolding in_slots new_live
in_slots_at n [] x i = absurd i
in_slots_at n (t ∷ ts) x (inl e) = let f : x.slot ≡ n = ap (λ l. l.slot) e in (omega arith, omega arith, (t, ap (λ l. l.cell) e))
in_slots_at n (t ∷ ts) x (inr i) = let r = in_slots_at (suc n) ts x i in (omega arith, omega arith, r.2)

in_slots_apart : (n : ℕ) (ts : List Tri) → Slots (in_slots n ts)
unfolding in_slots new_live
in_slots_apart n [] = tt
in_slots_apart n (t ∷ ts) = (λ y i e. let r = in_slots_at (suc n) ts y i in omega arith, in_slots_apart (suc n) ts)

-- the triangles are the given ones
pub in_slots_tris : (n : ℕ) (ts : List Tri) → tris_of (in_slots n ts) ≡ ts
unfolding in_slots new_live tris_of flat_map tri_of
in_slots_tris n [] = refl
in_slots_tris n (t ∷ ts) = ap (λ l. t ∷ l) (in_slots_tris (suc n) ts)

-- the live triangles at the start of a run are the given ones
pub start_tris : (s : Settings) (lk : Edge → Bool) (ts : List Tri) (ps : List Node) → tris_of (start s lk ts ps).mesh.live ≡ ts
unfolding start new_mesh
start_tris s lk ts ps = in_slots_tris 0 ts

-- the mesh is valid
pub start_valid : (s : Settings) (lk : Edge → Bool) (ts : List Tri) (ps : List Node) → Proper ps ts → Valid (start s lk ts ps).mesh
unfolding start new_mesh
start_valid s lk ts ps h = record {
  slots = in_slots_apart 0 ts;
  given = λ x i. let r = in_slots_at 0 ts x i in omega arith;
  tris = λ t i. h t (subst (λ l. In t l) (in_slots_tris 0 ts) i);
  quads = λ x q i e. let r = (in_slots_at 0 ts x i).2 in not_both q r.0 (sym e ∙ r.1);
}
