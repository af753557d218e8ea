-- The number of triangles that a region leaves: where it is odd, some component is.
use Rattle.std.specs.Prelude.{◌≡◌, ◌≢◌, ◌+◌, ◌-◌, ◌%◌, ◌≤◌}
use Rattle.laws.specs.Kit.{refl, sym, ◌∙◌, ap, inl, inr, true, false, ℕ, arith, List, map, length, length-map}
use Rattle.definition.specs.Lists.{filter}
use Rattle.definition.specs.Cells.{Tri, Live, Mesh, live_tri, live_tris, tris_of}
use Rattle.definition.specs.Components.{odd_one, removing_leaves_odd_component}
use Rattle.laws.specs.Bools.{which}
use Rattle.account.specs.Classes.{AllDistinct}
use Rattle.cells.proofs.Slots.{in_has}
use Rattle.regions.specs.Listing.{Listed}
use Rattle.regions.proofs.Listings.{aside_refl}
use Rattle.components.specs.Flood.{body}
use Rattle.components.specs.Odd.{OddTo}
use Rattle.components.proofs.Members.{has_in, tris_at, body_three}
use Rattle.components.proofs.Classes.{number_all}
use Rattle.components.proofs.Sweeps.{left_tris, tris_body}
use Rattle.components.proofs.Beside.{closed_even, Some, live_three, left_three, split_number}

-- triangles without an odd component are an even number
even_total : (ts : List Tri) → AllDistinct ts → odd_one ts ≡ false → length ts % 2 ≡ 0
even_total ts d e = ap (λ (n : ℕ). n % 2) (sym (number_all ts)) ∙ closed_even ts d e (λ t. true) (λ s t i j q. refl)

live_total : (m : Mesh) → length (tris_of m.live) ≡ live_tris m
unfolding live_tris
live_total m = ap length (tris_body m.live) ∙ length-map (filter live_tri m.live) body

module _ (w : List ℕ) (s p n : ℕ) (m : Mesh) (xs : List Live) (h : Listed w s p n m xs) where
  some : Some m xs
  some =
      record {
        slots_differ = h.distinct;
        live = λ y i. has_in y m.live (h.live y (in_has y xs i));
        tris = tris_at xs h.tris;
      }

  -- those listed and those left are all
  total : n + length (left_tris m xs) ≡ live_tris m
  total =
      let a = split_number m h.rep.distinct xs some (λ t. true) in
      omega (arith, a, number_all (tris_of m.live), number_all (map body xs), number_all (left_tris m xs), length-map xs body, live_total m, h.len)

  pub listed_few : n ≤ live_tris m
  listed_few = omega (arith, total)

  -- an odd number is left
  pub odd_rest : (live : ℕ) → live ≡ live_tris m → (live - n) % 2 ≢ 0 → OddTo w w s p n m xs true
  unfolding removing_leaves_odd_component
  odd_rest live e o =
      record {
        same = sym (elim (which (odd_one (left_tris m xs))) [
          | inl y ↦ y
          | inr y ↦
              let z : live - n ≡ length (left_tris m xs) = omega (arith, e, total) in
              absurd (o (ap (λ (k : ℕ). k % 2) z ∙ even_total (left_tris m xs) (left_three m h.rep.distinct xs some (body_three w s p m h.rep)) y))
        ]);
        list = h;
        aside = aside_refl w s p;
      }

  -- an even number is left of a mesh without an odd component
  pub even_listed : (live : ℕ) → live ≡ live_tris m → (live - n) % 2 ≡ 0 → odd_one (tris_of m.live) ≡ false → n % 2 ≡ 0
  even_listed live e z y =
      let a : live % 2 ≡ 0 = ap (λ (k : ℕ). k % 2) (e ∙ sym (live_total m)) ∙ even_total (tris_of m.live) (live_three m (body_three w s p m h.rep)) y in
      let l : n ≤ live = omega (arith, e, listed_few) in omega (arith, a, z, l)
