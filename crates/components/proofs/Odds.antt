-- The odd test over the sweep: as long as every component taken is even it goes on.
use Rattle.std.specs.Prelude.{◌≡◌, ◌≢◌, ◌+◌, ◌-◌, ◌%◌, ◌≤◌, ◌∷◌, ◌++◌}
use Rattle.laws.specs.Kit.{refl, sym, ◌∙◌, ap, subst, inl, inr, true, false, ℕ, arith, List, [], map, append-nil, length, length-map}
use Rattle.definition.specs.Cells.{Tri, Live, Mesh}
use Rattle.definition.specs.Components.{removing_leaves_odd_component}
use Rattle.laws.specs.Lists.{In, in_map, Stored}
use Rattle.cells.specs.Layout.{list_at}
use Rattle.cells.specs.Rep.{slots, here}
use Rattle.cells.proofs.Slots.{rep_held}
use Rattle.regions.specs.Listing.{Listed, Aside}
use Rattle.regions.proofs.Listings.{aside_refl, aside_trans}
use Rattle.components.specs.Flood.{body, Marked, Taken, nothing, component}
use Rattle.components.specs.Odd.{OddTo}
use Rattle.components.proofs.Grows.{few}
use Rattle.components.proofs.Classes.{odd_yes, odd_no}
use Rattle.components.proofs.Sweeps.{joined, Sweeping, sweep_on, sweep_new, sweep_length, left_tris, left_distinct, piece_class, piece_count, swept}

-- the components taken are even
pub record Evens (w₀ w : List ℕ) (s p k i : ℕ) (m : Mesh) (region : List Live) : Type 0 where
  pub pieces : List (List Live)
  pub sweep : Sweeping w₀ w s p k i m region pieces
  pub even : (x : List Live) → In x pieces → length x % 2 ≡ 0

pub evens_start : {w : List ℕ} {s p n : ℕ} {m : Mesh} {region : List Live} → Marked w s p n m region → Evens w w s p n 0 m region
evens_start {w} {s} {p} {region = region} h =
    record {
      pieces = [];
      sweep = record { state = rw (append-nil region) h; aside = aside_refl w s p; pieces = λ k i. absurd i; past = λ y i t l. absurd (omega arith) };
      even = λ x i. absurd i;
    }

stored_left : (w : List ℕ) (b : ℕ) (l k : List Live) → Stored w b (slots (l ++ k)) → Stored w b (slots l)
stored_left w b [] k h = tt
stored_left w b (x ∷ l) k h = (h.0, stored_left w (b + 1) l k h.1)

-- the region is still listed
pub kept_listed : {w₀ w : List ℕ} {s p n k : ℕ} {m : Mesh} {region xs : List Live} (rest : List Live) → Listed w₀ s p n m region → Marked w s p k m xs → xs ≡ region ++ rest → Listed w s p n m region
kept_listed {w = w} {s} {p} {region = region} rest h g e =
    record {
      rep = g.rep;
      len = h.len;
      many = h.many;
      distinct = h.distinct;
      live = h.live;
      tris = h.tris;
      stored = stored_left w (list_at s p) region rest (subst (λ (l : List Live). Stored w (list_at s p) (slots l)) e g.stored);
    }

pub one_odd : (n : ℕ) → n % 2 ≢ 0 → n % 2 ≡ 1
one_odd n h = let f : n % 2 ≢ 0 = h in omega arith

module _ {w₀ w : List ℕ} {s p k i : ℕ} {m : Mesh} {region : List Live} (g : Evens w₀ w s p k i m region) where
  pub evens_few : k ≤ s
  evens_few = omega (arith, few g.sweep.state, g.sweep.state.rep.used)

  pub taken_least : {w' : List ℕ} {r : ℕ} → Taken w w' s p k r i m (region ++ joined g.pieces) → (k ≤ r) × (r ≤ s)
  taken_least (nothing e h a f) = (omega (arith, e), omega (arith, e, evens_few))
  taken_least (component x e f) =
      (omega (arith, sweep_length g.sweep e f), omega (arith, few f.state, f.state.rep.used))

  pub evens_on : {w' : List ℕ} {r : ℕ} → Taken w w' s p k r i m (region ++ joined g.pieces) → (r - k) % 2 ≡ 0 → Evens w₀ w' s p r (i + 1) m region
  evens_on {w'} (nothing e h a f) q =
      record { pieces = g.pieces; sweep = subst (λ (v : ℕ). Sweeping w₀ w' s p v (i + 1) m region g.pieces) (sym e) (sweep_on g.sweep h a f); even = g.even }
  evens_on {r = r} (component x e f) q =
      let n : r - k ≡ length f.new = omega (arith, sweep_length g.sweep e f) in
      record {
        pieces = f.new ∷ g.pieces;
        sweep = sweep_new g.sweep e f;
        even = λ y j. elim j [ inl z ↦ ap (λ (v : List Live). length v % 2) z ∙ ap (λ (v : ℕ). v % 2) (sym n) ∙ q | inr z ↦ g.even y z ];
      }

  -- an odd component
  pub odd_found : {w' : List ℕ} {r : ℕ} → Taken w w' s p k r i m (region ++ joined g.pieces) → (r - k) % 2 ≢ 0 → {w1 : List ℕ} {n : ℕ} → Listed w1 s p n m region → Aside w1 w₀ s p
      → OddTo w1 w' s p n m region true
  unfolding removing_leaves_odd_component
  odd_found {r = r} (nothing e h a f) q l b = absurd (q (let z : r - k ≡ 0 = omega (arith, e) in rw z refl))
  odd_found {w'} {r} (component x e f) q {w1} {n} l b =
      let c = sweep_new g.sweep e f in
      let z : r - k ≡ length (map body f.new) = omega (arith, sweep_length g.sweep e f, length-map f.new body) in
      record {
        same = sym (odd_yes (left_tris m region) (left_distinct c) (map body f.new)
            (piece_class c f.new (inl refl))
            (piece_count c f.new (inl refl))
            (ap (λ (v : ℕ). v % 2) (sym z) ∙ one_odd (r - k) q));
        list = kept_listed (joined (f.new ∷ g.pieces)) l c.state refl;
        aside = aside_trans w1 w₀ w' s p b c.aside;
      }

  -- none is odd
  pub none_odd : m.used ≤ i → {w1 : List ℕ} {n : ℕ} → Listed w1 s p n m region → Aside w1 w₀ s p → OddTo w1 w s p n m region false
  unfolding removing_leaves_odd_component
  none_odd u {w1} {n} l a =
      record {
        same = sym (odd_no (left_tris m region) (left_distinct g.sweep) (map (map body) g.pieces)
            (swept g.sweep u)
            (λ x j. let r = in_map (map body) x g.pieces j in ap (λ (v : List Tri). length v % 2) r.2 ∙ ap (λ (v : ℕ). v % 2) (length-map r.0 body) ∙ g.even r.0 r.1));
        list = kept_listed (joined g.pieces) l g.sweep.state refl;
        aside = aside_trans w1 w₀ w s p a g.sweep.aside;
      }

-- ---- where it is noted that none is odd

-- a listed cell has a slot
pub listed_slot : {w : List ℕ} {s p n : ℕ} {m : Mesh} {xs : List Live} → Listed w s p n m xs → 1 ≤ s
listed_slot {xs = []} h = absurd (omega (arith, h.many, h.len))
listed_slot {w} {s} {p} {m = m} {xs = x ∷ xs} h = omega (arith, (rep_held w s p m h.rep (h.live x here)).inside, h.rep.used)
