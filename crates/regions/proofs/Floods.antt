-- The flood, triangle after triangle: done are those crossed, as many as `head`;
-- the fuel is never at its end while one is left.
use Rattle.std.specs.Prelude.{◌≡◌, ◌+◌, ◌<◌, ◌≤◌, ◌∷◌, ◌++◌}
use Rattle.std.specs.Prelude.{None, Some}
use Rattle.laws.specs.Kit.{refl, sym, ◌∙◌, ap, subst, true, false≢true, Option, none, some, ℕ, zero, suc, arith, List, [], append-nil, append_assoc, length, get_or, length-append}
use Rattle.definition.specs.Plane.{Edge}
use Rattle.definition.specs.Cells.{Cell, tri, quad, Live, Mesh, live_tri, is_tri, new_live}
use Rattle.definition.specs.Region.{reach_all, across, flood}
use Rattle.laws.specs.Lists.{Stored}
use Rattle.cells.specs.Layout.{list_at}
use Rattle.cells.specs.Rep.{Has, here, there, TriIn, slots}
use Rattle.regions.specs.Listing.{Tris, Listed, State, CanList, Aside, Reached}
use Rattle.regions.specs.Flood.{tri_live}
use Rattle.regions.proofs.Listings.{aside_trans, few, can_list}
use Rattle.regions.proofs.Visits.{and_then, mid}

-- ---- a cell of the list, behind those of done

-- y is the triangle in slot j
pub record Top (m : Mesh) (j : ℕ) (y : Live) : Type 0 where
  pub tri : TriIn m j
  pub is : y ≡ tri_live j tri.t

top_of : (m : Mesh) (j : ℕ) (y : Live) → Has y m.live → live_tri y ≡ true → j ≡ y.slot → Top m j y
unfolding live_tri is_tri new_live
top_of m j y h l e = go y.cell refl
  where
    go : (c : Cell) → y.cell ≡ c → Top m j y
    go (tri t) q =
        let z : y ≡ new_live j (tri t) = ap (λ (c : Cell). new_live y.slot c) q ∙ ap (λ (k : ℕ). new_live k (tri t)) (sym e) in
        record { tri = record { t = t; has = subst (λ (v : Live). Has v m.live) z h }; is = z }
    go (quad t) q = absurd (false≢true (sym (ap is_tri q) ∙ l))

has_at : (done : List Live) (y : Live) (todo : List Live) → Has y (done ++ y ∷ todo)
has_at [] y todo = here
has_at (x ∷ done) y todo = there (has_at done y todo)

tri_at : (done : List Live) (y : Live) (todo : List Live) → Tris (done ++ y ∷ todo) → live_tri y ≡ true
tri_at [] y todo h = h.0
tri_at (x ∷ done) y todo h = tri_at done y todo h.1

pub stored_at : (w : List ℕ) (b : ℕ) (done : List Live) (y : Live) (todo : List Live) → Stored w b (slots (done ++ y ∷ todo)) → get_or w (b + length done) 0 ≡ y.slot
stored_at w b [] y todo h = let z : b + 0 ≡ b = omega arith in ap (λ (i : ℕ). get_or w i 0) z ∙ h.0
stored_at w b (x ∷ done) y todo h = let z : b + suc (length done) ≡ b + 1 + length done = omega arith in ap (λ (i : ℕ). get_or w i 0) z ∙ stored_at w (b + 1) done y todo h.1

pub top_at : (w : List ℕ) (s p n : ℕ) (m : Mesh) (done : List Live) (y : Live) (todo : List Live) → Listed w s p n m (done ++ y ∷ todo)
    → (j : ℕ) → j ≡ get_or w (list_at s p + length done) 0 → Top m j y
top_at w s p n m done y todo h j e =
    top_of m j y (h.live y (has_at done y todo)) (tri_at done y todo h.tris) (e ∙ stored_at w (list_at s p) done y todo h.stored)

-- ---- one triangle crossed

flood_step : (k : ℕ) (m : Mesh) (sides : List Edge) (done : List Live) (y : Live) (todo : List Live)
    → flood (suc k) m sides done (y ∷ todo) ≡ and_then (reach_all (done ++ y ∷ []) todo (across m sides y)) (λ t. flood k m sides (done ++ y ∷ []) t)
unfolding flood
flood_step k m sides done y todo = go (reach_all (done ++ y ∷ []) todo (across m sides y))
  where
    go : (o : Option (List Live)) → elim o [ none ↦ none | some t ↦ flood k m sides (done ++ y ∷ []) t ] ≡ and_then o (λ t. flood k m sides (done ++ y ∷ []) t)
    go none = refl
    go (some t) = refl

flood_empty : (k : ℕ) (m : Mesh) (sides : List Edge) (done : List Live) → flood k m sides done [] ≡ some done
unfolding flood
flood_empty zero m sides done = refl
flood_empty (suc k) m sides done = refl

-- the state of the flood so far
pub record Flooding (w₀ w : List ℕ) (s p n head : ℕ) (m : Mesh) (sides : List Edge) (whole : Option (List Live)) : Type 0 where
  pub fuel : ℕ
  pub done : List Live
  pub todo : List Live
  pub state : State w s p n m (done ++ todo)
  pub aside : Aside w₀ w s p
  pub at : head ≡ length done
  pub enough : m.used ≤ fuel + head
  pub same : whole ≡ flood fuel m sides done todo

pub flood_start : (w₀ w : List ℕ) (s p : ℕ) (m : Mesh) (sides : List Edge) (x : Live) → Aside w₀ w s p → State w s p 1 m (x ∷ [])
    → Flooding w₀ w s p 1 0 m sides (flood m.used m sides [] (x ∷ []))
flood_start w₀ w s p m sides x a h =
    record { fuel = m.used; done = []; todo = x ∷ []; state = h; aside = a; at = refl; enough = omega arith; same = refl }

-- the triangle in slot j taken from the front
pub record Popped (w : List ℕ) (s p n head j : ℕ) (m : Mesh) (sides : List Edge) (whole : Option (List Live)) : Type 0 where
  pub tri : TriIn m j
  pub fuel : ℕ
  pub done : List Live
  pub todo : List Live
  pub state : State w s p n m (done ++ todo)
  pub at : head + 1 ≡ length done
  pub enough : m.used ≤ fuel + (head + 1)
  pub same : whole ≡ and_then (reach_all done todo (across m sides (tri_live j tri.t))) (λ t. flood fuel m sides done t)

module _ (w₀ w : List ℕ) (s p n head : ℕ) (m : Mesh) (sides : List Edge) (whole : Option (List Live)) where
  popped_at : (j fuel : ℕ) (done todo : List Live) → State w s p n m (done ++ todo) → head ≡ length done → m.used ≤ fuel + head → whole ≡ flood fuel m sides done todo → head < n
      → j ≡ get_or w (list_at s p + head) 0 → Popped w s p n head j m sides whole
  popped_at j zero done todo h a e f l q = absurd (omega (arith, few h.list))
  popped_at j (suc k) done [] h a e f l q = absurd (omega (arith, h.list.len, length-append done []))
  popped_at j (suc k) done (y ∷ todo) h a e f l q =
      let t = top_at w s p n m done y todo h.list j (q ∙ ap (λ (i : ℕ). get_or w (list_at s p + i) 0) a) in
      record {
        tri = t.tri;
        fuel = k;
        done = done ++ y ∷ [];
        todo = todo;
        state = rw (append_assoc done (y ∷ []) todo) h;
        at = omega (arith, length-append done (y ∷ []));
        enough = omega arith;
        same = f ∙ flood_step k m sides done y todo ∙ ap (λ (z : Live). and_then (reach_all (done ++ y ∷ []) todo (across m sides z)) (λ r. flood k m sides (done ++ y ∷ []) r)) t.is;
      }

  ended_at : (fuel : ℕ) (done todo : List Live) → State w s p n m (done ++ todo) → Aside w₀ w s p → head ≡ length done → whole ≡ flood fuel m sides done todo → n ≤ head
      → Reached w₀ w s p m [] whole (Some n)
  ended_at fuel done [] h u a f l = rw (f ∙ flood_empty fuel m sides done) (record { state = subst (λ (xs : List Live). State w s p n m xs) (append-nil done) h; aside = u })
  ended_at fuel done (y ∷ todo) h u a f l = absurd (omega (arith, h.list.len, length-append done (y ∷ todo)))

  module _ (g : Flooding w₀ w s p n head m sides whole) where
    pub flood_few : n ≤ m.used
    flood_few = few g.state.list

    pub flood_end : n ≤ head → Reached w₀ w s p m [] whole (Some n)
    flood_end l = ended_at g.fuel g.done g.todo g.state g.aside g.at g.same l

    module _ (l : head < n) where
      pub flood_can : CanList w s p head
      flood_can = can_list g.state.list head (omega (arith, few g.state.list, g.state.list.rep.used))

      module _ (j : ℕ) (q : j ≡ get_or w (list_at s p + head) 0) where
        pub popped : Popped w s p n head j m sides whole
        popped = popped_at j g.fuel g.done g.todo g.state g.at g.enough g.same l q

        abbrev over : Option (List Live)
        over = reach_all popped.done popped.todo (across m sides (tri_live j popped.tri.t))

        pub flood_failed : (w' : List ℕ) → Reached w w' s p m popped.done over None → Reached w₀ w' s p m [] whole None
        flood_failed w' f = go over popped.same f
          where
            go : (o : Option (List Live)) → whole ≡ and_then o (λ t. flood popped.fuel m sides popped.done t) → Reached w w' s p m popped.done o None → Reached w₀ w' s p m [] whole None
            go none e h = rw e (aside_trans w₀ w w' s p g.aside h)
            go (some t) e h = absurd h

        pub flood_on : (w' : List ℕ) (r : ℕ) → Reached w w' s p m popped.done over (Some r) → Flooding w₀ w' s p r (head + 1) m sides whole
        flood_on w' r f =
            let d = mid w w' s p m popped.done over r f in
            record {
              fuel = popped.fuel;
              done = popped.done;
              todo = d.now;
              state = d.state;
              aside = aside_trans w₀ w w' s p g.aside d.aside;
              at = popped.at;
              enough = popped.enough;
              same = popped.same ∙ ap (λ (o : Option (List Live)). and_then o (λ t. flood popped.fuel m sides popped.done t)) d.is;
            }
