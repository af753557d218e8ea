-- The flood, triangle after triangle: done are those whose edges were crossed, todo those still to come.
use Rattle.std.specs.Prelude.{◌≡◌, ◌≢◌, ◌⊎◌, ◌+◌, ◌<◌, ◌≤◌, ◌∷◌, ◌++◌}
use Rattle.laws.specs.Kit.{refl, sym, ◌∙◌, ap, subst, inl, inr, Bool, true, ℕ, arith, ne_eqb, List, [], append-nil, append_assoc, length, get_or, length-append}
use Rattle.rings.specs.Rings.{Out}
use Rattle.definition.specs.Cells.{Tri, Live, Mesh, live_tri, is_tri, new_live}
use Rattle.laws.specs.Bools.{never}
use Rattle.laws.specs.Lists.{In, in_left, in_right, in_either, Stored}
use Rattle.regions.proofs.Floods.{stored_at}
use Rattle.account.specs.Triangles.{Shares}
use Rattle.cells.specs.Layout.{list_at, marks_at}
use Rattle.cells.specs.Rep.{TriIn, slots}
use Rattle.cells.proofs.Slots.{tri_in, in_has}
use Rattle.regions.specs.Listing.{CanList, Aside}
use Rattle.regions.proofs.Listings.{aside_refl, aside_trans}
use Rattle.regions.proofs.Reaches.{appended}
use Rattle.components.specs.Flood.{body, tri_live, Whole, Reach, Marked, Seen, Met, Beside, Flooding, Flooded, Taken, nothing, component}
use Rattle.components.proofs.Members.{has_in, parts_apart, tris_at, live_is}
use Rattle.components.proofs.Grows.{few, can_list, fresh, known, kind, more, seen_can, seen_room, Grown, grown}

-- ---- a cell of the list

unfoldable pub tri_at : (m : Mesh) (j : ℕ) (y : Live) → In y m.live → live_tri y ≡ true → j ≡ y.slot → TriIn m j
tri_at m j y i t e =
    let z : y ≡ tri_live j (body y) = live_is y t ∙ ap (λ (k : ℕ). tri_live k (body y)) (sym e) in
    record { t = body y; has = in_has (tri_live j (body y)) m.live (subst (λ (v : Live). In v m.live) z i) }

pub tri_live_in : (m : Mesh) (i : ℕ) (t : TriIn m i) → In (tri_live i t.t) m.live
tri_live_in m i t = has_in (tri_live i t.t) m.live t.has

pub seen_tri : (w : List ℕ) (s p n i : ℕ) (m : Mesh) (xs : List Live) → Marked w s p n m xs → (t : TriIn m i) → Seen w s p n i m xs (tri_live i t.t)
unfolding new_live
seen_tri w s p n i m xs h t = record { state = h; live = tri_live_in m i t; slot = refl }

-- ---- the flood

pub flood_start : (w : List ℕ) (s p n : ℕ) (m : Mesh) (xs : List Live) (x : Live) → Marked w s p (n + 1) m (xs ++ x ∷ []) → Flooding w w s p (n + 1) n m xs x
flood_start w s p n m xs x h =
    record {
      done = [];
      todo = x ∷ [];
      state = h;
      aside = aside_refl w s p;
      at = omega (arith, h.len, length-append xs (x ∷ []));
      reach = record { first = inl refl; linked = λ c k y i. elim i [ inl e ↦ ap (λ (v : Live). c (body v)) e | inr j ↦ absurd j ]; closed = λ y z i. absurd i };
    }

-- the flood from the triangle in slot i begins
module _ {w : List ℕ} {s p n i : ℕ} {m : Mesh} {xs : List Live} (h : Marked w s p n m xs) (t : TriIn m i) (o : Out i (slots xs)) where
  pub begin_can : CanList w s p n × CanList w s p i
  unfolding new_live
  begin_can = (seen_room w s p n i m xs (tri_live i t.t) (seen_tri w s p n i m xs h t) o, seen_can w s p n i m xs (tri_live i t.t) (seen_tri w s p n i m xs h t))

  pub begin_more : n < s
  unfolding new_live
  begin_more = more w s p n i m xs (tri_live i t.t) (seen_tri w s p n i m xs h t) o

  pub begun : Grown w s p n i m xs (tri_live i t.t) (seen_tri w s p n i m xs h t)
  unfolding new_live live_tri is_tri
  begun = grown w s p n i m xs (tri_live i t.t) (seen_tri w s p n i m xs h t) o refl

  -- in the memory that it left
  module _ {w1 : List ℕ} (e : w1 ≡ appended w s p n i) where
    pub begun_state : Marked w1 s p (n + 1) m (xs ++ tri_live i t.t ∷ [])
    begun_state = subst (λ (v : List ℕ). Marked v s p (n + 1) m (xs ++ tri_live i t.t ∷ [])) (sym e) begun.state

    pub begun_flood : Flooding w1 w1 s p (n + 1) n m xs (tri_live i t.t)
    begun_flood = flood_start w1 s p n m xs (tri_live i t.t) begun_state

    pub flooded_from : {w2 : List ℕ} {r : ℕ} → Flooded w1 w2 s p r m xs (tri_live i t.t) → Flooded w w2 s p r m xs (tri_live i t.t)
    flooded_from {w2} f =
        record {
          new = f.new;
          state = f.state;
          aside = aside_trans w w1 w2 s p (subst (λ (v : List ℕ). Aside w v s p) (sym e) begun.aside) f.aside;
          reach = f.reach;
        }

-- the triangle y taken from the front
pub record Popped (w₀ w : List ℕ) (s p k head : ℕ) (m : Mesh) (xs : List Live) (x : Live) (j : ℕ) : Type 0 where
  pub done : List Live
  pub y : Live
  pub todo : List Live
  pub state : Marked w s p k m (xs ++ (done ++ y ∷ todo))
  pub aside : Aside w₀ w s p
  pub at : head ≡ length xs + length done
  pub reach : Reach m xs x done (done ++ y ∷ todo)
  pub live : In y m.live
  pub is_tri : live_tri y ≡ true
  pub slot : j ≡ y.slot

module _ {w₀ w : List ℕ} {s p k head : ℕ} {m : Mesh} {xs : List Live} {x : Live} where
  pub flood_few : Flooding w₀ w s p k head m xs x → (k ≤ s)
  flood_few g = omega (arith, few g.state, g.state.rep.used)

  pub flood_can : Flooding w₀ w s p k head m xs x → head < k → CanList w s p head
  flood_can g l = can_list g.state head (omega (arith, few g.state, g.state.rep.used))

  pub popped : (g : Flooding w₀ w s p k head m xs x) → head < k → {j : ℕ} → j ≡ get_or w (list_at s p + head) 0 → Popped w₀ w s p k head m xs x j
  popped g l {j} q = go g.done g.todo g.state g.at g.reach
    where
      go : (done todo : List Live) → Marked w s p k m (xs ++ (done ++ todo)) → head ≡ length xs + length done → Reach m xs x done (done ++ todo)
          → Popped w₀ w s p k head m xs x j
      go done [] h a r = absurd (omega (arith, h.len, length-append xs (done ++ []), length-append done []))
      go done (y ∷ todo) h a r =
          let i : In y (xs ++ (done ++ y ∷ todo)) = in_right y xs (done ++ y ∷ todo) (in_right y done (y ∷ todo) (inl refl)) in
          let at : get_or w (list_at s p + length (xs ++ done)) 0 ≡ y.slot =
          stored_at w (list_at s p) (xs ++ done) y todo (subst (λ (v : List Live). Stored w (list_at s p) (slots v)) (sym (append_assoc xs done (y ∷ todo))) h.stored) in
          let e : head ≡ length (xs ++ done) = a ∙ sym (length-append xs done) in
          record {
            done = done;
            y = y;
            todo = todo;
            state = h;
            aside = g.aside;
            at = a;
            reach = r;
            live = h.live y i;
            is_tri = tris_at (xs ++ (done ++ y ∷ todo)) h.tris y i;
            slot = q ∙ ap (λ (v : ℕ). get_or w (list_at s p + v) 0) e ∙ at;
          }

  unfoldable pub flood_end : Flooding w₀ w s p k head m xs x → k ≤ head → Flooded w₀ w s p k m xs x
  flood_end g l =
      record {
        new = g.done ++ g.todo;
        state = g.state;
        aside = g.aside;
        reach =
            record {
              first = g.reach.first;
              linked = g.reach.linked;
              closed = λ y z i. g.reach.closed y z (in_done g.todo (omega (arith, g.state.len, length-append xs (g.done ++ g.todo), length-append g.done g.todo, g.at)) y i);
            };
      }
    where
      in_done : (todo : List Live) → length todo ≡ 0 → (y : Live) → In y (g.done ++ todo) → In y g.done
      in_done [] e y i = rw (append-nil g.done) at i
      in_done (z ∷ todo) e y i = absurd (omega (arith, e))

-- the triangles around it were met
module _ {w₀ w : List ℕ} {s p k head : ℕ} {m : Mesh} {xs : List Live} {x : Live} {j : ℕ} (b : Popped w₀ w s p k head m xs x j) where
  pub popped_tri : TriIn m j
  popped_tri = tri_at m j b.y b.live b.is_tri b.slot

  pub flood_on : {w' : List ℕ} {r : ℕ} → Met w w' s p r m (xs ++ (b.done ++ b.y ∷ b.todo)) (Beside popped_tri.t) → Flooding w₀ w' s p r (head + 1) m xs x
  unfolding popped_tri tri_at
  flood_on {w'} {r} f =
      record {
        done = b.done ++ b.y ∷ [];
        todo = b.todo ++ f.new;
        state = subst (λ (l : List Live). Marked w' s p r m (xs ++ l)) (sym parts) state;
        aside = aside_trans w₀ w w' s p b.aside f.aside;
        at = omega (arith, b.at, length-append b.done (b.y ∷ []));
        reach = subst (λ (l : List Live). Reach m xs x (b.done ++ b.y ∷ []) l) (sym parts)
            (record {
              first = in_left x ys f.new b.reach.first;
              linked = linked;
              closed = λ v z i. closed v z (in_either v b.done (b.y ∷ []) i);
            });
      }
    where
      ys : List Live
      ys = b.done ++ b.y ∷ b.todo

      parts : (b.done ++ b.y ∷ []) ++ (b.todo ++ f.new) ≡ ys ++ f.new
      parts = append_assoc b.done (b.y ∷ []) (b.todo ++ f.new) ∙ sym (append_assoc b.done (b.y ∷ b.todo) f.new)

      whole : (xs ++ ys) ++ f.new ≡ xs ++ (ys ++ f.new)
      whole = append_assoc xs ys f.new

      state : Marked w' s p r m (xs ++ (ys ++ f.new))
      state = subst (λ (l : List Live). Marked w' s p r m l) whole f.state

      outside : (z : Live) → In z (ys ++ f.new) → In z xs → ⊥
      outside z i l = parts_apart xs (ys ++ f.new) z state.distinct l i

      here : In b.y ys
      here = in_right b.y b.done (b.y ∷ b.todo) (inl refl)

      linked : (c : Tri → Bool) → Whole c m xs → (z : Live) → In z (ys ++ f.new) → c (body z) ≡ c (body x)
      linked c h z i = elim (in_either z ys f.new i) [
        | inl l ↦ b.reach.linked c h z l
        | inr l ↦
            let t : live_tri z ≡ true = tris_at (xs ++ (ys ++ f.new)) state.tris z (in_right z xs (ys ++ f.new) i) in
            let lives : In z m.live = state.live z (in_right z xs (ys ++ f.new) i) in
            sym (h b.y z b.live lives b.is_tri t (outside b.y (in_left b.y ys f.new here)) (outside z i) (f.from z l)) ∙ b.reach.linked c h b.y here
      ]

      closed : (v z : Live) → (In v b.done ⊎ In v (b.y ∷ [])) → In z m.live → live_tri z ≡ true → Shares (body v) (body z) → In z (xs ++ (ys ++ f.new))
      closed v z (inl i) l t h = subst (λ (u : List Live). In z u) whole (in_left z (xs ++ ys) f.new (b.reach.closed v z i l t h))
      closed v z (inr (inl e)) l t h =
          subst (λ (u : List Live). In z u) whole (f.all z l t (subst (λ (u : Live). Shares (body u) (body z)) e h))
      closed v z (inr (inr i)) l t h = absurd i

-- ---- a slot of the sweep

module _ (w : List ℕ) (s p n i : ℕ) (m : Mesh) (xs : List Live) (h : Marked w s p n m xs) where
  seen_slot : (y : Live) → In y m.live → y.slot ≡ i → Seen w s p n i m xs y
  seen_slot y l e = record { state = h; live = l; slot = sym e }

  pub taken_known : get_or w (marks_at s p + i) 0 ≢ 0 → Taken w w s p n n i m xs
  taken_known z = nothing refl h (aside_refl w s p) (λ y l t e. known w s p n i m xs y (seen_slot y l e) z)

  pub taken_other : get_or w i 0 ≢ 3 → Taken w w s p n n i m xs
  taken_other z =
      nothing refl h (aside_refl w s p) (λ y l t e. never (live_tri y) t (sym (kind w s p n i m xs y (seen_slot y l e)) ∙ ne_eqb (get_or w i 0) 3 z))

  module _ (z : get_or w (marks_at s p + i) 0 ≡ 0) (k : get_or w i 0 ≡ 3) (l : i < s) where
    pub slot_tri : TriIn m i
    slot_tri = tri_in w s p m h.rep i l k

    pub slot_out : Out i (slots xs)
    unfolding new_live
    slot_out = fresh w s p n i m xs (tri_live i slot_tri.t) (seen_tri w s p n i m xs h slot_tri) z

    pub taken_new : (w' : List ℕ) (r : ℕ) → Flooded w w' s p r m xs (tri_live i slot_tri.t) → Taken w w' s p n r i m xs
    unfolding new_live
    taken_new w' r f = component (tri_live i slot_tri.t) refl f
