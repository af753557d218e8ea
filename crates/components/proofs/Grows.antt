-- One triangle more listed and marked.
use Rattle.std.specs.Prelude.{◌≡◌, ◌≢◌, ◌+◌, ◌*◌, ◌<◌, ◌≤◌, ◌∷◌, ◌++◌}
use Rattle.laws.specs.Kit.{refl, sym, ◌∙◌, ap, subst, inl, inr, Bool, true, false, cond, ℕ, arith, eqb, List, [], length, get_or, length-append}
use Rattle.rings.specs.Rings.{Out, Below}
use Rattle.rings.proofs.Lists.{distinct_snoc, below_append, room}
use Rattle.definition.specs.Lists.{any}
use Rattle.definition.specs.Cells.{Live, Mesh, live_tri, in_slot}
use Rattle.laws.specs.Lists.{In, in_either, stored_kept, stored_snoc}
use Rattle.laws.specs.Bools.{not_marked}
use Rattle.cells.specs.Layout.{marks_at, list_at}
use Rattle.cells.specs.Rep.{Held, slots}
use Rattle.cells.specs.Walk.{CanSee}
use Rattle.cells.proofs.Corners.{slots_append}
use Rattle.cells.proofs.Slots.{rep_held, rep_see, slots_length, in_has}
use Rattle.cells.proofs.Fronts.{held_tri}
use Rattle.cells.proofs.Frames.{rep_under}
use Rattle.regions.specs.Listing.{CanList, Aside}
use Rattle.regions.proofs.Listings.{all_below, any_out, tris_snoc}
use Rattle.regions.proofs.Reaches.{appended, appended_other, appended_aside, appended_last, appended_marks}
use Rattle.components.specs.Flood.{Marked, Seen}
use Rattle.components.proofs.Members.{has_in, any_has, same_slot}

-- each of them is in a slot below n
below_all : (n : ℕ) (l : List Live) → ((x : Live) → In x l → x.slot < n) → Below n (slots l)
below_all n l h = all_below n l (λ x k. h x (has_in x l k))

module _ {w : List ℕ} {s p n : ℕ} {m : Mesh} {xs : List Live} (h : Marked w s p n m xs) where
  pub marked_below : Below m.used (slots xs)
  marked_below = below_all m.used xs (λ x k. (rep_held w s p m h.rep (in_has x m.live (h.live x k))).inside)

  -- no more cells than slots given out
  pub few : n ≤ m.used
  few = omega (arith, room m.used (slots xs) h.distinct marked_below, slots_length xs, h.len)

  pub can_list : (i : ℕ) → i < s → CanList w s p i
  can_list i k = record { fits = omega (arith, h.rep.room.fits); small = h.rep.room.small; inside = k }

module _ (w : List ℕ) (s p n j : ℕ) (m : Mesh) (xs : List Live) (x : Live) (h : Seen w s p n j m xs x) where
  held : Held w s m.used (length m.points) x
  held = rep_held w s p m h.state.rep (in_has x m.live h.live)

  pub inside : j < s
  inside = omega (arith, h.slot, held.inside, h.state.rep.used)

  marked_so : get_or w (marks_at s p + j) 0 ≡ cond (any (in_slot x.slot) xs) 1 0
  marked_so = rw h.slot (h.state.marks x.slot held.inside)

  pub fresh : get_or w (marks_at s p + j) 0 ≡ 0 → Out x.slot (slots xs)
  fresh z = any_out x.slot xs (not_marked (any (in_slot x.slot) xs) (sym marked_so ∙ z))

  pub known : get_or w (marks_at s p + j) 0 ≢ 0 → In x xs
  known z = go (any (in_slot x.slot) xs) refl
    where
      go : (b : Bool) → any (in_slot x.slot) xs ≡ b → In x xs
      go true q =
          let r = any_has x.slot xs q in
          subst (λ (v : Live). In v xs) (same_slot m.live r.0 x h.state.rep.distinct (h.state.live r.0 r.1) h.live r.2) r.1
      go false q = absurd (z (marked_so ∙ rw q))

  -- there is room for one more
  pub more : Out x.slot (slots xs) → n < s
  more o =
      let d = distinct_snoc (slots xs) x.slot h.state.distinct o in
      let b = below_append m.used (slots xs) (x.slot ∷ []) (marked_below h.state) ((held.inside, tt)) in
      omega (arith, room m.used (slots xs ++ x.slot ∷ []) d b, length-append (slots xs) (x.slot ∷ []), slots_length xs, h.state.len, h.state.rep.used)

  pub seen_can : CanList w s p j
  seen_can = can_list h.state j inside

  pub seen_room : Out x.slot (slots xs) → CanList w s p n
  seen_room o = can_list h.state n (more o)

  pub seen_see : CanSee w s j
  seen_see = rep_see w s p m h.state.rep j inside

  pub kind : eqb (get_or w j 0) 3 ≡ live_tri x
  kind = rw h.slot (held_tri w s m.used (length m.points) x held)

  -- the memory with it listed and marked
  pub record Grown : Type 0 where
    pub state : Marked (appended w s p n j) s p (n + 1) m (xs ++ x ∷ [])
    pub aside : Aside w (appended w s p n j) s p
    -- places behind it in the list stay
    pub behind : (i : ℕ) → n < i → i < s → get_or (appended w s p n j) (list_at s p + i) 0 ≡ get_or w (list_at s p + i) 0

  pub grown : Out x.slot (slots xs) → live_tri x ≡ true → Grown
  grown o t = record { state = state; aside = aside; behind = λ i a b. appended_other w s p n j (list_at s p + i) (λ q. omega arith) (λ q. omega (arith, inside)) }
    where
      w' : List ℕ
      w' = appended w s p n j

      js : j < s
      js = inside

      ns : n < s
      ns = more o

      fits : 64 * s + 8 * p ≤ length w
      fits = h.state.rep.room.fits

      aside : Aside w w' s p
      aside = appended_aside w s p n j js ns fits

      live : (y : Live) → In y (xs ++ x ∷ []) → In y m.live
      live y i = elim (in_either y xs (x ∷ []) i) [
        | inl k ↦ h.state.live y k
        | inr (inl e) ↦ subst (λ (v : Live). In v m.live) (sym e) h.live
        | inr (inr k) ↦ absurd k
      ]

      state : Marked w' s p (n + 1) m (xs ++ x ∷ [])
      state =
          record {
            rep = rep_under w w' s p aside.under m h.state.rep;
            len = omega (arith, length-append xs (x ∷ []), h.state.len);
            distinct = rw (slots_append xs (x ∷ [])) (distinct_snoc (slots xs) x.slot h.state.distinct o);
            live = live;
            tris = tris_snoc xs x h.state.tris t;
            stored = rw (slots_append xs (x ∷ []))
                (stored_snoc w' (list_at s p) x.slot (slots xs)
                (stored_kept w w' (list_at s p) (slots xs) (λ i a b. appended_other w s p n j i (λ y. omega (arith, h.state.len, slots_length xs)) (λ y. omega (arith, js))) h.state.stored)
                (let y : list_at s p + length (slots xs) ≡ list_at s p + n = omega (arith, h.state.len, slots_length xs) in ap (λ (v : ℕ). get_or w' v 0) y ∙ appended_last w s p n j js ns fits ∙ h.slot));
            marks = appended_marks w s p n j js ns fits m.used h.state.rep.used xs x h.slot h.state.marks;
          }
