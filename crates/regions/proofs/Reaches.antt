-- One cell reached.
use Rattle.std.specs.Prelude.{◌≡◌, ◌≢◌, ◌||◌, ◌+◌, ◌*◌, ◌<◌, ◌≤◌, ◌∷◌, ◌++◌}
use Rattle.std.specs.Prelude.{None, Some}
use Rattle.laws.specs.Kit.{sym, ◌∙◌, ap, subst, Bool, true, false, cond, ℕ, arith, eqb, eq-eqb, ne_eqb, List, [], append_assoc, length, get_or, set, length-set, length-append}
use mathlib.Core.Bool.{or-false, or-true}
use Rattle.rings.proofs.Lists.{Same, same, differ, decide, distinct_snoc, below_append, room}
use Rattle.definition.specs.Lists.{any}
use Rattle.definition.specs.Cells.{Live, Mesh, live_tri, in_slot, among}
use Rattle.definition.specs.Region.{reach}
use Rattle.laws.specs.Lists.{stored_kept, stored_snoc}
use Rattle.laws.specs.Frames.{on, off}
use Rattle.laws.specs.Bools.{not_marked, marked as was_marked}
use Rattle.cells.specs.Layout.{marks_at, list_at}
use Rattle.cells.specs.Rep.{Held, slots, Has}
use Rattle.cells.specs.Walk.{CanSee}
use Rattle.cells.proofs.Corners.{slots_append}
use Rattle.cells.proofs.Slots.{rep_held, rep_see, slots_length}
use Rattle.cells.proofs.Fronts.{held_tri}
use Rattle.cells.proofs.Frames.{rep_under}
use Rattle.regions.specs.Listing.{Listed, State, CanList, Seen, Aside, Grown, Reached}
use Rattle.regions.proofs.Listings.{aside_refl, listed_below, can_list, any_out, any_snoc, tris_snoc, has_snoc}

-- slot j appended to the list of n, and marked
abbrev pub appended : List ℕ → ℕ → ℕ → ℕ → ℕ → List ℕ
appended w s p n j = set (set w (marks_at s p + j) 1) (list_at s p + n) j

pub appended_other : (w : List ℕ) (s p n j i : ℕ) → i ≢ list_at s p + n → i ≢ marks_at s p + j → get_or (appended w s p n j) i 0 ≡ get_or w i 0
appended_other w s p n j i a b = off (set w (marks_at s p + j) 1) (list_at s p + n) j i a ∙ off w (marks_at s p + j) 1 i b

module _ (w : List ℕ) (s p n j : ℕ) (js : j < s) (ns : n < s) (fits : 64 * s + 8 * p ≤ length w) where
  pub appended_aside : Aside w (appended w s p n j) s p
  appended_aside =
      let len : length (appended w s p n j) ≡ length w = simp length-set in
      record {
        under = record { len = len; low = λ i l. appended_other w s p n j i (λ q. omega arith) (λ q. omega arith) };
        keeps = record { len = len; high = λ i l. appended_other w s p n j i (λ q. omega (arith, ns)) (λ q. omega (arith, js)) };
      }

  pub appended_last : get_or (appended w s p n j) (list_at s p + n) 0 ≡ j
  appended_last = on (set w (marks_at s p + j) 1) (list_at s p + n) j (simp length-set (omega (arith, fits, ns)))

  appended_mark : get_or (appended w s p n j) (marks_at s p + j) 0 ≡ 1
  appended_mark =
      off (set w (marks_at s p + j) 1) (list_at s p + n) j (marks_at s p + j) (λ q. omega (arith, js)) ∙ on w (marks_at s p + j) 1 (omega (arith, fits, js))

  -- the marks of the first k slots are those of the longer list
  pub appended_marks : (k : ℕ) → k ≤ s → (xs : List Live) (x : Live) → j ≡ x.slot → ((i : ℕ) → i < k → get_or w (marks_at s p + i) 0 ≡ cond (any (in_slot i) xs) 1 0)
      → (i : ℕ) → i < k → get_or (appended w s p n j) (marks_at s p + i) 0 ≡ cond (any (in_slot i) (xs ++ x ∷ [])) 1 0
  appended_marks k few xs x e h i l = rw (any_snoc i xs x) (go (decide i j))
    where
      go : Same i j → get_or (appended w s p n j) (marks_at s p + i) 0 ≡ cond (any (in_slot i) xs || eqb i x.slot) 1 0
      go (same q) = rw (eq-eqb i x.slot (q ∙ e))
          (ap (λ (y : ℕ). get_or (appended w s p n j) (marks_at s p + y) 0) q ∙ appended_mark ∙ ap (λ (t : Bool). cond t 1 0) (sym (or-true (any (in_slot i) xs))))
      go (differ q) = rw (ne_eqb i x.slot (λ y. q (y ∙ sym e)), or-false (any (in_slot i) xs))
          (appended_other w s p n j (marks_at s p + i) (λ y. omega (arith, l, few)) (λ y. q (omega arith)) ∙ h i l)

module _ (w : List ℕ) (s p n j : ℕ) (m : Mesh) (xs : List Live) (x : Live) (h : Seen w s p n j m xs x) where
  held : Held w s m.used (length m.points) x
  held = rep_held w s p m h.state.list.rep h.live

  pub inside : j < s
  inside = omega (arith, h.slot, held.inside, h.state.list.rep.used)

  marked_so : get_or w (marks_at s p + j) 0 ≡ cond (any (in_slot x.slot) xs) 1 0
  marked_so = rw h.slot (h.state.marks x.slot held.inside)

  pub fresh : get_or w (marks_at s p + j) 0 ≡ 0 → any (in_slot x.slot) xs ≡ false
  fresh z = not_marked (any (in_slot x.slot) xs) (sym marked_so ∙ z)

  pub known : get_or w (marks_at s p + j) 0 ≢ 0 → any (in_slot x.slot) xs ≡ true
  known z = was_marked (any (in_slot x.slot) xs) (λ q. z (marked_so ∙ q))

  -- there is room for one more
  pub more : get_or w (marks_at s p + j) 0 ≡ 0 → n < s
  more z =
      let o = any_out x.slot xs (fresh z) in
      let d = distinct_snoc (slots xs) x.slot h.state.list.distinct o in
      let b = below_append m.used (slots xs) (x.slot ∷ []) (listed_below h.state.list) ((held.inside, tt)) in
      omega (arith, room m.used (slots xs ++ x.slot ∷ []) d b, length-append (slots xs) (x.slot ∷ []), slots_length xs, h.state.list.len, h.state.list.rep.used)

  pub seen_can : CanList w s p j
  seen_can = can_list h.state.list j inside

  pub seen_room : get_or w (marks_at s p + j) 0 ≡ 0 → CanList w s p n
  seen_room z = can_list h.state.list n (more z)

  pub seen_see : CanSee w s j
  seen_see = rep_see w s p m h.state.list.rep j inside

  pub kind : eqb (get_or w j 0) 3 ≡ live_tri x
  kind = rw h.slot (held_tri w s m.used (length m.points) x held)

  pub grown : get_or w (marks_at s p + j) 0 ≡ 0 → live_tri x ≡ true → Grown w (appended w s p n j) s p (n + 1) m (xs ++ x ∷ [])
  grown z t = record { state = state; aside = aside }
    where
      w' : List ℕ
      w' = appended w s p n j

      js : j < s
      js = inside

      ns : n < s
      ns = more z

      fits : 64 * s + 8 * p ≤ length w
      fits = h.state.list.rep.room.fits

      aside : Aside w w' s p
      aside = appended_aside w s p n j js ns fits

      list : Listed w' s p (n + 1) m (xs ++ x ∷ [])
      list =
          record {
            rep = rep_under w w' s p aside.under m h.state.list.rep;
            len = omega (arith, length-append xs (x ∷ []), h.state.list.len);
            many = omega arith;
            distinct = rw (slots_append xs (x ∷ [])) (distinct_snoc (slots xs) x.slot h.state.list.distinct (any_out x.slot xs (fresh z)));
            live = has_snoc (λ y. Has y m.live) xs x h.state.list.live h.live;
            tris = tris_snoc xs x h.state.list.tris t;
            stored = rw (slots_append xs (x ∷ []))
                (stored_snoc w' (list_at s p) x.slot (slots xs)
                (stored_kept w w' (list_at s p) (slots xs) (λ i a b. appended_other w s p n j i (λ y. omega (arith, h.state.list.len, slots_length xs)) (λ y. omega (arith, js))) h.state.list.stored)
                (let y : list_at s p + length (slots xs) ≡ list_at s p + n = omega (arith, h.state.list.len, slots_length xs) in ap (λ (v : ℕ). get_or w' v 0) y ∙ appended_last w s p n j js ns fits ∙ h.slot));
          }

      state : State w' s p (n + 1) m (xs ++ x ∷ [])
      state = record { list = list; marks = appended_marks w s p n j js ns fits m.used h.state.list.rep.used xs x h.slot h.state.marks }

-- the answers of visit_one
module _ (w : List ℕ) (s p n j : ℕ) (m : Mesh) (done todo : List Live) (x : Live) (h : Seen w s p n j m (done ++ todo) x) where
  pub seen_known : get_or w (marks_at s p + j) 0 ≢ 0 → Reached w w s p m done (reach done todo x) (Some n)
  unfolding reach among
  seen_known z = rw (known w s p n j m (done ++ todo) x h z) (record { state = h.state; aside = aside_refl w s p })

  pub seen_other : get_or w (marks_at s p + j) 0 ≡ 0 → get_or w j 0 ≢ 3 → Reached w w s p m done (reach done todo x) None
  unfolding reach among
  seen_other z k =
      let t : live_tri x ≡ false = sym (kind w s p n j m (done ++ todo) x h) ∙ ne_eqb (get_or w j 0) 3 k in
      rw (fresh w s p n j m (done ++ todo) x h z, t) (aside_refl w s p)

  pub seen_new : get_or w (marks_at s p + j) 0 ≡ 0 → get_or w j 0 ≡ 3 → Reached w (appended w s p n j) s p m done (reach done todo x) (Some (n + 1))
  unfolding reach among
  seen_new z k =
      let t : live_tri x ≡ true = sym (kind w s p n j m (done ++ todo) x h) ∙ eq-eqb (get_or w j 0) 3 k in
      rw (fresh w s p n j m (done ++ todo) x h z, t)
      (subst (λ (l : List Live). Grown w (appended w s p n j) s p (n + 1) m l) (append_assoc done todo (x ∷ []))
      (grown w s p n j m (done ++ todo) x h z t))
