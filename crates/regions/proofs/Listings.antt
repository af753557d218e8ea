-- The list and the marks: what one cell more changes, and how many cells there can be.
use Rattle.std.specs.Prelude.{◌≡◌, ◌||◌, ◌<◌, ◌≤◌, ◌∷◌, ◌++◌}
use Rattle.laws.specs.Kit.{refl, sym, ◌∙◌, Bool, true, false, false≢true, ℕ, arith, eqb, eq-eqb, ne_eqb, List, []}
use mathlib.Core.Bool.{or-false}
use Rattle.rings.specs.Rings.{Out, Below}
use Rattle.rings.proofs.Lists.{Same, same, differ, decide, room}
use Rattle.definition.specs.Lists.{any}
use Rattle.definition.specs.Cells.{Live, Mesh, live_tri, in_slot}
use Rattle.laws.specs.Frames.{under_refl, under_trans, keeps_refl, keeps_trans}
use Rattle.cells.specs.Layout.{mesh_end, refused_at}
use Rattle.cells.specs.Rep.{slots, Has, here, there}
use Rattle.cells.proofs.Slots.{rep_held, slots_length}
use Rattle.regions.specs.Listing.{Tris, Listed, CanList, Aside}

-- ---- what stays

pub aside_refl : (w : List ℕ) (s p : ℕ) → Aside w w s p
aside_refl w s p = record { under = under_refl w (mesh_end s p); keeps = keeps_refl w (refused_at s p) }

pub aside_trans : (w w1 w2 : List ℕ) (s p : ℕ) → Aside w w1 s p → Aside w1 w2 s p → Aside w w2 s p
aside_trans w w1 w2 s p a b =
    record { under = under_trans w w1 w2 (mesh_end s p) a.under b.under; keeps = keeps_trans w w1 w2 (refused_at s p) a.keeps b.keeps }

-- ---- lists of live cells

-- each of them is in a slot below n
pub all_below : (n : ℕ) (l : List Live) → ((x : Live) → Has x l → x.slot < n) → Below n (slots l)
all_below n [] h = tt
all_below n (x ∷ l) h = (h x here, all_below n l (λ y k. h y (there k)))

module _ {w : List ℕ} {s p n : ℕ} {m : Mesh} {xs : List Live} (h : Listed w s p n m xs) where
  pub listed_below : Below m.used (slots xs)
  listed_below = all_below m.used xs (λ x k. (rep_held w s p m h.rep (h.live x k)).inside)

  -- no more cells than slots given out
  pub few : n ≤ m.used
  few = omega (arith, room m.used (slots xs) h.distinct listed_below, slots_length xs, h.len)

  pub can_list : (i : ℕ) → i < s → CanList w s p i
  can_list i k = record { fits = omega (arith, h.rep.room.fits); small = h.rep.room.small; inside = k }

-- ---- membership by slots

pub any_out : (i : ℕ) (l : List Live) → any (in_slot i) l ≡ false → Out i (slots l)
unfolding any in_slot
any_out i [] h = tt
any_out i (x ∷ l) h = go (decide x.slot i) (any_out i l)
  where
    go : Same x.slot i → (any (in_slot i) l ≡ false → Out i (slots l)) → Out i (slots (x ∷ l))
    go (same q) r = absurd (false≢true (sym h ∙ rw (eq-eqb i x.slot (sym q))))
    go (differ q) r = (q, r (rw (ne_eqb i x.slot (λ e. q (sym e))) at h))

pub any_snoc : (i : ℕ) (l : List Live) (x : Live) → any (in_slot i) (l ++ x ∷ []) ≡ (any (in_slot i) l || eqb i x.slot)
unfolding any in_slot
any_snoc i [] x = or-false (eqb i x.slot)
any_snoc i (y ∷ l) x = go (eqb i y.slot) (any_snoc i l x)
  where
    go : (b : Bool) → any (in_slot i) (l ++ x ∷ []) ≡ (any (in_slot i) l || eqb i x.slot)
        → (b || any (in_slot i) (l ++ x ∷ [])) ≡ ((b || any (in_slot i) l) || eqb i x.slot)
    go true h = refl
    go false h = h

-- ---- one more

pub tris_snoc : (l : List Live) (x : Live) → Tris l → live_tri x ≡ true → Tris (l ++ x ∷ [])
tris_snoc [] x h t = (t, tt)
tris_snoc (y ∷ l) x h t = (h.0, tris_snoc l x h.1 t)

pub has_snoc : (P : Live → Type 0) (l : List Live) (x : Live) → ((y : Live) → Has y l → P y) → P x → (y : Live) → Has y (l ++ x ∷ []) → P y
has_snoc P [] x f k y (there h) = elim h [ ]
has_snoc P [] x f k y here = k
has_snoc P (z ∷ l) x f k y here = f z here
has_snoc P (z ∷ l) x f k y (there h) = has_snoc P l x (λ v e. f v (there e)) k y h
