-- What a flip keeps, and the turns of `recover`.
use mathlib.Core.Path.{◌≡◌, refl, ap, sym, ◌∙◌, subst}
use mathlib.Core.Bool.{Bool, true, false, cond}
use mathlib.Core.List.{List, [], ◌∷◌}
use mathlib.Core.Option.{Option, none, some}
use Prim.Native.Nat.{ℕ, suc, ◌+◌, ◌-◌, ◌≤◌, ◌<◌}
use native.Mathlib.Omega.{arith}
use lib.ListN.{length}
use lib.Ieee.{Float}
use Rattle.definition.specs.Plane.{Edge}
use Rattle.definition.specs.Cells.{Tri, Cell, tri, quad, Live, Event, was_flipped, Mesh, key, owners, has_edge, is_locked, noting, set_cell, with_live}
use Rattle.definition.specs.Trace.{entry, in_room}
use Rattle.definition.specs.Flips as defined
use Rattle.definition.specs.Flips.{third, convex_pair, set_tris, flipped, flip_tris, flip_cells, flip_owners, flip, first_crossing, flip_first, recover_in, recover}
use Rattle.laws.specs.Bools.{cond_ok, never}
use Rattle.laws.specs.Lists.{no_some}
use Rattle.cells.specs.Rep.{Rep}
use Rattle.cells.specs.Walk.{IsEdge}
use Rattle.cells.proofs.Edges.{key_up}
use Rattle.cells.proofs.Points.{pts_as}
use Rattle.flips.specs.Flip.{FlipTo, StaysBelow}
use Rattle.flips.specs.Nodes.{Up}
use Rattle.crossings.specs.Cross.{Known, Segment, FirstAt, NoneBelow}
use Rattle.traces.specs.Log.{Logged, Notes, Enters}
use Rattle.traces.proofs.Logs.{log_at, flip_length}
use Rattle.flips.specs.Recover.{Stands, FlipOnceTo, stuck, short, made, RecoverTo}
use Rattle.flips.specs.declared.flip.Turned.{Turned}
use Rattle.flips.specs.declared.flip.Turned.TheVariants.{Not, Short, Flipped}
use Rattle.flips.specs.declared.recover.Flipping.{Flipping}
use Rattle.flips.specs.declared.recover.Recovered.{Recovered}
use Rattle.flips.proofs.Notes.{flip_notes_up}

-- ---- points, slots, bucket and locked edges stay

pub record Kept (m m' : Mesh) : Type 0 where
  pub points : m'.points ≡ m.points
  pub used : m'.used ≡ m.used
  pub bucket : m'.bucket ≡ m.bucket
  pub locked : m'.locked ≡ m.locked

abbrev pub KeptBy : Mesh → Option Mesh → Type 0
KeptBy m none = Unit {0}
KeptBy m (some m') = Kept m m'

module _ (m : Mesh) (e : Edge) where
  turned_kept : (i j : ℕ) (s : Tri) (x y : ℕ) → Kept m (flipped m e i s j x y)
  unfolding flipped noting set_tris set_cell with_live
  turned_kept i j s x y = record { points = refl; used = refl; bucket = refl; locked = refl }

  tris_kept : (i j : ℕ) (s t : Tri) → KeptBy m (flip_tris m e i s j t)
  unfolding flip_tris
  tris_kept i j s t = go (convex_pair m e.0 e.1 (third s e) (third t e))
    where
      go : (b : Bool) → KeptBy m (cond b (some (flipped m e i s j (third s e) (third t e))) none)
      go true = turned_kept i j s (third s e) (third t e)
      go false = tt

  cells_kept : (i j : ℕ) (x y : Cell) → KeptBy m (flip_cells m e i x j y)
  unfolding flip_cells
  cells_kept i j (tri s) (tri t) = tris_kept i j s t
  cells_kept i j (tri s) (quad q) = tt
  cells_kept i j (quad q) c = tt

  owners_kept : (l : List Live) → KeptBy m (flip_owners m e l)
  unfolding flip_owners
  owners_kept [] = tt
  owners_kept (x ∷ []) = tt
  owners_kept (x ∷ y ∷ []) = cells_kept x.slot y.slot x.cell y.cell
  owners_kept (x ∷ y ∷ z ∷ l) = tt

  pub flip_kept : KeptBy m (flip m e)
  unfolding flip
  flip_kept = cond_ok (KeptBy m) (is_locked m e) none (flip_owners m e (owners m e)) (λ z. tt) (λ z. owners_kept (owners m e))

pub known_kept : (w w' : List ℕ) (q : List Float) (s p n : ℕ) (bucket : Float) (m m' : Mesh) → Known w q s p n bucket m → Kept m m' → Rep w' s p m' → Known w' q s p n bucket m'
known_kept w w' q s p n bucket m m' k e r =
    record {
      rep = r;
      pts = pts_as q p m m' (sym e.points) k.pts;
      count = ap length e.points ∙ k.count;
      side = e.bucket ∙ k.side;
    }

module _ (w : List ℕ) (q : List Float) (s p n : ℕ) (bucket : Float) (m : Mesh) (k : Known w q s p n bucket m) (u v : ℕ) where
  pub is_edge : Segment n u v → IsEdge p u v
  is_edge g = record { node = omega (arith, g.first, k.count, k.rep.points); apart = g.apart }

  pub is_up : (a b : ℕ) → FirstAt m n u v a b → Up p a b
  is_up a b g = record { node = omega (arith, g.up, g.known, k.count, k.rep.points); up = g.up }

-- ---- what a flip says

abbrev number : Turned → ℕ
number Not = 0
number Short = 1
number Flipped = 2

-- no edge was flipped
record Unturned (w : List ℕ) (s p : ℕ) (m : Mesh) (o : Option Mesh) : Type 0 where
  pub is : o ≡ none
  pub rep : Rep w s p m

-- without room for the entry
record Untraced (w : List ℕ) (s p : ℕ) (m : Mesh) (o : Option Mesh) (room : Bool) : Type 0 where
  pub mesh : Mesh
  pub is : o ≡ some mesh
  pub full : room ≡ false
  pub rep : Rep w s p m

-- with it
pub record Turning (w : List ℕ) (s p : ℕ) (m : Mesh) (o : Option Mesh) (room : Bool) : Type 0 where
  pub mesh : Mesh
  pub is : o ≡ some mesh
  pub free : room ≡ true
  pub rep : Rep w s p mesh

module _ (w : List ℕ) (s p : ℕ) (m : Mesh) where
  flip_not : (o : Option Mesh) (room : Bool) (r : Turned) → FlipTo w s p m o room r → r ≡ Not → Unturned w s p m o
  flip_not none room r h e = record { is = refl; rep = h.1 }
  flip_not (some m') true r h e = absurd (let z : number Not ≡ number Flipped = ap number (sym e ∙ h.0) in omega arith)
  flip_not (some m') false r h e = absurd (let z : number Not ≡ number Short = ap number (sym e ∙ h.0) in omega arith)

  flip_full : (o : Option Mesh) (room : Bool) (r : Turned) → FlipTo w s p m o room r → r ≡ Short → Untraced w s p m o room
  flip_full none room r h e = absurd (let z : number Short ≡ number Not = ap number (sym e ∙ h.0) in omega arith)
  flip_full (some m') true r h e = absurd (let z : number Short ≡ number Flipped = ap number (sym e ∙ h.0) in omega arith)
  flip_full (some m') false r h e = record { mesh = m'; is = refl; full = refl; rep = h.1 }

  pub flip_yes : (o : Option Mesh) (room : Bool) (r : Turned) → FlipTo w s p m o room r → r ≡ Flipped → Turning w s p m o room
  flip_yes none room r h e = absurd (let z : number Flipped ≡ number Not = ap number (sym e ∙ h.0) in omega arith)
  flip_yes (some m') true r h e = record { mesh = m'; is = refl; free = refl; rep = h.1 }
  flip_yes (some m') false r h e = absurd (let z : number Flipped ≡ number Short = ap number (sym e ∙ h.0) in omega arith)

-- ---- one flip

module _ (u v : ℕ) (m : Mesh) where
  first_none : first_crossing m u v ≡ none → flip_first m (first_crossing m u v) ≡ none
  unfolding flip_first
  first_none c = rw c

  pub first_some : (a b : ℕ) → a < b → first_crossing m u v ≡ some (a, b) → flip_first m (first_crossing m u v) ≡ flip m (key a b)
  unfolding flip_first
  first_some a b up c = (rw c) ∙ ap (flip m) (sym (key_up a b up))

  first_kept : (m' : Mesh) → flip_first m (first_crossing m u v) ≡ some m' → Kept m m'
  unfolding flip_first
  first_kept m' h = of (first_crossing m u v) h
    where
      of : (o : Option Edge) → flip_first m o ≡ some m' → Kept m m'
      of none h = no_some m' h
      of (some e) h = subst (λ (x : Option Mesh). KeptBy m x) h (flip_kept m e)

-- the room that was asked for is that of the mesh after the flip
abbrev pub FitsIs : List ℕ → List ℕ → ℕ → Bool → Type 0
FitsIs base t at room = (m m' : Mesh) (v : Event) → Logged base t at m → Notes v m m' → length (entry v) ≡ 3 → room ≡ in_room m'

module _ (w' : List ℕ) (q : List Float) (base t : List ℕ) (s p n : ℕ) (bucket : Float) (at u v : ℕ) (m : Mesh) (k : Known w' q s p n bucket m) (l : Logged base t at m)
    (r : Flipping) where
  stays : r.at ≡ at → (w2 : List ℕ) → Rep w2 s p m → Stands w2 q base t s p n bucket r.at m
  stays e w2 h =
      record {
        known = known_kept w' w2 q s p n bucket m m k (record { points = refl; used = refl; bucket = refl; locked = refl }) h;
        log = log_at base t at r.at m e l;
      }

  pub once_none : first_crossing m u v ≡ none → r.made ≡ false → r.short ≡ false → r.at ≡ at → FlipOnceTo w' q base t s p n bucket u v m r
  once_none c f g e = stuck (first_none u v m c) f g (stays e w' k.rep)

  module _ (a b : ℕ) (c : FirstAt m n u v a b) (room : Bool) (fits : FitsIs base t at room) (w2 : List ℕ) (x : Turned) (to : FlipTo w2 s p m (flip m (key a b)) room x) where
    pub once_not : x ≡ Not → r.made ≡ false → r.short ≡ false → r.at ≡ at → FlipOnceTo w2 q base t s p n bucket u v m r
    once_not y f g e =
        let o = flip_not w2 s p m (flip m (key a b)) room x to y in
        stuck (first_some u v m a b c.up c.is ∙ o.is) f g (stays e w2 o.rep)

    pub once_short : x ≡ Short → r.made ≡ false → r.short ≡ true → r.at ≡ at → FlipOnceTo w2 q base t s p n bucket u v m r
    once_short y f g e =
        let o = flip_full w2 s p m (flip m (key a b)) room x to y in
        let notes = flip_notes_up m a b o.mesh c.up o.is in
        short o.mesh (first_some u v m a b c.up c.is ∙ o.is) (sym (fits m o.mesh (was_flipped (a, b)) l notes (flip_length (a, b))) ∙ o.full) f g
        (stays e w2 o.rep)

    -- the entry fits
    pub once_enters : (y : x ≡ Flipped) → Enters (was_flipped (a, b)) m (flip_yes w2 s p m (flip m (key a b)) room x to y).mesh
    once_enters y =
        let o = flip_yes w2 s p m (flip m (key a b)) room x to y in
        let notes = flip_notes_up m a b o.mesh c.up o.is in
        record { notes = notes; fits = sym (fits m o.mesh (was_flipped (a, b)) l notes (flip_length (a, b))) ∙ o.free }

    pub once_made : (y : x ≡ Flipped) → (t' : List ℕ) → Logged base t' r.at (flip_yes w2 s p m (flip m (key a b)) room x to y).mesh → r.made ≡ true
        → StaysBelow m a b r.from → FlipOnceTo w2 q base t' s p n bucket u v m r
    once_made y t' g f h =
        let o = flip_yes w2 s p m (flip m (key a b)) room x to y in
        let is = first_some u v m a b c.up c.is ∙ o.is in
        made o.mesh is (once_enters y).fits f
        (record { known = known_kept w' w2 q s p n bucket m o.mesh k (first_kept u v m o.mesh is) o.rep; log = g })
        (h o.mesh o.is u v c.none_below)

-- ---- the turns of recover

-- the end after k flips
abbrev ended : Bool → Bool → ℕ → Mesh → defined.Recovered
ended b c k m = record { there = b; short = c; flips = k; mesh = m }

module _ (u v : ℕ) (m : Mesh) (k : ℕ) where
  in_there : (n : ℕ) → has_edge m u v ≡ true → recover_in (suc n) k m u v ≡ ended true false k m
  unfolding recover_in
  in_there n h = rw (h, recover_in)

  in_stuck : (n : ℕ) → has_edge m u v ≡ false → flip_first m (first_crossing m u v) ≡ none → recover_in (suc n) k m u v ≡ ended false false k m
  unfolding recover_in
  in_stuck n h e = rw (h, e, recover_in)

  in_short : (n : ℕ) (m' : Mesh) → has_edge m u v ≡ false → flip_first m (first_crossing m u v) ≡ some m' → in_room m' ≡ false
      → recover_in (suc n) k m u v ≡ ended false true k m
  unfolding recover_in
  in_short n m' h e f = rw (h, e, f, recover_in)

  in_more : (n : ℕ) (m' : Mesh) → has_edge m u v ≡ false → flip_first m (first_crossing m u v) ≡ some m' → in_room m' ≡ true
      → recover_in (suc n) k m u v ≡ recover_in n (suc k) m' u v
  unfolding recover_in
  in_more n m' h e f = rw (h, e, f, recover_in)

  in_end : recover_in 0 k m u v ≡ ended (has_edge m u v) false k m
  unfolding recover_in
  in_end = refl

-- after k flips
pub record Going (w : List ℕ) (q : List Float) (base t : List ℕ) (s p n used : ℕ) (bucket : Float) (u v k at from : ℕ) (m₀ : Mesh) : Type 0 where
  pub mesh : Mesh
  pub below : NoneBelow mesh u v from
  pub stands : Stands w q base t s p n bucket at mesh
  pub given : mesh.used ≡ used
  pub locks : mesh.locked ≡ m₀.locked
  pub same : recover_in used 0 m₀ u v ≡ recover_in (used - k) k mesh u v

pub going_start : (w : List ℕ) (q : List Float) (base t : List ℕ) (s p n used : ℕ) (bucket : Float) (u v at : ℕ) (m : Mesh) → Known w q s p n bucket m → m.used ≡ used
    → Logged base t at m → Going w q base t s p n used bucket u v 0 at 0 m
going_start w q base t s p n used bucket u v at m k e l =
    let z : used ≡ used - 0 = omega arith in
    record { mesh = m; below = λ x y h z. omega (arith, h); stands = record { known = k; log = l }; given = e; locks = refl; same = ap (λ (i : ℕ). recover_in i 0 m u v) z }

one_less : (n k : ℕ) → k < n → n - k ≡ suc (n - (k + 1))
one_less n k h = omega arith

-- the answer after k flips
pub record Says (b c : Bool) (k at : ℕ) (r : Recovered) : Type 0 where
  pub there : r.there ≡ b
  pub short : r.short ≡ c
  pub flips : r.flips ≡ k
  pub place : r.at ≡ at

module _ (w : List ℕ) (q : List Float) (base t : List ℕ) (s p n used : ℕ) (bucket : Float) (u v k at from : ℕ) (m₀ : Mesh) (e₀ : m₀.used ≡ used) (few : k ≤ used)
    (g : Going w q base t s p n used bucket u v k at from m₀) where
  to_recover : (w' t' : List ℕ) (at' : ℕ) (b c : Bool) (r : Recovered) → recover_in (used - k) k g.mesh u v ≡ ended b c k g.mesh → Says b c k at' r
      → Stands w' q base t' s p n bucket at' g.mesh → RecoverTo w' q base t' s p n used 1 bucket (recover m₀ u v) r
  unfolding recover
  to_recover w' t' at' b c r z h f =
      let x : recover_in m₀.used 0 m₀ u v ≡ ended b c k g.mesh = ap (λ (i : ℕ). recover_in i 0 m₀ u v) e₀ ∙ (g.same ∙ z) in
      subst (λ (y : defined.Recovered). RecoverTo w' q base t' s p n used 1 bucket y r) (sym x)
      (record {
        there = h.there;
        short = h.short;
        flips = h.flips;
        few = omega (arith, few);
        known = f.known;
        same = g.given;
        log = log_at base t' at' r.at g.mesh h.place f.log;
      })

  more : k < used → recover_in (used - k) k g.mesh u v ≡ recover_in (suc (used - (k + 1))) k g.mesh u v
  more h = ap (λ (i : ℕ). recover_in i k g.mesh u v) (one_less used k h)

  pub going_end : used ≤ k → (r : Recovered) → Says (has_edge g.mesh u v) false k at r → RecoverTo w q base t s p n used 1 bucket (recover m₀ u v) r
  going_end h r e =
      let z : used - k ≡ 0 = omega arith in
      to_recover w t at (has_edge g.mesh u v) false r (ap (λ (i : ℕ). recover_in i k g.mesh u v) z ∙ in_end u v g.mesh k) e g.stands

  module _ (h : k < used) (x : Bool) (e : x ≡ has_edge g.mesh u v) where
    pub going_there : x ≡ true → (r : Recovered) → Says true false k at r → RecoverTo w q base t s p n used 1 bucket (recover m₀ u v) r
    going_there z r y = to_recover w t at true false r (more h ∙ in_there u v g.mesh k (used - (k + 1)) (sym e ∙ z)) y g.stands

    module _ (z : x ≡ false) (w' t' : List ℕ) (f : Flipping) (o : FlipOnceTo w' q base t' s p n bucket u v g.mesh f) where
      pub going_stuck : f.made ≡ false → (r : Recovered) → Says false f.short k f.at r → RecoverTo w' q base t' s p n used 1 bucket (recover m₀ u v) r
      going_stuck y r a = go o
        where
          go : FlipOnceTo w' q base t' s p n bucket u v g.mesh f → RecoverTo w' q base t' s p n used 1 bucket (recover m₀ u v) r
          go (stuck i m c d) =
              to_recover w' t' f.at false f.short r
              (more h ∙ in_stuck u v g.mesh k (used - (k + 1)) (sym e ∙ z) i ∙ ap (λ (b : Bool). ended false b k g.mesh) (sym c)) a d
          go (short m' i j m c d) =
              to_recover w' t' f.at false f.short r
              (more h ∙ in_short u v g.mesh k (used - (k + 1)) m' (sym e ∙ z) i j ∙ ap (λ (b : Bool). ended false b k g.mesh) (sym c)) a d
          go (made m' i j m d b) = never f.made m y

      pub going_on : f.made ≡ true → Going w' q base t' s p n used bucket u v (k + 1) f.at f.from m₀
      going_on y = go o
        where
          go : FlipOnceTo w' q base t' s p n bucket u v g.mesh f → Going w' q base t' s p n used bucket u v (k + 1) f.at f.from m₀
          go (stuck i m c d) = never f.made y m
          go (short m' i j m c d) = never f.made y m
          go (made m' i j m d b) =
              let kept = first_kept u v g.mesh m' i in
              let l : suc k ≡ k + 1 = omega arith in
              record {
                mesh = m';
                below = b;
                stands = d;
                given = kept.used ∙ g.given;
                locks = kept.locked ∙ g.locks;
                same =
                    g.same ∙ (more h ∙ in_more u v g.mesh k (used - (k + 1)) m' (sym e ∙ z) i j)
                    ∙ ap (λ (b : ℕ). recover_in (used - (k + 1)) b m' u v) l;
              }
