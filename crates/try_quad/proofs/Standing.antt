-- How an attempt stands, from what the code measures.
use mathlib.Core.Path.{◌≡◌, refl, ap, sym, ◌∙◌, subst}
use mathlib.Core.Bool.{Bool, true, false, cond}
use mathlib.Core.List.{List, [], ◌∷◌}
use Prim.Native.Nat.{ℕ, suc, ◌<◌, ◌≤◌}
use native.Mathlib.Omega.{arith}
use lib.Ieee.{Float}
use Rattle.definition.specs.Counts.{Spent, nothing_spent, inserting, Placement}
use Rattle.definition.specs.Floats.{◌≼◌}
use Rattle.definition.specs.Numbers.{Settings, Turn, first_turn, tiny_length}
use Rattle.definition.specs.Plane.{Vec, from_to, norm, dist, edge_length, size_mismatch}
use Rattle.definition.specs.Cells.{Mesh, node_at, this_round}
use Rattle.definition.specs.Call.{point_at, first_points}
use Rattle.definition.specs.Candidates.{candidates}
use Rattle.definition.specs.Insertion.{Inserted, nowhere, inserted, full, insert_along}
use Rattle.definition.specs.Attempt.{Attempt, refused, Stance, Sides, found, missing, overfull, sides_by, sides_from, side_nodes, try_first, target_of, inward_normal, stance, try_along}
use Rattle.laws.specs.Frames.{stays_refl, stays_trans}
use Rattle.rules.specs.declared.Rules.{Rules}
use Rattle.rules.specs.Settings.{settings_of}
use Rattle.cells.specs.Layout.{near_at, refused_at}
use Rattle.cells.specs.declared.counters.Counters.{Counters}
use Rattle.plane.specs.Points.{Within, node_of, edge_length_of}
use Rattle.edge_candidates.specs.Wanted.{turn}
use Rattle.traces.specs.Log.{Logged}
use Rattle.outcomes.specs.Ready.{Ready}
use Rattle.outcomes.specs.Ends.{only_inserted, Plain, AttemptTo, attempt_mesh, end_of}
use Rattle.outcomes.specs.declared.Kind.TheVariants as kinds
use Rattle.outcomes.specs.declared.End.TheVariants as ends
use Rattle.outcomes.specs.declared.Tried.{Tried}
use Rattle.side_nodes.specs.Sides.{CanSeek, SidesAre, SidesTo}
use Rattle.side_nodes.specs.declared.side.Side.{Side}
use Rattle.pairs.proofs.Orders.{spent_is}
use Rattle.meshes.proofs.Valid.{valid}
use Rattle.try_quad.specs.Tries.{CanAttempt, TriedTo, Ends, Stands, First, LogsIn}
use Rattle.try_quad.proofs.Locked.{sides_log}

-- ---- the insertions

-- how many insertions there were
abbrev count_of : Sides → ℕ
count_of (found cs n m) = n.insertions
count_of (missing n m) = n.insertions
count_of (overfull o n m) = n.insertions

cond_few : (b : Bool) (x y : Sides) (k : ℕ) → count_of x ≤ k → count_of y ≤ k → count_of (cond b x y) ≤ k
cond_few true x y k h l = h
cond_few false x y k h l = l

by_few : (n : Spent) (m : Mesh) (i : Inserted) → count_of (sides_by n m i) ≤ suc n.insertions
unfolding sides_by inserting
by_few n m nowhere = omega arith
by_few n m (inserted v m') = omega arith
by_few n m (full o) = omega arith

from_few : (g : Settings) (f : Stance) (n : Spent) (m : Mesh) (a : ℕ) (cs : List ℕ) → count_of (sides_from g f n m a cs) ≤ suc n.insertions
unfolding sides_from
from_few g f n m a (c ∷ cs) = omega arith
from_few g f n m a [] = cond_few f.mismatch _ _ (suc n.insertions) (by_few n m (insert_along g m f.seed (node_at m a) f.normal f.target)) (omega arith)

sides_few : (g : Settings) (t : Turn) (f : Stance) (n : Spent) (m : Mesh) (a other : ℕ) → count_of (side_nodes g t f n m a other) ≤ suc n.insertions
unfolding side_nodes
sides_few g t f n m a other = from_few g f n m a (candidates g.quality t m a other f.seed f.normal f.target)

counted_by : (w : List ℕ) (q q' : List Float) (rules : Rules) (at : ℕ) (c : Counters) (x : Sides) (r : Side) → SidesAre w q q' rules at c x r → r.inserted ≡ count_of x
counted_by w q q' rules at c (found cs n m) r h = ap (λ z. z.insertions) h.1.spent
counted_by w q q' rules at c (missing n m) r h = ap (λ z. z.insertions) h.1.spent
counted_by w q q' rules at c (overfull wt n m) r h = ap (λ z. z.insertions) h.1.spent

-- ---- an attempt that ends before anything is done

pub refused_at_once : (w : List ℕ) (q : List Float) (base tr : List ℕ) (at : ℕ) (rules : Rules) (c : Counters) (m : Mesh) → Ready w q rules c m → Logged base tr at m
    → (t : Tried) → Plain (ends.Refused kinds.Placement) c at 0 0 0 t
    → (x : Attempt) → x ≡ refused Placement nothing_spent m → TriedTo w w q q base tr rules c x t
unfolding end_of nothing_spent
refused_at_once w q base tr at rules c m y l t k x e =
    subst (λ (z : Attempt). TriedTo w w q q base tr rules c z t) (sym e) (record {
      is = (
        k.end,
        record {
          ready = subst (λ (d : Counters). Ready w q rules d m) (sym k.counters) y;
          spent = spent_is 0 0 0 t k.inserted k.trials k.flips;
          attempts = ap (λ (d : Counters). d.attempts) k.counters;
          behind = record { len = refl; rest = refl };
        },
      );
      beyond = stays_refl w (refused_at rules.lay.slots rules.lay.points) (near_at rules.lay.slots rules.lay.points);
      log = subst (λ (z : ℕ). Logged base tr z m) (sym k.at) l;
    })

-- ---- what the target goes by

pub sized : (rules : Rules) → (settings_of rules).size ≡ rules.size
unfolding settings_of
sized rules = refl

-- ---- what was measured

module _ (w : List ℕ) (q : List Float) (rules : Rules) (c : Counters) (u v : ℕ) (m : Mesh) (h : CanAttempt w q rules c u v m) where
  pub points_are : m.points ≡ first_points c.points q
  points_are = h.ready.pts.are ∙ ap (λ (z : ℕ). first_points z q) (sym h.ready.counted.points)

  pub known_within : (x : ℕ) → x < c.points → Within q x
  known_within x l = let y = h.ready in omega (arith, l, y.counted.points, y.pts.few, y.pts.fits)

  module _ (a b seed : ℕ) (d : Ends c.points u v a b) (hs : seed < rules.lay.slots) where
    -- with the offset that was computed
    pub seek_near : {na : ℕ} → na ≡ near_at rules.lay.slots rules.lay.points → CanSeek w q rules c na a b seed 0 m
    seek_near en =
        subst (λ (z : ℕ). CanSeek w q rules c z a b seed 0 m) (sym en)
        (record { ready = h.ready; first = d.first; second = d.second; apart = d.apart; seeded = hs; from = omega arith; to = omega arith; few = omega arith })

    module _ (span : Float) (es : span ≡ dist (point_at q b) (point_at q a)) (tangent : Vec) (et : tangent ≡ from_to (point_at q a) (point_at q b))
        (long : Float) (el : long ≡ norm tangent) (target : Float) (eg : target ≡ target_of (settings_of rules) span) where
      span_is : edge_length m.points (a, b) ≡ span
      span_is = ap (λ ps. edge_length ps (a, b)) points_are ∙ edge_length_of c.points q a b d.first d.second ∙ sym es

      tangent_is : from_to (node_at m a) (node_at m b) ≡ tangent
      tangent_is = ap (λ o. from_to o (node_at m b)) (node_of m c.points q points_are a d.first) ∙ ap (from_to (point_at q a)) (node_of m c.points q points_are b d.second) ∙ sym et

      long_is : norm (from_to (node_at m a) (node_at m b)) ≡ long
      long_is = ap norm tangent_is ∙ sym el

      target_is : target_of (settings_of rules) (edge_length m.points (a, b)) ≡ target
      target_is = ap (target_of (settings_of rules)) span_is ∙ sym eg

      pub stands : (normal : Vec) (off : Bool) → normal ≡ inward_normal tangent long → off ≡ size_mismatch span target
          → Stands (stance (settings_of rules) m (u, v) seed a b) u v a b seed normal target off
      unfolding stance settings_of
      stands normal off en eo =
          record {
            edge = refl;
            first = refl;
            second = refl;
            goes = record {
              from = refl;
              along = ap (λ o. inward_normal o (norm o)) tangent_is ∙ ap (inward_normal tangent) (sym el) ∙ sym en;
              far = target_is;
              off = ap (λ o. size_mismatch o (target_of (settings_of rules) o)) span_is ∙ ap (size_mismatch span) (sym eg) ∙ sym eo;
            };
          }

      pub short_target : (target ≼ tiny_length) ≡ true → try_along (settings_of rules) m (u, v) seed a b ≡ refused Placement nothing_spent m
      unfolding try_along stance settings_of
      short_target z = rw (target_is, z)

      pub short_edge : (target ≼ tiny_length) ≡ false → (long ≼ tiny_length) ≡ true → try_along (settings_of rules) m (u, v) seed a b ≡ refused Placement nothing_spent m
      unfolding try_along stance settings_of
      short_edge z y = rw (target_is, z, long_is, y)

      pub goes_on : (target ≼ tiny_length) ≡ false → (long ≼ tiny_length) ≡ false
          → try_along (settings_of rules) m (u, v) seed a b
          ≡ try_first (settings_of rules) (stance (settings_of rules) m (u, v) seed a b) (side_nodes (settings_of rules) first_turn (stance (settings_of rules) m (u, v) seed a b) (only_inserted 0) m a b)
      unfolding try_along settings_of nothing_spent
      goes_on z y =
          let f = stance (settings_of rules) m (u, v) seed a b in
          let ef : f.target ≡ target = (stands (inward_normal tangent long) (size_mismatch span target) refl refl).goes.far in
          rw (ef, z, long_is, y)

    -- the first end's side nodes
    module _ (f : Stance) {na : ℕ} {w' : List ℕ} {q' : List Float} {base t' : List ℕ} {near : Side} (en : na ≡ near_at rules.lay.slots rules.lay.points)
        (z₀ : SidesTo w w' q q' base t' rules na c (side_nodes (settings_of rules) (turn true) f (only_inserted 0) m a b) near) where
      z : SidesTo w w' q q' base t' rules (near_at rules.lay.slots rules.lay.points) c (side_nodes (settings_of rules) (turn true) f (only_inserted 0) m a b) near
      z = subst (λ (n : ℕ). SidesTo w w' q q' base t' rules n c (side_nodes (settings_of rules) (turn true) f (only_inserted 0) m a b) near) en z₀

      pub first_of : First w' q q' rules c u v a b seed near (side_nodes (settings_of rules) (turn true) f (only_inserted 0) m a b)
      first_of =
          record {
            is = z.is;
            ends = d;
            seeded = hs;
            few = omega (arith, counted_by w' q q' rules (near_at rules.lay.slots rules.lay.points) c (side_nodes (settings_of rules) (turn true) f (only_inserted 0) m a b) near z.is, sides_few (settings_of rules) (turn true) f (only_inserted 0) m a b);
            pairs = h.pairs;
          }

      pub first_log : {round : ℕ} → round ≡ this_round m → LogsIn base t' near.at round (side_nodes (settings_of rules) (turn true) f (only_inserted 0) m a b)
      first_log e = sides_log (settings_of rules) m (valid w rules.lay.slots rules.lay.points m h.ready.rep) (turn true) f (only_inserted 0) a b z.log e

      pub along_to : {w2 : List ℕ} {q2 : List Float} {t2 : List ℕ} {t : Tried} {x y : Attempt} → x ≡ y → TriedTo w' w2 q q2 base t2 rules c y t → TriedTo w w2 q q2 base t2 rules c x t
      along_to {w2} {q2} {t2} {t} e k =
          record {
            is = subst (λ (o : Attempt). AttemptTo w2 q q2 rules c o t) (sym e) k.is;
            beyond = stays_trans w w' w2 (refused_at rules.lay.slots rules.lay.points) (near_at rules.lay.slots rules.lay.points) (record { len = z.len; same = z.before }) k.beyond;
            log = subst (λ (o : Attempt). Logged base t2 t.at (attempt_mesh o)) (sym e) k.log;
          }
