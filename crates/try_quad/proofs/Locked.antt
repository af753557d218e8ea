-- Which edges are locked stays through the side nodes of an end, and so does the round.
use mathlib.Core.Path.{◌≡◌, sym, ◌∙◌, subst}
use mathlib.Core.List.{List, [], ◌∷◌}
use Prim.Native.Nat.{ℕ}
use Rattle.definition.specs.Counts.{Spent}
use Rattle.definition.specs.Numbers.{Settings, Turn}
use Rattle.definition.specs.Cells.{Mesh, node_at, this_round}
use Rattle.definition.specs.Insertion.{Inserted, nowhere, inserted, full}
use Rattle.definition.specs.Attempt.{Stance, Sides, found, missing, overfull, sides_by, sides_from, side_nodes}
use Rattle.laws.specs.Bools.{cond_ok}
use Rattle.account.specs.Locks.{LockedAs}
use Rattle.account.proofs.Locks.{insert_locked}
use Rattle.account.specs.Valid.{Valid}
use Rattle.account.proofs.SameRound.{SidesRound, sides_rounds}
use Rattle.joints.specs.Table.{Locks}
use Rattle.traces.specs.Log.{Logged}
use Rattle.side_nodes.specs.Sides.{sides_mesh}
use Rattle.try_quad.specs.Tries.{LocksIn, LogsIn}

module _ (j : List ℕ) (n : Spent) (m : Mesh) (l : Locks j m.locked) where
  by_lock : (r : Inserted) → LockedAs m r → LocksIn j (sides_by n m r)
  unfolding sides_by
  by_lock nowhere e = l
  by_lock (inserted v m') e = subst (Locks j) (sym e) l
  by_lock (full w) e = l

  from_lock : (s : Settings) (f : Stance) (p : ℕ) (cs : List ℕ) → LocksIn j (sides_from s f n m p cs)
  unfolding sides_from
  from_lock s f p (c ∷ cs) = l
  from_lock s f p [] = cond_ok (LocksIn j) f.mismatch _ _ (λ z. by_lock _ (insert_locked s m f.seed (node_at m p) f.normal f.target)) (λ z. l)

  pub sides_lock : (s : Settings) (t : Turn) (f : Stance) (p other : ℕ) → LocksIn j (side_nodes s t f n m p other)
  unfolding side_nodes
  sides_lock s t f p other = from_lock s f p _

module _ (s : Settings) (m : Mesh) (ok : Valid m) where
  round_as : (x : Sides) → SidesRound s m ok x → this_round (sides_mesh x) ≡ this_round m
  round_as (found cs n a) h = h
  round_as (missing n a) h = h
  round_as (overfull w n a) h = h

  -- the trace of the mesh that the side nodes leave
  pub sides_log : {base t' : List ℕ} {at round : ℕ} (t : Turn) (f : Stance) (n : Spent) (p other : ℕ) → Logged base t' at (sides_mesh (side_nodes s t f n m p other)) → round ≡ this_round m
      → LogsIn base t' at round (side_nodes s t f n m p other)
  sides_log t f n p other l e = record { log = l; in_round = e ∙ sym (round_as (side_nodes s t f n m p other) (sides_rounds s m ok t f n p other)) }
