-- What an attempt hands back is the definition's.
use Rattle.std.specs.Prelude.{◌≡◌, ◌≤◌}
use Rattle.laws.specs.Kit.{ℕ, List, length, Float}
use Rattle.definition.specs.Counts.{Spent, Refusal, Placement, Shape, Recovery, Region, OddRegion, Want, of_points, of_slots, of_trace}
use Rattle.definition.specs.Cells.{Quad, Mesh, new_quad, born}
use Rattle.definition.specs.Attempt.{Attempt, placed, refused, ended}
use Rattle.rules.specs.declared.Rules.{Rules}
use Rattle.cells.specs.declared.counters.Counters.{Counters}
use Rattle.outcomes.specs.Ready.{Ready, Behind}
use Rattle.outcomes.specs.declared.Shortage.{Shortage}
use Rattle.outcomes.specs.declared.Shortage.TheVariants.{NoPoint, NoSlots, NoTrace}
use Rattle.outcomes.specs.declared.Kind.{Kind}
use Rattle.outcomes.specs.declared.Kind.TheVariants as kinds
use Rattle.outcomes.specs.declared.Placed.{Placed}
use Rattle.outcomes.specs.declared.End.{End}
use Rattle.outcomes.specs.declared.End.TheVariants as ends
use Rattle.outcomes.specs.declared.Tried.{Tried}

-- what was spent: so many insertions, trials and flips
abbrev pub spent : ℕ → ℕ → ℕ → Spent
spent n k f = record { insertions = n; trials = k; flips = f }

-- insertions alone, as before the first pair is tried
abbrev pub only_inserted : ℕ → Spent
only_inserted n = spent n 0 0

-- the end, the counters, the words of the trace, the insertions, the trials and the flips as handed in
pub record Plain (e : End) (c : Counters) (t n k f : ℕ) (r : Tried) : Type 0 where
  pub end : r.end ≡ e
  pub counters : r.counters ≡ c
  pub at : r.at ≡ t
  pub inserted : r.inserted ≡ n
  pub trials : r.trials ≡ k
  pub flips : r.flips ≡ f

-- the kind that stands for a refusal
abbrev pub kind_of : Refusal → Kind
kind_of Placement = kinds.Placement
kind_of Shape = kinds.InvalidQuad
kind_of Recovery = kinds.Recovery
kind_of Region = kinds.Region
kind_of OddRegion = kinds.OddRegion

-- the shortage that stands for a want of lent memory
abbrev pub shortage_of : Want → Shortage
shortage_of of_points = NoPoint
shortage_of of_slots = NoSlots
shortage_of of_trace = NoTrace

-- the end that stands for a refusal
unfoldable pub end_of : Refusal → End
end_of why = ends.Refused (kind_of why)

-- the end that stands for a want of lent memory
unfoldable pub end_for : Want → End
end_for wt = ends.Short (shortage_of wt)

-- the quad that was placed, in that round
abbrev pub quad_of : ℕ → Placed → Quad
quad_of round z = born round z.replaced (new_quad z.n0 z.n1 z.n2 z.n3)

-- the quad k was placed: its round is for the run to say
pub record Grew (k : Quad) (r : Tried) : Type 0 where
  pub placed : Placed
  pub end : r.end ≡ ends.Placed placed
  pub quad : quad_of k.round placed ≡ k
  pub few : placed.replaced ≤ 16384

-- what the attempt spent
abbrev pub spent_of : Tried → Spent
spent_of r = spent r.inserted r.trials r.flips

-- the slices and the counters stand for the mesh m after n was spent; c were the counters before
pub record Left (w' : List ℕ) (q q' : List Float) (rules : Rules) (c : Counters) (n : Spent) (m : Mesh) (r : Tried) : Type 0 where
  pub ready : Ready w' q' rules r.counters m
  pub spent : spent_of r ≡ n
  pub attempts : r.counters.attempts ≡ c.attempts
  pub behind : Behind q q' (length m.points)

-- the attempt's end, by cases
abbrev pub AttemptTo : List ℕ → List Float → List Float → Rules → Counters → Attempt → Tried → Type 0
AttemptTo w' q q' rules c (placed n m k) r = Grew k r × Left w' q q' rules c n m r
AttemptTo w' q q' rules c (refused why n m) r = (r.end ≡ end_of why) × Left w' q q' rules c n m r
AttemptTo w' q q' rules c (ended wt n m) r = (r.end ≡ end_for wt) × Left w' q q' rules c n m r

-- the mesh that the attempt leaves
abbrev pub attempt_mesh : Attempt → Mesh
attempt_mesh (placed n m k) = m
attempt_mesh (refused why n m) = m
attempt_mesh (ended wt n m) = m
