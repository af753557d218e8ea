-- The code's arguments in the definition's words.
use Rattle.std.specs.Prelude.{◌≡◌}
use Rattle.laws.specs.Kit.{refl, Bool, ℕ, List, [], length, replicate, Float}
use Rattle.std.proofs.lemmas.List.{length-replicate}
use Rattle.definition.specs.Floats.{0·0}
use Rattle.definition.specs.Plane.{Node}
use Rattle.definition.specs.Numbers.{Quality}
use Rattle.definition.specs.Call.{Asked, Lent}
use Rattle.rules.specs.Settings.{quality_of}
use Rattle.refusals.specs.declared.Stated.{Stated}
use Rattle.refusals.specs.declared.Room.{Room}

-- the numbers that the caller states
abbrev pub asked_for : ℕ → ℕ → ℕ → ℕ → ℕ → Float → ℕ → Quality → Bool → Asked
asked_for given capacity count slots joints size stop quality grid =
    record { given = given; capacity = capacity; count = count; slots = slots; joints = joints; size = size; stop = stop; quality = quality; grid = grid }

-- as the code has them
abbrev pub asked : Stated → Asked
asked a = asked_for a.given a.capacity a.count a.slots a.joints a.size a.stop (quality_of a.quality) a.grid

-- a point by its coordinates
abbrev pub spot : Float → Float → Float → Node
spot x y z = record { x = x; y = y; z = z }

-- lent slices with these points, triangles and joints, the others with these lengths
pub record Lends (l : Lent) (ps : List Float) (ts js : List ℕ) (n : Room) : Type 0 where
  pub points : l.points ≡ ps
  pub triangles : l.triangles ≡ ts
  pub joints : l.joints ≡ js
  pub quads : length l.quads ≡ n.quads
  pub triangles_out : length l.triangles_out ≡ n.out
  pub components : length l.components ≡ n.components
  pub work : length l.work ≡ n.work
  pub float_work : length l.float_work ≡ n.floats

-- there are some, for any lengths
abbrev pub blank : List Float → List ℕ → List ℕ → Room → Lent
blank ps ts js n =
    record {
      points = ps;
      triangles = ts;
      joints = js;
      quads = replicate n.quads 0;
      triangles_out = replicate n.out 0;
      components = replicate n.components 0;
      work = replicate n.work 0;
      float_work = replicate n.floats 0·0;
      trace = [];
    }

pub blank_lends : (ps : List Float) (ts js : List ℕ) (n : Room) → Lends (blank ps ts js n) ps ts js n
blank_lends ps ts js n =
    record {
      points = refl;
      triangles = refl;
      joints = refl;
      quads = length-replicate n.quads 0;
      triangles_out = length-replicate n.out 0;
      components = length-replicate n.components 0;
      work = length-replicate n.work 0;
      float_work = length-replicate n.floats 0·0;
    }
